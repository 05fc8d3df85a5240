use mathlib.Core.Path.{sym, ◌∙◌}
use Rattle.stand_in.proofs.Calls.{told}
use Rattle.stand_in.proofs.Loading.{load_refused, load_taken}
use Rattle.stand_in.proofs.loads.load_profile.Goals as goal

pub returns-then-is_refused : goal.returns-then-is_refused
returns-then-is_refused c =
    let loaded = rw c.unpack-before.ensures at c.load-loaded.ensures in
    load_refused c.args.image.now _ _ c.requires _ loaded.verdict _ (told (record { sfits = c.result_of.type_inv }) c.result_of.ensures)
    (sym c.is_refused.ensures ∙ c.if-is_refused.true)

pub returns : goal.returns
returns c =
    let loaded = rw c.unpack-before.ensures at c.load-loaded.ensures in
    load_taken c.args.image.now _ _ c.requires _ loaded.verdict _ _ _ (told (record { sfits = c.result_of-2.type_inv }) c.result_of-2.ensures)
    (sym c.is_refused.ensures ∙ c.if-is_refused.false) loaded.chip c.put_chip.ensures
