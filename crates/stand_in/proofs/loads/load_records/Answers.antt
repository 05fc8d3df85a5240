use mathlib.Core.Path.{sym, ap, ◌∙◌}
use Prim.Native.Nat.{◌/◌}
use native.Mathlib.Omega.{arith}
use mir.Syntax.{w64}
use mir.Facts.{to_z_pos}
use lib.IntN.{pos}
use Rattle.load_rules.specs.Load.{verdict_in}
use Rattle.stand_in.proofs.Calls.{told}
use Rattle.stand_in.proofs.Loading.{records_refused, records_short, records_stored}
use Rattle.stand_in.proofs.loads.load_records.Goals as goal

pub returns-then-is_refused : goal.returns-then-is_refused
returns-then-is_refused c =
    let ran = rw c.unpack-before.ensures at c.run-counted.ensures in
    records_refused c.args.image.now _ _ c.requires _ (c.verdict_in-verdict.ensures ∙ ap verdict_in ran.stage) _ _
    (told (record { sfits = c.result_of.type_inv }) c.result_of.ensures) (sym c.is_refused.ensures ∙ c.if-is_refused.true)

pub returns-then-records-counted : goal.returns-then-records-counted
returns-then-records-counted c =
    let ran = rw c.unpack-before.ensures at c.run-counted.ensures in
    records_short c.args.image.now _ _ c.requires _ (c.verdict_in-verdict.ensures ∙ ap verdict_in ran.stage) _ c.run-counted.result.sent (omega (arith, ran.sent, ran.size))
    (sym c.is_refused.ensures ∙ c.if-is_refused.false) _ (told (record { sfits = c.refused.type_inv }) c.refused.ensures) c.if-records-counted.true

pub returns : goal.returns
returns c =
    let ran = rw c.unpack-before.ensures at c.run-counted.ensures in
    let again = rw c.unpack-before.ensures at c.run.ensures in
    records_stored c.args.image.now _ _ c.requires _ (c.verdict_in-verdict.ensures ∙ ap verdict_in ran.stage) _ c.run-counted.result.sent (omega (arith, ran.sent, ran.size))
    (sym c.is_refused.ensures ∙ c.if-is_refused.false) _ _ (to_z_pos w64 {n = c.run-counted.result.sent / 16} (omega arith) ∙ ap pos (omega (arith, ran.sent))) c.if-records-counted.false again.records
