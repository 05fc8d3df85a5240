use native.Mathlib.Omega.{arith}
use mathlib.Core.Bool.{true, false}
use mathlib.Core.Path.{◌≡◌, refl, sym, ◌∙◌}
use Rattle.spi.specs.Instructions.{goes_on}
use Rattle.spi.specs.Open.{speaker_of, open_of}
use Rattle.spi.proofs.Panel.{goes_at}
use Rattle.spi.proofs.Turns.{stayed}
use Rattle.spi.proofs.exchanges.exchange_by.Goals as goal

pub returns-then-goes_on : goal.returns-then-goes_on
returns-then-goes_on c =
    let e : goes_on (speaker_of c.args.image.now) (open_of c.args.image.now) ≡ true =
    sym (goes_at _ _ _ c.from-speaker.ensures c.from-stage.ensures) ∙ sym c.goes_on.ensures
    ∙ c.if-goes_on.true in
    rw e record { value = c.exchange_open.ensures.value; turned = c.exchange_open.ensures.turned }

pub returns : goal.returns
returns c =
    let e : goes_on (speaker_of c.args.image.now) (open_of c.args.image.now) ≡ false =
    sym (goes_at _ _ _ c.from-speaker.ensures c.from-stage.ensures) ∙ sym c.goes_on.ensures ∙ c.if-goes_on.false in
    rw e record { value = refl; turned = stayed c.args.image.now (open_of c.args.image.now) (omega arith) c.requires refl }
