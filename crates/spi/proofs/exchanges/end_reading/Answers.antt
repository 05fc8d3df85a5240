use native.Mathlib.Omega.{arith}
use mathlib.Core.Path.{◌≡◌, refl, sym, ◌∙◌}
use denote.Enum.Bare.{same_true, same_false}
use Rattle.std.proofs.Common.{rules}
use Rattle.image.specs.Image.{decoded}
use Rattle.image.proofs.Laws.{unmarked, mark_one, marked}
use Rattle.spi.specs.contracts.Speaker.{the_type}
use Rattle.spi.specs.declared.Speaker.TheVariants.{Controller}
use Rattle.spi.specs.Open.{instruction_by, speaker_of}
use Rattle.spi.proofs.Numbered.{staged}
use Rattle.spi.proofs.Turns.{clears_second, by_panel, quiet_high}
use Rattle.spi.proofs.exchanges.end_reading.Goals as goal

pub returns-then-eq : goal.returns-then-eq
unfolding decoded instruction_by
returns-then-eq c =
    let e : speaker_of c.args.image.now ≡ Controller = sym c.from-in-ReadingRxb0.ensures ∙ same_true the_type (search rules) _ _ (sym c.if-eq.ensures) in
    rw (staged _ _ _ (sym c.from.ensures ∙ c.in-ReadingRxb0.is), e, c.clear.ensures)
    (marked (mark_one (unmarked c.args.image.now (omega arith)) 130 _ (omega arith) (omega arith)) _ refl)

pub returns-else-eq : goal.returns-else-eq
unfolding instruction_by
returns-else-eq c =
    rw (staged _ _ _ (sym c.from.ensures ∙ c.in-ReadingRxb0.is), by_panel (speaker_of c.args.image.now) (λ e. same_false the_type _ _ (sym c.if-eq.ensures) (c.from-in-ReadingRxb0.ensures ∙ e)))
    (record { size = omega arith; core = refl; rest = refl })

pub returns-in-ReadingRxb1 : goal.returns-in-ReadingRxb1
unfolding decoded instruction_by
returns-in-ReadingRxb1 c =
    rw (staged _ _ _ (sym c.from.ensures ∙ c.in-ReadingRxb1.is), c.clear-in-ReadingRxb1.ensures, clears_second (speaker_of c.args.image.now))
    (marked (mark_one (unmarked c.args.image.now (omega arith)) 130 _ (omega arith) (omega arith)) _ refl)

pub returns-in_default : goal.returns-in_default
returns-in_default c =
    rw (staged _ _ _ (sym c.from.ensures), quiet_high (speaker_of c.args.image.now) c.from.result _ _ c.in_default.not-ReadingRxb0 c.in_default.not-ReadingRxb1)
    (record { size = omega arith; core = refl; rest = refl })
