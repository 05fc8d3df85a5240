use mathlib.Core.Path.{sym, ap₂, ◌∙◌}
use Rattle.spi.specs.declared.Select.TheVariants.{Lowered}
use Rattle.spi.proofs.Numbered.{lowered}
use Rattle.spi.proofs.lines.select_of.Goals as goal

pub returns-then-image-number : goal.returns-then-image-number
returns-then-image-number c = rw (c.if-image-number.true ∙ c.number.ensures)

pub returns : goal.returns
returns c =
    ap₂ Lowered c.from-speaker.ensures c.instruction_by.ensures
    ∙ sym (lowered _ _ _ _ (λ e. c.if-image-number.false (e ∙ sym c.number.ensures)) (sym c.from-stage.ensures))
