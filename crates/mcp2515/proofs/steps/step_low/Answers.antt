use native.Mathlib.Omega.{arith}
use mathlib.Core.Path.{refl, sym, ◌∙◌}
use Rattle.std.proofs.Common.{rules}
use Rattle.records.specs.declared.Kind.TheVariants.{SelectLow}
use Rattle.mcp2515.specs.ChipImage.{chip_of}
use Rattle.mcp2515.proofs.Sides.{unsound_step, refused_told, refused_moved, passes, low_accepted, low_refused}
use Rattle.mcp2515.proofs.steps.step_low.Goals as goal

pub returns-in_err-check_fields : goal.returns-in_err-check_fields
returns-in_err-check_fields c =
    let e = unsound_step (chip_of c.args.image.now) c.args.fields SelectLow _ c.requires refl c.in_err-check_fields.ensures in
    record { told = search (rules, refused_told _ _ _ e); moved = refused_moved c.args.image.now _ _ (omega arith) e; refused_kept = λ _. refl }

pub returns-then-image-number : goal.returns-then-image-number
returns-then-image-number c =
    low_accepted c.args.image.now c.args.fields (omega arith) c.requires (passes c.in_ok-check_fields.ensures) (c.if-image-number.true ∙ c.number.ensures) c.accept.ensures c.«open».ensures

pub returns : goal.returns
returns c = low_refused c.args.image.now c.args.fields (omega arith) c.requires (passes c.in_ok-check_fields.ensures) _ refl (λ z. c.if-image-number.false (z ∙ sym c.number.ensures))
