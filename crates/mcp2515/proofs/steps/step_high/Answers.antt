use native.Mathlib.Omega.{arith}
use mathlib.Core.Path.{refl}
use Rattle.std.proofs.Common.{rules}
use Rattle.records.specs.declared.Kind.TheVariants.{SelectHigh}
use Rattle.mcp2515.specs.ChipImage.{chip_of}
use Rattle.mcp2515.proofs.Sides.{unsound_step, refused_told, refused_moved, passes, high_refused, high_accepted}
use Rattle.mcp2515.proofs.steps.step_high.Goals as goal

pub returns-in_err-check_fields : goal.returns-in_err-check_fields
returns-in_err-check_fields c =
    let e = unsound_step (chip_of c.args.image.now) c.args.fields SelectHigh _ c.requires refl c.in_err-check_fields.ensures in
    record { told = search (rules, refused_told _ _ _ e); moved = refused_moved c.args.image.now _ _ (omega arith) e; refused_kept = λ _. refl }

pub returns-in_err-check_line : goal.returns-in_err-check_line
returns-in_err-check_line c =
    let e = high_refused c.args.image.now c.args.fields c.requires (passes c.in_ok-check_fields.ensures) _ c.in_err-check_line.ensures in
    record { told = search (rules, refused_told _ _ _ e); moved = refused_moved c.args.image.now _ _ (omega arith) e; refused_kept = λ _. refl }

pub returns : goal.returns
returns c =
    high_accepted c.args.image.now c.args.fields c.requires (passes c.in_ok-check_fields.ensures) c.in_ok-check_line.ensures c.accept.ensures c.close.ensures
