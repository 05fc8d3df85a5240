use native.Mathlib.Omega.{arith}
use mathlib.Core.Path.{refl, ap, ◌∙◌}
use Rattle.std.proofs.Common.{rules}
use Rattle.records.specs.declared.Kind.TheVariants.{Exchange}
use Rattle.mcp2515.specs.ChipImage.{chip_of, told}
use Rattle.mcp2515.proofs.Sides.{unsound_step, refused_told, refused_moved, passes, exchange_refused, exchange_low, exchange_accepted}
use Rattle.mcp2515.proofs.steps.step_exchange.Goals as goal

pub returns-in_err-check_fields : goal.returns-in_err-check_fields
returns-in_err-check_fields c =
    let e = unsound_step (chip_of c.args.image.now) c.args.fields Exchange _ c.requires refl c.in_err-check_fields.ensures in
    record { told = search (rules, refused_told _ _ _ e); moved = refused_moved c.args.image.now _ _ (omega arith) e; refused_kept = λ _. refl }

pub returns-in_err-check_line : goal.returns-in_err-check_line
returns-in_err-check_line c =
    let e = exchange_refused c.args.image.now c.args.fields c.requires (passes c.in_ok-check_fields.ensures) _ c.in_err-check_line.ensures in
    record { told = search (rules, refused_told _ _ _ e); moved = refused_moved c.args.image.now _ _ (omega arith) e; refused_kept = λ _. refl }

pub returns : goal.returns
returns c =
    let sound = passes c.in_ok-check_fields.ensures in
    let line = c.in_ok-check_line.ensures in
    let x = c.exchange.ensures in
    let low = exchange_low c.args.image.now c.args.fields c.requires sound line in
    exchange_accepted c.args.image.now c.args.fields c.requires sound line (c.accept.ensures ∙ ap told (x.reply low)) (x.turned low)
