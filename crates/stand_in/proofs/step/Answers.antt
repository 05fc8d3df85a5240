use mathlib.Core.Path.{◌≡◌, refl, sym, ◌∙◌}
use native.Mathlib.Omega.{arith}
use lib.ListN.{length}
use mir.Syntax.{w64}
use mir.Facts.{to_z_pos}
use Rattle.records.specs.Records.{refusal_number}
use Rattle.records.proofs.Refusals.{number_some}
use Rattle.mcp2515.specs.Step.{step_of}
use Rattle.mcp2515.specs.ChipImage.{chip_of}
use Rattle.bus_log.proofs.Advance.{one_refused}
use Rattle.bus_log.proofs.Helds.{no_chip, held_chip, held_none}
use Rattle.bus_log.proofs.Steps.{one_step}
use Rattle.stand_in.specs.StandIn.{record_refusal, step_result}
use Rattle.stand_in.proofs.Calls.{told, whole_sizes, size_most, step_is_run, step_refused}
use borrow.Author.Rules.{rules}
use Rattle.stand_in.proofs.step.Goals as goal

pub returns-in_default : goal.returns-in_default
returns-in_default c =
    step_refused c.args.wanted c.args.chip.now c.args.«record».now c.args.answer.now 21 _ (no_chip c.args.chip.now _ c.in_default.ensures.is.1) (omega arith)
    (told (record { sfits = c.refused.type_inv }) c.refused.ensures)

pub returns-in-Err : goal.returns-in-Err
returns-in-Err c =
    rw c.in-Some.ensures.value
    (step_refused c.args.wanted c.args.chip.now c.args.«record».now c.args.answer.now (refusal_number c.in-Err.refusal) _
    (held_chip c.args.chip.now _ (c.in-Some.ensures.is.0 refl) ∙ sym c.in-Err.ensures) (omega (arith, number_some c.in-Err.refusal))
    (told (record { sfits = c.refused-in-Err.type_inv }) c.refused-in-Err.ensures))

pub overflow_cast-result : goal.overflow_cast-result
overflow_cast-result c =
    let size = c.answer_size.ensures in
    let most = size_most c.args.wanted in
    search rules

pub returns : goal.returns
unfolding step_result
returns c =
    let none : record_refusal c.args.wanted (length c.args.«record».now) (length c.args.answer.now) ≡ 0 = sym c.in_default-check_record.ensures in
    let held = held_none c.args.chip.now _ (c.in-Some.ensures.is.0 refl) none in
    let whole = (whole_sizes c.args.wanted (length c.args.«record».now) (length c.args.answer.now) none).0 in
    let same = step_is_run c.args.wanted c.args.chip.now c.args.«record».now c.args.answer.now whole in
    let ran = rw c.in-Some.ensures.value at c.run_from.ensures in
    let small = size_most c.args.wanted in
    record {
      result = rw (held, ← c.answer_size.ensures) (to_z_pos w64 (omega (arith, c.answer_size.ensures)));
      buffer = ran.buffer ∙ sym same.1;
      chip = rw (same.0, same.2) ran.chip;
      kept = λ h. ran.kept (rw (one_step (chip_of c.args.chip.now) c.args.«record».now whole) (one_refused (step_of (chip_of c.args.chip.now) c.args.«record».now) h));
      run = step_is_run;
    }
