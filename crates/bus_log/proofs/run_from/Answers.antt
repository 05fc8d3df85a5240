use mathlib.Core.Path.{◌≡◌, refl, sym, ◌∙◌}
use native.Mathlib.Omega.{arith}
use lib.ListN.{length}
use mir.Syntax.{w64}
use mir.Facts.{to_z_pos}
use Rattle.records.proofs.Refusals.{number_some}
use Rattle.mcp2515.specs.ChipImage.{chip_of}
use Rattle.bus_log.specs.Log.{records_in}
use Rattle.bus_log.specs.Run.{run_refusal}
use Rattle.bus_log.specs.From.{from_result, from_answers}
use Rattle.bus_log.proofs.Answers.{answers_first}
use Rattle.bus_log.proofs.Helds.{no_chip, held_chip, held_none, held_moved}
use Rattle.bus_log.proofs.Parts.{from_power_on, runs_join, record_by_record, refused_from}
use Rattle.bus_log.proofs.Refusals.{accepted, minus_told}
use Rattle.bus_log.proofs.run_from.Goals as goal

pub returns-in_default : goal.returns-in_default
returns-in_default c =
    refused_from c.args.wanted c.args.chip.now c.args.log.now c.args.answers.now 21 _ (no_chip c.args.chip.now _ c.in_default.ensures.is.1) (omega arith)
    (minus_told (record { sfits = c.minus.type_inv }) c.minus.ensures c.number.ensures)

pub returns-in-Err : goal.returns-in-Err
returns-in-Err c =
    rw c.in-Some.ensures.value
    (refused_from c.args.wanted c.args.chip.now c.args.log.now c.args.answers.now _ _
    (held_chip c.args.chip.now _ (c.in-Some.ensures.is.0 refl) ∙ sym c.in-Err.ensures) (omega (arith, number_some c.in-Err.refusal))
    (minus_told (record { sfits = c.minus-in-Err.type_inv }) c.minus-in-Err.ensures c.number-in-Err.ensures))

pub run_records-requires : goal.run_records-requires
run_records-requires c = (accepted _ _ _ (sym c.in_default-run_refusal.ensures)).room

pub returns : goal.returns
unfolding from_result from_answers
returns c =
    let none : run_refusal c.args.wanted (length c.args.log.now) (length c.args.answers.now) ≡ 0 = sym c.in_default-run_refusal.ensures in
    let is = c.in-Some.ensures.is.0 refl in
    let held = held_none c.args.chip.now _ is none in
    let ran = rw c.in-Some.ensures.value at c.run_records.ensures in
    let n = records_in (length c.args.log.now) in
    record {
      result = rw held (to_z_pos w64 (omega arith));
      buffer = rw held (ran.answers_after ∙ answers_first c.args.wanted n (chip_of c.args.chip.now) c.args.log.now c.args.answers.now (accepted _ _ _ none).room);
      chip = held_moved is held ran.moved;
      kept = ran.refused_stay;
      power_on = from_power_on;
      join = runs_join;
      singly = record_by_record;
    }
