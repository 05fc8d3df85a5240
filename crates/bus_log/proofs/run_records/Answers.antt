use native.Mathlib.Omega.{arith}
use mathlib.Core.Path.{◌≡◌, ap, sym, ◌∙◌}
use Prim.Native.Nat.{ℕ, ◌+◌, ◌-◌, ◌*◌, ◌<◌}
use mathlib.Core.List.{List, ◌∷◌}
use lib.ListN.{length, take, drop}
use lib.Seq.{sets, length-sets}
use Rattle.records.specs.declared.Outcome.{Outcome}
use Rattle.records.specs.Records.{record_of}
use Rattle.records.proofs.Refusals.{refusal_told}
use Rattle.mcp2515.specs.Step.{step_of, outcome_in}
use Rattle.mcp2515.specs.ChipImage.{chip_of}
use Rattle.bus_log.specs.Log.{record_size, records_in, steps_of, last_chip, answer_bytes, answers_of}
use Rattle.bus_log.proofs.Advance.{ran, first_refused, same_size}
use Rattle.bus_log.proofs.Answers.{room_more, store_step}
use Rattle.bus_log.proofs.Steps.{chunk_at, steps_from, none_left}
use Rattle.bus_log.proofs.run_records.Goals as goal

pub loop-record-preserved : goal.loop-record-preserved
unfolding last_chip
loop-record-preserved c =
    let m = c.loop-record.image in
    let log = c.args.log.now in
    let n = records_in (length log) in
    let i = c.loop-record.record-index in
    let here : i < n = omega (arith, c.as_chunks.ensures.front_len) in
    let r = take record_size (drop (record_size * i) log) in
    let s = step_of (chip_of m) r in
    let rest = steps_of (n - (i + 1)) s.chip (drop (record_size * (i + 1)) log) in
    let taken : record_of c.fields_of.result ≡ r = c.fields_of.ensures ∙ rw c.as_chunks.ensures.front (chunk_at n i log here) in
    let step = c.step_in_place-told.ensures in
    let w = ran m c.step_in_place-told.new.image c.fields_of.result r c.args.wanted c.from.result taken (c.from.ensures ∙ step.answered) step.moved in
    let stored = c.put_answer.ensures ∙ ap (λ (bytes : List ℕ). sets c.loop-record.answers c.loop-record.at bytes) w.bytes in
    let next : steps_of (n - i) (chip_of m) (drop (record_size * i) log) ≡ s ∷ rest = steps_from n i (chip_of m) log here in (
      omega (arith, room_more c.args.wanted i),
      rw stored (length-sets c.loop-record.answers c.loop-record.at (answer_bytes c.args.wanted (outcome_in s)) ∙ c.loop-record.invariant.1),
      rw (stored, w.after, c.answer_size-size.ensures)
          (store_step c.args.wanted c.loop-record.answers c.loop-record.at s rest ∙ rw (← next) c.loop-record.invariant.2),
      w.spare ∙ c.loop-record.invariant.3,
      rw w.after (ap (last_chip (chip_of m)) (sym next) ∙ c.loop-record.invariant.4),
      (λ h.
          let before = c.loop-record.invariant.5 h in
          let first = first_refused s rest (rw next at before.1) in
          (step.refused_kept (λ z. first.0 (sym w.refusal ∙ ap (λ (o : Outcome). o.refusal) c.from.ensures ∙ refusal_told c.step_in_place-told.result ∙ z)) ∙ before.0, rw w.after first.1)),
    )

pub returns : goal.returns
unfolding answers_of last_chip
returns c =
    let none = none_left (records_in (length c.args.log.now)) c.loop-record.record-index (chip_of c.loop-record.image) (drop (record_size * c.loop-record.record-index) c.args.log.now) (omega (arith, c.as_chunks.ensures.front_len)) in
    record {
      answers_after = rw none at c.loop-record.invariant.2;
      moved = record { packed = record { size = same_size c.args.image.now c.loop-record.image (omega arith) c.loop-record.invariant.3; chip = rw none at c.loop-record.invariant.4 }; spare = c.loop-record.invariant.3 };
      refused_stay = λ h. (c.loop-record.invariant.5 h).0;
    }
