-- The laws of a run from a chip that a C program holds. Assumes nothing.
use mathlib.Core.Path.{◌≡◌, refl, sym, ap, ◌∙◌}
use mathlib.Core.Bool.{Bool}
use mathlib.Core.List.{List, [], ◌∷◌, ◌++◌, append_assoc, append-nil}
use Prim.Native.Nat.{ℕ, zero, suc, ◌+◌, ◌*◌, ◌≤◌, ◌<◌}
use native.Mathlib.Omega.{arith}
use borrow.Author.Tests.{lt-ltb}
use lib.IntN.{ℤ, pos, neg_ℤ}
use lib.ListN.{length, take, drop, length-append, length-drop, drop_of_length-le}
use lib.Seq.{length-take-le, drop-drop}
use Rattle.mcp2515.specs.declared.Chip.{Chip}
use Rattle.mcp2515.specs.declared.Stepped.{Stepped}
use Rattle.mcp2515.specs.Step.{step_of, outcome_in, outcome, chip_after, outcomes}
use Rattle.mcp2515.specs.ChipImage.{chip_of}
use Rattle.mcp2515.proofs.Images.{power_on_chip, power_on_is_chip}
use Rattle.bus_log.specs.Log.{record_size, records_in, steps_of, last_chip, answer_bytes, answers_of}
use Rattle.bus_log.specs.Run.{answer_room, run_refusal, run_result, run_answers}
use Rattle.bus_log.specs.Held.{held_refusal}
use Rattle.bus_log.specs.From.{from_refusal, from_result, from_answers, FromPowerOn, RunsJoin, RunningFrom, records_of, told_bytes, RecordByRecord}
use Rattle.bus_log.proofs.Steps.{steps_append, chip_append}
use Rattle.bus_log.proofs.Answers.{room_sum}
use Rattle.bus_log.proofs.Refusals.{accepted, accepts}
use Rattle.bus_log.proofs.Helds.{held_both, held_none, held_kept}

pub from_power_on : FromPowerOn
unfolding held_refusal from_result from_answers run_result run_answers
from_power_on log answers = (rw power_on_is_chip, rw (power_on_is_chip, power_on_chip))

pub record_by_record : RecordByRecord
unfolding steps_of answers_of last_chip records_of told_bytes outcomes chip_after
record_by_record wanted zero c log = (refl, refl)
record_by_record wanted (suc n) c log =
    let r = take record_size log in
    let rest = record_by_record wanted n (step_of c r).chip (drop record_size log) in
    (ap (λ (l : List ℕ). answer_bytes wanted (outcome c r) ++ l) rest.0, rest.1)

answers_append : (wanted : Bool) (ss ts : List Stepped) → answers_of wanted (ss ++ ts) ≡ answers_of wanted ss ++ answers_of wanted ts
unfolding answers_of
answers_append wanted [] ts = refl
answers_append wanted (s ∷ ss) ts = rw (answers_append wanted ss ts) (sym (append_assoc (answer_bytes wanted (outcome_in s)) (answers_of wanted ss) (answers_of wanted ts)))

-- a run that is not refused, written out
answers_run : (wanted : Bool) (m log answers : List ℕ) → from_refusal wanted m log answers ≡ 0
    → from_answers wanted m log answers
    ≡ answers_of wanted (steps_of (records_in (length log)) (chip_of m) log) ++ drop (answer_room wanted (records_in (length log))) answers
unfolding from_answers
answers_run wanted m log answers none = rw none

module _ (wanted : Bool) (i j : ℕ) (c : Chip) (a b out : List ℕ) (size : length a ≡ i * record_size) where
  join_answers : answer_room wanted i ≤ length out
      → answers_of wanted (steps_of (i + j) c (a ++ b)) ++ drop (answer_room wanted (i + j)) out
      ≡ (answers_of wanted (steps_of i c a) ++ drop (answer_room wanted i) (take (answer_room wanted i) out))
      ++ (answers_of wanted (steps_of j (last_chip c (steps_of i c a)) b) ++ drop (answer_room wanted j) (drop (answer_room wanted i) out))
  join_answers room =
      let none : drop (answer_room wanted i) (take (answer_room wanted i) out) ≡ [] = drop_of_length-le (take (answer_room wanted i) out) {i = answer_room wanted i} (omega (arith, length-take-le (answer_room wanted i) out room)) in
      let more : answer_room wanted i + answer_room wanted j ≡ answer_room wanted (i + j) = sym (room_sum wanted i j) in
      rw (steps_append i j c a b size, answers_append wanted (steps_of i c a) (steps_of j (last_chip c (steps_of i c a)) b), none, append-nil (answers_of wanted (steps_of i c a)), drop-drop (answer_room wanted j) (answer_room wanted i) out, more)
      (append_assoc (answers_of wanted (steps_of i c a)) (answers_of wanted (steps_of j (last_chip c (steps_of i c a)) b)) (drop (answer_room wanted (i + j)) out))

  join_chip : last_chip c (steps_of (i + j) c (a ++ b)) ≡ last_chip (last_chip c (steps_of i c a)) (steps_of j (last_chip c (steps_of i c a)) b)
  join_chip = rw (steps_append i j c a b size) (chip_append c (steps_of i c a) (steps_of j (last_chip c (steps_of i c a)) b))

pub runs_join : RunsJoin
runs_join wanted m n a b answers cut whole held =
    let i = records_in (length a) in
    let j = records_in (length b) in
    let both = held_both m (run_refusal wanted (length (a ++ b)) (length answers)) whole in
    let runs = accepted wanted (length (a ++ b)) (length answers) both.1 in
    let sizes = length-append a b in
    let count : records_in (length (a ++ b)) ≡ i + j = rw sizes (omega arith) in
    let some : i + j ≤ 65535 = rw count at runs.count in
    let fits : answer_room wanted (i + j) ≤ length answers = rw count at runs.room in
    let both-room = room_sum wanted i j in
    let room : answer_room wanted i ≤ length answers = omega arith in
    let size : length a ≡ i * record_size = omega arith in
    let behind = length-drop (answer_room wanted i) answers in
    let first : from_refusal wanted m a (take (answer_room wanted i) answers) ≡ 0 =
    held_none m _ both.0 (accepts wanted (length a) _ (record { whole = cut; count = omega arith; room = omega (arith, length-take-le (answer_room wanted i) answers room) })) in
    let second : from_refusal wanted n b (drop (answer_room wanted i) answers) ≡ 0 =
    held_none n _ (held.again refl) (accepts wanted (length b) _ (record { whole = omega (arith, runs.whole); count = omega arith; room = omega arith })) in
    record {
      first = first;
      second = second;
      joined = rw (answers_run wanted m (a ++ b) answers whole, answers_run wanted m a (take (answer_room wanted i) answers) first, answers_run wanted n b (drop (answer_room wanted i) answers) second, count, held.chip refl) (join_answers wanted i j (chip_of m) a b answers size room);
      end = rw (count, held.chip refl) (join_chip wanted i j (chip_of m) a b answers size);
    }

-- ---- a call that is refused with the number n
pub refused_from : (wanted : Bool) (m log answers : List ℕ) (n : ℕ) (r : ℤ) → from_refusal wanted m log answers ≡ n → 0 < n → r ≡ neg_ℤ (pos n)
    → RunningFrom wanted m log answers m answers r
unfolding from_result from_answers
refused_from wanted m log answers n r same some told =
    let t = lt-ltb 0 n some in
    record {
      result = told ∙ rw (same, t);
      buffer = rw (same, t);
      chip = held_kept (λ z. let none : n ≡ 0 = sym same ∙ z in omega arith);
      kept = λ _. refl;
      power_on = from_power_on;
      join = runs_join;
      singly = record_by_record;
    }
