-- Laws of the calls of a C program that holds a chip. Assumes nothing.
use mathlib.Core.Path.{◌≡◌, refl, sym, ap, ◌∙◌}
use mathlib.Core.Bool.{Bool, true, false, cond}
use mathlib.Core.List.{List, [], ◌∷◌}
use Prim.Native.Nat.{ℕ, ◌<◌, ◌≤◌, ◌^◌}
use native.Mathlib.Omega.{arith}
use borrow.Author.Tests.{eqb-true, ltb-false, lt-ltb}
use lib.Dec.{eqb, ltb}
use lib.IntN.{ℤ, pos, neg_ℤ}
use lib.ListN.{length}
use mir.Syntax.{w64}
use mir.Val.{SFits, to_z, of_z, bool_byte}
use mir.Facts.{to_z_pos, to_z-of_z}
use Rattle.image.specs.Image.{is_chip}
use Rattle.mcp2515.specs.declared.Stepped.{Stepped}
use Rattle.mcp2515.specs.Step.{step_of, outcome_in}
use Rattle.mcp2515.specs.ChipImage.{chip_of}
use Rattle.bus_log.specs.Log.{record_size, log_refusal, last_chip, answer_bytes, answers_of, length_refusal, room_refusal}
use Rattle.bus_log.specs.Run.{answer_size, answer_room, run_refusal}
use Rattle.bus_log.specs.Held.{chip_refusal, held_refusal}
use Rattle.bus_log.specs.From.{from_answers}
use Rattle.bus_log.proofs.Helds.{no_chip, held_kept}
use Rattle.bus_log.proofs.Steps.{one_step}
use Rattle.stand_in.specs.StandIn.{record_refusal, step_refusal, step_result, step_answer, StepIsRun, StepHeld, held_answer, zero_or_one}

-- what a function told as `i64`
pub told : {r x : ℤ} → SFits w64 r → r ≡ x → to_z w64 (of_z w64 r) ≡ x
told fits e = to_z-of_z {w = w64} fits ∙ e

-- ---- the step
no_test : (x y : Bool) → cond x (cond y room_refusal 0) length_refusal ≡ 0 → (x ≡ true) × (y ≡ false)
no_test true true e = absurd (omega arith)
no_test true false e = (refl, refl)
no_test false y e = absurd (omega arith)

-- a record that is not refused for its sizes
pub whole_sizes : (wanted : Bool) (size room : ℕ) → record_refusal wanted size room ≡ 0 → (size ≡ record_size) × (answer_size wanted ≤ room)
whole_sizes wanted size room e =
    let t = no_test (eqb size record_size) (ltb room (answer_size wanted)) e in
    (eqb-true size record_size t.0, ltb-false room (answer_size wanted) t.1)

pub size_most : (wanted : Bool) → answer_size wanted ≤ 3
size_most true = omega arith
size_most false = omega arith

-- the room of one record is its answer's size
room_one : (wanted : Bool) → answer_room wanted 1 ≡ answer_size wanted
room_one true = refl
room_one false = refl

one_refusal : (wanted : Bool) (size room : ℕ) → size ≡ record_size → record_refusal wanted size room ≡ run_refusal wanted size room
unfolding run_refusal log_refusal
one_refusal wanted size room e = rw (e, room_one wanted)

one_answer : (wanted : Bool) (s : Stepped) → answers_of wanted (s ∷ []) ≡ answer_bytes wanted (outcome_in s)
unfolding answers_of
one_answer true s = refl
one_answer false s = refl

pub step_is_run : StepIsRun
unfolding step_answer from_answers last_chip
step_is_run wanted m r answer e =
    let same = one_refusal wanted (length r) (length answer) e in
    let one = one_step (chip_of m) r e in
    (rw same, rw (same, one, e, one_answer wanted (step_of (chip_of m) r), room_one wanted), rw one)

-- a call that is refused with the number n
pub step_refused : (wanted : Bool) (m r answer : List ℕ) (n : ℕ) (result : ℤ) → step_refusal wanted m r answer ≡ n → 0 < n → result ≡ neg_ℤ (pos n)
    → StepHeld wanted m r answer m answer result
unfolding step_result step_answer
step_refused wanted m r answer n result same some told =
    let t = lt-ltb 0 n some in
    record {
      result = told ∙ rw (same, t);
      buffer = rw (same, t);
      chip = held_kept (λ z. let none : n ≡ 0 = sym same ∙ z in omega arith);
      kept = λ _. refl;
      run = step_is_run;
    }

-- ---- what a chip answers
pub held_value : (m : List ℕ) {x v : ℕ} → is_chip m ≡ true → x < 2 ^ 63 → x ≡ v → to_z w64 x ≡ held_answer m v
unfolding held_answer held_refusal
held_value m is small e = to_z_pos w64 small ∙ rw is (ap pos e)

-- a test as a number
pub test_number : {b t : Bool} → b ≡ t → to_z w64 (bool_byte b) ≡ pos (zero_or_one t)
test_number {b} {t} e = rw e (go t)
  where
    go : (x : Bool) → to_z w64 (bool_byte x) ≡ pos (zero_or_one x)
    go true = refl
    go false = refl

pub held_test : (m : List ℕ) {b t : Bool} → is_chip m ≡ true → b ≡ t → to_z w64 (bool_byte b) ≡ held_answer m (zero_or_one t)
unfolding held_answer held_refusal
held_test m is e = rw is (test_number e)

pub no_value : (m : List ℕ) (v : ℕ) → (is_chip m ≡ true → false ≡ true) → neg_ℤ (pos chip_refusal) ≡ held_answer m v
unfolding held_answer
no_value m v none = rw (no_chip m 0 none)
