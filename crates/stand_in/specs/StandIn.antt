-- The calls of a C program that holds a chip: power-on, the step of one record, and what the chip answers. In each, m are the bytes
-- of the chip that is lent. Assumes nothing: these are definitions.
use Rattle.std.specs.Prelude.{◌≡◌, Bool, true, cond, List, ◌++◌, ℕ, eqb, ltb, ℤ, length, drop}
use Rattle.image.specs.Image.{image_size, is_chip, power_on_bytes, RefusedKept}
use Rattle.mcp2515.specs.Step.{power_on, outcome, next_chip}
use Rattle.mcp2515.specs.ChipImage.{chip_of}
use Rattle.bus_log.specs.Log.{record_size, length_refusal, room_refusal, answer_bytes}
use Rattle.bus_log.specs.Run.{answer_size, call_result}
use Rattle.bus_log.specs.Held.{held_refusal, Held}
use Rattle.bus_log.specs.From.{from_refusal, from_answers, chip_from}

-- ---- power-on
-- the refusal of too little room for a chip
abbrev pub short_refusal : ℕ
short_refusal = 19

abbrev pub power_refusal : List ℕ → ℕ
power_refusal m = cond (ltb (length m) image_size) short_refusal 0

-- the bytes that it uses, or minus the refusal
unfoldable pub power_result : List ℕ → ℤ
power_result m = call_result (power_refusal m) image_size

-- the bytes of power-on, and then what the room held past them; or, refused, all that it held
unfoldable pub power_bytes : List ℕ → List ℕ
power_bytes m = cond (ltb 0 (power_refusal m)) m (power_on_bytes ++ drop image_size m)

-- a law that the proofs show: these bytes are a chip, and the chip is that of power-on
abbrev pub PowerOnHeld : Type 0
PowerOnHeld = (is_chip power_on_bytes ≡ true) × (chip_of power_on_bytes ≡ power_on)

-- ---- the step of a record r, with room for its answer, and for its set where that is asked for
-- the refusal: 21, then 6 for a record that is not 16 bytes, then 7 for less room than two bytes, with the set three
abbrev pub record_refusal : Bool → ℕ → ℕ → ℕ
record_refusal wanted size room =
    cond (eqb size record_size) (cond (ltb room (answer_size wanted)) room_refusal 0) length_refusal

abbrev pub step_refusal : Bool → List ℕ → List ℕ → List ℕ → ℕ
step_refusal wanted m r answer = held_refusal m (record_refusal wanted (length r) (length answer))

-- the bytes of the answer, or minus the refusal; a record that the chip refuses is no refusal of the call
unfoldable pub step_result : Bool → List ℕ → List ℕ → List ℕ → ℤ
step_result wanted m r answer = call_result (step_refusal wanted m r answer) (answer_size wanted)

-- the record's refusal and answer, its set where that is asked for, and then what the room held past them; or, refused, all that it held
unfoldable pub step_answer : Bool → List ℕ → List ℕ → List ℕ → List ℕ
step_answer wanted m r answer =
    cond (ltb 0 (step_refusal wanted m r answer)) answer (answer_bytes wanted (outcome (chip_of m) r) ++ drop (answer_size wanted) answer)

-- a law that the proofs show: the step of a record is the run of the log that is this record
abbrev pub StepIsRun : Type 0
StepIsRun =
    (wanted : Bool) (m r answer : List ℕ) → length r ≡ record_size
    → (step_refusal wanted m r answer ≡ from_refusal wanted m r answer)
    × (step_answer wanted m r answer ≡ from_answers wanted m r answer)
    × (next_chip (chip_of m) r ≡ chip_from (chip_of m) r)

-- what the step promises of n and after, in which it leaves the chip and the answer, and of its result x; a record that the chip
-- refuses changes no byte of the chip
pub record StepHeld (wanted : Bool) (m r answer n after : List ℕ) (x : ℤ) : Type 0 where
  pub result : x ≡ step_result wanted m r answer
  pub buffer : after ≡ step_answer wanted m r answer
  pub chip : Held (step_refusal wanted m r answer) m n (next_chip (chip_of m) r)
  pub kept : RefusedKept (outcome (chip_of m) r).refusal m n
  pub run : StepIsRun

-- ---- what a chip answers: a value, or minus 21
unfoldable pub held_answer : List ℕ → ℕ → ℤ
held_answer m value = call_result (held_refusal m 0) value

-- a test as C has it
abbrev pub zero_or_one : Bool → ℕ
zero_or_one b = cond b 1 0
