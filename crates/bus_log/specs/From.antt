-- The run of a log from a chip that a C program holds, and its laws. Assumes nothing: these are definitions.
use Rattle.std.specs.Prelude.{◌≡◌, Bool, false, List, [], ◌∷◌, ◌++◌, ℕ, zero, suc, ◌%◌, ℤ, length, take, drop}
use Rattle.records.specs.declared.Outcome.{Outcome}
use Rattle.image.specs.Image.{image_size, power_on_bytes, RefusedKept}
use Rattle.controller.specs.Events.{not_an_image}
use Rattle.mcp2515.specs.declared.Chip.{Chip}
use Rattle.mcp2515.specs.Step.{outcome, next_chip, chip_after, outcomes}
use Rattle.mcp2515.specs.ChipImage.{chip_of, Moved}
use Rattle.bus_log.specs.Log.{record_size, records_in, steps_of, last_chip, RefusedStay, answer_bytes, answers_of}
use Rattle.bus_log.specs.Run.{answer_room, run_refusal, call_result, answers_after, run_result, run_answers}
use Rattle.bus_log.specs.Held.{held_refusal, Held}

-- the refusal: 21, then as the run from power-on
abbrev pub from_refusal : Bool → List ℕ → List ℕ → List ℕ → ℕ
from_refusal wanted m log answers = held_refusal m (run_refusal wanted (length log) (length answers))

-- the result: the number of records, or minus the refusal
unfoldable pub from_result : Bool → List ℕ → List ℕ → List ℕ → ℤ
from_result wanted m log answers = call_result (from_refusal wanted m log answers) (records_in (length log))

-- the answer buffer after it, with the sets where they are asked for
unfoldable pub from_answers : Bool → List ℕ → List ℕ → List ℕ → List ℕ
from_answers wanted m log answers = answers_after wanted (from_refusal wanted m log answers) (chip_of m) log answers

-- the chip after the records of a log
abbrev pub chip_from : Chip → List ℕ → Chip
chip_from c log = last_chip c (steps_of (records_in (length log)) c log)

-- what the run of one record promises over an image m, which it leaves as n, and a record r of 16 bytes; over any other bytes o refuses
-- a field. Refused, no byte changes
pub record RecordRun (m r : List ℕ) (o : Outcome) (n : List ℕ) : Type 0 where
  pub told : length m ≡ image_size → length r ≡ record_size → o ≡ outcome (chip_of m) r
  pub moved : length m ≡ image_size → length r ≡ record_size → Moved m n (next_chip (chip_of m) r)
  pub other : ((length m ≡ image_size) × (length r ≡ record_size) → ⊥) → o ≡ not_an_image
  pub kept : RefusedKept o.refusal m n

-- ---- laws that the proofs show
-- from the bytes of power-on it is the run from power-on
abbrev pub FromPowerOn : Type 0
FromPowerOn =
    (log answers : List ℕ)
    → (from_result false power_on_bytes log answers ≡ run_result (length log) (length answers))
    × (from_answers false power_on_bytes log answers ≡ run_answers log answers)

-- A log a ++ b that is run from the chip m, with a cut between two records: a is run into the first of the answer bytes, and b
-- into those behind them from n, in which the run of a left the chip. Neither is refused, the answers are those of the whole,
-- and so is the chip at the end.
pub record InParts (wanted : Bool) (m n a b answers : List ℕ) : Type 0 where
  pub first : from_refusal wanted m a (take (answer_room wanted (records_in (length a))) answers) ≡ 0
  pub second : from_refusal wanted n b (drop (answer_room wanted (records_in (length a))) answers) ≡ 0
  pub joined : from_answers wanted m (a ++ b) answers
      ≡ from_answers wanted m a (take (answer_room wanted (records_in (length a))) answers)
      ++ from_answers wanted n b (drop (answer_room wanted (records_in (length a))) answers)
  pub end : chip_from (chip_of m) (a ++ b) ≡ chip_from (chip_of n) b

abbrev pub RunsJoin : Type 0
RunsJoin =
    (wanted : Bool) (m n a b answers : List ℕ) → length a % record_size ≡ 0 → from_refusal wanted m (a ++ b) answers ≡ 0
    → Held 0 m n (chip_from (chip_of m) a) → InParts wanted m n a b answers

-- the first n records of a log
unfoldable pub records_of : ℕ → List ℕ → List (List ℕ)
records_of zero log = []
records_of (suc n) log = take record_size log ∷ records_of n (drop record_size log)

-- the answer bytes of each outcome
unfoldable pub told_bytes : Bool → List Outcome → List ℕ
told_bytes wanted [] = []
told_bytes wanted (o ∷ os) = answer_bytes wanted o ++ told_bytes wanted os

-- the run of a log is that of its records, one step after the other
abbrev pub RecordByRecord : Type 0
RecordByRecord =
    (wanted : Bool) (n : ℕ) (c : Chip) (log : List ℕ)
    → (answers_of wanted (steps_of n c log) ≡ told_bytes wanted (outcomes c (records_of n log)))
    × (last_chip c (steps_of n c log) ≡ chip_after c (records_of n log))

-- what the call promises of the chip m, the log and the answer buffer that it is lent, of n and after in which it leaves them, and
-- of its result r
pub record RunningFrom (wanted : Bool) (m log answers n after : List ℕ) (r : ℤ) : Type 0 where
  pub result : r ≡ from_result wanted m log answers
  pub buffer : after ≡ from_answers wanted m log answers
  pub chip : Held (from_refusal wanted m log answers) m n (chip_from (chip_of m) log)
  -- a log of which the chip refuses each record changes no byte of it
  pub kept : RefusedStay (steps_of (records_in (length log)) (chip_of m) log) m n
  pub power_on : FromPowerOn
  pub join : RunsJoin
  pub singly : RecordByRecord
