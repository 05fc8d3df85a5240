-- A block of records that is run, and the chip after some blocks. Assumes nothing.
use mathlib.Core.Path.{◌≡◌, ap, sym, ◌∙◌}
use mathlib.Core.Bool.{Bool, true}
use mathlib.Core.List.{List, ◌++◌}
use Prim.Native.Nat.{ℕ, zero, suc, ◌+◌, ◌*◌, ◌%◌, ◌≤◌}
use native.Mathlib.Omega.{arith}
use lib.IntN.{ℤ}
use lib.ListN.{length, take, drop, length-append, take-append-drop}
use lib.Seq.{drop-drop, length-take-le}
use Rattle.image.specs.Image.{is_chip}
use Rattle.mcp2515.specs.declared.Chip.{Chip}
use Rattle.mcp2515.specs.Step.{next_chip}
use Rattle.mcp2515.specs.ChipImage.{chip_of}
use Rattle.bus_log.specs.Log.{record_size, records_in, record_at, steps_of, last_chip, answers_of}
use Rattle.bus_log.specs.Run.{answer_room}
use Rattle.bus_log.specs.From.{from_refusal, from_answers, chip_from, RunningFrom}
use Rattle.bus_log.proofs.Refusals.{Accepted, accepts}
use Rattle.bus_log.proofs.Helds.{held_none}
use Rattle.bus_log.proofs.Steps.{steps_append, steps_prefix, chip_append}
use Rattle.compare.specs.Block.{Ran}

answers_run : (wanted : Bool) (m log answers : List ℕ) → from_refusal wanted m log answers ≡ 0
    → from_answers wanted m log answers
    ≡ answers_of wanted (steps_of (records_in (length log)) (chip_of m) log) ++ drop (answer_room wanted (records_in (length log))) answers
unfolding from_answers
answers_run wanted m log answers none = rw none

-- the steps of the first records of a log are those of a log that ends behind them
pub steps_taken : (k : ℕ) (c : Chip) (log : List ℕ) → k * record_size ≤ length log → steps_of k c (take (k * record_size) log) ≡ steps_of k c log
steps_taken k c log h =
    let size = length-take-le (k * record_size) log h in
    sym (steps_prefix k c (take (k * record_size) log) (drop (k * record_size) log) (omega arith))
    ∙ ap (λ (l : List ℕ). steps_of k c l) (take-append-drop (k * record_size) log)

-- the call on some records that it does not refuse
pub ran : (wanted : Bool) (log m n told after : List ℕ) (r : ℤ) → is_chip m ≡ true → Accepted wanted (length log) (length told)
    → RunningFrom wanted m log told n after r → Ran wanted (records_in (length log)) log m n told after
ran wanted log m n told after r is accepted w =
    let none : from_refusal wanted m log told ≡ 0 = held_none m _ is (accepts wanted (length log) (length told) accepted) in
    record {
      ahead = record { again = w.chip.again none; chip = w.chip.chip none };
      answers = w.buffer ∙ answers_run wanted m log told none;
    }

-- the chip after a log that is cut between two records
pub chip_joined : (c : Chip) (a b : List ℕ) → length a % record_size ≡ 0 → chip_from c (a ++ b) ≡ chip_from (chip_from c a) b
chip_joined c a b whole =
    let i = records_in (length a) in
    let j = records_in (length b) in
    let count : records_in (length (a ++ b)) ≡ i + j = rw (length-append a b) (omega arith) in
    let size : length a ≡ i * record_size = omega arith in
    rw (count, steps_append i j c a b size) (chip_append c (steps_of i c a) (steps_of j (last_chip c (steps_of i c a)) b))

pub chip_none : (c : Chip) (log : List ℕ) → length log ≡ 0 → chip_from c log ≡ c
unfolding steps_of last_chip
chip_none c log e = let none : records_in (length log) ≡ 0 = omega arith in rw none

-- the chip after two parts of a log
chip_parts : (m n : ℕ) (c : Chip) (log : List ℕ)
    → last_chip c (steps_of (m + n) c log)
    ≡ last_chip (last_chip c (steps_of m c log)) (steps_of n (last_chip c (steps_of m c log)) (drop (m * record_size) log))
unfolding steps_of last_chip
chip_parts zero n c log = let same : 0 + n ≡ n = omega arith in rw same
chip_parts (suc m) n c log =
    let more : suc m + n ≡ suc (m + n) = omega arith in
    let place : record_size + m * record_size ≡ suc m * record_size = omega arith in
    rw more (rw (chip_parts m n (next_chip c (take record_size log)) (drop record_size log), drop-drop (m * record_size) record_size log, place))

-- the chip after one record more
pub chip_next : (k : ℕ) (c : Chip) (log : List ℕ)
    → last_chip c (steps_of (suc k) c log) ≡ next_chip (last_chip c (steps_of k c log)) (record_at log (k * record_size))
unfolding steps_of last_chip
chip_next k c log =
    let one : suc k ≡ k + 1 = omega arith in
    ap (λ (j : ℕ). last_chip c (steps_of j c log)) one ∙ chip_parts k 1 c log
