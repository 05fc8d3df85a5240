-- The run of a whole log: its refusal, its result and its answers. Assumes nothing: these are definitions.
use Rattle.std.specs.Prelude.{Bool, false, cond, List, ◌++◌, ℕ, ◌*◌, ltb, ℤ, pos, neg_ℤ, length, drop}
use Rattle.mcp2515.specs.declared.Chip.{Chip}
use Rattle.mcp2515.specs.Step.{power_on}
use Rattle.bus_log.specs.Log.{room_refusal, records_in, log_refusal, first_refusal, steps_of, answers_of}

-- the bytes of an answer: two, with the set three
abbrev pub answer_size : Bool → ℕ
answer_size wanted = cond wanted 3 2

-- .. of n records
abbrev pub answer_room : Bool → ℕ → ℕ
answer_room wanted n = answer_size wanted * n

-- the refusal of a log of size bytes with room for so many answer bytes: 6, then 8, then 7, else 0
unfoldable pub run_refusal : Bool → ℕ → ℕ → ℕ
run_refusal wanted size room = first_refusal (log_refusal size) (cond (ltb room (answer_room wanted (records_in size))) room_refusal 0)

-- what a call for C returns: minus the refusal, or where that is 0 its value
abbrev pub call_result : ℕ → ℕ → ℤ
call_result refusal value = cond (ltb 0 refusal) (neg_ℤ (pos refusal)) (pos value)

-- the answer buffer after a run from the chip c: the answers and then what it held past them, or, refused, all that it held
abbrev pub answers_after : Bool → ℕ → Chip → List ℕ → List ℕ → List ℕ
answers_after wanted refusal c log answers =
    cond (ltb 0 refusal) answers
    (answers_of wanted (steps_of (records_in (length log)) c log) ++ drop (answer_room wanted (records_in (length log))) answers)

-- ---- from power-on, two bytes a record
-- the result: the number of records, or minus the refusal
unfoldable pub run_result : ℕ → ℕ → ℤ
run_result size room = call_result (run_refusal false size room) (records_in size)

unfoldable pub run_answers : List ℕ → List ℕ → List ℕ
run_answers log answers = answers_after false (run_refusal false (length log) (length answers)) power_on log answers
