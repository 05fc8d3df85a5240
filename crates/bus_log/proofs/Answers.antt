-- The answers of a run, stored one record after the other. Assumes nothing.
use mathlib.Core.Path.{◌≡◌, refl, ◌∙◌}
use mathlib.Core.Bool.{Bool, true, false}
use mathlib.Core.List.{List, [], ◌∷◌, ◌++◌}
use Prim.Native.Nat.{ℕ, suc, ◌+◌, ◌*◌, ◌≤◌}
use native.Mathlib.Omega.{arith}
use lib.ListN.{length, drop, length-append}
use lib.Seq.{sets}
use Rattle.records.specs.declared.Outcome.{Outcome}
use Rattle.mcp2515.specs.declared.Chip.{Chip}
use Rattle.mcp2515.specs.declared.Stepped.{Stepped}
use Rattle.mcp2515.specs.Step.{outcome_in}
use Rattle.bus_log.specs.Log.{steps_of, answer_bytes, answers_of}
use Rattle.bus_log.specs.Run.{answer_size, answer_room}
use Rattle.bus_log.proofs.Copy.{sets_first, sets_append}
use Rattle.bus_log.proofs.Steps.{length_steps}

-- an answer has its size
pub length_answer : (wanted : Bool) (o : Outcome) → length (answer_bytes wanted o) ≡ answer_size wanted
length_answer true o = refl
length_answer false o = refl

-- the room of one record more
pub room_next : (wanted : Bool) (n : ℕ) → answer_room wanted (suc n) ≡ answer_size wanted + answer_room wanted n
room_next true n = omega arith
room_next false n = omega arith

pub room_more : (wanted : Bool) (n : ℕ) → answer_room wanted (n + 1) ≡ answer_room wanted n + answer_size wanted
room_more true n = omega arith
room_more false n = omega arith

-- the least and the most that an answer takes
pub size_least : (wanted : Bool) → 2 ≤ answer_size wanted
size_least true = omega arith
size_least false = omega arith

pub room_most : (wanted : Bool) (n : ℕ) → answer_room wanted n ≤ 3 * n
room_most true n = omega arith
room_most false n = omega arith

pub room_sum : (wanted : Bool) (i j : ℕ) → answer_room wanted (i + j) ≡ answer_room wanted i + answer_room wanted j
room_sum true i j = omega arith
room_sum false i j = omega arith

-- the bytes of one record are stored, and those of the rest after them
pub store_step : (wanted : Bool) (xs : List ℕ) (out : ℕ) (s : Stepped) (ss : List Stepped)
    → sets (sets xs out (answer_bytes wanted (outcome_in s))) (out + answer_size wanted) (answers_of wanted ss) ≡ sets xs out (answers_of wanted (s ∷ ss))
unfolding answers_of
store_step wanted xs out s ss =
    rw (← length_answer wanted (outcome_in s)) (sets_append (answer_bytes wanted (outcome_in s)) (answers_of wanted ss) xs out)

pub length_answers : (wanted : Bool) (ss : List Stepped) → length (answers_of wanted ss) ≡ answer_room wanted (length ss)
unfolding answers_of
length_answers true [] = refl
length_answers false [] = refl
length_answers wanted (s ∷ ss) =
    length-append (answer_bytes wanted (outcome_in s)) (answers_of wanted ss)
    ∙ rw (length_answer wanted (outcome_in s), length_answers wanted ss, room_next wanted (length ss))

-- the answers of n records, stored from the start, stand before what the buffer held past them
pub answers_first : (wanted : Bool) (n : ℕ) (c : Chip) (log xs : List ℕ) → answer_room wanted n ≤ length xs
    → sets xs 0 (answers_of wanted (steps_of n c log)) ≡ answers_of wanted (steps_of n c log) ++ drop (answer_room wanted n) xs
answers_first wanted n c log xs fits =
    let bs = answers_of wanted (steps_of n c log) in
    let size : length bs ≡ answer_room wanted n = length_answers wanted (steps_of n c log) ∙ rw (length_steps n c log) in
    sets_first bs xs (rw size fits) ∙ rw size
