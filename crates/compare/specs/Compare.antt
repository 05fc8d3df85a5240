-- Two logs side by side, each run from power-on by a chip of its own. Assumes nothing: these are definitions.
use Rattle.std.specs.Prelude.{◌≡◌, Bool, true, false, cond, not, ◌&&◌, ◌||◌, List, [], ◌∷◌, ◌++◌, ℕ, zero, suc, ◌*◌, ◌/◌, ◌%◌, min, eqb, ltb, ℤ, length, take, drop}
use Rattle.records.specs.declared.Outcome.{Outcome}
use Rattle.mcp2515.specs.declared.Chip.{Chip}
use Rattle.mcp2515.specs.Step.{power_on, outcome, next_chip}
use Rattle.bus_log.specs.Log.{record_size, records_in, room_refusal, log_refusal, first_refusal, record_at, steps_of, last_chip, answer_bytes}
use Rattle.bus_log.specs.Run.{call_result}

-- ---- where they differ
-- two lists have the same bytes
abbrev pub same_bytes : List ℕ → List ℕ → Bool
same_bytes [] [] = true
same_bytes [] (y ∷ ys) = false
same_bytes (x ∷ xs) [] = false
same_bytes (x ∷ xs) (y ∷ ys) = eqb x y && same_bytes xs ys

abbrev pub same_outcome : Outcome → Outcome → Bool
same_outcome o p = eqb o.refusal p.refusal && eqb o.answer p.answer && eqb o.matched p.matched

-- a difference in record, refusal, answer or set counts: r with o in the first log, s with p in the second
abbrev pub differs : List ℕ → Outcome → List ℕ → Outcome → Bool
differs r o s p = not (same_bytes r s && same_outcome o p)

-- a record number, from 1, with refusal, answer and set of either log
pub record Difference : Type 0 where
  pub number : ℕ
  pub first : Outcome
  pub second : Outcome

-- an item of a list, where the test holds
abbrev pub item_if : Bool → Difference → List Difference → List Difference
item_if test d ds = cond test (d ∷ ds) ds

-- the differences of the next n records of the logs a and b, over the chips c and d, after `before` records
unfoldable pub differences_from : ℕ → ℕ → Chip → Chip → List ℕ → List ℕ → List Difference
differences_from zero before c d a b = []
differences_from (suc n) before c d a b =
    item_if (differs (take record_size a) (outcome c (take record_size a)) (take record_size b) (outcome d (take record_size b)))
    (record { number = suc before; first = outcome c (take record_size a); second = outcome d (take record_size b) })
    (differences_from n (suc before) (next_chip c (take record_size a)) (next_chip d (take record_size b)) (drop record_size a) (drop record_size b))

-- the records that stand in both
abbrev pub records_in_both : List ℕ → List ℕ → ℕ
records_in_both a b = records_in (min (length a) (length b))

-- all of them, from power-on; past the end of the shorter log there are none
unfoldable pub differences_of : List ℕ → List ℕ → List Difference
differences_of a b = differences_from (records_in_both a b) 0 power_on power_on a b

-- ---- entries
-- a number in four bytes, high byte first
abbrev pub four_bytes : ℕ → List ℕ
four_bytes n = n / 0x1000000 % 256 ∷ n / 0x10000 % 256 ∷ n / 0x100 % 256 ∷ n % 256 ∷ []

-- an entry: the number, refusal and answer of the first log, and of the second, the set of the first, and of the second
abbrev pub entry_of : Difference → List ℕ
entry_of d =
    four_bytes d.number ++ answer_bytes false d.first ++ answer_bytes false d.second ++ (d.first.matched ∷ d.second.matched ∷ [])

unfoldable pub entries_of : List Difference → List ℕ
entries_of [] = []
entries_of (d ∷ ds) = entry_of d ++ entries_of ds

-- the bytes of n entries: ten each
abbrev pub entry_room : ℕ → ℕ
entry_room n = 10 * n

-- ---- refusals: 6 then 8 of the first log, the same of the second, then 7 for room that is too short for all the entries, else 0
abbrev pub room_lack : List ℕ → List ℕ → ℕ → ℕ
room_lack a b room = cond (ltb room (entry_room (length (differences_of a b)))) room_refusal 0

unfoldable pub compare_refusal : List ℕ → List ℕ → ℕ → ℕ
compare_refusal a b room = first_refusal (first_refusal (log_refusal (length a)) (log_refusal (length b))) (room_lack a b room)

-- ---- what comes back
-- the number of entries, or minus the refusal
unfoldable pub compare_result : List ℕ → List ℕ → ℕ → ℤ
compare_result a b room = call_result (compare_refusal a b room) (length (differences_of a b))

-- the output: the entries and then what it held past them, or, refused, all that it held
abbrev pub entries_after : ℕ → List ℕ → List ℕ → List ℕ → List ℕ
entries_after refusal a b entries =
    cond (ltb 0 refusal) entries (entries_of (differences_of a b) ++ drop (entry_room (length (differences_of a b))) entries)

unfoldable pub compare_entries : List ℕ → List ℕ → List ℕ → List ℕ
compare_entries a b entries = entries_after (compare_refusal a b (length entries)) a b entries

-- the part of the longer log past the shorter one's length; of logs that are equally long, the end of the first
abbrev pub past_shorter : List ℕ → List ℕ → List ℕ
past_shorter a b = cond (ltb (length a) (length b)) (drop (length a) b) (drop (length b) a)

-- refused, the end of the first log
unfoldable pub leftover_of : List ℕ → List ℕ → ℕ → List ℕ
leftover_of a b room = cond (ltb 0 (compare_refusal a b room)) (drop (length a) a) (past_shorter a b)

-- ---- laws that the proofs show
-- a log compared with itself has no difference
abbrev pub NoneWithItself : Type 0
NoneWithItself = (a : List ℕ) → differences_of a a ≡ []

-- swapping the logs swaps what is told of either in each difference
abbrev pub swapped : Difference → Difference
swapped d = record { number = d.number; first = d.second; second = d.first }

unfoldable pub all_swapped : List Difference → List Difference
all_swapped [] = []
all_swapped (d ∷ ds) = swapped d ∷ all_swapped ds

abbrev pub SwappedLogs : Type 0
SwappedLogs = (a b : List ℕ) → differences_of b a ≡ all_swapped (differences_of a b)

-- each number is above the one before it, the first above n
unfoldable pub rises_from : ℕ → List Difference → Bool
rises_from n [] = true
rises_from n (d ∷ ds) = ltb n d.number && rises_from d.number ds

abbrev pub NumbersRise : Type 0
NumbersRise = (a b : List ℕ) → rises_from 0 (differences_of a b) ≡ true

-- the record of a log with so many before it, and what its chip tells of it
abbrev pub record_after : List ℕ → ℕ → List ℕ
record_after log before = record_at log (before * record_size)

abbrev pub told_after : List ℕ → ℕ → Outcome
told_after log before = outcome (last_chip power_on (steps_of before power_on log)) (record_after log before)

-- something differs there
abbrev pub differs_after : List ℕ → List ℕ → ℕ → Bool
differs_after a b before = differs (record_after a before) (told_after a before) (record_after b before) (told_after b before)

-- a number is in the list
unfoldable pub is_listed : ℕ → List Difference → Bool
is_listed n [] = false
is_listed n (d ∷ ds) = eqb d.number n || is_listed n ds

-- a record number is listed exactly where something differs, as far as both logs go
abbrev pub ListedWhereDiffers : Type 0
ListedWhereDiffers =
    (a b : List ℕ) (before : ℕ)
    → is_listed (suc before) (differences_of a b) ≡ (ltb before (records_in_both a b) && differs_after a b before)

-- the items at those of the n numbers from k on where the test holds
unfoldable pub items_from : ℕ → ℕ → (ℕ → Bool) → (ℕ → Difference) → List Difference
items_from zero k test item = []
items_from (suc n) k test item = item_if (test k) (item k) (items_from n (suc k) test item)

-- each item has the answers of the two logs' own runs, and so the list is known whole
abbrev pub ToldByOwnRuns : Type 0
ToldByOwnRuns =
    (a b : List ℕ)
    → differences_of a b
    ≡ items_from (records_in_both a b) 0 (differs_after a b) (λ before. record { number = suc before; first = told_after a before; second = told_after b before })

-- the promise of `compare`: of the logs a and b, the output and what it holds after, the count handed out, the part returned
pub record Comparing (a b entries after : List ℕ) (count : ℤ) (part : List ℕ) : Type 0 where
  pub result : count ≡ compare_result a b (length entries)
  pub buffer : after ≡ compare_entries a b entries
  pub leftover : part ≡ leftover_of a b (length entries)
  pub itself : NoneWithItself
  pub swap : SwappedLogs
  pub rising : NumbersRise
  pub exact : ListedWhereDiffers
  pub own : ToldByOwnRuns
