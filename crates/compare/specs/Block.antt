-- What the code compares: answers as bytes, a block of records at a time, from the first record on that differs. Laws tie all of it to
-- the list of differences. Assumes nothing: these are definitions.
use Rattle.std.specs.Prelude.{◌≡◌, Bool, true, cond, List, [], ◌++◌, ℕ, zero, suc, ◌+◌, ◌*◌, ◌-◌, ◌≤◌, ltb, length, get_or, take, drop, Result, Ok, Err}
use Rattle.std.proofs.lemmas.List.Edits.{sets}
use Rattle.records.specs.declared.Outcome.{Outcome}
use Rattle.records.specs.declared.Refusal.{Refusal}
use Rattle.records.specs.Records.{accepted, refusal_number}
use Rattle.image.specs.Image.{is_chip}
use Rattle.mcp2515.specs.declared.Chip.{Chip}
use Rattle.mcp2515.specs.ChipImage.{chip_of}
use Rattle.bus_log.specs.Log.{record_size, records_in, steps_of, last_chip, answers_of}
use Rattle.bus_log.specs.Run.{answer_size, answer_room}
use Rattle.compare.specs.declared.pair.Pair.{Pair}
use Rattle.compare.specs.Compare.{same_bytes, differs, Difference, item_if, differences_from, differences_of, entries_of, entry_room}

-- refusal, answer and set in the first three of some bytes
abbrev pub told_by : List ℕ → Outcome
told_by told = record { refusal = get_or told 0 0; answer = get_or told 1 0; matched = get_or told 2 0 }

-- the differences of the next n records of the logs a and b with the answer bytes of either
unfoldable pub differences_in : ℕ → ℕ → List ℕ → List ℕ → List ℕ → List ℕ → List Difference
differences_in zero before a told b other = []
differences_in (suc n) before a told b other =
    item_if (differs (take record_size a) (told_by told) (take record_size b) (told_by other))
    (record { number = suc before; first = told_by told; second = told_by other })
    (differences_in n (suc before) (drop record_size a) (drop (answer_size true) told) (drop record_size b) (drop (answer_size true) other))

-- the differences of a pair of parts: with the answer bytes of either, and run from one chip
abbrev pub differences_told : Pair → List ℕ → List ℕ → List Difference
differences_told p told other =
    differences_in (records_in (length p.first.now)) p.before p.first.now told p.second.now other

abbrev pub differences_behind : Pair → Chip → List Difference
differences_behind p c =
    differences_from (records_in (length p.first.now)) p.before c c p.first.now p.second.now

-- a run of the first count records of a log over the chip bytes m, left as n; `Ran`: with their answers stored in told, left as after
pub record Ahead (count : ℕ) (log m n : List ℕ) : Type 0 where
  pub again : is_chip n ≡ true
  pub chip : chip_of n ≡ last_chip (chip_of m) (steps_of count (chip_of m) log)

pub record Ran (wanted : Bool) (count : ℕ) (log m n told after : List ℕ) : Type 0 where
  pub ahead : Ahead count log m n
  pub answers : after ≡ answers_of wanted (steps_of count (chip_of m) log) ++ drop (answer_room wanted count) told

-- an output that is empty, or has room for n entries
abbrev pub HasRoom : ℕ → List ℕ → Type 0
HasRoom n entries = (length entries ≡ 0 → ⊥) → entry_room n ≤ length entries

-- differences that are listed behind `found` earlier ones: they are counted, and stored in an output with room for them. An empty output stays
-- empty, whatever is stored
pub record Listing (ds : List Difference) (found : ℕ) (entries after : List ℕ) (r : ℕ) : Type 0 where
  pub counted : r ≡ found + length ds
  pub stored : after ≡ sets entries (entry_room found) (entries_of ds)

-- what is told of two logs: a refusal, 0 for none, and the number of entries; .. by a Result
pub record Compared : Type 0 where
  pub refusal : ℕ
  pub found : ℕ

abbrev pub compared_in : Result ℕ Refusal → Compared
compared_in (Ok n) = record { refusal = accepted; found = n }
compared_in (Err e) = record { refusal = refusal_number e; found = 0 }

-- .. by a refusal: with it no entry, without it all
unfoldable pub compared_by : ℕ → List ℕ → List ℕ → Compared
compared_by refusal a b = record { refusal = refusal; found = cond (ltb 0 refusal) 0 (length (differences_of a b)) }

-- how many of the first n records are the same in both logs, up to the first that is not
unfoldable pub agreeing_of : ℕ → List ℕ → List ℕ → ℕ
agreeing_of zero a b = 0
agreeing_of (suc n) a b =
    cond (same_bytes (take record_size a) (take record_size b)) (suc (agreeing_of n (drop record_size a) (drop record_size b))) 0

-- ---- laws that the proofs show
-- as long as both logs have agreed in every record, one chip serves for both
abbrev pub OneChip : Type 0
OneChip =
    (n before : ℕ) (c : Chip) (a b : List ℕ)
    → differences_from n before c c a b
    ≡ differences_from (n - agreeing_of n a b) (before + agreeing_of n a b)
    (last_chip c (steps_of (agreeing_of n a b) c a))
    (last_chip c (steps_of (agreeing_of n a b) c a))
    (drop (agreeing_of n a b * record_size) a)
    (drop (agreeing_of n a b * record_size) b)
