-- The list of bus events that a C program lends, each to come after so many commands. Assumes nothing: these are definitions.
use Rattle.std.specs.Prelude.{ℕ, zero, suc, ◌+◌, ◌*◌, ◌-◌, ◌/◌, ◌≤◌, max, Bool, false, cond, not, ◌||◌, List, [], ◌∷◌, ◌++◌, ◌≡◌, leb, length, get_or, take, drop}
use Rattle.std.proofs.lemmas.List.Edits.{sets}
use Rattle.records.specs.Records.{kind_of, is_event}
use Rattle.mcp2515.specs.declared.Chip.{Chip}
use Rattle.mcp2515.specs.Step.{chip_after}
use Rattle.mcp2515.specs.ChipImage.{chip_of}
use Rattle.profile_loader.specs.declared.Gap.{Gap}

-- ---- entries of 20 bytes
abbrev pub entry_size : ℕ
entry_size = 20

-- after how many commands, in four bytes, high first; then the record
pub record Timed : Type 0 where
  pub place : ℕ
  pub rec : List ℕ

abbrev pub place_of : List ℕ → ℕ
place_of b = get_or b 0 0 * 0x1000000 + get_or b 1 0 * 0x10000 + get_or b 2 0 * 0x100 + get_or b 3 0

abbrev pub timed_of : List ℕ → Timed
timed_of b = record { place = place_of b; rec = take 16 (drop 4 b) }

unfoldable pub entries_from : ℕ → List ℕ → List Timed
entries_from zero b = []
entries_from (suc n) b = timed_of b ∷ entries_from n (drop entry_size b)

abbrev pub entries_in : List ℕ → List Timed
entries_in b = entries_from (length b / entry_size) b

-- ---- which come when: in their order; 0 counts as 1; one whose place has gone by comes at once
abbrev pub is_bus_event : Timed → Bool
is_bus_event e = is_event (kind_of e.rec)

abbrev pub has_come : ℕ → Timed → Bool
has_come n e = leb (max 1 e.place) n

-- what is no event is passed over, wherever it stands; the first event that has not come holds up those behind it
unfoldable pub due : ℕ → List Timed → List (List ℕ)
due n [] = []
due n (e ∷ es) = cond (is_bus_event e) (cond (has_come n e) (e.rec ∷ due n es) []) (due n es)

unfoldable pub not_due : ℕ → List Timed → List Timed
not_due n [] = []
not_due n (e ∷ es) = cond (is_bus_event e) (cond (has_come n e) (not_due n es) (e ∷ es)) (not_due n es)

-- what is left of them before gap n
unfoldable pub left_before : ℕ → List Timed → List Timed
left_before zero es = es
left_before (suc n) es = not_due n (left_before n es)

-- the family that the entries give
abbrev pub gaps_of : List Timed → ℕ → List (List ℕ)
gaps_of es n = due n (left_before n es)

-- the first entry is passed over or has come
abbrev pub goes_by : ℕ → List Timed → Bool
goes_by n [] = false
goes_by n (e ∷ es) = not (is_bus_event e) || has_come n e

-- ---- what the code keeps of them
-- records one after the other, as a log has them
unfoldable pub log_of : List (List ℕ) → List ℕ
log_of [] = []
log_of (r ∷ rs) = r ++ log_of rs

-- where the last n of the entries begin, and these
abbrev pub start_at : List ℕ → ℕ → ℕ
start_at b n = (length b / entry_size - n) * entry_size

abbrev pub entries_left : List ℕ → ℕ → List Timed
entries_left b n = entries_from n (drop (start_at b n) b)

-- a chip, the entries that are left, and how many bytes of records were put down
pub record Between : Type 0 where
  pub chip : Chip
  pub left : ℕ
  pub sent : ℕ

-- the chip that the bytes m stand for, and what the code keeps beside them
abbrev pub between : List ℕ → Gap → Between
between m g = record { chip = chip_of m; left = g.left; sent = g.sent }

-- the records rs come to the chip of x, which is that of y then, and are put into the room behind what is there already
pub record Came (x y : Between) (rs : List (List ℕ)) (room after : List ℕ) : Type 0 where
  pub chip : y.chip ≡ chip_after x.chip rs
  pub sent : y.sent ≡ x.sent + 16 * length rs
  pub records : after ≡ sets room x.sent (log_of rs)

-- .. those that are due after n commands
pub record GapRun (x y : Between) (events : List ℕ) (n : ℕ) (room after : List ℕ) : Type 0 where
  pub came : Came x y (due n (entries_left events x.left)) room after
  pub left : entries_left events y.left ≡ not_due n (entries_left events x.left)
  pub fewer : y.left ≤ x.left
  pub bound : y.sent + 16 * y.left ≤ x.sent + 16 * x.left
