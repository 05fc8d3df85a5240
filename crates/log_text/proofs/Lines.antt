-- Laws of lines. Assumes nothing.
use mathlib.Core.Path.{◌≡◌, refl}
use mathlib.Core.Bool.{true}
use mathlib.Core.List.{List, [], ◌∷◌, ◌++◌, append_assoc}
use Prim.Native.Nat.{ℕ, suc, ◌+◌, ◌*◌, ◌-◌, ◌^◌, ◌<◌, ◌≤◌}
use native.Mathlib.Nat.{add-zero}
use native.Mathlib.Omega.{arith}
use Rattle.std.proofs.Common.{Some}
use lib.ListN.{length, length-append, length-drop, take, drop, get_or-append}
use lib.Seq.{drop-drop, drop-append-le}
use Rattle.records.specs.declared.Kind.TheVariants.{FrameHeard}
use Rattle.records.specs.Records.{byte_at, kind_by}
use Rattle.mcp2515.specs.declared.Chip.{Chip}
use Rattle.mcp2515.specs.declared.Stepped.{Stepped}
use Rattle.mcp2515.specs.Step.{step_of, outcome_in}
use Rattle.bus_log.specs.Log.{record_size, steps_of, last_chip, all_refused}
use Rattle.bus_log.proofs.Steps.{steps_from}
use Rattle.bus_log.proofs.Advance.{first_refused}
use Rattle.log_text.specs.Decimal.{decimal_of, decimal_within}
use Rattle.log_text.specs.Line.{field_of, line_of, frame_line_of, frame_kind, record_line, lines_of}
use Rattle.log_text.specs.Storing.{Stored}
use Rattle.log_text.proofs.Decimals.{decimal_length}

-- the number of a frame's kind
frame_kind_lem : kind_by frame_kind ≡ Some FrameHeard
frame_kind_lem = refl

field_length : (n end : ℕ) → length (field_of n end) ≡ length (decimal_of n) + 1
unfolding field_of
field_length n end = rw length-append

pub number_length : (n : ℕ) → n ≤ 2 ^ 32 → length (decimal_of n) ≤ 10
number_length n h = decimal_length 9 n (omega arith)

pub byte_length : (b : ℕ) → b < 2 ^ 8 → length (decimal_of b) ≤ 3
byte_length b h = decimal_length 2 b (omega arith)

-- the place after a field
pub after_number : (n end : ℕ) {l m : List ℕ} {at p : ℕ} → n ≤ 2 ^ 32 → Stored l at (field_of n end) m p → p ≤ at + 11
after_number n end h s = omega (arith, s.place, field_length n end, number_length n h)

pub after_byte : (b end : ℕ) {l m : List ℕ} {at p : ℕ} → b < 2 ^ 8 → Stored l at (field_of b end) m p → p ≤ at + 4
after_byte b end h s = omega (arith, s.place, field_length b end, byte_length b h)

-- over the chip c, the lines from record i of a part on, of count records: its own, and those from the next one on
module _ (count i n : ℕ) (c : Chip) (part : List ℕ) (more : i < count) where
  abbrev step : Stepped
  step = step_of c (take record_size (drop (record_size * i) part))

  abbrev later : List ℕ
  later = drop (record_size * (i + 1)) part

  pub next_line : lines_of n (drop (record_size * i) part) (steps_of (count - i) c (drop (record_size * i) part))
      ≡ record_line (byte_at (drop (record_size * i) part) 0) (n + 1) (outcome_in step) ++ lines_of (n + 1) later (steps_of (count - (i + 1)) step.chip later)
  unfolding lines_of
  next_line =
      let d : record_size * (i + 1) ≡ record_size * i + record_size = omega arith in
      rw (steps_from count i c part more, d, drop-drop record_size (record_size * i) part)

  pub later_chip : last_chip c (steps_of (count - i) c (drop (record_size * i) part)) ≡ last_chip step.chip (steps_of (count - (i + 1)) step.chip later)
  unfolding last_chip
  later_chip = rw (steps_from count i c part more)

  -- where each of these steps was refused, the first was, and so were the others
  pub next_refused : all_refused (steps_of (count - i) c (drop (record_size * i) part)) ≡ true
      → (step.refusal ≡ 0 → ⊥) × (all_refused (steps_of (count - (i + 1)) step.chip later) ≡ true)
  next_refused h = first_refused step _ (rw (steps_from count i c part more) at h)

-- the lines of some steps, and then of others from the place after their records
pub lines_append : (n : ℕ) (log : List ℕ) (ss ts : List Stepped)
    → lines_of n log (ss ++ ts) ≡ lines_of n log ss ++ lines_of (n + length ss) (drop (length ss * record_size) log) ts
unfolding lines_of
lines_append n log [] ts = rw add-zero
lines_append n log (s ∷ ss) ts =
    let later : n + suc (length ss) ≡ n + 1 + length ss = omega arith in
    let past : suc (length ss) * record_size ≡ record_size + length ss * record_size = omega arith in
    rw (later, past, lines_append (n + 1) (drop record_size log) ss ts, append_assoc, drop-drop)

-- the lines of the first steps of a log do not depend on what follows their records
pub lines_prefix : (n : ℕ) (a b : List ℕ) (ss : List Stepped) → length ss * record_size ≤ length a → lines_of n (a ++ b) ss ≡ lines_of n a ss
unfolding lines_of
lines_prefix n a b [] h = refl
lines_prefix n a b (s ∷ ss) h =
    let one : record_size ≤ length a = omega arith in
    let rest : length ss * record_size ≤ length (drop record_size a) = rw length-drop (omega arith) in
    rw (get_or-append a b 0 0 (omega arith), drop-append-le record_size a b one, lines_prefix (n + 1) (drop record_size a) b ss rest)

-- `65536 8 0` and a newline, computed
worked : line_of 65536 8 0 ≡ 54 ∷ 53 ∷ 53 ∷ 51 ∷ 54 ∷ 32 ∷ 56 ∷ 32 ∷ 48 ∷ 10 ∷ []
unfolding line_of field_of decimal_of decimal_within
worked = refl

-- `7 0 1 3` and a newline: a frame that filters 0 and 1 match, stored in RXB0
worked_frame : record_line frame_kind 7 (record { refusal = 0; answer = 1; matched = 3 }) ≡ 55 ∷ 32 ∷ 48 ∷ 32 ∷ 49 ∷ 32 ∷ 51 ∷ 10 ∷ []
unfolding record_line frame_line_of field_of decimal_of decimal_within
worked_frame = refl
