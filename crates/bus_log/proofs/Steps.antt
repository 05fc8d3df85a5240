-- Laws of a log's steps. Assumes nothing.
use mathlib.Core.Path.{◌≡◌, refl, ap, ◌∙◌}
use mathlib.Core.List.{List, [], ◌∷◌, ◌++◌}
use Prim.Native.Nat.{ℕ, zero, suc, ◌+◌, ◌*◌, ◌-◌, ◌<◌, ◌≤◌}
use native.Mathlib.Omega.{arith}
use lib.ListN.{length, get_or, take, drop, length-drop}
use lib.Seq.{drop-drop, take_all, take-append-le, drop-append-le}
use Rattle.std.specs.Simd.{first_chunks}
use Rattle.mcp2515.specs.declared.Chip.{Chip}
use Rattle.mcp2515.specs.declared.Stepped.{Stepped}
use Rattle.mcp2515.specs.Step.{step_of}
use Rattle.bus_log.specs.Log.{record_size, steps_of, steps_in, last_chip}

-- record i of the records of a log
pub chunk_at : (n i : ℕ) (log : List ℕ) → i < n → get_or (first_chunks record_size n log) i [] ≡ take record_size (drop (record_size * i) log)
chunk_at zero i log h = absurd (omega arith)
chunk_at (suc n) zero log h = refl
chunk_at (suc n) (suc i) log h =
    let e : record_size * suc i ≡ record_size + record_size * i = omega arith in
    chunk_at n i (drop record_size log) (omega arith) ∙ rw (e, drop-drop (record_size * i) record_size log)

-- the steps from record i on: its own, and those from the next one on
pub steps_from : (n i : ℕ) (c : Chip) (log : List ℕ) → i < n
    → steps_of (n - i) c (drop (record_size * i) log)
    ≡ step_of c (take record_size (drop (record_size * i) log)) ∷ steps_of (n - (i + 1)) (step_of c (take record_size (drop (record_size * i) log))).chip (drop (record_size * (i + 1)) log)
unfolding steps_of
steps_from n i c log h =
    let e : n - i ≡ suc (n - (i + 1)) = omega arith in
    let d : record_size * (i + 1) ≡ record_size * i + record_size = omega arith in
    rw (e, d, ← drop-drop record_size (record_size * i) log)

-- behind the last record there are none
pub none_left : (n i : ℕ) (c : Chip) (log : List ℕ) → n ≤ i → steps_of (n - i) c log ≡ []
unfolding steps_of
none_left n i c log h = let e : n - i ≡ 0 = omega arith in rw e

-- a log that is one record
pub one_step : (c : Chip) (r : List ℕ) → length r ≡ record_size → steps_in c r ≡ step_of c r ∷ []
unfolding steps_of
one_step c r e = rw e (ap (λ (l : List ℕ). step_of c l ∷ []) (take_all record_size r (omega arith)))

pub length_steps : (n : ℕ) (c : Chip) (log : List ℕ) → length (steps_of n c log) ≡ n
unfolding steps_of
length_steps zero c log = refl
length_steps (suc n) c log =
    ap suc (length_steps n (step_of c (take record_size log)).chip (drop record_size log))

empty : (l : List ℕ) → length l ≡ 0 → l ≡ []
empty [] h = refl
empty (x ∷ l) h = absurd (omega arith)

-- the steps of a log that is cut between two records: those of the first part, and those of the second over the chip that the first left
pub steps_append : (k m : ℕ) (c : Chip) (a b : List ℕ) → length a ≡ k * record_size
    → steps_of (k + m) c (a ++ b) ≡ steps_of k c a ++ steps_of m (last_chip c (steps_of k c a)) b
unfolding steps_of last_chip
steps_append zero m c a b h =
    let none : a ≡ [] = empty a (omega arith) in
    let same : 0 + m ≡ m = omega arith in
    simp (none, same)
steps_append (suc k) m c a b h =
    let more : suc k + m ≡ suc (k + m) = omega arith in
    let one : record_size ≤ length a = omega arith in
    let rest : length (drop record_size a) ≡ k * record_size = rw length-drop (omega arith) in
    rw more
    (simp (take-append-le record_size a b one, drop-append-le record_size a b one, steps_append k m (step_of c (take record_size a)).chip (drop record_size a) b rest))

-- the first steps of a log do not depend on what follows their records
pub steps_prefix : (k : ℕ) (c : Chip) (a b : List ℕ) → k * record_size ≤ length a → steps_of k c (a ++ b) ≡ steps_of k c a
unfolding steps_of
steps_prefix zero c a b h = refl
steps_prefix (suc k) c a b h =
    let one : record_size ≤ length a = omega arith in
    let rest : k * record_size ≤ length (drop record_size a) = rw length-drop (omega arith) in
    simp (take-append-le record_size a b one, drop-append-le record_size a b one, steps_prefix k (step_of c (take record_size a)).chip (drop record_size a) b rest)

pub chip_append : (c : Chip) (ss ts : List Stepped) → last_chip c (ss ++ ts) ≡ last_chip (last_chip c ss) ts
unfolding last_chip
chip_append c [] ts = refl
chip_append c (s ∷ ss) ts = chip_append s.chip ss ts
