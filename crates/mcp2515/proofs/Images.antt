-- A chip by value and its image. Assumes nothing.
use mathlib.Core.Bool.{true}
use mathlib.Core.List.{List, [], ◌∷◌, ◌++◌}
use mathlib.Core.Path.{◌≡◌, refl, ap, ◌∙◌}
use Prim.Native.Nat.{ℕ, suc, ◌+◌, ◌≤◌}
use native.Mathlib.Omega.{arith}
use lib.ListN.{length, set, take, drop, length-drop}
use lib.Seq.{sets, sets-eq, length-sets, take_at}
use Rattle.records.specs.declared.Fields.{Fields}
use Rattle.records.specs.declared.Outcome.{Outcome}
use Rattle.records.specs.Records.{record_of}
use Rattle.registers.specs.declared.Core.{Core}
use Rattle.registers.specs.State.{with_control, with_pins}
use Rattle.registers.specs.Registers.{power_on_core}
use Rattle.image.specs.Image.{image_size, is_chip, decoded, encoded, core_of, power_on_bytes, Became}
use Rattle.image.proofs.Laws.{slice_above, sets_kept, drop-sets}
use Rattle.spi.specs.Open.{Turned}
use Rattle.mcp2515.specs.declared.Chip.{Chip}
use Rattle.mcp2515.specs.declared.Stepped.{Stepped}
use Rattle.mcp2515.specs.Step.{power_on, step_of, outcome, next_chip}
use Rattle.mcp2515.specs.ChipImage.{wanted_outcome, chip_of, Packed, Moved}

-- ---- bytes copied one after the other
pub sets_snoc : (m : List ℕ) (at : ℕ) (xs : List ℕ) (v : ℕ) → sets m at (xs ++ (v ∷ [])) ≡ set (sets m at xs) (at + length xs) v
sets_snoc m at [] v = let e : at + 0 ≡ at = omega arith in rw e
sets_snoc m at (x ∷ xs) v =
    let e : at + suc (length xs) ≡ suc at + length xs = omega arith in
    sets_snoc (set m at x) (suc at) xs v ∙ rw e

-- ---- a part stored at its place is read back there, and no other part changes
pub part_at : (m vs : List ℕ) (i n : ℕ) → length vs ≡ n → i + n ≤ length m → take n (drop i (sets m i vs)) ≡ vs
part_at m vs i n e h =
    let z : i + 0 ≡ i = omega arith in
    let room : 0 + length vs ≤ length (drop i m) = rw length-drop (omega arith) in
    rw (rw z at (drop-sets m i 0 vs), sets-eq vs (drop i m) 0 room) (take_at vs _ n e)

pub part_below : (m vs : List ℕ) (i j n : ℕ) → j + n ≤ i → take n (drop j (sets m i vs)) ≡ take n (drop j m)
part_below m vs i j n h = sets_kept (λ l. take n (drop j l)) (j + n) (λ l k v p. slice_above j n l k v p) m i vs h

-- ---- the chip that was put in
pub packed_in : (z m l n : List ℕ) (c : Chip) → take 48 z ≡ c.core.config → take 48 (drop 48 z) ≡ c.core.tx → take 32 (drop 96 z) ≡ c.core.rx
    → Became z m (with_control (core_of z) c.core.control) → Became m l (with_pins (core_of m) c.core.pins) → Turned l n (core_of l) c.select → Packed n c
packed_in z m l n c p q r w v t =
    let core : core_of n ≡ with_pins (with_control (core_of z) c.core.control) c.core.pins =
    t.core ∙ v.core ∙ ap (λ (k : Core). with_pins k c.core.pins) w.core in
    record { size = t.size; chip = rw (core, t.select, p, q, r) }

-- ---- three parts stored one after the other
filled_size : (m n vs : List ℕ) (at : ℕ) → n ≡ sets m at vs → length n ≡ length m
filled_size m n vs at e = ap length e ∙ length-sets m at vs

pub bytes_in : (z a b d c t r : List ℕ) → length z ≡ image_size → length c ≡ 48 → length t ≡ 48 → length r ≡ 32
    → a ≡ sets z 0 c → b ≡ sets a 48 t → d ≡ sets b 96 r
    → (take 48 d ≡ c) × (take 48 (drop 48 d) ≡ t) × (take 32 (drop 96 d) ≡ r)
bytes_in z a b d c t r l x y w p q s =
    let la : length a ≡ image_size = filled_size z a c 0 p ∙ l in
    let lb : length b ≡ image_size = filled_size a b t 48 q ∙ la in
    let first : List ℕ → List ℕ = λ m. take 48 m in
    let second : List ℕ → List ℕ = λ m. take 48 (drop 48 m) in
    let third : List ℕ → List ℕ = λ m. take 32 (drop 96 m) in (
      ap first s ∙ part_below b r 96 0 48 (omega arith) ∙ ap first q ∙ part_below a t 48 0 48 (omega arith) ∙ ap first p ∙ part_at z c 0 48 x (omega arith),
      ap second s ∙ part_below b r 96 48 48 (omega arith) ∙ ap second q ∙ part_at a t 48 48 y (omega arith),
      ap third s ∙ part_at b r 96 32 w (omega arith),
    )

-- ---- power-on
pub power_on_chip : chip_of power_on_bytes ≡ power_on
unfolding power_on power_on_core power_on_bytes encoded decoded
power_on_chip = refl

pub power_on_is_chip : is_chip power_on_bytes ≡ true
unfolding is_chip power_on_bytes encoded
power_on_is_chip = refl

-- ---- a chip put in, stepped in place and taken out
pub stepped_back : (m n : List ℕ) (c d : Chip) (f : Fields) (r : List ℕ) (o : Outcome) → Packed m c → record_of f ≡ r
    → o ≡ wanted_outcome true (outcome (chip_of m) (record_of f)) → Moved m n (next_chip (chip_of m) (record_of f)) → d ≡ chip_of n
    → record { chip = d; refusal = o.refusal; answer = o.answer; matched = o.matched } ≡ step_of c r
stepped_back m n c d f r o p e a v q =
    let s : Stepped = step_of (chip_of m) (record_of f) in
    ap (λ (k : Chip). record { chip = k; refusal = o.refusal; answer = o.answer; matched = o.matched }) (q ∙ v.packed.chip)
    ∙ ap (λ (y : Outcome). record { chip = s.chip; refusal = y.refusal; answer = y.answer; matched = y.matched }) a
    ∙ ap (λ (k : Chip). step_of k (record_of f)) p.chip
    ∙ ap (λ (l : List ℕ). step_of c l) e
