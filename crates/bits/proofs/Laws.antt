-- The bits of a byte that was set, cleared or merged. Assumes nothing.
use mathlib.Core.Path.{◌≡◌, refl, ap}
use mathlib.Core.Bool.{Bool, true, false, cond, not, ◌&&◌, ◌||◌}
use Prim.Native.Nat.{ℕ, zero, suc, ◌-◌, ◌/◌, ◌^◌, ◌<◌, min, max}
use native.Mathlib.Omega.{arith}
use lib.Dec.{eqb, ltb, eqb→eq, ltb→lt}
use borrow.Author.Tests.{ne_eqb, eqb-true, eqb-false}
use lib.Bits.{bit_and, bit_or, and_step, or_step, and_shr, or_shr}
use Rattle.bits.specs.Bit.{bit, has_bit, power_of, set_bit, clear_bit, SetBitwise, ClearBitwise, MergedBitwise}
use Rattle.bits.proofs.All.{every, every²}

pub bit-bit_and : (a b k : ℕ) → bit (bit_and a b) k ≡ min (bit a k) (bit b k)
bit-bit_and a b k = rw (and_shr a b k) (omega (arith, and_step (a / 2 ^ k) (b / 2 ^ k)))

pub bit-bit_or : (a b k : ℕ) → bit (bit_or a b) k ≡ max (bit a k) (bit b k)
bit-bit_or a b k = rw (or_shr a b k) (omega (arith, or_step (a / 2 ^ k) (b / 2 ^ k)))

-- the complement of a byte has the other bit
complement : ℕ → ℕ → Bool
complement m k = eqb (bit (255 - m) k) (1 - bit m k)

bit_complement : (m k : ℕ) → m < 256 → k < 8 → bit (255 - m) k ≡ 1 - bit m k
unfolding complement
bit_complement m k hm hk = eqb→eq (bit (255 - m) k) (1 - bit m k) (every² complement 256 8 tt m k hm hk)

power_lt : (k : ℕ) → k < 8 → power_of k < 256
power_lt k h = ltb→lt (power_of k) 256 (every (λ k. ltb (power_of k) 256) 8 tt k h)

-- the bits of a power of two
bit_power_same : (k : ℕ) → k < 8 → bit (power_of k) k ≡ 1
bit_power_same k h = eqb→eq (bit (power_of k) k) 1 (every (λ k. eqb (bit (power_of k) k) 1) 8 tt k h)

apart : ℕ → ℕ → Bool
apart i j = eqb i j || eqb (bit (power_of i) j) 0

bit_power_other : (i j : ℕ) → i < 8 → j < 8 → (i ≡ j → ⊥) → bit (power_of i) j ≡ 0
unfolding apart
bit_power_other i j hi hj ne = eqb→eq (bit (power_of i) j) 0 (rw (ne_eqb i j ne) at (every² apart 8 8 tt i j hi hj))

-- ---- a bit that was set or cleared, and every other
module _ (x i : ℕ) (hi : i < 8) where
  pub has_set_same : has_bit (set_bit x i) i ≡ true
  has_set_same =
      let e : bit (set_bit x i) i ≡ 1 = omega (arith, bit-bit_or x (power_of i) i, bit_power_same i hi) in
      rw e

  pub has_clear_same : has_bit (clear_bit x i) i ≡ false
  has_clear_same =
      let e : bit (clear_bit x i) i ≡ 0 = omega (arith, bit-bit_and x (255 - power_of i) i, bit_complement (power_of i) i (power_lt i hi) hi, bit_power_same i hi) in
      rw e

  module _ (j : ℕ) (hj : j < 8) (ne : i ≡ j → ⊥) where
    pub has_set_other : has_bit (set_bit x i) j ≡ has_bit x j
    has_set_other =
        let e : bit (set_bit x i) j ≡ bit x j = omega (arith, bit-bit_or x (power_of i) j, bit_power_other i j hi hj ne) in
        ap (λ (n : ℕ). eqb n 1) e

    pub has_clear_other : has_bit (clear_bit x i) j ≡ has_bit x j
    has_clear_other =
        let e : bit (clear_bit x i) j ≡ bit x j = omega (arith, bit-bit_and x (255 - power_of i) j, bit_complement (power_of i) j (power_lt i hi) hj, bit_power_other i j hi hj ne) in
        ap (λ (n : ℕ). eqb n 1) e

one_bit : (m o n : ℕ) → m < 2 → o < 2 → n < 2 → max (min o (1 - m)) (min n m) ≡ cond (eqb m 1) n o
one_bit zero o n hm ho hn = omega arith
one_bit (suc zero) o n hm ho hn = omega arith
one_bit (suc (suc m)) o n hm ho hn = absurd (omega arith)

-- bit k of a merge: the new one where the mask has a 1, else the old one
pub merged_bitwise : MergedBitwise
merged_bitwise m o n k hm hk =
    rw (bit-bit_or (bit_and o (255 - m)) (bit_and n m) k, bit-bit_and o (255 - m) k, bit-bit_and n m k, bit_complement m k hm hk)
    (one_bit (bit m k) (bit o k) (bit n k) (omega arith) (omega arith) (omega arith))

pub set_bitwise : SetBitwise
set_bitwise x i j hi hj = go (eqb i j) refl
  where
    go : (b : Bool) → eqb i j ≡ b → has_bit (set_bit x i) j ≡ (eqb i j || has_bit x j)
    go true e = let same : i ≡ j = eqb-true i j e in rw (e, ← same) (has_set_same x i hi)
    go false e = rw e (has_set_other x i hi j hj (eqb-false i j e))

pub clear_bitwise : ClearBitwise
clear_bitwise x i j hi hj = go (eqb i j) refl
  where
    go : (b : Bool) → eqb i j ≡ b → has_bit (clear_bit x i) j ≡ (not (eqb i j) && has_bit x j)
    go true e = let same : i ≡ j = eqb-true i j e in rw (e, ← same) (has_clear_same x i hi)
    go false e = rw e (has_clear_other x i hi j hj (eqb-false i j e))
