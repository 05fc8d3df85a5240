-- What lies past a list, and which bits of a byte of the profile a write reaches. Assumes nothing.
use mathlib.Core.Path.{◌≡◌, refl}
use mathlib.Core.Bool.{Bool, true, false, cond, ◌&&◌}
use mathlib.Core.List.{List, [], ◌∷◌, ◌++◌}
use Prim.Native.Nat.{ℕ, zero, suc, ◌%◌, ◌≤◌, ◌<◌}
use native.Mathlib.Omega.{arith}
use lib.Dec.{eqb, ltb}
use lib.ListN.{get_or, length}
use borrow.Author.Tests.{eqb-true, eqb-false}
use Rattle.bits.specs.Bit.{for_below}
use Rattle.bits.proofs.All.{agree}
use Rattle.registers.specs.Registers.{region_of, writable_of}
use Rattle.load_machine.specs.Profile.{address_of, bits_of}

pub past : (xs : List ℕ) (i : ℕ) → length xs ≤ i → get_or xs i 0 ≡ 0
past [] i h = refl
past (x ∷ xs) zero h = absurd (omega arith)
past (x ∷ xs) (suc i) h = past xs i (omega arith)

-- a 0 at the end shows nowhere
pub padded : (xs : List ℕ) (i : ℕ) → get_or (xs ++ 0 ∷ []) i 0 ≡ get_or xs i 0
padded [] zero = refl
padded [] (suc i) = refl
padded (x ∷ xs) zero = refl
padded (x ∷ xs) (suc i) = padded xs i

-- a test that fails below n does not hold at all numbers there
pub fails_below : (f : ℕ → Bool) (n k : ℕ) → k < n → f k ≡ false → for_below n f ≡ false
fails_below f zero k h e = absurd (omega arith)
fails_below f (suc n) k h e = go (eqb k n) refl (λ below. fails_below f n k below e)
  where
    neither : (b : Bool) → (b && false) ≡ false
    neither true = refl
    neither false = refl

    go : (last : Bool) → eqb k n ≡ last → (k < n → for_below n f ≡ false) → (for_below n f && f n) ≡ false
    go true same rest = rw (rw (eqb-true k n same) at e) (neither (for_below n f))
    go false same rest = rw (rest (omega (arith, eqb-false k n same))) refl

-- a write reaches what the code says, at each of the 256 indices
abbrev reached_bits : ℕ → ℕ
reached_bits i = cond (eqb i 32) 0x64 (cond (ltb 32 i) 0x60 (cond (eqb (i % 4) 1) (cond (ltb i 24) 0xEB 0xE3) 0xFF))

pub reached : (i : ℕ) → i < 256 → bits_of i ≡ reached_bits i
unfolding address_of writable_of region_of
reached = agree bits_of reached_bits 256 tt
