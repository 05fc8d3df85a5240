-- Laws of decimal numbers. Assumes nothing.
use mathlib.Core.Path.{◌≡◌, refl}
use mathlib.Core.Bool.{Bool, true, false, cond}
use mathlib.Core.List.{List, [], ◌∷◌, ◌++◌}
use Prim.Native.Nat.{ℕ, zero, suc, ◌+◌, ◌*◌, ◌-◌, ◌/◌, ◌%◌, ◌^◌, ◌<◌, ◌≤◌}
use native.Mathlib.Nat.{pow-suc}
use native.Mathlib.Omega.{arith}
use borrow.Author.Tests.{lt-ltb, le-ltb, ltb-false}
use lib.Dec.{ltb}
use lib.ListN.{length, length-append}
use Rattle.log_text.specs.Decimal.{digit, decimal_within, decimal_of, spelled, DecimalSpells}

where_false : (t : Bool) (x y z : List ℕ) → (t ≡ false → y ≡ z) → cond t x y ≡ cond t x z
where_false true x y z f = refl
where_false false x y z f = f refl

-- any count of digits that is enough gives the same
enough : (j k n : ℕ) → n < j → n < k → decimal_within j n ≡ decimal_within k n
unfolding decimal_within
enough zero k n a b = absurd (omega arith)
enough (suc j) zero n a b = absurd (omega arith)
enough (suc j) (suc k) n a b =
    where_false (ltb n 10) _ _ _ λ e.
    let big : 10 ≤ n = ltb-false n 10 e in rw (enough j k (n / 10) (omega arith) (omega arith))

pub decimal_small : (n : ℕ) → n < 10 → decimal_of n ≡ digit n ∷ []
unfolding decimal_of decimal_within
decimal_small n h = simp (lt-ltb n 10 h)

pub decimal_tens : (n : ℕ) → 10 ≤ n → decimal_of n ≡ decimal_of (n / 10) ++ (digit (n % 10) ∷ [])
unfolding decimal_of decimal_within
decimal_tens n h = simp (le-ltb n 10 h, enough n (suc (n / 10)) (n / 10) (omega arith) (omega arith))

either_length : (t : Bool) (x y : List ℕ) (m : ℕ) → length x ≤ m → length y ≤ m → length (cond t x y) ≤ m
either_length true x y m p q = p
either_length false x y m p q = q

within_length : (j k n : ℕ) → n < 10 ^ suc k → length (decimal_within j n) ≤ suc k
unfolding decimal_within
within_length zero k n h = omega arith
within_length (suc j) zero n h = let small : n < 10 = h in simp (lt-ltb n 10 small) (omega arith)
within_length (suc j) (suc k) n h =
    let tenfold : 10 ^ suc (suc k) ≡ 10 ^ suc k * 10 = pow-suc 10 (suc k) in
    either_length (ltb n 10) _ _ _ (omega arith)
    (rw length-append (omega (arith, within_length j k (n / 10) (omega arith))))

-- a number below a power of ten has at most as many digits as its exponent
pub decimal_length : (k n : ℕ) → n < 10 ^ suc k → length (decimal_of n) ≤ suc k
unfolding decimal_of
decimal_length k n h = within_length (suc n) k n h

pub small_length : (n : ℕ) → n < 10 → length (decimal_of n) ≡ 1
small_length n h = rw (decimal_small n h)

pub tens_length : (n : ℕ) → 10 ≤ n → length (decimal_of n) ≡ length (decimal_of (n / 10)) + 1
tens_length n h = rw (decimal_tens n h, length-append)

spelled_append : (n : ℕ) (u v : List ℕ) → spelled n (u ++ v) ≡ spelled (spelled n u) v
unfolding spelled
spelled_append n [] v = refl
spelled_append n (x ∷ u) v = spelled_append (10 * n + (x - digit 0)) u v

either_spells : (t : Bool) (x y : List ℕ) (n : ℕ) → (t ≡ true → spelled 0 x ≡ n) → (t ≡ false → spelled 0 y ≡ n) → spelled 0 (cond t x y) ≡ n
either_spells true x y n f g = f refl
either_spells false x y n f g = g refl

within_spells : (k n : ℕ) → n < k → spelled 0 (decimal_within k n) ≡ n
unfolding decimal_within spelled
within_spells zero n h = absurd (omega arith)
within_spells (suc k) n h =
    either_spells (ltb n 10) _ _ _ (λ e. omega arith) λ e.
    let big : 10 ≤ n = ltb-false n 10 e in
    rw (spelled_append 0 (decimal_within k (n / 10)) (digit (n % 10) ∷ []), within_spells k (n / 10) (omega arith)) (omega arith)

pub decimal_spells : DecimalSpells
unfolding decimal_of
decimal_spells n = within_spells (suc n) n (omega arith)
