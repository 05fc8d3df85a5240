-- Lists of ranks, ordered by the first number in which they differ. Assumes nothing.
use mathlib.Core.Path.{◌≡◌, refl, sym}
use mathlib.Core.Bool.{Bool, true, false, ◌&&◌, ◌||◌}
use mathlib.Core.List.{List, [], ◌∷◌}
use Prim.Native.Nat.{ℕ, ◌≤◌}
use native.Mathlib.Omega.{arith}
use lib.Dec.{ltb, eqb}
use lib.ListN.{length}
use borrow.Author.Tests.{ltb-false, eqb-true, le-ltb, eq-eqb}
use Rattle.bit_timing.specs.Timing.{is_less}

-- a list is not less if its first number is not, and the rest is not less where the first numbers are the same
pub not_less : (x y : ℕ) (xs ys : List ℕ) → y ≤ x → (x ≡ y → is_less xs ys ≡ false) → is_less (x ∷ xs) (y ∷ ys) ≡ false
not_less x y xs ys h rest = rw (le-ltb x y h) (go (eqb x y) refl)
  where
    go : (same : Bool) → eqb x y ≡ same → (same && is_less xs ys) ≡ false
    go true e = rest (eqb-true x y e)
    go false e = refl

or_left : (a b : Bool) → (a || b) ≡ false → a ≡ false
or_left true b e = e
or_left false b e = refl

or_right : (a b : Bool) → (a || b) ≡ false → b ≡ false
or_right true b e = cc
or_right false b e = e

-- where neither list is less, the first numbers are the same, and neither rest is less
module _ (x y : ℕ) (xs ys : List ℕ) (up : is_less (x ∷ xs) (y ∷ ys) ≡ false) where
  first_not_less : y ≤ x
  first_not_less = ltb-false x y (or_left (ltb x y) (eqb x y && is_less xs ys) up)

  rest_not_less : x ≡ y → is_less xs ys ≡ false
  rest_not_less e = rw (eq-eqb x y e) at (or_right (ltb x y) (eqb x y && is_less xs ys) up)

-- lists of one length of which neither is less are the same
pub same : (xs ys : List ℕ) → length xs ≡ length ys → is_less xs ys ≡ false → is_less ys xs ≡ false → xs ≡ ys
same [] [] long up down = refl
same [] (y ∷ ys) long up down = absurd (omega arith)
same (x ∷ xs) [] long up down = absurd (omega arith)
same (x ∷ xs) (y ∷ ys) long up down =
    let first : x ≡ y = omega (arith, first_not_less x y xs ys up, first_not_less y x ys xs down) in
    let rest : xs ≡ ys = same xs ys (omega arith) (rest_not_less x y xs ys up first) (rest_not_less y x ys xs down (sym first)) in
    cc
