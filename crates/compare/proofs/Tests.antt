-- When two lists have the same bytes, and when records differ. Assumes nothing.
use mathlib.Core.Path.{◌≡◌, refl, ap, ap₂, sym, ◌∙◌}
use mathlib.Core.Bool.{Bool, true, false, cond, ◌&&◌, and_assoc, and-true}
use mathlib.Core.List.{List, [], ◌∷◌}
use Prim.Native.Nat.{ℕ}
use native.Mathlib.Omega.{arith}
use borrow.Author.Tests.{eq-eqb, ne_eqb, eqb-true, eqb-false}
use Rattle.std.specs.Str.{bytes_eq}
use lib.Dec.{eqb}
use lib.ListN.{length, get_or}
use Rattle.records.specs.declared.Outcome.{Outcome}
use Rattle.compare.specs.Compare.{same_bytes, same_outcome, differs}
use Rattle.compare.specs.Block.{told_by}

-- a list is the same as itself
same_itself : (xs : List ℕ) → same_bytes xs xs ≡ true
same_itself [] = refl
same_itself (x ∷ xs) = rw (eq-eqb x x refl, same_itself xs)

never : {A : Type 0} → ◌≡◌ {A = Bool} false true → A
never e = let z : ◌≡◌ {A = ℕ} 1 0 = ap (λ (x : Bool). cond x 0 1) e in absurd (omega arith)

and_both : (a b : Bool) → a && b ≡ true → (a ≡ true) × (b ≡ true)
and_both true b e = (refl, e)
and_both false b e = never e

-- lists with the same bytes are one list
pub same_equal : (xs ys : List ℕ) → same_bytes xs ys ≡ true → xs ≡ ys
same_equal [] [] e = refl
same_equal [] (y ∷ ys) e = never e
same_equal (x ∷ xs) [] e = never e
same_equal (x ∷ xs) (y ∷ ys) e =
    let p = and_both (eqb x y) (same_bytes xs ys) e in
    ap₂ (λ (z : ℕ) (zs : List ℕ). z ∷ zs) (eqb-true x y p.0) (same_equal xs ys p.1)

eqb_swap : (x y : ℕ) → eqb x y ≡ eqb y x
eqb_swap x y = go (eqb x y) refl
  where
    go : (t : Bool) → eqb x y ≡ t → eqb x y ≡ eqb y x
    go true p = p ∙ sym (eq-eqb y x (sym (eqb-true x y p)))
    go false p = p ∙ sym (ne_eqb y x (λ e. eqb-false x y p (sym e)))

same_swap : (xs ys : List ℕ) → same_bytes xs ys ≡ same_bytes ys xs
same_swap [] [] = refl
same_swap [] (y ∷ ys) = refl
same_swap (x ∷ xs) [] = refl
same_swap (x ∷ xs) (y ∷ ys) = rw (eqb_swap x y, same_swap xs ys)

-- a record that is told the same in both logs does not differ
pub differs_itself : (r : List ℕ) (o : Outcome) → differs r o r o ≡ false
differs_itself r o = rw (same_itself r, eq-eqb o.refusal o.refusal refl, eq-eqb o.answer o.answer refl, eq-eqb o.matched o.matched refl)

pub differs_swap : (r s : List ℕ) (o p : Outcome) → differs r o s p ≡ differs s p r o
differs_swap r s o p = rw (same_swap r s, eqb_swap o.refusal p.refusal, eqb_swap o.answer p.answer, eqb_swap o.matched p.matched)

-- what `==` tells of two records
pub equal_same : (xs ys : List ℕ) → bytes_eq xs ys ≡ same_bytes xs ys
equal_same [] [] = refl
equal_same [] (y ∷ ys) = refl
equal_same (x ∷ xs) [] = refl
equal_same (x ∷ xs) (y ∷ ys) = rw (equal_same xs ys)

three : (t : List ℕ) → length t ≡ 3 → t ≡ get_or t 0 0 ∷ get_or t 1 0 ∷ get_or t 2 0 ∷ []
three [] h = absurd (omega arith)
three (x ∷ []) h = absurd (omega arith)
three (x ∷ y ∷ []) h = absurd (omega arith)
three (x ∷ y ∷ z ∷ []) h = refl
three (x ∷ y ∷ z ∷ w ∷ t) h = absurd (omega arith)

-- and of refusal, answer and set
pub told_same : (t u : List ℕ) → length t ≡ 3 → length u ≡ 3 → bytes_eq t u ≡ same_outcome (told_by t) (told_by u)
told_same t u h i = ap₂ bytes_eq (three t h) (three u i) ∙ simp (and_assoc, and-true)
