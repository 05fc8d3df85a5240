-- A fact about every number below a bound, from a test that antt computes. Assumes nothing.
use mathlib.Core.Path.{◌≡◌, ◌∙◌, subst, sym}
use mathlib.Core.Bool.{Bool, true, false, ◌&&◌}
use Prim.Native.Nat.{ℕ, zero, suc, ◌+◌, ◌<◌}
use native.Mathlib.Nat.{add-zero, zero-add, add-suc, suc-add, le_of_suc-le-suc, not-suc-le-zero}
use lib.Dec.{T, eqb, eqb→eq}

pub and_left : (a b : Bool) → T (a && b) → T a
and_left true b t = tt
and_left false b t = t

pub and_right : (a b : Bool) → T (a && b) → T b
and_right true b t = t
and_right false b t = absurd t

-- the test passes at each of n numbers from i on
abbrev pub from : (ℕ → Bool) → ℕ → ℕ → Bool
from f i zero = true
from f i (suc n) = f i && from f (suc i) n

at_from : (f : ℕ → Bool) (n i : ℕ) → T (from f i n) → (k : ℕ) → k < n → T (f (i + k))
at_from f zero i t k h = absurd (not-suc-le-zero h)
at_from f (suc n) i t zero h = subst (λ (m : ℕ). T (f m)) (sym (add-zero i)) (and_left (f i) (from f (suc i) n) t)
at_from f (suc n) i t (suc k) h =
    subst (λ (m : ℕ). T (f m)) (suc-add i k ∙ sym (add-suc i k))
    (at_from f n (suc i) (and_right (f i) (from f (suc i) n) t) k (le_of_suc-le-suc h))

pub every : (f : ℕ → Bool) (n : ℕ) → T (from f 0 n) → (k : ℕ) → k < n → T (f k)
every f n t k h = subst (λ (m : ℕ). T (f m)) (zero-add k) (at_from f n 0 t k h)

-- the same over two numbers
pub every² : (f : ℕ → ℕ → Bool) (n m : ℕ) → T (from (λ i. from (f i) 0 m) 0 n) → (i j : ℕ) → i < n → j < m → T (f i j)
every² f n m t i j hi hj = every (f i) m (every (λ i. from (f i) 0 m) n t i hi) j hj

-- two functions agree below n
pub agree : (f g : ℕ → ℕ) (n : ℕ) → T (from (λ k. eqb (f k) (g k)) 0 n) → (k : ℕ) → k < n → f k ≡ g k
agree f g n t k h = eqb→eq (f k) (g k) (every (λ k. eqb (f k) (g k)) n t k h)
