-- The first of one number more at which a function is least. Assumes nothing.
use mathlib.Core.Path.{◌≡◌}
use Prim.Native.Nat.{ℕ, ◌+◌, ◌<◌, ◌≤◌}
use native.Mathlib.Nat.{le_refl}
use native.Mathlib.Omega.{arith}
use borrow.Author.Count.{below_more}
use Rattle.bit_timing.specs.Pairs.{IsFirstLeast}

module _ (f : ℕ → ℕ) where
  pub one : IsFirstLeast f 1 0
  one = record { inside = omega arith; least = λ k h. alone k (omega arith); before = λ k h. omega arith }
    where
      alone : (k : ℕ) → k ≡ 0 → f 0 ≤ f k
      alone k e = rw e (le_refl (f 0))

  module _ (n first : ℕ) (so_far : IsFirstLeast f n first) where
    pub kept : f first ≤ f n → IsFirstLeast f (n + 1) first
    kept h =
        record {
          inside = omega (arith, so_far.inside);
          least = below_more (λ k. f first ≤ f k) n so_far.least h;
          before = so_far.before;
        }

    pub moved : f n < f first → IsFirstLeast f (n + 1) n
    moved h =
        record {
          inside = omega arith;
          least = below_more (λ k. f n ≤ f k) n (λ k l. omega (arith, so_far.least k l)) (le_refl (f n));
          before = λ k l. omega (arith, so_far.least k l);
        }
