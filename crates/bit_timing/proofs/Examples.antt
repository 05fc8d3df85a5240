-- The table of plans: the first pair that is nearest, by a test over all pairs, and what follows from it. Assumes nothing.
use mathlib.Core.Path.{◌≡◌, refl}
use mathlib.Core.Bool.{Bool, true, false, cond}
use Prim.Native.Nat.{ℕ, ◌*◌, ◌<◌, ◌≤◌}
use native.Mathlib.Nat.{le_of_lt}
use native.Mathlib.Omega.{arith}
use lib.Dec.{T, leb, ltb, leb→le, ltb→lt, lit<, lit≤}
use borrow.Author.Tests.{lt-ltb}
use Rattle.bits.proofs.All.{from, every}
use Rattle.bit_timing.specs.Timing.{plan_refusal, difference_of, Planning}
use Rattle.bit_timing.specs.TimingCases.{PlansHold}
use Rattle.bit_timing.specs.Pairs.{pairs, size_at, IsFirstLeast}
use Rattle.std.specs.Prelude.{Some, None, Ok}
use Rattle.bit_timing.proofs.Best.{setting_of, best, none}
use Rattle.bit_timing.proofs.Plans.{planning}

-- the size at n is less than at the numbers before it, and no more than at the others
abbrev nearer : (ℕ → ℕ) → ℕ → ℕ → Bool
nearer f n k = cond (ltb k n) (ltb (f n) (f k)) (leb (f n) (f k))

module _ (f : ℕ → ℕ) (n : ℕ) (inside : n < pairs) (tested : T (from (nearer f n) 0 pairs)) where
  before : (k : ℕ) → k < n → f n < f k
  before k h =
      ltb→lt (f n) (f k) (rw (lt-ltb k n h) at (every (nearer f n) pairs tested k (omega arith)))

  after : (k : ℕ) → (ahead : Bool) → ltb k n ≡ ahead → T (nearer f n k) → f n ≤ f k
  after k true e t = le_of_lt (ltb→lt (f n) (f k) (rw e at t))
  after k false e t = leb→le (f n) (f k) (rw e at t)

  first_by_test : IsFirstLeast f pairs n
  first_by_test =
      record { inside = inside; least = λ k h. after k (ltb k n) refl (every (nearer f n) pairs tested k h); before = before }

-- the pair n is nearest by test: the plan is its setting, or none, by the limit
module _ (oscillator rate n : ℕ) (allowed : plan_refusal oscillator rate ≡ 0) (inside : T (ltb n pairs)) (tested : T (from (nearer (size_at oscillator rate) n) 0 pairs)) where
  nearest : IsFirstLeast (size_at oscillator rate) pairs n
  nearest = first_by_test (size_at oscillator rate) n (lit< inside) tested

  found_at : T (leb (size_at oscillator rate n * 1000) oscillator) → Planning oscillator rate (Ok (Some (record { setting = setting_of n; difference = difference_of oscillator rate (setting_of n) })))
  found_at near = planning oscillator rate _ (allowed, best oscillator rate n nearest (lit≤ near), refl)

  none_at : T (ltb oscillator (size_at oscillator rate n * 1000)) → Planning oscillator rate (Ok None)
  none_at far = planning oscillator rate _ (allowed, none oscillator rate n nearest (lit< far))

pub plans_hold : PlansHold
unfolding plan_refusal difference_of
plans_hold = (
  found_at 16000000 500000 8 refl tt tt tt,
  (
    found_at 20000000 125000 66 refl tt tt tt,
    (
      found_at 12000000 95239 49 refl tt tt tt,
      (
        found_at 16000000 499500 8 refl tt tt tt,
        (
          none_at 16000000 499499 8 refl tt tt tt,
          (
            none_at 14745600 125000 48 refl tt tt tt,
            (
              planning 999999 4999 _ refl,
              (
                planning 1000000 4999 _ refl,
                tt,
              ),
            ),
          ),
        ),
      ),
    ),
  ),
)
