-- The events by the numbers of their kinds. Assumes nothing.
use mathlib.Core.Bool.{false}
use mathlib.Core.Path.{◌≡◌, refl}
use Prim.Native.Nat.{ℕ, zero, suc, ◌<◌}
use native.Mathlib.Omega.{arith}
use lib.Dec.{eqb}
use borrow.Author.Tests.{ne_eqb, lt-ltb, le-ltb}
use Rattle.records.specs.Records.{EventNumbers}

pub event_numbers : EventNumbers
event_numbers zero = refl
event_numbers (suc zero) = refl
event_numbers (suc (suc zero)) = refl
event_numbers (suc (suc (suc zero))) = refl
event_numbers (suc (suc (suc (suc zero)))) = refl
event_numbers (suc (suc (suc (suc (suc zero))))) = refl
event_numbers (suc (suc (suc (suc (suc (suc zero)))))) = refl
event_numbers (suc (suc (suc (suc (suc (suc (suc zero))))))) = refl
event_numbers (suc (suc (suc (suc (suc (suc (suc (suc zero)))))))) = refl
event_numbers (suc (suc (suc (suc (suc (suc (suc (suc (suc n))))))))) =
    simp (apart 0 (omega arith), apart 1 (omega arith), apart 2 (omega arith), apart 3 (omega arith), apart 4 (omega arith), apart 5 (omega arith), apart 6 (omega arith), apart 7 (omega arith), apart 8 (omega arith), lt-ltb 2 (suc (suc (suc (suc (suc (suc (suc (suc (suc n))))))))) (omega arith), le-ltb (suc (suc (suc (suc (suc (suc (suc (suc (suc n))))))))) 9 (omega arith))
  where
    apart : (k : ℕ) → k < 9 → eqb (suc (suc (suc (suc (suc (suc (suc (suc (suc n))))))))) k ≡ false
    apart k p = ne_eqb (suc (suc (suc (suc (suc (suc (suc (suc (suc n))))))))) k (λ e. omega arith)
