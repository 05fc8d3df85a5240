-- Refusals by their numbers. Assumes nothing.
use mathlib.Core.Path.{◌≡◌, refl, sym, ap, ◌∙◌}
use mathlib.Core.Bool.{Bool, true, false, cond}
use native.Mathlib.Omega.{arith}
use Rattle.std.proofs.Common.{Result, Ok, Err}
use Prim.Native.Nat.{ℕ}
use lib.Dec.{eqb}
use Rattle.records.specs.declared.Refusal.{Refusal}
use Rattle.records.specs.declared.Refusal.TheVariants.{Select, Field, InFlight, NoFlight, State, Length, Room, Count, Profile, Mode, Oscillator, Rate, Speaker, Short, Chip}
use Rattle.records.specs.declared.Answer.{Answer}
use Rattle.records.specs.Records.{refusal_number, refusal_in, outcome_of}

-- a refusal's number is not 0
pub number_some : (e : Refusal) → refusal_number e ≡ 0 → ⊥
number_some Select h = omega arith
number_some Field h = omega arith
number_some InFlight h = omega arith
number_some NoFlight h = omega arith
number_some State h = omega arith
number_some Length h = omega arith
number_some Room h = omega arith
number_some Count h = omega arith
number_some Profile h = omega arith
number_some Mode h = omega arith
number_some Oscillator h = omega arith
number_some Rate h = omega arith
number_some Speaker h = omega arith
number_some Short h = omega arith
number_some Chip h = omega arith

-- the refusal that is told of a step
pub refusal_told : (x : Result Answer Refusal) → (outcome_of x).refusal ≡ refusal_in x
refusal_told (Ok a) = refl
refusal_told (Err e) = refl

-- ---- of a test that refuses with the number n where it fails, and nothing where it holds
pub passed : (t : Bool) {n : ℕ} → (n ≡ 0 → ⊥) → 0 ≡ cond t 0 n → t ≡ true
passed true ne e = refl
passed false ne e = absurd (ne (sym e))

pub failed : (t : Bool) {n : ℕ} (e : Refusal) → refusal_number e ≡ cond t 0 n → (t ≡ false) × (refusal_number e ≡ n)
failed true e h = absurd (number_some e h)
failed false e h = (refl, h)

-- ---- no two refusals have the same number
-- the refusal of a number
abbrev by_number : ℕ → Refusal
by_number n =
    cond (eqb n 1) Select
    (cond (eqb n 2) Field
    (cond (eqb n 3) InFlight
    (cond (eqb n 4) NoFlight
    (cond (eqb n 5) State
    (cond (eqb n 6) Length
    (cond (eqb n 7) Room
    (cond (eqb n 8) Count
    (cond (eqb n 10) Profile
    (cond (eqb n 11) Mode
    (cond (eqb n 12) Oscillator
    (cond (eqb n 13) Rate
    (cond (eqb n 18) Speaker
    (cond (eqb n 19) Short Chip)))))))))))))

numbered : (r : Refusal) → by_number (refusal_number r) ≡ r
numbered Select = refl
numbered Field = refl
numbered InFlight = refl
numbered NoFlight = refl
numbered State = refl
numbered Length = refl
numbered Room = refl
numbered Count = refl
numbered Profile = refl
numbered Mode = refl
numbered Oscillator = refl
numbered Rate = refl
numbered Speaker = refl
numbered Short = refl
numbered Chip = refl

pub one_number : (r s : Refusal) → refusal_number r ≡ refusal_number s → r ≡ s
one_number r s e = sym (numbered r) ∙ ap by_number e ∙ numbered s
