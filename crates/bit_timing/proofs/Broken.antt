-- Every rule is kept exactly where the set of the broken ones is 0. Assumes nothing.
use mathlib.Core.Path.{◌≡◌, refl, sym}
use mathlib.Core.Bool.{Bool, true, false}
use mathlib.Core.List.{List, [], ◌∷◌}
use Prim.Native.Nat.{ℕ, ◌+◌, ◌*◌, ◌<◌}
use native.Mathlib.Nat.{zero-add}
use native.Mathlib.Omega.{arith}
use lib.Dec.{eqb}
use borrow.Author.Tests.{ne_eqb}
use Rattle.bit_timing.specs.Timing.{all_kept, faults_from, is_sound, faults_of, rules_of, SoundHasNoFaults}

no_faults : (rules : List Bool) (bit : ℕ) → 0 < bit → all_kept rules ≡ eqb (faults_from bit rules) 0
no_faults [] bit h = refl
no_faults (true ∷ rest) bit h = rw zero-add (no_faults rest (2 * bit) (omega arith))
no_faults (false ∷ rest) bit h = sym (ne_eqb (bit + faults_from (2 * bit) rest) 0 (λ (e : bit + faults_from (2 * bit) rest ≡ 0). omega arith))

pub sound_has_no_faults : SoundHasNoFaults
unfolding is_sound faults_of
sound_has_no_faults s = no_faults (rules_of s) 1 (omega arith)
