-- The bytes of a pair are the lowest: no sound setting with as many quanta or more has a lower CNF2, or with the same CNF2 a lower CNF3.
-- Assumes nothing.
use mathlib.Core.Path.{◌≡◌}
use Prim.Native.Nat.{ℕ, ◌+◌, ◌*◌, ◌/◌, ◌%◌, ◌<◌, ◌≤◌}
use native.Mathlib.Omega.{arith}
use Rattle.bit_timing.specs.declared.Setting.{Setting}
use Rattle.bit_timing.specs.Timing.{quanta_of}
use Rattle.bit_timing.specs.Pairs.{setting_at}
use Rattle.bit_timing.proofs.Sound.{Kept}

-- p, a and b are PropSeg, PS1 and PS2, each less 1
module _ (brp q p a b : ℕ) (few : p < 8) (long : b < 8) (sample : b + 1 ≤ p + 1 + (a + 1)) (low : 8 ≤ q) (high : q ≤ 1 + (p + 1) + (a + 1) + (b + 1)) where
  cnf2_low : (setting_at brp q).cnf2 ≤ 128 + a * 8 + p
  cnf2_low = omega arith

  cnf3_low : 128 + a * 8 + p ≤ (setting_at brp q).cnf2 → (setting_at brp q).cnf3 ≤ b
  cnf3_low same = omega arith

-- CNF2 with BTLMODE set is at least its fields
fields_low : (x : ℕ) → x / 128 % 2 ≡ 1 → 128 + x / 8 % 8 * 8 + x % 8 ≤ x
fields_low x h = omega arith

module _ (s : Setting) (kept : Kept s) (brp q : ℕ) (low : 8 ≤ q) (high : q ≤ quanta_of s) where
  pub cnf2_lowest : (setting_at brp q).cnf2 ≤ s.cnf2
  cnf2_lowest =
      omega (
        arith,
        cnf2_low brp q (s.cnf2 % 8) (s.cnf2 / 8 % 8) (s.cnf3 % 8) (omega arith) (omega arith) kept.sample low high,
        fields_low s.cnf2 kept.btlmode,
      )

  pub cnf3_lowest : s.cnf2 ≡ (setting_at brp q).cnf2 → (setting_at brp q).cnf3 ≤ s.cnf3
  cnf3_lowest same =
      let few = fields_low s.cnf2 kept.btlmode in
      let b = cnf3_low brp q (s.cnf2 % 8) (s.cnf2 / 8 % 8) (s.cnf3 % 8) (omega arith) (omega arith) kept.sample low high (omega arith) in
      omega arith
