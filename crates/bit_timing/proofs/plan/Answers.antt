use mathlib.Core.Path.{sym, ◌∙◌}
use mir.Syntax.{w64}
use mir.Facts.{to_z-of_z}
use native.Mathlib.Omega.{arith}
use Rattle.bit_timing.proofs.Best.{best, none}
use Rattle.bit_timing.proofs.Plans.{planning}
use Rattle.bit_timing.proofs.plan.Goals as goal

pub returns-then-size-oscillator : goal.returns-then-size-oscillator
returns-then-size-oscillator c =
    planning _ _ _ (
      sym c.in_ok-check_ranges.ensures,
      rw c.setting-setting.ensures (best _ _ _ c.nearest-pair.ensures (omega arith)),
      to_z-of_z {w = w64} {z = c.difference-difference.result} (record { sfits = c.difference-difference.type_inv }) ∙ c.difference-difference.ensures,
    )

pub returns : goal.returns
returns c = planning _ _ _ (sym c.in_ok-check_ranges.ensures, none _ _ _ c.nearest-pair.ensures (omega arith))
