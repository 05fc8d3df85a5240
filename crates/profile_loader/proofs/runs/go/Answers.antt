use mathlib.Core.Path.{◌≡◌}
use native.Mathlib.Omega.{arith}
use Rattle.profile_loader.proofs.Going.{begins, goes_on}
use Rattle.profile_loader.proofs.runs.go.Goals as goal

pub loop-number-init : goal.loop-number-init
loop-number-init c = begins _ _ _ _ _ c.requires.0 c.requires.1

pub turn-loading-requires : goal.turn-loading-requires
turn-loading-requires c = (c.loop-number.invariant.fewer, omega (arith, c.loop-number.invariant.fewer, c.loop-number.invariant.bound))

pub loop-number-preserved : goal.loop-number-preserved
loop-number-preserved c = goes_on _ _ _ _ _ _ _ _ _ _ c.loop-number.invariant c.turn-loading.ensures

pub returns : goal.returns
returns c =
    let end : c.loop-number.number ≡ 71 = omega arith in
    let going = rw end at c.loop-number.invariant in
    record { follows = going.follows; size = going.sized }
