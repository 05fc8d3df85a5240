use mathlib.Core.Path.{◌≡◌}
use Rattle.receiving.specs.Receiving.{filled}
use Rattle.receiving.proofs.frames.fill.Given as goal

abbrev pub invariant-loop-j : goal.invariant-loop-j
invariant-loop-j l = l.image ≡ filled l.initial.image l.at l.frame l.j
