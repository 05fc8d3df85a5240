use mathlib.Core.Path.{◌≡◌}
use Rattle.image.proofs.Laws.{reset_to}
use Rattle.image.proofs.control.clear.Given as goal

abbrev pub invariant-loop-at : goal.invariant-loop-at
invariant-loop-at l = l.image ≡ reset_to l.at l.initial.image
