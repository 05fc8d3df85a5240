use Rattle.profile_loader.specs.Gaps.{between}
use Rattle.profile_loader.proofs.Ahead.{Ahead}
use Rattle.profile_loader.proofs.gaps.happen.Given as goal

abbrev pub invariant-loop-at : goal.invariant-loop-at
invariant-loop-at l = Ahead (between l.initial.image l.initial.gap) (between l.image l.gap) l.events l.number l.initial.room l.room

abbrev pub decreases-loop-at : goal.decreases-loop-at
decreases-loop-at l = l.gap.left
