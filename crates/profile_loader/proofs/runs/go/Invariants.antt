use mathlib.Core.List.{[]}
use Rattle.profile_loader.specs.Running.{progress_of, underway}
use Rattle.profile_loader.proofs.Going.{so_far, Going}
use Rattle.profile_loader.proofs.runs.go.Given as goal

abbrev pub invariant-loop-number : goal.invariant-loop-number
invariant-loop-number l =
    Going (so_far (progress_of (underway l.initial.image l.initial.loading) []) l.profile l.start l.events l.number) l.events l.number (underway l.image l.loading) l.initial.room l.room
