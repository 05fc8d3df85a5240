use mathlib.Core.Path.{◌≡◌}
use Rattle.receiving.specs.Receiving.{set_of}
use Rattle.receiving.specs.Words.{word_matches}
use Rattle.receiving.proofs.filters.matched_by.Given as goal

abbrev pub invariant-loop-filter : goal.invariant-loop-filter
invariant-loop-filter l = l.set ≡ set_of (word_matches l.image l.key) l.filter
