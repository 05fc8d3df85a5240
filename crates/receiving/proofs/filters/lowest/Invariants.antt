use mathlib.Core.Path.{◌≡◌}
use Prim.Native.Nat.{◌-◌}
use Rattle.receiving.specs.Receiving.{lowest_from}
use Rattle.receiving.specs.Words.{word_matches}
use Rattle.receiving.proofs.filters.lowest.Given as goal

abbrev pub invariant-loop-filter : goal.invariant-loop-filter
invariant-loop-filter l =
    lowest_from (word_matches l.image l.key) l.first (l.end - l.first) ≡ lowest_from (word_matches l.image l.key) l.filter (l.end - l.filter)
