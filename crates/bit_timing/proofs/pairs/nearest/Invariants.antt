use mathlib.Core.Path.{◌≡◌}
use Rattle.bit_timing.specs.Pairs.{size_at, IsFirstLeast}
use Rattle.bit_timing.proofs.pairs.nearest.Given as goal

abbrev pub invariant-loop-pair : goal.invariant-loop-pair
invariant-loop-pair l =
    (l.least ≡ size_at l.oscillator l.rate l.first) × IsFirstLeast (size_at l.oscillator l.rate) l.pair l.first
