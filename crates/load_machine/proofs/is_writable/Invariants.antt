use mathlib.Core.Path.{◌≡◌}
use mathlib.Core.Bool.{true}
use Rattle.bits.specs.Bit.{for_below}
use Rattle.load_machine.specs.Profile.{is_writable_at}
use Rattle.load_machine.proofs.is_writable.Given as goal

abbrev pub invariant-loop-index : goal.invariant-loop-index
invariant-loop-index l = for_below l.index (is_writable_at l.profile) ≡ true
