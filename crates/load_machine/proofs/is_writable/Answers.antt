use mathlib.Core.Path.{◌≡◌, sym, ap, ◌∙◌}
use native.Mathlib.Omega.{arith}
use Rattle.bits.specs.Bit.{for_below}
use Rattle.load_machine.specs.Profile.{profile_size, is_writable_at, is_writable}
use Rattle.load_machine.proofs.Places.{fails_below}
use Rattle.load_machine.proofs.is_writable.Goals as goal

pub returns-then-not-is_writable_at : goal.returns-then-not-is_writable_at
unfolding is_writable
returns-then-not-is_writable_at c =
    sym (fails_below (is_writable_at c.args.profile) profile_size c.loop-index.index (omega (arith, c.loop-index-test.true)) (sym c.is_writable_at.ensures ∙ c.if-not-is_writable_at.true))

pub returns : goal.returns
unfolding is_writable
returns c =
    let end : c.loop-index.index ≡ profile_size = omega arith in
    sym (ap (λ n. for_below n (is_writable_at c.args.profile)) (sym end) ∙ c.loop-index.invariant)
