use mathlib.Core.Path.{sym, ap, ◌∙◌}
use native.Mathlib.Omega.{arith}
use Prim.Native.Nat.{ℕ}
use lib.ListN.{take, drop}
use Rattle.profile_loader.specs.Gaps.{between}
use Rattle.profile_loader.proofs.Ahead.{at_first, one_further, all_come}
use Rattle.profile_loader.proofs.Entries.{some_left}
use Rattle.profile_loader.proofs.gaps.happen.Goals as goal

pub loop-at-init : goal.loop-at-init
loop-at-init c = at_first _ _ _ _

pub goes_by-requires : goal.goes_by-requires
goes_by-requires c = omega arith

pub start_of-at-requires : goal.start_of-at-requires
start_of-at-requires c = omega arith

pub record_at-requires : goal.record_at-requires
record_at-requires c =
    let more = some_left c.args.events.now c.args.number c.loop-at.gap.left (sym c.goes_by.ensures ∙ c.loop-at-test.true) in
    omega arith

pub pass-gap-requires : goal.pass-gap-requires
pass-gap-requires c =
    let more = some_left c.args.events.now c.args.number c.loop-at.gap.left (sym c.goes_by.ensures ∙ c.loop-at-test.true) in
    (omega arith, more)

pub loop-at-smaller : goal.loop-at-smaller
loop-at-smaller c = omega arith

pub loop-at-preserved : goal.loop-at-preserved
loop-at-preserved c =
    let by = sym c.goes_by.ensures ∙ c.loop-at-test.true in
    one_further (between c.args.image.now c.args.gap) (between c.loop-at.image c.loop-at.gap) (between _ c.pass-gap.result) c.args.events.now c.args.number c.args.room.now c.loop-at.room _ c.record_at.result (some_left c.args.events.now c.args.number c.loop-at.gap.left by) (omega (arith, c.loop-at.invariant.fewer, c.requires.0)) by (c.record_at.ensures ∙ ap (λ (k : ℕ). take 16 (drop 4 (drop k c.args.events.now))) c.start_of-at.ensures) c.pass-gap.ensures.came c.pass-gap.ensures.left_value c.loop-at.invariant

pub returns : goal.returns
returns c = all_come _ _ _ _ _ _ (sym c.goes_by.ensures ∙ c.loop-at-test.false) c.loop-at.invariant
