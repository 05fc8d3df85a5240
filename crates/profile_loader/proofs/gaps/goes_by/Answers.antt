use mathlib.Core.Path.{◌≡◌, sym, ◌∙◌}
use native.Mathlib.Omega.{arith}
use Rattle.profile_loader.specs.Gaps.{entries_from, place_of}
use Rattle.profile_loader.proofs.Entries.{come, goes}
use lib.ListN.{drop}
use Rattle.profile_loader.proofs.gaps.goes_by.Goals as goal

pub returns-then-left-eq0 : goal.returns-then-left-eq0
unfolding entries_from
returns-then-left-eq0 c = let none : c.args.left ≡ 0 = omega arith in simp none

pub returns-then-is_event : goal.returns-then-is_event
returns-then-is_event c =
    let is = sym c.is_event.ensures ∙ c.if-is_event.true in
    rw c.place_at.ensures
    (come c.args.number (place_of (drop c.start_of-at.result c.args.events.now))
    ∙ sym (goes c.args.events.now c.args.number c.args.left c.start_of-at.result c.record_at.result (omega arith) (omega arith) c.start_of-at.ensures c.record_at.ensures ∙ rw is))

pub returns : goal.returns
returns c =
    let is = sym c.is_event.ensures ∙ c.if-is_event.false in
    sym (goes c.args.events.now c.args.number c.args.left c.start_of-at.result c.record_at.result (omega arith) (omega arith) c.start_of-at.ensures c.record_at.ensures ∙ rw is)
