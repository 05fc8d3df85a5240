use mathlib.Core.Path.{refl, sym, ap, ◌∙◌}
use mathlib.Core.List.{List, append-nil}
use Prim.Native.Nat.{ℕ}
use lib.Seq.{sets}
use native.Mathlib.Omega.{arith}
use Rattle.mcp2515.specs.Step.{chip_after}
use Rattle.load_rules.specs.Load.{events_in}
use Rattle.profile_loader.specs.Gaps.{log_of}
use Rattle.profile_loader.proofs.gaps.pass.Goals as goal

pub returns-then-not-is_event : goal.returns-then-not-is_event
unfolding events_in chip_after log_of
returns-then-not-is_event c = simp (sym c.is_event.ensures ∙ c.if-not-is_event.true) record { came = record { chip = refl; sent = omega arith; records = refl }; left_value = omega arith }

pub returns : goal.returns
unfolding events_in chip_after log_of
returns c =
    simp (sym c.is_event.ensures ∙ c.if-not-is_event.false) record { came = record { chip = c.run_one.ensures.moved.packed.chip; sent = refl; records = c.put_record.ensures ∙ ap (λ (l : List ℕ). sets c.args.room.now c.args.gap.sent l) (sym (append-nil c.args.«record»)) }; left_value = omega arith }
