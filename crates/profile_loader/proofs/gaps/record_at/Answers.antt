use mathlib.Core.Path.{◌≡◌, refl, ◌∙◌}
use native.Mathlib.Omega.{arith}
use Prim.Native.Nat.{◌+◌, ◌-◌}
use lib.Seq.{drop-drop}
use Rattle.profile_loader.proofs.gaps.record_at.Goals as goal

pub returns : goal.returns
returns c =
    let count : c.args.at + 20 - (c.args.at + 4) ≡ 16 = omega arith in
    c.copy_from_slice.ensures.after ∙ rw (count, drop-drop 4 c.args.at c.args.events.now) refl
