use mathlib.Core.Path.{refl, ap, ◌∙◌}
use native.Mathlib.Numerals.{add-one}
use native.Mathlib.Omega.{arith}
use lib.ListN.{length}
use lib.Seq.{take-suc, take_all, length-take-le, length-sets}
use Rattle.mcp2515.proofs.Images.{sets_snoc}
use Rattle.profile_loader.proofs.gaps.put_record.Goals as goal

pub loop-i-init : goal.loop-i-init
loop-i-init c = refl

pub loop-i-preserved : goal.loop-i-preserved
loop-i-preserved c =
    c.put_byte.ensures ∙ rw (add-one, take-suc c.args.«record» c.loop-i.i 0 (omega arith), sets_snoc, length-take-le c.loop-i.i c.args.«record» (omega arith), c.loop-i.invariant)

pub shape_of-room : goal.shape_of-room
shape_of-room c = ap length c.loop-i.invariant ∙ simp length-sets

pub returns : goal.returns
returns c = c.loop-i.invariant ∙ rw (take_all c.loop-i.i c.args.«record» (omega arith))
