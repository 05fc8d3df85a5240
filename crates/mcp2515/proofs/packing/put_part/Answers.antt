use native.Mathlib.Omega.{arith}
use native.Mathlib.Numerals.{add-one}
use mathlib.Core.Path.{refl, ◌∙◌}
use lib.Seq.{take-suc, take_all, length-take-le}
use Rattle.mcp2515.proofs.Images.{sets_snoc}
use Rattle.mcp2515.proofs.packing.put_part.Goals as goal

pub loop-i-init : goal.loop-i-init
loop-i-init g c = refl

pub loop-i-preserved : goal.loop-i-preserved
loop-i-preserved g c = rw (add-one, take-suc c.args.part.now c.loop-i.i 0 (omega arith), sets_snoc, length-take-le c.loop-i.i c.args.part.now (omega arith), c.loop-i.invariant)

pub returns : goal.returns
returns g c = c.loop-i.invariant ∙ rw (take_all c.loop-i.i c.args.part.now (omega arith))
