use native.Mathlib.Omega.{arith}
use mathlib.Core.Path.{refl}
use Rattle.image.specs.Image.{decoded}
use Rattle.image.proofs.Laws.{unmarked, mark_one, marked}
use Rattle.receiving.proofs.verdicts.mark_stored.Goals as goal
use Rattle.receiving.proofs.verdicts.mark_stored.Goals.{in-Rxb0, in-Rxb1}

pub returns : goal.returns
unfolding decoded
returns c =
    elim c.match-buffer.branch [
      | in-Rxb0 w ↦ simp (w.image-is, w.in-Rxb0.is, w.merge.ensures, c.set-canintf.ensures, c.flag_of.ensures, c.hit_bits-hit.ensures) (marked (mark_one (mark_one (unmarked c.args.image.now (omega arith)) 135 _ (omega arith) (omega arith)) 130 _ (omega arith) (omega arith)) _ refl)
      | in-Rxb1 w ↦ simp (w.image-is, w.in-Rxb1.is, w.merge-in-Rxb1.ensures, c.set-canintf.ensures, c.flag_of.ensures, c.hit_bits-hit.ensures) (marked (mark_one (mark_one (unmarked c.args.image.now (omega arith)) 136 _ (omega arith) (omega arith)) 130 _ (omega arith) (omega arith)) _ refl)
    ]
