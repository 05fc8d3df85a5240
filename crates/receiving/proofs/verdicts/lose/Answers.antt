use native.Mathlib.Omega.{arith}
use mathlib.Core.Path.{refl}
use Rattle.image.specs.Image.{decoded}
use Rattle.image.proofs.Laws.{unmarked, mark_one, marked}
use Rattle.receiving.proofs.verdicts.lose.Goals as goal

pub returns : goal.returns
unfolding decoded
returns c = simp (c.set.ensures, c.overflow_of.ensures) (marked (mark_one (mark_one (unmarked c.args.image.now (omega arith)) 131 _ (omega arith) (omega arith)) 130 _ (omega arith) (omega arith)) _ refl)
