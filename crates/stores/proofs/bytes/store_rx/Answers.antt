use native.Mathlib.Omega.{arith}
use mathlib.Core.Path.{refl}
use Rattle.image.specs.Image.{decoded}
use Rattle.image.proofs.Laws.{unmarked, mark_one, marked}
use Rattle.stores.proofs.bytes.store_rx.Goals as goal

pub returns-in-Rxb0 : goal.returns-in-Rxb0
unfolding decoded
returns-in-Rxb0 c = simp (c.in-Rxb0.is, c.rxb0_stored.ensures) (marked (mark_one (unmarked c.args.image.now (omega arith)) 135 _ (omega arith) (omega arith)) _ refl)

pub returns-in-Rxb1 : goal.returns-in-Rxb1
unfolding decoded
returns-in-Rxb1 c = simp (c.in-Rxb1.is, c.rxb1_stored.ensures) (marked (mark_one (unmarked c.args.image.now (omega arith)) 136 _ (omega arith) (omega arith)) _ refl)
