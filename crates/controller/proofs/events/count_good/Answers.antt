use native.Mathlib.Omega.{arith}
use mathlib.Core.Path.{sym}
use Rattle.image.specs.Image.{decoded}
use Rattle.image.specs.Image.{control_of}
use Rattle.image.proofs.Laws.{unmarked, mark_one, marked}
use Rattle.registers.proofs.Falling.{falling}
use Rattle.controller.proofs.events.count_good.Goals as goal

pub returns : goal.returns
unfolding decoded
returns c = simp c.heard_rec.ensures (marked (mark_one (unmarked c.args.image.now (omega arith)) 138 _ (omega arith) (omega arith)) _ (sym (falling (control_of c.args.image.now))))
