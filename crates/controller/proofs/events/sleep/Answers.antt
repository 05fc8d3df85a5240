use native.Mathlib.Omega.{arith}
use mathlib.Core.Path.{refl, ap, ◌∙◌}
use borrow.Author.Tests.{eq-eqb, ne_eqb}
use Rattle.image.specs.Image.{decoded}
use Rattle.controller.specs.Events.{woken_control}
use Rattle.receiving.proofs.Stored.{unchanged}
use Rattle.controller.proofs.Acts.{packed}
use Rattle.controller.proofs.events.sleep.Goals as goal

pub returns-then-image-eq1 : goal.returns-then-image-eq1
unfolding decoded
returns-then-image-eq1 c = simp (eq-eqb _ _ c.if-image-eq1.true) record { value = refl; became = packed c.put_control.ensures (c.woken.ensures ∙ ap woken_control (c.control_of-control.ensures)) }

pub returns : goal.returns
unfolding decoded
returns c = simp (ne_eqb _ _ c.if-image-eq1.false) record { value = refl; became = unchanged c.args.image.now (omega arith) }
