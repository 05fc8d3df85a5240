use native.Mathlib.Omega.{arith}
use mathlib.Core.Path.{sym, ◌∙◌}
use Rattle.registers.specs.declared.Core.{Core}
use Rattle.registers.specs.State.{with_control}
use Rattle.registers.specs.Errors.{moved_to, rec_less}
use Rattle.image.specs.Image.{core_of}
use Rattle.image.proofs.Laws.{followed}
use Rattle.receiving.proofs.Stored.{unchanged}
use Rattle.controller.proofs.Acts.{received, plainly}
use Rattle.controller.proofs.Received.{received_counters}
use Rattle.controller.proofs.events.hear_normal.Goals as goal

pub returns-then-is_bus_off : goal.returns-then-is_bus_off
returns-then-is_bus_off c = simp (sym c.is_bus_off.ensures ∙ c.if-is_bus_off.true) record { result_value = plainly c.args.wanted c.unheard.ensures; became = unchanged c.args.image.now (omega arith) }

pub returns : goal.returns
returns c =
    let w =
    received c.args.wanted c.args.frame (unchanged c.args.image.now (omega arith)) c.receive-answer.ensures.answered c.receive-answer.ensures.acted in
    simp (sym c.is_bus_off.ensures ∙ c.if-is_bus_off.false, ← received_counters (core_of c.args.image.now) c.args.frame) record { result_value = w.0; became = followed (λ (k : Core). with_control k (moved_to k.control (rec_less k.control.counters))) w.1 c.count_good.ensures }
