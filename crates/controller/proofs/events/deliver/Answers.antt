use mathlib.Core.Path.{ap, ◌∙◌}
use Rattle.registers.specs.declared.Control.{Control}
use Rattle.controller.specs.Sending.{sent_by}
use Rattle.controller.proofs.Acts.{packed, received}
use Rattle.controller.proofs.events.deliver.Goals as goal

pub returns : goal.returns
returns c =
    let sent = c.sent.ensures ∙ ap (λ (k : Control). sent_by k c.args.buffer) (c.control_of-control.ensures) in
    let w =
    received c.args.wanted c.frame_sent-own.result (packed c.put_control.ensures sent)
    c.receive.ensures.answered c.receive.ensures.acted in
    simp (← c.frame_sent-own.ensures) record { result_value = w.0; became = w.1 }
