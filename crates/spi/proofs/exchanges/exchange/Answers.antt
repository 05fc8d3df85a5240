use mathlib.Core.Path.{refl, sym, ◌∙◌}
use Rattle.spi.specs.Open.{speaker_of, open_of}
use Rattle.image.specs.Image.{core_of}
use Rattle.spi.proofs.Turns.{open_of_lem, not_both, then_settled, act_acted}
use Rattle.spi.proofs.exchanges.exchange.Goals as goal

pub returns-then-image-number : goal.returns-then-image-number
returns-then-image-number c =
    let e = c.if-image-number.true ∙ c.number.ensures in
    record { reply = λ h. absurd (h e); turned = λ h. absurd (h e); raised = λ _. (refl, refl) }

pub returns : goal.returns
returns c =
    record {
      reply = λ _. c.exchange_by-reply.ensures.value;
      turned = λ _.
          rw (act_acted (speaker_of c.args.image.now) (open_of c.args.image.now) c.args.byte (core_of c.args.image.now))
          (then_settled c.exchange_by-reply.ensures.turned c.settle_if_asked.ensures);
      raised = λ p. not_both (sym p ∙ open_of_lem c.args.image.now (λ e. c.if-image-number.false (e ∙ sym c.number.ensures)));
    }
