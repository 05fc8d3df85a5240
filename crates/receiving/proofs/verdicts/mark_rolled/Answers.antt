use native.Mathlib.Omega.{arith}
use mathlib.Core.Path.{refl}
use Rattle.bits.specs.Bit.{merged}
use Rattle.registers.specs.declared.Control.{Control}
use Rattle.registers.specs.declared.Core.{Core}
use Rattle.registers.specs.State.{with_control, with_rx}
use Rattle.image.specs.Image.{decoded}
use Rattle.image.proofs.Laws.{unmarked, mark_one, marked, followed}
use Rattle.receiving.proofs.verdicts.mark_rolled.Goals as goal

pub returns : goal.returns
unfolding decoded
returns c =
    let in_both : Control → Control = λ d. with_rx d (record { rxb0 = merged 1 d.rx.rxb0 c.args.filter; rxb1 = d.rx.rxb1 }) in
    simp c.merge.ensures (followed (λ (k : Core). with_control k (in_both k.control)) c.mark_stored.ensures
    (marked (mark_one (unmarked c.mark_stored.new.image (c.mark_stored.ensures.size)) 135 _ (omega arith) (omega arith)) _ refl))
