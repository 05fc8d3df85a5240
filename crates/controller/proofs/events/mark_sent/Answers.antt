use native.Mathlib.Omega.{arith}
use Rattle.image.proofs.Laws.{tx_below}
use Rattle.controller.proofs.Acts.{sent_marked}
use Rattle.controller.proofs.events.mark_sent.Goals as goal

pub bounds-image-place : goal.bounds-image-place
bounds-image-place c = omega (arith, c.tx_number.ensures, tx_below c.args.buffer)

pub bounds-image-place-2 : goal.bounds-image-place-2
bounds-image-place-2 c = omega (arith, c.tx_number.ensures, tx_below c.args.buffer)

pub returns : goal.returns
returns c = simp (c.set.ensures, c.tx_flag.ensures, c.tx_number.ensures) (sent_marked c.args.image.now c.args.buffer (omega arith))
