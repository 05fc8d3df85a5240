use native.Mathlib.Omega.{arith}
use Rattle.controller.proofs.Acts.{frame_there}
use Rattle.controller.proofs.sending.frame_sent.Goals as goal

pub returns-in-Txb0 : goal.returns-in-Txb0
returns-in-Txb0 c = simp (c.in-Txb0.is, c.frame_at.ensures) (frame_there c.args.image.now 0 (omega arith))

pub returns-in-Txb1 : goal.returns-in-Txb1
returns-in-Txb1 c = simp (c.in-Txb1.is, c.frame_at-in-Txb1.ensures) (frame_there c.args.image.now 16 (omega arith))

pub returns-in-Txb2 : goal.returns-in-Txb2
returns-in-Txb2 c = simp (c.in-Txb2.is, c.frame_at-in-Txb2.ensures) (frame_there c.args.image.now 32 (omega arith))
