use native.Mathlib.Omega.{arith}
use Rattle.registers.specs.declared.RxBuffer.TheVariants.{Rxb1}
use Rattle.receiving.proofs.Stored.{frame_put}
use Rattle.receiving.proofs.frames.put_by.Goals as goal

pub returns-in-RolledOver : goal.returns-in-RolledOver
returns-in-RolledOver c =
    simp c.in-RolledOver.is (frame_put c.args.image.now _ Rxb1 c.args.frame (omega arith) (rw c.bytes_of-in-RolledOver.ensures at c.put-in-RolledOver.ensures))
