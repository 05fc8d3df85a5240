use native.Mathlib.Omega.{arith}
use Rattle.image.proofs.Laws.{pin_put}
use Rattle.image.proofs.control.put_level.Goals as goal

pub returns : goal.returns
returns c = simp (c.level_byte.ensures, c.tx_number.ensures) (pin_put c.args.image.now c.args.buffer c.args.high (omega arith))
