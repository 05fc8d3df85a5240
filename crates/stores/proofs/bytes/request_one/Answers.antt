use native.Mathlib.Omega.{arith}
use Rattle.stores.proofs.Merged.{requested_one}
use Rattle.stores.proofs.bytes.request_one.Goals as goal

pub returns : goal.returns
returns c = simp (c.requested_of.ensures, c.tx_number.ensures, c.control_of-control.ensures) (requested_one c.args.image.now c.args.buffer (omega arith))
