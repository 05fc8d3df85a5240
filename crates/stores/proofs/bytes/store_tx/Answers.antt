use native.Mathlib.Omega.{arith}
use Rattle.stores.proofs.Merged.{stored_one}
use Rattle.stores.proofs.bytes.store_tx.Goals as goal

pub returns : goal.returns
returns c = simp (c.tx_stored.ensures, c.tx_number.ensures, c.control_of-control.ensures) (stored_one c.args.image.now c.args.buffer c.args.value (omega arith))
