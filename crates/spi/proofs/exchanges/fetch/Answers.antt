use native.Mathlib.Omega.{arith}
use Rattle.spi.proofs.Turns.{lined, address_set, turned_by_lem}
use Rattle.spi.proofs.exchanges.fetch.Goals as goal

pub returns : goal.returns
returns c = record { value = c.read-reply.ensures; turned = simp c.rise.ensures (turned_by_lem (address_set (lined c.args.image.now (omega arith)) _)) }
