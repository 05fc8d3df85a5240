use native.Mathlib.Omega.{arith}
use Rattle.spi.specs.Open.{instruction_by}
use Rattle.spi.proofs.Turns.{lined, number_set, address_set, mask_set, turned_by_lem}
use Rattle.spi.proofs.lines.put_data.Goals as goal

pub returns : goal.returns
unfolding instruction_by
returns c = turned_by_lem (mask_set (address_set (number_set (lined c.args.image.now (omega arith)) c.number.ensures) c.args.address) c.args.mask)
