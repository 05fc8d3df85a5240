use native.Mathlib.Omega.{arith}
use Rattle.spi.proofs.Turns.{lined, number_set, mask_set, turned_by_lem}
use Rattle.spi.proofs.exchanges.keep_mask.Goals as goal

pub returns : goal.returns
returns c = turned_by_lem (mask_set (number_set (lined c.args.image.now (omega arith)) c.number.ensures) c.args.mask)
