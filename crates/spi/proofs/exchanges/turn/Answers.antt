use native.Mathlib.Omega.{arith}
use Rattle.spi.proofs.Turns.{lined, number_set, turned_by_lem}
use Rattle.spi.proofs.exchanges.turn.Goals as goal

pub returns : goal.returns
returns c = turned_by_lem (number_set (lined c.args.image.now (omega arith)) c.number.ensures)
