use native.Mathlib.Omega.{arith}
use Rattle.spi.specs.Open.{instruction_by}
use Rattle.spi.proofs.Turns.{lined, number_set, who_set, turned_by_lem, then_settled}
use Rattle.spi.proofs.exchanges.open.Goals as goal

pub returns : goal.returns
unfolding instruction_by
returns c = then_settled (turned_by_lem (who_set (number_set (lined c.args.image.now (omega arith)) c.number.ensures) c.args.speaker)) c.settle_if_asked.ensures
