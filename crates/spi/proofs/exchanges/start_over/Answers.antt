use Rattle.spi.specs.Open.{instruction_by}
use Rattle.spi.proofs.Turns.{then_turned}
use Rattle.spi.proofs.exchanges.start_over.Goals as goal

pub returns : goal.returns
unfolding instruction_by
returns c = (then_turned c.reset.ensures c.turn.ensures)
