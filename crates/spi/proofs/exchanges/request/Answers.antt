use Rattle.spi.specs.Open.{instruction_by}
use Rattle.spi.proofs.Turns.{then_turned}
use Rattle.spi.proofs.exchanges.request.Goals as goal

pub returns : goal.returns
unfolding instruction_by
returns c = (then_turned c.request_to_send.ensures c.turn.ensures)
