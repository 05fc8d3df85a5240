use Rattle.spi.proofs.Turns.{reading_select}
use Rattle.spi.proofs.exchanges.begin.Goals as goal

pub returns-in-ReadRxBuffer : goal.returns-in-ReadRxBuffer
returns-in-ReadRxBuffer c = simp c.in-ReadRxBuffer.is (rw (c.from.ensures, reading_select) at c.turn_to.ensures)
