use Rattle.spi.proofs.Turns.{reading_select}
use Rattle.spi.proofs.lines.put_open.Goals as goal

pub returns-in-ReadingBuffer : goal.returns-in-ReadingBuffer
returns-in-ReadingBuffer c = simp c.in-ReadingBuffer.is (rw (c.from.ensures, reading_select) at c.turn_to-in-ReadingBuffer.ensures)
