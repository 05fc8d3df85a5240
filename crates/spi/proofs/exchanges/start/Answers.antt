use Rattle.spi.proofs.exchanges.start.Goals as goal

pub returns : goal.returns
returns c = rw (c.command_by.ensures, c.from-speaker.ensures) at c.begin.ensures
