use Rattle.spi.proofs.Turns.{exchanged}
use Rattle.spi.proofs.slices.exchange.Goals as goal

pub returns : goal.returns
returns c =
    let whole = c.in-Some.ensures.cases in
    let e = rw whole.same at c.exchange.ensures in
    exchanged whole.long e.reply e.turned e.raised
