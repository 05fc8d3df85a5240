use Rattle.spi.specs.Open.{open_of, speaker_of}
use Rattle.image.specs.Image.{core_of}
use Rattle.spi.proofs.Turns.{became_lined, number_set, turned_by_lem, then_settled, high_acted}
use Rattle.spi.proofs.exchanges.close.Goals as goal

pub returns : goal.returns
returns c =
    rw (high_acted (speaker_of c.args.image.now) (open_of c.args.image.now) (core_of c.args.image.now))
    (then_settled (turned_by_lem (number_set (became_lined c.end_reading.ensures) c.number.ensures)) c.settle_if_asked.ensures)
