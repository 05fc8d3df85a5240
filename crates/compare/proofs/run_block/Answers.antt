use Rattle.compare.proofs.Runs.{ran}
use Rattle.compare.proofs.run_block.Goals as goal

pub returns : goal.returns
returns c =
    ran c.args.wanted c.args.records.now c.args.image.now _ c.args.told.now _ _ c.requires.chip (record { whole = c.requires.whole; count = c.requires.count; room = c.requires.room })
    c.run_from.ensures
