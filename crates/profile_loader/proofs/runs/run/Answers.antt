use mathlib.Core.Path.{◌∙◌}
use native.Mathlib.Omega.{arith}
use Rattle.load_rules.specs.Load.{load_of}
use Rattle.profile_loader.proofs.runs.run.Goals as goal

pub returns : goal.returns
unfolding load_of
returns c =
    let gone = rw (c.pack-image.ensures.chip, c.begin.ensures, c.is_lowered.ensures) at c.go-end.ensures in
    record {
      stage = gone.follows.stage;
      chip = c.unpack.ensures ∙ gone.follows.chip;
      sent = gone.follows.sent ∙ omega arith;
      records = gone.follows.records;
      size = gone.size;
    }
