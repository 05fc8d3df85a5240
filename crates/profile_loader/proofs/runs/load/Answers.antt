use mathlib.Core.Path.{ap, ◌∙◌}
use Rattle.load_rules.specs.Load.{verdict_in}
use Rattle.load_rules.proofs.AllLaws.{load_laws}
use Rattle.profile_loader.proofs.runs.load.Goals as goal

pub returns : goal.returns
returns c =
    let w = c.run-finished.ensures in
    record {
      chip = w.chip;
      verdict = c.verdict_in.ensures ∙ ap verdict_in w.stage;
      laws = load_laws;
    }
