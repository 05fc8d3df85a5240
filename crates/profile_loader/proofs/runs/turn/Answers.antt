use mathlib.Core.Path.{refl, sym, ◌∙◌}
use native.Mathlib.Omega.{arith}
use Rattle.spi.proofs.Clash.{clash}
use Rattle.load_rules.specs.Load.{turn_of}
use Rattle.profile_loader.specs.Gaps.{log_of}
use Rattle.profile_loader.proofs.Turns.{ended}
use Rattle.profile_loader.proofs.runs.turn.Goals as goal

pub returns-in-Send : goal.returns-in-Send
unfolding turn_of
returns-in-Send c =
    let w = c.advance.ensures in
    let sends = sym c.next.ensures ∙ c.in-Send.is in
    record { follows = rw sends w.follows; left = λ _. w.left; fewer = w.fewer }

pub returns-in-Say : goal.returns-in-Say
unfolding turn_of log_of
returns-in-Say c =
    let says = sym c.next.ensures ∙ c.in-Say.is in
    record {
      follows = rw says (record { stage = refl; chip = refl; sent = omega arith; records = refl });
      left = λ e. clash (sym (ended _ _ _ _ says) ∙ e);
      fewer = record { left = omega arith; bound = omega arith };
    }
