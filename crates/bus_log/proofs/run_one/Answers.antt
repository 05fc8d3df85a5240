use mathlib.Core.Path.{◌≡◌, ap, ◌∙◌}
use native.Mathlib.Omega.{arith}
use lib.ListN.{length}
use Rattle.records.specs.declared.Outcome.{Outcome}
use Rattle.mcp2515.specs.Step.{step_of}
use Rattle.mcp2515.specs.ChipImage.{chip_of}
use Rattle.bus_log.specs.Log.{last_chip}
use Rattle.bus_log.proofs.Advance.{told_one, one_refused}
use Rattle.bus_log.proofs.Steps.{one_step}
use Rattle.bus_log.proofs.run_one.Goals as goal

pub returns : goal.returns
unfolding last_chip
returns c =
    let whole : length c.args.«record».now ≡ 16 = omega arith in
    let one = one_step (chip_of c.args.image.now) c.args.«record».now whole in
    let ran = c.run_records.ensures in
    let same = told_one (chip_of c.args.image.now) c.args.«record».now _ whole ran.answers_after in
    record {
      told = same;
      moved = rw one at ran.moved;
      refused_kept = λ h. ran.refused_stay (rw one (one_refused (step_of (chip_of c.args.image.now) c.args.«record».now) (λ z. h (ap (λ (o : Outcome). o.refusal) same ∙ z))));
    }
