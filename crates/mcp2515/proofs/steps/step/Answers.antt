use Rattle.mcp2515.proofs.Refused.{refused_kept}
use Rattle.mcp2515.proofs.Demand3.{demand_3}
use Rattle.mcp2515.proofs.steps.step.Goals as goal

pub returns : goal.returns
returns c =
    let e = c.advance.ensures in
    record { equal = e; refused = λ h. rw e (refused_kept _ _ (rw e at h)); moment = demand_3 }
