use native.Mathlib.Omega.{arith}
use Rattle.spi.proofs.Turns.{lined, number_set, who_set, turned_by_lem, then_put}
use Rattle.spi.proofs.lines.put_select.Goals as goal

pub returns-in-Raised : goal.returns-in-Raised
returns-in-Raised c = simp c.in-Raised.is (turned_by_lem (number_set (lined c.args.image.now (omega arith)) c.number.ensures))

pub returns-in-Lowered : goal.returns-in-Lowered
returns-in-Lowered c =
    simp c.in-Lowered.is
    (then_put (who_set (lined c.args.image.now (omega arith)) c.number-in-Lowered.result) c.number-in-Lowered.ensures c.put_open.ensures)
