use mathlib.Core.Path.{◌∙◌}
use lib.ListN.{length}
use mir.Syntax.{w64}
use mir.Facts.{to_z-of_z}
use Rattle.compare.specs.Compare.{compare_refusal, compare_result}
use Rattle.compare.specs.Block.{compared_in}
use Rattle.compare.proofs.Whole.{result_is}
use Rattle.compare.proofs.mcp2515_compare_logs.Goals as goal

pub returns-clause-result : goal.returns-clause-result
unfolding compare_result
returns-clause-result c =
    to_z-of_z {w = w64} (record { sfits = c.result_of.type_inv })
    ∙ c.result_of.ensures
    ∙ result_is (compared_in c.compare_logs-told.result) (compare_refusal c.args.first.now c.args.second.now (length c.args.entries.now)) c.args.first.now c.args.second.now c.compare_logs-told.ensures.told
