use mathlib.Core.Path.{ap, ◌∙◌}
use mathlib.Core.Bool.{cond}
use lib.Dec.{ltb}
use lib.ListN.{length, drop}
use mir.Syntax.{w64}
use mir.Facts.{to_z-of_z}
use Rattle.compare.specs.Compare.{compare_refusal, compare_result, past_shorter, leftover_of}
use Rattle.compare.specs.Block.{Compared, compared_in, compared_by}
use Rattle.compare.proofs.Lists.{none_with_itself, swapped_logs, numbers_rise, listed_where_differs, told_by_own_runs}
use Rattle.compare.proofs.Whole.{result_is, refused_is}
use Rattle.compare.proofs.compare.Goals as goal

pub returns : goal.returns
unfolding compare_result leftover_of compared_by
returns c =
    let told = c.compare_logs-told.ensures in
    record {
      result = to_z-of_z {w = w64} (record { sfits = c.result_of.type_inv }) ∙ c.result_of.ensures ∙ result_is (compared_in c.compare_logs-told.result) (compare_refusal c.args.first.now c.args.second.now (length c.args.entries.now)) c.args.first.now c.args.second.now told.told;
      buffer = told.buffer;
      leftover = c.leftover.ensures ∙ rw (c.is_err.ensures.value, refused_is c.compare_logs-told.result) (ap (λ (t : Compared). cond (ltb 0 t.refusal) (drop (length c.args.first.now) c.args.first.now) (past_shorter c.args.first.now c.args.second.now)) told.told);
      itself = none_with_itself;
      swap = swapped_logs;
      rising = numbers_rise;
      exact = listed_where_differs;
      own = told_by_own_runs;
    }
