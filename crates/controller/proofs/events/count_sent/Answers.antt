use native.Mathlib.Omega.{arith}
use mathlib.Core.Path.{◌≡◌, sym, ◌∙◌}
use Prim.Native.Nat.{◌/◌, ◌%◌}
use lib.ListN.{get_or}
use Rattle.controller.proofs.Acts.{tec-counted, tec_kept}
use Rattle.controller.proofs.events.count_sent.Goals as goal

pub returns-then-is_normal : goal.returns-then-is_normal
returns-then-is_normal c =
    let low : get_or c.to_le_bytes.result 0 0 ≡ c.less_one.result % 256 = rw c.to_le_bytes.ensures (omega arith) in
    let high : get_or c.to_le_bytes.result 1 0 ≡ c.less_one.result / 256 = rw c.to_le_bytes.ensures (omega arith) in
    simp (low, high) (tec-counted c.args.image.now c.less_one.result (omega arith) (sym c.is_normal.ensures ∙ c.if-is_normal.true) c.mode_of.ensures c.less_one.ensures c.control_of.ensures)

pub returns-else-is_normal : goal.returns-else-is_normal
returns-else-is_normal c = tec_kept c.args.image.now (omega arith) (sym c.is_normal.ensures ∙ c.if-is_normal.false) c.mode_of.ensures
