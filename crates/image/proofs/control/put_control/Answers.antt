use native.Mathlib.Omega.{arith}
use mathlib.Core.Path.{◌≡◌}
use Prim.Native.Nat.{◌/◌, ◌%◌}
use lib.ListN.{get_or}
use Rattle.image.specs.Image.{encoded}
use Rattle.image.proofs.Laws.{put_core}
use Rattle.image.proofs.control.put_control.Goals as goal

pub returns : goal.returns
unfolding encoded
returns c =
    let low : get_or c.to_le_bytes.result 0 0 ≡ c.args.control.counters.tec % 256 = rw c.to_le_bytes.ensures (omega arith) in
    let high : get_or c.to_le_bytes.result 1 0 ≡ c.args.control.counters.tec / 256 = rw c.to_le_bytes.ensures (omega arith) in
    simp (low, high, c.request_number.ensures, c.flight_number.ensures, c.mode_number.ensures) (put_core c.args.image.now c.args.control (omega arith))
