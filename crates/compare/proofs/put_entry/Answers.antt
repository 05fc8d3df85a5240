use mathlib.Core.Path.{◌≡◌}
use Prim.Native.Nat.{◌+◌, ◌-◌}
use native.Mathlib.Omega.{arith}
use Rattle.compare.specs.Compare.{entry_of}
use Rattle.compare.specs.Block.{told_by}
use Rattle.compare.proofs.Mid.{sets_mid}
use Rattle.compare.proofs.put_entry.Goals as goal

pub returns : goal.returns
returns c =
    let size : c.args.at + 10 - c.args.at ≡ 10 = omega arith in
    rw (sets_mid c.args.entries.now (entry_of (record { number = c.args.number; first = told_by c.args.one.now; second = told_by c.args.two.now })) c.args.at (omega arith), size, c.copy_from_slice.ensures.after, c.to_be_bytes.ensures)
