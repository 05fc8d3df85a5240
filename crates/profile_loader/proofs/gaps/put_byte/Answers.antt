use mathlib.Core.Path.{sym}
use native.Mathlib.Omega.{arith}
use lib.Seq.{set_out}
use Rattle.profile_loader.proofs.gaps.put_byte.Goals as goal

pub returns-else-at-room : goal.returns-else-at-room
returns-else-at-room c = sym (set_out c.args.room.now c.args.at c.args.byte (omega arith))
