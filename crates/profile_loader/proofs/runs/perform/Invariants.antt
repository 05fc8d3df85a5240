use mathlib.Core.Path.{◌≡◌}
use Prim.Native.Nat.{◌+◌, ◌*◌, ◌-◌}
use lib.Seq.{sets}
use Rattle.load_machine.specs.Machine.{records_by}
use Rattle.profile_loader.specs.Gaps.{log_of}
use Rattle.profile_loader.specs.Running.{replied_in}
use Rattle.profile_loader.proofs.Sessions.{replied_by}
use Rattle.profile_loader.proofs.runs.perform.Given as goal

abbrev pub invariant-loop-index : goal.invariant-loop-index
invariant-loop-index l =
    (replied_by (replied_in l.image l.reply) (records_by l.command l.index (l.count - l.index)) ≡ replied_by (replied_in l.initial.image 0) (records_by l.command 0 l.count))
    × (sets l.room (l.at + 16 * l.index) (log_of (records_by l.command l.index (l.count - l.index))) ≡ sets l.initial.room l.at (log_of (records_by l.command 0 l.count)))
