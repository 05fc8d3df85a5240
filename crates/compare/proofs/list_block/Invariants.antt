use mathlib.Core.Path.{◌≡◌}
use Prim.Native.Nat.{◌+◌, ◌*◌, ◌-◌, ◌≤◌}
use lib.ListN.{length, drop}
use lib.Seq.{sets}
use Rattle.bus_log.specs.Log.{record_size, records_in}
use Rattle.compare.specs.Compare.{entries_of, entry_room}
use Rattle.compare.specs.Block.{differences_in, differences_told}
use Rattle.compare.proofs.list_block.Given as goal

abbrev pub invariant-loop-i : goal.invariant-loop-i
invariant-loop-i l =
    record {
      few : l.listed ≤ l.block.before + l.i;
      counted : l.listed + length (differences_in (records_in (length l.block.first.now) - l.i) (l.block.before + l.i) (drop (l.i * record_size) l.block.first.now) (drop (l.i * 3) l.told) (drop (l.i * record_size) l.block.second.now) (drop (l.i * 3) l.other)) ≡ l.found + length (differences_told l.block l.told l.other);
      stored : sets l.entries (entry_room l.listed) (entries_of (differences_in (records_in (length l.block.first.now) - l.i) (l.block.before + l.i) (drop (l.i * record_size) l.block.first.now) (drop (l.i * 3) l.told) (drop (l.i * record_size) l.block.second.now) (drop (l.i * 3) l.other))) ≡ sets l.initial.entries (entry_room l.found) (entries_of (differences_told l.block l.told l.other));
    }
