use mathlib.Core.Path.{◌≡◌}
use mathlib.Core.Bool.{true}
use Prim.Native.Nat.{◌+◌, ◌%◌, ◌≤◌}
use lib.ListN.{length}
use lib.Seq.{sets}
use Rattle.image.specs.Image.{is_chip}
use Rattle.mcp2515.specs.ChipImage.{chip_of}
use Rattle.bus_log.specs.Log.{record_size, max_records, records_in}
use Rattle.compare.specs.Compare.{differences_from, entries_of, entry_room}
use Rattle.compare.specs.Block.{differences_behind}
use Rattle.compare.proofs.list.Given as goal

abbrev pub invariant-loop-first : goal.invariant-loop-first
invariant-loop-first l =
    record {
      one : is_chip l.one ≡ true;
      two : is_chip l.two ≡ true;
      size : l.first-iterator.a.size ≡ 8192;
      size_2 : l.first-iterator.b.size ≡ 8192;
      alike : length l.first-iterator.b.rest.now ≡ length l.first-iterator.a.rest.now;
      whole : length l.first-iterator.a.rest.now % record_size ≡ 0;
      numbered : l.before + records_in (length l.first-iterator.a.rest.now) ≤ max_records;
      few : l.found ≤ l.before;
      counted : l.found + length (differences_from (records_in (length l.first-iterator.a.rest.now)) l.before (chip_of l.one) (chip_of l.two) l.first-iterator.a.rest.now l.first-iterator.b.rest.now) ≡ length (differences_behind l.pair (chip_of l.image));
      stored : sets l.entries (entry_room l.found) (entries_of (differences_from (records_in (length l.first-iterator.a.rest.now)) l.before (chip_of l.one) (chip_of l.two) l.first-iterator.a.rest.now l.first-iterator.b.rest.now)) ≡ sets l.initial.entries 0 (entries_of (differences_behind l.pair (chip_of l.image)));
    }
