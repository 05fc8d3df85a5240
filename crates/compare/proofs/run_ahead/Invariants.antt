use mathlib.Core.Path.{◌≡◌}
use mathlib.Core.Bool.{true}
use Prim.Native.Nat.{◌%◌}
use lib.ListN.{length}
use Rattle.image.specs.Image.{is_chip}
use Rattle.mcp2515.specs.ChipImage.{chip_of}
use Rattle.bus_log.specs.Log.{record_size}
use Rattle.bus_log.specs.From.{chip_from}
use Rattle.compare.proofs.run_ahead.Given as goal

abbrev pub invariant-loop-block : goal.invariant-loop-block
invariant-loop-block l =
    record {
      chip : is_chip l.image ≡ true;
      size : l.block-iterator.size ≡ 8192;
      whole : length l.block-iterator.rest.now % record_size ≡ 0;
      left : chip_from (chip_of l.image) l.block-iterator.rest.now ≡ chip_from (chip_of l.initial.image) l.log;
    }
