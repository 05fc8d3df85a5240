use Prim.Native.Nat.{◌%◌}
use mathlib.Core.Bool.{◌||◌, ◌&&◌}
use lib.Dec.{ltb}
use Rattle.bits.proofs.All.{every}
use Rattle.registers.specs.Registers.{region_of, is_kept}
use Rattle.image.proofs.Places.{same_bool, same_bool_lem}
use Rattle.image.proofs.control.is_kept.Goals as goal

pub returns : goal.returns
unfolding region_of
returns c = same_bool_lem _ _ (every (λ a. same_bool ((ltb a 0x20 && ltb (a % 16) 12) || (ltb 0x2F a && ltb 0 (a % 16) && ltb (a % 16) 14)) (is_kept (region_of a))) 128 tt c.args.at c.requires)
