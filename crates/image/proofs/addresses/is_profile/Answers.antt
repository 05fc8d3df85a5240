use Prim.Native.Nat.{◌%◌}
use mathlib.Core.Bool.{◌||◌, ◌&&◌}
use lib.Dec.{ltb}
use Rattle.bits.proofs.All.{every}
use Rattle.registers.specs.Registers.{region_of, is_profile}
use Rattle.image.proofs.Places.{same_bool, same_bool_lem}
use Rattle.image.proofs.addresses.is_profile.Goals as goal

pub returns : goal.returns
unfolding region_of
returns c = same_bool_lem _ _ (every (λ a. same_bool ((ltb a 0x20 && ltb (a % 16) 12) || (ltb 0x1F a && ltb a 0x28)) (is_profile (region_of a))) 128 tt c.args.at c.requires)
