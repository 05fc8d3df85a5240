use Prim.Native.Nat.{◌%◌}
use mathlib.Core.Bool.{◌||◌}
use lib.Dec.{eqb}
use Rattle.bits.proofs.All.{every}
use Rattle.registers.specs.Registers.{region_of}
use Rattle.image.specs.Image.{is_derived}
use Rattle.image.proofs.Places.{same_bool, same_bool_lem}
use Rattle.image.proofs.addresses.is_derived.Goals as goal

pub returns : goal.returns
unfolding region_of
returns c = same_bool_lem _ _ (every (λ a. same_bool (eqb (a % 16) 14 || eqb a 0x2D || eqb a 0x1C || eqb a 0x0D) (is_derived (region_of a))) 128 tt c.args.at c.requires)
