use Prim.Native.Nat.{◌%◌}
use mathlib.Core.Bool.{not, ◌&&◌, ◌||◌}
use lib.Dec.{eqb, ltb}
use Rattle.bits.proofs.All.{every}
use Rattle.registers.specs.Registers.{region_of}
use Rattle.image.proofs.Places.{same_bool, same_bool_lem}
use Rattle.stores.specs.Merging.{merges_in}
use Rattle.stores.proofs.bytes.merges.Goals as goal

pub returns : goal.returns
unfolding region_of
returns c = same_bool_lem _ _ (every (λ a. same_bool (ltb a 0x60 && ltb (a % 16) 14 && not (eqb a 0x1C || eqb a 0x1D) && not (eqb (a % 16) 0 && ltb 0x2F a)) (merges_in (region_of a))) 128 tt c.args.at c.requires)
