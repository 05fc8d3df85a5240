use native.Mathlib.Omega.{arith}
use mathlib.Core.Path.{◌≡◌}
use Prim.Native.Nat.{◌%◌}
use Rattle.registers.specs.Registers.{region_of}
use Rattle.image.specs.Image.{place_in, place_of}
use Rattle.stores.proofs.Merged.{stored_merged}
use Rattle.stores.proofs.bytes.merge_byte.Goals as goal

pub returns : goal.returns
unfolding place_of
returns c = let e : c.args.at % 128 ≡ c.args.at = omega arith in let p : c.place_of-place.result ≡ place_in (region_of c.args.at) c.args.at = rw e at c.place_of-place.ensures in simp (c.write.ensures, c.mask_at-mask.ensures, c.takes-taken.ensures, p) (stored_merged c.args.image.now c.args.at c.args.value (omega arith) c.requires.0 c.requires.1)
