use native.Mathlib.Omega.{arith}
use mathlib.Core.Path.{◌≡◌, sym, ◌∙◌}
use Prim.Native.Nat.{◌%◌}
use Rattle.registers.specs.Registers.{region_of}
use Rattle.image.specs.Image.{place_in, place_of}
use Rattle.image.proofs.Places.{holds_place}
use Rattle.image.proofs.addresses.hold_at.Goals as goal

pub returns : goal.returns
unfolding place_of
returns c = let e : c.args.at % 128 ≡ c.args.at = omega arith in let p : c.place_of-place.result ≡ place_in (region_of c.args.at) c.args.at = rw e at c.place_of-place.ensures in rw p (sym (holds_place c.args.image.now c.args.at c.requires (sym c.is_derived.ensures ∙ c.if-is_derived.false)))
