use native.Mathlib.Omega.{arith}
use native.Mathlib.Numerals.{add-one}
use mathlib.Core.Path.{◌≡◌, refl, ap, ◌∙◌}
use mathlib.Core.Bool.{cond}
use mathlib.Core.List.{List}
use Prim.Native.Nat.{ℕ, ◌<◌}
use Rattle.registers.specs.Registers.{region_of, is_kept, kept_from}
use lib.ListN.{length, get_or}
use Rattle.image.proofs.Laws.{reset_byte, reset_more}
use Rattle.image.proofs.control.clear.Goals as goal

pub loop-at-init : goal.loop-at-init
unfolding kept_from
loop-at-init c = refl

pub loop-at-preserved : goal.loop-at-preserved
loop-at-preserved c =
    let small : c.loop-at.at < length c.args.image.now = omega (arith, c.loop-at-test.true) in
    let byte : get_or c.loop-at.image c.loop-at.at 0 ≡ get_or c.args.image.now c.loop-at.at 0 = ap (λ (r : List ℕ). get_or r c.loop-at.at 0) c.loop-at.invariant ∙ reset_byte c.loop-at.at c.args.image.now small in
    let v : c.choose.result ≡ cond (is_kept (region_of c.loop-at.at)) (get_or c.args.image.now c.loop-at.at 0) 0 = c.choose.ensures ∙ simp (c.is_kept.ensures, byte) in
    rw (add-one, v, c.loop-at.invariant) (reset_more c.loop-at.at c.args.image.now small)

pub returns : goal.returns
returns c = let e : c.loop-at.at ≡ 128 = omega arith in rw e at c.loop-at.invariant
