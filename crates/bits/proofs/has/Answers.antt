use mathlib.Core.Path.{◌≡◌}
use Prim.Native.Nat.{◌/◌, ◌^◌, ◌≤◌}
use native.Mathlib.Nat.{pow-le-pow_right, div-eq_of_lt}
use native.Mathlib.Omega.{arith}
use borrow.Author.Tests.{le-ltb}
use lib.Dec.{lit≤}
use Rattle.bits.proofs.has.Goals as goal

pub returns-else-k-lt8 : goal.returns-else-k-lt8
returns-else-k-lt8 c =
    let p : 2 ^ 8 ≤ 2 ^ c.args.k = pow-le-pow_right (lit≤ tt) c.if-k-lt8.false in
    let e : c.args.x / 2 ^ c.args.k ≡ 0 = div-eq_of_lt (omega (arith, p)) in
    simp (e, le-ltb _ _ c.if-k-lt8.false)
