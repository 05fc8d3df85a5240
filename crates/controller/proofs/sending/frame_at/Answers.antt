use mathlib.Core.Path.{◌≡◌}
use Prim.Native.Nat.{◌+◌, ◌-◌}
use native.Mathlib.Omega.{arith}
use Rattle.controller.specs.Sending.{frame_at}
use Rattle.controller.proofs.Acts.{eight_bytes}
use Rattle.controller.proofs.sending.frame_at.Goals as goal

pub returns : goal.returns
unfolding frame_at
returns c =
    let n : c.args.at + 14 - (c.args.at + 6) ≡ 8 = omega arith in
    simp (c.identifier_sent.ensures, c.code_sent.ensures, c.copy_from_slice.ensures.after, n, eight_bytes c.args.image.now c.args.at (omega (arith, c.requires)))
