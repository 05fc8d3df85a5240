use native.Mathlib.Omega.{arith}
use native.Mathlib.Nat.{div-one}
use lib.ListN.{drop}
use lib.Seq.{get_or-take, get_or-drop}
use Rattle.image.specs.Image.{decoded}
use Rattle.spi.specs.Instructions.{rx_status_of}
use Rattle.spi.proofs.statuses.rx_status.Goals as goal

pub returns : goal.returns
unfolding rx_status_of decoded
returns c = simp (div-one, c.flag-2.ensures, c.flag.ensures, c.choose-shown.ensures, c.choose.ensures, c.describe-first.ensures, c.describe-second.ensures, c.shown_hit.ensures, get_or-take 32 (drop 96 c.args.image.now) 2 0 (omega arith), get_or-take 32 (drop 96 c.args.image.now) 18 0 (omega arith), get_or-drop)
