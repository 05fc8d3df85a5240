use native.Mathlib.Omega.{arith}
use Rattle.stand_in.proofs.Loading.{put_back}
use Rattle.stand_in.proofs.loads.put_chip.Goals as goal

pub returns : goal.returns
returns c = put_back c.args.image.now _ _ (omega arith) c.pack-bytes.ensures
