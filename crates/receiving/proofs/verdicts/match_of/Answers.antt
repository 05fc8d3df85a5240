use lib.ListN.{take}
use Rattle.registers.specs.declared.RxBuffer.TheVariants.{Rxb0, Rxb1}
use Rattle.image.specs.Image.{control_of}
use Rattle.receiving.proofs.Match.{hit_same}
use Rattle.receiving.proofs.Sets.{set_words}
use Rattle.receiving.specs.Receiving.{verdict_of, match_of}
use Rattle.receiving.proofs.verdicts.match_of.Goals as goal

pub returns : goal.returns
unfolding match_of verdict_of
returns c =
    let key = c.key_of-key.ensures in
    simp (c.judge-verdict.ensures, c.hit_for.ensures, c.set_if-matched.ensures, key, hit_same (control_of c.args.image.now) (take 48 c.args.image.now) c.args.frame Rxb0, hit_same (control_of c.args.image.now) (take 48 c.args.image.now) c.args.frame Rxb1, set_words c.args.image.now c.args.frame)
