use Rattle.receiving.specs.Words.{key_of}
use Rattle.receiving.proofs.frames.extended_key.Goals as goal

pub returns : goal.returns
unfolding key_of
returns c = simp (c.requires, c.word-2.ensures, c.word.ensures, c.eid0.ensures, c.eid8.ensures, c.sidl.ensures, c.sidh.ensures)
