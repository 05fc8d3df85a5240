use native.Mathlib.Omega.{arith}
use Rattle.receiving.specs.Words.{key_of}
use Rattle.receiving.proofs.frames.standard_key.Goals as goal

pub returns : goal.returns
unfolding key_of
returns c = simp (c.requires, c.word-2.ensures, c.word.ensures, c.sidl.ensures, c.sidh.ensures, c.choose-eid0_reach.ensures, c.choose-eid8_reach.ensures, c.data_end-end.ensures 0 (omega arith), c.data_end-end.ensures 1 (omega arith))
