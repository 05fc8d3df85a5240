use mathlib.Core.Path.{◌≡◌, sym, ◌∙◌}
use mathlib.Core.List.{List}
use Prim.Native.Nat.{ℕ}
use native.Mathlib.Omega.{arith}
use lib.ListN.{length}
use lib.Seq.{take_all}
use Rattle.records.specs.Records.{record_of}
use Rattle.records.proofs.Taken.{sixteen}
use Rattle.records.proofs.fields_of.Goals as goal

pub returns : goal.returns
unfolding record_of
returns c =
    let bytes : List ℕ = c.args.«record».now in
    let whole : length bytes ≡ 16 = omega arith in
    let j : _ = c.joined.ensures in
    let w : _ = c.word.ensures in
    simp (j.0, j.1, j.2, j.3, w.low.0, w.low.1, w.low.2, w.low.3, w.high.0, w.high.1, w.high.2, w.high.3)
    (sym (sixteen bytes 0 (omega (arith, whole))) ∙ take_all 16 bytes (omega (arith, whole)))
