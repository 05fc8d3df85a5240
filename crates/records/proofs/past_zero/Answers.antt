use native.Mathlib.Nat.{div-one}
use native.Mathlib.Omega.{arith}
use Rattle.records.specs.Records.{carried, record_of}
use Rattle.records.proofs.Taken.{past-leb, carried-code}
use Rattle.records.proofs.past_zero.Goals as goal

pub returns : goal.returns
unfolding record_of
returns c =
    simp (c.largest_data.ensures, c.choose.ensures, carried-code c.args.remote c.args.fields.code, past-leb c.args.fields.«data» (carried c.args.remote c.args.fields.code) 8 (omega arith), div-one)
