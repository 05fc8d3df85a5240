-- The select line's number as a stage of it.
use Rattle.std.specs.Prelude.{ℕ, cond, eqb}
use Rattle.spi.specs.declared.stages.Stage.{Stage}
use Rattle.spi.specs.declared.stages.Stage.TheVariants.{Raised, First, ReadAddress, Reading, WriteAddress, Writing, ModifyAddress, ModifyMask, ModifyData, ReadingRxb0, ReadingRxb1, StatusReply, RxStatusReply, Done}

-- from 13 on it is done
unfoldable pub stage_by : ℕ → Stage
stage_by n =
    cond (eqb n 0) Raised
    (cond (eqb n 1) First
    (cond (eqb n 2) ReadAddress
    (cond (eqb n 3) Reading
    (cond (eqb n 4) WriteAddress
    (cond (eqb n 5) Writing
    (cond (eqb n 6) ModifyAddress
    (cond (eqb n 7) ModifyMask
    (cond (eqb n 8) ModifyData
    (cond (eqb n 9) ReadingRxb0
    (cond (eqb n 10) ReadingRxb1
    (cond (eqb n 11) StatusReply
    (cond (eqb n 12) RxStatusReply Done))))))))))))

abbrev pub stage_number : Stage → ℕ
stage_number Raised = 0
stage_number First = 1
stage_number ReadAddress = 2
stage_number Reading = 3
stage_number WriteAddress = 4
stage_number Writing = 5
stage_number ModifyAddress = 6
stage_number ModifyMask = 7
stage_number ModifyData = 8
stage_number ReadingRxb0 = 9
stage_number ReadingRxb1 = 10
stage_number StatusReply = 11
stage_number RxStatusReply = 12
stage_number Done = 13
