use mathlib.Core.Path.{◌≡◌}
use mathlib.Core.Bool.{true}
use mathlib.Core.List.{List}
use Prim.Native.Nat.{ℕ, ◌-◌, ◌*◌}
use lib.ListN.{length, drop}
use lib.Seq.{sets}
use Rattle.mcp2515.specs.declared.Stepped.{Stepped}
use Rattle.mcp2515.specs.ChipImage.{chip_of}
use Rattle.bus_log.specs.Log.{record_size, records_in, steps_of, steps_in, last_chip, all_refused, answers_of}
use Rattle.bus_log.specs.Run.{answer_room}
use Rattle.bus_log.proofs.run_records.Given as goal

-- over the steps that are left
abbrev pub invariant-loop-record : goal.invariant-loop-record
invariant-loop-record l =
    (l.at ≡ answer_room l.wanted l.record-index)
    × (length l.answers ≡ length l.initial.answers)
    × (sets l.answers l.at (answers_of l.wanted (rest l.image)) ≡ sets l.initial.answers 0 (answers_of l.wanted (steps_in (chip_of l.initial.image) l.fn.log)))
    × (drop 150 l.image ≡ drop 150 l.initial.image)
    × (last_chip (chip_of l.image) (rest l.image) ≡ last_chip (chip_of l.initial.image) (steps_in (chip_of l.initial.image) l.fn.log))
    × (all_refused (steps_in (chip_of l.initial.image) l.fn.log) ≡ true → (l.image ≡ l.initial.image) × (all_refused (rest l.image) ≡ true))
  where
    rest : List ℕ → List Stepped
    rest m = steps_of (records_in (length l.fn.log) - l.record-index) (chip_of m) (drop (record_size * l.record-index) l.fn.log)
