use mathlib.Core.Path.{◌≡◌}
use mathlib.Core.Bool.{true}
use mathlib.Core.List.{List}
use Prim.Native.Nat.{ℕ, ◌+◌, ◌-◌, ◌*◌, ◌≤◌}
use lib.ListN.{drop}
use Rattle.mcp2515.specs.declared.Stepped.{Stepped}
use Rattle.mcp2515.specs.ChipImage.{chip_of}
use Rattle.bus_log.specs.Log.{record_size, steps_of, last_chip, all_refused}
use Rattle.log_text.specs.Line.{lines_of}
use Rattle.log_text.specs.Storing.{Stored}
use Rattle.log_text.specs.Stretch.{line_room}
use Rattle.log_text.proofs.put_records.Given as goal

-- over the steps that are left
abbrev pub invariant-loop-record : goal.invariant-loop-record
invariant-loop-record l =
    (l.last ≡ l.fn.number + l.record-index)
    × (l.len + (l.fn.count - l.record-index) * line_room ≤ l.fn.count * line_room)
    × ((after : List ℕ) (end : ℕ) → Stored l.out l.len (lines_of l.last (part l.record-index) (rest l.image)) after end
    → Stored l.initial.out 0 (lines_of l.fn.number l.fn.part (steps_of l.fn.count (chip_of l.initial.image) l.fn.part)) after end)
    × (last_chip (chip_of l.image) (rest l.image) ≡ last_chip (chip_of l.initial.image) (steps_of l.fn.count (chip_of l.initial.image) l.fn.part))
    × (drop 150 l.image ≡ drop 150 l.initial.image)
    × (all_refused (steps_of l.fn.count (chip_of l.initial.image) l.fn.part) ≡ true → (l.image ≡ l.initial.image) × (all_refused (rest l.image) ≡ true))
  where
    part : ℕ → List ℕ
    part i = drop (record_size * i) l.fn.part

    rest : List ℕ → List Stepped
    rest m = steps_of (l.fn.count - l.record-index) (chip_of m) (part l.record-index)
