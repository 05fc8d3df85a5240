-- Plans as a table, and one claim over it, which the proofs compute.
use Rattle.std.specs.Prelude.{List, [], ◌∷◌, ℕ, ℤ, pos, neg_ℤ, Option, Some, None, Result, Ok, Err}
use Rattle.records.specs.declared.Refusal.{Refusal}
use Rattle.records.specs.declared.Refusal.TheVariants.{Oscillator, Rate}
use Rattle.bit_timing.specs.declared.Planned.{Planned}
use Rattle.bit_timing.specs.Timing.{setting_by, Planning}

-- oscillator, rate, and what is planned
abbrev pub Row : Type 0
Row = ℕ × ℕ × Result (Option Planned) Refusal

-- a setting by its three bytes, with its difference
abbrev pub found : ℕ → ℕ → ℕ → ℤ → Result (Option Planned) Refusal
found cnf1 cnf2 cnf3 difference = Ok (Some (record { setting = setting_by cnf1 cnf2 cnf3; difference = difference }))

abbrev pub table : List Row
table =
    (16000000, 500000, found 0x00 0x86 0x06 (pos 0))
    -- BRP 4 with 16 quanta has difference 0 too; the lower BRP wins
    ∷ (20000000, 125000, found 0x03 0x97 0x07 (pos 0))
    -- below zero
    ∷ (12000000, 95239, found 0x02 0x9F 0x07 (neg_ℤ (pos 114)))
    -- a thousandth of the oscillator is near enough, and no more
    ∷ (16000000, 499500, found 0x00 0x86 0x06 (pos 16000))
    ∷ (16000000, 499499, Ok None)
    -- an odd crystal for which no setting is near enough
    ∷ (14745600, 125000, Ok None)
    -- both are out of range: the oscillator comes first
    ∷ (999999, 4999, Err Oscillator)
    ∷ (1000000, 4999, Err Rate)
    ∷ []

-- each row is planned so
abbrev pub AllPlanned : List Row → Type 0
AllPlanned [] = Unit
AllPlanned (row ∷ rows) = Planning row.0 row.1 row.2 × AllPlanned rows

abbrev pub PlansHold : Type 0
PlansHold = AllPlanned table
