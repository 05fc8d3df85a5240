-- What the step promises, for every chip and every record.
use Rattle.std.specs.Prelude.{List, ◌≡◌, ℕ}
use Rattle.records.specs.Records.{accepted}
use Rattle.mcp2515.specs.declared.Chip.{Chip}
use Rattle.mcp2515.specs.declared.Stepped.{Stepped}
use Rattle.mcp2515.specs.Step.{step_of}
use Rattle.mcp2515.specs.Moments.{Demand3}

pub record Stepping (c : Chip) (r : List ℕ) (s : Stepped) : Type 0 where
  -- the result is the rules' own
  pub equal : s ≡ step_of c r
  -- a refused record gets the answer 0 and an empty set, and the chip is as it was
  pub refused : (s.refusal ≡ accepted → ⊥) → (s.answer ≡ 0) × (s.matched ≡ 0) × (s.chip ≡ c)
  -- the rules, whose next chip, answer and set are this very definition's, have demand 3
  pub moment : Demand3
