-- The chip that an image stands for, and what a call that is lent an image promises.
use Rattle.std.specs.Prelude.{◌≡◌, Bool, List, ℕ, length, drop, Result}
use Rattle.records.specs.declared.Refusal.{Refusal}
use Rattle.records.specs.declared.Answer.{Answer}
use Rattle.records.specs.declared.Outcome.{Outcome}
use Rattle.records.specs.Records.{accepted, refusal_in, outcome_of}
use Rattle.receiving.specs.AnswerSets.{wanted_set}
use Rattle.image.specs.Image.{image_size, core_of, RefusedKept}
use Rattle.spi.specs.Open.{select_of}
use Rattle.mcp2515.specs.declared.Chip.{Chip}
use Rattle.mcp2515.specs.Step.{outcome, next_chip}

abbrev pub chip_of : List ℕ → Chip
chip_of m = record { core = core_of m; select = select_of m }

-- bytes that stand for the chip c
pub record Packed (m : List ℕ) (c : Chip) : Type 0 where
  pub size : length m ≡ image_size
  pub chip : chip_of m ≡ c

-- an image m changed into n: n stands for the chip c, and the spare bytes stay
pub record Moved (m n : List ℕ) (c : Chip) : Type 0 where
  pub packed : Packed n c
  pub spare : drop 150 n ≡ drop 150 m

-- what the step does to bytes that it is lent: an image stands for c afterwards; bytes of any other length are no image and stay
pub record Advanced (m n : List ℕ) (c : Chip) : Type 0 where
  pub image : length m ≡ image_size → Moved m n c
  pub other : (length m ≡ image_size → ⊥) → n ≡ m

-- what the step tells of a record, with the set where it is asked for
abbrev pub wanted_outcome : Bool → Outcome → Outcome
wanted_outcome wanted o = record { refusal = o.refusal; answer = o.answer; matched = wanted_set wanted o.matched }

-- what a step of the SPI side does to an image m, which it leaves as n, and what it tells of the record r. Refused, no byte changes
pub record SpiStep (m n r : List ℕ) (x : Result Answer Refusal) : Type 0 where
  pub told : outcome_of x ≡ outcome (chip_of m) r
  pub moved : Moved m n (next_chip (chip_of m) r)
  pub refused_kept : RefusedKept (refusal_in x) m n

-- accepted with this answer
abbrev pub told : ℕ → Outcome
told a = record { refusal = accepted; answer = a; matched = 0 }
