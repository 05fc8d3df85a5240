-- The step: any chip and any record of 16 bytes; and the run of a list of records.
use Rattle.std.specs.Prelude.{ℕ, cond, List, [], ◌∷◌, Option, Some, None}
use Rattle.records.specs.declared.Kind.{Kind}
use Rattle.records.specs.declared.Kind.TheVariants.{SelectLow, Exchange, SelectHigh, FrameHeard, BusIdle, FrameEnds, ReceiveError, Recovery, PinLevel}
use Rattle.records.specs.declared.Outcome.{Outcome}
use Rattle.records.specs.Records.{accepted, refused_select, refused_field, refused_speaker, byte_at, kind_of, is_event, sound_of}
use Rattle.registers.specs.Registers.{power_on_core}
use Rattle.controller.specs.Events.{event_of}
use Rattle.spi.specs.declared.Instruction.TheVariants.{First}
use Rattle.spi.specs.declared.Speaker.{Speaker}
use Rattle.spi.specs.declared.Select.{Select}
use Rattle.spi.specs.declared.Select.TheVariants.{Raised, Lowered}
use Rattle.spi.specs.declared.Act.{Act}
use Rattle.spi.specs.declared.Act.TheVariants.{Rest, Refuse}
use Rattle.mcp2515.specs.declared.Chip.{Chip}
use Rattle.mcp2515.specs.declared.Stepped.{Stepped}
use Rattle.spi.specs.Instructions.{speaker_by, same_speaker, act_by, next_by, high_act, reply_to, acted, refusal_of}

-- at power-on the select is high
unfoldable pub power_on : Chip
power_on = record { core = power_on_core; select = Raised }

-- ---- the SPI side of a step
-- byte 2 says who speaks
abbrev pub speaker_in : List ℕ → Speaker
speaker_in r = speaker_by (byte_at r 2)

-- refusal 1: lowering a select that is low, or exchanging over or raising one that is high; after it refusal 18: exchanging over or raising
-- one that the other has lowered
abbrev pub asked_by : Option Kind → Select → Speaker → ℕ → Act
asked_by (Some SelectLow) Raised p b = Rest
asked_by (Some SelectLow) (Lowered q i) p b = Refuse refused_select
asked_by (Some Exchange) Raised p b = Refuse refused_select
asked_by (Some Exchange) (Lowered q i) p b = cond (same_speaker q p) (act_by q i b) (Refuse refused_speaker)
asked_by (Some SelectHigh) Raised p b = Refuse refused_select
asked_by (Some SelectHigh) (Lowered q i) p b = cond (same_speaker q p) (high_act q i) (Refuse refused_speaker)
asked_by (Some FrameHeard) s p b = Refuse refused_field
asked_by (Some BusIdle) s p b = Refuse refused_field
asked_by (Some FrameEnds) s p b = Refuse refused_field
asked_by (Some ReceiveError) s p b = Refuse refused_field
asked_by (Some Recovery) s p b = Refuse refused_field
asked_by (Some PinLevel) s p b = Refuse refused_field
asked_by None s p b = Refuse refused_field

-- so an exchange or select high is refused
abbrev pub line_refusal : Select → Speaker → ℕ
line_refusal Raised p = refused_select
line_refusal (Lowered q i) p = cond (same_speaker q p) accepted refused_speaker

-- refusal 2 comes before both
unfoldable pub asked : Select → List ℕ → Act
asked s r = cond (sound_of r) (asked_by (kind_of r) s (speaker_in r) (byte_at r 1)) (Refuse refused_field)

abbrev pub turned_by : Option Kind → Select → Speaker → ℕ → Select
turned_by (Some SelectLow) Raised p b = Lowered p First
turned_by (Some SelectLow) (Lowered q i) p b = Lowered q i
turned_by (Some Exchange) Raised p b = Raised
turned_by (Some Exchange) (Lowered q i) p b = cond (same_speaker q p) (Lowered q (next_by q i b)) (Lowered q i)
turned_by (Some SelectHigh) Raised p b = Raised
turned_by (Some SelectHigh) (Lowered q i) p b = cond (same_speaker q p) Raised (Lowered q i)
turned_by (Some FrameHeard) s p b = s
turned_by (Some BusIdle) s p b = s
turned_by (Some FrameEnds) s p b = s
turned_by (Some ReceiveError) s p b = s
turned_by (Some Recovery) s p b = s
turned_by (Some PinLevel) s p b = s
turned_by None s p b = s

unfoldable pub turned : Select → List ℕ → Select
turned s r = cond (sound_of r) (turned_by (kind_of r) s (speaker_in r) (byte_at r 1)) s

abbrev pub spi_step : Chip → List ℕ → Stepped
spi_step c r =
    record {
      refusal = refusal_of (asked c.select r);
      answer = reply_to (asked c.select r) c.core;
      matched = 0;
      chip = record { core = acted (asked c.select r) c.core; select = turned c.select r };
    }

-- ---- an event never looks at the SPI side
abbrev pub event_step : Chip → List ℕ → Stepped
event_step c r =
    record {
      refusal = (event_of c.core r).refusal;
      answer = (event_of c.core r).answer;
      matched = (event_of c.core r).matched;
      chip = record { core = (event_of c.core r).core; select = c.select };
    }

unfoldable pub step_of : Chip → List ℕ → Stepped
step_of c r = cond (is_event (kind_of r)) (event_step c r) (spi_step c r)

-- ---- the run of a list: the chip is handed on from step to step
abbrev pub next_chip : Chip → List ℕ → Chip
next_chip c r = (step_of c r).chip

-- what a step tells beside the chip
abbrev pub outcome_in : Stepped → Outcome
outcome_in s = record { refusal = s.refusal; answer = s.answer; matched = s.matched }

abbrev pub outcome : Chip → List ℕ → Outcome
outcome c r = outcome_in (step_of c r)

unfoldable pub chip_after : Chip → List (List ℕ) → Chip
chip_after c [] = c
chip_after c (r ∷ rs) = chip_after (next_chip c r) rs

unfoldable pub outcomes : Chip → List (List ℕ) → List Outcome
outcomes c [] = []
outcomes c (r ∷ rs) = outcome c r ∷ outcomes (next_chip c r) rs
