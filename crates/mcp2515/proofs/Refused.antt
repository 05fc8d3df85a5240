-- A refused record answers 0 with an empty set and leaves the chip as it was. Assumes nothing.
use Rattle.std.proofs.Common.{Option, Some, None}
use mathlib.Core.Bool.{Bool, true, false, cond}
use mathlib.Core.List.{List}
use mathlib.Core.Path.{◌≡◌, refl}
use Prim.Native.Nat.{ℕ}
use lib.Dec.{eqb}
use Rattle.records.specs.declared.Kind.{Kind}
use Rattle.records.specs.declared.Kind.TheVariants.{SelectLow, Exchange, SelectHigh, FrameHeard, BusIdle, FrameEnds, ReceiveError, Recovery, PinLevel}
use Rattle.records.specs.Records.{refused_speaker, byte_at, kind_of, is_event, sound_of}
use Rattle.registers.specs.declared.Core.{Core}
use Rattle.controller.specs.Events.{event_refusal, event_of}
use Rattle.spi.specs.declared.Act.{Act}
use Rattle.spi.specs.declared.Act.TheVariants.{Refuse}
use Rattle.spi.specs.Instructions.{same_speaker, act_by, next_by, high_act, reply_to, acted, refusal_of}
use Rattle.spi.proofs.Turns.{act_accepted, high_told}
use Rattle.mcp2515.specs.declared.Chip.{Chip}
use Rattle.spi.specs.declared.Speaker.{Speaker}
use Rattle.spi.specs.declared.Select.{Select}
use Rattle.spi.specs.declared.Select.TheVariants.{Raised, Lowered}
use Rattle.mcp2515.specs.Step.{speaker_in, asked_by, asked, turned_by, turned, step_of}

-- An act that was refused, and the select after it.
record Unmoved (x : Act) (s t : Select) (k : Core) : Type 0 where
  answers_0 : reply_to x k ≡ 0
  core_kept : acted x k ≡ k
  select_kept : t ≡ s

-- The other speaks, or an act that is never refused.
unmoved_same : (g : Bool) (a : Act) (x s : Select) (k : Core) → refusal_of a ≡ 0
    → (refusal_of (cond g a (Refuse refused_speaker)) ≡ 0 → ⊥) → Unmoved (cond g a (Refuse refused_speaker)) s (cond g x s) k
unmoved_same true a x s k e h = absurd (h e)
unmoved_same false a x s k e h = record { answers_0 = refl; core_kept = refl; select_kept = refl }

unmoved_by : (g : Option Kind) (s : Select) (p : Speaker) (b : ℕ) (k : Core) → (refusal_of (asked_by g s p b) ≡ 0 → ⊥) → Unmoved (asked_by g s p b) s (turned_by g s p b) k
unmoved_by (Some SelectLow) Raised p b k h = absurd (h refl)
unmoved_by (Some SelectLow) (Lowered q i) p b k h = record { answers_0 = refl; core_kept = refl; select_kept = refl }
unmoved_by (Some Exchange) Raised p b k h = record { answers_0 = refl; core_kept = refl; select_kept = refl }
unmoved_by (Some Exchange) (Lowered q i) p b k h = unmoved_same (same_speaker q p) (act_by q i b) (Lowered q (next_by q i b)) (Lowered q i) k (act_accepted q i b) h
unmoved_by (Some SelectHigh) Raised p b k h = record { answers_0 = refl; core_kept = refl; select_kept = refl }
unmoved_by (Some SelectHigh) (Lowered q i) p b k h = unmoved_same (same_speaker q p) (high_act q i) Raised (Lowered q i) k (high_told q i k).0 h
unmoved_by (Some FrameHeard) s p b k h = record { answers_0 = refl; core_kept = refl; select_kept = refl }
unmoved_by (Some BusIdle) s p b k h = record { answers_0 = refl; core_kept = refl; select_kept = refl }
unmoved_by (Some FrameEnds) s p b k h = record { answers_0 = refl; core_kept = refl; select_kept = refl }
unmoved_by (Some ReceiveError) s p b k h = record { answers_0 = refl; core_kept = refl; select_kept = refl }
unmoved_by (Some Recovery) s p b k h = record { answers_0 = refl; core_kept = refl; select_kept = refl }
unmoved_by (Some PinLevel) s p b k h = record { answers_0 = refl; core_kept = refl; select_kept = refl }
unmoved_by None s p b k h = record { answers_0 = refl; core_kept = refl; select_kept = refl }

unmoved : (s : Select) (r : List ℕ) (k : Core) → (refusal_of (asked s r) ≡ 0 → ⊥) → Unmoved (asked s r) s (turned s r) k
unfolding asked turned
unmoved s r k h = go (sound_of r) refl
  where
    go : (b : Bool) → sound_of r ≡ b → Unmoved (asked s r) s (turned s r) k
    go true e = rw e (unmoved_by (kind_of r) s (speaker_in r) (byte_at r 1) k (rw e at h))
    go false e = rw e (record { answers_0 = refl; core_kept = refl; select_kept = refl })

event_unmoved : (k : Core) (r : List ℕ) → ((event_of k r).refusal ≡ 0 → ⊥) → ((event_of k r).answer ≡ 0) × ((event_of k r).matched ≡ 0) × ((event_of k r).core ≡ k)
unfolding event_of
event_unmoved k r h = go (eqb (event_refusal k.control r) 0) refl
  where
    go : (b : Bool) → eqb (event_refusal k.control r) 0 ≡ b → ((event_of k r).answer ≡ 0) × ((event_of k r).matched ≡ 0) × ((event_of k r).core ≡ k)
    go true e = absurd ((rw e at h) refl)
    go false e = rw e (refl, refl, refl)

pub refused_kept : (c : Chip) (r : List ℕ) → ((step_of c r).refusal ≡ 0 → ⊥) → ((step_of c r).answer ≡ 0) × ((step_of c r).matched ≡ 0) × ((step_of c r).chip ≡ c)
unfolding step_of
refused_kept c r h = go (is_event (kind_of r)) refl
  where
    go : (b : Bool) → is_event (kind_of r) ≡ b → ((step_of c r).answer ≡ 0) × ((step_of c r).matched ≡ 0) × ((step_of c r).chip ≡ c)
    go true e =
        let u = event_unmoved c.core r (rw e at h) in
        rw e (u.0, u.1, λ i. record { core = u.2 i; select = c.select })
    go false e =
        let u = unmoved c.select r c.core (rw e at h) in
        rw e (u.answers_0, refl, λ i. record { core = u.core_kept i; select = u.select_kept i })
