-- Events between two commands: the select stays high, and what every event keeps is kept. Assumes nothing.
use mathlib.Core.Path.{◌≡◌, refl, ap, ◌∙◌}
use mathlib.Core.Bool.{Bool, true, false, cond}
use mathlib.Core.List.{List, [], ◌∷◌, ◌++◌}
use Prim.Native.Nat.{ℕ, zero, suc}
use Rattle.records.specs.Records.{kind_of, is_event}
use Rattle.registers.specs.declared.Core.{Core}
use Rattle.controller.specs.Events.{event_of}
use Rattle.mcp2515.specs.declared.Chip.{Chip}
use Rattle.mcp2515.specs.Step.{event_step, spi_step, step_of, next_chip, chip_after}
use Rattle.load_rules.specs.Load.{events_in, gap_before}
use Rattle.load_rules.proofs.Sessions.{raised}

pub after_append : (c : Chip) (xs ys : List (List ℕ)) → chip_after c (xs ++ ys) ≡ chip_after (chip_after c xs) ys
unfolding chip_after
after_append c [] ys = refl
after_append c (x ∷ xs) ys = after_append (next_chip c x) xs ys

event_raised : (k : Core) (r : List ℕ) → is_event (kind_of r) ≡ true → next_chip (raised k) r ≡ raised (event_of k r).core
unfolding step_of
event_raised k r e = ap (λ (b : Bool). (cond b (event_step (raised k) r) (spi_step (raised k) r)).chip) e

-- a core that came from k by events alone
pub record Passed (P : Core → Type 0) (k : Core) (c : Chip) : Type 0 where
  pub core : Core
  pub chip : c ≡ raised core
  pub kept : P core

module _ (P : Core → Type 0) (event : (k : Core) (r : List ℕ) → P k → P (event_of k r).core) where
  events_pass : (rs : List (List ℕ)) (k : Core) → P k → Passed P k (chip_after (raised k) (events_in rs))
  unfolding chip_after events_in
  events_pass [] k p = record { core = k; chip = refl; kept = p }
  events_pass (r ∷ rs) k p = go (is_event (kind_of r)) refl (events_pass rs (event_of k r).core (event k r p)) (events_pass rs k p)
    where
      go : (b : Bool) → is_event (kind_of r) ≡ b
          → Passed P (event_of k r).core (chip_after (raised (event_of k r).core) (events_in rs))
          → Passed P k (chip_after (raised k) (events_in rs))
          → Passed P k (chip_after (raised k) (cond b (r ∷ events_in rs) (events_in rs)))
      go true e next none =
          record { core = next.core; chip = ap (λ (c : Chip). chip_after c (events_in rs)) (event_raised k r e) ∙ next.chip; kept = next.kept }
      go false e next none = none

  pub gap_pass : (g : ℕ → List (List ℕ)) (n : ℕ) (k : Core) → P k → Passed P k (chip_after (raised k) (gap_before g n))
  unfolding chip_after
  gap_pass g zero k p = record { core = k; chip = refl; kept = p }
  gap_pass g (suc n) k p = events_pass (g (suc n)) k p
