-- One record run where the chip lies is the step of the chip. Assumes nothing.
use mathlib.Core.Bool.{Bool, true, false, cond, not, ◌&&◌}
use mathlib.Core.List.{List, [], ◌∷◌}
use mathlib.Core.Path.{◌≡◌, refl, ap, subst, ◌∙◌}
use Prim.Native.Nat.{ℕ}
use native.Mathlib.Omega.{arith}
use borrow.Author.Tests.{eqb-false, ne_eqb, not-true}
use lib.Dec.{eqb}
use lib.ListN.{length, get_or, drop, length-drop}
use lib.Seq.{sets}
use Rattle.records.specs.declared.Fields.{Fields}
use Rattle.records.specs.declared.Outcome.{Outcome}
use Rattle.records.specs.Records.{record_of}
use Rattle.image.specs.Image.{image_size}
use Rattle.mcp2515.specs.declared.Chip.{Chip}
use Rattle.mcp2515.specs.declared.Stepped.{Stepped}
use Rattle.mcp2515.specs.Step.{step_of, outcome, next_chip}
use Rattle.mcp2515.specs.ChipImage.{wanted_outcome, chip_of, Moved}
use Rattle.bus_log.specs.Log.{record_size, steps_in, all_refused, answer_bytes, answers_of}
use Rattle.bus_log.proofs.Steps.{one_step}

-- the image n after the record r, and what o tells of it
pub record Ran (m n r : List ℕ) (wanted : Bool) (o : Outcome) : Type 0 where
  pub after : chip_of n ≡ (step_of (chip_of m) r).chip
  pub spare : drop 150 n ≡ drop 150 m
  pub refusal : o.refusal ≡ (step_of (chip_of m) r).refusal
  pub bytes : answer_bytes wanted o ≡ answer_bytes wanted (outcome (chip_of m) r)

-- the bytes of an answer are the same, with the set left out or worked out where it is asked for
wanted_bytes : (wanted : Bool) (o : Outcome) → answer_bytes wanted (wanted_outcome wanted o) ≡ answer_bytes wanted o
wanted_bytes true o = refl
wanted_bytes false o = refl

pub ran : (m n : List ℕ) (f : Fields) (r : List ℕ) (wanted : Bool) (o : Outcome) → record_of f ≡ r
    → o ≡ wanted_outcome wanted (outcome (chip_of m) (record_of f)) → Moved m n (next_chip (chip_of m) (record_of f)) → Ran m n r wanted o
ran m n f r wanted o p e w =
    subst (λ (l : List ℕ). Ran m n l wanted o) p
    (record {
      after = w.packed.chip;
      spare = w.spare;
      refusal = ap (λ (y : Outcome). y.refusal) e;
      bytes = ap (answer_bytes wanted) e ∙ wanted_bytes wanted (outcome (chip_of m) (record_of f));
    })

-- an image with its spare bytes as they were is an image
pub same_size : (m n : List ℕ) → length m ≡ image_size → drop 150 n ≡ drop 150 m → length n ≡ image_size
same_size m n e spare = omega (arith, length-drop 150 m, length-drop 150 n, ap (λ (l : List ℕ). length l) spare)

both : (a b : Bool) → a && b ≡ true → (a ≡ true) × (b ≡ true)
both true b e = (refl, e)
both false b e = let z : ◌≡◌ {A = ℕ} 1 0 = ap (λ (x : Bool). cond x 0 1) e in absurd (omega arith)

-- of steps that were all refused, the first was, and so were the rest
pub first_refused : (s : Stepped) (ss : List Stepped) → all_refused (s ∷ ss) ≡ true → (s.refusal ≡ 0 → ⊥) × (all_refused ss ≡ true)
unfolding all_refused
first_refused s ss e =
    let p = both (not (eqb s.refusal 0)) (all_refused ss) e in
    (eqb-false s.refusal 0 (not-true (eqb s.refusal 0) p.0), p.1)

pub one_refused : (s : Stepped) → (s.refusal ≡ 0 → ⊥) → all_refused (s ∷ []) ≡ true
unfolding all_refused
one_refused s h = rw (ne_eqb s.refusal 0 h)

-- refusal, answer and set in three bytes
abbrev told_by : List ℕ → Outcome
told_by l = record { refusal = get_or l 0 0; answer = get_or l 1 0; matched = get_or l 2 0 }

pub told_one : (c : Chip) (r told : List ℕ) → length r ≡ record_size → told ≡ sets (0 ∷ 0 ∷ 0 ∷ []) 0 (answers_of true (steps_in c r))
    → told_by told ≡ outcome c r
unfolding answers_of
told_one c r told whole stored = ap told_by (rw (one_step c r whole) at stored)
