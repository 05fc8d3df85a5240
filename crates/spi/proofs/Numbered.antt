-- An instruction by its number and by its stage. Assumes nothing.
use mathlib.Core.Path.{◌≡◌, refl, ap, ◌∙◌}
use mathlib.Core.Logic.{◌⊎◌, inl, inr}
use mathlib.Core.Bool.{Bool, true, false, cond}
use Prim.Native.Nat.{ℕ}
use lib.Dec.{eqb}
use borrow.Author.Tests.{ne_eqb, eqb-true}
use Rattle.spi.specs.declared.Command.{Command}
use Rattle.spi.specs.declared.Act.TheVariants.{Fetch}
use Rattle.spi.specs.declared.Instruction.{Instruction}
use Rattle.spi.specs.declared.Select.TheVariants.{Lowered}
use Rattle.spi.specs.declared.stages.Stage.{Stage}
use Rattle.spi.specs.declared.stages.Stage.TheVariants.{Raised, Reading, ReadingRxb0, ReadingRxb1, Done}
use Rattle.spi.specs.Instructions.{speaker_by, exchange_act, exchange_next, rising}
use Rattle.spi.specs.Stages.{stage_by, stage_number}
use Rattle.spi.specs.Open.{instruction_by, select_by}

-- an instruction that is open at a stage
abbrev At : ℕ → ℕ → Instruction → Stage → Type 0
At a m i s = i ≡ instruction_by (stage_number s) a m

both : (a m : ℕ) (b : Bool) (i j : Instruction) (s t : Stage) → At a m i s → At a m j t → At a m (cond b i j) (cond b s t)
both a m true i j s t p q = p
both a m false i j s t p q = q

pub numbered : (n a m : ℕ) → At a m (instruction_by n a m) (stage_by n)
unfolding instruction_by stage_by
numbered n a m = go (eqb n 0) refl
  where
    go : (b : Bool) → eqb n 0 ≡ b → At a m (instruction_by n a m) (stage_by n)
    go true e = rw (eqb-true n 0 e) refl
    go false e =
        rw e
        (both a m (eqb n 1) _ _ _ _ refl
        (both a m (eqb n 2) _ _ _ _ refl
        (both a m (eqb n 3) _ _ _ _ refl
        (both a m (eqb n 4) _ _ _ _ refl
        (both a m (eqb n 5) _ _ _ _ refl
        (both a m (eqb n 6) _ _ _ _ refl
        (both a m (eqb n 7) _ _ _ _ refl
        (both a m (eqb n 8) _ _ _ _ refl
        (both a m (eqb n 9) _ _ _ _ refl
        (both a m (eqb n 10) _ _ _ _ refl
        (both a m (eqb n 11) _ _ _ _ refl
        (both a m (eqb n 12) _ _ _ _ refl refl))))))))))))

pub staged : (n a m : ℕ) {s : Stage} → stage_by n ≡ s → At a m (instruction_by n a m) s
staged n a m e = numbered n a m ∙ ap (λ (t : Stage). instruction_by (stage_number t) a m) e

-- a select that is low
pub lowered : (n a m w : ℕ) {s : Stage} → (n ≡ 0 → ⊥) → stage_by n ≡ s → select_by n a m w ≡ Lowered (speaker_by w) (instruction_by (stage_number s) a m)
lowered n a m w h e = rw (ne_eqb n 0 h) (ap (λ (i : Instruction). Lowered (speaker_by w) i) (staged n a m e))

-- ---- stages that act alike
pub fetching : (x : Command) {s : Stage} (a m b : ℕ) → (s ≡ Reading) ⊎ ((s ≡ ReadingRxb0) ⊎ (s ≡ ReadingRxb1))
    → let i : Instruction = instruction_by (stage_number s) a m in
    (exchange_act x i b ≡ Fetch a) × (exchange_next x i b ≡ instruction_by (stage_number s) (rising a) m)
unfolding instruction_by
fetching x a m b (inl e) = rw e (refl, refl)
fetching x a m b (inr (inl e)) = rw e (refl, refl)
fetching x a m b (inr (inr e)) = rw e (refl, refl)

pub ended : {s : Stage} (a m : ℕ) → (s ≡ Raised) ⊎ (s ≡ Done) → instruction_by (stage_number s) a m ≡ Instruction.Done
unfolding instruction_by
ended a m (inl e) = rw e refl
ended a m (inr e) = rw e refl
