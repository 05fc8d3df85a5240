-- Whether an open instruction goes on, by its stage. Assumes nothing.
use mathlib.Core.Bool.{Bool, true, false}
use mathlib.Core.Path.{◌≡◌, refl, sym, ap₂, ◌∙◌}
use Prim.Native.Nat.{ℕ}
use lib.Dec.{eqb}
use borrow.Author.Tests.{eqb-true}
use Rattle.spi.specs.declared.Speaker.{Speaker}
use Rattle.spi.specs.declared.Speaker.TheVariants.{Controller, Panel}
use Rattle.spi.specs.declared.Instruction.{Instruction}
use Rattle.spi.specs.declared.Instruction.TheVariants.{ModifyData}
use Rattle.spi.specs.Instructions.{goes_on}
use Rattle.spi.specs.declared.stages.Stage.{Stage}
use Rattle.spi.specs.Stages.{stage_by, stage_number}
use Rattle.spi.specs.Open.{instruction_by}
use Rattle.spi.proofs.Numbered.{staged}

-- ---- an open instruction by its number
-- its mask does not say whether it goes on
goes_data : (p : Speaker) (a m : ℕ) → goes_on p (ModifyData a m) ≡ goes_on p (ModifyData a 0)
goes_data Controller a m = refl
goes_data Panel a m = refl

goes_mask : (p : Speaker) (n a m : ℕ) → goes_on p (instruction_by n a m) ≡ goes_on p (instruction_by n a 0)
unfolding instruction_by
goes_mask p n a m = go (eqb n 8) refl
  where
    go : (b : Bool) → eqb n 8 ≡ b → goes_on p (instruction_by n a m) ≡ goes_on p (instruction_by n a 0)
    go true e = rw (eqb-true n 8 e) (goes_data p a m)
    go false e = rw e refl

pub goes_at : {p w : Speaker} {s : Stage} (n a m : ℕ) → w ≡ p → s ≡ stage_by n → goes_on w (instruction_by (stage_number s) a 0) ≡ goes_on p (instruction_by n a m)
goes_at {p} n a m e f = ap₂ (λ (v : Speaker) (i : Instruction). goes_on v i) e (sym (staged n a 0 (sym f))) ∙ sym (goes_mask p n a m)
