-- What a call leaves of a chip that it is lent. Assumes nothing.
use mathlib.Core.Path.{◌≡◌, refl, sym}
use mathlib.Core.Bool.{Bool, true, false}
use mathlib.Core.List.{List}
use Prim.Native.Nat.{ℕ}
use native.Mathlib.Omega.{arith}
use Rattle.image.specs.Image.{is_chip}
use Rattle.image.proofs.Laws.{chip_again}
use Rattle.spi.proofs.Clash.{clash}
use Rattle.mcp2515.specs.declared.Chip.{Chip}
use Rattle.mcp2515.specs.ChipImage.{Moved}
use Rattle.bus_log.specs.Held.{chip_refusal, held_refusal, Held}

pub held_both : (m : List ℕ) (r : ℕ) → held_refusal m r ≡ 0 → (is_chip m ≡ true) × (r ≡ 0)
unfolding held_refusal
held_both m r e = go (is_chip m) refl
  where
    go : (b : Bool) → is_chip m ≡ b → (is_chip m ≡ true) × (r ≡ 0)
    go true p = (p, rw p at e)
    go false p = absurd (omega (arith, rw p at e))

pub held_none : (m : List ℕ) (r : ℕ) → is_chip m ≡ true → r ≡ 0 → held_refusal m r ≡ 0
unfolding held_refusal
held_none m r p q = rw (p, q)

-- the refusal by the test of the chip
pub held_chip : (m : List ℕ) (r : ℕ) → is_chip m ≡ true → held_refusal m r ≡ r
unfolding held_refusal
held_chip m r is = rw is refl

pub no_chip : (m : List ℕ) (r : ℕ) → (is_chip m ≡ true → false ≡ true) → held_refusal m r ≡ chip_refusal
unfolding held_refusal
no_chip m r none = go (is_chip m) refl
  where
    go : (b : Bool) → is_chip m ≡ b → held_refusal m r ≡ chip_refusal
    go true p = clash (sym (none p))
    go false p = rw p refl

pub held_moved : {m n : List ℕ} {c : Chip} {r : ℕ} → is_chip m ≡ true → r ≡ 0 → Moved m n c → Held r m n c
held_moved {m} {n} is none w =
    record {
      refused = λ h. absurd (h none);
      again = λ _. chip_again m n w.packed.size w.spare is;
      chip = λ _. w.packed.chip;
      spare = w.spare;
    }

pub held_kept : {m : List ℕ} {c : Chip} {r : ℕ} → (r ≡ 0 → ⊥) → Held r m m c
held_kept h = record { refused = λ _. refl; again = λ e. absurd (h e); chip = λ e. absurd (h e); spare = refl }
