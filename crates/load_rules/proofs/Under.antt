-- A byte under a mask after a merge, and CANCTRL after BIT MODIFY of its mode bits. Assumes nothing.
use mathlib.Core.Path.{◌≡◌, refl, sym, ap, ◌∙◌}
use mathlib.Core.Bool.{Bool, true, false, cond, not, ◌&&◌}
use Prim.Native.Nat.{ℕ, zero, suc, ◌+◌, ◌*◌, ◌%◌, ◌<◌}
use native.Mathlib.Omega.{arith}
use lib.Dec.{eqb, T}
use lib.Bits.{bit_and, and_mask, and_zero_r, or_zero_l, or_shifted_r}
use borrow.Author.Tests.{eqb-true}
use Rattle.bits.specs.Bit.{bit, has_bit, merged, same_as, agrees, for_below}
use Rattle.bits.proofs.All.{agree}
use Rattle.bits.proofs.Laws.{merged_bitwise}
use Rattle.bits.proofs.Words.{agree_bitwise}
use Rattle.spi.proofs.Clash.{clash}

below_true : (n : ℕ) (f : ℕ → Bool) → ((k : ℕ) → k < n → f k ≡ true) → for_below n f ≡ true
below_true zero f h = refl
below_true (suc n) f h = rw (below_true n f (λ k l. h k (omega arith)), h n (omega arith))

same_as_lem : (x : Bool) → same_as x x ≡ true
same_as_lem true = refl
same_as_lem false = refl

agrees_by : (m x y : Bool) → (m ≡ true → x ≡ y) → agrees m x y ≡ true
agrees_by true x y h = rw (h refl) (same_as_lem y)
agrees_by false x y h = refl

-- two bytes with the same bits where the mask has a 1
pub same_under : (m a b : ℕ) → m < 256 → ((k : ℕ) → k < 8 → has_bit m k ≡ true → has_bit a k ≡ has_bit b k) → bit_and a m ≡ bit_and b m
same_under m a b hm h =
    eqb-true (bit_and a m) (bit_and b m)
    (agree_bitwise 8 m a b hm ∙ below_true 8 _ (λ k l. agrees_by (has_bit m k) (has_bit a k) (has_bit b k) (h k l)))

-- under the mask of a merge, what is new
pub merged_new : (w x v : ℕ) → w < 256 → bit_and (merged w x v) w ≡ bit_and v w
merged_new w x v hw =
    same_under w (merged w x v) v hw
    (λ k l e. ap (λ (n : ℕ). eqb n 1) (merged_bitwise w x v k hw l ∙ ap (λ (b : Bool). cond b (bit v k) (bit x k)) e))

-- two masks with no bit in common
abbrev pub apart : ℕ → ℕ → ℕ → Bool
apart w m k = not (has_bit m k && has_bit w k)

no_and : (x y : Bool) → x ≡ true → T (not (x && y)) → y ≡ false
no_and true true e t = absurd t
no_and true false e t = refl
no_and false y e t = clash (sym e)

-- .. and under another, what was there
pub merged_old : (w m x v : ℕ) → w < 256 → m < 256 → ((k : ℕ) → k < 8 → T (apart w m k)) → bit_and (merged w x v) m ≡ bit_and x m
merged_old w m x v hw hm h =
    same_under m (merged w x v) x hm
    (λ k l e. ap (λ (n : ℕ). eqb n 1)
    (merged_bitwise w x v k hw l ∙ ap (λ (b : Bool). cond b (bit v k) (bit x k)) (no_and (has_bit m k) (has_bit w k) e (h k l))))

-- BIT MODIFY of bits 7-5
mode_mask : (n : ℕ) → n < 8 → bit_and (n * 32) 0xE0 ≡ n * 32
mode_mask n h = agree (λ n. bit_and (n * 32) 0xE0) (λ n. n * 32) 8 tt n h

pub mode_merged : (old n : ℕ) → n < 8 → merged 0xE0 old (n * 32) ≡ old % 32 + n * 32
mode_merged old n h = rw (and_mask old 5, mode_mask n h) (or_shifted_r n 5 (old % 32) (omega arith) ∙ omega arith)

pub byte_merged : (old v : ℕ) → v < 256 → merged 0xFF old v ≡ v
byte_merged old v h = rw (and_zero_r old, or_zero_l) (and_mask v 8 ∙ omega arith)
