-- What RESET keeps: laws of kept_from, and RESET in two halves over all addresses. Assumes nothing.
use mathlib.Core.Path.{◌≡◌, refl, ap, sym, ◌∙◌}
use mathlib.Core.Bool.{Bool, true, false, cond, ◌&&◌}
use mathlib.Core.List.{List, [], ◌∷◌, ◌++◌}
use Prim.Native.Nat.{ℕ, zero, suc, ◌+◌, ◌%◌, ◌<◌}
use native.Mathlib.Nat.{add-zero, add-suc, suc-add}
use native.Mathlib.Omega.{arith}
use lib.Dec.{T, ltb, ltb→lt}
use lib.Bits.{bit_or}
use lib.ListN.{length, get_or, take, drop, replicate}
use Rattle.registers.proofs.Regions.{inside_of, message_above, message_below}
use Rattle.registers.specs.declared.Region.{Region}
use Rattle.registers.specs.declared.Region.TheVariants.{Filters, Masks, Configured, Bfpctrl, Txrtsctrl, Tec, Rec, Caninte, Canintf, Eflg, Canstat, Canctrl, TxCtrl, TxMessage, RxCtrl, RxMessage}
use Rattle.registers.specs.declared.Core.{Core}
use Rattle.registers.specs.State.{with_pins}
use Rattle.registers.specs.Registers.{region_of, is_kept, kept_from, reset_core, power_on_core, holds, holds_in, ResetHolds, ResetLevels, ResetControl}

pub reset_control : ResetControl
unfolding reset_core power_on_core
reset_control k = refl

pub kept_length : (a : ℕ) (l : List ℕ) → length (kept_from a l) ≡ length l
unfolding kept_from
kept_length a [] = refl
kept_length a (x ∷ xs) = ap suc (kept_length (suc a) xs)

pub kept_take : (n a : ℕ) (l : List ℕ) → take n (kept_from a l) ≡ kept_from a (take n l)
unfolding kept_from
kept_take zero a l = refl
kept_take (suc n) a [] = refl
kept_take (suc n) a (x ∷ xs) = ap (λ (r : List ℕ). cond (is_kept (region_of a)) x 0 ∷ r) (kept_take n (suc a) xs)

pub kept_drop : (n a : ℕ) (l : List ℕ) → drop n (kept_from a l) ≡ kept_from (a + n) (drop n l)
unfolding kept_from
kept_drop zero a l = ap (λ (b : ℕ). kept_from b l) (sym (add-zero a))
kept_drop (suc n) a [] = refl
kept_drop (suc n) a (x ∷ xs) = kept_drop n (suc a) xs ∙ ap (λ (b : ℕ). kept_from b (drop n xs)) (suc-add a n ∙ sym (add-suc a n))

-- one more byte behind
pub kept_snoc : (a : ℕ) (l : List ℕ) (x : ℕ) → kept_from a (l ++ (x ∷ [])) ≡ kept_from a l ++ (cond (is_kept (region_of (a + length l))) x 0 ∷ [])
unfolding kept_from
kept_snoc a [] x = ap (λ (b : ℕ). cond (is_kept (region_of b)) x 0 ∷ []) (sym (add-zero a))
kept_snoc a (y ∷ ys) x =
    ap (λ (r : List ℕ). cond (is_kept (region_of a)) y 0 ∷ r)
    (kept_snoc (suc a) ys x
    ∙ ap (λ (b : ℕ). kept_from (suc a) ys ++ (cond (is_kept (region_of b)) x 0 ∷ [])) (suc-add a (length ys) ∙ sym (add-suc a (length ys))))

-- a byte of the bytes from address a on
neither : (b : Bool) (n : ℕ) → cond b n n ≡ n
neither true n = refl
neither false n = refl

kept_at : (a : ℕ) (l : List ℕ) (i : ℕ) → get_or (kept_from a l) i 0 ≡ cond (is_kept (region_of (a + i))) (get_or l i 0) 0
unfolding kept_from
kept_at a [] i = sym (neither (is_kept (region_of (a + i))) 0)
kept_at a (x ∷ xs) zero = ap (λ (b : ℕ). cond (is_kept (region_of b)) x 0) (sym (add-zero a))
kept_at a (x ∷ xs) (suc i) = kept_at (suc a) xs i ∙ ap (λ (b : ℕ). cond (is_kept (region_of b)) (get_or xs i 0) 0) (suc-add a i ∙ sym (add-suc a i))

no_byte : (n i : ℕ) → get_or {A = ℕ} (replicate n 0) i 0 ≡ 0
no_byte zero i = refl
no_byte (suc n) zero = refl
no_byte (suc n) (suc i) = no_byte n i

-- the byte of address x among those from address a on
kept_byte : (g : Region) (a : ℕ) (l : List ℕ) (i x : ℕ) → a + i ≡ x → region_of x ≡ g → get_or (kept_from a l) i 0 ≡ cond (is_kept g) (get_or l i 0) 0
kept_byte g a l i x e p = kept_at a l i ∙ ap (λ (b : ℕ). cond (is_kept (region_of b)) (get_or l i 0) 0) e ∙ ap (λ (h : Region). cond (is_kept h) (get_or l i 0) 0) p

-- ---- RESET in two halves
-- no pin is enabled after it
enables_gone : (k : Core) → get_or (kept_from 0 k.config) 0x0D 0 ≡ 0
unfolding region_of
enables_gone k = kept_at 0 k.config 0x0D

module _ (k : Core) (x : ℕ) (h : x < 128) where
  lower : (g : Region) → region_of x ≡ g → x < 48 → get_or (kept_from 0 k.config) (x % 48) 0 ≡ cond (is_kept g) (get_or k.config (x % 48) 0) 0
  lower g e b = kept_byte g 0 k.config (x % 48) x (omega arith) e

  reset_in : (g : Region) → region_of x ≡ g → holds_in g (reset_core k) x ≡ cond (is_kept g) (holds_in g k x) (holds_in g (with_pins power_on_core k.pins) x)
  unfolding reset_core power_on_core
  reset_in Filters e = lower Filters e (ltb→lt x 48 (inside_of x Filters h e))
  reset_in Masks e = lower Masks e (ltb→lt x 48 (inside_of x Masks h e)) ∙ sym (no_byte 48 (x % 48))
  reset_in Configured e = lower Configured e (ltb→lt x 48 (inside_of x Configured h e)) ∙ sym (no_byte 48 (x % 48))
  reset_in Bfpctrl e = lower Bfpctrl e (ltb→lt x 48 (inside_of x Bfpctrl h e)) ∙ sym (no_byte 48 (x % 48))
  reset_in Txrtsctrl e = rw (enables_gone k)
  reset_in Tec e = refl
  reset_in Rec e = refl
  reset_in Caninte e = refl
  reset_in Canintf e = refl
  reset_in Eflg e = refl
  reset_in Canstat e = refl
  reset_in Canctrl e = refl
  reset_in (TxCtrl b) e = refl
  reset_in (TxMessage b) e =
      let t : T (ltb 47 x && ltb x 96) = inside_of x (TxMessage b) h e in
      let above : 47 < x = message_above x t in
      let below : x < 96 = message_below x t in
      kept_byte (TxMessage b) 48 k.tx (x % 48) x (omega arith) e
  reset_in (RxCtrl b) e = refl
  reset_in RxMessage e =
      let above : 95 < x = ltb→lt 95 x (inside_of x RxMessage h e) in
      kept_byte RxMessage 96 k.rx (x % 32) x (omega arith) e

pub reset_holds : ResetHolds
unfolding holds
reset_holds k a = reset_in k (a % 128) (omega arith) (region_of (a % 128)) refl

pub reset_levels : ResetLevels
unfolding holds reset_core region_of
reset_levels k = rw (enables_gone k) (go k.pins.tx0rts k.pins.tx1rts k.pins.tx2rts)
  where
    go : (x y z : Bool)
        → bit_or 0 (bit_or (cond (x && true) 0x08 0) (bit_or (cond (y && true) 0x10 0) (cond (z && true) 0x20 0)))
        ≡ bit_or (cond x 0x08 0) (bit_or (cond y 0x10 0) (cond z 0x20 0))
    go true true true = refl
    go true true false = refl
    go true false true = refl
    go true false false = refl
    go false true true = refl
    go false true false = refl
    go false false true = refl
    go false false false = refl
