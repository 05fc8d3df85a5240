-- Where the bytes of each region lie, and what they hold. Assumes nothing.
use mathlib.Core.Path.{◌≡◌, refl, ap, ◌∙◌}
use mathlib.Core.Bool.{Bool, true, false, cond, not, ◌&&◌, ◌||◌}
use mathlib.Core.List.{List}
use Prim.Native.Nat.{ℕ, ◌+◌, ◌/◌, ◌%◌, ◌<◌}
use native.Mathlib.Omega.{arith}
use lib.Dec.{T, eqb, ltb, eqb→eq, ltb→lt}
use lib.ListN.{get_or, take, drop}
use lib.Seq.{get_or-take, get_or-drop}
use borrow.Author.Tests.{ne_eqb}
use Rattle.bits.proofs.All.{every, agree}
use Rattle.registers.proofs.Regions.{inside_of, message_above, message_below}
use Rattle.registers.specs.declared.Region.{Region}
use Rattle.registers.specs.declared.Region.TheVariants.{Filters, Masks, Configured, Bfpctrl, Txrtsctrl, Tec, Rec, Caninte, Canintf, Eflg, Canstat, Canctrl, TxCtrl, TxMessage, RxCtrl, RxMessage}
use Rattle.registers.specs.declared.TxBuffer.TheVariants.{Txb0, Txb1, Txb2}
use Rattle.registers.specs.declared.RxBuffer.TheVariants.{Rxb0, Rxb1}
use Rattle.registers.specs.Registers.{region_of, holds_in}
use Rattle.image.specs.Image.{decoded, core_of, is_derived, place_in}

-- ---- a test that is the same as another at every address, since it is so at each of the 128
abbrev pub same_bool : Bool → Bool → Bool
same_bool true b = b
same_bool false b = not b

pub same_bool_lem : (a b : Bool) → T (same_bool a b) → a ≡ b
same_bool_lem true true t = refl
same_bool_lem true false t = absurd t
same_bool_lem false true t = absurd t
same_bool_lem false false t = refl

-- ---- a byte in its place
module _ (m : List ℕ) (a : ℕ) where
  pub config_byte : a < 48 → get_or (take 48 m) (a % 48) 0 ≡ get_or m a 0
  config_byte h = let e : a % 48 ≡ a = omega arith in rw e (get_or-take 48 m a 0 h)

  pub tx_byte : 47 < a → a < 96 → get_or (take 48 (drop 48 m)) (a % 48) 0 ≡ get_or m a 0
  tx_byte h k =
      let e : 48 + a % 48 ≡ a = omega arith in
      get_or-take 48 (drop 48 m) (a % 48) 0 (omega arith) ∙ get_or-drop 48 m (a % 48) 0 ∙ ap (λ (i : ℕ). get_or m i 0) e

  pub rx_byte : 95 < a → a < 128 → get_or (take 32 (drop 96 m)) (a % 32) 0 ≡ get_or m a 0
  rx_byte h k =
      let e : 96 + a % 32 ≡ a = omega arith in
      get_or-take 32 (drop 96 m) (a % 32) 0 (omega arith) ∙ get_or-drop 96 m (a % 32) 0 ∙ ap (λ (i : ℕ). get_or m i 0) e

-- what is not derived is the byte at its place
pub holds_place : (m : List ℕ) (a : ℕ) → a < 128 → is_derived (region_of a) ≡ false → holds_in (region_of a) (core_of m) a ≡ get_or m (place_in (region_of a) a) 0
unfolding decoded
holds_place m a h = go (region_of a) refl
  where
    go : (g : Region) → region_of a ≡ g → is_derived g ≡ false → holds_in g (core_of m) a ≡ get_or m (place_in g a) 0
    go Filters e p = config_byte m a (ltb→lt a 48 (inside_of a Filters h e))
    go Masks e p = config_byte m a (ltb→lt a 48 (inside_of a Masks h e))
    go Configured e p = config_byte m a (ltb→lt a 48 (inside_of a Configured h e))
    go Bfpctrl e p = config_byte m a (ltb→lt a 48 (inside_of a Bfpctrl h e))
    go Txrtsctrl e p = cc
    go Tec e p = cc
    go Rec e p = refl
    go Caninte e p = refl
    go Canintf e p = refl
    go Eflg e p = cc
    go Canstat e p = cc
    go Canctrl e p = refl
    go (TxCtrl Txb0) e p = refl
    go (TxCtrl Txb1) e p = refl
    go (TxCtrl Txb2) e p = refl
    go (TxMessage b) e p = let t : T (ltb 47 a && ltb a 96) = inside_of a (TxMessage b) h e in tx_byte m a (message_above a t) (message_below a t)
    go (RxCtrl Rxb0) e p = refl
    go (RxCtrl Rxb1) e p = refl
    go RxMessage e p = rx_byte m a (ltb→lt 95 a (inside_of a RxMessage h e)) h

-- ---- what the code tests
-- of the derived ones CANSTAT, EFLG and TEC are told apart, so that TXRTSCTRL is left
pub derived_last : (a : ℕ) → a < 128 → is_derived (region_of a) ≡ true → (a % 16 ≡ 14 → ⊥) → (a ≡ 45 → ⊥) → (a ≡ 28 → ⊥) → a ≡ 13
unfolding region_of
derived_last a h e p q r =
    eqb→eq a 13
    (rw (e, ne_eqb (a % 16) 14 p, ne_eqb a 45 q, ne_eqb a 28 r) at (every (λ a. not (is_derived (region_of a)) || eqb (a % 16) 14 || eqb a 45 || eqb a 28 || eqb a 13) 128 tt a h))

-- the place of an address by the code's choices
abbrev place_by : ℕ → ℕ
place_by a =
    cond (eqb (a % 16) 15) 128
    (cond (eqb (a % 16) 0 && ltb 0x2F a) (a / 16 + 129)
    (cond (eqb a 0x1C || eqb a 0x1D) (a + 109)
    (cond (ltb 0x2A a && ltb a 0x2E) (a + 86) a)))

pub place_by_lem : (a : ℕ) → a < 128 → place_by a ≡ place_in (region_of a) a
unfolding region_of
place_by_lem a h = agree place_by (λ a. place_in (region_of a) a) 128 tt a h

pub place_small : (a : ℕ) → a < 128 → place_in (region_of a) a < 143
unfolding region_of
place_small a h = ltb→lt (place_in (region_of a) a) 143 (every (λ a. ltb (place_in (region_of a) a) 143) 128 tt a h)
