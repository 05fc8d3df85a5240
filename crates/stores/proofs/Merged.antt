-- A store into the image is the store of the rules on the core that it stands for. Assumes nothing.
use mathlib.Core.Path.{◌≡◌, refl, ap, sym, subst}
use mathlib.Core.Bool.{Bool, true, false, not, ◌&&◌, ◌||◌}
use mathlib.Core.List.{List}
use Prim.Native.Nat.{ℕ, zero, suc, ◌+◌, ◌%◌, ◌<◌}
use native.Mathlib.Omega.{arith}
use lib.Dec.{T, eqb, ltb, eqb→eq, ltb→lt}
use lib.ListN.{length, get_or, set, take, drop}
use borrow.Author.Tests.{ne_eqb}
use Rattle.bits.specs.Bit.{has_bit, written}
use Rattle.bits.proofs.All.{every, and_left, and_right}
use Rattle.registers.specs.declared.Region.{Region}
use Rattle.registers.specs.declared.Region.TheVariants.{Filters, Masks, Configured, Bfpctrl, Txrtsctrl, Tec, Rec, Caninte, Canintf, Eflg, Canstat, Canctrl, TxCtrl, TxMessage, RxCtrl, RxMessage}
use Rattle.registers.specs.declared.TxBuffer.{TxBuffer}
use Rattle.registers.specs.declared.TxBuffer.TheVariants.{Txb0, Txb1, Txb2}
use Rattle.registers.specs.State.{txreq_bit, tx_number, rts_bit, in_flight, is_configuration, updated, with_control, with_config, with_tx_bytes}
use Rattle.registers.specs.Registers.{tx_at, region_of, writable_of}
use Rattle.image.specs.Image.{image_size, mode_of, flight_of, decoded, control_of, core_of, place_in, Became}
use Rattle.image.proofs.Laws.{tx_below, config_set, tx_set, unmarked, mark_one, marked, became_low}
use Rattle.image.proofs.Places.{config_byte, tx_byte}
use Rattle.registers.proofs.Regions.{inside_of, message_above, message_below}
use Rattle.stores.specs.Store.{is_locked, tx_stored, tx_control_stored, requested_of, requested_to_send, stored_in}
use Rattle.stores.specs.Merging.{merges_in, takes_write}

-- ---- tests that antt has computed
holds_true : (b : Bool) → T b → b ≡ true
holds_true true t = refl
holds_true false t = absurd t

holds_false : (b : Bool) → T (not b) → b ≡ false
holds_false true t = absurd t
holds_false false t = refl

-- ---- which writes are taken
flight_number : (x : ℕ) (b : TxBuffer) → in_flight (flight_of x) b ≡ eqb x (tx_number b)
flight_number zero Txb0 = refl
flight_number zero Txb1 = refl
flight_number zero Txb2 = refl
flight_number (suc zero) Txb0 = refl
flight_number (suc zero) Txb1 = refl
flight_number (suc zero) Txb2 = refl
flight_number (suc (suc zero)) Txb0 = refl
flight_number (suc (suc zero)) Txb1 = refl
flight_number (suc (suc zero)) Txb2 = refl
flight_number (suc (suc (suc x))) b = simp (apart 0 (omega arith), apart 1 (omega arith), apart 2 (omega arith), apart (tx_number b) (tx_below b))
  where
    apart : (k : ℕ) → k < 3 → eqb (suc (suc (suc x))) k ≡ false
    apart k h = ne_eqb (suc (suc (suc x))) k (λ e. omega arith)

-- a transmit buffer by its number
abbrev locked_at : List ℕ → ℕ → Bool
locked_at m n = has_bit (get_or m (132 + n) 0) txreq_bit || eqb (get_or m 141 0) n

locked_at_lem : (m : List ℕ) (b : TxBuffer) → is_locked (control_of m) b ≡ locked_at m (tx_number b)
unfolding decoded
locked_at_lem m Txb0 = simp flight_number
locked_at_lem m Txb1 = simp flight_number
locked_at_lem m Txb2 = simp flight_number

pub buffer_small : (a : ℕ) → tx_number (tx_at a) < 3
buffer_small a = tx_below (tx_at a)

-- the code's tests at the addresses of each region
abbrev always : ℕ → Bool
always a = eqb a 0x0C || eqb a 0x2B || eqb a 0x2C || eqb a 0x2D

abbrev sorted : Region → ℕ → Bool
sorted Filters a = not (always a) && ltb a 0x30 && not (ltb 0x2F a)
sorted Masks a = not (always a) && ltb a 0x30 && not (ltb 0x2F a)
sorted Configured a = not (always a) && ltb a 0x30 && not (ltb 0x2F a)
sorted Bfpctrl a = always a
sorted Txrtsctrl a = not (always a) && ltb a 0x30 && not (ltb 0x2F a)
sorted Tec a = true
sorted Rec a = true
sorted Caninte a = always a
sorted Canintf a = always a
sorted Eflg a = always a
sorted Canstat a = true
sorted Canctrl a = true
sorted (TxCtrl b) a = true
sorted (TxMessage b) a = not (always a) && not (ltb a 0x30) && ltb 0x2F a && eqb (tx_number (tx_at a)) (tx_number b)
sorted (RxCtrl b) a = true
sorted RxMessage a = true

sorted_at : (a : ℕ) → a < 128 → T (sorted (region_of a) a)
unfolding region_of
sorted_at a h = every (λ a. sorted (region_of a) a) 128 tt a h

abbrev taken_by : Bool → List ℕ → ℕ → ℕ → Bool
taken_by configuration m a n = always a || (ltb a 0x30 && configuration) || (ltb 0x2F a && not (locked_at m n))

or_false : (b : Bool) → (b || false) ≡ b
or_false true = refl
or_false false = refl

-- filters, masks and their like: below 30h, and not always open
in_configuration : (m : List ℕ) (a n : ℕ) (x : Bool) → T (not (always a) && ltb a 0x30 && not (ltb 0x2F a)) → taken_by x m a n ≡ x
in_configuration m a n x t =
    let shut : always a ≡ false = holds_false (always a) (and_left (not (always a)) (ltb a 0x30) (and_left (not (always a) && ltb a 0x30) (not (ltb 0x2F a)) t)) in
    let low : ltb a 0x30 ≡ true = holds_true (ltb a 0x30) (and_right (not (always a)) (ltb a 0x30) (and_left (not (always a) && ltb a 0x30) (not (ltb 0x2F a)) t)) in
    let high : ltb 0x2F a ≡ false = holds_false (ltb 0x2F a) (and_right (not (always a) && ltb a 0x30) (not (ltb 0x2F a)) t) in
    rw (shut, low, high) (or_false x)

pub takes_write_lem : (m : List ℕ) (a : ℕ) → a < 128 → merges_in (region_of a) ≡ true
    → taken_by (is_configuration (mode_of (get_or m 140 0))) m a (tx_number (tx_at a)) ≡ takes_write (region_of a) (control_of m)
unfolding decoded
takes_write_lem m a h = go (region_of a) refl
  where
    go : (g : Region) → region_of a ≡ g → merges_in g ≡ true → taken_by (is_configuration (mode_of (get_or m 140 0))) m a (tx_number (tx_at a)) ≡ takes_write g (control_of m)
    go Filters e p = in_configuration m a (tx_number (tx_at a)) _ (rw e at (sorted_at a h))
    go Masks e p = in_configuration m a (tx_number (tx_at a)) _ (rw e at (sorted_at a h))
    go Configured e p = in_configuration m a (tx_number (tx_at a)) _ (rw e at (sorted_at a h))
    go Bfpctrl e p = rw (holds_true (always a) (rw e at (sorted_at a h)))
    go Txrtsctrl e p = in_configuration m a (tx_number (tx_at a)) _ (rw e at (sorted_at a h))
    go Tec e p = cc
    go Rec e p = cc
    go Caninte e p = rw (holds_true (always a) (rw e at (sorted_at a h)))
    go Canintf e p = rw (holds_true (always a) (rw e at (sorted_at a h)))
    go Eflg e p = rw (holds_true (always a) (rw e at (sorted_at a h)))
    go Canstat e p = cc
    go Canctrl e p = cc
    go (TxCtrl b) e p = cc
    go (TxMessage b) e p =
        let t : T (not (always a) && not (ltb a 0x30) && ltb 0x2F a && eqb (tx_number (tx_at a)) (tx_number b)) = rw e at (sorted_at a h) in
        let u : T (not (always a) && not (ltb a 0x30) && ltb 0x2F a) = and_left (not (always a) && not (ltb a 0x30) && ltb 0x2F a) (eqb (tx_number (tx_at a)) (tx_number b)) t in
        let v : T (not (always a) && not (ltb a 0x30)) = and_left (not (always a) && not (ltb a 0x30)) (ltb 0x2F a) u in
        let shut : always a ≡ false = holds_false (always a) (and_left (not (always a)) (not (ltb a 0x30)) v) in
        let low : ltb a 0x30 ≡ false = holds_false (ltb a 0x30) (and_right (not (always a)) (not (ltb a 0x30)) v) in
        let high : ltb 0x2F a ≡ true = holds_true (ltb 0x2F a) (and_right (not (always a) && not (ltb a 0x30)) (ltb 0x2F a) u) in
        let same : tx_number (tx_at a) ≡ tx_number b = eqb→eq (tx_number (tx_at a)) (tx_number b) (and_right (not (always a) && not (ltb a 0x30) && ltb 0x2F a) (eqb (tx_number (tx_at a)) (tx_number b)) t) in
        rw (shut, low, high, same) (ap not (sym (locked_at_lem m b)))
    go (RxCtrl b) e p = cc
    go RxMessage e p = cc

-- ---- a byte in its place passed through f
module _ (m : List ℕ) (a : ℕ) (f : ℕ → ℕ) where
  config_update : a < 48 → core_of (updated m a f) ≡ with_config (core_of m) (updated (take 48 m) (a % 48) f)
  config_update h =
      let e : a % 48 ≡ a = omega arith in
      rw (config_byte m a h, e) (config_set m a (f (get_or m a 0)) h)

  tx_update : 47 < a → a < 96 → core_of (updated m a f) ≡ with_tx_bytes (core_of m) (updated (take 48 (drop 48 m)) (a % 48) f)
  tx_update h k =
      let e : 48 + a % 48 ≡ a = omega arith in
      rw (tx_byte m a h k) (subst (λ (i : ℕ). core_of (set m i (f (get_or m a 0))) ≡ with_tx_bytes (core_of m) (set (take 48 (drop 48 m)) (a % 48) (f (get_or m a 0)))) e (tx_set m (a % 48) (f (get_or m a 0)) (omega arith)))

-- ---- the merge of a byte is the store of its region
pub stored_merged : (m : List ℕ) (a v : ℕ) → length m ≡ image_size → a < 128 → merges_in (region_of a) ≡ true
    → Became m (updated m (place_in (region_of a) a) (λ old. written (takes_write (region_of a) (control_of m)) (writable_of a) old v)) (stored_in (region_of a) (core_of m) a v)
unfolding decoded
stored_merged m a v l h = go (region_of a) refl
  where
    through : Region → ℕ → ℕ
    through g old = written (takes_write g (control_of m)) (writable_of a) old v

    low : (g : Region) → a < 48 → core_of (updated m a (through g)) ≡ with_config (core_of m) (updated (take 48 m) (a % 48) (through g)) → Became m (updated m a (through g)) (with_config (core_of m) (updated (take 48 m) (a % 48) (through g)))
    low g p q = became_low m a (through g (get_or m a 0)) (with_config (core_of m) (updated (take 48 m) (a % 48) (through g))) l h q

    go : (g : Region) → region_of a ≡ g → merges_in g ≡ true → Became m (updated m (place_in g a) (through g)) (stored_in g (core_of m) a v)
    go Filters e p = let b : a < 48 = ltb→lt a 48 (inside_of a Filters h e) in low Filters b (config_update m a (through Filters) b)
    go Masks e p = let b : a < 48 = ltb→lt a 48 (inside_of a Masks h e) in low Masks b (config_update m a (through Masks) b)
    go Configured e p = let b : a < 48 = ltb→lt a 48 (inside_of a Configured h e) in low Configured b (config_update m a (through Configured) b)
    go Bfpctrl e p = let b : a < 48 = ltb→lt a 48 (inside_of a Bfpctrl h e) in low Bfpctrl b (config_update m a (through Bfpctrl) b)
    go Txrtsctrl e p =
        let b : a < 48 = omega (arith, eqb→eq a 0x0D (inside_of a Txrtsctrl h e)) in low Txrtsctrl b (config_update m a (through Txrtsctrl) b)
    go Tec e p = let z : true ≡ false = sym p in absurd (subst T z tt)
    go Rec e p = let z : true ≡ false = sym p in absurd (subst T z tt)
    go Caninte e p = marked (mark_one (unmarked m l) 129 (through Caninte (get_or m 129 0)) (omega arith) (omega arith)) _ refl
    go Canintf e p = marked (mark_one (unmarked m l) 130 (through Canintf (get_or m 130 0)) (omega arith) (omega arith)) _ refl
    go Eflg e p = marked (mark_one (unmarked m l) 131 (through Eflg (get_or m 131 0)) (omega arith) (omega arith)) _ refl
    go Canstat e p = let z : true ≡ false = sym p in absurd (subst T z tt)
    go Canctrl e p = let z : true ≡ false = sym p in absurd (subst T z tt)
    go (TxCtrl b) e p = let z : true ≡ false = sym p in absurd (subst T z tt)
    go (TxMessage b) e p =
        let t : T (ltb 47 a && ltb a 96) = inside_of a (TxMessage b) h e in
        became_low m a (through (TxMessage b) (get_or m a 0)) _ l h (tx_update m a (through (TxMessage b)) (message_above a t) (message_below a t))
    go (RxCtrl b) e p = let z : true ≡ false = sym p in absurd (subst T z tt)
    go RxMessage e p = let z : true ≡ false = sym p in absurd (subst T z tt)

-- ---- a store to TXBnCTRL changes that byte alone
pub stored_one : (m : List ℕ) (b : TxBuffer) (v : ℕ) → length m ≡ image_size
    → Became m (set m (132 + tx_number b) (tx_stored (control_of m) (get_or m (132 + tx_number b) 0) v)) (with_control (core_of m) (tx_control_stored (control_of m) b v))
unfolding decoded
stored_one m Txb0 v l = marked (mark_one (unmarked m l) 132 _ (omega arith) (omega arith)) _ refl
stored_one m Txb1 v l = marked (mark_one (unmarked m l) 133 _ (omega arith) (omega arith)) _ refl
stored_one m Txb2 v l = marked (mark_one (unmarked m l) 134 _ (omega arith) (omega arith)) _ refl

-- ---- RTS of one buffer changes its TXBnCTRL alone
pub requested_one : (m : List ℕ) (b : TxBuffer) → length m ≡ image_size
    → Became m (set m (132 + tx_number b) (requested_of (control_of m) (get_or m (132 + tx_number b) 0)))
    (with_control (core_of m) (requested_to_send (control_of m) (rts_bit b)))
unfolding decoded requested_to_send
requested_one m Txb0 l = marked (mark_one (unmarked m l) 132 (requested_of (control_of m) (get_or m 132 0)) (omega arith) (omega arith)) _ refl
requested_one m Txb1 l = marked (mark_one (unmarked m l) 133 (requested_of (control_of m) (get_or m 133 0)) (omega arith) (omega arith)) _ refl
requested_one m Txb2 l = marked (mark_one (unmarked m l) 134 (requested_of (control_of m) (get_or m 134 0)) (omega arith) (omega arith)) _ refl
