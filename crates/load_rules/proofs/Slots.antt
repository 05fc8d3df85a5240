-- The 34 registers of a profile: where each is kept, and what a write in Configuration does to it and to the others. Assumes nothing.
use mathlib.Core.Path.{◌≡◌, refl, sym, ap, ◌∙◌}
use mathlib.Core.Bool.{Bool, true, false, not, ◌||◌}
use mathlib.Core.List.{List}
use Prim.Native.Nat.{ℕ, ◌%◌, ◌<◌}
use native.Mathlib.Omega.{arith}
use lib.Dec.{eqb, ltb, lit<, ltb→lt}
use lib.Ieee.Bits.{is_true}
use lib.Bits.{bit_and}
use lib.ListN.{get_or, length, set, length-set}
use lib.Seq.{get_or-set_same, get_or-set_other}
use borrow.Author.Tests.{ltb-true, ltb-false, eqb-true, eqb-false, eq-eqb, ne_eqb}
use Rattle.bits.specs.Bit.{has_bit, set_bit, clear_bit, merged}
use Rattle.bits.proofs.All.{every, every²}
use Rattle.bits.proofs.Laws.{has_set_other, has_clear_other}
use Rattle.registers.specs.declared.Mode.TheVariants.{Configuration}
use Rattle.registers.specs.declared.Region.{Region}
use Rattle.registers.specs.declared.Region.TheVariants.{Filters, Masks, Configured, Bfpctrl, Txrtsctrl, Tec, Rec, Caninte, Canintf, Eflg, Canstat, Canctrl, TxCtrl, TxMessage, RxCtrl, RxMessage}
use Rattle.registers.specs.declared.RxBuffer.{RxBuffer}
use Rattle.registers.specs.declared.RxBuffer.TheVariants.{Rxb0, Rxb1}
use Rattle.registers.specs.declared.Core.{Core}
use Rattle.registers.specs.State.{bukt_bit, bukt1_bit, with_config, with_control, with_rx}
use Rattle.registers.specs.Registers.{region_of, writable_of, is_profile, receive_bits, rx_control, holds}
use Rattle.stores.specs.Store.{copies_bukt, rx_stored, config_stored, stored_in, stored}
use Rattle.spi.proofs.Clash.{clash}
use Rattle.mcp2515.proofs.CoreKept.{either}
use Rattle.mcp2515.proofs.Reached.{AtProfile, holds_profile}
use Rattle.load_machine.specs.Profile.{profile_size, address_of, bits_of}
use Rattle.load_rules.specs.Laws.{register_of}
use Rattle.load_rules.proofs.Under.{same_under, merged_new}
use Rattle.load_rules.proofs.Reach.{Home}

-- ---- filters and masks are bytes 0 to 31, the control bytes 32 and 33
abbrev pub rx_index : RxBuffer → ℕ
rx_index Rxb0 = 32
rx_index Rxb1 = 33

pub data Where (i : ℕ) : Type 0 where
  byte : i < 32 → Where i
  control : (b : RxBuffer) → i ≡ rx_index b → Where i

pub where_is : (i : ℕ) → i < profile_size → Where i
where_is i h = go (ltb i 32) refl (eqb i 32) refl
  where
    go : (x : Bool) → ltb i 32 ≡ x → (y : Bool) → eqb i 32 ≡ y → Where i
    go true e y f = byte (ltb-true i 32 e)
    go false e true f = control Rxb0 (eqb-true i 32 f)
    go false e false f = control Rxb1 (omega (arith, ltb-false i 32 e, eqb-false i 32 f))

-- ---- addresses, by computing
pub at_profile : (i : ℕ) → i < 32 → AtProfile (address_of i)
unfolding address_of region_of
at_profile i h = is_true _ (every (λ i. is_profile (region_of (address_of i % 128))) 32 tt i h)

small_address : (i : ℕ) → i < 32 → address_of i < 48
unfolding address_of
small_address i h = ltb→lt (address_of i) 48 (every (λ i. ltb (address_of i) 48) 32 tt i h)

pub byte_address : (i : ℕ) → i < 34 → address_of i < 128
unfolding address_of
byte_address i h = ltb→lt (address_of i) 128 (every (λ i. ltb (address_of i) 128) 34 tt i h)

apart_at : ℕ → ℕ → Bool
apart_at i j = eqb i j || not (eqb (address_of i) (address_of j))

apart_addresses : (i j : ℕ) → i < 32 → j < 32 → (i ≡ j → ⊥) → address_of i ≡ address_of j → ⊥
unfolding apart_at address_of
apart_addresses i j hi hj ne e = rw (ne_eqb i j ne, eq-eqb (address_of i) (address_of j) e) at (every² apart_at 32 32 tt i j hi hj)

pub small_bits : (i : ℕ) → i < 34 → bits_of i < 256
unfolding address_of region_of writable_of
small_bits i h = ltb→lt (bits_of i) 256 (every (λ i. ltb (bits_of i) 256) 34 tt i h)

-- ---- what they hold
byte_register : (k : Core) (i : ℕ) → i < 32 → register_of k i ≡ bit_and (get_or k.config (address_of i) 0) (bits_of i)
byte_register k i h =
    let e : address_of i % 128 % 48 ≡ address_of i = omega (arith, small_address i h) in
    ap (λ (x : ℕ). bit_and x (bits_of i)) (holds_profile k (address_of i) (at_profile i h) ∙ ap (λ (n : ℕ). get_or k.config n 0) e)

control_register : (k : Core) (b : RxBuffer) → register_of k (rx_index b) ≡ bit_and (rx_control k.control.rx b) (receive_bits b)
unfolding address_of holds region_of writable_of
control_register k Rxb0 = refl
control_register k Rxb1 = refl

-- two cores with the same registers
pub same_registers : (j k : Core) → j.config ≡ k.config
    → ((b : RxBuffer) → bit_and (rx_control j.control.rx b) (receive_bits b) ≡ bit_and (rx_control k.control.rx b) (receive_bits b))
    → (i : ℕ) → i < profile_size → register_of j i ≡ register_of k i
same_registers j k e f i h = go (where_is i h)
  where
    go : Where i → register_of j i ≡ register_of k i
    go (byte l) = byte_register j i l ∙ ap (λ (c : List ℕ). bit_and (get_or c (address_of i) 0) (bits_of i)) e ∙ sym (byte_register k i l)
    go (control b z) = rw z (control_register j b ∙ f b ∙ sym (control_register k b))

-- ---- a write
stored_byte : (g : Region) (k : Core) (a v : ℕ) → is_profile g ≡ true → stored_in g k a v ≡ config_stored k a v
stored_byte Filters k a v e = refl
stored_byte Masks k a v e = refl
stored_byte Configured k a v e = refl
stored_byte Bfpctrl k a v e = clash (sym e)
stored_byte Txrtsctrl k a v e = refl
stored_byte Tec k a v e = clash (sym e)
stored_byte Rec k a v e = clash (sym e)
stored_byte Caninte k a v e = clash (sym e)
stored_byte Canintf k a v e = clash (sym e)
stored_byte Eflg k a v e = clash (sym e)
stored_byte Canstat k a v e = clash (sym e)
stored_byte Canctrl k a v e = clash (sym e)
stored_byte (TxCtrl b) k a v e = clash (sym e)
stored_byte (TxMessage b) k a v e = clash (sym e)
stored_byte (RxCtrl b) k a v e = clash (sym e)
stored_byte RxMessage k a v e = clash (sym e)

-- of a filter or mask byte, in Configuration
byte_stored : (k : Core) (i v : ℕ) → i < 32 → Home Configuration k.control
    → stored k (address_of i % 128) v ≡ with_config k (set k.config (address_of i) (merged (bits_of i) (get_or k.config (address_of i) 0) v))
unfolding stored
byte_stored k i v h c =
    let e : address_of i % 128 % 128 ≡ address_of i = omega (arith, small_address i h) in
    let f : address_of i % 128 ≡ address_of i = omega (arith, small_address i h) in
    let z : address_of i % 48 ≡ address_of i = omega (arith, small_address i h) in
    let p : is_profile (region_of (address_of i)) ≡ true = rw f at (at_profile i h) in
    rw e (stored_byte (region_of (address_of i)) k (address_of i) v p ∙ rw (z, c.mode))

-- .. of a control byte
control-stored : (k : Core) (b : RxBuffer) (v : ℕ)
    → stored k (address_of (rx_index b) % 128) v ≡ with_control k (with_rx k.control (rx_stored k.control.rx b v))
unfolding address_of stored region_of
control-stored k Rxb0 v = refl
control-stored k Rxb1 v = refl

-- bit 1 of RXB0CTRL is not among its writable bits
not_bukt1 : (n : ℕ) → n < 8 → has_bit 0x64 n ≡ true → bukt1_bit ≡ n → ⊥
not_bukt1 n l e z = clash (sym (rw (← z) at e))

copied_under : (x : ℕ) → bit_and (copies_bukt x) 0x64 ≡ bit_and x 0x64
copied_under x =
    either (λ (y : ℕ). bit_and y 0x64 ≡ bit_and x 0x64) (has_bit x bukt_bit)
    (same_under 0x64 (set_bit x bukt1_bit) x (lit< tt) (λ n l e. has_set_other x bukt1_bit (lit< tt) n l (not_bukt1 n l e)))
    (same_under 0x64 (clear_bit x bukt1_bit) x (lit< tt) (λ n l e. has_clear_other x bukt1_bit (lit< tt) n l (not_bukt1 n l e)))

control_written : (k : Core) (b : RxBuffer) (v : ℕ)
    → bit_and (rx_control (rx_stored k.control.rx b v) b) (receive_bits b) ≡ bit_and v (receive_bits b)
control_written k Rxb0 v = copied_under (merged 0x64 k.control.rx.rxb0 v) ∙ merged_new 0x64 k.control.rx.rxb0 v (lit< tt)
control_written k Rxb1 v = merged_new 0x60 k.control.rx.rxb1 v (lit< tt)

other_control : (k : Core) (b d : RxBuffer) (v : ℕ) → (rx_index b ≡ rx_index d → ⊥) → rx_control (rx_stored k.control.rx b v) d ≡ rx_control k.control.rx d
other_control k Rxb0 Rxb0 v ne = absurd (ne refl)
other_control k Rxb0 Rxb1 v ne = refl
other_control k Rxb1 Rxb0 v ne = refl
other_control k Rxb1 Rxb1 v ne = absurd (ne refl)

control_bits : (b : RxBuffer) → bits_of (rx_index b) ≡ receive_bits b
unfolding address_of region_of writable_of
control_bits Rxb0 = refl
control_bits Rxb1 = refl

-- a write in Configuration: its register, the others, and what else it leaves
pub record Written (k j : Core) (i v : ℕ) : Type 0 where
  pub own : register_of j i ≡ bit_and v (bits_of i)
  pub other : (n : ℕ) → n < profile_size → (i ≡ n → ⊥) → register_of j n ≡ register_of k n
  pub size : length j.config ≡ length k.config
  pub state : j.control.state ≡ k.control.state
  pub flags : j.control.flags ≡ k.control.flags

module _ (k : Core) (v : ℕ) where
  byte_written : (i : ℕ) → i < 32 → length k.config ≡ 48
      → Written k (with_config k (set k.config (address_of i) (merged (bits_of i) (get_or k.config (address_of i) 0) v))) i v
  byte_written i h size =
      let x : ℕ = merged (bits_of i) (get_or k.config (address_of i) 0) v in
      let j : Core = with_config k (set k.config (address_of i) x) in
      record {
        own = byte_register j i h
            ∙ ap (λ (y : ℕ). bit_and y (bits_of i)) (get_or-set_same k.config (address_of i) x 0 (rw size (small_address i h)))
            ∙ merged_new (bits_of i) (get_or k.config (address_of i) 0) v (small_bits i (omega arith));
        other = λ n l ne. go n (where_is n l) ne;
        size = length-set k.config (address_of i) x;
        state = refl;
        flags = refl;
      }
    where
      go : (n : ℕ) → Where n → (i ≡ n → ⊥)
          → register_of (with_config k (set k.config (address_of i) (merged (bits_of i) (get_or k.config (address_of i) 0) v))) n ≡ register_of k n
      go n (byte l) ne =
          byte_register _ n l
          ∙ ap (λ (y : ℕ). bit_and y (bits_of n)) (get_or-set_other k.config (address_of i) (address_of n) _ 0 (λ e. apart_addresses i n h l ne (sym e)))
          ∙ sym (byte_register k n l)
      go n (control b z) ne = rw z (control_register _ b ∙ sym (control_register k b))

  control_changed : (b : RxBuffer) → Written k (with_control k (with_rx k.control (rx_stored k.control.rx b v))) (rx_index b) v
  control_changed b = record {
    own = control_register _ b ∙ control_written k b v ∙ ap (bit_and v) (sym (control_bits b));
    other = λ n l ne. go n (where_is n l) ne;
    size = refl;
    state = refl;
    flags = refl;
  }
    where
      go : (n : ℕ) → Where n → (rx_index b ≡ n → ⊥) → register_of (with_control k (with_rx k.control (rx_stored k.control.rx b v))) n ≡ register_of k n
      go n (byte l) ne = byte_register _ n l ∙ sym (byte_register k n l)
      go n (control d z) ne =
          rw z (control_register _ d ∙ ap (λ (y : ℕ). bit_and y (receive_bits d)) (other_control k b d v (λ e. ne (e ∙ sym z))) ∙ sym (control_register k d))

pub write_register : (k : Core) (i v : ℕ) → i < profile_size → Home Configuration k.control → length k.config ≡ 48
    → Written k (stored k (address_of i % 128) v) i v
write_register k i v h c size = go (where_is i h)
  where
    go : Where i → Written k (stored k (address_of i % 128) v) i v
    go (byte l) = rw (byte_stored k i v l c) (byte_written k v i l size)
    go (control b z) = rw (z, control-stored k b v) (control_changed k v b)
