-- What a load has reached: the core in Configuration with the first registers written, and what a mode request leaves of a core.
-- Assumes nothing.
use mathlib.Core.Path.{◌≡◌, refl, sym, subst, ap, ◌∙◌}
use mathlib.Core.List.{List}
use Prim.Native.Nat.{ℕ, ◌+◌, ◌*◌, ◌%◌, ◌<◌}
use native.Mathlib.Omega.{arith}
use lib.Bits.{bit_and}
use lib.ListN.{get_or, length}
use Rattle.bits.specs.Bit.{merged}
use Rattle.registers.specs.declared.Mode.{Mode}
use Rattle.registers.specs.declared.Mode.TheVariants.{Configuration}
use Rattle.registers.specs.declared.RxBuffer.{RxBuffer}
use Rattle.registers.specs.declared.Flags.{Flags}
use Rattle.registers.specs.declared.RxControl.{RxControl}
use Rattle.registers.specs.declared.Control.{Control}
use Rattle.registers.specs.declared.Core.{Core}
use Rattle.registers.specs.State.{mode_number, with_control}
use Rattle.registers.specs.Registers.{region_of, writable_of, holds, rx_control, receive_bits}
use Rattle.registers.specs.Modes.{settled}
use Rattle.stores.specs.Store.{canctrl_stored, stored, takes_mask, modified}
use Rattle.controller.specs.Events.{settled_core, event_of}
use Rattle.mcp2515.proofs.CoreKept.{event_kept}
use Rattle.load_machine.specs.Profile.{profile_size}
use Rattle.load_rules.specs.Laws.{register_of}
use Rattle.load_rules.proofs.Under.{mode_merged, byte_merged}
use Rattle.load_rules.proofs.Reach.{Home, Reach, settle_home, settle_reach, settle_flags, settle_rx, canctrl_held_lem, canctrl_rx, ask_for, small, back_there, back_home, ask_reach, event_there, event_canctrl, event_receive}
use Rattle.load_rules.proofs.Sessions.{ask_core}
use Rattle.load_rules.proofs.Slots.{same_registers}

-- ---- what stays of a core k: its rows, the writable bits of RXBnCTRL, CANCTRL but for its mode bits
pub record Same (k j : Core) : Type 0 where
  pub config : j.config ≡ k.config
  pub receive : (b : RxBuffer) → bit_and (rx_control j.control.rx b) (receive_bits b) ≡ bit_and (rx_control k.control.rx b) (receive_bits b)
  pub canctrl : j.control.flags.canctrl % 32 ≡ k.control.flags.canctrl % 32

pub then_same : {k j i : Core} → Same k j → Same j i → Same k i
then_same p q = record { config = q.config ∙ p.config; receive = λ b. q.receive b ∙ p.receive b; canctrl = q.canctrl ∙ p.canctrl }

pub event_same : (k : Core) (r : List ℕ) → Same k (event_of k r).core
event_same k r =
    record { config = (event_kept k r).config; receive = event_receive k r; canctrl = ap (λ (n : ℕ). n % 32) (event_canctrl k r) }

pub settle_same : (k : Core) → Same k (settled_core k)
settle_same k = record {
  config = refl;
  receive = λ b. ap (λ (x : RxControl). bit_and (rx_control x b) (receive_bits b)) (settle_rx k.control);
  canctrl = ap (λ (f : Flags). f.canctrl % 32) (settle_flags k.control);
}

-- ---- a mode is asked for
ask_modified : (m : Mode) (k : Core)
    → modified k 0x0F 0xE0 (mode_number m * 32) ≡ with_control k (canctrl_stored k.control (ask_for (k.control.flags.canctrl % 32) m))
unfolding modified stored region_of takes_mask holds writable_of
ask_modified m k =
    let old : ℕ = k.control.flags.canctrl in
    let asked : merged 0xE0 old (mode_number m * 32) ≡ ask_for (old % 32) m = mode_merged old (mode_number m) (small m) in
    let byte : merged 0xFF old (ask_for (old % 32) m) ≡ ask_for (old % 32) m = byte_merged old (ask_for (old % 32) m) (omega (arith, small m)) in
    rw (asked, byte)

-- the control registers that it leaves
abbrev pub asked_control : Mode → Control → Control
asked_control m c = settled (canctrl_stored (settled c) (ask_for ((settled c).flags.canctrl % 32) m))

ask_control : (m : Mode) (k : Core) → ask_core m k ≡ with_control k (asked_control m k.control)
ask_control m k = ap settled_core (ask_modified m (settled_core k))

pub ask_same : (m : Mode) (k : Core) → Same k (ask_core m k)
ask_same m k =
    rw (ask_control m k)
    (record {
      config = refl;
      receive = λ b. ap (λ (x : RxControl). bit_and (rx_control x b) (receive_bits b)) (settle_rx _ ∙ canctrl_rx _ _ ∙ settle_rx k.control);
      canctrl = ap (λ (f : Flags). f.canctrl % 32) (settle_flags _) ∙ ap (λ (n : ℕ). n % 32) (canctrl_held_lem _ _)
          ∙ low ∙ ap (λ (f : Flags). f.canctrl % 32) (settle_flags k.control);
    })
  where
    low : ask_for ((settled k.control).flags.canctrl % 32) m % 32 ≡ (settled k.control).flags.canctrl % 32
    low = omega arith

-- the rows and RXBnCTRL whole
pub ask_rx : (m : Mode) (k : Core) → ((ask_core m k).config ≡ k.config) × ((ask_core m k).control.rx ≡ k.control.rx)
ask_rx m k = (
  ap (λ (j : Core). j.config) (ask_control m k),
  ap (λ (j : Core). j.control.rx) (ask_control m k) ∙ settle_rx _ ∙ canctrl_rx _ _ ∙ settle_rx k.control,
)

-- CANCTRL after it
pub ask_canctrl : (m : Mode) (k : Core) → (ask_core m k).control.flags.canctrl ≡ k.control.flags.canctrl % 32 + mode_number m * 32
ask_canctrl m k =
    ap (λ (j : Core). j.control.flags.canctrl) (ask_control m k)
    ∙ (ap (λ (f : Flags). f.canctrl) (settle_flags _) ∙ canctrl_held_lem _ _ ∙ ap (λ (f : Flags). ask_for (f.canctrl % 32) m) (settle_flags k.control))

pub ask_there : (m : Mode) (k : Core) → Home Configuration k.control → Home m (ask_core m k).control
ask_there m k h = subst (λ (j : Core). Home m j.control) (sym (ask_control m k)) (back_there (settled k.control) _ m (omega arith) (settle_home k.control h))

pub ask_home : (m : Mode) (k : Core) → Reach m k.control → Home m (ask_core m k).control
ask_home m k h = subst (λ (j : Core). Home m j.control) (sym (ask_control m k)) (back_home (settled k.control) _ m (omega arith) (settle_reach k.control h))

pub ask_first : (k : Core) → Reach (settled k.control).state.mode (ask_core Configuration k).control
ask_first k =
    subst (λ (j : Core). Reach (settled k.control).state.mode j.control) (sym (ask_control Configuration k))
    (ask_reach (settled k.control) _ (settled k.control).state.mode (omega arith) refl)

-- ---- in Configuration, with n bytes of the profile p written
pub record Wrote (p : List ℕ) (base : Core) (n : ℕ) (k : Core) : Type 0 where
  pub home : Home Configuration k.control
  pub size : length k.config ≡ 48
  pub written : (i : ℕ) → i < profile_size → i < n → register_of k i ≡ get_or p i 0
  pub canctrl : k.control.flags.canctrl % 32 ≡ base.control.flags.canctrl % 32

module _ (p : List ℕ) (base : Core) where
  wrote_same : (n : ℕ) (k j : Core) → Same k j → Home Configuration j.control → Wrote p base n k → Wrote p base n j
  wrote_same n k j s h w = record {
    home = h;
    size = ap length s.config ∙ w.size;
    written = λ i l m. same_registers j k s.config s.receive i l ∙ w.written i l m;
    canctrl = s.canctrl ∙ w.canctrl;
  }

  pub wrote_event : (n : ℕ) (k : Core) (r : List ℕ) → Wrote p base n k → Wrote p base n (event_of k r).core
  wrote_event n k r w = wrote_same n k (event_of k r).core (event_same k r) (event_there k r w.home) w
