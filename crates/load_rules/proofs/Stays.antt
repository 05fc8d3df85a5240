-- No command but a write changes a byte of the profile, and what a run leaves of it. Assumes nothing.
use mathlib.Core.Path.{◌≡◌, refl, sym, subst, ap, ◌∙◌}
use mathlib.Core.Bool.{Bool, true, false, cond, not, ◌&&◌}
use mathlib.Core.List.{List, [], ◌∷◌}
use Prim.Native.Nat.{ℕ, ◌%◌, ◌<◌}
use native.Mathlib.Omega.{arith}
use lib.Dec.{T, leb}
use Rattle.bits.proofs.All.{every}
use Rattle.registers.specs.declared.Mode.{Mode}
use Rattle.registers.specs.declared.Region.{Region}
use Rattle.registers.specs.declared.Region.TheVariants.{Filters, Masks, Configured, Bfpctrl, Txrtsctrl, Tec, Rec, Caninte, Canintf, Eflg, Canstat, Canctrl, TxCtrl, TxMessage, RxCtrl, RxMessage}
use Rattle.registers.specs.declared.RxBuffer.{RxBuffer}
use Rattle.registers.specs.declared.RxBuffer.TheVariants.{Rxb0, Rxb1}
use Rattle.registers.specs.declared.RxControl.{RxControl}
use Rattle.registers.specs.declared.Core.{Core}
use Rattle.registers.specs.Registers.{region_of, is_profile, is_kept, rx_control, holds}
use Rattle.controller.specs.Events.{settled_core}
use Rattle.spi.specs.declared.Select.{Select}
use Rattle.spi.proofs.Clash.{clash}
use Rattle.mcp2515.specs.declared.Chip.{Chip}
use Rattle.mcp2515.specs.Step.{asked, next_chip, chip_after}
use Rattle.mcp2515.specs.Runs.{stores_in_configuration}
use Rattle.mcp2515.proofs.Reached.{same_profile, filters_kept, masks_kept}
use Rattle.load_machine.specs.declared.Command.TheVariants.{Ask, Read}
use Rattle.load_machine.specs.Profile.{profile_size, address_of}
use Rattle.load_rules.specs.Laws.{ProfileBytesKept, CommandsKeep, is_reset, spares, spared_by, ProfileStays}
use Rattle.load_rules.proofs.Sessions.{raised, ask_core, ask_chip, read_chip}
use Rattle.load_rules.proofs.Reach.{settle_rx}
use Rattle.load_rules.proofs.Slots.{rx_index, Where, byte, control, where_is, at_profile}
use Rattle.load_rules.proofs.Kept.{ask_rx}

-- ---- cores with the same rows and the same RXBnCTRL
control-holds : (k : Core) (b : RxBuffer) → holds k (address_of (rx_index b)) ≡ rx_control k.control.rx b
unfolding address_of holds region_of
control-holds k Rxb0 = refl
control-holds k Rxb1 = refl

same_bytes : (j k : Core) → j.config ≡ k.config → j.control.rx ≡ k.control.rx → (i : ℕ) → i < profile_size → holds j (address_of i) ≡ holds k (address_of i)
same_bytes j k e f i h = go (where_is i h)
  where
    go : Where i → holds j (address_of i) ≡ holds k (address_of i)
    go (byte l) = same_profile j k (address_of i) (at_profile i l) e
    go (control b z) = rw z (control-holds j b ∙ ap (λ (r : RxControl). rx_control r b) f ∙ sym (control-holds k b))

commands_raised : (k : Core) → ((m : Mode) → ProfileBytesKept (raised k) (Ask m)) × ProfileBytesKept (raised k) (Read 0x0E)
commands_raised k = (
  (λ m i h. ap (λ (c : Chip). holds c.core (address_of i)) (ask_chip m k) ∙ same_bytes (ask_core m k) k (ask_rx m k).0 (ask_rx m k).1 i h),
  (λ i h. ap (λ (c : Chip). holds c.core (address_of i)) (read_chip 0x0E k (omega arith)) ∙ same_bytes (settled_core k) k refl (settle_rx k.control) i h),
)

pub commands_keep : CommandsKeep
commands_keep c e =
    subst (λ (d : Chip). ((m : Mode) → ProfileBytesKept d (Ask m)) × ProfileBytesKept d (Read 0x0E))
    (sym (ap (λ (s : Select). record { core = c.core; select = s }) e)) (commands_raised c.core)

-- ---- after a load
profile_region : (g : Region) → is_profile g ≡ true → g ≡ cond (is_kept g) Filters Masks
profile_region Filters e = refl
profile_region Masks e = refl
profile_region Configured e = clash (sym e)
profile_region Bfpctrl e = clash (sym e)
profile_region Txrtsctrl e = clash (sym e)
profile_region Tec e = clash (sym e)
profile_region Rec e = clash (sym e)
profile_region Caninte e = clash (sym e)
profile_region Canintf e = clash (sym e)
profile_region Eflg e = clash (sym e)
profile_region Canstat e = clash (sym e)
profile_region Canctrl e = clash (sym e)
profile_region (TxCtrl b) e = clash (sym e)
profile_region (TxMessage b) e = clash (sym e)
profile_region (RxCtrl b) e = clash (sym e)
profile_region RxMessage e = clash (sym e)

-- filters before byte 24, masks from it on
abbrev kept_right : ℕ → Bool
kept_right i = cond (leb 24 i) (not (is_kept (region_of (address_of i % 128)))) (is_kept (region_of (address_of i % 128)))

byte_region : (i : ℕ) → i < 32 → region_of (address_of i % 128) ≡ cond (leb 24 i) Masks Filters
unfolding address_of region_of
byte_region i h = profile_region (region_of (address_of i % 128)) (at_profile i h) ∙ turned (leb 24 i) (is_kept (region_of (address_of i % 128))) (every kept_right 32 tt i h)
  where
    turned : (x y : Bool) → T (cond x (not y) y) → cond y Filters Masks ≡ cond x Masks Filters
    turned true true t = absurd t
    turned true false t = refl
    turned false true t = refl
    turned false false t = absurd t

not-true : (x : Bool) → not x ≡ true → x ≡ false
not-true true e = clash (sym e)
not-true false e = refl

pub and_left : (x y : Bool) → x && y ≡ true → x ≡ true
and_left true y e = refl
and_left false y e = e

pub and_right : (x y : Bool) → x && y ≡ true → y ≡ true
and_right true y e = e
and_right false y e = clash (sym e)

byte_kept : (i : ℕ) → i < 32 → (c : Chip) (r : List ℕ) → spares i c r ≡ true → holds (next_chip c r).core (address_of i) ≡ holds c.core (address_of i)
byte_kept i h c r e = go (leb 24 i) refl
  where
    stores : stores_in_configuration c r ≡ false
    stores = not-true (stores_in_configuration c r) (and_left _ _ e)

    go : (x : Bool) → leb 24 i ≡ x → holds (next_chip c r).core (address_of i) ≡ holds c.core (address_of i)
    go true f =
        masks_kept c r stores
        (λ z. clash (sym (ap is_reset z) ∙ rw f at (not-true (leb 24 i && is_reset (asked c.select r)) (and_right (not (stores_in_configuration c r)) _ e))))
        (address_of i) (byte_region i h ∙ ap (λ (b : Bool). cond b Masks Filters) f)
    go false f = filters_kept c r stores (address_of i) (byte_region i h ∙ ap (λ (b : Bool). cond b Masks Filters) f)

pub profile_stays : ProfileStays
unfolding chip_after spared_by
profile_stays c [] i h e = refl
profile_stays c (r ∷ rs) i h e =
    profile_stays (next_chip c r) rs i h (and_right (spares i c r) _ e) ∙ byte_kept i h c r (and_left (spares i c r) _ e)
