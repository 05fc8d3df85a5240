-- Registers: where each address lies, its writable bits, what it holds and what it reads.
use Rattle.std.specs.Prelude.{ℕ, suc, ◌*◌, ◌%◌, min, Bool, true, false, cond, not, ◌&&◌, ◌≡◌, List, [], ◌∷◌, eqb, ltb, get_or, replicate, None}
use Rattle.std.specs.Int.Bits.{bit_and, bit_or}
use Rattle.bits.specs.Bit.{has_bit}
use Rattle.registers.specs.declared.Region.{Region}
use Rattle.registers.specs.declared.Region.TheVariants.{Filters, Masks, Configured, Bfpctrl, Txrtsctrl, Tec, Rec, Caninte, Canintf, Eflg, Canstat, Canctrl, TxCtrl, TxMessage, RxCtrl, RxMessage}
use Rattle.registers.specs.declared.Mode.TheVariants.{Configuration}
use Rattle.registers.specs.declared.TxBuffer.{TxBuffer}
use Rattle.registers.specs.declared.TxBuffer.TheVariants.{Txb0, Txb1, Txb2}
use Rattle.registers.specs.declared.RxBuffer.{RxBuffer}
use Rattle.registers.specs.declared.RxBuffer.TheVariants.{Rxb0, Rxb1}
use Rattle.registers.specs.declared.Flags.{Flags}
use Rattle.registers.specs.declared.RxControl.{RxControl}
use Rattle.registers.specs.declared.Control.{Control}
use Rattle.registers.specs.declared.Pins.{Pins}
use Rattle.registers.specs.declared.Core.{Core}
use Rattle.registers.specs.State.{rx0if_bit, rx1if_bit, tx0if_bit, tx1if_bit, tx2if_bit, errif_bit, wakif_bit, mode_number, is_configuration, tx_number, tx_control, level_of, with_pins}
use Rattle.registers.specs.Errors.{error_flags, no_errors}

-- ---- the address map; an address is taken modulo 128
-- transmit buffers at 30h, 40h, 50h; receive buffers at 60h, 70h
abbrev pub tx_at : ℕ → TxBuffer
tx_at a = cond (ltb a 0x40) Txb0 (cond (ltb a 0x50) Txb1 Txb2)

abbrev pub rx_at : ℕ → RxBuffer
rx_at a = cond (ltb a 0x70) Rxb0 Rxb1

-- rows 0 and 1: filters 0-2 and 3-5, then BFPCTRL and TXRTSCTRL, or TEC and REC
abbrev pub filter_rows : ℕ → Region
filter_rows a =
    cond (ltb (a % 16) 12) Filters
    (cond (eqb a 0x0C) Bfpctrl
    (cond (eqb a 0x0D) Txrtsctrl
    (cond (eqb a 0x1C) Tec Rec)))

-- row 2: masks, CNF3-1, CANINTE, CANINTF, EFLG
abbrev pub mask_row : ℕ → Region
mask_row a =
    cond (ltb a 0x28) Masks
    (cond (ltb a 0x2B) Configured
    (cond (eqb a 0x2B) Caninte
    (cond (eqb a 0x2C) Canintf Eflg)))

-- rows 3 to 5 transmit, 6 and 7 receive: a control byte, the five from SIDH to DLC, and data bytes 0 to 7
abbrev pub buffer_rows : ℕ → Region
buffer_rows a =
    cond (ltb a 0x60)
    (cond (eqb (a % 16) 0) (TxCtrl (tx_at a)) (TxMessage (tx_at a)))
    (cond (eqb (a % 16) 0) (RxCtrl (rx_at a)) RxMessage)

-- each row ends in CANSTAT (xEh) and CANCTRL (xFh)
unfoldable pub region_of : ℕ → Region
region_of a =
    cond (eqb (a % 16) 14) Canstat
    (cond (eqb (a % 16) 15) Canctrl
    (cond (ltb a 0x20) (filter_rows a)
    (cond (ltb a 0x30) (mask_row a) (buffer_rows a))))

-- ---- the writable bits
-- SIDL is byte 1 of a filter or mask
abbrev pub profile_bits : ℕ → ℕ
profile_bits a = cond (eqb (a % 4) 1) (cond (ltb a 0x20) 0xEB 0xE3) 0xFF

-- CNF3
abbrev pub configured_bits : ℕ → ℕ
configured_bits a = cond (eqb a 0x28) 0xC7 0xFF

-- TXRTSCTRL: bit n enables TXnRTS as a request
abbrev pub enable_bits : ℕ
enable_bits = 0x07

-- SIDL and DLC of a transmit buffer
abbrev pub message_bits : ℕ → ℕ
message_bits a = cond (eqb (a % 16) 2) 0xEB (cond (eqb (a % 16) 5) 0x4F 0xFF)

-- TXBnCTRL: TXREQ and TXP
abbrev pub transmit_bits : ℕ
transmit_bits = 0x0B

abbrev pub receive_bits : RxBuffer → ℕ
receive_bits Rxb0 = 0x64
receive_bits Rxb1 = 0x60

abbrev pub writable_in : Region → ℕ → ℕ
writable_in Filters a = profile_bits a
writable_in Masks a = profile_bits a
writable_in Configured a = configured_bits a
writable_in Bfpctrl a = 0x3F
writable_in Txrtsctrl a = enable_bits
writable_in Tec a = 0x00
writable_in Rec a = 0x00
writable_in Caninte a = 0xFF
writable_in Canintf a = 0xFF
writable_in Eflg a = 0xC0
writable_in Canstat a = 0x00
writable_in Canctrl a = 0xFF
writable_in (TxCtrl b) a = transmit_bits
writable_in (TxMessage b) a = message_bits a
writable_in (RxCtrl b) a = receive_bits b
writable_in RxMessage a = 0x00

unfoldable pub writable_of : ℕ → ℕ
writable_of a = writable_in (region_of a) a

-- ---- power-on and RESET
-- mode Configuration, so CANSTAT 80h, and CANCTRL 87h; all else in the control registers 0, nothing in flight and no mode wanted
abbrev pub first_control : Control
first_control =
    record {
      flags = record { canctrl = 0x87; caninte = 0; canintf = 0; eflg = 0 };
      tx = record { txb0 = 0; txb1 = 0; txb2 = 0 };
      rx = record { rxb0 = 0; rxb1 = 0 };
      counters = no_errors;
      state = record { mode = Configuration; flight = None; request = None };
    }

-- the request pins start high
abbrev pub all_high : Pins
all_high = record { tx0rts = true; tx1rts = true; tx2rts = true }

unfoldable pub power_on_core : Core
power_on_core = record { control = first_control; config = replicate 48 0; tx = replicate 48 0; rx = replicate 32 0; pins = all_high }

-- RESET keeps the filters and the message bytes of every buffer; any other address goes to what it holds at power-on, with the pins as they are
abbrev pub is_kept : Region → Bool
is_kept Filters = true
is_kept Masks = false
is_kept Configured = false
is_kept Bfpctrl = false
is_kept Txrtsctrl = false
is_kept Tec = false
is_kept Rec = false
is_kept Caninte = false
is_kept Canintf = false
is_kept Eflg = false
is_kept Canstat = false
is_kept Canctrl = false
is_kept (TxCtrl b) = false
is_kept (TxMessage b) = true
is_kept (RxCtrl b) = false
is_kept RxMessage = true

-- of bytes that lie from address a on, those that are kept, and 0 for the others
unfoldable pub kept_from : ℕ → List ℕ → List ℕ
kept_from a [] = []
kept_from a (x ∷ xs) = cond (is_kept (region_of a)) x 0 ∷ kept_from (suc a) xs

-- the control registers, flight and mode request as at power-on; the pins are outside the chip, and keep their levels
unfoldable pub reset_core : Core → Core
reset_core k =
    record { control = first_control; config = kept_from 0x00 k.config; tx = kept_from 0x30 k.tx; rx = kept_from 0x60 k.rx; pins = k.pins }

-- ---- INT and CANSTAT
-- the sources enabled and flagged
abbrev pub sources : Flags → ℕ
sources f = bit_and f.caninte f.canintf

-- the INT pin is low while a flagged source is enabled, and only then
unfoldable pub int_is_low : Control → Bool
int_is_low c = not (eqb (sources c.flags) 0)

-- bits 3-1: the first source in the order ERRIF, WAKIF, TX0IF to TX2IF, RX0IF, RX1IF gives 1 to 7; no such source, 0
unfoldable pub interrupt_code : ℕ → ℕ
interrupt_code s =
    cond (has_bit s errif_bit) 1
    (cond (has_bit s wakif_bit) 2
    (cond (has_bit s tx0if_bit) 3
    (cond (has_bit s tx1if_bit) 4
    (cond (has_bit s tx2if_bit) 5
    (cond (has_bit s rx0if_bit) 6
    (cond (has_bit s rx1if_bit) 7 0))))))

-- bits 7-5 the mode
unfoldable pub canstat_of : Control → ℕ
canstat_of c = bit_or (mode_number c.state.mode * 32) (interrupt_code (sources c.flags) * 2)

-- ---- what an address holds
abbrev pub rx_control : RxControl → RxBuffer → ℕ
rx_control r Rxb0 = r.rxb0
rx_control r Rxb1 = r.rxb1

-- TXRTSCTRL
abbrev pub is_enabled : Core → TxBuffer → Bool
is_enabled k b = has_bit (get_or k.config 0x0D 0) (tx_number b)

-- B0RTS, B1RTS and B2RTS, bits 3 to 5
abbrev pub level_bit : TxBuffer → ℕ
level_bit Txb0 = 0x08
level_bit Txb1 = 0x10
level_bit Txb2 = 0x20

-- each is the level of its pin where that is not enabled, else 0
abbrev pub shown_level : Core → TxBuffer → ℕ
shown_level k b = cond (level_of k.pins b && not (is_enabled k b)) (level_bit b) 0

-- they take the place of what is stored there; the other bits are the byte's
abbrev pub txrtsctrl_of : Core → ℕ
txrtsctrl_of k =
    bit_or (bit_and (get_or k.config 0x0D 0) 0xC7)
    (bit_or (shown_level k Txb0) (bit_or (shown_level k Txb1) (shown_level k Txb2)))

-- From 256 on TEC reads 255; bits 5 to 0 of EFLG follow the counters. Bytes 00h to 2Fh and 30h to 5Fh lie at a % 48, 60h to 7Fh at a % 32.
abbrev pub holds_in : Region → Core → ℕ → ℕ
holds_in Filters k a = get_or k.config (a % 48) 0
holds_in Masks k a = get_or k.config (a % 48) 0
holds_in Configured k a = get_or k.config (a % 48) 0
holds_in Bfpctrl k a = get_or k.config (a % 48) 0
holds_in Txrtsctrl k a = txrtsctrl_of k
holds_in Tec k a = min k.control.counters.tec 255
holds_in Rec k a = k.control.counters.rec
holds_in Caninte k a = k.control.flags.caninte
holds_in Canintf k a = k.control.flags.canintf
holds_in Eflg k a = bit_or (bit_and k.control.flags.eflg 0xC0) (error_flags k.control.counters)
holds_in Canstat k a = canstat_of k.control
holds_in Canctrl k a = k.control.flags.canctrl
holds_in (TxCtrl b) k a = tx_control k.control.tx b
holds_in (TxMessage b) k a = get_or k.tx (a % 48) 0
holds_in (RxCtrl b) k a = rx_control k.control.rx b
holds_in RxMessage k a = get_or k.rx (a % 32) 0

unfoldable pub holds : Core → ℕ → ℕ
holds k a = holds_in (region_of (a % 128)) k (a % 128)

-- RESET in two halves, over every address: one that is kept holds what it held, every other what it holds at power-on with the pins
-- at the levels that they have
abbrev pub ResetHolds : Type 0
ResetHolds =
    (k : Core) (a : ℕ)
    → holds (reset_core k) a ≡ cond (is_kept (region_of (a % 128))) (holds k a) (holds (with_pins power_on_core k.pins) a)

-- .. so that bits 3 to 5 of TXRTSCTRL, in which no pin is enabled then, are the three levels
abbrev pub ResetLevels : Type 0
ResetLevels =
    (k : Core)
    → holds (reset_core k) 0x0D
    ≡ bit_or (cond k.pins.tx0rts 0x08 0) (bit_or (cond k.pins.tx1rts 0x10 0) (cond k.pins.tx2rts 0x20 0))

-- what no address shows whole, counters, mode, flight and request, is as at power-on too
abbrev pub ResetControl : Type 0
ResetControl = (k : Core) → (reset_core k).control ≡ power_on_core.control

-- ---- what an address reads: filters and masks 0 outside Configuration
abbrev pub is_profile : Region → Bool
is_profile Filters = true
is_profile Masks = true
is_profile Configured = false
is_profile Bfpctrl = false
is_profile Txrtsctrl = false
is_profile Tec = false
is_profile Rec = false
is_profile Caninte = false
is_profile Canintf = false
is_profile Eflg = false
is_profile Canstat = false
is_profile Canctrl = false
is_profile (TxCtrl b) = false
is_profile (TxMessage b) = false
is_profile (RxCtrl b) = false
is_profile RxMessage = false

abbrev pub hidden : Core → ℕ → Bool
hidden k a = is_profile (region_of (a % 128)) && not (is_configuration k.control.state.mode)

unfoldable pub reads : Core → ℕ → ℕ
reads k a = cond (hidden k a) 0 (holds k a)
