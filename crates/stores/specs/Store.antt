-- A store of one byte, with the rules of the address: Configuration-only registers, locked TX bytes, TXREQ, ABAT and mode requests.
use Rattle.std.specs.Prelude.{ℕ, ◌/◌, ◌%◌, Bool, true, cond, not, ◌&&◌, ◌||◌, eqb, ltb}
use Rattle.std.specs.Int.Bits.{bit_and}
use Rattle.bits.specs.Bit.{has_bit, set_bit, clear_bit, merged, written}
use Rattle.registers.specs.declared.Region.{Region}
use Rattle.registers.specs.declared.Region.TheVariants.{Filters, Masks, Configured, Bfpctrl, Txrtsctrl, Tec, Rec, Caninte, Canintf, Eflg, Canstat, Canctrl, TxCtrl, TxMessage, RxCtrl, RxMessage}
use Rattle.registers.specs.declared.TxBuffer.{TxBuffer}
use Rattle.registers.specs.declared.TxBuffer.TheVariants.{Txb0, Txb1, Txb2}
use Rattle.registers.specs.declared.RxBuffer.{RxBuffer}
use Rattle.registers.specs.declared.RxBuffer.TheVariants.{Rxb0, Rxb1}
use Rattle.registers.specs.declared.RxControl.{RxControl}
use Rattle.registers.specs.declared.Control.{Control}
use Rattle.registers.specs.declared.Core.{Core}
use Rattle.registers.specs.State.{abat_bit, aborts_all, updated, txreq_bit, abtf_bit, bukt1_bit, bukt_bit, is_configuration, in_flight, tx_control, with_tx_control, with_tx, with_rx, with_canctrl, with_caninte, with_canintf, with_eflg, with_request, with_control, with_config, with_tx_bytes}
use Rattle.registers.specs.Registers.{region_of, writable_of, transmit_bits, receive_bits, holds}
use Rattle.registers.specs.Modes.{request_in}

-- ---- TXBnCTRL
-- a TXREQ that turns from 0 to 1 wipes bits 6 to 4: ABTF, MLOA and TXERR
abbrev pub raised_from : ℕ → ℕ → ℕ
raised_from old new = cond (not (has_bit old txreq_bit) && has_bit new txreq_bit) (bit_and new 0x8F) new

-- ABAT keeps a clear TXREQ clear: its bit 3 is then not writable
abbrev pub tx_bits : Control → ℕ → ℕ
tx_bits c old = cond (aborts_all c && not (has_bit old txreq_bit)) (clear_bit transmit_bits txreq_bit) transmit_bits

unfoldable pub tx_stored : Control → ℕ → ℕ → ℕ
tx_stored c old v = raised_from old (merged (tx_bits c old) old v)

abbrev pub tx_control_stored : Control → TxBuffer → ℕ → Control
tx_control_stored c b v = with_tx c (with_tx_control c.tx b (tx_stored c (tx_control c.tx b) v))

-- RTS of one buffer: TXREQ is set, unless ABAT
unfoldable pub requested_of : Control → ℕ → ℕ
requested_of c old = cond (aborts_all c) old (raised_from old (set_bit old txreq_bit))

-- RTS for the buffers of bits 0 to 2
unfoldable pub requested_to_send : Control → ℕ → Control
requested_to_send c m =
    with_tx c (record {
      txb0 = cond (has_bit m 0) (requested_of c c.tx.txb0) c.tx.txb0;
      txb1 = cond (has_bit m 1) (requested_of c c.tx.txb1) c.tx.txb1;
      txb2 = cond (has_bit m 2) (requested_of c c.tx.txb2) c.tx.txb2;
    })

-- ---- CANCTRL
-- under ABAT each buffer with TXREQ, but for one in flight, loses it and gets ABTF
abbrev pub aborted_at : Control → TxBuffer → ℕ
aborted_at c b =
    cond (has_bit (tx_control c.tx b) txreq_bit && not (in_flight c.state.flight b))
    (set_bit (clear_bit (tx_control c.tx b) txreq_bit) abtf_bit)
    (tx_control c.tx b)

unfoldable pub aborted : Control → Control
aborted c = with_tx c (record { txb0 = aborted_at c Txb0; txb1 = aborted_at c Txb1; txb2 = aborted_at c Txb2 })

-- the byte is held, its mode bits 7-5 are requested, and ABAT acts
abbrev pub canctrl_held : Control → ℕ → Control
canctrl_held c v = with_request (with_canctrl c v) (request_in c.state.mode (v / 32))

unfoldable pub canctrl_stored : Control → ℕ → Control
canctrl_stored c v = cond (has_bit v abat_bit) (aborted (canctrl_held c v)) (canctrl_held c v)

-- ---- RXBnCTRL: bit 1 of RXB0CTRL copies bit 2
abbrev pub copies_bukt : ℕ → ℕ
copies_bukt x = cond (has_bit x bukt_bit) (set_bit x bukt1_bit) (clear_bit x bukt1_bit)

abbrev pub rx_stored : RxControl → RxBuffer → ℕ → RxControl
rx_stored r Rxb0 v = record { rxb0 = copies_bukt (merged (receive_bits Rxb0) r.rxb0 v); rxb1 = r.rxb1 }
rx_stored r Rxb1 v = record { rxb0 = r.rxb0; rxb1 = merged (receive_bits Rxb1) r.rxb1 v }

-- ---- which writes are taken
-- a TX buffer, but for its control byte, is closed to writes while it has TXREQ or is in flight
abbrev pub is_locked : Control → TxBuffer → Bool
is_locked c b = has_bit (tx_control c.tx b) txreq_bit || in_flight c.state.flight b

-- a byte open only in Configuration: of a filter or mask, TXRTSCTRL or CNF1-3
abbrev pub config_stored : Core → ℕ → ℕ → Core
config_stored k a v = with_config k (updated k.config (a % 48) (λ old. written (is_configuration k.control.state.mode) (writable_of a) old v))

abbrev pub bfpctrl_stored : Core → ℕ → ℕ → Core
bfpctrl_stored k a v = with_config k (updated k.config (a % 48) (λ old. written true (writable_of a) old v))

abbrev pub message_stored : Core → TxBuffer → ℕ → ℕ → Core
message_stored k b a v = with_tx_bytes k (updated k.tx (a % 48) (λ old. written (not (is_locked k.control b)) (writable_of a) old v))

-- ---- the store at an address of each region; bits that are not writable keep their value
abbrev pub stored_in : Region → Core → ℕ → ℕ → Core
stored_in Filters k a v = config_stored k a v
stored_in Masks k a v = config_stored k a v
stored_in Configured k a v = config_stored k a v
stored_in Bfpctrl k a v = bfpctrl_stored k a v
stored_in Txrtsctrl k a v = config_stored k a v
stored_in Tec k a v = k
stored_in Rec k a v = k
stored_in Caninte k a v = with_control k (with_caninte k.control (merged (writable_of a) k.control.flags.caninte v))
stored_in Canintf k a v = with_control k (with_canintf k.control (merged (writable_of a) k.control.flags.canintf v))
stored_in Eflg k a v = with_control k (with_eflg k.control (merged (writable_of a) k.control.flags.eflg v))
stored_in Canstat k a v = k
stored_in Canctrl k a v = with_control k (canctrl_stored k.control (merged (writable_of a) k.control.flags.canctrl v))
stored_in (TxCtrl b) k a v = with_control k (tx_control_stored k.control b v)
stored_in (TxMessage b) k a v = message_stored k b a v
stored_in (RxCtrl b) k a v = with_control k (with_rx k.control (rx_stored k.control.rx b v))
stored_in RxMessage k a v = k

unfoldable pub stored : Core → ℕ → ℕ → Core
stored k a v = stored_in (region_of (a % 128)) k (a % 128) v

-- ---- BIT MODIFY
-- BFPCTRL, TXRTSCTRL, CANCTRL, 28h to 2Dh and each buffer's control byte take the mask; at every other address it is FFh
unfoldable pub takes_mask : ℕ → Bool
takes_mask a =
    eqb a 0x0C || eqb a 0x0D || eqb (a % 16) 15 || (ltb 0x27 a && ltb a 0x2E) || (ltb 0x2F a && ltb a 0x71 && eqb (a % 16) 0)

-- over the value held at the data byte
unfoldable pub modified : Core → ℕ → ℕ → ℕ → Core
modified k a mask v = stored k a (merged (cond (takes_mask (a % 128)) mask 0xFF) (holds k a) v)
