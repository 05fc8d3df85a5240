-- Sending: the choice at bus idle and the three ends of an own frame.
use Rattle.std.specs.Prelude.{ℕ, ◌+◌, ◌*◌, ◌/◌, ◌%◌, max, Bool, cond, not, ◌&&◌, ◌≡◌, List, [], ◌∷◌, eqb, leb, get_or, Option, Some, None}
use Rattle.bits.specs.Bit.{has_bit, set_bit, clear_bit}
use Rattle.records.specs.declared.Frame.{Frame}
use Rattle.registers.specs.declared.TxBuffer.{TxBuffer}
use Rattle.registers.specs.declared.TxBuffer.TheVariants.{Txb0, Txb1, Txb2}
use Rattle.registers.specs.declared.TxControl.{TxControl}
use Rattle.registers.specs.declared.Counters.{Counters}
use Rattle.registers.specs.declared.Control.{Control}
use Rattle.registers.specs.State.{osm_bit, exide_bit, rtr_bit, txreq_bit, txerr_bit, mloa_bit, abtf_bit, merrf_bit, is_normal, tx_number, tx_flag, tx_control, with_tx_control, with_tx, with_canintf, with_flight}
use Rattle.registers.specs.Errors.{is_bus_off, moved_to, tec_less, tec_more}
use Rattle.registers.specs.Modes.{sends_in, waits}
use Rattle.registers.specs.State.{aborts_all}
use Rattle.controller.specs.declared.End.{End}
use Rattle.controller.specs.declared.End.TheVariants.{Sent, LostArbitration, Failed}

-- ---- the choice
-- the answer of kind 4 by number
abbrev pub choice_number : Option TxBuffer → ℕ
choice_number (Some b) = tx_number b
choice_number None = 3

-- a buffer with TXREQ ranks by TXP, bits 1-0; one without does not rank
abbrev pub rank_of : ℕ → ℕ
rank_of ctrl = cond (has_bit ctrl txreq_bit) (1 + ctrl % 4) 0

-- the largest TXP wins; among equals, the buffer numbered highest
abbrev pub best_by : ℕ → ℕ → ℕ → TxBuffer
best_by x y z = cond (leb (max x y) z) Txb2 (cond (leb x y) Txb1 Txb0)

unfoldable pub best_of : TxControl → TxBuffer
best_of t = best_by (rank_of t.txb0) (rank_of t.txb1) (rank_of t.txb2)

-- Normal and Loopback send, unless the chip is bus-off
abbrev pub may_send : Control → Bool
may_send c = sends_in c.state.mode && not (is_bus_off c.counters)

unfoldable pub choice_of : Control → Option TxBuffer
choice_of c = cond (may_send c && waits c.tx) (Some (best_of c.tx)) None

abbrev pub started : Option TxBuffer → Control → Control
started (Some b) c = with_flight c (Some b)
started None c = c

-- ---- the ends
-- by byte 1 of kind 5: sent is 0, lost arbitration 1, an error 2
abbrev pub end_of : ℕ → End
end_of n = cond (eqb n 0) Sent (cond (eqb n 1) LostArbitration Failed)

abbrev pub IsEnd : ℕ → End → Type 0
IsEnd n e = e ≡ end_of n

-- in Normal only the counters move
abbrev pub counted : Control → Counters → Control
counted c n = cond (is_normal c.state.mode) (moved_to c n) c

-- TXREQ is kept for a retry, but OSM clears it, and so does ABAT, with ABTF set. One that the firmware cleared during the flight stays
-- cleared: no retry follows unless it was set again
unfoldable pub after_failure : Control → ℕ → ℕ
after_failure c ctrl =
    cond (aborts_all c) (set_bit (clear_bit ctrl txreq_bit) abtf_bit)
    (cond (has_bit c.flags.canctrl osm_bit) (clear_bit ctrl txreq_bit) ctrl)

abbrev pub with_ctrl : Control → TxBuffer → ℕ → Control
with_ctrl c b v = with_flight (with_tx c (with_tx_control c.tx b v)) None

-- a sent frame drops its TXREQ and raises TXnIF
unfoldable pub sent_by : Control → TxBuffer → Control
sent_by c b = with_canintf (with_ctrl c b (clear_bit (tx_control c.tx b) txreq_bit)) (set_bit c.flags.canintf (tx_flag b))

-- lost arbitration sets MLOA
unfoldable pub lost_by : Control → TxBuffer → Control
lost_by c b = with_ctrl c b (after_failure c (set_bit (tx_control c.tx b) mloa_bit))

-- an error leaves TXERR in TXBnCTRL and MERRF in CANINTF
unfoldable pub failed_by : Control → TxBuffer → Control
failed_by c b = with_canintf (with_ctrl c b (after_failure c (set_bit (tx_control c.tx b) txerr_bit))) (set_bit c.flags.canintf merrf_bit)

-- a sent frame takes 1 from TEC, a failed one adds 8
abbrev pub ended_by : End → Control → TxBuffer → Control
ended_by Sent c b = counted (sent_by c b) (tec_less c.counters)
ended_by LostArbitration c b = lost_by c b
ended_by Failed c b = counted (failed_by c b) (tec_more c.counters)

-- ---- the frame that a buffer sends
-- DLC bits 3-0 are the length code, which goes out as it stands, 9 to 15 too
abbrev pub code_sent : ℕ → ℕ
code_sent dlc = dlc % 16

abbrev pub identifier_sent : Bool → ℕ → ℕ → ℕ → ℕ → ℕ
identifier_sent extended sidh sidl eid8 eid0 =
    cond extended (sidh * 0x200000 + sidl / 32 * 0x40000 + sidl % 4 * 0x10000 + eid8 * 0x100 + eid0) (sidh * 8 + sidl / 32)

-- EXIDE of SIDL says extended, RTR of DLC remote; the bytes of TXBn lie from 16 n on. Of the data those
-- count that the frame carries: Receiving.carried_by, by Records.data_bytes
unfoldable pub frame_at : List ℕ → ℕ → Frame
frame_at tx at =
    record {
      extended = has_bit (get_or tx (at + 2) 0) exide_bit;
      remote = has_bit (get_or tx (at + 5) 0) rtr_bit;
      code = code_sent (get_or tx (at + 5) 0);
      identifier = identifier_sent (has_bit (get_or tx (at + 2) 0) exide_bit) (get_or tx (at + 1) 0) (get_or tx (at + 2) 0) (get_or tx (at + 3) 0) (get_or tx (at + 4) 0);
      bytes =
          get_or tx (at + 6) 0 ∷ get_or tx (at + 7) 0 ∷ get_or tx (at + 8) 0 ∷ get_or tx (at + 9) 0
          ∷ get_or tx (at + 10) 0 ∷ get_or tx (at + 11) 0 ∷ get_or tx (at + 12) 0 ∷ get_or tx (at + 13) 0 ∷ [];
    }

abbrev pub frame_sent : List ℕ → TxBuffer → Frame
frame_sent tx b = frame_at tx (16 * tx_number b)
