-- Events of the bus and of the request pins, kinds 3 to 8: when one is refused, its answer, and the core after it.
use Rattle.std.specs.Prelude.{ℕ, Bool, true, false, cond, not, ◌&&◌, List, eqb, Option, Some, None}
use Rattle.bits.specs.Bit.{has_bit, set_bit}
use Rattle.records.specs.declared.Kind.{Kind}
use Rattle.records.specs.declared.Kind.TheVariants.{SelectLow, Exchange, SelectHigh, FrameHeard, BusIdle, FrameEnds, ReceiveError, Recovery, PinLevel}
use Rattle.records.specs.declared.Frame.{Frame}
use Rattle.records.specs.declared.Outcome.{Outcome}
use Rattle.records.specs.Records.{refused_outcome, accepted, refused_field, refused_in_flight, refused_no_flight, refused_state, byte_at, kind_of, frame_of, sound_of}
use Rattle.registers.specs.declared.Mode.{Mode}
use Rattle.registers.specs.declared.Mode.TheVariants.{Normal, Sleep, Loopback, ListenOnly, Configuration}
use Rattle.registers.specs.declared.TxBuffer.{TxBuffer}
use Rattle.registers.specs.declared.TxBuffer.TheVariants.{Txb0, Txb1, Txb2}
use Rattle.registers.specs.declared.Control.{Control}
use Rattle.registers.specs.declared.Core.{Core}
use Rattle.registers.specs.State.{wakif_bit, merrf_bit, is_normal, is_loopback, is_idle, level_of, with_level, rts_bit, with_counters, with_canintf, with_control, with_pins}
use Rattle.registers.specs.Errors.{is_bus_off, moved_to, rec_less, rec_more, no_errors}
use Rattle.registers.specs.Registers.{is_enabled}
use Rattle.registers.specs.Modes.{entered, settled}
use Rattle.stores.specs.Store.{requested_to_send}
use Rattle.receiving.specs.declared.Reception.TheVariants.{NotListening, Woke}
use Rattle.receiving.specs.Receiving.{reception_number, Received, received_of}
use Rattle.receiving.specs.AnswerSets.{wanted_set, AnswerSet}
use Rattle.controller.specs.declared.End.{End}
use Rattle.controller.specs.declared.End.TheVariants.{Sent, LostArbitration, Failed}
use Rattle.controller.specs.Sending.{choice_number, choice_of, started, end_of, sent_by, ended_by, frame_sent}

-- an accepted event, before a mode request is carried out
pub record Happened : Type 0 where
  pub answer : ℕ
  pub matched : ℕ
  pub core : Core

-- an event, accepted or refused
pub record Told : Type 0 where
  pub refusal : ℕ
  pub answer : ℕ
  pub matched : ℕ
  pub core : Core

-- ---- kind 3: a frame
-- a frame that is not listened to has an empty set
abbrev pub ignored : Core → Received
ignored k = record { core = k; answer = NotListening; matched = 0 }

-- under WAKIE the frame ends Sleep: the chip is in Listen-Only, WAKIF is set, nothing is stored and no filter asked
abbrev pub woken_control : Control → Control
woken_control c = with_canintf (entered c ListenOnly) (set_bit c.flags.canintf wakif_bit)

abbrev pub sleeping : Core → Received
sleeping k =
    cond (has_bit k.control.flags.caninte wakif_bit)
    (record { core = with_control k (woken_control k.control); answer = Woke; matched = 0 })
    (ignored k)

-- in Normal REC moves on each good frame, whether a filter takes it or none does
abbrev pub good_frame : Core → Frame → Received
good_frame k f =
    record {
      core = with_control (received_of k f).core (moved_to (received_of k f).core.control (rec_less k.control.counters));
      answer = (received_of k f).answer;
      matched = (received_of k f).matched;
    }

-- Normal and Listen-Only hear, unless bus-off; in Sleep a frame can only wake; Loopback and Configuration are deaf
abbrev pub heard_in : Mode → Core → Frame → Received
heard_in Normal k f = cond (is_bus_off k.control.counters) (ignored k) (good_frame k f)
heard_in Sleep k f = sleeping k
heard_in Loopback k f = ignored k
heard_in ListenOnly k f = cond (is_bus_off k.control.counters) (ignored k) (received_of k f)
heard_in Configuration k f = ignored k

unfoldable pub heard_of : Core → Frame → Received
heard_of k f = heard_in k.control.state.mode k f

abbrev pub answered : Received → Happened
answered h = record { answer = reception_number h.answer; matched = h.matched; core = h.core }

-- what an event tells that asks no filter
abbrev pub plain : ℕ → Core → Happened
plain n k = record { answer = n; matched = 0; core = k }

-- ---- kind 5: an own frame ends. Sent in Loopback, it comes back in by the receive rules, with its set, and no counter moves
abbrev pub delivered : Core → TxBuffer → Happened
delivered k b = answered (received_of (with_control k (sent_by k.control b)) (frame_sent k.tx b))

abbrev pub finished : Core → TxBuffer → End → Happened
finished k b e = plain 0 (with_control k (ended_by e k.control b))

abbrev pub ends_in : Bool → Core → TxBuffer → End → Happened
ends_in true k b Sent = delivered k b
ends_in true k b LostArbitration = finished k b LostArbitration
ends_in true k b Failed = finished k b Failed
ends_in false k b e = finished k b e

abbrev pub ends_by : Option TxBuffer → Core → End → Happened
ends_by None k e = plain 0 k
ends_by (Some b) k e = ends_in (is_loopback k.control.state.mode) k b e

unfoldable pub ended : Core → ℕ → Happened
ended k n = ends_by k.control.state.flight k (end_of n)

-- ---- kind 4, 6, 7
unfoldable pub idled : Core → Happened
idled k = plain (choice_number (choice_of k.control)) (with_control k (started (choice_of k.control) k.control))

-- REC grows by 1 where byte 1 is 0, by 8 where it is 1; MERRF; outside Normal and in bus-off nothing
abbrev pub error_adds : ℕ → ℕ
error_adds n = cond (eqb n 0) 1 8

abbrev pub erred : Control → ℕ → Control
erred c by = moved_to (with_canintf c (set_bit c.flags.canintf merrf_bit)) (rec_more c.counters by)

unfoldable pub error_heard : Control → ℕ → Control
error_heard c n = cond (is_normal c.state.mode && not (is_bus_off c.counters)) (erred c (error_adds n)) c

-- recovery zeroes both counters
abbrev pub recovered : Control → Control
recovered c = with_counters c no_errors

abbrev pub quiet : Core → Control → Happened
quiet k c = plain 0 (with_control k c)

-- ---- kind 8: a request pin, TXnRTS of TXBn by n in byte 1, and its level in byte 2
abbrev pub pin_of : ℕ → TxBuffer
pin_of n = cond (eqb n 0) Txb0 (cond (eqb n 1) Txb1 Txb2)

abbrev pub is_high_level : ℕ → Bool
is_high_level level = not (eqb level 0)

-- a fall, from high to low, of a pin that TXRTSCTRL enables
abbrev pub falls_enabled : Core → TxBuffer → Bool → Bool
falls_enabled k b high = is_enabled k b && (level_of k.pins b && not high)

-- .. requests the buffer as RTS of it alone does
abbrev pub pin_requested : Core → TxBuffer → Bool → Core
pin_requested k b high = cond (falls_enabled k b high) (with_control k (requested_to_send k.control (rts_bit b))) k

-- in any case the level moves
abbrev pub pin_moved : Core → TxBuffer → Bool → Core
pin_moved k b high = with_pins (pin_requested k b high) (with_level k.pins b high)

unfoldable pub pinned : Core → List ℕ → Core
pinned k r = pin_moved k (pin_of (byte_at r 1)) (is_high_level (byte_at r 2))

-- ---- an accepted event
abbrev pub happens_by : Option Kind → Core → List ℕ → Happened
happens_by (Some SelectLow) k r = plain 0 k
happens_by (Some Exchange) k r = plain 0 k
happens_by (Some SelectHigh) k r = plain 0 k
happens_by (Some FrameHeard) k r = answered (heard_of k (frame_of r))
happens_by (Some BusIdle) k r = idled k
happens_by (Some FrameEnds) k r = ended k (byte_at r 1)
happens_by (Some ReceiveError) k r = quiet k (error_heard k.control (byte_at r 1))
happens_by (Some Recovery) k r = quiet k (recovered k.control)
happens_by (Some PinLevel) k r = plain 0 (pinned k r)
happens_by None k r = plain 0 k

-- ---- refusals 3, 4 and 5, where refusal 2 does not name the record; any record but an event is refused as a field
abbrev pub busy_refusal : Control → ℕ
busy_refusal c = cond (is_idle c.state.flight) accepted refused_in_flight

-- an end with no flight to end; in Loopback, an end other than sent
abbrev pub end_refusal : Control → ℕ → ℕ
end_refusal c n =
    cond (is_idle c.state.flight) refused_no_flight
    (cond (is_loopback c.state.mode && not (eqb n 0)) refused_state accepted)

-- a recovery with no bus-off to recover from
abbrev pub recovery_refusal : Control → ℕ
recovery_refusal c = cond (is_bus_off c.counters) accepted refused_state

abbrev pub refusal_by : Option Kind → Control → List ℕ → ℕ
refusal_by (Some SelectLow) c r = refused_field
refusal_by (Some Exchange) c r = refused_field
refusal_by (Some SelectHigh) c r = refused_field
refusal_by (Some FrameHeard) c r = busy_refusal c
refusal_by (Some BusIdle) c r = busy_refusal c
refusal_by (Some FrameEnds) c r = end_refusal c (byte_at r 1)
refusal_by (Some ReceiveError) c r = busy_refusal c
refusal_by (Some Recovery) c r = recovery_refusal c
refusal_by (Some PinLevel) c r = accepted
refusal_by None c r = refused_field

unfoldable pub event_refusal : Control → List ℕ → ℕ
event_refusal c r = cond (sound_of r) (refusal_by (kind_of r) c r) refused_field

-- ---- the event: refused, it answers 0 with an empty set and changes nothing; accepted, its last act is the mode request
abbrev pub settled_core : Core → Core
settled_core k = with_control k (settled k.control)

abbrev pub told_of : Happened → Told
told_of h = record { refusal = accepted; answer = h.answer; matched = h.matched; core = settled_core h.core }

abbrev pub refused_by : ℕ → Core → Told
refused_by n k = record { refusal = n; answer = 0; matched = 0; core = k }

unfoldable pub event_of : Core → List ℕ → Told
event_of k r =
    cond (eqb (event_refusal k.control r) accepted) (told_of (happens_by (kind_of r) k r)) (refused_by (event_refusal k.control r) k)

-- ---- what the code tells of an event, with the set where it is asked for
abbrev pub answer_set_of : Bool → Happened → AnswerSet
answer_set_of wanted h = record { answer = h.answer; matched = wanted_set wanted h.matched }

abbrev pub outcome_told : Bool → Told → Outcome
outcome_told wanted t = record { refusal = t.refusal; answer = t.answer; matched = wanted_set wanted t.matched }

-- bytes that are no image are told off as a field out of range
abbrev pub not_an_image : Outcome
not_an_image = refused_outcome refused_field
