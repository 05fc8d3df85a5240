-- What an event leaves of CANCTRL, of the writable bits of RXBnCTRL, of mode and mode request. Assumes nothing.
use mathlib.Core.Path.{◌≡◌, refl, sym, ◌∙◌}
use mathlib.Core.Bool.{Bool, true, false, cond, ◌&&◌, not}
use mathlib.Core.List.{List}
use Rattle.std.specs.Prelude.{Option, Some, None}
use Prim.Native.Nat.{ℕ}
use lib.Dec.{lit<}
use lib.Bits.{bit_and}
use Rattle.bits.specs.Bit.{has_bit}
use Rattle.bits.proofs.All.{every}
use Rattle.records.specs.declared.Kind.{Kind}
use Rattle.records.specs.declared.Kind.TheVariants.{SelectLow, Exchange, SelectHigh, FrameHeard, BusIdle, FrameEnds, ReceiveError, Recovery, PinLevel}
use Rattle.records.specs.declared.Frame.{Frame}
use Rattle.records.specs.Records.{byte_at, frame_of}
use Rattle.registers.specs.declared.Mode.{Mode}
use Rattle.registers.specs.declared.Mode.TheVariants.{Normal, Sleep, Loopback, ListenOnly, Configuration}
use Rattle.registers.specs.declared.RxBuffer.{RxBuffer}
use Rattle.registers.specs.declared.RxBuffer.TheVariants.{Rxb0, Rxb1}
use Rattle.registers.specs.declared.TxBuffer.{TxBuffer}
use Rattle.registers.specs.declared.Counters.{Counters}
use Rattle.registers.specs.declared.Control.{Control}
use Rattle.registers.specs.declared.Core.{Core}
use Rattle.registers.specs.State.{wakif_bit, is_normal, is_loopback, rts_bit, with_control}
use Rattle.registers.specs.Errors.{is_bus_off, moved_to, rec_less, tec_less, tec_more}
use Rattle.registers.specs.Registers.{rx_control, receive_bits}
use Rattle.registers.specs.Modes.{waits, entered}
use Rattle.stores.specs.Store.{requested_to_send}
use Rattle.receiving.specs.declared.Verdict.{Verdict}
use Rattle.receiving.specs.declared.Verdict.TheVariants.{Unmatched, Stored, RolledOver, Lost}
use Rattle.receiving.specs.declared.Reception.TheVariants.{Woke}
use Rattle.receiving.specs.Receiving.{Received, verdict_of, match_of, control_after, received_of, hit_bits}
use Rattle.controller.specs.declared.End.{End}
use Rattle.controller.specs.declared.End.TheVariants.{Sent, LostArbitration, Failed}
use Rattle.controller.specs.Sending.{may_send, best_of, choice_of, started, end_of, counted, sent_by, lost_by, failed_by, ended_by, frame_sent}
use Rattle.controller.specs.Events.{ignored, good_frame, woken_control, heard_in, heard_of, ends_in, ends_by, ended, idled, error_adds, erred, error_heard, pin_of, is_high_level, falls_enabled, pinned, happens_by}
use Rattle.mcp2515.proofs.CoreKept.{either}
use Rattle.load_rules.proofs.Under.{apart, merged_old}

-- from the control registers c to d
pub record Quiet (c d : Control) : Type 0 where
  pub canctrl : d.flags.canctrl ≡ c.flags.canctrl
  pub request : d.state.request ≡ c.state.request
  -- RXM, and BUKT in RXB0CTRL
  pub receive : (b : RxBuffer) → bit_and (rx_control d.rx b) (receive_bits b) ≡ bit_and (rx_control c.rx b) (receive_bits b)
  -- the mode, but for a wake-up from Sleep
  pub mode : (c.state.mode ≡ Sleep → ⊥) → d.state.mode ≡ c.state.mode

same : (c : Control) → Quiet c c
same c = record { canctrl = refl; request = refl; receive = λ b. refl; mode = λ n. refl }

-- a hit is stored below the writable bits
after_receive : (v : Verdict) (c : Control) (remote : Bool) (b : RxBuffer)
    → bit_and (rx_control (control_after v c remote).rx b) (receive_bits b) ≡ bit_and (rx_control c.rx b) (receive_bits b)
after_receive Unmatched c remote b = refl
after_receive (Stored Rxb0 h) c remote Rxb0 = merged_old 0x09 0x64 c.rx.rxb0 (hit_bits h remote) (lit< tt) (lit< tt) (every (apart 0x09 0x64) 8 tt)
after_receive (Stored Rxb0 h) c remote Rxb1 = refl
after_receive (Stored Rxb1 h) c remote Rxb0 = refl
after_receive (Stored Rxb1 h) c remote Rxb1 = merged_old 0x0F 0x60 c.rx.rxb1 (hit_bits h remote) (lit< tt) (lit< tt) (every (apart 0x0F 0x60) 8 tt)
after_receive (RolledOver h) c remote Rxb0 = merged_old 0x01 0x64 c.rx.rxb0 h (lit< tt) (lit< tt) (every (apart 0x01 0x64) 8 tt)
after_receive (RolledOver h) c remote Rxb1 = merged_old 0x0F 0x60 c.rx.rxb1 (hit_bits h remote) (lit< tt) (lit< tt) (every (apart 0x0F 0x60) 8 tt)
after_receive (Lost o) c remote b = refl

after_quiet : (v : Verdict) (c : Control) (remote : Bool) → Quiet c (control_after v c remote)
after_quiet Unmatched c remote = same c
after_quiet (Stored b h) c remote = record { canctrl = refl; request = refl; receive = after_receive (Stored b h) c remote; mode = λ n. refl }
after_quiet (RolledOver h) c remote = record { canctrl = refl; request = refl; receive = after_receive (RolledOver h) c remote; mode = λ n. refl }
after_quiet (Lost b) c remote = record { canctrl = refl; request = refl; receive = λ b. refl; mode = λ n. refl }

received_quiet : (k : Core) (f : Frame) → Quiet k.control (received_of k f).core.control
unfolding received_of match_of
received_quiet k f = after_quiet (verdict_of k.control k.config f) k.control f.remote

-- counters and their flags move nothing of these
moved_quiet : {c : Control} (d : Control) (n : Counters) → Quiet c d → Quiet c (moved_to d n)
unfolding moved_to
moved_quiet d n q = record { canctrl = q.canctrl; request = q.request; receive = q.receive; mode = q.mode }

counted_quiet : {c : Control} (d : Control) (n : Counters) → Quiet c d → Quiet c (counted d n)
counted_quiet {c} d n q = either (λ (e : Control). Quiet c e) (is_normal d.state.mode) (moved_quiet d n q) q

heard_quiet : (m : Mode) (k : Core) (f : Frame) → k.control.state.mode ≡ m → Quiet k.control (heard_in m k f).core.control
unfolding entered
heard_quiet Normal k f e =
    either (λ (h : Received). Quiet k.control h.core.control) (is_bus_off k.control.counters) {x = ignored k} {y = good_frame k f} (same k.control)
    (moved_quiet (received_of k f).core.control (rec_less k.control.counters) (received_quiet k f))
heard_quiet Sleep k f e =
    either (λ (h : Received). Quiet k.control h.core.control) (has_bit k.control.flags.caninte wakif_bit)
    {x = record { core = with_control k (woken_control k.control); answer = Woke; matched = 0 }} {y = ignored k}
    (record { canctrl = refl; request = refl; receive = λ b. refl; mode = λ n. absurd (n e) })
    (same k.control)
heard_quiet Loopback k f e = same k.control
heard_quiet ListenOnly k f e =
    either (λ (h : Received). Quiet k.control h.core.control) (is_bus_off k.control.counters) {x = ignored k} {y = received_of k f} (same k.control) (received_quiet k f)
heard_quiet Configuration k f e = same k.control

sent_quiet : (c : Control) (b : TxBuffer) → Quiet c (sent_by c b)
unfolding sent_by
sent_quiet c b = record { canctrl = refl; request = refl; receive = λ b. refl; mode = λ n. refl }

ended_quiet : (e : End) (c : Control) (b : TxBuffer) → Quiet c (ended_by e c b)
unfolding lost_by failed_by
ended_quiet Sent c b = counted_quiet (sent_by c b) (tec_less c.counters) (sent_quiet c b)
ended_quiet LostArbitration c b = record { canctrl = refl; request = refl; receive = λ b. refl; mode = λ n. refl }
ended_quiet Failed c b =
    counted_quiet (failed_by c b) (tec_more c.counters) (record { canctrl = refl; request = refl; receive = λ b. refl; mode = λ n. refl })

then : (c d : Control) {e : Control} → d.state.mode ≡ c.state.mode → Quiet c d → Quiet d e → Quiet c e
then c d m p q = record {
  canctrl = q.canctrl ∙ p.canctrl;
  request = q.request ∙ p.request;
  receive = λ b. q.receive b ∙ p.receive b;
  mode = λ n. q.mode (λ z. n (sym m ∙ z)) ∙ p.mode n;
}

ends_quiet : (x : Bool) (k : Core) (b : TxBuffer) (e : End) → Quiet k.control (ends_in x k b e).core.control
unfolding sent_by
ends_quiet true k b Sent =
    then k.control (sent_by k.control b) refl (sent_quiet k.control b) (received_quiet (with_control k (sent_by k.control b)) (frame_sent k.tx b))
ends_quiet true k b LostArbitration = ended_quiet LostArbitration k.control b
ends_quiet true k b Failed = ended_quiet Failed k.control b
ends_quiet false k b e = ended_quiet e k.control b

flight_quiet : (l : Option TxBuffer) (k : Core) (e : End) → Quiet k.control (ends_by l k e).core.control
flight_quiet None k e = same k.control
flight_quiet (Some b) k e = ends_quiet (is_loopback k.control.state.mode) k b e

started_quiet : (c : Control) → Quiet c (started (choice_of c) c)
unfolding choice_of
started_quiet c = go (may_send c && waits c.tx)
  where
    go : (b : Bool) → Quiet c (started (cond b (Some (best_of c.tx)) None) c)
    go true = record { canctrl = refl; request = refl; receive = λ b. refl; mode = λ n. refl }
    go false = same c

pub happens_quiet : (q : Option Kind) (k : Core) (r : List ℕ) → Quiet k.control (happens_by q k r).core.control
unfolding heard_of idled ended error_heard moved_to pinned requested_to_send
happens_quiet (Some SelectLow) k r = same k.control
happens_quiet (Some Exchange) k r = same k.control
happens_quiet (Some SelectHigh) k r = same k.control
happens_quiet (Some FrameHeard) k r = heard_quiet k.control.state.mode k (frame_of r) refl
happens_quiet (Some BusIdle) k r = started_quiet k.control
happens_quiet (Some FrameEnds) k r = flight_quiet k.control.state.flight k (end_of (byte_at r 1))
happens_quiet (Some ReceiveError) k r =
    either (λ (d : Control). Quiet k.control d) (is_normal k.control.state.mode && not (is_bus_off k.control.counters))
    {x = erred k.control (error_adds (byte_at r 1))} {y = k.control}
    (record { canctrl = refl; request = refl; receive = λ b. refl; mode = λ n. refl }) (same k.control)
happens_quiet (Some Recovery) k r = record { canctrl = refl; request = refl; receive = λ b. refl; mode = λ n. refl }
happens_quiet (Some PinLevel) k r =
    let b : TxBuffer = pin_of (byte_at r 1) in
    either (λ (j : Core). Quiet k.control j.control) (falls_enabled k b (is_high_level (byte_at r 2)))
    {x = with_control k (requested_to_send k.control (rts_bit b))} {y = k}
    (record { canctrl = refl; request = refl; receive = λ b. refl; mode = λ n. refl }) (same k.control)
happens_quiet None k r = same k.control
