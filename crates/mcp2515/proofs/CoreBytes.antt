-- No bus event looks at the bytes of a free transmit buffer, and a store into one changes its bytes alone. Assumes nothing.
use Rattle.std.proofs.Common.{Option, Some, None}
use mathlib.Core.Bool.{Bool, true, false, cond}
use mathlib.Core.Path.{◌≡◌, refl, ap}
use mathlib.Core.List.{List}
use Prim.Native.Nat.{ℕ, ◌+◌, ◌*◌, ◌%◌, ◌<◌}
use native.Mathlib.Omega.{arith}
use lib.Dec.{eqb, lit<}
use lib.ListN.{get_or, set}
use lib.Seq.{get_or-set_other}
use borrow.Author.Tests.{eqb-false, not-true}
use Rattle.bits.specs.Bit.{has_bit, merged}
use Rattle.records.specs.declared.Kind.{Kind}
use Rattle.records.specs.declared.Kind.TheVariants.{SelectLow, Exchange, SelectHigh, FrameHeard, BusIdle, FrameEnds, ReceiveError, Recovery, PinLevel}
use Rattle.records.specs.declared.Frame.{Frame}
use Rattle.records.specs.Records.{accepted, byte_at, kind_of, frame_of}
use Rattle.registers.specs.declared.Mode.{Mode}
use Rattle.registers.specs.declared.Mode.TheVariants.{Normal, Sleep, Loopback, ListenOnly, Configuration}
use Rattle.registers.specs.declared.TxBuffer.{TxBuffer}
use Rattle.registers.specs.declared.Core.{Core}
use Rattle.registers.specs.State.{wakif_bit, txreq_bit, is_loopback, tx_number, same_tx, in_flight, tx_control, with_control, with_tx_bytes, with_level, rts_bit, with_pins}
use Rattle.registers.specs.Errors.{is_bus_off}
use Rattle.registers.specs.Registers.{writable_of}
use Rattle.stores.specs.Store.{stored, requested_to_send}
use Rattle.registers.specs.State.{updated}
use Rattle.receiving.specs.declared.Reception.TheVariants.{Woke}
use Rattle.receiving.specs.Receiving.{Received, received_of}
use Rattle.controller.specs.declared.End.{End}
use Rattle.controller.specs.declared.End.TheVariants.{Sent, LostArbitration, Failed}
use Rattle.controller.specs.Sending.{end_of, sent_by, frame_at, frame_sent}
use Rattle.controller.specs.Events.{Happened, Told, ignored, good_frame, woken_control, answered, plain, heard_in, heard_of, ends_in, ends_by, ended, idled, pin_of, is_high_level, falls_enabled, pinned, happens_by, event_refusal, told_of, refused_by, event_of}
use Rattle.image.proofs.Laws.{tx_below}
use Rattle.spi.specs.declared.Act.TheVariants.{Store}
use Rattle.spi.specs.Instructions.{acted}
use Rattle.mcp2515.specs.Moments.{is_free}
use Rattle.mcp2515.proofs.CoreFacts.{Good, TxByte}
use Rattle.mcp2515.proofs.CoreKept.{no_or}
use Rattle.mcp2515.proofs.CoreRegions.{base_number, tx_region}

cond_ap : {A B : Type 0} (f : A → B) (b : Bool) (x y : A) → cond b (f x) (f y) ≡ f (cond b x y)
cond_ap f true x y = refl
cond_ap f false x y = refl

-- ---- other bytes to send, the rest as it was
abbrev received_with : List ℕ → Received → Received
received_with t h = record { core = with_tx_bytes h.core t; answer = h.answer; matched = h.matched }

abbrev happened_with : List ℕ → Happened → Happened
happened_with t h = record { answer = h.answer; matched = h.matched; core = with_tx_bytes h.core t }

abbrev pub told_with : List ℕ → Told → Told
told_with t h = record { refusal = h.refusal; answer = h.answer; matched = h.matched; core = with_tx_bytes h.core t }

module _ (t : List ℕ) (k : Core) where
  heard_with : (m : Mode) (f : Frame) → heard_in m (with_tx_bytes k t) f ≡ received_with t (heard_in m k f)
  unfolding received_of
  heard_with Normal f = cond_ap (received_with t) (is_bus_off k.control.counters) (ignored k) (good_frame k f)
  heard_with Sleep f =
      cond_ap (received_with t) (has_bit k.control.flags.caninte wakif_bit) (record { core = with_control k (woken_control k.control); answer = Woke; matched = 0 }) (ignored k)
  heard_with Loopback f = refl
  heard_with ListenOnly f = cond_ap (received_with t) (is_bus_off k.control.counters) (ignored k) (received_of k f)
  heard_with Configuration f = refl

  ends_with : (x : Bool) (b : TxBuffer) (e : End) → frame_sent t b ≡ frame_sent k.tx b
      → ends_in x (with_tx_bytes k t) b e ≡ happened_with t (ends_in x k b e)
  unfolding received_of
  ends_with true b Sent same = ap (λ (f : Frame). happened_with t (answered (received_of (with_control k (sent_by k.control b)) f))) same
  ends_with true b LostArbitration same = refl
  ends_with true b Failed same = refl
  ends_with false b e same = refl

  flight_with : (l : Option TxBuffer) (e : End) → ((b : TxBuffer) → l ≡ Some b → frame_sent t b ≡ frame_sent k.tx b)
      → ends_by l (with_tx_bytes k t) e ≡ happened_with t (ends_by l k e)
  flight_with None e same = refl
  flight_with (Some b) e same = ends_with (is_loopback k.control.state.mode) b e (same b refl)

  module _ (same : (b : TxBuffer) → k.control.state.flight ≡ Some b → frame_sent t b ≡ frame_sent k.tx b) where
    happens_with : (q : Option Kind) (r : List ℕ) → happens_by q (with_tx_bytes k t) r ≡ happened_with t (happens_by q k r)
    unfolding heard_of idled ended pinned
    happens_with (Some SelectLow) r = refl
    happens_with (Some Exchange) r = refl
    happens_with (Some SelectHigh) r = refl
    happens_with (Some FrameHeard) r = ap answered (heard_with k.control.state.mode (frame_of r))
    happens_with (Some BusIdle) r = refl
    happens_with (Some FrameEnds) r = flight_with k.control.state.flight (end_of (byte_at r 1)) same
    happens_with (Some ReceiveError) r = refl
    happens_with (Some Recovery) r = refl
    happens_with (Some PinLevel) r =
        let b : TxBuffer = pin_of (byte_at r 1) in
        let high : Bool = is_high_level (byte_at r 2) in
        ap (λ (j : Core). plain 0 (with_pins j (with_level k.pins b high)))
        (cond_ap (λ (j : Core). with_tx_bytes j t) (falls_enabled k b high) (with_control k (requested_to_send k.control (rts_bit b))) k)
    happens_with None r = refl

    -- an event does not see bytes that are not in flight
    pub event_with : (r : List ℕ) → event_of (with_tx_bytes k t) r ≡ told_with t (event_of k r)
    unfolding event_of
    event_with r =
        rw (happens_with (kind_of r) r)
        (cond_ap (told_with t) (eqb (event_refusal k.control r) accepted) (told_of (happens_by (kind_of r) k r)) (refused_by (event_refusal k.control r) k))

-- ---- a store into a free buffer
-- the frame at a place is made of the 13 bytes behind it
frame_other : (tx : List ℕ) (at i v : ℕ) → ((n : ℕ) → n < 14 → at + n ≡ i → ⊥) → frame_at (set tx i v) at ≡ frame_at tx at
unfolding frame_at
frame_other tx at i v apart =
    rw (
      other 1 (lit< tt),
      other 2 (lit< tt),
      other 3 (lit< tt),
      other 4 (lit< tt),
      other 5 (lit< tt),
      other 6 (lit< tt),
      other 7 (lit< tt),
      other 8 (lit< tt),
      other 9 (lit< tt),
      other 10 (lit< tt),
      other 11 (lit< tt),
      other 12 (lit< tt),
      other 13 (lit< tt),
    )
  where
    other : (n : ℕ) → n < 14 → get_or (set tx i v) (at + n) 0 ≡ get_or tx (at + n) 0
    other n h = get_or-set_other tx i (at + n) v 0 (apart n h)

-- the bytes to send after a store that is taken
abbrev pub bytes_put : List ℕ → ℕ → ℕ → List ℕ
bytes_put tx a v = updated tx (a % 128 % 48) (λ old. merged (writable_of (a % 128)) old v)

put_other : (tx : List ℕ) (a v : ℕ) (b c : TxBuffer) → TxByte b a → same_tx c b ≡ false → frame_sent (bytes_put tx a v) c ≡ frame_sent tx c
put_other tx a v b c t e =
    frame_other tx (16 * tx_number c) (a % 128 % 48) _
    (λ n h z. eqb-false (tx_number c) (tx_number b) e
    (omega (arith, base_number b, tx_below b, tx_below c, t.from, t.to)))

stored_put : (k : Core) (b : TxBuffer) (a v : ℕ) → is_free k b ≡ true → TxByte b a → stored k a v ≡ with_tx_bytes k (bytes_put k.tx a v)
unfolding stored
stored_put k b a v free t = rw (tx_region b a t, free)

pub acted_put : (k : Core) (b : TxBuffer) (a v : ℕ) → Good k → is_free k b ≡ true → TxByte b a
    → acted (Store a v) k ≡ with_tx_bytes k (bytes_put k.tx a v)
acted_put k b a v g free t = rw (stored_put k b a v free t) (ap (λ (j : Core). with_tx_bytes j (bytes_put k.tx a v)) g)

pub event_put : (k : Core) (r : List ℕ) (b : TxBuffer) (a v : ℕ) → is_free k b ≡ true → TxByte b a
    → event_of (with_tx_bytes k (bytes_put k.tx a v)) r ≡ told_with (bytes_put k.tx a v) (event_of k r)
event_put k r b a v free t =
    let idle : in_flight k.control.state.flight b ≡ false = (no_or (has_bit (tx_control k.control.tx b) txreq_bit) _ (not-true _ free)).1 in
    event_with (bytes_put k.tx a v) k (λ c e. put_other k.tx a v b c t (rw e at idle)) r
