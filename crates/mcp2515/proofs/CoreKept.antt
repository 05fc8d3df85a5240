-- What a bus event leaves: a full receive buffer stays full with its bytes, a free transmit buffer stays free, filters, masks and
-- bytes to send stay. Assumes nothing.
use Rattle.std.proofs.Common.{Option, Some, None}
use mathlib.Core.Bool.{Bool, true, false, cond, not, ◌&&◌, ◌||◌}
use mathlib.Core.Path.{◌≡◌, ◌∙◌, refl, sym, ap}
use mathlib.Core.List.{List}
use Prim.Native.Nat.{ℕ, zero, suc, ◌+◌, ◌%◌, ◌<◌, max}
use native.Mathlib.Omega.{arith}
use lib.Dec.{eqb, leb, lit<}
use lib.ListN.{get_or, set}
use lib.Seq.{get_or-set_other}
use borrow.Author.Tests.{leb-true, leb-false, eqb-true, eqb-false}
use Rattle.bits.specs.Bit.{has_bit, set_bit, clear_bit}
use Rattle.bits.proofs.Laws.{has_set_same, has_set_other, has_clear_same}
use Rattle.records.specs.declared.Kind.{Kind}
use Rattle.records.specs.declared.Kind.TheVariants.{SelectLow, Exchange, SelectHigh, FrameHeard, BusIdle, FrameEnds, ReceiveError, Recovery, PinLevel}
use Rattle.records.specs.declared.Frame.{Frame}
use Rattle.records.specs.Records.{accepted, byte_at, kind_of, frame_of}
use Rattle.registers.specs.declared.Mode.{Mode}
use Rattle.registers.specs.declared.Mode.TheVariants.{Normal, Sleep, Loopback, ListenOnly, Configuration}
use Rattle.registers.specs.declared.RxBuffer.{RxBuffer}
use Rattle.registers.specs.declared.RxBuffer.TheVariants.{Rxb0, Rxb1}
use Rattle.registers.specs.declared.TxBuffer.{TxBuffer}
use Rattle.registers.specs.declared.TxBuffer.TheVariants.{Txb0, Txb1, Txb2}
use Rattle.registers.specs.declared.TxControl.{TxControl}
use Rattle.registers.specs.declared.Counters.{Counters}
use Rattle.registers.specs.declared.Control.{Control}
use Rattle.registers.specs.declared.Core.{Core}
use Rattle.registers.specs.State.{rx1if_bit, errif_bit, wakif_bit, merrf_bit, osm_bit, txreq_bit, txerr_bit, mloa_bit, abtf_bit, bukt_bit, is_normal, is_loopback, rx_flag, tx_flag, same_tx, in_flight, tx_control, with_tx_control, with_canintf, with_control, level_of, with_level, rts_bit}
use Rattle.registers.specs.Errors.{is_bus_off, error_flags, rises, moved_to, tec_less, tec_more, rec_less, rec_more}
use Rattle.registers.specs.Modes.{waits, entered, free_to_change, settled_by, settled}
use Rattle.stores.specs.Store.{is_locked, requested_to_send}
use Rattle.registers.specs.State.{aborts_all}
use Rattle.receiving.specs.declared.Verdict.{Verdict}
use Rattle.receiving.specs.declared.Verdict.TheVariants.{Unmatched, Stored, RolledOver, Lost}
use Rattle.receiving.specs.Receiving.{Received, matches, hit_for, is_full, verdict_by, verdict_of, match_of, control_after, filled, headed, bytes_stored, bytes_after, received_of}
use Rattle.controller.specs.declared.End.{End}
use Rattle.controller.specs.declared.End.TheVariants.{Sent, LostArbitration, Failed}
use Rattle.controller.specs.Sending.{rank_of, best_of, choice_of, end_of, started, may_send, after_failure, counted, with_ctrl, sent_by, lost_by, failed_by, ended_by, frame_sent}
use Rattle.controller.specs.Events.{Told, woken_control, heard_in, heard_of, ends_in, ends_by, ended, idled, error_adds, error_heard, recovered, pin_of, is_high_level, falls_enabled, pin_requested, pin_moved, pinned, happens_by, event_refusal, event_of}
use Rattle.spi.proofs.Clash.{clash}
use Rattle.mcp2515.proofs.CoreFacts.{asks, RxByte}

-- a fact of both values of a choice is one of the choice
pub either : {A : Type 0} (P : A → Type 0) (b : Bool) {x y : A} → P x → P y → P (cond b x y)
either P true p q = p
either P false p q = q

pub no_or : (x y : Bool) → x || y ≡ false → (x ≡ false) × (y ≡ false)
no_or true y e = clash e
no_or false y e = (refl, e)

both : (x y : Bool) → x && y ≡ true → y ≡ true
both true y e = e
both false y e = clash (sym e)

module _ (asked : TxBuffer → Bool) where
  -- ---- the control registers: no RXnIF falls, and no buffer that waits for nothing comes to wait, but for one that a pin asks for
  pub record Keeps (c d : Control) : Type 0 where
    pub full : (b : RxBuffer) → has_bit c.flags.canintf (rx_flag b) ≡ true → has_bit d.flags.canintf (rx_flag b) ≡ true
    pub free : (b : TxBuffer) → asked b ≡ false → is_locked c b ≡ false → is_locked d b ≡ false

  same : (c : Control) → Keeps c c
  same c = record { full = λ b h. h; free = λ b n h. h }

  then : {c d e : Control} → Keeps c d → Keeps d e → Keeps c e
  then p q = record { full = λ b h. q.full b (p.full b h); free = λ b n h. q.free b n (p.free b n h) }

  rx_small : (b : RxBuffer) → rx_flag b < 8
  rx_small Rxb0 = lit< tt
  rx_small Rxb1 = lit< tt

  tx_small : (b : TxBuffer) → tx_flag b < 8
  tx_small Txb0 = lit< tt
  tx_small Txb1 = lit< tt
  tx_small Txb2 = lit< tt

  -- a bit that is set stays set when another one, or it, is set
  set_keeps : (x i : ℕ) → i < 8 → (b : RxBuffer) → has_bit x (rx_flag b) ≡ true → has_bit (set_bit x i) (rx_flag b) ≡ true
  set_keeps x i hi b h = go (eqb i (rx_flag b)) refl
    where
      go : (t : Bool) → eqb i (rx_flag b) ≡ t → has_bit (set_bit x i) (rx_flag b) ≡ true
      go true e = rw (← eqb-true i (rx_flag b) e) (has_set_same x i hi)
      go false e = has_set_other x i hi (rx_flag b) (rx_small b) (eqb-false i (rx_flag b) e) ∙ h

  moved_keeps : (c : Control) (n : Counters) → Keeps c (moved_to c n)
  unfolding moved_to
  moved_keeps c n = record {
    full = λ b h. either (λ (x : ℕ). has_bit x (rx_flag b) ≡ true) (rises (error_flags c.counters) (error_flags n)) (set_keeps c.flags.canintf errif_bit (lit< tt) b h) h;
    free = λ b n h. h;
  }

  settled_keeps : (c : Control) → Keeps c (settled c)
  unfolding settled entered
  settled_keeps c = go c.state.request
    where
      go : (q : Option Mode) → Keeps c (settled_by q c)
      go None = same c
      go (Some m) = either (λ (d : Control). Keeps c d) (free_to_change c) (record { full = λ b h. h; free = λ b n h. h }) (same c)

  verdict_keeps : (v : Verdict) (c : Control) (remote : Bool) → Keeps c (control_after v c remote)
  verdict_keeps Unmatched c remote = same c
  verdict_keeps (Stored b h) c remote = record { full = set_keeps c.flags.canintf (rx_flag b) (rx_small b); free = λ b n h. h }
  verdict_keeps (RolledOver h) c remote = record { full = set_keeps c.flags.canintf rx1if_bit (lit< tt); free = λ b n h. h }
  verdict_keeps (Lost b) c remote = record { full = set_keeps c.flags.canintf errif_bit (lit< tt); free = λ b n h. h }

  woken_keeps : (c : Control) → Keeps c (woken_control c)
  unfolding entered
  woken_keeps c = record { full = set_keeps c.flags.canintf wakif_bit (lit< tt); free = λ b n h. h }

  error_keeps : (c : Control) (n : ℕ) → Keeps c (error_heard c n)
  unfolding error_heard
  error_keeps c n =
      either (λ (d : Control). Keeps c d) (is_normal c.state.mode && not (is_bus_off c.counters))
      (then flagged (moved_keeps (with_canintf c (set_bit c.flags.canintf merrf_bit)) (rec_more c.counters (error_adds n))))
      (same c)
    where
      flagged : Keeps c (with_canintf c (set_bit c.flags.canintf merrf_bit))
      flagged = record { full = set_keeps c.flags.canintf merrf_bit (lit< tt); free = λ b n h. h }

  -- ---- the ends of an own frame set no TXREQ
  control_with : (t : TxControl) (a b : TxBuffer) (v : ℕ) → (has_bit (tx_control t a) txreq_bit ≡ false → has_bit v txreq_bit ≡ false)
      → has_bit (tx_control t b) txreq_bit ≡ false → has_bit (tx_control (with_tx_control t a v) b) txreq_bit ≡ false
  control_with t Txb0 Txb0 v f h = f h
  control_with t Txb0 Txb1 v f h = h
  control_with t Txb0 Txb2 v f h = h
  control_with t Txb1 Txb0 v f h = h
  control_with t Txb1 Txb1 v f h = f h
  control_with t Txb1 Txb2 v f h = h
  control_with t Txb2 Txb0 v f h = h
  control_with t Txb2 Txb1 v f h = h
  control_with t Txb2 Txb2 v f h = f h

  no_request : (x i : ℕ) → i < 8 → (i ≡ txreq_bit → ⊥) → has_bit x txreq_bit ≡ false → has_bit (set_bit x i) txreq_bit ≡ false
  no_request x i hi ne h = has_set_other x i hi txreq_bit (lit< tt) ne ∙ h

  no_request_after : (c : Control) (x : ℕ) → has_bit x txreq_bit ≡ false → has_bit (after_failure c x) txreq_bit ≡ false
  unfolding after_failure
  no_request_after c x h =
      either (λ (y : ℕ). has_bit y txreq_bit ≡ false) (aborts_all c)
      (no_request (clear_bit x txreq_bit) abtf_bit (lit< tt) (λ e. omega arith) (has_clear_same x txreq_bit (lit< tt)))
      (either (λ (y : ℕ). has_bit y txreq_bit ≡ false) (has_bit c.flags.canctrl osm_bit) {x = clear_bit x txreq_bit} {y = x} (has_clear_same x txreq_bit (lit< tt)) h)

  ctrl_free : (c : Control) (a : TxBuffer) (v : ℕ) → (has_bit (tx_control c.tx a) txreq_bit ≡ false → has_bit v txreq_bit ≡ false)
      → (b : TxBuffer) → is_locked c b ≡ false → is_locked (with_ctrl c a v) b ≡ false
  ctrl_free c a v f b h =
      rw (control_with c.tx a b v f (no_or (has_bit (tx_control c.tx b) txreq_bit) (in_flight c.state.flight b) h).0)

  sent_keeps : (c : Control) (b : TxBuffer) → Keeps c (sent_by c b)
  unfolding sent_by
  sent_keeps c b = record {
    full = set_keeps c.flags.canintf (tx_flag b) (tx_small b);
    free = λ a n. ctrl_free c b (clear_bit (tx_control c.tx b) txreq_bit) (λ h. has_clear_same (tx_control c.tx b) txreq_bit (lit< tt)) a;
  }

  fail_free : (c : Control) (a : TxBuffer) (i : ℕ) → i < 8 → (i ≡ txreq_bit → ⊥)
      → (b : TxBuffer) → is_locked c b ≡ false → is_locked (with_ctrl c a (after_failure c (set_bit (tx_control c.tx a) i))) b ≡ false
  fail_free c a i hi ne =
      ctrl_free c a (after_failure c (set_bit (tx_control c.tx a) i))
      (λ h. no_request_after c (set_bit (tx_control c.tx a) i) (no_request (tx_control c.tx a) i hi ne h))

  lost_keeps : (c : Control) (b : TxBuffer) → Keeps c (lost_by c b)
  unfolding lost_by
  lost_keeps c b = record { full = λ b h. h; free = λ a n. fail_free c b mloa_bit (lit< tt) (λ e. omega arith) a }

  failed_keeps : (c : Control) (b : TxBuffer) → Keeps c (failed_by c b)
  unfolding failed_by
  failed_keeps c b = record {
    full = set_keeps c.flags.canintf merrf_bit (lit< tt);
    free = λ a n. fail_free c b txerr_bit (lit< tt) (λ e. omega arith) a;
  }

  counted_keeps : (c : Control) (n : Counters) → Keeps c (counted c n)
  counted_keeps c n = either (λ (d : Control). Keeps c d) (is_normal c.state.mode) (moved_keeps c n) (same c)

  ended_keeps : (e : End) (c : Control) (b : TxBuffer) → Keeps c (ended_by e c b)
  ended_keeps Sent c b = then (sent_keeps c b) (counted_keeps (sent_by c b) (tec_less c.counters))
  ended_keeps LostArbitration c b = lost_keeps c b
  ended_keeps Failed c b = then (failed_keeps c b) (counted_keeps (failed_by c b) (tec_more c.counters))

  -- ---- bus idle starts only a buffer with TXREQ
  request_rank : (x : ℕ) → has_bit x txreq_bit ≡ true → 0 < rank_of x
  request_rank x h = rw h (omega arith)

  rank_request : (x : ℕ) → 0 < rank_of x → has_bit x txreq_bit ≡ true
  rank_request x h = go (has_bit x txreq_bit) refl
    where
      go : (b : Bool) → has_bit x txreq_bit ≡ b → has_bit x txreq_bit ≡ true
      go true e = e
      go false e = absurd (omega (arith, rw e at h))

  waits_rank : (t : TxControl) → waits t ≡ true → 0 < max (max (rank_of t.txb0) (rank_of t.txb1)) (rank_of t.txb2)
  waits_rank t h = go (has_bit t.txb0 txreq_bit) (has_bit t.txb1 txreq_bit) refl refl
    where
      go : (x y : Bool) → has_bit t.txb0 txreq_bit ≡ x → has_bit t.txb1 txreq_bit ≡ y → 0 < max (max (rank_of t.txb0) (rank_of t.txb1)) (rank_of t.txb2)
      go true y e f = omega (arith, request_rank t.txb0 e)
      go false true e f = omega (arith, request_rank t.txb1 f)
      go false false e f = omega (arith, request_rank t.txb2 (rw (e, f) at h))

  best_request : (t : TxControl) → waits t ≡ true → has_bit (tx_control t (best_of t)) txreq_bit ≡ true
  unfolding best_of
  best_request t h = go (leb (max (rank_of t.txb0) (rank_of t.txb1)) (rank_of t.txb2)) (leb (rank_of t.txb0) (rank_of t.txb1)) refl refl
    where
      go : (p q : Bool) → leb (max (rank_of t.txb0) (rank_of t.txb1)) (rank_of t.txb2) ≡ p → leb (rank_of t.txb0) (rank_of t.txb1) ≡ q
          → has_bit (tx_control t (cond p Txb2 (cond q Txb1 Txb0))) txreq_bit ≡ true
      go true q e f = rank_request t.txb2 (omega (arith, waits_rank t h, leb-true, e))
      go false true e f = rank_request t.txb1 (omega (arith, waits_rank t h, leb-true, leb-false))
      go false false e f = rank_request t.txb0 (omega (arith, waits_rank t h, leb-false))

  same_tx_lem : (a b : TxBuffer) → same_tx a b ≡ true → a ≡ b
  same_tx_lem Txb0 Txb0 e = refl
  same_tx_lem Txb0 Txb1 e = clash (sym e)
  same_tx_lem Txb0 Txb2 e = clash (sym e)
  same_tx_lem Txb1 Txb0 e = clash (sym e)
  same_tx_lem Txb1 Txb1 e = refl
  same_tx_lem Txb1 Txb2 e = clash (sym e)
  same_tx_lem Txb2 Txb0 e = clash (sym e)
  same_tx_lem Txb2 Txb1 e = clash (sym e)
  same_tx_lem Txb2 Txb2 e = refl

  -- a buffer with TXREQ is none without
  not_same : (t : TxControl) (a b : TxBuffer) → has_bit (tx_control t a) txreq_bit ≡ true → has_bit (tx_control t b) txreq_bit ≡ false → same_tx a b ≡ false
  not_same t a b p q = go (same_tx a b) refl
    where
      go : (x : Bool) → same_tx a b ≡ x → same_tx a b ≡ false
      go true e = clash (sym p ∙ ap (λ (n : TxBuffer). has_bit (tx_control t n) txreq_bit) (same_tx_lem a b e) ∙ q)
      go false e = e

  started_keeps : (c : Control) → Keeps c (started (choice_of c) c)
  unfolding choice_of
  started_keeps c = go (may_send c && waits c.tx) refl
    where
      go : (b : Bool) → may_send c && waits c.tx ≡ b → Keeps c (started (cond b (Some (best_of c.tx)) None) c)
      go true e = record {
        full = λ b h. h;
        free = λ b _ h.
            let n : has_bit (tx_control c.tx b) txreq_bit ≡ false = (no_or (has_bit (tx_control c.tx b) txreq_bit) (in_flight c.state.flight b) h).0 in
            rw (n, not_same c.tx (best_of c.tx) b (best_request c.tx (both (may_send c) (waits c.tx) e)) n);
      }
      go false e = same c

  -- ---- a full buffer takes no frame
  fills : Verdict → RxBuffer → Bool
  fills Unmatched b = false
  fills (Stored Rxb0 h) Rxb0 = true
  fills (Stored Rxb0 h) Rxb1 = false
  fills (Stored Rxb1 h) Rxb0 = false
  fills (Stored Rxb1 h) Rxb1 = true
  fills (RolledOver h) Rxb0 = false
  fills (RolledOver h) Rxb1 = true
  fills (Lost d) b = false

  spares_by : (c : Control) (x y : Option ℕ) (b : RxBuffer) → has_bit c.flags.canintf (rx_flag b) ≡ true → fills (verdict_by c x y) b ≡ false
  unfolding fills
  spares_by c (Some h) y Rxb0 e = rw e (go (has_bit c.rx.rxb0 bukt_bit) (is_full c Rxb1))
    where
      go : (p q : Bool) → fills (cond p (cond q (Lost Rxb1) (RolledOver h)) (Lost Rxb0)) Rxb0 ≡ false
      go true true = refl
      go true false = refl
      go false q = refl
  spares_by c (Some h) y Rxb1 e = rw e (go (has_bit c.rx.rxb0 bukt_bit) (is_full c Rxb0))
    where
      go : (p q : Bool) → fills (cond q (cond p (Lost Rxb1) (Lost Rxb0)) (Stored Rxb0 h)) Rxb1 ≡ false
      go true true = refl
      go false true = refl
      go p false = refl
  spares_by c None None b e = refl
  spares_by c None (Some h) Rxb0 e = go (is_full c Rxb1)
    where
      go : (p : Bool) → fills (cond p (Lost Rxb1) (Stored Rxb1 h)) Rxb0 ≡ false
      go true = refl
      go false = refl
  spares_by c None (Some h) Rxb1 e = rw e

  spares : (k : Core) (f : Frame) (b : RxBuffer) → is_full k.control b ≡ true → fills (verdict_of k.control k.config f) b ≡ false
  unfolding verdict_of
  spares k f b h = spares_by k.control (hit_for k.control (matches k.config f) Rxb0) (hit_for k.control (matches k.config f) Rxb1) b h

  -- a store into a buffer whose bytes lie from at on leaves every byte but its 13
  module _ (rx : List ℕ) (at : ℕ) (f : Frame) (j : ℕ) (apart : (n : ℕ) → n < 14 → j ≡ at + n → ⊥) where
    filled_other : (l : List ℕ) (n : ℕ) → n < 9 → get_or (filled l at f n) j 0 ≡ get_or l j 0
    filled_other l zero h = refl
    filled_other l (suc n) h =
        get_or-set_other (filled l at f n) (at + 6 + n) j _ 0 (λ e. apart (6 + n) (omega arith) (omega arith)) ∙ filled_other l n (omega arith)

    put_other : (n : ℕ) → n < 14 → (l : List ℕ) (v : ℕ) → get_or (set l (at + n) v) j 0 ≡ get_or l j 0
    put_other n h l v = get_or-set_other l (at + n) j v 0 (apart n h)

    stored_other : get_or (bytes_stored rx at f) j 0 ≡ get_or rx j 0
    unfolding bytes_stored
    stored_other =
        filled_other (headed rx at f) 8 (lit< tt)
        ∙ rw (put_other 5 (lit< tt), put_other 4 (lit< tt), put_other 3 (lit< tt), put_other 2 (lit< tt), put_other 1 (lit< tt))

  bytes_other : (v : Verdict) (rx : List ℕ) (f : Frame) (b : RxBuffer) (a : ℕ) → fills v b ≡ false → RxByte b a
      → get_or (bytes_after v rx f) (a % 32) 0 ≡ get_or rx (a % 32) 0
  unfolding fills
  bytes_other Unmatched rx f b a e t = refl
  bytes_other (Stored Rxb0 h) rx f Rxb0 a e t = clash e
  bytes_other (Stored Rxb0 h) rx f Rxb1 a e t = stored_other rx 0 f (a % 32) (λ n hn z. omega (arith, t.from, t.to))
  bytes_other (Stored Rxb1 h) rx f Rxb0 a e t = stored_other rx 16 f (a % 32) (λ n hn z. omega (arith, t.from, t.to))
  bytes_other (Stored Rxb1 h) rx f Rxb1 a e t = clash e
  bytes_other (RolledOver h) rx f Rxb0 a e t = stored_other rx 16 f (a % 32) (λ n hn z. omega (arith, t.from, t.to))
  bytes_other (RolledOver h) rx f Rxb1 a e t = clash e
  bytes_other (Lost d) rx f b a e t = refl

  -- ---- the core
  pub record Kept (k j : Core) : Type 0 where
    pub control : Keeps k.control j.control
    pub config : j.config ≡ k.config
    pub tx : j.tx ≡ k.tx
    pub rx : (b : RxBuffer) (a : ℕ) → is_full k.control b ≡ true → RxByte b a → get_or j.rx (a % 32) 0 ≡ get_or k.rx (a % 32) 0

  whole : (k : Core) (c : Control) → Keeps k.control c → Kept k (with_control k c)
  whole k c p = record { control = p; config = refl; tx = refl; rx = λ b a h t. refl }

  untouched : (k : Core) → Kept k k
  untouched k = whole k k.control (same k.control)

  next : {k j i : Core} → Kept k j → Kept j i → Kept k i
  next p q = record {
    control = then p.control q.control;
    config = q.config ∙ p.config;
    tx = q.tx ∙ p.tx;
    rx = λ b a h t. q.rx b a (p.control.full b h) t ∙ p.rx b a h t;
  }

  received_kept : (k : Core) (f : Frame) → Kept k (received_of k f).core
  unfolding received_of match_of
  received_kept k f = record {
    control = verdict_keeps (verdict_of k.control k.config f) k.control f.remote;
    config = refl;
    tx = refl;
    rx = λ b a h t. bytes_other (verdict_of k.control k.config f) k.rx f b a (spares k f b h) t;
  }

  -- ---- each event, and the mode request after it
  heard_kept : (m : Mode) (k : Core) (f : Frame) → Kept k (heard_in m k f).core
  heard_kept Normal k f =
      either (λ (h : Received). Kept k h.core) (is_bus_off k.control.counters) (untouched k)
      (next (received_kept k f) (whole (received_of k f).core _ (moved_keeps (received_of k f).core.control (rec_less k.control.counters))))
  heard_kept Sleep k f =
      either (λ (h : Received). Kept k h.core) (has_bit k.control.flags.caninte wakif_bit)
      (whole k (woken_control k.control) (woken_keeps k.control))
      (untouched k)
  heard_kept Loopback k f = untouched k
  heard_kept ListenOnly k f =
      either (λ (h : Received). Kept k h.core) (is_bus_off k.control.counters) (untouched k) (received_kept k f)
  heard_kept Configuration k f = untouched k

  ends_kept : (x : Bool) (k : Core) (b : TxBuffer) (e : End) → Kept k (ends_in x k b e).core
  ends_kept true k b Sent =
      next (whole k (sent_by k.control b) (sent_keeps k.control b))
      (received_kept (with_control k (sent_by k.control b)) (frame_sent k.tx b))
  ends_kept true k b LostArbitration = whole k (ended_by LostArbitration k.control b) (ended_keeps LostArbitration k.control b)
  ends_kept true k b Failed = whole k (ended_by Failed k.control b) (ended_keeps Failed k.control b)
  ends_kept false k b e = whole k (ended_by e k.control b) (ended_keeps e k.control b)

  flight_kept : (l : Option TxBuffer) (k : Core) (e : End) → Kept k (ends_by l k e).core
  flight_kept None k e = untouched k
  flight_kept (Some b) k e = ends_kept (is_loopback k.control.state.mode) k b e

  -- ---- a request pin: the buffer of the pin may come to wait, and no other
  pin_free : (k : Core) (p b : TxBuffer) (high : Bool) → falls_enabled k b (level_of (with_level k.pins p high) b) ≡ false
      → is_locked k.control b ≡ false → is_locked (pin_requested k p high).control b ≡ false
  unfolding requested_to_send
  pin_free k Txb0 Txb0 high n h = rw n h
  pin_free k Txb0 Txb1 high n h = either (λ (j : Core). is_locked j.control Txb1 ≡ false) (falls_enabled k Txb0 high) {y = k} h h
  pin_free k Txb0 Txb2 high n h = either (λ (j : Core). is_locked j.control Txb2 ≡ false) (falls_enabled k Txb0 high) {y = k} h h
  pin_free k Txb1 Txb0 high n h = either (λ (j : Core). is_locked j.control Txb0 ≡ false) (falls_enabled k Txb1 high) {y = k} h h
  pin_free k Txb1 Txb1 high n h = rw n h
  pin_free k Txb1 Txb2 high n h = either (λ (j : Core). is_locked j.control Txb2 ≡ false) (falls_enabled k Txb1 high) {y = k} h h
  pin_free k Txb2 Txb0 high n h = either (λ (j : Core). is_locked j.control Txb0 ≡ false) (falls_enabled k Txb2 high) {y = k} h h
  pin_free k Txb2 Txb1 high n h = either (λ (j : Core). is_locked j.control Txb1 ≡ false) (falls_enabled k Txb2 high) {y = k} h h
  pin_free k Txb2 Txb2 high n h = rw n h

  pin_kept : (k : Core) (p : TxBuffer) (high : Bool)
      → ((b : TxBuffer) → asked b ≡ false → falls_enabled k b (level_of (with_level k.pins p high) b) ≡ false) → Kept k (pin_moved k p high)
  unfolding requested_to_send
  pin_kept k p high n =
      let asks : Bool = falls_enabled k p high in
      let sent : Core = with_control k (requested_to_send k.control (rts_bit p)) in
      record {
        control = record {
          full = λ b h. either (λ (j : Core). has_bit j.control.flags.canintf (rx_flag b) ≡ true) asks {x = sent} {y = k} h h;
          free = λ b a h. pin_free k p b high (n b a) h;
        };
        config = either (λ (j : Core). j.config ≡ k.config) asks {x = sent} {y = k} refl refl;
        tx = either (λ (j : Core). j.tx ≡ k.tx) asks {x = sent} {y = k} refl refl;
        rx = λ b a h t. either (λ (j : Core). get_or j.rx (a % 32) 0 ≡ get_or k.rx (a % 32) 0) asks {x = sent} {y = k} refl refl;
      }

-- ---- whatever happens; a buffer is asked for by the fall of its enabled pin
happens_kept : (q : Option Kind) (k : Core) (r : List ℕ)
    → Kept (λ b. falls_enabled k b (level_of (happens_by q k r).core.pins b)) k (happens_by q k r).core
unfolding heard_of idled ended pinned
happens_kept (Some SelectLow) k r = untouched _ k
happens_kept (Some Exchange) k r = untouched _ k
happens_kept (Some SelectHigh) k r = untouched _ k
happens_kept (Some FrameHeard) k r = heard_kept _ k.control.state.mode k (frame_of r)
happens_kept (Some BusIdle) k r = whole _ k (started (choice_of k.control) k.control) (started_keeps _ k.control)
happens_kept (Some FrameEnds) k r = flight_kept _ k.control.state.flight k (end_of (byte_at r 1))
happens_kept (Some ReceiveError) k r = whole _ k (error_heard k.control (byte_at r 1)) (error_keeps _ k.control (byte_at r 1))
happens_kept (Some Recovery) k r = whole _ k (recovered k.control) (record { full = λ b h. h; free = λ b n h. h })
happens_kept (Some PinLevel) k r = pin_kept _ k (pin_of (byte_at r 1)) (is_high_level (byte_at r 2)) (λ b n. n)
happens_kept None k r = untouched _ k

pub event_kept : (k : Core) (r : List ℕ) → Kept (asks k r) k (event_of k r).core
unfolding event_of
event_kept k r =
    either (λ (t : Told). Kept (λ b. falls_enabled k b (level_of t.core.pins b)) k t.core) (eqb (event_refusal k.control r) accepted)
    (next _ (happens_kept (kind_of r) k r) (whole _ (happens_by (kind_of r) k r).core _ (settled_keeps _ (happens_by (kind_of r) k r).core.control)))
    (untouched _ k)
