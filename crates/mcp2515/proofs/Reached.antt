-- What holds of every chip that a run from power-on reaches, and of filters and masks at every step. Assumes nothing.
use Rattle.std.proofs.Common.{Option, Some, None}
use mathlib.Core.Bool.{Bool, true, false, cond, not, ◌&&◌, ◌||◌}
use mathlib.Core.Path.{◌≡◌, ◌∙◌, refl, sym, ap}
use mathlib.Core.List.{List, [], ◌∷◌}
use Prim.Native.Nat.{ℕ, ◌%◌, ◌<◌}
use native.Mathlib.Omega.{arith}
use lib.Dec.{eqb, eqb→eq}
use lib.ListN.{get_or}
use lib.Seq.{get_or-set_other, set-get_or}
use borrow.Author.Tests.{not-false}
use Rattle.bits.specs.Bit.{has_bit}
use Rattle.bits.proofs.All.{every}
use Rattle.records.specs.declared.Kind.{Kind}
use Rattle.records.specs.declared.Kind.TheVariants.{SelectLow, Exchange, SelectHigh, FrameHeard, BusIdle, FrameEnds, ReceiveError, Recovery, PinLevel}
use Rattle.records.specs.declared.Frame.{Frame}
use Rattle.records.specs.Records.{accepted, byte_at, kind_of, is_event, frame_of}
use Rattle.registers.specs.declared.Mode.{Mode}
use Rattle.registers.specs.declared.Mode.TheVariants.{Normal, Sleep, Loopback, ListenOnly, Configuration}
use Rattle.registers.specs.declared.TxBuffer.{TxBuffer}
use Rattle.registers.specs.declared.Region.{Region}
use Rattle.registers.specs.declared.Region.TheVariants.{Filters, Masks, Configured, Bfpctrl, Txrtsctrl, Tec, Rec, Caninte, Canintf, Eflg, Canstat, Canctrl, TxCtrl, TxMessage, RxCtrl, RxMessage}
use Rattle.registers.specs.declared.Counters.{Counters}
use Rattle.registers.specs.declared.Control.{Control}
use Rattle.registers.specs.declared.Core.{Core}
use Rattle.registers.specs.State.{abat_bit, wakif_bit, is_configuration, is_normal, is_loopback, is_idle, with_request, with_control, rts_bit, with_pins}
use Rattle.registers.specs.Errors.{is_bus_off, moved_to, tec_less, tec_more}
use Rattle.registers.specs.Registers.{is_profile, region_of, writable_in, writable_of, is_kept, holds_in, holds, power_on_core, reset_core}
use Rattle.registers.proofs.Kept.{reset_holds}
use Rattle.registers.specs.Modes.{sends_in, waits, entered, free_to_change, settled_by, settled}
use Rattle.stores.specs.Store.{stored_in, stored, modified, aborted, canctrl_held, canctrl_stored, requested_to_send}
use Rattle.receiving.specs.declared.Verdict.{Verdict}
use Rattle.receiving.specs.declared.Verdict.TheVariants.{Unmatched, Stored, RolledOver, Lost}
use Rattle.receiving.specs.declared.Reception.TheVariants.{Woke}
use Rattle.receiving.specs.Receiving.{Received, verdict_of, match_of, control_after, received_of}
use Rattle.controller.specs.declared.End.{End}
use Rattle.controller.specs.declared.End.TheVariants.{Sent, LostArbitration, Failed}
use Rattle.controller.specs.Sending.{may_send, best_of, choice_of, started, end_of, counted, sent_by, lost_by, failed_by, ended_by, frame_sent}
use Rattle.controller.specs.Events.{Told, settled_core, ignored, good_frame, woken_control, heard_in, heard_of, ends_in, ends_by, ended, idled, error_adds, erred, error_heard, pin_of, is_high_level, falls_enabled, pinned, happens_by, event_refusal, told_of, refused_by, event_of}
use Rattle.spi.specs.declared.Act.{Act}
use Rattle.spi.specs.declared.Act.TheVariants.{Rest, ResetAll, Fetch, Store, Modify, RequestToSend, ClearFlag, FetchStatus, FetchRxStatus, Refuse}
use Rattle.mcp2515.specs.declared.Chip.{Chip}
use Rattle.mcp2515.specs.declared.Stepped.{Stepped}
use Rattle.spi.specs.Instructions.{cleared_of, acted}
use Rattle.spi.proofs.Clash.{clash}
use Rattle.mcp2515.specs.Step.{power_on, asked, step_of, next_chip, chip_after}
use Rattle.mcp2515.specs.Runs.{SettledReached, is_pending, PendingReached, FlightReached, is_store, stores_in_configuration, FiltersKept, MasksKept, PinsKept}
use Rattle.mcp2515.proofs.CoreFacts.{Good}
use Rattle.mcp2515.proofs.CoreSettle.{good_power, good_acted, good_event}
use Rattle.mcp2515.proofs.CoreKept.{either, no_or, event_kept}

-- ---- steps and runs
step_core : (P : Core → Type 0) (c : Chip) (r : List ℕ) → P (event_of c.core r).core → P (acted (asked c.select r) c.core) → P (next_chip c r).core
unfolding step_of
step_core P c r p q = either (λ (s : Stepped). P s.chip.core) (is_event (kind_of r)) p q

-- what every event and every act keeps holds all along
module _ (P : Core → Type 0) (event : (k : Core) (r : List ℕ) → P k → P (event_of k r).core) (act : (a : Act) (k : Core) → P k → P (acted a k)) where
  run : (c : Chip) (rs : List (List ℕ)) → P c.core → P (chip_after c rs).core
  unfolding chip_after
  run c [] p = p
  run c (r ∷ rs) p = run (next_chip c r) rs (step_core P c r (event c.core r p) (act (asked c.select r) c.core p))

-- ---- mode requests
pub good_reached : (rs : List (List ℕ)) → Good (chip_after power_on rs).core
unfolding power_on
good_reached rs = run Good good_event good_acted power_on rs good_power

pub settled_reached : SettledReached
settled_reached rs = ap (λ (k : Core). k.control) (good_reached rs)

pub stays : (q : Option Mode) (c : Control) → c.state.request ≡ q → settled c ≡ c → is_pending q ≡ true → free_to_change c ≡ false
unfolding settled entered
stays None c e g p = clash (sym p)
stays (Some m) c e g p = go (free_to_change c) refl
  where
    go : (b : Bool) → free_to_change c ≡ b → free_to_change c ≡ false
    go true f =
        let done : settled c ≡ entered (with_request c None) m = ap (λ (q : Option Mode). settled_by q c) e ∙ ap (λ (b : Bool). cond b (entered (with_request c None) m) c) f in
        clash (sym (ap (λ (d : Control). is_pending d.state.request) (sym done ∙ g) ∙ ap is_pending e))
    go false f = f

some_left : (x y : Bool) → not x && y ≡ false → x || not y ≡ true
some_left true y e = refl
some_left false y e = ap not e

left : (x y : Bool) → x && y ≡ true → x ≡ true
left true y e = refl
left false y e = e

and_false : (x : Bool) → x && false ≡ false
and_false true = refl
and_false false = refl

pub pending_reached : PendingReached
unfolding free_to_change
pending_reached rs p =
    let c : Control = (chip_after power_on rs).core.control in
    let parts = no_or (not (sends_in c.state.mode)) _ (stays c.state.request c refl (settled_reached rs) p) in
    (not-false _ parts.0, some_left (waits c.tx) (is_idle c.state.flight) parts.1)

-- ---- an own frame in flight: the mode sends, and no bus-off
abbrev Sound : Control → Type 0
Sound c = is_idle c.state.flight ≡ false → may_send c ≡ true

settled_sound : (c : Control) → Sound c → Sound (settled c)
unfolding settled entered free_to_change
settled_sound c s = go c.state.request
  where
    held : (m : Mode) (b : Bool) → free_to_change c ≡ b → Sound (cond b (entered (with_request c None) m) c)
    held m true f = λ h. clash (sym f ∙ rw (left (sends_in c.state.mode) _ (s h), h, and_false) refl)
    held m false f = s

    go : (q : Option Mode) → Sound (settled_by q c)
    go None = s
    go (Some m) = held m (free_to_change c) refl

canctrl_sound : (c : Control) (v : ℕ) → Sound c → Sound (canctrl_stored c v)
unfolding canctrl_stored aborted
canctrl_sound c v s = either Sound (has_bit v abat_bit) {x = aborted (canctrl_held c v)} {y = canctrl_held c v} s s

stored_sound : (g : Region) (k : Core) (a v : ℕ) → Sound k.control → Sound (stored_in g k a v).control
stored_sound Filters k a v s = s
stored_sound Masks k a v s = s
stored_sound Configured k a v s = s
stored_sound Bfpctrl k a v s = s
stored_sound Txrtsctrl k a v s = s
stored_sound Tec k a v s = s
stored_sound Rec k a v s = s
stored_sound Caninte k a v s = s
stored_sound Canintf k a v s = s
stored_sound Eflg k a v s = s
stored_sound Canstat k a v s = s
stored_sound Canctrl k a v s = canctrl_sound k.control _ s
stored_sound (TxCtrl b) k a v s = s
stored_sound (TxMessage b) k a v s = s
stored_sound (RxCtrl b) k a v s = s
stored_sound RxMessage k a v s = s

acted_sound : (x : Act) (k : Core) → Sound k.control → Sound (acted x k).control
unfolding stored modified requested_to_send reset_core
acted_sound Rest k s = settled_sound k.control s
acted_sound ResetAll k s = settled_sound (reset_core k).control (λ e. clash e)
acted_sound (Fetch a) k s = settled_sound k.control s
acted_sound (Store a v) k s = settled_sound (stored k a v).control (stored_sound (region_of (a % 128)) k (a % 128) v s)
acted_sound (Modify a m v) k s = settled_sound (modified k a m v).control (stored_sound (region_of (a % 128)) k (a % 128) _ s)
acted_sound (RequestToSend m) k s = settled_sound (requested_to_send k.control m) s
acted_sound (ClearFlag n) k s = settled_sound (cleared_of k.control n) s
acted_sound FetchStatus k s = settled_sound k.control s
acted_sound FetchRxStatus k s = settled_sound k.control s
acted_sound (Refuse n) k s = s

-- receiving moves neither mode, flight nor TEC
after_state : (v : Verdict) (c : Control) (remote : Bool) → (control_after v c remote).state ≡ c.state
after_state Unmatched c remote = refl
after_state (Stored b h) c remote = refl
after_state (RolledOver h) c remote = refl
after_state (Lost b) c remote = refl

after_counters : (v : Verdict) (c : Control) (remote : Bool) → (control_after v c remote).counters ≡ c.counters
after_counters Unmatched c remote = refl
after_counters (Stored b h) c remote = refl
after_counters (RolledOver h) c remote = refl
after_counters (Lost b) c remote = refl

received_state : (k : Core) (f : Frame) → (received_of k f).core.control.state ≡ k.control.state
unfolding received_of match_of
received_state k f = after_state (verdict_of k.control k.config f) k.control f.remote

received_sound : (k : Core) (f : Frame) → Sound k.control → Sound (received_of k f).core.control
unfolding received_of match_of
received_sound k f s = rw (received_state k f, after_counters (verdict_of k.control k.config f) k.control f.remote) s

heard_sound : (m : Mode) (k : Core) (f : Frame) → k.control.state.mode ≡ m → Sound k.control → Sound (heard_in m k f).core.control
unfolding moved_to entered
heard_sound Normal k f e s =
    either (λ (h : Received). Sound h.core.control) (is_bus_off k.control.counters) {x = ignored k} {y = good_frame k f} s (rw (received_state k f) s)
heard_sound Sleep k f e s =
    either (λ (h : Received). Sound h.core.control) (has_bit k.control.flags.caninte wakif_bit)
    {x = record { core = with_control k (woken_control k.control); answer = Woke; matched = 0 }} {y = ignored k}
    (λ h. clash (sym (rw e at (left (sends_in k.control.state.mode) _ (s h))))) s
heard_sound Loopback k f e s = s
heard_sound ListenOnly k f e s =
    either (λ (h : Received). Sound h.core.control) (is_bus_off k.control.counters) {x = ignored k} {y = received_of k f} s (received_sound k f s)
heard_sound Configuration k f e s = s

-- an end leaves no flight
idle_sound : (c : Control) → is_idle c.state.flight ≡ true → Sound c
idle_sound c e h = clash (sym e ∙ h)

counted_idle : (c : Control) (n : Counters) → is_idle c.state.flight ≡ true → is_idle (counted c n).state.flight ≡ true
unfolding moved_to
counted_idle c n e = either (λ (d : Control). is_idle d.state.flight ≡ true) (is_normal c.state.mode) {x = moved_to c n} {y = c} e e

ended_idle : (e : End) (c : Control) (b : TxBuffer) → is_idle (ended_by e c b).state.flight ≡ true
unfolding sent_by lost_by failed_by
ended_idle Sent c b = counted_idle (sent_by c b) (tec_less c.counters) refl
ended_idle LostArbitration c b = refl
ended_idle Failed c b = counted_idle (failed_by c b) (tec_more c.counters) refl

ends_sound : (x : Bool) (k : Core) (b : TxBuffer) (e : End) → Sound (ends_in x k b e).core.control
unfolding sent_by
ends_sound true k b Sent = received_sound (with_control k (sent_by k.control b)) (frame_sent k.tx b) (λ h. clash h)
ends_sound true k b LostArbitration = idle_sound (ended_by LostArbitration k.control b) (ended_idle LostArbitration k.control b)
ends_sound true k b Failed = idle_sound (ended_by Failed k.control b) (ended_idle Failed k.control b)
ends_sound false k b e = idle_sound (ended_by e k.control b) (ended_idle e k.control b)

flight_sound : (l : Option TxBuffer) (k : Core) (e : End) → Sound k.control → Sound (ends_by l k e).core.control
flight_sound None k e s = s
flight_sound (Some b) k e s = ends_sound (is_loopback k.control.state.mode) k b e

started_sound : (c : Control) → Sound c → Sound (started (choice_of c) c)
unfolding choice_of
started_sound c s = go (may_send c && waits c.tx) refl
  where
    go : (b : Bool) → may_send c && waits c.tx ≡ b → Sound (started (cond b (Some (best_of c.tx)) None) c)
    go true e = λ h. left (may_send c) (waits c.tx) e
    go false e = s

happens_sound : (q : Option Kind) (k : Core) (r : List ℕ) → Sound k.control → Sound (happens_by q k r).core.control
unfolding heard_of idled ended error_heard moved_to pinned requested_to_send
happens_sound (Some SelectLow) k r s = s
happens_sound (Some Exchange) k r s = s
happens_sound (Some SelectHigh) k r s = s
happens_sound (Some FrameHeard) k r s = heard_sound k.control.state.mode k (frame_of r) refl s
happens_sound (Some BusIdle) k r s = started_sound k.control s
happens_sound (Some FrameEnds) k r s = flight_sound k.control.state.flight k (end_of (byte_at r 1)) s
happens_sound (Some ReceiveError) k r s =
    either Sound (is_normal k.control.state.mode && not (is_bus_off k.control.counters))
    {x = erred k.control (error_adds (byte_at r 1))} {y = k.control} s s
happens_sound (Some Recovery) k r s = λ h. rw (left (sends_in k.control.state.mode) _ (s h))
happens_sound (Some PinLevel) k r s =
    let b : TxBuffer = pin_of (byte_at r 1) in
    either (λ (j : Core). Sound j.control) (falls_enabled k b (is_high_level (byte_at r 2)))
    {x = with_control k (requested_to_send k.control (rts_bit b))} {y = k} s s
happens_sound None k r s = s

event_sound : (k : Core) (r : List ℕ) → Sound k.control → Sound (event_of k r).core.control
unfolding event_of
event_sound k r s =
    either (λ (t : Told). Sound t.core.control) (eqb (event_refusal k.control r) accepted)
    {x = told_of (happens_by (kind_of r) k r)} {y = refused_by (event_refusal k.control r) k}
    (settled_sound (happens_by (kind_of r) k r).core.control (happens_sound (kind_of r) k r s)) s

pub flight_reached : FlightReached
unfolding power_on power_on_core
flight_reached rs = run (λ (k : Core). Sound k.control) event_sound acted_sound power_on rs (λ h. clash h)

-- ---- filters and masks
profile_in : (g : Region) (k : Core) (x : ℕ) → is_profile g ≡ true → holds_in g k x ≡ get_or k.config (x % 48) 0
profile_in Filters k x e = refl
profile_in Masks k x e = refl
profile_in Configured k x e = refl
profile_in Bfpctrl k x e = refl
profile_in Txrtsctrl k x e = clash (sym e)
profile_in Tec k x e = clash (sym e)
profile_in Rec k x e = clash (sym e)
profile_in Caninte k x e = clash (sym e)
profile_in Canintf k x e = clash (sym e)
profile_in Eflg k x e = clash (sym e)
profile_in Canstat k x e = clash (sym e)
profile_in Canctrl k x e = clash (sym e)
profile_in (TxCtrl b) k x e = clash (sym e)
profile_in (TxMessage b) k x e = clash (sym e)
profile_in (RxCtrl b) k x e = clash (sym e)
profile_in RxMessage k x e = clash (sym e)

abbrev pub AtProfile : ℕ → Type 0
AtProfile a = is_profile (region_of (a % 128)) ≡ true

pub holds_profile : (k : Core) (a : ℕ) → AtProfile a → holds k a ≡ get_or k.config (a % 128 % 48) 0
unfolding holds
holds_profile k a e = profile_in (region_of (a % 128)) k (a % 128) e

pub same_profile : (j k : Core) (a : ℕ) → AtProfile a → j.config ≡ k.config → holds j a ≡ holds k a
same_profile j k a e h = holds_profile j a e ∙ ap (λ (l : List ℕ). get_or l (a % 128 % 48) 0) h ∙ sym (holds_profile k a e)

-- BFPCTRL is the one byte with bits 5 to 0 writable, and lies apart from them
bfpctrl_at : (x : ℕ) → x < 128 → region_of x ≡ Bfpctrl → x ≡ 0x0C
unfolding region_of writable_of
bfpctrl_at x h e =
    let w : writable_of x ≡ 0x3F = ap (λ (g : Region). writable_in g x) e in
    eqb→eq x 0x0C (rw w at (every (λ x. not (eqb (writable_of x) 0x3F) || eqb x 0x0C) 128 tt x h))

profile_at : (x : ℕ) → x < 128 → is_profile (region_of x) ≡ true → x % 48 ≡ 0x0C → ⊥
unfolding region_of
profile_at x h e z = rw (e, z) at (every (λ x. not (is_profile (region_of x)) || not (eqb (x % 48) 0x0C)) 128 tt x h)

-- a store outside Configuration
stored_filter : (g : Region) (k : Core) (x v i : ℕ) → is_configuration k.control.state.mode ≡ false → (g ≡ Bfpctrl → i ≡ x % 48 → ⊥)
    → get_or (stored_in g k x v).config i 0 ≡ get_or k.config i 0
stored_filter Filters k x v i m ne = rw (m, set-get_or)
stored_filter Masks k x v i m ne = rw (m, set-get_or)
stored_filter Configured k x v i m ne = rw (m, set-get_or)
stored_filter Txrtsctrl k x v i m ne = rw (m, set-get_or)
stored_filter Bfpctrl k x v i m ne = get_or-set_other k.config (x % 48) i _ 0 (ne refl)
stored_filter Tec k x v i m ne = refl
stored_filter Rec k x v i m ne = refl
stored_filter Caninte k x v i m ne = refl
stored_filter Canintf k x v i m ne = refl
stored_filter Eflg k x v i m ne = refl
stored_filter Canstat k x v i m ne = refl
stored_filter Canctrl k x v i m ne = refl
stored_filter (TxCtrl b) k x v i m ne = refl
stored_filter (TxMessage b) k x v i m ne = refl
stored_filter (RxCtrl b) k x v i m ne = refl
stored_filter RxMessage k x v i m ne = refl

stored_kept : (k : Core) (s v a : ℕ) → is_configuration k.control.state.mode ≡ false → AtProfile a
    → holds (settled_core (stored k s v)) a ≡ holds k a
unfolding stored
stored_kept k s v a m e =
    holds_profile (settled_core (stored k s v)) a e
    ∙ stored_filter (region_of (s % 128)) k (s % 128) v (a % 128 % 48) m
    (λ g z. profile_at (a % 128) (omega arith) e (z ∙ ap (λ (x : ℕ). x % 48) (bfpctrl_at (s % 128) (omega arith) g)))
    ∙ sym (holds_profile k a e)

-- RESET keeps a filter byte
reset_kept : (k : Core) (a : ℕ) → AtProfile a → region_of (a % 128) ≡ Filters → holds (settled_core (reset_core k)) a ≡ holds k a
reset_kept k a e f =
    same_profile (settled_core (reset_core k)) (reset_core k) a e refl
    ∙ reset_holds k a
    ∙ ap (λ (g : Region). cond (is_kept g) (holds k a) (holds (with_pins power_on_core k.pins) a)) f

-- an act that is no store in Configuration; if it is RESET, the address is one of a filter
acted_kept : (x : Act) (k : Core) (a : ℕ) → is_store x && is_configuration k.control.state.mode ≡ false
    → (x ≡ ResetAll → region_of (a % 128) ≡ Filters) → AtProfile a → holds (acted x k) a ≡ holds k a
unfolding modified
acted_kept Rest k a m f e = same_profile (acted Rest k) k a e refl
acted_kept ResetAll k a m f e = reset_kept k a e (f refl)
acted_kept (Fetch b) k a m f e = same_profile (acted (Fetch b) k) k a e refl
acted_kept (Store b v) k a m f e = stored_kept k b v a m e
acted_kept (Modify b w v) k a m f e = stored_kept k b _ a m e
acted_kept (RequestToSend w) k a m f e = same_profile (acted (RequestToSend w) k) k a e refl
acted_kept (ClearFlag n) k a m f e = same_profile (acted (ClearFlag n) k) k a e refl
acted_kept FetchStatus k a m f e = same_profile (acted FetchStatus k) k a e refl
acted_kept FetchRxStatus k a m f e = same_profile (acted FetchRxStatus k) k a e refl
acted_kept (Refuse n) k a m f e = refl

profile_kept : (c : Chip) (r : List ℕ) (a : ℕ) → stores_in_configuration c r ≡ false
    → (asked c.select r ≡ ResetAll → region_of (a % 128) ≡ Filters) → AtProfile a → holds (next_chip c r).core a ≡ holds c.core a
profile_kept c r a m f e =
    step_core (λ (k : Core). holds k a ≡ holds c.core a) c r
    (same_profile (event_of c.core r).core c.core a e (event_kept c.core r).config) (acted_kept (asked c.select r) c.core a m f e)

pub filters_kept : FiltersKept
filters_kept c r m a e = profile_kept c r a m (λ _. e) (ap is_profile e)

pub masks_kept : MasksKept
masks_kept c r m ne a e = profile_kept c r a m (λ p. absurd (ne p)) (ap is_profile e)

-- ---- the levels of the pins
stored_pins : (g : Region) (k : Core) (a v : ℕ) → (stored_in g k a v).pins ≡ k.pins
stored_pins Filters k a v = refl
stored_pins Masks k a v = refl
stored_pins Configured k a v = refl
stored_pins Bfpctrl k a v = refl
stored_pins Txrtsctrl k a v = refl
stored_pins Tec k a v = refl
stored_pins Rec k a v = refl
stored_pins Caninte k a v = refl
stored_pins Canintf k a v = refl
stored_pins Eflg k a v = refl
stored_pins Canstat k a v = refl
stored_pins Canctrl k a v = refl
stored_pins (TxCtrl b) k a v = refl
stored_pins (TxMessage b) k a v = refl
stored_pins (RxCtrl b) k a v = refl
stored_pins RxMessage k a v = refl

acted-pins : (x : Act) (k : Core) → (acted x k).pins ≡ k.pins
unfolding stored modified reset_core
acted-pins Rest k = refl
acted-pins ResetAll k = refl
acted-pins (Fetch a) k = refl
acted-pins (Store a v) k = stored_pins (region_of (a % 128)) k (a % 128) v
acted-pins (Modify a m v) k = stored_pins (region_of (a % 128)) k (a % 128) _
acted-pins (RequestToSend m) k = refl
acted-pins (ClearFlag n) k = refl
acted-pins FetchStatus k = refl
acted-pins FetchRxStatus k = refl
acted-pins (Refuse n) k = refl

heard_pins : (m : Mode) (k : Core) (f : Frame) → (heard_in m k f).core.pins ≡ k.pins
unfolding received_of
heard_pins Normal k f = either (λ (h : Received). h.core.pins ≡ k.pins) (is_bus_off k.control.counters) {x = ignored k} {y = good_frame k f} refl refl
heard_pins Sleep k f =
    either (λ (h : Received). h.core.pins ≡ k.pins) (has_bit k.control.flags.caninte wakif_bit)
    {x = record { core = with_control k (woken_control k.control); answer = Woke; matched = 0 }} {y = ignored k} refl refl
heard_pins Loopback k f = refl
heard_pins ListenOnly k f = either (λ (h : Received). h.core.pins ≡ k.pins) (is_bus_off k.control.counters) {x = ignored k} {y = received_of k f} refl refl
heard_pins Configuration k f = refl

ends_pins : (x : Bool) (k : Core) (b : TxBuffer) (e : End) → (ends_in x k b e).core.pins ≡ k.pins
unfolding received_of
ends_pins true k b Sent = refl
ends_pins true k b LostArbitration = refl
ends_pins true k b Failed = refl
ends_pins false k b e = refl

flight_pins : (l : Option TxBuffer) (k : Core) (e : End) → (ends_by l k e).core.pins ≡ k.pins
flight_pins None k e = refl
flight_pins (Some b) k e = ends_pins (is_loopback k.control.state.mode) k b e

happens_pins : (q : Option Kind) (k : Core) (r : List ℕ) → (q ≡ Some PinLevel → ⊥) → (happens_by q k r).core.pins ≡ k.pins
unfolding heard_of idled ended
happens_pins (Some SelectLow) k r n = refl
happens_pins (Some Exchange) k r n = refl
happens_pins (Some SelectHigh) k r n = refl
happens_pins (Some FrameHeard) k r n = heard_pins k.control.state.mode k (frame_of r)
happens_pins (Some BusIdle) k r n = refl
happens_pins (Some FrameEnds) k r n = flight_pins k.control.state.flight k (end_of (byte_at r 1))
happens_pins (Some ReceiveError) k r n = refl
happens_pins (Some Recovery) k r n = refl
happens_pins (Some PinLevel) k r n = absurd (n refl)
happens_pins None k r n = refl

event_pins : (k : Core) (r : List ℕ) → (kind_of r ≡ Some PinLevel → ⊥) → (event_of k r).core.pins ≡ k.pins
unfolding event_of
event_pins k r n =
    either (λ (t : Told). t.core.pins ≡ k.pins) (eqb (event_refusal k.control r) accepted)
    {x = told_of (happens_by (kind_of r) k r)} {y = refused_by (event_refusal k.control r) k} (happens_pins (kind_of r) k r n) refl

pub pins_kept : PinsKept
pins_kept c r n =
    step_core (λ (k : Core). k.pins ≡ c.core.pins) c r (event_pins c.core r n) (acted-pins (asked c.select r) c.core)
