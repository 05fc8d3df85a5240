-- Isolation: what a record of the panel asks of the core, and what that leaves as it was. Assumes nothing.
use Rattle.std.proofs.Common.{Option, Some, None}
use mathlib.Core.Bool.{Bool, true, false, cond, not, ◌&&◌, ◌||◌}
use mathlib.Core.List.{List, ◌++◌}
use mathlib.Core.Path.{◌≡◌, refl, sym, ap, ap₂, subst, ◌∙◌}
use Prim.Native.Nat.{ℕ, ◌%◌, ◌<◌, ◌≤◌}
use native.Mathlib.Omega.{arith}
use lib.Dec.{eqb, ltb, ltb→lt}
use lib.Bits.{bit_and, and_le_r, and_mod}
use lib.ListN.{set}
use lib.Seq.{get_or-set_other, take-set-le, drop-set-lt}
use borrow.Author.Tests.{not-true, eqb-true, ltb-true}
use Rattle.bits.specs.Bit.{has_bit, set_bit, clear_bit}
use Rattle.bits.proofs.All.{every, agree}
use Rattle.bits.proofs.Laws.{set_bitwise}
use Rattle.records.specs.declared.Kind.{Kind}
use Rattle.records.specs.declared.Kind.TheVariants.{SelectLow, Exchange, SelectHigh, FrameHeard, BusIdle, FrameEnds, ReceiveError, Recovery, PinLevel}
use Rattle.records.specs.Records.{byte_at, kind_of, is_event, sound_of}
use Rattle.registers.specs.declared.Mode.{Mode}
use Rattle.registers.specs.declared.TxBuffer.TheVariants.{Txb0, Txb1, Txb2}
use Rattle.registers.specs.declared.RxBuffer.TheVariants.{Rxb0, Rxb1}
use Rattle.registers.specs.declared.Flags.{Flags}
use Rattle.registers.specs.declared.TxControl.{TxControl}
use Rattle.registers.specs.declared.RxControl.{RxControl}
use Rattle.registers.specs.declared.Region.{Region}
use Rattle.registers.specs.declared.Region.TheVariants.{Filters, Masks, Configured, Bfpctrl, Txrtsctrl, Tec, Rec, Caninte, Canintf, Eflg, Canstat, Canctrl, TxCtrl, TxMessage, RxCtrl, RxMessage}
use Rattle.registers.specs.declared.State.{State}
use Rattle.registers.specs.declared.Control.{Control}
use Rattle.registers.specs.declared.Core.{Core}
use Rattle.registers.specs.State.{txreq_bit, rx1if_bit, aborts_all, is_idle, tx_control, with_canintf, with_request, with_control, with_tx_bytes}
use Rattle.registers.specs.Registers.{region_of, rx_control, holds_in, holds}
use Rattle.registers.specs.Modes.{sends_in, waits, entered, free_to_change, settled_by, settled}
use Rattle.stores.specs.Store.{message_stored, stored_in, stored, raised_from, requested_of, requested_to_send}
use Rattle.controller.specs.Events.{settled_core}
use Rattle.spi.specs.declared.Speaker.{Speaker}
use Rattle.spi.specs.declared.Speaker.TheVariants.{Controller, Panel}
use Rattle.spi.specs.declared.Select.{Select}
use Rattle.spi.specs.declared.Select.TheVariants.{Raised, Lowered}
use Rattle.spi.specs.declared.Command.{Command}
use Rattle.spi.specs.declared.Command.TheVariants.{Reset, Read, Write, BitModify, ReadRxBuffer, LoadTxBuffer, Rts, ReadStatus, RxStatus, UnknownCode}
use Rattle.spi.specs.declared.Instruction.{Instruction}
use Rattle.spi.specs.declared.Instruction.TheVariants.{First, ReadAddress, Reading, WriteAddress, Writing, ModifyAddress, ModifyMask, ModifyData, ReadingBuffer, StatusReply, RxStatusReply, Done}
use Rattle.spi.specs.declared.Act.{Act}
use Rattle.spi.specs.declared.Act.TheVariants.{Rest, ResetAll, Fetch, Store, Modify, RequestToSend, ClearFlag, FetchStatus, FetchRxStatus, Refuse}
use Rattle.spi.specs.Instructions.{command_of, same_speaker, panel_reads, permitted, in_message, first_act, act_by, high_act, cleared_of, acted}
use Rattle.spi.proofs.Clash.{clash}
use Rattle.mcp2515.specs.declared.Chip.{Chip}
use Rattle.mcp2515.specs.Step.{power_on, speaker_in, asked_by, asked, next_chip, chip_after}
use Rattle.mcp2515.specs.Panel.{is_panel, panel_selected, is_panel_record, is_guarded_in, is_guarded, GuardedKept, control_beside, message_first, message_end, bytes_beside, core_beside, PanelChanges}
use Rattle.mcp2515.proofs.CoreFacts.{Good, TxByte}
use Rattle.mcp2515.proofs.CoreKept.{either}
use Rattle.mcp2515.proofs.CoreRegions.{tx_region}
use Rattle.mcp2515.proofs.Session.{spi_next}
use Rattle.mcp2515.proofs.Reached.{stays, good_reached}

-- ---- what the panel can ask
abbrev is_panel_act : Act → Bool
is_panel_act Rest = true
is_panel_act ResetAll = false
is_panel_act (Fetch a) = true
is_panel_act (Store a b) = in_message 0x50 a
is_panel_act (Modify a m b) = false
is_panel_act (RequestToSend m) = eqb m 4
is_panel_act (ClearFlag n) = panel_reads n
is_panel_act FetchStatus = true
is_panel_act FetchRxStatus = true
is_panel_act (Refuse n) = true

abbrev Asks : Act → Type 0
Asks x = is_panel_act x ≡ true

-- what is asked under its own test
guarded_by : (b : Bool) (x : Act) → (b ≡ true → Asks x) → Asks (cond b x Rest)
guarded_by true x f = f refl
guarded_by false x f = refl

first_asks : (m : Command) → Asks (first_act (permitted m))
first_asks Reset = refl
first_asks Read = refl
first_asks Write = refl
first_asks BitModify = refl
first_asks (ReadRxBuffer Rxb0 a) = refl
first_asks (ReadRxBuffer Rxb1 a) = refl
first_asks (LoadTxBuffer Txb0 a) = refl
first_asks (LoadTxBuffer Txb1 a) = refl
first_asks (LoadTxBuffer Txb2 a) = refl
first_asks (Rts m) = go (eqb m 4) refl
  where
    go : (b : Bool) → eqb m 4 ≡ b → Asks (first_act (cond b (Rts m) UnknownCode))
    go true e = e
    go false e = refl
first_asks ReadStatus = refl
first_asks RxStatus = refl
first_asks UnknownCode = refl

act_asks : (i : Instruction) (b : ℕ) → Asks (act_by Panel i b)
act_asks First b = first_asks (command_of b)
act_asks ReadAddress b = refl
act_asks (Reading a) b = refl
act_asks WriteAddress b = refl
act_asks (Writing a) b = guarded_by (in_message 0x50 a) (Store a b) (λ e. e)
act_asks ModifyAddress b = refl
act_asks (ModifyMask a) b = refl
act_asks (ModifyData a m) b = refl
act_asks (ReadingBuffer n a) b = guarded_by (panel_reads n && in_message 0x70 a) (Fetch a) (λ e. refl)
act_asks StatusReply b = refl
act_asks RxStatusReply b = refl
act_asks Done b = refl

high_asks : (i : Instruction) → Asks (high_act Panel i)
high_asks First = refl
high_asks ReadAddress = refl
high_asks (Reading a) = refl
high_asks WriteAddress = refl
high_asks (Writing a) = refl
high_asks ModifyAddress = refl
high_asks (ModifyMask a) = refl
high_asks (ModifyData a m) = refl
high_asks (ReadingBuffer Rxb0 a) = refl
high_asks (ReadingBuffer Rxb1 a) = refl
high_asks StatusReply = refl
high_asks RxStatusReply = refl
high_asks Done = refl

-- either speaker, in its own session or in that of the other, with the panel among them
spoken_asks : (q p : Speaker) (x : Speaker → Act) → (is_panel p || is_panel q) ≡ true → Asks (x Panel) → Asks (cond (same_speaker q p) (x q) (Refuse 18))
spoken_asks Controller Controller x e h = clash (sym e)
spoken_asks Controller Panel x e h = refl
spoken_asks Panel Controller x e h = refl
spoken_asks Panel Panel x e h = h

asks_by : (g : Option Kind) (s : Select) (p : Speaker) (b : ℕ) → (is_panel p || panel_selected s) ≡ true → Asks (asked_by g s p b)
asks_by (Some SelectLow) Raised p b e = refl
asks_by (Some SelectLow) (Lowered q i) p b e = refl
asks_by (Some Exchange) Raised p b e = refl
asks_by (Some Exchange) (Lowered q i) p b e = spoken_asks q p (λ w. act_by w i b) e (act_asks i b)
asks_by (Some SelectHigh) Raised p b e = refl
asks_by (Some SelectHigh) (Lowered q i) p b e = spoken_asks q p (λ w. high_act w i) e (high_asks i)
asks_by (Some FrameHeard) s p b e = refl
asks_by (Some BusIdle) s p b e = refl
asks_by (Some FrameEnds) s p b e = refl
asks_by (Some ReceiveError) s p b e = refl
asks_by (Some Recovery) s p b e = refl
asks_by (Some PinLevel) s p b e = refl
asks_by None s p b e = refl

panel_asks : (s : Select) (r : List ℕ) → (is_panel (speaker_in r) || panel_selected s) ≡ true → Asks (asked s r)
unfolding asked
panel_asks s r e = either Asks (sound_of r) (asks_by (kind_of r) s (speaker_in r) (byte_at r 1) e) refl

and_parts : (x y : Bool) → x && y ≡ true → (x ≡ true) × (y ≡ true)
and_parts true y e = (refl, e)
and_parts false y e = clash (sym e)

-- the core after a record of the panel is that of an act that it may ask
panel_core : (P : Core → Type 0) (c : Chip) (r : List ℕ) → is_panel_record c r ≡ true
    → ((x : Act) → Asks x → P (acted x c.core)) → P (next_chip c r).core
panel_core P c r e f =
    let w = and_parts (not (is_event (kind_of r))) (is_panel (speaker_in r) || panel_selected c.select) e in
    subst (λ (d : Chip). P d.core) (sym (spi_next c r (not-true (is_event (kind_of r)) w.0)))
    (f (asked c.select r) (panel_asks c.select r w.1))

-- ---- where it may store
own_byte : (a : ℕ) → in_message 0x50 a ≡ true → TxByte Txb2 (a % 128)
own_byte a e =
    let w = and_parts (ltb 0x50 (a % 128)) (ltb (a % 128) 0x5E) e in
    record { from = omega (arith, ltb-true 0x50 (a % 128) w.0); to = omega (arith, ltb-true (a % 128) 0x5E w.1) }

own_store : (k : Core) (a v : ℕ) → in_message 0x50 a ≡ true → stored k a v ≡ message_stored k Txb2 (a % 128) v
unfolding stored
own_store k a v e =
    let z : a % 128 % 128 ≡ a % 128 = omega arith in
    ap (λ (g : Region). stored_in g k (a % 128) v) (rw z at (tx_region Txb2 (a % 128) (own_byte a e)))

abbrev is_tx_message : Region → Bool
is_tx_message Filters = false
is_tx_message Masks = false
is_tx_message Configured = false
is_tx_message Bfpctrl = false
is_tx_message Txrtsctrl = false
is_tx_message Tec = false
is_tx_message Rec = false
is_tx_message Caninte = false
is_tx_message Canintf = false
is_tx_message Eflg = false
is_tx_message Canstat = false
is_tx_message Canctrl = false
is_tx_message (TxCtrl b) = false
is_tx_message (TxMessage b) = true
is_tx_message (RxCtrl b) = false
is_tx_message RxMessage = false

-- the message bytes of TXB0 and TXB1 lie below those of TXB2
below_own : (y : ℕ) → y < 128 → is_guarded_in (region_of y) y ≡ true → is_tx_message (region_of y) ≡ true → y % 48 < 0x21
unfolding region_of
below_own y h g m =
    ltb→lt (y % 48) 0x21 (rw (g, m) at (every (λ y. not (is_guarded_in (region_of y) y && is_tx_message (region_of y)) || ltb (y % 48) 0x21) 128 tt y h))

-- ---- the mode request leaves what is guarded
record Same (c d : Control) : Type 0 where
  flags : d.flags ≡ c.flags
  tx : d.tx ≡ c.tx
  rx : d.rx ≡ c.rx

settled_same : (c : Control) → Same c (settled c)
unfolding settled entered
settled_same c = go c.state.request
  where
    here : Same c c
    here = record { flags = refl; tx = refl; rx = refl }

    go : (q : Option Mode) → Same c (settled_by q c)
    go None = here
    go (Some m) = either (Same c) (free_to_change c) {x = entered (with_request c None) m} {y = c} (record { flags = refl; tx = refl; rx = refl }) here

settled_guarded : (g : Region) (k : Core) (y : ℕ) → is_guarded_in g y ≡ true → holds_in g (settled_core k) y ≡ holds_in g k y
settled_guarded Filters k y e = refl
settled_guarded Masks k y e = refl
settled_guarded Configured k y e = refl
settled_guarded Bfpctrl k y e = clash (sym e)
settled_guarded Txrtsctrl k y e = clash (sym e)
settled_guarded Tec k y e = clash (sym e)
settled_guarded Rec k y e = clash (sym e)
settled_guarded Caninte k y e = clash (sym e)
settled_guarded Canintf k y e = clash (sym e)
settled_guarded Eflg k y e = clash (sym e)
settled_guarded Canstat k y e = clash (sym e)
settled_guarded Canctrl k y e = ap (λ (f : Flags). f.canctrl) (settled_same k.control).flags
settled_guarded (TxCtrl b) k y e = ap (λ (t : TxControl). tx_control t b) (settled_same k.control).tx
settled_guarded (TxMessage b) k y e = refl
settled_guarded (RxCtrl b) k y e = ap (λ (t : RxControl). rx_control t b) (settled_same k.control).rx
settled_guarded RxMessage k y e = refl

-- ---- and so does each act before it
message_guarded : (g : Region) (k : Core) (i w y : ℕ) → 0x21 ≤ i → is_guarded_in g y ≡ true → (is_tx_message g ≡ true → y % 48 < 0x21)
    → holds_in g (with_tx_bytes k (set k.tx i w)) y ≡ holds_in g k y
message_guarded Filters k i w y h e f = refl
message_guarded Masks k i w y h e f = refl
message_guarded Configured k i w y h e f = refl
message_guarded Bfpctrl k i w y h e f = refl
message_guarded Txrtsctrl k i w y h e f = refl
message_guarded Tec k i w y h e f = refl
message_guarded Rec k i w y h e f = refl
message_guarded Caninte k i w y h e f = refl
message_guarded Canintf k i w y h e f = refl
message_guarded Eflg k i w y h e f = refl
message_guarded Canstat k i w y h e f = refl
message_guarded Canctrl k i w y h e f = refl
message_guarded (TxCtrl b) k i w y h e f = refl
message_guarded (TxMessage b) k i w y h e f = get_or-set_other k.tx i (y % 48) w 0 (λ z. omega (arith, f refl))
message_guarded (RxCtrl b) k i w y h e f = refl
message_guarded RxMessage k i w y h e f = refl

request_guarded : (g : Region) (k : Core) (y : ℕ) → is_guarded_in g y ≡ true → holds_in g (with_control k (requested_to_send k.control 4)) y ≡ holds_in g k y
unfolding requested_to_send
request_guarded Filters k y e = refl
request_guarded Masks k y e = refl
request_guarded Configured k y e = refl
request_guarded Bfpctrl k y e = refl
request_guarded Txrtsctrl k y e = refl
request_guarded Tec k y e = refl
request_guarded Rec k y e = refl
request_guarded Caninte k y e = refl
request_guarded Canintf k y e = refl
request_guarded Eflg k y e = refl
request_guarded Canstat k y e = clash (sym e)
request_guarded Canctrl k y e = refl
request_guarded (TxCtrl Txb0) k y e = refl
request_guarded (TxCtrl Txb1) k y e = refl
request_guarded (TxCtrl Txb2) k y e = clash (sym e)
request_guarded (TxMessage b) k y e = refl
request_guarded (RxCtrl b) k y e = refl
request_guarded RxMessage k y e = refl

flag_guarded : (g : Region) (k : Core) (y : ℕ) → is_guarded_in g y ≡ true → holds_in g (with_control k (cleared_of k.control Rxb1)) y ≡ holds_in g k y
flag_guarded Filters k y e = refl
flag_guarded Masks k y e = refl
flag_guarded Configured k y e = refl
flag_guarded Bfpctrl k y e = refl
flag_guarded Txrtsctrl k y e = refl
flag_guarded Tec k y e = refl
flag_guarded Rec k y e = refl
flag_guarded Caninte k y e = refl
flag_guarded Canintf k y e = clash (sym e)
flag_guarded Eflg k y e = refl
flag_guarded Canstat k y e = clash (sym e)
flag_guarded Canctrl k y e = refl
flag_guarded (TxCtrl b) k y e = refl
flag_guarded (TxMessage b) k y e = refl
flag_guarded (RxCtrl b) k y e = refl
flag_guarded RxMessage k y e = refl

module _ (k : Core) (a : ℕ) (g : is_guarded a ≡ true) where
  abbrev Kept : Core → Type 0
  Kept j = holds j a ≡ holds k a

  -- before the mode request, and after it
  then_settled : (j : Core) → holds_in (region_of (a % 128)) j (a % 128) ≡ holds_in (region_of (a % 128)) k (a % 128) → Kept (settled_core j)
  unfolding holds
  then_settled j e = settled_guarded (region_of (a % 128)) j (a % 128) g ∙ e

  store_kept : (s v : ℕ) → in_message 0x50 s ≡ true → Kept (settled_core (stored k s v))
  store_kept s v e =
      let t : TxByte Txb2 (s % 128) = own_byte s e in
      then_settled (stored k s v)
      (rw (own_store k s v e)
      (message_guarded (region_of (a % 128)) k (s % 128 % 48) _ (a % 128) (omega (arith, t.from, t.to)) g (below_own (a % 128) (omega arith) g)))

  acted_kept : (x : Act) → Asks x → Kept (acted x k)
  acted_kept Rest e = then_settled k refl
  acted_kept ResetAll e = clash (sym e)
  acted_kept (Fetch b) e = then_settled k refl
  acted_kept (Store b v) e = store_kept b v e
  acted_kept (Modify b m v) e = clash (sym e)
  acted_kept (RequestToSend m) e = rw (eqb-true m 4 e) (then_settled (with_control k (requested_to_send k.control 4)) (request_guarded (region_of (a % 128)) k (a % 128) g))
  acted_kept (ClearFlag Rxb0) e = clash (sym e)
  acted_kept (ClearFlag Rxb1) e = then_settled (with_control k (cleared_of k.control Rxb1)) (flag_guarded (region_of (a % 128)) k (a % 128) g)
  acted_kept FetchStatus e = then_settled k refl
  acted_kept FetchRxStatus e = then_settled k refl
  acted_kept (Refuse n) e = refl

pub guarded_kept : GuardedKept
guarded_kept c r e a g = panel_core (λ (j : Core). holds j a ≡ holds c.core a) c r e (acted_kept c.core a g)

-- ---- in one line
-- a mode request that was held back is so still, where the state is the same and a TXREQ stays
holds_back : (s w v i : Bool) → (w ≡ true → v ≡ true) → (not s || (not w && i)) ≡ false → (not s || (not v && i)) ≡ false
holds_back true true v i f e = rw (f refl) refl
holds_back true false true i f e = refl
holds_back true false false i f e = e
holds_back false w v i f e = clash e

still_settled : (c d : Control) → d.state ≡ c.state → (waits c.tx ≡ true → waits d.tx ≡ true) → settled c ≡ c → settled d ≡ d
unfolding settled free_to_change
still_settled c d e f g = go c.state.request refl
  where
    held : (m : Mode) → c.state.request ≡ Some m → free_to_change d ≡ false
    held m h =
        ap (λ (x : State). not (sends_in x.mode) || (not (waits d.tx) && is_idle x.flight)) e
        ∙ holds_back (sends_in c.state.mode) (waits c.tx) (waits d.tx) (is_idle c.state.flight) f (stays (Some m) c h g refl)

    go : (q : Option Mode) → c.state.request ≡ q → settled_by d.state.request d ≡ d
    go None h = ap (λ (x : State). settled_by x.request d) e ∙ ap (λ (q : Option Mode). settled_by q d) h
    go (Some m) h =
        ap (λ (x : State). settled_by x.request d) e ∙ ap (λ (q : Option Mode). settled_by q d) h
        ∙ ap (λ (b : Bool). cond b (entered (with_request d None) m) d) (held m h)

-- RTS clears no TXREQ
request_stays : (c : Control) (old : ℕ) → has_bit old txreq_bit ≡ true → has_bit (requested_of c old) txreq_bit ≡ true
unfolding requested_of
request_stays c old e =
    either (λ (x : ℕ). has_bit x txreq_bit ≡ true) (aborts_all c) {x = old} {y = raised_from old (set_bit old txreq_bit)} e
    (rw e (set_bitwise old txreq_bit txreq_bit (omega arith) (omega arith)))

or_last : (x y z w : Bool) → (z ≡ true → w ≡ true) → (x || y || z) ≡ true → (x || y || w) ≡ true
or_last true y z w f e = refl
or_last false true z w f e = refl
or_last false false z w f e = f e

request_waits : (c : Control) → waits c.tx ≡ true → waits (requested_to_send c 4).tx ≡ true
unfolding requested_to_send
request_waits c e =
    or_last (has_bit c.tx.txb0 txreq_bit) (has_bit c.tx.txb1 txreq_bit) (has_bit c.tx.txb2 txreq_bit) _ (request_stays c c.tx.txb2) e

-- clearing a bit again changes nothing
low_byte : (x : ℕ) → bit_and x 253 ≡ bit_and (x % 256) 253
low_byte x = let e : bit_and x 253 % 256 ≡ bit_and x 253 = omega (arith, and_le_r x 253) in sym e ∙ and_mod x 253 8

cleared_twice : (x : ℕ) → clear_bit (clear_bit x rx1if_bit) rx1if_bit ≡ clear_bit x rx1if_bit
cleared_twice x = rw (low_byte x) (agree (λ y. bit_and (bit_and y 253) 253) (λ y. bit_and y 253) 256 tt (x % 256) (omega arith))

-- a store within 51h to 5Dh
beside_bytes : (l : List ℕ) (i v : ℕ) → 0x21 ≤ i → i < 0x2E → bytes_beside (set l i v) ≡ bytes_beside l
beside_bytes l i v h e = ap₂ (λ (x y : List ℕ). x ++ y) (take-set-le message_first l i v (omega (arith, h))) (drop-set-lt message_end l i v (omega (arith, e)))

-- each act, where no mode request can be carried out before it
module _ (k : Core) (g : Good k) where
  abbrev Beside : Core → Type 0
  Beside j = core_beside j ≡ core_beside k

  settled_here : settled k.control ≡ k.control
  settled_here = ap (λ (j : Core). j.control) g

  store_beside : (s v : ℕ) → in_message 0x50 s ≡ true → Beside (settled_core (stored k s v))
  store_beside s v e =
      let t : TxByte Txb2 (s % 128) = own_byte s e in
      let b : bytes_beside (message_stored k Txb2 (s % 128) v).tx ≡ bytes_beside k.tx =
      beside_bytes k.tx (s % 128 % 48) _ (omega (arith, t.from, t.to)) (omega (arith, t.from, t.to)) in
      rw (own_store k s v e) (λ z. record { control = control_beside (settled_here z); config = k.config; tx = b z; rx = k.rx; pins = k.pins })

  request_beside : Beside (settled_core (with_control k (requested_to_send k.control 4)))
  unfolding requested_to_send
  request_beside =
      let d : Control = requested_to_send k.control 4 in
      ap (λ (c : Control). core_beside (with_control k c)) (still_settled k.control d refl (request_waits k.control) settled_here)

  flag_beside : Beside (settled_core (with_control k (cleared_of k.control Rxb1)))
  flag_beside =
      let d : Control = cleared_of k.control Rxb1 in
      ap (λ (c : Control). core_beside (with_control k c)) (still_settled k.control d refl (λ h. h) settled_here)
      ∙ ap (λ (x : ℕ). with_control (core_beside k) (with_canintf (control_beside k.control) x)) (cleared_twice k.control.flags.canintf)

  beside_acted : (x : Act) → Asks x → Beside (acted x k)
  beside_acted Rest e = ap core_beside g
  beside_acted ResetAll e = clash (sym e)
  beside_acted (Fetch b) e = ap core_beside g
  beside_acted (Store b v) e = store_beside b v e
  beside_acted (Modify b m v) e = clash (sym e)
  beside_acted (RequestToSend m) e = rw (eqb-true m 4 e) request_beside
  beside_acted (ClearFlag Rxb0) e = clash (sym e)
  beside_acted (ClearFlag Rxb1) e = flag_beside
  beside_acted FetchStatus e = ap core_beside g
  beside_acted FetchRxStatus e = ap core_beside g
  beside_acted (Refuse n) e = refl

pub panel_changes : PanelChanges
panel_changes rs r e =
    let c = chip_after power_on rs in
    panel_core (λ (j : Core). core_beside j ≡ core_beside c.core) c r e (beside_acted c.core (good_reached rs))
