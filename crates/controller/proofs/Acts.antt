-- What the acts on an image have in common, and what the image says of mode, flight and messages. Assumes nothing.
use mathlib.Core.Path.{◌≡◌, refl, ap, sym, subst, ◌∙◌}
use mathlib.Core.Bool.{Bool, true, false, cond, not, ◌&&◌}
use mathlib.Core.Logic.{◌⊎◌, inl, inr}
use mathlib.Core.List.{List, [], ◌∷◌}
use Prim.Native.Nat.{ℕ, ◌+◌, ◌-◌, ◌*◌, ◌/◌, ◌%◌, ◌<◌, ◌≤◌}
use native.Mathlib.Omega.{arith}
use lib.ListN.{length, get_or, set, take, drop}
use lib.Dec.{eqb}
use Rattle.std.proofs.lemmas.List.{drop_more}
use lib.Seq.{get_or-take, get_or-drop, get_or-set_other}
use Rattle.bits.specs.Bit.{has_bit, set_bit, clear_bit}
use Rattle.records.specs.declared.Frame.{Frame}
use Rattle.records.specs.declared.Fields.{Fields}
use Rattle.records.specs.declared.Kind.{Kind}
use Rattle.records.specs.declared.Refusal.{Refusal}
use Rattle.records.proofs.Refusals.{number_some}
use borrow.Author.Tests.{ne_eqb}
use Rattle.records.specs.declared.Outcome.{Outcome}
use Rattle.std.proofs.Common.{Option, Some, None, Result, Ok, Err}
use Rattle.records.specs.Records.{accepted, refused_field, refused_outcome, refusal_number, kind_by, kind_of, kind_or_refusal, sound_by, sound_of, record_of}
use Rattle.registers.specs.declared.Mode.{Mode}
use Rattle.registers.specs.declared.Mode.TheVariants.{Loopback, Configuration}
use Rattle.registers.specs.declared.TxBuffer.{TxBuffer}
use Rattle.registers.specs.declared.TxBuffer.TheVariants.{Txb0, Txb1, Txb2}
use Rattle.registers.specs.declared.Control.{Control}
use Rattle.registers.specs.declared.Pins.{Pins}
use Rattle.registers.specs.declared.Core.{Core}
use Rattle.registers.specs.State.{wakif_bit, txreq_bit, tx_number, tx_flag, is_normal, is_loopback, with_counters, with_flight, with_control, with_level, with_pins, rts_bit}
use Rattle.receiving.specs.declared.Reception.TheVariants.{Woke}
use Rattle.receiving.specs.Receiving.{reception_number, received_of}
use Rattle.receiving.specs.AnswerSets.{wanted_set, AnswerSet, answer_set_to, plain_answer}
use Rattle.image.specs.Image.{image_size, mode_of, flight_of, decoded, control_of, pins_of, core_of, Became}
use Rattle.image.proofs.Laws.{flight_back, unmarked, mark_one, marked, followed}
use Rattle.image.proofs.Places.{config_byte}
use Rattle.registers.proofs.Falling.{sent_falling}
use Rattle.registers.specs.Errors.{tec_less}
use Rattle.controller.specs.declared.End.{End}
use Rattle.controller.specs.declared.End.TheVariants.{LostArbitration, Failed}
use Rattle.controller.specs.Sending.{end_of, counted, sent_by, frame_at}
use Rattle.stores.specs.Store.{requested_to_send}
use Rattle.receiving.proofs.Stored.{unchanged}
use Rattle.controller.specs.Events.{ignored, woken_control, sleeping, heard_in, heard_of, ends_in, ends_by, ended, finished, refusal_by, event_refusal, refused_by, told_of, happens_by, event_of, outcome_told, settled_core, answer_set_of, pin_of, falls_enabled, pin_requested, pin_moved}

-- ---- control registers changed and put back
pub packed : {m n : List ℕ} {c d : Control} → Became m n (with_control (core_of m) c) → c ≡ d → Became m n (with_control (core_of m) d)
packed w p = rw p at w

-- ---- a frame received by an image n, which m has become
pub received : {m n p : List ℕ} {k : Core} {r : AnswerSet} (wanted : Bool) (f : Frame) → Became m n k
    → r ≡ answer_set_to wanted (received_of (core_of n) f) → Became n p (received_of (core_of n) f).core
    → (r ≡ answer_set_to wanted (received_of k f)) × Became m p (received_of k f).core
received wanted f w a b =
    (a ∙ ap (λ (k : Core). answer_set_to wanted (received_of k f)) w.core, followed (λ (k : Core). (received_of k f).core) w b)

-- an empty set is empty, asked for or not
pub plainly : {r : AnswerSet} {n : ℕ} (wanted : Bool) → r ≡ plain_answer n → r ≡ record { answer = n; matched = wanted_set wanted 0 }
plainly true p = p
plainly false p = p

pub refusal-wanted : (wanted : Bool) (n : ℕ) → refused_outcome n ≡ record { refusal = n; answer = 0; matched = wanted_set wanted 0 }
refusal-wanted true n = refl
refusal-wanted false n = refl

asleep : (k : Core) → (sleeping k).matched ≡ 0
asleep k = go (has_bit k.control.flags.caninte wakif_bit)
  where
    go : (b : Bool) → (cond b (record { core = with_control k (woken_control k.control); answer = Woke; matched = 0 }) (ignored k)).matched ≡ 0
    go true = refl
    go false = refl

-- in Sleep no filter is asked
pub slept : (wanted : Bool) (k : Core) {r : AnswerSet} → r ≡ plain_answer (reception_number (sleeping k).answer) → r ≡ answer_set_to wanted (sleeping k)
slept wanted k p =
    plainly wanted p
    ∙ ap (λ (m : ℕ). record { answer = reception_number (sleeping k).answer; matched = wanted_set wanted m }) (sym (asleep k))

-- what an accepted event tells
abbrev pub accepted_of : AnswerSet → Outcome
accepted_of r = record { refusal = accepted; answer = r.answer; matched = r.matched }

-- ---- the buffer in flight, by its number
pub flight_put : (m : List ℕ) (b : TxBuffer) → length m ≡ image_size → Became m (set m 141 (tx_number b)) (with_control (core_of m) (with_flight (control_of m) (Some b)))
unfolding decoded
flight_put m b e =
    marked (mark_one (unmarked m e) 141 (tx_number b) (omega arith) (omega arith)) (with_flight (control_of m) (Some b))
    (ap (λ (f : Option TxBuffer). with_flight (control_of m) f) (flight_back (Some b)))

-- ---- a frame that was sent, in place
pub sent_marked : (m : List ℕ) (b : TxBuffer) → length m ≡ image_size
    → Became m (set (set (set m (132 + tx_number b) (clear_bit (get_or m (132 + tx_number b) 0) txreq_bit)) 130
    (set_bit (get_or (set m (132 + tx_number b) (clear_bit (get_or m (132 + tx_number b) 0) txreq_bit)) 130 0) (tx_flag b))) 141 3)
    (with_control (core_of m) (sent_by (control_of m) b))
unfolding decoded sent_by
sent_marked m Txb0 e = marked (mark_one (mark_one (mark_one (unmarked m e) 132 _ (omega arith) (omega arith)) 130 _ (omega arith) (omega arith)) 141 3 (omega arith) (omega arith)) _ (rw (get_or-set_other m 132 130 _ 0 (λ z. omega arith)))
sent_marked m Txb1 e = marked (mark_one (mark_one (mark_one (unmarked m e) 133 _ (omega arith) (omega arith)) 130 _ (omega arith) (omega arith)) 141 3 (omega arith) (omega arith)) _ (rw (get_or-set_other m 133 130 _ 0 (λ z. omega arith)))
sent_marked m Txb2 e = marked (mark_one (mark_one (mark_one (unmarked m e) 134 _ (omega arith) (omega arith)) 130 _ (omega arith) (omega arith)) 141 3 (omega arith) (omega arith)) _ (rw (get_or-set_other m 134 130 _ 0 (λ z. omega arith)))

-- TEC in its two bytes
pub tec-counted : (m : List ℕ) (x : ℕ) {mode : Mode} {c : Control} → length m ≡ image_size → is_normal mode ≡ true → mode ≡ mode_of (get_or m 140 0)
    → x ≡ c.counters.tec - 1 → c ≡ control_of m
    → Became m (set (set m 137 (x % 256)) 139 (x / 256)) (with_control (core_of m) (counted (control_of m) (tec_less (control_of m).counters)))
unfolding decoded
tec-counted m x e n p q a =
    let normal : is_normal (control_of m).state.mode ≡ true = ap is_normal (sym p) ∙ n in
    let less : x ≡ (control_of m).counters.tec - 1 = q ∙ ap (λ (d : Control). d.counters.tec - 1) a in
    let whole : x % 256 + x / 256 * 256 ≡ x = omega arith in
    marked (mark_one (mark_one (unmarked m e) 137 (x % 256) (omega arith) (omega arith)) 139 (x / 256) (omega arith) (omega arith)) _
    (ap (λ (t : ℕ). with_counters (control_of m) (record { tec = t; rec = get_or m 138 0 })) (whole ∙ less) ∙ sym (rw normal (sent_falling (control_of m))))

pub tec_kept : (m : List ℕ) {mode : Mode} → length m ≡ image_size → is_normal mode ≡ false → mode ≡ mode_of (get_or m 140 0)
    → Became m m (with_control (core_of m) (counted (control_of m) (tec_less (control_of m).counters)))
unfolding decoded
tec_kept m e n p =
    let other : is_normal (control_of m).state.mode ≡ false = ap is_normal (sym p) ∙ n in
    rw other (unchanged m e)

pub sent_counted : {m n p : List ℕ} (b : TxBuffer) → Became m n (with_control (core_of m) (sent_by (control_of m) b))
    → Became n p (with_control (core_of n) (counted (control_of n) (tec_less (control_of n).counters)))
    → Became m p (with_control (core_of m) (counted (sent_by (control_of m) b) (tec_less (control_of m).counters)))
unfolding sent_by
sent_counted b w v = followed (λ (k : Core). with_control k (counted k.control (tec_less k.control.counters))) w v

-- ---- a request pin
-- its level and its enable by the number of the buffer
pub pin_falls : (m : List ℕ) (b : TxBuffer) (high : Bool)
    → (has_bit (get_or m 13 0) (tx_number b) && (not (eqb (get_or m (143 + tx_number b) 0) 0) && not high)) ≡ falls_enabled (core_of m) b high
pin_falls m Txb0 high = rw (config_byte m 13 (omega arith))
pin_falls m Txb1 high = rw (config_byte m 13 (omega arith))
pin_falls m Txb2 high = rw (config_byte m 13 (omega arith))

pub pin_requested_lem : {m n : List ℕ} (b : TxBuffer) (high : Bool) → falls_enabled (core_of m) b high ≡ true
    → Became m n (with_control (core_of m) (requested_to_send (control_of m) (rts_bit b))) → Became m n (pin_requested (core_of m) b high)
pin_requested_lem b high f w = rw f w

pub pin_idle : {m : List ℕ} (b : TxBuffer) (high : Bool) → length m ≡ image_size → falls_enabled (core_of m) b high ≡ false
    → Became m m (pin_requested (core_of m) b high)
pin_idle {m} b high e f = rw f (unchanged m e)

-- a request moves no level
same_pins : (k : Core) (c : Control) (x : Bool) → (cond x (with_control k c) k).pins ≡ k.pins
same_pins k c true = refl
same_pins k c false = refl

-- the pin of number x, which is that of the buffer b
pub pin_moved_lem : {m n p : List ℕ} {b : TxBuffer} (x : ℕ) (high : Bool) → b ≡ pin_of x → Became m n (pin_requested (core_of m) b high)
    → Became n p (with_pins (core_of n) (with_level (pins_of n) b high)) → Became m p (pin_moved (core_of m) (pin_of x) high)
pin_moved_lem {m} {n} {p} {b} x high e w a =
    subst (λ (y : TxBuffer). Became m p (pin_moved (core_of m) y high)) e
    (subst (λ (q : Pins). Became m p (with_pins (pin_requested (core_of m) b high) (with_level q b high)))
    (same_pins (core_of m) (requested_to_send (control_of m) (rts_bit b)) (falls_enabled (core_of m) b high))
    (followed (λ (k : Core). with_pins k (with_level k.pins b high)) w a))

-- ---- by the mode and the flight that the image says
pub heard_by : (m : List ℕ) (f : Frame) (mode : Mode) → mode_of (get_or m 140 0) ≡ mode → heard_of (core_of m) f ≡ heard_in mode (core_of m) f
unfolding heard_of decoded
heard_by m f mode e = ap (λ (x : Mode). heard_in x (core_of m) f) e

pub deaf : (m : List ℕ) (f : Frame) {mode : Mode} → mode ≡ mode_of (get_or m 140 0) → (mode ≡ Loopback) ⊎ (mode ≡ Configuration) → heard_of (core_of m) f ≡ ignored (core_of m)
deaf m f e (inl p) = heard_by m f Loopback (sym e ∙ p)
deaf m f e (inr p) = heard_by m f Configuration (sym e ∙ p)

pub ended_idle : (m : List ℕ) (n : ℕ) → flight_of (get_or m 141 0) ≡ None → ended (core_of m) n ≡ ends_by None (core_of m) (end_of n)
unfolding ended decoded
ended_idle m n e = ap (λ (x : Option TxBuffer). ends_by x (core_of m) (end_of n)) e

pub ended_of : (m : List ℕ) (n : ℕ) (b : TxBuffer) (loopback : Bool) → flight_of (get_or m 141 0) ≡ Some b → is_loopback (mode_of (get_or m 140 0)) ≡ loopback
    → ended (core_of m) n ≡ ends_in loopback (core_of m) b (end_of n)
unfolding ended decoded
ended_of m n b loopback e q =
    ap (λ (x : Option TxBuffer). ends_by x (core_of m) (end_of n)) e ∙ ap (λ (l : Bool). ends_in l (core_of m) b (end_of n)) q

-- an end that is not sent is the same in Loopback
pub unsent : (loopback : Bool) (k : Core) (b : TxBuffer) {e : End} → (e ≡ LostArbitration) ⊎ (e ≡ Failed) → ends_in loopback k b e ≡ finished k b e
unsent true k b (inl p) = ap (ends_in true k b) p ∙ sym (ap (finished k b) p)
unsent true k b (inr p) = ap (ends_in true k b) p ∙ sym (ap (finished k b) p)
unsent false k b p = refl

-- ---- a message to send lies in the image as among the bytes to send
pub frame_there : (m : List ℕ) (o : ℕ) → o ≤ 32 → frame_at m (48 + o) ≡ frame_at (take 48 (drop 48 m)) o
unfolding frame_at
frame_there m o h = simp (there 1 (omega arith), there 2 (omega arith), there 3 (omega arith), there 4 (omega arith), there 5 (omega arith), there 6 (omega arith), there 7 (omega arith), there 8 (omega arith), there 9 (omega arith), there 10 (omega arith), there 11 (omega arith), there 12 (omega arith), there 13 (omega arith))
  where
    there : (j : ℕ) → j < 16 → get_or (take 48 (drop 48 m)) (o + j) 0 ≡ get_or m (48 + o + j) 0
    there j g =
        let e : 48 + (o + j) ≡ 48 + o + j = omega arith in
        get_or-take 48 (drop 48 m) (o + j) 0 (omega arith) ∙ get_or-drop 48 m (o + j) 0 ∙ ap (λ (i : ℕ). get_or m i 0) e

-- ---- the kind of a record taken apart
kind_field : (f : Fields) → kind_of (record_of f) ≡ kind_by f.kind
unfolding kind_of record_of
kind_field f = refl

kind_in : Result Kind Refusal → Option Kind
kind_in (Ok k) = Some k
kind_in (Err e) = None

back : (o : Option Kind) → o ≡ kind_in (kind_or_refusal o)
unfolding kind_in
back (Some k) = refl
back None = refl

pub known : (f : Fields) (k : Kind) → Ok k ≡ kind_or_refusal (kind_by f.kind) → kind_of (record_of f) ≡ Some k
unfolding kind_in
known f k p = kind_field f ∙ back _ ∙ ap kind_in (sym p)

error_in : Result Kind Refusal → ℕ
error_in (Ok k) = refused_field
error_in (Err e) = refusal_number e

field_error : (o : Option Kind) → error_in (kind_or_refusal o) ≡ refused_field
unfolding error_in
field_error (Some k) = refl
field_error None = refl

-- ---- an event that is refused
pub unsound : (c : Control) (r : List ℕ) → sound_of r ≡ false → refused_field ≡ event_refusal c r
unfolding event_refusal
unsound c r p = rw p refl

-- .. as of no kind
pub unknown : (c : Control) (f : Fields) (e : Refusal) → Err e ≡ kind_or_refusal (kind_by f.kind) → refusal_number e ≡ event_refusal c (record_of f)
unfolding sound_of kind_in error_in
unknown c f e p =
    let none : kind_of (record_of f) ≡ None = kind_field f ∙ back _ ∙ ap kind_in (sym p) in
    ap error_in p ∙ field_error _ ∙ unsound c (record_of f) (ap (λ (o : Option Kind). sound_by o (record_of f)) none)

-- .. or by the state
pub checked : (c : Control) (f : Fields) (k : Kind) (n : ℕ) → sound_of (record_of f) ≡ true → Ok k ≡ kind_or_refusal (kind_by f.kind)
    → n ≡ refusal_by (Some k) c (record_of f) → n ≡ event_refusal c (record_of f)
unfolding event_refusal
checked c f k n s p e = rw (s, known f k p) e

refused_event : (k : Core) (r : List ℕ) (e : Refusal) → refusal_number e ≡ event_refusal k.control r → event_of k r ≡ refused_by (refusal_number e) k
unfolding event_of
refused_event k r e p = rw (← p, ne_eqb _ _ (number_some e)) refl

pub refused_told : (wanted : Bool) (k : Core) (r : List ℕ) (e : Refusal) → refusal_number e ≡ event_refusal k.control r
    → refused_outcome (refusal_number e) ≡ outcome_told wanted (event_of k r)
refused_told wanted k r e p = refusal-wanted wanted _ ∙ sym (ap (outcome_told wanted) (refused_event k r e p))

pub refused_stays : (m : List ℕ) (r : List ℕ) (e : Refusal) → length m ≡ image_size → refusal_number e ≡ event_refusal (control_of m) r
    → Became m m (event_of (core_of m) r).core
refused_stays m r e h p = rw (refused_event (core_of m) r e p) (unchanged m h)

-- ---- an event that is accepted
accepted_event : (k : Core) (r : List ℕ) (o : Option Kind) → kind_of r ≡ o → 0 ≡ event_refusal k.control r → event_of k r ≡ told_of (happens_by o k r)
unfolding event_of
accepted_event k r o p e = rw (← e, p) refl

pub accepted_told : {m n p : List ℕ} (wanted : Bool) (f : Fields) (k : Kind) (a : AnswerSet) → Ok k ≡ kind_or_refusal (kind_by f.kind)
    → sound_of (record_of f) ≡ true → 0 ≡ refusal_by (Some k) (control_of m) (record_of f)
    → a ≡ answer_set_of wanted (happens_by (Some k) (core_of m) (record_of f)) → Became m n (happens_by (Some k) (core_of m) (record_of f)).core
    → Became n p (settled_core (core_of n))
    → (accepted_of a ≡ outcome_told wanted (event_of (core_of m) (record_of f))) × Became m p (event_of (core_of m) (record_of f)).core
accepted_told {m} wanted f k a q s e r w v =
    let t = accepted_event (core_of m) (record_of f) (Some k) (known f k q) (checked (control_of m) f k 0 s q e) in
    rw t (ap accepted_of r, followed settled_core w v)

-- ---- eight data bytes, one by one
pub eight_bytes : (m : List ℕ) (at : ℕ) → at + 14 ≤ length m
    → take 8 (drop (at + 6) m) ≡ get_or m (at + 6) 0 ∷ get_or m (at + 7) 0 ∷ get_or m (at + 8) 0 ∷ get_or m (at + 9) 0 ∷ get_or m (at + 10) 0 ∷ get_or m (at + 11) 0 ∷ get_or m (at + 12) 0 ∷ get_or m (at + 13) 0 ∷ []
eight_bytes m at h = simp (next 6 (omega arith), next 7 (omega arith), next 8 (omega arith), next 9 (omega arith), next 10 (omega arith), next 11 (omega arith), next 12 (omega arith), next 13 (omega arith))
  where
    next : (i : ℕ) → i < 14 → drop (at + i) m ≡ get_or m (at + i) 0 ∷ drop (at + (1 + i)) m
    next i g =
        let e : at + i + 1 ≡ at + (1 + i) = omega arith in
        drop_more m (at + i) 0 (omega arith) ∙ ap (λ (j : ℕ). get_or m (at + i) 0 ∷ drop j m) e
