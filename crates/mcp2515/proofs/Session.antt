-- The laws of the SPI side from the facts of the core, and with them demand 3. Assumes nothing.
use Rattle.std.proofs.Common.{Option, Some, None}
use mathlib.Core.Bool.{Bool, true, false, cond, not, ◌&&◌}
use mathlib.Core.List.{List, [], ◌∷◌}
use mathlib.Core.Path.{◌≡◌, refl, sym, ap, subst, ◌∙◌}
use Prim.Native.Nat.{ℕ, zero, suc, ◌+◌, ◌/◌, ◌%◌, ◌≤◌, ◌<◌}
use native.Mathlib.Omega.{arith}
use lib.Dec.{eqb}
use borrow.Author.Tests.{not-true, lt-ltb}
use Rattle.records.specs.declared.Kind.{Kind}
use Rattle.records.specs.declared.Kind.TheVariants.{SelectLow, Exchange, SelectHigh, FrameHeard, BusIdle, FrameEnds, ReceiveError, Recovery, PinLevel}
use Rattle.records.specs.Records.{refused_speaker, byte_at, kind_of, is_event, sound_of}
use Rattle.registers.specs.declared.RxBuffer.{RxBuffer}
use Rattle.registers.specs.declared.RxBuffer.TheVariants.{Rxb0, Rxb1}
use Rattle.registers.specs.declared.TxBuffer.{TxBuffer}
use Rattle.registers.specs.declared.TxBuffer.TheVariants.{Txb0, Txb1, Txb2}
use Rattle.registers.specs.declared.Core.{Core}
use Rattle.registers.specs.State.{level_of}
use Rattle.controller.specs.Events.{falls_enabled, event_of}
use Rattle.spi.specs.declared.Speaker.{Speaker}
use Rattle.spi.specs.declared.Speaker.TheVariants.{Controller, Panel}
use Rattle.spi.specs.declared.Command.{Command}
use Rattle.spi.specs.declared.Command.TheVariants.{Reset, Read, Write, BitModify, ReadRxBuffer, LoadTxBuffer, Rts, ReadStatus, RxStatus, UnknownCode}
use Rattle.spi.specs.declared.Instruction.{Instruction}
use Rattle.spi.specs.declared.Instruction.TheVariants.{First, ReadAddress, Reading, WriteAddress, Writing, ModifyAddress, ModifyMask, ModifyData, ReadingBuffer, StatusReply, RxStatusReply, Done}
use Rattle.receiving.specs.Receiving.{is_full}
use Rattle.spi.specs.declared.Select.{Select}
use Rattle.spi.specs.declared.Select.TheVariants.{Raised, Lowered}
use Rattle.spi.specs.declared.Act.{Act}
use Rattle.spi.specs.declared.Act.TheVariants.{Rest, ResetAll, Fetch, Store, Modify, RequestToSend, ClearFlag, FetchStatus, FetchRxStatus, Refuse}
use Rattle.mcp2515.specs.declared.Chip.{Chip}
use Rattle.spi.specs.Instructions.{buffer_command, command_of, same_speaker, panel_reads, panel_loads, permitted, command_by, in_message, panel_goes_on, goes_on, first_act, opened, rising, exchange_act, exchange_next, act_by, next_by, high_act, reply_to, acted, refusal_of}
use Rattle.mcp2515.specs.declared.Stepped.{Stepped}
use Rattle.records.specs.declared.Outcome.{Outcome}
use Rattle.mcp2515.specs.Step.{power_on, speaker_in, asked_by, asked, turned_by, turned, spi_step, event_step, step_of, next_chip, outcome_in, outcome}
use Rattle.mcp2515.specs.Moments.{Role, event, low, exchange, high, other, accepted_role, role_of, Entry, bytes_from, most, moment_of, is_free, falls, no_fall, allowed, Demand3For}
use Rattle.mcp2515.proofs.CoreFacts.{Good, rx_base, tx_base, RxByte, TxByte, asks, CoreFacts}
use Rattle.spi.proofs.Turns.{by_cond, act_accepted, high_told}
use Rattle.mcp2515.proofs.Swap.{Stage, fresh, sofar, is_other, Event, role_at, named, entry, Swap, Laws, demand_3_by}

clash : {A : Type 0} → true ≡ false → A
clash e = absurd (let z : ◌≡◌ {A = ℕ} 0 1 = cc in omega arith)

and_first : (x y : Bool) → x && y ≡ true → x ≡ true
and_first true y e = refl
and_first false y e = e

and_second : (x y : Bool) → x && y ≡ true → y ≡ true
and_second true y e = e
and_second false y e = clash (sym e)

-- ---- what a role says of its record
abbrev is_session : Role → Bool
is_session event = false
is_session low = true
is_session exchange = true
is_session high = true
is_session other = false

abbrev kind_for : Role → Option Kind
kind_for event = None
kind_for low = Some SelectLow
kind_for exchange = Some Exchange
kind_for high = Some SelectHigh
kind_for other = None

abbrev role_by : Option Kind → Bool → Role
role_by κ b = cond (is_event κ) event (cond b (accepted_role κ) other)

record Kinds (κ : Option Kind) (b : Bool) (ρ : Role) : Type 0 where
  of_kind : κ ≡ kind_for ρ
  allowed_in : b ≡ true
  no_event : is_event κ ≡ false

kinds : (κ : Option Kind) (b : Bool) → is_session (role_by κ b) ≡ true → Kinds κ b (role_by κ b)
kinds (Some SelectLow) true e = record { of_kind = refl; allowed_in = refl; no_event = refl }
kinds (Some SelectLow) false e = clash (sym e)
kinds (Some Exchange) true e = record { of_kind = refl; allowed_in = refl; no_event = refl }
kinds (Some Exchange) false e = clash (sym e)
kinds (Some SelectHigh) true e = record { of_kind = refl; allowed_in = refl; no_event = refl }
kinds (Some SelectHigh) false e = clash (sym e)
kinds (Some FrameHeard) b e = clash (sym e)
kinds (Some BusIdle) b e = clash (sym e)
kinds (Some FrameEnds) b e = clash (sym e)
kinds (Some ReceiveError) b e = clash (sym e)
kinds (Some Recovery) b e = clash (sym e)
kinds (Some PinLevel) b e = clash (sym e)
kinds None true e = clash (sym e)
kinds None false e = clash (sym e)

-- An accepted record of the SPI side.
pub record Accepted (c : Chip) (r : List ℕ) (κ : Option Kind) : Type 0 where
  pub kind : kind_of r ≡ κ
  pub sound : sound_of r ≡ true
  pub plain : is_event (kind_of r) ≡ false
  pub taken : eqb (refusal_of (asked_by κ c.select (speaker_in r) (byte_at r 1))) 0 ≡ true

pub accepted_as : (c : Chip) (r : List ℕ) (ρ : Role) → is_session ρ ≡ true → role_at c r ≡ ρ → Accepted c r (kind_for ρ)
unfolding role_of step_of asked
accepted_as c r ρ s e = go (kinds (kind_of r) (eqb (outcome c r).refusal 0) (rw e s)) (sound_of r) refl
  where
    go : Kinds (kind_of r) (eqb (outcome c r).refusal 0) (role_at c r) → (b : Bool) → sound_of r ≡ b → Accepted c r (kind_for ρ)
    go k true h =
        let z : kind_of r ≡ kind_for ρ = rw e at k.of_kind in
        record { kind = z; sound = h; plain = k.no_event; taken = rw (k.no_event, h, z) at k.allowed_in }
    go k false h = clash (sym (rw (k.no_event, h) at k.allowed_in))

-- ---- acts
-- Rest and refusals: nothing is asked of the core.
abbrev is_still : Act → Bool
is_still Rest = true
is_still ResetAll = false
is_still (Fetch a) = false
is_still (Store a b) = false
is_still (Modify a m b) = false
is_still (RequestToSend m) = false
is_still (ClearFlag n) = false
is_still FetchStatus = false
is_still FetchRxStatus = false
is_still (Refuse n) = true

-- Run from the core k, the events ask for nothing of the buffer.
abbrev Unasked : TxBuffer → Core → List Entry → Type 0
Unasked b k [] = Unit {0}
Unasked b k (e ∷ es) = (asks k e.rec b ≡ false) × Unasked b (event_of k e.rec).core es

-- The acts that may change places with the events that follow.
abbrev CalmAct : Core → Act → List Entry → Type 0
CalmAct k Rest es = Unit {0}
CalmAct k ResetAll es = ⊥
CalmAct k (Fetch a) es = (n : RxBuffer) × RxByte n a × (is_full k.control n ≡ true)
CalmAct k (Store a b) es = (n : TxBuffer) × TxByte n a × (is_free k n ≡ true) × Unasked n k es
CalmAct k (Modify a m b) es = ⊥
CalmAct k (RequestToSend m) es = ⊥
CalmAct k (ClearFlag n) es = ⊥
CalmAct k FetchStatus es = ⊥
CalmAct k FetchRxStatus es = ⊥
CalmAct k (Refuse n) es = Unit {0}

still_calm : (k : Core) (a : Act) (es : List Entry) → is_still a ≡ true → CalmAct k a es
still_calm k Rest es e = tt
still_calm k ResetAll es e = clash (sym e)
still_calm k (Fetch a) es e = clash (sym e)
still_calm k (Store a b) es e = clash (sym e)
still_calm k (Modify a m b) es e = clash (sym e)
still_calm k (RequestToSend m) es e = clash (sym e)
still_calm k (ClearFlag n) es e = clash (sym e)
still_calm k FetchStatus es e = clash (sym e)
still_calm k FetchRxStatus es e = clash (sym e)
still_calm k (Refuse n) es e = tt

-- ---- how far a session has come: the open instruction, with j exchanges behind the first
abbrev Come : Command → ℕ → Instruction → Type 0
Come Reset j i = i ≡ Done
Come (Rts m) j i = i ≡ Done
Come UnknownCode j i = i ≡ Done
Come BitModify zero i = i ≡ ModifyAddress
Come BitModify (suc zero) i = (a : ℕ) × (i ≡ ModifyMask a)
Come BitModify (suc (suc zero)) i = (a : ℕ) × (m : ℕ) × (i ≡ ModifyData a m)
Come BitModify (suc (suc (suc j))) i = i ≡ Done
Come Read zero i = i ≡ ReadAddress
Come Read (suc j) i = (a : ℕ) × (i ≡ Reading a)
Come Write zero i = i ≡ WriteAddress
Come Write (suc j) i = (a : ℕ) × (i ≡ Writing a)
Come ReadStatus j i = i ≡ StatusReply
Come RxStatus j i = i ≡ RxStatusReply
Come (ReadRxBuffer n a) j i = i ≡ ReadingBuffer n (a + j)
Come (LoadTxBuffer n a) j i = i ≡ Writing (a + j)

come_first : (m : Command) → Come m 0 (opened m)
come_first Reset = refl
come_first (Rts m) = refl
come_first UnknownCode = refl
come_first BitModify = refl
come_first Read = refl
come_first Write = refl
come_first ReadStatus = refl
come_first RxStatus = refl
come_first (ReadRxBuffer n a) = ap (λ (z : ℕ). ReadingBuffer n z) (omega arith)
come_first (LoadTxBuffer n a) = ap (λ (z : ℕ). Writing z) (omega arith)

calm_first : (extra : ℕ) (m : Command) (k : Core) (es : List Entry) → 0 < moment_of extra m → CalmAct k (first_act m) es
calm_first extra Reset k es h = absurd (omega arith)
calm_first extra (Rts m) k es h = absurd (omega arith)
calm_first extra UnknownCode k es h = tt
calm_first extra BitModify k es h = tt
calm_first extra Read k es h = tt
calm_first extra Write k es h = tt
calm_first extra ReadStatus k es h = tt
calm_first extra RxStatus k es h = tt
calm_first extra (ReadRxBuffer n a) k es h = tt
calm_first extra (LoadTxBuffer n a) k es h = tt

-- From its moment on a session is no READ RX BUFFER, and its select high asks nothing.
high_still : (p : Speaker) (extra : ℕ) (m : Command) (j : ℕ) (i : Instruction) → moment_of extra m ≤ j → j < most extra m → Come m j i → is_still (high_act p i) ≡ true
high_still p extra Reset j i h l c = rw c
high_still p extra (Rts m) j i h l c = rw c
high_still p extra UnknownCode j i h l c = rw c
high_still p extra BitModify zero i h l c = rw c
high_still p extra BitModify (suc zero) i h l c = rw c.1
high_still p extra BitModify (suc (suc zero)) i h l c = rw c.2
high_still p extra BitModify (suc (suc (suc j))) i h l c = rw c
high_still p extra Read zero i h l c = rw c
high_still p extra Read (suc j) i h l c = rw c.1
high_still p extra Write zero i h l c = rw c
high_still p extra Write (suc j) i h l c = rw c.1
high_still p extra ReadStatus j i h l c = rw c
high_still p extra RxStatus j i h l c = rw c
high_still p extra (ReadRxBuffer n a) j i h l c = absurd (omega arith)
high_still p extra (LoadTxBuffer n a) j i h l c = absurd (omega arith)

-- ---- what a listed instruction reaches, and whether it is the speaker's own
-- the panel may what this test says, the controller all
abbrev May : Speaker → Bool → Type 0
May Controller b = Unit {0}
May Panel b = b ≡ true

abbrev Reach : Speaker → Command → Type 0
Reach p Reset = May p false
Reach p (Rts m) = Unit {0}
Reach p UnknownCode = Unit {0}
Reach p BitModify = May p false
Reach p Read = Unit {0}
Reach p Write = May p false
Reach p ReadStatus = Unit {0}
Reach p RxStatus = Unit {0}
Reach p (ReadRxBuffer n a) = (rx_base n + 1 ≤ a) × (a + bytes_from a ≤ rx_base n + 14) × May p (panel_reads n)
Reach p (LoadTxBuffer n a) = (tx_base n + 1 ≤ a) × (a + bytes_from a ≤ tx_base n + 14) × May p (panel_loads n)

-- of a command as the controller gives it, and as the panel does
buffer_by : (P : Command → Type 0) → P (ReadRxBuffer Rxb0 0x61) → P (ReadRxBuffer Rxb0 0x66) → P (ReadRxBuffer Rxb1 0x71)
    → P (ReadRxBuffer Rxb1 0x76) → P (LoadTxBuffer Txb0 0x31) → P (LoadTxBuffer Txb0 0x36) → P (LoadTxBuffer Txb1 0x41)
    → P (LoadTxBuffer Txb1 0x46) → P (LoadTxBuffer Txb2 0x51) → P (LoadTxBuffer Txb2 0x56) → P UnknownCode → (b : ℕ) → P (buffer_command b)
unfolding buffer_command
buffer_by P r0 d0 r1 d1 t0 e0 t1 e1 t2 e2 u b =
    by_cond P (eqb b 0x90) r0
    (by_cond P (eqb b 0x92) d0
    (by_cond P (eqb b 0x94) r1
    (by_cond P (eqb b 0x96) d1
    (by_cond P (eqb b 0x40) t0
    (by_cond P (eqb b 0x41) e0
    (by_cond P (eqb b 0x42) t1
    (by_cond P (eqb b 0x43) e1
    (by_cond P (eqb b 0x44) t2
    (by_cond P (eqb b 0x45) e2 u)))))))))

command_by_lem : (P : Command → Type 0) → ((m : ℕ) → P (Rts m)) → P Reset → P Read → P Write → P BitModify → P ReadStatus → P RxStatus
    → ((b : ℕ) → P (buffer_command b)) → (b : ℕ) → P (command_of b)
unfolding command_of
command_by_lem P rts reset read write modify status received buffer b =
    by_cond P (eqb (b / 8) 16) (rts (b % 8))
    (by_cond P (eqb b 0xC0) reset
    (by_cond P (eqb b 0x03) read
    (by_cond P (eqb b 0x02) write
    (by_cond P (eqb b 0x05) modify
    (by_cond P (eqb b 0xA0) status
    (by_cond P (eqb b 0xB0) received (buffer b)))))))

abbrev Permitted : Command → Type 0
Permitted m = Reach Panel (permitted m)

reach : (p : Speaker) (b : ℕ) → Reach p (command_by p b)
reach Controller b =
    command_by_lem (Reach Controller) (λ m. tt) tt tt tt tt tt tt
    (buffer_by (Reach Controller) (omega arith, omega arith, tt) (omega arith, omega arith, tt) (omega arith, omega arith, tt) (omega arith, omega arith, tt)
    (omega arith, omega arith, tt) (omega arith, omega arith, tt) (omega arith, omega arith, tt) (omega arith, omega arith, tt)
    (omega arith, omega arith, tt) (omega arith, omega arith, tt) tt) b
reach Panel b =
    command_by_lem Permitted (λ m. by_cond (Reach Panel) (eqb m 4) tt tt) tt tt tt tt tt tt
    (buffer_by Permitted tt tt (omega arith, omega arith, refl) (omega arith, omega arith, refl) tt tt tt tt
    (omega arith, omega arith, refl) (omega arith, omega arith, refl) tt) b

-- A buffer lies below 80h, so that its addresses count on without a wrap.
rx_low : (n : RxBuffer) → rx_base n ≤ 0x70
rx_low Rxb0 = omega arith
rx_low Rxb1 = omega arith

tx_low : (n : TxBuffer) → tx_base n ≤ 0x70
tx_low Txb0 = omega arith
tx_low Txb1 = omega arith
tx_low Txb2 = omega arith

rises : (a : ℕ) (j : ℕ) → a + j < 127 → rising (a + j) ≡ a + suc j
rises a j h = omega arith

-- As far as it is listed, an instruction of either speaker goes on.
in_message_lem : (c a : ℕ) → c + 14 ≤ 128 → c < a → a < c + 14 → in_message c a ≡ true
in_message_lem c a h l u = let e : a % 128 ≡ a = omega arith in rw (e, lt-ltb c a l, lt-ltb a (c + 14) u) refl

goes_reading : (n : RxBuffer) (a : ℕ) → RxByte n a → panel_reads n ≡ true → panel_goes_on (ReadingBuffer n a) ≡ true
goes_reading Rxb0 a t m = clash (sym m)
goes_reading Rxb1 a t m = in_message_lem 0x70 a (omega arith) (omega (arith, t.from)) (omega (arith, t.to))

goes_writing : (n : TxBuffer) (a : ℕ) → TxByte n a → panel_loads n ≡ true → panel_goes_on (Writing a) ≡ true
goes_writing Txb0 a t m = clash (sym m)
goes_writing Txb1 a t m = clash (sym m)
goes_writing Txb2 a t m = in_message_lem 0x50 a (omega arith) (omega (arith, t.from)) (omega (arith, t.to))

goes : (p : Speaker) (extra : ℕ) (m : Command) (j : ℕ) (i : Instruction) → Reach p m → suc j < most extra m → Come m j i → goes_on p i ≡ true
goes Controller extra m j i r l c = refl
goes Panel extra Reset j i r l c = clash (sym r)
goes Panel extra (Rts m) j i r l c = rw c refl
goes Panel extra UnknownCode j i r l c = rw c refl
goes Panel extra BitModify j i r l c = clash (sym r)
goes Panel extra Read zero i r l c = rw c refl
goes Panel extra Read (suc j) i r l c = rw c.1 refl
goes Panel extra Write j i r l c = clash (sym r)
goes Panel extra ReadStatus j i r l c = rw c refl
goes Panel extra RxStatus j i r l c = rw c refl
goes Panel extra (ReadRxBuffer n a) j i r l c = rw c (goes_reading n (a + j) (record { from = omega arith; to = omega arith }) r.2)
goes Panel extra (LoadTxBuffer n a) j i r l c = rw c (goes_writing n (a + j) (record { from = omega arith; to = omega arith }) r.2)

first_goes : (p : Speaker) → goes_on p First ≡ true
first_goes Controller = refl
first_goes Panel = refl

-- ---- the steps of the chip
spi_step_lem : (c : Chip) (r : List ℕ) → is_event (kind_of r) ≡ false → step_of c r ≡ spi_step c r
unfolding step_of
spi_step_lem c r e = rw e

event_step_lem : (c : Chip) (e : List ℕ) → Event e → step_of c e ≡ event_step c e
unfolding step_of
event_step_lem c e v = rw v

pub spi_next : (c : Chip) (r : List ℕ) → is_event (kind_of r) ≡ false → next_chip c r ≡ (spi_step c r).chip
spi_next c r e = ap (λ (s : Stepped). s.chip) (spi_step_lem c r e)

spi_out : (c : Chip) (r : List ℕ) → is_event (kind_of r) ≡ false → outcome c r ≡ outcome_in (spi_step c r)
spi_out c r e = ap outcome_in (spi_step_lem c r e)

pub event_next : (c : Chip) (e : List ℕ) → Event e → next_chip c e ≡ (event_step c e).chip
event_next c e v = ap (λ (s : Stepped). s.chip) (event_step_lem c e v)

event_out : (c : Chip) (e : List ℕ) → Event e → outcome c e ≡ outcome_in (event_step c e)
event_out c e v = ap outcome_in (event_step_lem c e v)

abbrev pub chip : Core → Speaker → Instruction → Chip
chip k p i = record { core = k; select = Lowered p i }

-- The record is no event, and its act is calm, or still.
record Calms (c : Chip) (r : List ℕ) (es : List Entry) : Type 0 where
  spi : is_event (kind_of r) ≡ false
  calm : CalmAct c.core (asked c.select r) es

pub record Quiets (c : Chip) (r : List ℕ) : Type 0 where
  spi : is_event (kind_of r) ≡ false
  still : is_still (asked c.select r) ≡ true

quiets_calm : (c : Chip) (r : List ℕ) (es : List Entry) → Quiets c r → Calms c r es
quiets_calm c r es q = record { spi = q.spi; calm = still_calm c.core (asked c.select r) es q.still }

quiets_back : (c : Chip) (r e : List ℕ) → Event e → Quiets (next_chip c e) r → Quiets c r
quiets_back c r e v q =
    record { spi = q.spi; still = subst (λ (d : Chip). is_still (asked d.select r) ≡ true) (event_next c e v) q.still }

-- What an accepted record asks, and the chip after it, where the select is s.
accepted_asks : (c : Chip) (r : List ℕ) (κ : Option Kind) (s : Select) → Accepted c r κ → c.select ≡ s → asked c.select r ≡ asked_by κ s (speaker_in r) (byte_at r 1)
unfolding asked
accepted_asks c r κ s a e = rw (a.sound, a.kind, e)

accepted_turns : (c : Chip) (r : List ℕ) (κ : Option Kind) (s : Select) → Accepted c r κ → c.select ≡ s → turned c.select r ≡ turned_by κ s (speaker_in r) (byte_at r 1)
unfolding turned
accepted_turns c r κ s a e = rw (a.sound, a.kind, e)

-- whoever exchanges or raises the select has lowered it
same_of : (g : Bool) (a : Act) → eqb (refusal_of (cond g a (Refuse refused_speaker))) 0 ≡ true → g ≡ true
same_of true a h = refl
same_of false a h = h

-- an exchange and the instruction after it
exchange_same : (c : Chip) (r : List ℕ) (p : Speaker) (i : Instruction) → Accepted c r (Some Exchange) → c.select ≡ Lowered p i → same_speaker p (speaker_in r) ≡ true
exchange_same c r p i a e = same_of (same_speaker p (speaker_in r)) (act_by p i (byte_at r 1)) (rw e at a.taken)

taken_asks : (c : Chip) (r : List ℕ) (p : Speaker) (i : Instruction) → Accepted c r (Some Exchange) → c.select ≡ Lowered p i → asked c.select r ≡ act_by p i (byte_at r 1)
taken_asks c r p i a e = accepted_asks c r (Some Exchange) (Lowered p i) a e ∙ rw (exchange_same c r p i a e)

taken_turns : (c : Chip) (r : List ℕ) (p : Speaker) (i : Instruction) → Accepted c r (Some Exchange) → c.select ≡ Lowered p i
    → turned c.select r ≡ Lowered p (next_by p i (byte_at r 1))
taken_turns c r p i a e = accepted_turns c r (Some Exchange) (Lowered p i) a e ∙ rw (exchange_same c r p i a e)

pub taken_next : (c : Chip) (r : List ℕ) (p : Speaker) (i : Instruction) → Accepted c r (Some Exchange) → c.select ≡ Lowered p i
    → next_chip c r ≡ chip (acted (act_by p i (byte_at r 1)) c.core) p (next_by p i (byte_at r 1))
taken_next c r p i a e = spi_next c r a.plain ∙ rw (taken_asks c r p i a e, taken_turns c r p i a e)

-- .. where it goes on
exchange_asks : (c : Chip) (r : List ℕ) (p : Speaker) (i : Instruction) → Accepted c r (Some Exchange) → c.select ≡ Lowered p i → goes_on p i ≡ true
    → asked c.select r ≡ exchange_act (command_by p (byte_at r 1)) i (byte_at r 1)
exchange_asks c r p i a e g = taken_asks c r p i a e ∙ rw g

exchange_next_lem : (c : Chip) (r : List ℕ) (p : Speaker) (i : Instruction) → Accepted c r (Some Exchange) → c.select ≡ Lowered p i → goes_on p i ≡ true
    → next_chip c r ≡ chip (acted (exchange_act (command_by p (byte_at r 1)) i (byte_at r 1)) c.core) p (exchange_next (command_by p (byte_at r 1)) i (byte_at r 1))
exchange_next_lem c r p i a e g = taken_next c r p i a e ∙ rw g

high_asks : (c : Chip) (r : List ℕ) (p : Speaker) (i : Instruction) → Accepted c r (Some SelectHigh) → c.select ≡ Lowered p i → asked c.select r ≡ high_act p i
high_asks c r p i a e =
    accepted_asks c r (Some SelectHigh) (Lowered p i) a e ∙ rw (same_of (same_speaker p (speaker_in r)) (high_act p i) (rw e at a.taken))

pub low_next : (c : Chip) (r : List ℕ) → Accepted c r (Some SelectLow) → c.select ≡ Raised → next_chip c r ≡ chip (acted Rest c.core) (speaker_in r) First
low_next c r a e = spi_next c r a.plain ∙ rw (accepted_asks c r (Some SelectLow) Raised a e, accepted_turns c r (Some SelectLow) Raised a e)

-- In a session, a record that is neither an event, an accepted exchange nor the accepted select high is refused.
pub other_step : (k : Core) (p : Speaker) (i : Instruction) (r : List ℕ) → is_other (role_at (chip k p i) r) ≡ true
    → (next_chip (chip k p i) r ≡ chip k p i) × Quiets (chip k p i) r
unfolding role_of asked turned
other_step k p i r h = go (kind_of r) refl (sound_of r) refl
  where
    Goal : Type 0
    Goal = (next_chip (chip k p i) r ≡ chip k p i) × Quiets (chip k p i) r

    refused : is_event (kind_of r) ≡ false → (n : ℕ) → asked (Lowered p i) r ≡ Refuse n → turned (Lowered p i) r ≡ Lowered p i → Goal
    refused e n a t = (spi_next (chip k p i) r e ∙ rw (a, t), record { spi = e; still = rw a })

    taken : is_event (kind_of r) ≡ false → refusal_of (asked (Lowered p i) r) ≡ 0 → is_other (accepted_role (kind_of r)) ≡ true
    taken e z = rw (e, ap (λ (o : Outcome). o.refusal) (spi_out (chip k p i) r e) ∙ z) at h

    exchanged : kind_of r ≡ Some Exchange → sound_of r ≡ true → (g : Bool) → same_speaker p (speaker_in r) ≡ g → Goal
    exchanged e s true g = clash (sym (rw e at (taken (rw e) (rw (s, e, g) (act_accepted p i (byte_at r 1))))))
    exchanged e s false g = refused (rw e) refused_speaker (rw (s, e, g)) (rw (s, e, g))

    raised : kind_of r ≡ Some SelectHigh → sound_of r ≡ true → (g : Bool) → same_speaker p (speaker_in r) ≡ g → Goal
    raised e s true g = clash (sym (rw e at (taken (rw e) (rw (s, e, g) (high_told p i k).0))))
    raised e s false g = refused (rw e) refused_speaker (rw (s, e, g)) (rw (s, e, g))

    go : (κ : Option Kind) → kind_of r ≡ κ → (b : Bool) → sound_of r ≡ b → Goal
    go (Some SelectLow) e true s = refused (rw e) 1 (rw (s, e)) (rw (s, e))
    go (Some SelectLow) e false s = refused (rw e) 2 (rw s) (rw s)
    go (Some Exchange) e true s = exchanged e s (same_speaker p (speaker_in r)) refl
    go (Some Exchange) e false s = refused (rw e) 2 (rw s) (rw s)
    go (Some SelectHigh) e true s = raised e s (same_speaker p (speaker_in r)) refl
    go (Some SelectHigh) e false s = refused (rw e) 2 (rw s) (rw s)
    go (Some FrameHeard) e b s = clash (sym (rw e at h))
    go (Some BusIdle) e b s = clash (sym (rw e at h))
    go (Some FrameEnds) e b s = clash (sym (rw e at h))
    go (Some ReceiveError) e b s = clash (sym (rw e at h))
    go (Some Recovery) e b s = clash (sym (rw e at h))
    go (Some PinLevel) e b s = clash (sym (rw e at h))
    go None e true s = refused (rw e) 2 (rw (s, e)) (rw (s, e))
    go None e false s = refused (rw e) 2 (rw s) (rw s)

module _ (F : CoreFacts) where
  open F use {good_power, good_acted, good_event, full_event, free_event, fetch_event, store_free, store_refusal, store_answer, store_set, store_asks, store_event}

  calm_happens : (k : Core) (e : Entry) (es : List Entry) (a : Act) → CalmAct k a (e ∷ es) → CalmAct (event_of k e.rec).core a es
  calm_happens k e es Rest c = tt
  calm_happens k e es ResetAll c = c
  calm_happens k e es (Fetch a) c = (c.0, c.1, full_event k e.rec c.0 c.2)
  calm_happens k e es (Store a b) c = (c.0, c.1, free_event k e.rec c.0 c.3.0 c.2, c.3.1)
  calm_happens k e es (Modify a m b) c = c
  calm_happens k e es (RequestToSend m) c = c
  calm_happens k e es (ClearFlag n) c = c
  calm_happens k e es FetchStatus c = c
  calm_happens k e es FetchRxStatus c = c
  calm_happens k e es (Refuse n) c = tt

  record ActSwap (k : Core) (e : List ℕ) (a : Act) : Type 0 where
    same_reply : reply_to a (event_of k e).core ≡ reply_to a k
    same_refusal : (event_of (acted a k) e).refusal ≡ (event_of k e).refusal
    same_answer : (event_of (acted a k) e).answer ≡ (event_of k e).answer
    same_set : (event_of (acted a k) e).matched ≡ (event_of k e).matched
    same_core : (event_of (acted a k) e).core ≡ acted a (event_of k e).core

  -- An act that leaves the core as it is.
  idle_swap : (k : Core) (e : List ℕ) (a : Act) → acted a k ≡ k → acted a (event_of k e).core ≡ (event_of k e).core
      → reply_to a (event_of k e).core ≡ reply_to a k → ActSwap k e a
  idle_swap k e a p q s = record { same_reply = s; same_refusal = rw p; same_answer = rw p; same_set = rw p; same_core = rw (p, q) }

  act_swap : (k : Core) (e : Entry) (es : List Entry) (a : Act) → Good k → CalmAct k a (e ∷ es) → ActSwap k e.rec a
  act_swap k e es Rest g c = idle_swap k e.rec Rest g (good_event k e.rec g) refl
  act_swap k e es ResetAll g c = absurd c
  act_swap k e es (Fetch a) g c = idle_swap k e.rec (Fetch a) g (good_event k e.rec g) (fetch_event k e.rec c.0 a c.2 c.1)
  act_swap k e es (Store a b) g c = record {
    same_reply = refl;
    same_refusal = store_refusal k e.rec c.0 a b g c.2 c.1;
    same_answer = store_answer k e.rec c.0 a b g c.2 c.1;
    same_set = store_set k e.rec c.0 a b g c.2 c.1;
    same_core = store_event k e.rec c.0 a b g c.2 c.1 c.3.0;
  }
  act_swap k e es (Modify a m b) g c = absurd c
  act_swap k e es (RequestToSend m) g c = absurd c
  act_swap k e es (ClearFlag n) g c = absurd c
  act_swap k e es FetchStatus g c = absurd c
  act_swap k e es FetchRxStatus g c = absurd c
  act_swap k e es (Refuse n) g c = idle_swap k e.rec (Refuse n) refl refl refl

  calms_swap : (c : Chip) (r : List ℕ) (x : Entry) (es : List Entry) → Good c.core → Event x.rec → Calms c r (x ∷ es) → Swap c r x.rec
  calms_swap c r x es g v q =
      let w = act_swap c.core x es (asked c.select r) g q.calm in
      let e : List ℕ = x.rec in
      record {
        first = ap (λ (d : Chip). outcome d r) (event_next c e v) ∙ spi_out (event_step c e).chip r q.spi
            ∙ (λ t. record { refusal = refusal_of (asked c.select r); answer = w.same_reply t; matched = 0 }) ∙ sym (spi_out c r q.spi);
        second = ap (λ (d : Chip). outcome d e) (spi_next c r q.spi) ∙ event_out (spi_step c r).chip e v
            ∙ (λ t. record { refusal = w.same_refusal t; answer = w.same_answer t; matched = w.same_set t }) ∙ sym (event_out c e v);
        both = ap (λ (d : Chip). next_chip d e) (spi_next c r q.spi) ∙ event_next (spi_step c r).chip e v
            ∙ (λ t. record { core = w.same_core t; select = turned c.select r })
            ∙ sym (ap (λ (d : Chip). next_chip d r) (event_next c e v) ∙ spi_next (event_step c e).chip r q.spi);
      }

  calms_event : (c : Chip) (r : List ℕ) (x : Entry) (es : List Entry) → Event x.rec → Calms c r (x ∷ es) → Calms (next_chip c x.rec) r es
  calms_event c r x es v q =
      let w : Calms (event_step c x.rec).chip r es = record { spi = q.spi; calm = calm_happens c.core x es (asked c.select r) q.calm } in
      subst (λ (d : Chip). Calms d r es) (sym (event_next c x.rec v)) w

  good_step : (c : Chip) (r : List ℕ) → Good c.core → Good (next_chip c r).core
  good_step c r g = go (is_event (kind_of r)) refl
    where
      good : (d : Chip) → next_chip c r ≡ d → Good d.core → Good (next_chip c r).core
      good d e h = subst (λ (x : Chip). Good x.core) (sym e) h

      go : (b : Bool) → is_event (kind_of r) ≡ b → Good (next_chip c r).core
      go true e = good (event_step c r).chip (event_next c r e) (good_event c.core r g)
      go false e = good (spi_step c r).chip (spi_next c r e) (good_acted (asked c.select r) c.core g)

  -- ---- what a session's command asks of the core and of what is still to come
  -- of a LOAD: a free buffer, and no fall on its enabled pin
  allowed_load : (k : Core) (b : TxBuffer) (s : List Entry) → is_free k b && no_fall b s ≡ true → (is_free k b ≡ true) × (no_fall b s ≡ true)
  allowed_load k b s h = (and_first (is_free k b) (no_fall b s) h, and_second (is_free k b) (no_fall b s) h)

  load_allowed : (k : Core) (b : TxBuffer) (s : List Entry) → is_free k b ≡ true → no_fall b s ≡ true → is_free k b && no_fall b s ≡ true
  load_allowed k b s p q = rw (p, q)

  no_fall_head : (b : TxBuffer) (x : Entry) (s : List Entry) → no_fall b (x ∷ s) ≡ true → (falls b x ≡ false) × (no_fall b s ≡ true)
  unfolding no_fall
  no_fall_head b x s h = (not-true _ (and_first (not (falls b x)) (no_fall b s) h), and_second (not (falls b x)) (no_fall b s) h)

  -- the event at the head of what is to come asks for nothing
  no_asks : (c : Chip) (e : List ℕ) (b : TxBuffer) → Event e → falls b (entry c e) ≡ false → asks c.core e b ≡ false
  no_asks c e b v h =
      ap (λ (d : Chip). falls_enabled c.core b (level_of d.core.pins b)) (sym (event_next c e v)) ∙ h

  allowed_event : (m : Command) (c : Chip) (e : List ℕ) (s : List Entry) → Event e → allowed c.core (entry c e ∷ s) m ≡ true
      → allowed (event_of c.core e).core s m ≡ true
  allowed_event Reset c e s v h = h
  allowed_event (Rts m) c e s v h = h
  allowed_event UnknownCode c e s v h = h
  allowed_event BitModify c e s v h = h
  allowed_event Read c e s v h = h
  allowed_event Write c e s v h = h
  allowed_event ReadStatus c e s v h = h
  allowed_event RxStatus c e s v h = h
  allowed_event (ReadRxBuffer n a) c e s v h = full_event c.core e n h
  allowed_event (LoadTxBuffer n a) c e s v h =
      let w = allowed_load c.core n (entry c e ∷ s) h in
      let z = no_fall_head n (entry c e) s w.1 in
      load_allowed (event_of c.core e).core n s (free_event c.core e n (no_asks c e n v z.0) w.0) z.1

  -- what is no event moves on
  allowed_tail : (m : Command) (k : Core) (x : Entry) (s : List Entry) → allowed k (x ∷ s) m ≡ true → allowed k s m ≡ true
  allowed_tail Reset k x s h = h
  allowed_tail (Rts m) k x s h = h
  allowed_tail UnknownCode k x s h = h
  allowed_tail BitModify k x s h = h
  allowed_tail Read k x s h = h
  allowed_tail Write k x s h = h
  allowed_tail ReadStatus k x s h = h
  allowed_tail RxStatus k x s h = h
  allowed_tail (ReadRxBuffer n a) k x s h = h
  allowed_tail (LoadTxBuffer n a) k x s h = let w = allowed_load k n (x ∷ s) h in load_allowed k n s w.0 (no_fall_head n x s w.1).1

  allowed_first : (m : Command) (k : Core) (s : List Entry) → Good k → allowed k s m ≡ true → allowed (acted (first_act m) k) s m ≡ true
  allowed_first Reset k s g h = h
  allowed_first (Rts m) k s g h = h
  allowed_first UnknownCode k s g h = h
  allowed_first BitModify k s g h = h
  allowed_first Read k s g h = h
  allowed_first Write k s g h = h
  allowed_first ReadStatus k s g h = h
  allowed_first RxStatus k s g h = h
  allowed_first (ReadRxBuffer n a) k s g h = ap (λ (z : Core). is_full z.control n) g ∙ h
  allowed_first (LoadTxBuffer n a) k s g h = ap (λ (z : Core). is_free z n && no_fall n s) g ∙ h

  -- ---- events that ask for nothing of a LOAD's buffer
  abbrev Spares : Command → Core → List Entry → Type 0
  Spares Reset k es = Unit {0}
  Spares (Rts m) k es = Unit {0}
  Spares UnknownCode k es = Unit {0}
  Spares BitModify k es = Unit {0}
  Spares Read k es = Unit {0}
  Spares Write k es = Unit {0}
  Spares ReadStatus k es = Unit {0}
  Spares RxStatus k es = Unit {0}
  Spares (ReadRxBuffer n a) k es = Unit {0}
  Spares (LoadTxBuffer n a) k es = Unasked n k es

  spares_none : (m : Command) (k : Core) → Spares m k []
  spares_none Reset k = tt
  spares_none (Rts m) k = tt
  spares_none UnknownCode k = tt
  spares_none BitModify k = tt
  spares_none Read k = tt
  spares_none Write k = tt
  spares_none ReadStatus k = tt
  spares_none RxStatus k = tt
  spares_none (ReadRxBuffer n a) k = tt
  spares_none (LoadTxBuffer n a) k = tt

  spares_event : (m : Command) (c : Chip) (e : List ℕ) (s es : List Entry) → Event e → allowed c.core (entry c e ∷ s) m ≡ true
      → Spares m (event_of c.core e).core es → Spares m c.core (entry c e ∷ es)
  spares_event Reset c e s es v h t = tt
  spares_event (Rts m) c e s es v h t = tt
  spares_event UnknownCode c e s es v h t = tt
  spares_event BitModify c e s es v h t = tt
  spares_event Read c e s es v h t = tt
  spares_event Write c e s es v h t = tt
  spares_event ReadStatus c e s es v h t = tt
  spares_event RxStatus c e s es v h t = tt
  spares_event (ReadRxBuffer n a) c e s es v h t = tt
  spares_event (LoadTxBuffer n a) c e s es v h t =
      (no_asks c e n v (no_fall_head n (entry c e) s (allowed_load c.core n (entry c e ∷ s) h).1).0, t)

  -- a store into the free buffer changes nothing of that
  unasked_store : (k : Core) (n : TxBuffer) (a v : ℕ) (es : List Entry) → Good k → is_free k n ≡ true → TxByte n a
      → Unasked n (acted (Store a v) k) es → Unasked n k es
  unasked_store k n a v [] g free t u = tt
  unasked_store k n a v (e ∷ es) g free t u =
      let z : asks k e.rec n ≡ false = sym (store_asks k e.rec n a v g free t) ∙ u.0 in (
        z,
        unasked_store (event_of k e.rec).core n a v es (good_event k e.rec g) (free_event k e.rec n z free) t
            (subst (λ (j : Core). Unasked n j es) (store_event k e.rec n a v g free t z) u.1),
      )

  -- A later exchange, whatever command y its byte would name.
  record More (extra : ℕ) (y m : Command) (j : ℕ) (k : Core) (s : List Entry) (i : Instruction) (x : ℕ) : Type 0 where
    come : Come m (suc j) (exchange_next y i x)
    keeps : allowed (acted (exchange_act y i x) k) s m ≡ true
    calm : suc j < moment_of extra m → (es : List Entry) → Spares m (acted (exchange_act y i x) k) es → CalmAct k (exchange_act y i x) es × Spares m k es
    still : moment_of extra m ≤ j → is_still (exchange_act y i x) ≡ true

  more : (q : Speaker) (extra : ℕ) (y m : Command) (j : ℕ) (k : Core) (s : List Entry) (i : Instruction) (x : ℕ) → Good k → Reach q m → suc j < most extra m
      → Come m j i → allowed k s m ≡ true → More extra y m j k s i x
  more q extra y Reset j k s i x g h l c p = rw c (record { come = refl; keeps = refl; calm = λ _ es t. (tt, tt); still = λ _. refl })
  more q extra y (Rts m) j k s i x g h l c p = rw c (record { come = refl; keeps = refl; calm = λ _ es t. (tt, tt); still = λ _. refl })
  more q extra y UnknownCode j k s i x g h l c p = rw c (record { come = refl; keeps = refl; calm = λ _ es t. (tt, tt); still = λ _. refl })
  more q extra y BitModify zero k s i x g h l c p = rw c (record { come = (x % 128, refl); keeps = refl; calm = λ _ es t. (tt, tt); still = λ _. refl })
  more q extra y BitModify (suc zero) k s i x g h l c p =
      rw c.1 (record { come = (c.0, x, refl); keeps = refl; calm = λ _ es t. (tt, tt); still = λ _. refl })
  more q extra y BitModify (suc (suc zero)) k s i x g h l c p =
      rw c.2 (record { come = refl; keeps = refl; calm = λ h es t. absurd (omega arith); still = λ h. absurd (omega arith) })
  more q extra y BitModify (suc (suc (suc j))) k s i x g h l c p =
      rw c (record { come = refl; keeps = refl; calm = λ _ es t. (tt, tt); still = λ _. refl })
  more q extra y Read zero k s i x g h l c p = rw c (record { come = (x % 128, refl); keeps = refl; calm = λ _ es t. (tt, tt); still = λ _. refl })
  more q extra y Read (suc j) k s i x g h l c p =
      rw c.1 (record { come = (rising c.0, refl); keeps = refl; calm = λ h es t. absurd (omega arith); still = λ h. absurd (omega arith) })
  more q extra y Write zero k s i x g h l c p = rw c (record { come = (x % 128, refl); keeps = refl; calm = λ _ es t. (tt, tt); still = λ _. refl })
  more q extra y Write (suc j) k s i x g h l c p =
      rw c.1 (record { come = (rising c.0, refl); keeps = refl; calm = λ h es t. absurd (omega arith); still = λ h. absurd (omega arith) })
  more q extra y ReadStatus j k s i x g h l c p =
      rw c (record { come = refl; keeps = refl; calm = λ h es t. absurd (omega arith); still = λ h. absurd (omega arith) })
  more q extra y RxStatus j k s i x g h l c p =
      rw c (record { come = refl; keeps = refl; calm = λ h es t. absurd (omega arith); still = λ h. absurd (omega arith) })
  more q extra y (ReadRxBuffer n a) j k s i x g h l c p =
      let t : RxByte n (a + j) = record { from = omega arith; to = omega arith } in
      rw c (record {
        come = ap (λ (z : ℕ). ReadingBuffer n z) (rises a j (omega (arith, rx_low n)));
        keeps = ap (λ (z : Core). is_full z.control n) g ∙ p;
        calm = λ _ es u. ((n, t, p), tt);
        still = λ z. absurd (omega arith);
      })
  more q extra y (LoadTxBuffer n a) j k s i x g h l c p =
      let t : TxByte n (a + j) = record { from = omega arith; to = omega arith } in
      let w = allowed_load k n s p in
      rw c (record {
        come = ap (λ (z : ℕ). Writing z) (rises a j (omega (arith, tx_low n)));
        keeps = load_allowed (acted (Store (a + j) x) k) n s (store_free k n (a + j) x g w.0 t) w.1;
        calm = λ _ es u. let v = unasked_store k n (a + j) x es g w.0 t u in ((n, t, w.0, v), v);
        still = λ z. absurd (omega arith);
      })

  -- ---- the chip c of a session that began with l₀ and has the inside s₀, of which s is still to come
  abbrev Within : Entry → List Entry → Stage → Chip → List Entry → Type 0
  Within l₀ s₀ fresh c s = (c.select ≡ Lowered (speaker_in l₀.rec) First) × ((m : Command) → allowed l₀.met.core s₀ m ≡ true → allowed c.core s m ≡ true)
  Within l₀ s₀ (sofar m j) c s = (i : Instruction) × (c.select ≡ Lowered (speaker_in l₀.rec) i) × Come m j i × (allowed c.core s m ≡ true) × Reach (speaker_in l₀.rec) m

  within_low : (c : Chip) (s : List Entry) (r : List ℕ) → Good c.core → role_at c r ≡ low
      → Within (entry c r) s fresh (next_chip c r) s × ((es : List Entry) → Calms c r es)
  within_low c s r g e = go c.select refl (accepted_as c r low refl e)
    where
      go : (x : Select) → c.select ≡ x → Accepted c r (Some SelectLow) → Within (entry c r) s fresh (next_chip c r) s × ((es : List Entry) → Calms c r es)
      go Raised es a =
          let w : Within (entry c r) s fresh (chip (acted Rest c.core) (speaker_in r) First) s = (refl, λ m h. ap (λ (k : Core). allowed k s m) g ∙ h) in (
            subst (λ (d : Chip). Within (entry c r) s fresh d s) (sym (low_next c r a es)) w,
            λ _. record { spi = a.plain; calm = rw (accepted_asks c r (Some SelectLow) Raised a es) tt },
          )
      go (Lowered q i) es a = clash (sym (rw es at a.taken))

  within_event : (l₀ : Entry) (s₀ : List Entry) (σ : Stage) (c : Chip) (s : List Entry) (e : List ℕ) → Event e
      → Within l₀ s₀ σ c (entry c e ∷ s) → Within l₀ s₀ σ (next_chip c e) s
  within_event l₀ s₀ σ c s e v w = subst (λ (d : Chip). Within l₀ s₀ σ d s) (sym (event_next c e v)) (go σ w)
    where
      go : (σ : Stage) → Within l₀ s₀ σ c (entry c e ∷ s) → Within l₀ s₀ σ (event_step c e).chip s
      go fresh w = (w.0, λ m h. allowed_event m c e s v (w.1 m h))
      go (sofar m j) w = (w.0, w.1, w.2, allowed_event m c e s v w.3, w.4)

  within_spared : (l₀ : Entry) (s₀ : List Entry) (m : Command) (j : ℕ) (c : Chip) (s : List Entry) (e : List ℕ) (es : List Entry) → Event e
      → Within l₀ s₀ (sofar m j) c (entry c e ∷ s) → Spares m (next_chip c e).core es → Spares m c.core (entry c e ∷ es)
  within_spared l₀ s₀ m j c s e es v w t =
      spares_event m c e s es v w.3 (subst (λ (d : Chip). Spares m d.core es) (event_next c e v) t)

  within_select : (l₀ : Entry) (s₀ : List Entry) (σ : Stage) (c : Chip) (s : List Entry) → Within l₀ s₀ σ c s → (i : Instruction) × (c.select ≡ Lowered (speaker_in l₀.rec) i)
  within_select l₀ s₀ fresh c s w = (First, w.0)
  within_select l₀ s₀ (sofar m j) c s w = (w.0, w.1)

  within_tail : (l₀ : Entry) (s₀ : List Entry) (σ : Stage) (c : Chip) (x : Entry) (s : List Entry) → Within l₀ s₀ σ c (x ∷ s) → Within l₀ s₀ σ c s
  within_tail l₀ s₀ fresh c x s w = (w.0, λ m h. allowed_tail m c.core x s (w.1 m h))
  within_tail l₀ s₀ (sofar m j) c x s w = (w.0, w.1, w.2, allowed_tail m c.core x s w.3, w.4)

  within_other : (l₀ : Entry) (s₀ : List Entry) (σ : Stage) (c : Chip) (s : List Entry) (r : List ℕ) → is_other (role_at c r) ≡ true
      → Within l₀ s₀ σ c (entry c r ∷ s) → Within l₀ s₀ σ (next_chip c r) s × Quiets c r × (next_chip c r ≡ c)
  within_other l₀ s₀ σ c s r h w =
      let z = within_select l₀ s₀ σ c (entry c r ∷ s) w in
      let at : chip c.core (speaker_in l₀.rec) z.0 ≡ c = λ t. record { core = c.core; select = sym z.1 t } in
      let o = subst (λ (d : Chip). is_other (role_at d r) ≡ true → (next_chip d r ≡ d) × Quiets d r) at (other_step c.core (speaker_in l₀.rec) z.0 r) h in
      (subst (λ (d : Chip). Within l₀ s₀ σ d s) (sym o.0) (within_tail l₀ s₀ σ c (entry c r) s w), o.1, o.0)

  module _ (extra : ℕ) where
    within_first : (l₀ : Entry) (s₀ : List Entry) (c : Chip) (s : List Entry) (r : List ℕ) → Good c.core → role_at c r ≡ exchange
        → allowed l₀.met.core s₀ (named l₀ r) ≡ true → Within l₀ s₀ fresh c (entry c r ∷ s)
        → Within l₀ s₀ (sofar (named l₀ r) 0) (next_chip c r) s × (0 < moment_of extra (named l₀ r) → (es : List Entry) → Calms c r es)
    within_first l₀ s₀ c s r g e h w =
        let p : Speaker = speaker_in l₀.rec in
        let m : Command = named l₀ r in
        let a : Accepted c r (Some Exchange) = accepted_as c r exchange refl e in
        let v : Within l₀ s₀ (sofar m 0) (chip (acted (first_act m) c.core) p (opened m)) s =
        (opened m, refl, come_first m, allowed_first m c.core s g (allowed_tail m c.core (entry c r) s (w.1 m h)), reach p (byte_at r 1)) in (
          subst (λ (d : Chip). Within l₀ s₀ (sofar m 0) d s) (sym (exchange_next_lem c r p First a w.0 (first_goes p))) v,
          λ z es. record { spi = a.plain; calm = rw (exchange_asks c r p First a w.0 (first_goes p)) (calm_first extra m c.core es z) },
        )

    within_next : (l₀ : Entry) (s₀ : List Entry) (c : Chip) (s : List Entry) (m : Command) (j : ℕ) (r : List ℕ) → Good c.core → role_at c r ≡ exchange
        → suc j < most extra m → Within l₀ s₀ (sofar m j) c (entry c r ∷ s)
        → Within l₀ s₀ (sofar m (suc j)) (next_chip c r) s
        × (suc j < moment_of extra m → (es : List Entry) → Spares m (next_chip c r).core es → Calms c r es × Spares m c.core es)
        × (moment_of extra m ≤ j → Quiets c r)
    within_next l₀ s₀ c s m j r g e l w =
        let p : Speaker = speaker_in l₀.rec in
        let i : Instruction = w.0 in
        let x : ℕ = byte_at r 1 in
        let y : Command = command_by p x in
        let a : Accepted c r (Some Exchange) = accepted_as c r exchange refl e in
        let on : goes_on p i ≡ true = goes p extra m j i w.4 l w.2 in
        let n : More extra y m j c.core s i x = more p extra y m j c.core s i x g w.4 l w.2 (allowed_tail m c.core (entry c r) s w.3) in
        let v : Within l₀ s₀ (sofar m (suc j)) (chip (acted (exchange_act y i x) c.core) p (exchange_next y i x)) s =
        (exchange_next y i x, refl, n.come, n.keeps, w.4) in
        let to : next_chip c r ≡ chip (acted (exchange_act y i x) c.core) p (exchange_next y i x) = exchange_next_lem c r p i a w.1 on in
        let q : asked c.select r ≡ exchange_act y i x = exchange_asks c r p i a w.1 on in (
          subst (λ (d : Chip). Within l₀ s₀ (sofar m (suc j)) d s) (sym to) v,
          (λ z es t.
              let u = n.calm z es (subst (λ (d : Chip). Spares m d.core es) to t) in
              (record { spi = a.plain; calm = rw q u.0 }, u.1)),
          (λ z. record { spi = a.plain; still = rw q (n.still z) }),
        )

    within_high : (l₀ : Entry) (s₀ : List Entry) (c : Chip) (s : List Entry) (m : Command) (j : ℕ) (r : List ℕ) → role_at c r ≡ high
        → moment_of extra m ≤ j → j < most extra m → Within l₀ s₀ (sofar m j) c s → Quiets c r
    within_high l₀ s₀ c s m j r e h l w =
        let p : Speaker = speaker_in l₀.rec in
        let a : Accepted c r (Some SelectHigh) = accepted_as c r high refl e in
        record { spi = a.plain; still = rw (high_asks c r p w.0 a w.1) (high_still p extra m j w.0 h l w.2) }

    good_power_on : Good power_on.core
    unfolding power_on
    good_power_on = good_power

    laws : Laws extra
    laws = record {
      Good = λ c. Good c.core;
      good_start = good_power_on;
      good_next = good_step;
      Calm = Calms;
      calm_swap = calms_swap;
      calm_event = λ c r e es g v q. calms_event c r e es v q;
      Quiet = Quiets;
      quiet_calm = quiets_calm;
      quiet_back = λ c r e g v q. quiets_back c r e v q;
      Spared = λ m c es. Spares m c.core es;
      spared_none = λ m c. spares_none m c.core;
      Inside = Within;
      inside_low = within_low;
      inside_event = λ l₀ s₀ σ c s e g v w. within_event l₀ s₀ σ c s e v w;
      spared_event = within_spared;
      inside_other = within_other;
      inside_first = within_first;
      inside_next = within_next;
      inside_high = within_high;
    }

    -- Demand 3, for however many bytes past the last are let in.
    pub demand_3_from : Demand3For extra
    demand_3_from = demand_3_by extra laws
