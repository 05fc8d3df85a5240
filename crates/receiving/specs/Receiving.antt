-- Receiving: a frame's register bytes, which filter matches, which buffer takes the frame, what is stored and what is lost.
use Rattle.std.specs.Prelude.{ℕ, zero, suc, ◌+◌, ◌-◌, ◌*◌, ◌/◌, ◌%◌, ◌^◌, ◌<◌, Bool, true, false, cond, not, ◌&&◌, ◌||◌, List, [], ◌∷◌, ◌≡◌, eqb, ltb, get_or, set, Option, Some, None}
use Rattle.std.specs.Int.Bits.{bit_and, bit_or}
use Rattle.bits.specs.Bit.{has_bit, set_bit, merged, same_as, agrees, for_below}
use Rattle.records.specs.declared.Frame.{Frame}
use Rattle.records.specs.Records.{carried}
use Rattle.registers.specs.declared.RxBuffer.{RxBuffer}
use Rattle.registers.specs.declared.RxBuffer.TheVariants.{Rxb0, Rxb1}
use Rattle.registers.specs.declared.RxControl.{RxControl}
use Rattle.registers.specs.declared.Control.{Control}
use Rattle.registers.specs.declared.Core.{Core}
use Rattle.registers.specs.State.{rx1if_bit, errif_bit, exide_bit, bukt_bit, rx_flag, with_rx, with_canintf, with_eflg}
use Rattle.registers.specs.Registers.{rx_control}
use Rattle.registers.specs.State.{updated}
use Rattle.receiving.specs.declared.Verdict.{Verdict}
use Rattle.receiving.specs.declared.Verdict.TheVariants.{Unmatched, Stored, RolledOver, Lost}
use Rattle.receiving.specs.declared.MatchAnswer.{MatchAnswer}
use Rattle.receiving.specs.declared.Reception.{Reception}
use Rattle.receiving.specs.declared.Reception.TheVariants.{NoMatch, InRxb0, InRxb1, Lost, NotListening, Woke}

-- The answers of kind 3 by number.
abbrev pub reception_number : Reception → ℕ
reception_number NoMatch = 0
reception_number InRxb0 = 1
reception_number InRxb1 = 2
reception_number Lost = 3
reception_number NotListening = 4
reception_number Woke = 5

-- ---- identifier to register bytes
-- a standard identifier fills SIDH, then SIDL bits 7-5; of an extended one they get bits 28 to 18, SIDL bits 1-0 get 17 and 16, EID8 and EID0 15 to 0
abbrev pub sidh_of : Frame → ℕ
sidh_of f = cond f.extended (f.identifier / 0x200000 % 256) (f.identifier / 8 % 256)

-- in SIDL bit 3 marks an extended frame, bit 4 a remote standard one
abbrev pub sidl_of : Frame → ℕ
sidl_of f =
    cond f.extended (f.identifier / 0x40000 % 8 * 32 + 8 + f.identifier / 0x10000 % 4)
    (f.identifier % 8 * 32 + cond f.remote 16 0)

-- unused EID bits are 0
abbrev pub eid8_of : Frame → ℕ
eid8_of f = cond f.extended (f.identifier / 0x100 % 256) 0

abbrev pub eid0_of : Frame → ℕ
eid0_of f = cond f.extended (f.identifier % 256) 0

-- DLC keeps the length code as received; bit 6 marks a remote extended frame
abbrev pub dlc_of : Frame → ℕ
dlc_of f = bit_or f.code (cond (f.extended && f.remote) 0x40 0)

-- the data bytes that the frame carries
abbrev pub carried_by : Frame → ℕ
carried_by f = carried f.remote f.code

-- ---- where a filter matches
-- an identifier, a filter and a mask have four bytes each, by these numbers; a place is a byte's number and a bit's
abbrev pub sidh_byte : ℕ
sidh_byte = 0

abbrev pub sidl_byte : ℕ
sidl_byte = 1

abbrev pub eid8_byte : ℕ
eid8_byte = 2

abbrev pub eid0_byte : ℕ
eid0_byte = 3

abbrev pub Place : Type 0
Place = ℕ × ℕ

-- bit i of a standard identifier: 10 to 3 in SIDH, 2 to 0 in SIDL bits 7-5
abbrev pub standard_place : ℕ → Place
standard_place i = cond (ltb i 3) (sidl_byte, 5 + i) (sidh_byte, i - 3)

-- bit i of an extended one: 28 to 18 where a standard one has its eleven, 17 and 16 in SIDL bits 1-0, 15 to 8 in EID8, 7 to 0 in EID0
abbrev pub extended_place : ℕ → Place
extended_place i =
    cond (ltb i 8) (eid0_byte, i)
    (cond (ltb i 16) (eid8_byte, i - 8)
    (cond (ltb i 18) (sidl_byte, i - 16) (standard_place (i - 18))))

abbrev pub identifier_place : Bool → ℕ → Place
identifier_place extended i = cond extended (extended_place i) (standard_place i)

abbrev pub identifier_width : Bool → ℕ
identifier_width extended = cond extended 29 11

-- the bit at a place of the four bytes from `at` on
abbrev pub bit_at : List ℕ → ℕ → Place → Bool
bit_at bytes at p = has_bit (get_or bytes (at + p.0) 0) p.1

-- three filters in row 0 and three in row 1, four bytes each; filters 0 and 1 go with mask 0, the others with mask 1
abbrev pub filter_at : ℕ → ℕ
filter_at n = n / 3 * 16 + n % 3 * 4

abbrev pub mask_at : ℕ → ℕ
mask_at n = cond (ltb n 2) 0x20 0x24

-- the bit that filter n has at a place and a bit of the frame agree, if the mask has a 1 there
abbrev pub agrees_at : List ℕ → ℕ → Place → Bool → Bool
agrees_at config n p frameBit = agrees (bit_at config (mask_at n) p) (bit_at config (filter_at n) p) frameBit

-- EXIDE says which format a filter is for; no mask bit changes that
abbrev pub same_format : List ℕ → Frame → ℕ → Bool
same_format config f n = same_as (bit_at config (filter_at n) (sidl_byte, exide_bit)) f.extended

-- every identifier bit, at its place
abbrev pub same_identifier : List ℕ → Frame → ℕ → Bool
same_identifier config f n =
    for_below (identifier_width f.extended) (λ i. agrees_at config n (identifier_place f.extended i) (has_bit f.identifier i))

-- data bytes 0 and 1 of a standard frame, those that it carries, stand against EID8 and, behind it, EID0
abbrev pub same_data : List ℕ → Frame → ℕ → Bool
same_data config f n =
    f.extended
    || for_below 2
    (λ j. not (ltb j (carried_by f)) || for_below 8 (λ k. agrees_at config n (eid8_byte + j, k) (has_bit (get_or f.bytes j 0) k)))

-- filter n matches where all three are the same
unfoldable pub matches : List ℕ → Frame → ℕ → Bool
matches config f n = same_format config f n && same_identifier config f n && same_data config f n

-- ---- every filter that matches
-- there are six
abbrev pub filters : ℕ
filters = 6

-- a set of filters is a number, bit n for filter n: those of the first n that pass a test
unfoldable pub set_of : (ℕ → Bool) → ℕ → ℕ
set_of matching zero = 0
set_of matching (suc n) = cond (matching n) (set_bit (set_of matching n) n) (set_of matching n)

-- all six are asked, each under its own mask, whatever RXM says and whichever buffer takes the frame
unfoldable pub matched_of : List ℕ → Frame → ℕ
matched_of config f = set_of (matches config f) filters

-- ---- the hit
-- the lowest-numbered of n filters from i on that matches, by a test for each
unfoldable pub lowest_from : (ℕ → Bool) → ℕ → ℕ → Option ℕ
lowest_from matching i zero = None
lowest_from matching i (suc n) = cond (matching i) (Some i) (lowest_from matching (suc i) n)

-- at RXM 11 every frame comes in, as hit 0; at the other codes the filters decide
abbrev pub takes_any : ℕ → Bool
takes_any ctrl = eqb (ctrl / 32 % 4) 3

-- RXB0 asks filters 0 and 1, RXB1 filters 2 to 5
abbrev pub lowest_for : (ℕ → Bool) → RxBuffer → Option ℕ
lowest_for matching Rxb0 = lowest_from matching 0 2
lowest_for matching Rxb1 = lowest_from matching 2 4

unfoldable pub hit_for : Control → (ℕ → Bool) → RxBuffer → Option ℕ
hit_for c matching b = cond (takes_any (rx_control c.rx b)) (Some 0) (lowest_for matching b)

-- ---- which buffer
abbrev pub is_full : Control → RxBuffer → Bool
is_full c b = has_bit c.flags.canintf (rx_flag b)

-- matched for RXB0: with RX0IF set and BUKT set it goes to RXB1, or is lost if RX1IF is set too; without BUKT it is lost; with RX0IF clear it is stored
abbrev pub verdict0 : Control → ℕ → Verdict
verdict0 c h =
    cond (is_full c Rxb0)
    (cond (has_bit c.rx.rxb0 bukt_bit) (cond (is_full c Rxb1) (Lost Rxb1) (RolledOver h)) (Lost Rxb0))
    (Stored Rxb0 h)

-- RXB1 is asked about a frame just where RXB0 does not match it; if RX1IF is set the frame is lost
abbrev pub verdict1 : Control → Option ℕ → Verdict
verdict1 c None = Unmatched
verdict1 c (Some h) = cond (is_full c Rxb1) (Lost Rxb1) (Stored Rxb1 h)

abbrev pub verdict_by : Control → Option ℕ → Option ℕ → Verdict
verdict_by c (Some h) other = verdict0 c h
verdict_by c None other = verdict1 c other

unfoldable pub verdict_of : Control → List ℕ → Frame → Verdict
verdict_of c config f = verdict_by c (hit_for c (matches config f) Rxb0) (hit_for c (matches config f) Rxb1)

-- the match answer: the verdict, which has the hit where the frame is stored, and the set
unfoldable pub match_of : Control → List ℕ → Frame → MatchAnswer
match_of c config f = record { verdict = verdict_of c config f; matched = matched_of config f }

abbrev pub reception_of : Verdict → Reception
reception_of Unmatched = NoMatch
reception_of (Stored Rxb0 h) = InRxb0
reception_of (Stored Rxb1 h) = InRxb1
reception_of (RolledOver h) = InRxb1
reception_of (Lost b) = Lost

-- ---- storing
-- RXRTR is bit 3; the hit is bit 0 of RXB0CTRL and bits 2-0 of RXB1CTRL
abbrev pub hit_bits : ℕ → Bool → ℕ
hit_bits h remote = bit_or h (cond remote 0x08 0)

abbrev pub hit_stored : RxControl → RxBuffer → ℕ → Bool → RxControl
hit_stored r Rxb0 h remote = record { rxb0 = merged 0x09 r.rxb0 (hit_bits h remote); rxb1 = r.rxb1 }
hit_stored r Rxb1 h remote = record { rxb0 = r.rxb0; rxb1 = merged 0x0F r.rxb1 (hit_bits h remote) }

-- a rolled frame shows its RXB0 hit in RXB1CTRL, and in bit 0 of RXB0CTRL as well
abbrev pub rx_rolled : RxControl → ℕ → Bool → RxControl
rx_rolled r h remote = record { rxb0 = merged 0x01 r.rxb0 h; rxb1 = merged 0x0F r.rxb1 (hit_bits h remote) }

abbrev pub flagged : Control → RxControl → ℕ → Control
flagged c r flag = with_canintf (with_rx c r) (set_bit c.flags.canintf flag)

-- a loss sets RXnOVR and raises ERRIF
abbrev pub rx0ovr_bit : ℕ
rx0ovr_bit = 6

abbrev pub rx1ovr_bit : ℕ
rx1ovr_bit = 7

abbrev pub overflow_bit : RxBuffer → ℕ
overflow_bit Rxb0 = rx0ovr_bit
overflow_bit Rxb1 = rx1ovr_bit

abbrev pub lost_at : Control → ℕ → Control
lost_at c overflow = with_eflg (with_canintf c (set_bit c.flags.canintf errif_bit)) (set_bit c.flags.eflg overflow)

abbrev pub control_after : Verdict → Control → Bool → Control
control_after Unmatched c remote = c
control_after (Stored b h) c remote = flagged c (hit_stored c.rx b h remote) (rx_flag b)
control_after (RolledOver h) c remote = flagged c (rx_rolled c.rx h remote) rx1if_bit
control_after (Lost b) c remote = lost_at c (overflow_bit b)

-- the bytes of RXB0 lie from 0 on and those of RXB1 from 16 on, behind a control byte
abbrev pub bytes_at : RxBuffer → ℕ
bytes_at Rxb0 = 0
bytes_at Rxb1 = 16

-- data bytes that the frame does not carry stay as they were
abbrev pub filled : List ℕ → ℕ → Frame → ℕ → List ℕ
filled rx at f zero = rx
filled rx at f (suc j) = updated (filled rx at f j) (at + 6 + j) (λ old. cond (ltb j (carried_by f)) (get_or f.bytes j 0) old)

abbrev pub headed : List ℕ → ℕ → Frame → List ℕ
headed rx at f = set (set (set (set (set rx (at + 1) (sidh_of f)) (at + 2) (sidl_of f)) (at + 3) (eid8_of f)) (at + 4) (eid0_of f)) (at + 5) (dlc_of f)

-- the four identifier bytes have each identifier bit at its place; proved in proofs/Places
abbrev pub identifier_bytes : Frame → List ℕ
identifier_bytes f = sidh_of f ∷ sidl_of f ∷ eid8_of f ∷ eid0_of f ∷ []

abbrev pub StoredAtPlaces : Type 0
StoredAtPlaces =
    (f : Frame) (i : ℕ) → i < identifier_width f.extended
    → bit_at (identifier_bytes f) 0 (identifier_place f.extended i) ≡ has_bit f.identifier i

unfoldable pub bytes_stored : List ℕ → ℕ → Frame → List ℕ
bytes_stored rx at f = filled (headed rx at f) at f 8

abbrev pub bytes_after : Verdict → List ℕ → Frame → List ℕ
bytes_after Unmatched rx f = rx
bytes_after (Stored b h) rx f = bytes_stored rx (bytes_at b) f
bytes_after (RolledOver h) rx f = bytes_stored rx (bytes_at Rxb1) f
bytes_after (Lost b) rx f = rx

-- ---- the receive rules whole: the core after them, the answer and the set
pub record Received : Type 0 where
  pub core : Core
  pub answer : Reception
  pub matched : ℕ

abbrev pub core_after : Verdict → Core → Frame → Core
core_after v k f =
    record { control = control_after v k.control f.remote; config = k.config; tx = k.tx; rx = bytes_after v k.rx f; pins = k.pins }

abbrev pub received_by : MatchAnswer → Core → Frame → Received
received_by m k f = record { core = core_after m.verdict k f; answer = reception_of m.verdict; matched = m.matched }

unfoldable pub received_of : Core → Frame → Received
received_of k f = received_by (match_of k.control k.config f) k f

-- ---- laws of the set, proved in proofs/Sets
-- filter n is in the set just if it matches
abbrev pub SetBits : Type 0
SetBits = (matching : ℕ → Bool) (n : ℕ) → n < filters → has_bit (set_of matching filters) n ≡ matching n

-- a buffer's share: the filters that it asks
abbrev pub share_of : RxBuffer → ℕ → ℕ
share_of Rxb0 s = bit_and s 0x03
share_of Rxb1 s = bit_and s 0x3C

abbrev pub is_miss : Option ℕ → Bool
is_miss (Some h) = false
is_miss None = true

-- unless RXM is 11, the hit that a buffer gives when asked is a bit of its share, the share has no lower one, and the buffer gives
-- none just if the share is empty
pub record HitInSet (c : Control) (config : List ℕ) (f : Frame) (b : RxBuffer) : Type 0 where
  pub bit : (h : ℕ) → hit_for c (matches config f) b ≡ Some h → has_bit (share_of b (matched_of config f)) h ≡ true
  pub lowest : (h : ℕ) → hit_for c (matches config f) b ≡ Some h → share_of b (matched_of config f) % 2 ^ h ≡ 0
  pub none : is_miss (hit_for c (matches config f) b) ≡ eqb (share_of b (matched_of config f)) 0

abbrev pub HitIsLowest : Type 0
HitIsLowest =
    (c : Control) (config : List ℕ) (f : Frame) (b : RxBuffer) → takes_any (rx_control c.rx b) ≡ false → HitInSet c config f b
