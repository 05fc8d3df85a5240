-- The single-moment list and the tidied list: a command happens at one moment, whatever bus and pins do.
-- The words session, command, listed, moment, event and tidied list are those of the rules.
use Rattle.std.specs.Prelude.{Bool, true, false, cond, not, ◌&&◌, List, [], ◌∷◌, ◌++◌, ◌≡◌, ℕ, zero, suc, ◌+◌, ◌-◌, ◌%◌, length, eqb, leb, Option, Some, None}
use Rattle.records.specs.declared.Kind.{Kind}
use Rattle.records.specs.declared.Kind.TheVariants.{SelectLow, Exchange, SelectHigh, FrameHeard, BusIdle, FrameEnds, ReceiveError, Recovery, PinLevel}
use Rattle.records.specs.Records.{byte_at, kind_of, is_event}
use Rattle.registers.specs.declared.TxBuffer.{TxBuffer}
use Rattle.registers.specs.declared.Core.{Core}
use Rattle.receiving.specs.Receiving.{is_full}
use Rattle.registers.specs.State.{level_of}
use Rattle.stores.specs.Store.{is_locked}
use Rattle.controller.specs.Events.{falls_enabled}
use Rattle.spi.specs.declared.Speaker.{Speaker}
use Rattle.spi.specs.declared.Command.{Command}
use Rattle.spi.specs.declared.Command.TheVariants.{Reset, Read, Write, BitModify, ReadRxBuffer, LoadTxBuffer, Rts, ReadStatus, RxStatus, UnknownCode}
use Rattle.mcp2515.specs.declared.Chip.{Chip}
use Rattle.spi.specs.Instructions.{command_by}
use Rattle.records.specs.declared.Outcome.{Outcome}
use Rattle.mcp2515.specs.Step.{power_on, speaker_in, next_chip, outcome, chip_after, outcomes}

-- ---- what a record is in a run
-- an event (kinds 3 to 8, accepted or not); a select low, a select high or an exchange, if accepted; any other record is refused
pub data Role : Type 0 where
  event low exchange high other : Role

abbrev pub accepted_role : Option Kind → Role
accepted_role (Some SelectLow) = low
accepted_role (Some Exchange) = exchange
accepted_role (Some SelectHigh) = high
accepted_role (Some FrameHeard) = event
accepted_role (Some BusIdle) = event
accepted_role (Some FrameEnds) = event
accepted_role (Some ReceiveError) = event
accepted_role (Some Recovery) = event
accepted_role (Some PinLevel) = event
accepted_role None = other

unfoldable pub role_of : List ℕ → Outcome → Role
role_of r o = cond (is_event (kind_of r)) event (cond (eqb o.refusal 0) (accepted_role (kind_of r)) other)

abbrev pub is_event_role : Role → Bool
is_event_role event = true
is_event_role low = false
is_event_role exchange = false
is_event_role high = false
is_event_role other = false

abbrev pub is_low : Role → Bool
is_low event = false
is_low low = true
is_low exchange = false
is_low high = false
is_low other = false

abbrev pub is_exchange : Role → Bool
is_exchange event = false
is_exchange low = false
is_exchange exchange = true
is_exchange high = false
is_exchange other = false

abbrev pub is_high : Role → Bool
is_high event = false
is_high low = false
is_high exchange = false
is_high high = true
is_high other = false

-- A record of a run, with the chip that it met and its refusal, answer and set there.
pub record Entry : Type 0 where
  pub met : Chip
  pub rec : List ℕ
  pub out : Outcome

abbrev pub role_in : Entry → Role
role_in x = role_of x.rec x.out

-- The run of a list of records.
unfoldable pub trace : Chip → List (List ℕ) → List Entry
trace c [] = []
trace c (r ∷ rs) = record { met = c; rec = r; out = outcome c r } ∷ trace (next_chip c r) rs

-- ---- the single-moment list, a row for each command by its first byte
-- the bytes of a buffer from this address to data byte 7
abbrev pub bytes_from : ℕ → ℕ
bytes_from a = 14 - a % 16

-- the most exchanges of a listed session; extra is how many bytes past the last of RESET, RTS, BIT MODIFY and an unknown code it may have, 0
-- as the rules list them
abbrev pub most : ℕ → Command → ℕ
most extra Reset = 1 + extra
most extra (Rts m) = 1 + extra
most extra BitModify = 4 + extra
most extra Read = 3
most extra Write = 3
most extra ReadStatus = 2
most extra RxStatus = 2
most extra (ReadRxBuffer b a) = 1 + bytes_from a
most extra (LoadTxBuffer b a) = 1 + bytes_from a
most extra UnknownCode = 1 + extra

-- the number of the exchange that is the moment, from 0; where the session has no such exchange the moment is select high
abbrev pub moment_of : ℕ → Command → ℕ
moment_of extra Reset = 0
moment_of extra (Rts m) = 0
moment_of extra BitModify = 3
moment_of extra Read = 2
moment_of extra Write = 2
moment_of extra ReadStatus = 1
moment_of extra RxStatus = 1
moment_of extra (ReadRxBuffer b a) = 1 + bytes_from a
moment_of extra (LoadTxBuffer b a) = 1 + bytes_from a
moment_of extra UnknownCode = 1 + extra

-- the buffer neither has TXREQ nor is in flight
abbrev pub is_free : Core → TxBuffer → Bool
is_free k b = not (is_locked k.control b)

-- the record takes the enabled request pin of this buffer from high to low, whether or not that requests anything
abbrev pub falls : TxBuffer → Entry → Bool
falls b x = falls_enabled x.met.core b (level_of (next_chip x.met x.rec).core.pins b)

unfoldable pub no_fall : TxBuffer → List Entry → Bool
no_fall b [] = true
no_fall b (x ∷ xs) = not (falls b x) && no_fall b xs

-- asked of the core at select low: READ RX BUFFER wants its RXnIF set, LOAD TX BUFFER a free buffer; and of what stands inside the
-- session: LOAD TX BUFFER wants no fall on the enabled pin of its buffer
abbrev pub allowed : Core → List Entry → Command → Bool
allowed k s Reset = true
allowed k s (Rts m) = true
allowed k s BitModify = true
allowed k s Read = true
allowed k s Write = true
allowed k s ReadStatus = true
allowed k s RxStatus = true
allowed k s (ReadRxBuffer b a) = is_full k.control b
allowed k s (LoadTxBuffer b a) = is_free k b && no_fall b s
allowed k s UnknownCode = true

-- the bytes of the accepted exchanges
unfoldable pub bytes : List Entry → List ℕ
bytes [] = []
bytes (x ∷ xs) = cond (is_exchange (role_in x)) (byte_at x.rec 1 ∷ bytes xs) (bytes xs)

-- The moment, if a session of this speaker with this inside and these bytes, its select low at this chip, is listed. A session with no
-- exchange is a command cut short. A code that the panel may not give counts as unknown.
unfoldable pub listed_by : ℕ → Speaker → Chip → List Entry → List ℕ → Option ℕ
listed_by extra p c s [] = Some 0
listed_by extra p c s (b ∷ bs) =
    cond (leb (length (b ∷ bs)) (most extra (command_by p b)) && allowed c.core s (command_by p b)) (Some (moment_of extra (command_by p b))) None

-- by its select low and what stands inside
abbrev pub listed : ℕ → Entry → List Entry → Option ℕ
listed extra l s = listed_by extra (speaker_in l.rec) l.met s (bytes s)

-- ---- the tidied list
unfoldable pub events : List Entry → List Entry
events [] = []
events (x ∷ xs) = cond (is_event_role (role_in x)) (x ∷ events xs) (events xs)

unfoldable pub others : List Entry → List Entry
others [] = []
others (x ∷ xs) = cond (is_event_role (role_in x)) (others xs) (x ∷ others xs)

-- what stands before accepted exchange number k, and the rest
unfoldable pub before : ℕ → List Entry → List Entry
before k [] = []
before k (x ∷ xs) = cond (is_exchange (role_in x)) (elim k [ zero ↦ [] | suc j ↦ x ∷ before j xs ]) (x ∷ before k xs)

unfoldable pub after : ℕ → List Entry → List Entry
after k [] = []
after k (x ∷ xs) = cond (is_exchange (role_in x)) (elim k [ zero ↦ x ∷ xs | suc j ↦ after j xs ]) (after k xs)

-- A session: its select low, what stands inside, its select high. A listed one gives up its events: those before the moment move
-- right ahead of select low, the others right behind select high.
unfoldable pub placed : Option ℕ → Entry → List Entry → Entry → List Entry
placed None l s h = l ∷ (s ++ (h ∷ []))
placed (Some k) l s h = events (before k s) ++ (l ∷ (others s ++ (h ∷ events (after k s))))

unfoldable pub session : ℕ → Entry → List Entry → Entry → List Entry
session extra l s h = placed (listed extra l s) l s h

-- Outside a session, or inside one that began with this entry and has come so far.
pub data Place : Type 0 where
  outside : Place
  inside : Entry → List Entry → Place

unfoldable pub tidy_from : ℕ → Place → List Entry → List Entry
tidy_from extra outside [] = []
tidy_from extra outside (x ∷ xs) = cond (is_low (role_in x)) (tidy_from extra (inside x []) xs) (x ∷ tidy_from extra outside xs)
tidy_from extra (inside l s) [] = l ∷ s
tidy_from extra (inside l s) (x ∷ xs) =
    cond (is_high (role_in x)) (session extra l s x ++ tidy_from extra outside xs) (tidy_from extra (inside l (s ++ (x ∷ []))) xs)

unfoldable pub tidy : ℕ → List Entry → List Entry
tidy extra t = tidy_from extra outside t

unfoldable pub records : List Entry → List (List ℕ)
records [] = []
records (x ∷ xs) = x.rec ∷ records xs

unfoldable pub outs : List Entry → List Outcome
outs [] = []
outs (x ∷ xs) = x.out ∷ outs xs

-- ---- demand 3
-- Run a list from power-on and tidy it. Run by the rules from power-on again, the tidied records get the refusals, answers and sets
-- that they had, each its own, and the end state is the same.
abbrev pub Demand3For : ℕ → Type 0
Demand3For extra =
    (rs : List (List ℕ))
    → (outcomes power_on (records (tidy extra (trace power_on rs))) ≡ outs (tidy extra (trace power_on rs)))
    × (chip_after power_on (records (tidy extra (trace power_on rs))) ≡ chip_after power_on rs)

-- as the rules list the commands: no byte past an instruction's last
abbrev pub Demand3 : Type 0
Demand3 = Demand3For 0

-- ---- what keeps the tidied list honest
-- the events of the list in their order, and its other records in theirs
abbrev pub SameOrder : ℕ → Type 0
SameOrder extra = (t : List Entry) → (events (tidy extra t) ≡ events t) × (others (tidy extra t) ≡ others t)

-- no event stands inside a listed session
abbrev pub Still : Option ℕ → List Entry → Type 0
Still None s = Unit {0}
Still (Some k) s = events s ≡ []

abbrev pub Apart : ℕ → Place → List Entry → Type 0
Apart extra p [] = Unit {0}
Apart extra outside (x ∷ xs) = Apart extra (cond (is_low (role_in x)) (inside x []) outside) xs
Apart extra (inside l s) (x ∷ xs) =
    cond (is_high (role_in x)) (Still (listed extra l s) s × Apart extra outside xs) (Apart extra (inside l (s ++ (x ∷ []))) xs)

-- then the list is tidy as it stands
abbrev pub TidyKept : ℕ → Type 0
TidyKept extra = (t : List Entry) → Apart extra outside t → tidy extra t ≡ t

-- nothing inside is an accepted select high
abbrev pub Inner : List Entry → Type 0
Inner [] = Unit {0}
Inner (x ∷ xs) = (is_high (role_in x) ≡ false) × Inner xs

-- tidying is fixed by these equations on whole lists
pub record TidyIs (extra : ℕ) : Type 0 where
  pub empty : tidy extra [] ≡ []
  pub beyond : (x : Entry) (t : List Entry) → is_low (role_in x) ≡ false → tidy extra (x ∷ t) ≡ x ∷ tidy extra t
  pub whole : (l : Entry) (s : List Entry) (h : Entry) (t : List Entry) → is_low (role_in l) ≡ true → Inner s → is_high (role_in h) ≡ true
      → tidy extra (l ∷ (s ++ (h ∷ t))) ≡ session extra l s h ++ tidy extra t
  pub still_open : (l : Entry) (s : List Entry) → is_low (role_in l) ≡ true → Inner s → tidy extra (l ∷ s) ≡ l ∷ s
