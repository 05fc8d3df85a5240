-- Calls, records and answers: the record of 16 bytes, its kind, its fields, and what refusal 2 names.
use Rattle.std.specs.Prelude.{ℕ, zero, suc, ◌+◌, ◌*◌, ◌/◌, ◌%◌, min, Bool, true, false, cond, ◌&&◌, ◌||◌, ◌≡◌, List, [], ◌∷◌, eqb, ltb, leb, get_or, Option, Some, None, Result, Ok, Err}
use Rattle.bits.specs.Bit.{has_bit}
use Rattle.records.specs.declared.Kind.{Kind}
use Rattle.records.specs.declared.Kind.TheVariants.{SelectLow, Exchange, SelectHigh, FrameHeard, BusIdle, FrameEnds, ReceiveError, Recovery, PinLevel}
use Rattle.records.specs.declared.Refusal.{Refusal}
use Rattle.records.specs.declared.Refusal.TheVariants.{Select, Field, InFlight, NoFlight, State, Length, Room, Count, Profile, Mode, Oscillator, Rate, Speaker, Short, Chip}
use Rattle.records.specs.declared.Answer.{Answer}
use Rattle.records.specs.declared.Outcome.{Outcome}
use Rattle.records.specs.declared.Frame.{Frame}
use Rattle.records.specs.declared.Fields.{Fields}

-- The refusals of a step, by number; 0 stands for none.
abbrev pub accepted : ℕ
accepted = 0

abbrev pub refused_select : ℕ
refused_select = 1

abbrev pub refused_field : ℕ
refused_field = 2

abbrev pub refused_in_flight : ℕ
refused_in_flight = 3

abbrev pub refused_no_flight : ℕ
refused_no_flight = 4

abbrev pub refused_state : ℕ
refused_state = 5

abbrev pub refused_speaker : ℕ
refused_speaker = 18

-- every refusal has a number
abbrev pub refusal_number : Refusal → ℕ
refusal_number Select = refused_select
refusal_number Field = refused_field
refusal_number InFlight = refused_in_flight
refusal_number NoFlight = refused_no_flight
refusal_number State = refused_state
refusal_number Length = 6
refusal_number Room = 7
refusal_number Count = 8
refusal_number Profile = 10
refusal_number Mode = 11
refusal_number Oscillator = 12
refusal_number Rate = 13
refusal_number Speaker = refused_speaker
refusal_number Short = 19
refusal_number Chip = 21

-- the number that a Result tells
abbrev pub refusal_in : {A : Type 0} → Result A Refusal → ℕ
refusal_in (Ok a) = accepted
refusal_in (Err e) = refusal_number e

-- what is told of a refused record: its refusal, the answer 0 and an empty set
abbrev pub refused_outcome : ℕ → Outcome
refused_outcome n = record { refusal = n; answer = 0; matched = 0 }

-- what is told of a step
abbrev pub outcome_of : Result Answer Refusal → Outcome
outcome_of (Ok a) = record { refusal = accepted; answer = a.byte; matched = a.matched }
outcome_of (Err e) = refused_outcome (refusal_number e)

abbrev pub Tells : Result Answer Refusal → Outcome → Type 0
Tells x o = o ≡ outcome_of x

-- Byte i of a record.
abbrev pub byte_at : List ℕ → ℕ → ℕ
byte_at r i = get_or r i 0

-- The kind stands in byte 0.
abbrev pub kind_by : ℕ → Option Kind
kind_by b =
    cond (eqb b 0) (Some SelectLow)
    (cond (eqb b 1) (Some Exchange)
    (cond (eqb b 2) (Some SelectHigh)
    (cond (eqb b 3) (Some FrameHeard)
    (cond (eqb b 4) (Some BusIdle)
    (cond (eqb b 5) (Some FrameEnds)
    (cond (eqb b 6) (Some ReceiveError)
    (cond (eqb b 7) (Some Recovery)
    (cond (eqb b 8) (Some PinLevel) None))))))))

unfoldable pub kind_of : List ℕ → Option Kind
kind_of r = kind_by (byte_at r 0)

-- a number that is no kind is refused as a field
abbrev pub kind_or_refusal : Option Kind → Result Kind Refusal
kind_or_refusal (Some k) = Ok k
kind_or_refusal None = Err Field

abbrev pub KindOrRefusal : ℕ → Result Kind Refusal → Type 0
KindOrRefusal n r = r ≡ kind_or_refusal (kind_by n)

-- Events are kinds 3 to 8.
abbrev pub is_event : Option Kind → Bool
is_event (Some SelectLow) = false
is_event (Some Exchange) = false
is_event (Some SelectHigh) = false
is_event (Some FrameHeard) = true
is_event (Some BusIdle) = true
is_event (Some FrameEnds) = true
is_event (Some ReceiveError) = true
is_event (Some Recovery) = true
is_event (Some PinLevel) = true
is_event None = false

-- a law that the proofs show: by their numbers, events are the kinds from 3 to 8 and no other
abbrev pub EventNumbers : Type 0
EventNumbers = (n : ℕ) → is_event (kind_by n) ≡ (ltb 2 n && ltb n 9)

-- The n bytes from i on are 0.
abbrev pub zeros : List ℕ → ℕ → ℕ → Bool
zeros r i zero = true
zeros r i (suc n) = zeros r i n && eqb (byte_at r (i + n)) 0

-- a length code goes up to 15
abbrev pub largest_code : ℕ
largest_code = 15

-- ---- byte 1 goes up to this
abbrev pub largest_field : Kind → ℕ
largest_field SelectLow = 0
largest_field Exchange = 255
largest_field SelectHigh = 0
largest_field FrameHeard = 3
largest_field BusIdle = 0
largest_field FrameEnds = 2
largest_field ReceiveError = 1
largest_field Recovery = 0
largest_field PinLevel = 2

-- ---- and byte 2 up to this. In kinds 0 to 2 it is who speaks, 0 the controller and 1 the panel; in kind 8, where byte 1 is n of TXnRTS,
-- it is the level, 0 low and 1 high
abbrev pub largest_second : Kind → ℕ
largest_second SelectLow = 1
largest_second Exchange = 1
largest_second SelectHigh = 1
largest_second FrameHeard = largest_code
largest_second BusIdle = 0
largest_second FrameEnds = 0
largest_second ReceiveError = 0
largest_second Recovery = 0
largest_second PinLevel = 1

-- ---- kind 3: a frame
-- bytes 4 to 7 are the identifier, high byte first
abbrev pub identifier_of : List ℕ → ℕ
identifier_of r = byte_at r 4 * 0x1000000 + byte_at r 5 * 0x10000 + byte_at r 6 * 0x100 + byte_at r 7

-- extended and remote are bits 0 and 1 of byte 1, the length code is byte 2, the data lie from byte 8 on
unfoldable pub frame_of : List ℕ → Frame
frame_of r =
    record {
      extended = has_bit (byte_at r 1) 0;
      remote = has_bit (byte_at r 1) 1;
      code = byte_at r 2;
      identifier = identifier_of r;
      bytes = byte_at r 8 ∷ byte_at r 9 ∷ byte_at r 10 ∷ byte_at r 11 ∷ byte_at r 12 ∷ byte_at r 13 ∷ byte_at r 14 ∷ byte_at r 15 ∷ [];
    }

-- the data bytes that a length code stands for: 9 to 15 mean eight, as 8 does
abbrev pub data_bytes : ℕ → ℕ
data_bytes code = min code 8

-- the data bytes that a frame carries: those of its code, none if remote
abbrev pub carried : Bool → ℕ → ℕ
carried remote code = cond remote 0 (data_bytes code)

-- the largest identifier, extended and standard
abbrev pub largest_identifier : Bool → ℕ
largest_identifier extended = cond extended 536870911 2047

-- of the first j data bytes, those that are not among the n carried are 0
abbrev pub zeros_past : List ℕ → ℕ → ℕ → Bool
zeros_past r n zero = true
zeros_past r n (suc j) = zeros_past r n j && (ltb j n || eqb (byte_at r (8 + j)) 0)

abbrev pub sound_frame : List ℕ → Bool
sound_frame r =
    leb (byte_at r 1) (largest_field FrameHeard) && leb (byte_at r 2) (largest_second FrameHeard) && eqb (byte_at r 3) 0
    && leb (identifier_of r) (largest_identifier (has_bit (byte_at r 1) 0))
    && zeros_past r (carried (has_bit (byte_at r 1) 1) (byte_at r 2)) 8

-- ---- a kind with two fields at most
abbrev pub sound_as : Kind → List ℕ → Bool
sound_as k r = leb (byte_at r 1) (largest_field k) && leb (byte_at r 2) (largest_second k) && zeros r 3 13

-- ---- the same where the number may be no kind: then both fields are 0 too
abbrev pub sound_plain : Option Kind → List ℕ → Bool
sound_plain (Some k) r = sound_as k r
sound_plain None r = leb (byte_at r 1) 0 && leb (byte_at r 2) 0 && zeros r 3 13

abbrev pub sound_by : Option Kind → List ℕ → Bool
sound_by (Some SelectLow) r = sound_as SelectLow r
sound_by (Some Exchange) r = sound_as Exchange r
sound_by (Some SelectHigh) r = sound_as SelectHigh r
sound_by (Some FrameHeard) r = sound_frame r
sound_by (Some BusIdle) r = sound_as BusIdle r
sound_by (Some FrameEnds) r = sound_as FrameEnds r
sound_by (Some ReceiveError) r = sound_as ReceiveError r
sound_by (Some Recovery) r = sound_as Recovery r
sound_by (Some PinLevel) r = sound_as PinLevel r
sound_by None r = false

-- Not named by refusal 2: a known kind, fields in their ranges, every other byte 0.
unfoldable pub sound_of : List ℕ → Bool
sound_of r = sound_by (kind_of r) r

-- ---- a record taken apart: the 16 bytes that its fields stand for, the identifier high byte first, the data as one number low byte first
unfoldable pub record_of : Fields → List ℕ
record_of f =
    f.kind ∷ f.field ∷ f.code ∷ f.spare
    ∷ f.identifier / 0x1000000 % 256 ∷ f.identifier / 0x10000 % 256 ∷ f.identifier / 0x100 % 256 ∷ f.identifier % 256
    ∷ f.data % 256 ∷ f.data / 0x100 % 256 ∷ f.data / 0x10000 % 256 ∷ f.data / 0x1000000 % 256
    ∷ f.data / 0x100000000 % 256 ∷ f.data / 0x10000000000 % 256 ∷ f.data / 0x1000000000000 % 256 ∷ f.data / 0x100000000000000 % 256 ∷ []
