-- The loader as a machine: its stage, the profile and the reply to its last command give the next command, or the verdict. It knows
-- no chip. Assumes nothing: these are definitions.
use Rattle.std.specs.Prelude.{ℕ, zero, suc, ◌+◌, ◌-◌, ◌*◌, ◌/◌, Bool, true, cond, ◌&&◌, List, [], ◌∷◌, eqb, ltb, get_or, replicate, Result, Ok, Err}
use Rattle.records.specs.declared.Refusal.{Refusal}
use Rattle.records.specs.Records.{refusal_number}
use Rattle.registers.specs.declared.Mode.{Mode}
use Rattle.registers.specs.declared.Mode.TheVariants.{Configuration}
use Rattle.registers.specs.State.{mode_number}
use Rattle.load_machine.specs.declared.Verdict.{Verdict}
use Rattle.load_machine.specs.declared.Verdict.TheVariants.{Refused, Waiting, In, Differs}
use Rattle.load_machine.specs.declared.Stage.{Stage}
use Rattle.load_machine.specs.declared.Stage.TheVariants.{Asking, Looking, Writing, Checking, Returning, Ended}
use Rattle.load_machine.specs.declared.Command.{Command}
use Rattle.load_machine.specs.declared.Command.TheVariants.{Ask, Read, Write}
use Rattle.load_machine.specs.declared.Turn.{Turn}
use Rattle.load_machine.specs.declared.Turn.TheVariants.{Send, Say}
use Rattle.load_machine.specs.Profile.{profile_size, address_of, agrees_at, checked_for}

-- ---- the stages
-- refused, it is at its end before it begins
abbrev pub begin_by : Result Unit Refusal → Stage
begin_by (Ok passed) = Asking
begin_by (Err refusal) = Ended (Refused (refusal_number refusal))

unfoldable pub begin_of : Bool → List ℕ → Mode → Stage
begin_of low p m = begin_by (checked_for low p m)

-- where CANSTAT shows the mode
abbrev pub canstat_address : ℕ
canstat_address = 0x0E

-- the one reading of the mode is of CANSTAT; it asks for the mode at the start in either case
unfoldable pub next_of : List ℕ → Mode → Stage → Turn
next_of p m Asking = Send (Ask Configuration)
next_of p m Looking = Send (Read canstat_address)
next_of p m (Writing i) = Send (Write (address_of i) (get_or p i 0))
next_of p m (Checking i agreed) = Send (Read (address_of i))
next_of p m (Returning v) = Send (Ask m)
next_of p m (Ended v) = Say v

-- bits 7-5 of CANSTAT are Configuration
abbrev pub is_reached : ℕ → Bool
is_reached canstat = eqb (canstat / 32) (mode_number Configuration)

-- "in" where all bytes agreed
abbrev pub verdict_by : Bool → Verdict
verdict_by agreed = cond agreed In Differs

-- the last byte of a profile
abbrev pub last_byte : ℕ
last_byte = profile_size - 1

abbrev pub checked_by : ℕ → Bool → Stage
checked_by i agreed = cond (ltb i last_byte) (Checking (suc i) agreed) (Returning (verdict_by agreed))

unfoldable pub following_of : List ℕ → Stage → ℕ → Stage
following_of p Asking reply = Looking
following_of p Looking reply = cond (is_reached reply) (Writing 0) (Returning Waiting)
following_of p (Writing i) reply = cond (ltb i last_byte) (Writing (suc i)) (Checking 0 true)
following_of p (Checking i agreed) reply = checked_by i (agreed && agrees_at p i reply)
following_of p (Returning v) reply = Ended v
following_of p (Ended v) reply = Ended v

-- ---- the session of a command: select low, its bytes, select high, all by the controller
-- its byte j, from 0: a mode is asked for by BIT MODIFY of bits 7-5 of CANCTRL; a READ sends 0 for the reply
abbrev pub byte_of : Command → ℕ → ℕ
byte_of (Ask m) j = get_or (0x05 ∷ 0x0F ∷ 0xE0 ∷ mode_number m * 32 ∷ []) j 0
byte_of (Read a) j = get_or (0x03 ∷ a ∷ 0 ∷ []) j 0
byte_of (Write a v) j = get_or (0x02 ∷ a ∷ v ∷ []) j 0

abbrev pub bytes_in : Command → ℕ
bytes_in (Ask m) = 4
bytes_in (Read a) = 3
bytes_in (Write a v) = 3

-- a record of kind 0, 1 or 2 with its byte 1
abbrev pub plain_record : ℕ → ℕ → List ℕ
plain_record kind field = kind ∷ field ∷ replicate 14 0

-- record j, from 0
unfoldable pub record_of_command : Command → ℕ → List ℕ
record_of_command x j =
    cond (eqb j 0) (plain_record 0 0)
    (cond (ltb (bytes_in x) j) (plain_record 2 0)
    (plain_record 1 (byte_of x (j - 1))))

abbrev pub records_in : Command → ℕ
records_in x = bytes_in x + 2

-- n of them from record j on
unfoldable pub records_by : Command → ℕ → ℕ → List (List ℕ)
records_by x j zero = []
records_by x j (suc n) = record_of_command x j ∷ records_by x (suc j) n

abbrev pub session_of : Command → List (List ℕ)
session_of x = records_by x 0 (records_in x)
