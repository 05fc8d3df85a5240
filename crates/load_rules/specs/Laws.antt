-- What is true of every load. Each law is a type; proofs/Loads shows them. Assumes nothing: these are definitions.
use Rattle.std.specs.Prelude.{ℕ, zero, suc, ◌+◌, ◌*◌, ◌%◌, ◌<◌, Bool, true, false, cond, not, ◌&&◌, List, [], ◌∷◌, ◌++◌, ◌≡◌, leb, length, get_or, None}
use Rattle.std.specs.Int.Bits.{bit_and}
use Rattle.registers.specs.declared.Mode.{Mode}
use Rattle.registers.specs.declared.Mode.TheVariants.{Configuration}
use Rattle.registers.specs.declared.Core.{Core}
use Rattle.registers.specs.State.{mode_number}
use Rattle.registers.specs.Registers.{holds}
use Rattle.registers.specs.Modes.{settled}
use Rattle.spi.specs.declared.Select.TheVariants.{Raised}
use Rattle.spi.specs.declared.Act.{Act}
use Rattle.spi.specs.declared.Act.TheVariants.{Rest, ResetAll, Fetch, Store, Modify, RequestToSend, ClearFlag, FetchStatus, FetchRxStatus, Refuse}
use Rattle.mcp2515.specs.declared.Chip.{Chip}
use Rattle.mcp2515.specs.Step.{power_on, asked, next_chip, chip_after}
use Rattle.mcp2515.specs.Runs.{stores_in_configuration}
use Rattle.load_machine.specs.declared.Verdict.TheVariants.{Refused, Waiting, In}
use Rattle.load_machine.specs.declared.Stage.TheVariants.{Ended}
use Rattle.load_machine.specs.declared.Command.{Command}
use Rattle.load_machine.specs.declared.Command.TheVariants.{Ask, Read, Write}
use Rattle.load_machine.specs.Profile.{profile_size, address_of, bits_of, refusal_for}
use Rattle.load_machine.specs.Machine.{canstat_address, is_reached, records_in, session_of}
use Rattle.load_rules.specs.Load.{gap_before, reply_of, most_commands, start_of, is_lowered, load_of}

-- ---- the commands that a load sends
-- n writes and n reads, from byte i of the profile on
unfoldable pub writes_from : List ℕ → ℕ → ℕ → List Command
writes_from p i zero = []
writes_from p i (suc n) = Write (address_of i) (get_or p i 0) ∷ writes_from p (suc i) n

unfoldable pub reads_from : ℕ → ℕ → List Command
reads_from i zero = []
reads_from i (suc n) = Read (address_of i) ∷ reads_from (suc i) n

-- where its one reading gives Configuration, 71; where not, three, and none of them writes a profile byte
abbrev pub commands_of : Bool → List ℕ → Mode → List Command
commands_of true p m = Ask Configuration ∷ Read canstat_address ∷ (writes_from p 0 profile_size ++ (reads_from 0 profile_size ++ (Ask m ∷ [])))
commands_of false p m = Ask Configuration ∷ Read canstat_address ∷ Ask m ∷ []

-- how many records their sessions have
unfoldable pub records_of_all : List Command → ℕ
records_of_all [] = 0
records_of_all (x ∷ xs) = records_in x + records_of_all xs

pub record CommandCounts (p : List ℕ) (m : Mode) : Type 0 where
  pub in_commands : length (commands_of true p m) ≡ most_commands
  pub in_records : records_of_all (commands_of true p m) ≡ 357
  pub waiting_commands : length (commands_of false p m) ≡ 3
  pub waiting_records : records_of_all (commands_of false p m) ≡ 17

-- their sessions, from command n on, with the events of each gap
unfoldable pub interleaved : (ℕ → List (List ℕ)) → ℕ → List Command → List (List ℕ)
interleaved g n [] = []
interleaved g n (x ∷ xs) = gap_before g n ++ (session_of x ++ interleaved g (suc n) xs)

-- the one reading of the mode gives Configuration
abbrev pub reaches : Chip → (ℕ → List (List ℕ)) → Bool
reaches c g = is_reached (reply_of (chip_after (chip_after c (session_of (Ask Configuration))) (gap_before g 1)) (Read canstat_address))

-- ---- refused: nothing is sent, and the chip is as it was
abbrev pub refusal_of_load : Chip → List ℕ → ℕ
refusal_of_load c p = refusal_for (is_lowered c.select) p (start_of c)

abbrev pub RefusedLoads : Type 0
RefusedLoads =
    (c : Chip) (p : List ℕ) (g : ℕ → List (List ℕ)) → (refusal_of_load c p ≡ 0 → ⊥)
    → load_of c p g ≡ record { stage = Ended (Refused (refusal_of_load c p)); chip = c; sent = [] }

-- ---- not refused
-- what the register of profile byte i holds, in its writable bits
abbrev pub register_of : Core → ℕ → ℕ
register_of k i = bit_and (holds k (address_of i)) (bits_of i)

-- In the code the rows of filters and masks are an array of 48 bytes. Here they are a list, whose type fixes no length, so that is asked:
-- every value of the code's type has it, every 152 bytes stand for a chip that has it, and so has every chip that a run reaches.
abbrev pub IsWhole : Chip → Type 0
IsWhole c = length c.core.config ≡ 48

pub record Loads (c : Chip) (p : List ℕ) (g : ℕ → List (List ℕ)) : Type 0 where
  -- the records that it sends, and the events that come
  pub sent : (load_of c p g).sent ≡ interleaved g 0 (commands_of (reaches c g) p (start_of c))
  -- they are the load: run from the same chip they lead to the same one
  pub replay : (load_of c p g).chip ≡ chip_after c (load_of c p g).sent
  -- a reading of Configuration ends in "in", any other in "waiting"; there is no third outcome
  pub verdict : (load_of c p g).stage ≡ Ended (cond (reaches c g) In Waiting)
  -- "in": each of the 34 registers holds the profile
  pub held : reaches c g ≡ true → (i : ℕ) → i < profile_size → register_of (load_of c p g).chip.core i ≡ get_or p i 0
  -- "waiting": each holds what it held; of RXBnCTRL in the writable bits, since a frame that came may have changed the others
  pub kept : reaches c g ≡ false → (i : ℕ) → i < profile_size → register_of (load_of c p g).chip.core i ≡ register_of c.core i
  -- .. and a filter or mask byte is the same in all its bits
  pub whole : reaches c g ≡ false → (i : ℕ) → i < 32 → holds (load_of c p g).chip.core (address_of i) ≡ holds c.core (address_of i)
  -- CANCTRL asks for the mode at the start, its other bits are kept
  pub canctrl : (load_of c p g).chip.core.control.flags.canctrl ≡ c.core.control.flags.canctrl % 32 + mode_number (start_of c) * 32
  pub select : (load_of c p g).chip.select ≡ Raised
  -- from a chip whose request is settled, so from every one that a run reaches: the mode is the one at the start, and no request is left
  pub mode : settled c.core.control ≡ c.core.control → (load_of c p g).chip.core.control.state.mode ≡ start_of c
  pub request : settled c.core.control ≡ c.core.control → (load_of c p g).chip.core.control.state.request ≡ None

abbrev pub AcceptedLoads : Type 0
AcceptedLoads = (c : Chip) (p : List ℕ) (g : ℕ → List (List ℕ)) → IsWhole c → refusal_of_load c p ≡ 0 → Loads c p g

-- ---- "waiting" command by command: none of the three changes a byte of a filter, of a mask or RXBnCTRL
abbrev pub ProfileBytesKept : Chip → Command → Type 0
ProfileBytesKept c x = (i : ℕ) → i < profile_size → holds (chip_after c (session_of x)).core (address_of i) ≡ holds c.core (address_of i)

abbrev pub CommandsKeep : Type 0
CommandsKeep = (c : Chip) → c.select ≡ Raised → ((m : Mode) → ProfileBytesKept c (Ask m)) × ProfileBytesKept c (Read canstat_address)

-- ---- after a load: a filter byte stays until a store in Configuration, a mask byte until that or a RESET
abbrev pub is_reset : Act → Bool
is_reset Rest = false
is_reset ResetAll = true
is_reset (Fetch a) = false
is_reset (Store a b) = false
is_reset (Modify a m b) = false
is_reset (RequestToSend m) = false
is_reset (ClearFlag n) = false
is_reset FetchStatus = false
is_reset FetchRxStatus = false
is_reset (Refuse n) = false

-- bytes 24 to 31 of a profile are masks
abbrev pub spares : ℕ → Chip → List ℕ → Bool
spares i c r = not (stores_in_configuration c r) && not (leb 24 i && is_reset (asked c.select r))

unfoldable pub spared_by : ℕ → Chip → List (List ℕ) → Bool
spared_by i c [] = true
spared_by i c (r ∷ rs) = spares i c r && spared_by i (next_chip c r) rs

abbrev pub ProfileStays : Type 0
ProfileStays =
    (c : Chip) (rs : List (List ℕ)) (i : ℕ) → i < 32 → spared_by i c rs ≡ true
    → holds (chip_after c rs).core (address_of i) ≡ holds c.core (address_of i)

-- so after "in" the 32 filter and mask bytes are the profile's until then
abbrev pub HeldStays : Type 0
HeldStays =
    (c : Chip) (p : List ℕ) (g : ℕ → List (List ℕ)) → IsWhole c → refusal_of_load c p ≡ 0 → reaches c g ≡ true
    → (rs : List (List ℕ)) (i : ℕ) → i < 32 → spared_by i (load_of c p g).chip rs ≡ true
    → register_of (chip_after (load_of c p g).chip rs).core i ≡ get_or p i 0

-- ---- of every chip that a run from power-on reaches: not refused, the load ends in the mode at the start, with no request left
abbrev pub ReachedLoads : Type 0
ReachedLoads =
    (rs : List (List ℕ)) (p : List ℕ) (g : ℕ → List (List ℕ)) → refusal_of_load (chip_after power_on rs) p ≡ 0
    → Loads (chip_after power_on rs) p g × (settled (chip_after power_on rs).core.control ≡ (chip_after power_on rs).core.control)

-- ---- together, for the promise of a call
pub record LoadLaws : Type 0 where
  pub refused : RefusedLoads
  pub accepted : AcceptedLoads
  pub counts : (p : List ℕ) (m : Mode) → CommandCounts p m
  pub keep : CommandsKeep
  pub stay : ProfileStays
  pub held_stay : HeldStays
  pub reached : ReachedLoads
