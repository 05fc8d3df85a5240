-- What holds of every chip that a run from power-on reaches, and what no step does to a filter, a mask or the level of a pin.
use Rattle.std.specs.Prelude.{ℕ, ◌%◌, Bool, true, false, not, ◌&&◌, ◌||◌, List, ◌≡◌, Option, Some, None}
use Rattle.records.specs.declared.Kind.TheVariants.{PinLevel}
use Rattle.records.specs.Records.{kind_of}
use Rattle.registers.specs.declared.Region.{Region}
use Rattle.registers.specs.declared.Region.TheVariants.{Filters, Masks}
use Rattle.registers.specs.declared.Mode.{Mode}
use Rattle.registers.specs.declared.Control.{Control}
use Rattle.registers.specs.State.{is_configuration, is_idle}
use Rattle.registers.specs.Registers.{region_of, holds}
use Rattle.registers.specs.Modes.{sends_in, waits, settled}
use Rattle.controller.specs.Sending.{may_send}
use Rattle.spi.specs.declared.Act.{Act}
use Rattle.spi.specs.declared.Act.TheVariants.{Rest, ResetAll, Fetch, Store, Modify, RequestToSend, ClearFlag, FetchStatus, FetchRxStatus, Refuse}
use Rattle.mcp2515.specs.declared.Chip.{Chip}
use Rattle.mcp2515.specs.Step.{power_on, asked, next_chip, chip_after}

-- ---- of the control registers after any list of records from power-on
abbrev pub Reached : (Control → Type 0) → Type 0
Reached P = (rs : List (List ℕ)) → P (chip_after power_on rs).core.control

-- no mode request is left that can be carried out
abbrev pub SettledReached : Type 0
SettledReached = Reached (λ c. settled c ≡ c)

-- one that is left waits for a TXREQ or a flight, in Normal or Loopback
abbrev pub is_pending : Option Mode → Bool
is_pending None = false
is_pending (Some m) = true

abbrev pub PendingReached : Type 0
PendingReached =
    Reached (λ c. is_pending c.state.request ≡ true
    → (sends_in c.state.mode ≡ true) × (waits c.tx || not (is_idle c.state.flight) ≡ true))

-- while a flight lasts the mode is Normal or Loopback and the chip is not bus-off
abbrev pub FlightReached : Type 0
FlightReached = Reached (λ c. is_idle c.state.flight ≡ false → may_send c ≡ true)

-- ---- of a step at any chip
-- a byte is written, by WRITE, LOAD TX BUFFER or BIT MODIFY
abbrev pub is_store : Act → Bool
is_store Rest = false
is_store ResetAll = false
is_store (Fetch a) = false
is_store (Store a b) = true
is_store (Modify a m b) = true
is_store (RequestToSend m) = false
is_store (ClearFlag n) = false
is_store FetchStatus = false
is_store FetchRxStatus = false
is_store (Refuse n) = false

abbrev pub stores_in_configuration : Chip → List ℕ → Bool
stores_in_configuration c r = is_store (asked c.select r) && is_configuration c.core.control.state.mode

-- the bytes of a region hold what they held
abbrev pub BytesKept : Region → Chip → List ℕ → Type 0
BytesKept g c r = (a : ℕ) → region_of (a % 128) ≡ g → holds (next_chip c r).core a ≡ holds c.core a

-- a filter byte changes by a store in Configuration and by nothing else: by no event, and not by RESET
abbrev pub FiltersKept : Type 0
FiltersKept = (c : Chip) (r : List ℕ) → stores_in_configuration c r ≡ false → BytesKept Filters c r

-- a mask byte changes only by a store in Configuration or by RESET
abbrev pub MasksKept : Type 0
MasksKept = (c : Chip) (r : List ℕ) → stores_in_configuration c r ≡ false → (asked c.select r ≡ ResetAll → ⊥) → BytesKept Masks c r

-- ---- the level of a request pin changes by a record of kind 8 and by nothing else: by no other event, and not by RESET
abbrev pub PinsKept : Type 0
PinsKept = (c : Chip) (r : List ℕ) → (kind_of r ≡ Some PinLevel → ⊥) → (next_chip c r).core.pins ≡ c.core.pins
