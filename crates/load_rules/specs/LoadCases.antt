-- Loads worked out, each with the whole profile 0. Assumes nothing: these are definitions.
use Rattle.std.specs.Prelude.{ℕ, zero, suc, List, [], ◌∷◌, ◌≡◌, replicate, Option, Some, None}
use Rattle.registers.specs.declared.Mode.{Mode}
use Rattle.registers.specs.declared.Mode.TheVariants.{Normal, Configuration}
use Rattle.registers.specs.declared.TxBuffer.TheVariants.{Txb0}
use Rattle.registers.specs.declared.TxBuffer.{TxBuffer}
use Rattle.registers.specs.declared.Counters.{Counters}
use Rattle.registers.specs.Errors.{no_errors}
use Rattle.registers.specs.State.{with_control}
use Rattle.registers.specs.Registers.{power_on_core}
use Rattle.spi.specs.declared.Select.TheVariants.{Raised}
use Rattle.mcp2515.specs.declared.Chip.{Chip}
use Rattle.load_machine.specs.declared.Verdict.{Verdict}
use Rattle.load_machine.specs.declared.Verdict.TheVariants.{Waiting, In}
use Rattle.load_machine.specs.declared.Stage.TheVariants.{Ended}
use Rattle.load_machine.specs.Profile.{profile_size}
use Rattle.load_machine.specs.Machine.{plain_record}
use Rattle.load_rules.specs.Load.{load_of}

-- a chip as at power-on but for TXB0CTRL, the counters, mode, flight and mode request
abbrev pub chip_with : ℕ → Counters → Mode → Option TxBuffer → Option Mode → Chip
chip_with txb0 counters mode flight request =
    record {
      core = with_control power_on_core (record {
        flags = power_on_core.control.flags;
        tx = record { txb0 = txb0; txb1 = 0; txb2 = 0 };
        rx = power_on_core.control.rx;
        counters = counters;
        state = record { mode = mode; flight = flight; request = request };
      });
      select = Raised;
    }

abbrev pub some_errors : Counters
some_errors = record { tec = 200; rec = 50 }

abbrev pub bus_off : Counters
bus_off = record { tec = 256; rec = 50 }

abbrev pub no_events : ℕ → List (List ℕ)
no_events n = []

-- an own frame ends, sent, after two commands
abbrev pub sent_after_two : ℕ → List (List ℕ)
sent_after_two zero = []
sent_after_two (suc zero) = []
sent_after_two (suc (suc zero)) = plain_record 5 0 ∷ []
sent_after_two (suc (suc (suc n))) = []

-- what a load of zeros says, and where the chip is then: its mode, the request that is left and the counters
pub record Ends (c : Chip) (g : ℕ → List (List ℕ)) (verdict : Verdict) (mode : Mode) (request : Option Mode) (counters : Counters) : Type 0 where
  pub says : (load_of c (replicate profile_size 0) g).stage ≡ Ended verdict
  pub ends_in : (load_of c (replicate profile_size 0) g).chip.core.control.state.mode ≡ mode
  pub leaves : (load_of c (replicate profile_size 0) g).chip.core.control.state.request ≡ request
  pub counts : (load_of c (replicate profile_size 0) g).chip.core.control.counters ≡ counters

-- A chip that no run reaches, and whose request is not settled: in Configuration with Normal asked for and TXREQ set. The first select
-- low carries the request out, so that the load waits in Normal, and the mode at the start is asked for in vain.
abbrev pub Unsettled : Type 0
Unsettled = Ends (chip_with 0x08 no_errors Configuration None (Some Normal)) no_events Waiting Normal (Some Configuration) no_errors

-- A load that waits can pass through Configuration after its reading: the frame in flight ends then, and the counters are 0 after it.
abbrev pub PassesThrough : Type 0
PassesThrough = Ends (chip_with 0x08 some_errors Normal (Some Txb0) None) sent_after_two Waiting Normal None no_errors

-- With no such end they stay.
abbrev pub StaysInNormal : Type 0
StaysInNormal = Ends (chip_with 0x08 some_errors Normal (Some Txb0) None) no_events Waiting Normal None some_errors

-- A load that goes in from another mode ends bus-off, since it enters Configuration.
abbrev pub EndsBusOff : Type 0
EndsBusOff = Ends (chip_with 0x00 bus_off Normal None None) no_events In Normal None no_errors
