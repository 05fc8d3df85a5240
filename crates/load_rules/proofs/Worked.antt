-- The loads that specs/LoadCases works out, by computing. Assumes nothing.
use mathlib.Core.Path.{refl}
use Rattle.records.specs.Records.{kind_of, sound_of}
use Rattle.registers.specs.Errors.{error_flags, moved_to}
use Rattle.registers.specs.Modes.{entered, free_to_change, settled}
use Rattle.registers.specs.Registers.{region_of, writable_of, power_on_core, interrupt_code, canstat_of, holds, reads}
use Rattle.stores.specs.Store.{aborted, canctrl_stored, stored, takes_mask, modified}
use Rattle.controller.specs.Sending.{sent_by}
use Rattle.controller.specs.Events.{ended, event_refusal, event_of}
use Rattle.spi.specs.Instructions.{buffer_command, command_of}
use Rattle.mcp2515.specs.Step.{asked, turned, step_of, chip_after}
use Rattle.load_machine.specs.Profile.{address_of, is_writable, checked_for}
use Rattle.load_machine.specs.Machine.{begin_of, next_of, following_of, record_of_command, records_by}
use Rattle.load_rules.specs.Load.{events_in, last_reply, turn_of, turns, load_of}
use Rattle.load_rules.specs.LoadCases.{Unsettled, PassesThrough, StaysInNormal, EndsBusOff}

pub unsettled : Unsettled
unfolding kind_of sound_of entered free_to_change settled region_of writable_of power_on_core interrupt_code canstat_of holds reads aborted canctrl_stored stored takes_mask modified buffer_command command_of asked turned step_of chip_after address_of is_writable checked_for begin_of next_of following_of record_of_command records_by events_in last_reply turn_of turns load_of
unsettled = record { says = refl; ends_in = refl; leaves = refl; counts = refl }

pub passes_through : PassesThrough
unfolding kind_of sound_of error_flags moved_to entered free_to_change settled region_of writable_of power_on_core interrupt_code canstat_of holds reads aborted canctrl_stored stored takes_mask modified sent_by ended event_refusal event_of buffer_command command_of asked turned step_of chip_after address_of is_writable checked_for begin_of next_of following_of record_of_command records_by events_in last_reply turn_of turns load_of
passes_through = record { says = refl; ends_in = refl; leaves = refl; counts = refl }

pub stays_in_normal : StaysInNormal
unfolding kind_of sound_of entered free_to_change settled region_of writable_of power_on_core interrupt_code canstat_of holds reads aborted canctrl_stored stored takes_mask modified buffer_command command_of asked turned step_of chip_after address_of is_writable checked_for begin_of next_of following_of record_of_command records_by events_in last_reply turn_of turns load_of
stays_in_normal = record { says = refl; ends_in = refl; leaves = refl; counts = refl }

pub ends_bus_off : EndsBusOff
unfolding kind_of sound_of entered free_to_change settled region_of writable_of power_on_core interrupt_code canstat_of holds reads aborted canctrl_stored stored takes_mask modified buffer_command command_of asked turned step_of chip_after address_of is_writable checked_for begin_of next_of following_of record_of_command records_by events_in last_reply turn_of turns load_of
ends_bus_off = record { says = refl; ends_in = refl; leaves = refl; counts = refl }
