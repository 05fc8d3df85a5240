-- W1 to W12 by computation, and the cases of the panel: one claim over each table. Assumes nothing.
use Rattle.records.specs.Records.{kind_of, sound_of, frame_of}
use Rattle.registers.specs.Errors.{error_flags, moved_to}
use Rattle.registers.specs.Modes.{entered, free_to_change, settled}
use Rattle.registers.specs.Registers.{region_of, writable_of, power_on_core, reset_core, interrupt_code, canstat_of, holds, reads}
use Rattle.stores.specs.Store.{tx_stored, requested_of, requested_to_send, aborted, canctrl_stored, stored, takes_mask, modified}
use Rattle.receiving.specs.Receiving.{matches, set_of, matched_of, lowest_from, hit_for, verdict_of, match_of, bytes_stored, received_of}
use Rattle.controller.specs.Sending.{best_of, choice_of, after_failure, sent_by, lost_by, failed_by, frame_at}
use Rattle.controller.specs.Events.{heard_of, ended, idled, error_heard, pinned, event_refusal, event_of}
use Rattle.spi.specs.Instructions.{buffer_command, command_of, status_of, rx_status_of}
use Rattle.mcp2515.specs.Step.{power_on, asked, turned, step_of, chip_after, outcomes}
use Rattle.mcp2515.specs.Cases.{table, all_right, CasesHold}
use Rattle.mcp2515.specs.Panel as panel

pub cases_hold : CasesHold
unfolding kind_of sound_of frame_of error_flags moved_to entered free_to_change settled region_of writable_of power_on_core reset_core interrupt_code canstat_of holds reads tx_stored requested_of requested_to_send aborted canctrl_stored stored takes_mask modified matches set_of matched_of lowest_from hit_for verdict_of match_of bytes_stored received_of best_of choice_of after_failure sent_by lost_by failed_by frame_at heard_of ended idled error_heard event_refusal event_of buffer_command command_of status_of rx_status_of power_on asked turned step_of chip_after outcomes table all_right
cases_hold = tt

-- what the panel can do, in the same way
pub panel_cases_hold : panel.PanelCasesHold
unfolding kind_of sound_of frame_of error_flags moved_to entered free_to_change settled region_of writable_of power_on_core reset_core interrupt_code canstat_of holds reads tx_stored requested_of requested_to_send aborted canctrl_stored stored takes_mask modified matches set_of matched_of lowest_from hit_for verdict_of match_of bytes_stored received_of best_of choice_of after_failure sent_by lost_by failed_by frame_at heard_of ended idled error_heard pinned event_refusal event_of buffer_command command_of status_of rx_status_of power_on asked turned step_of chip_after outcomes panel.table all_right
panel_cases_hold = tt
