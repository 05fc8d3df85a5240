-- What the functions of the run promise. Assumes nothing: these are definitions.
use Rattle.std.specs.Prelude.{ℕ, ◌+◌, ◌*◌, ◌≤◌, Bool, true, false, cond, List, [], ◌≡◌, eqb, length}
use Rattle.std.proofs.lemmas.List.Edits.{sets}
use Rattle.records.specs.Records.{byte_at}
use Rattle.registers.specs.declared.Mode.{Mode}
use Rattle.mcp2515.specs.declared.Chip.{Chip}
use Rattle.mcp2515.specs.Step.{step_of, chip_after}
use Rattle.mcp2515.specs.ChipImage.{chip_of}
use Rattle.load_machine.specs.declared.Stage.{Stage}
use Rattle.load_machine.specs.declared.Stage.TheVariants.{Asking, Looking, Writing, Checking, Returning, Ended}
use Rattle.load_machine.specs.declared.Command.{Command}
use Rattle.load_machine.specs.declared.Turn.TheVariants.{Send}
use Rattle.load_machine.specs.Machine.{session_of}
use Rattle.profile_loader.specs.declared.Replied.{Replied}
use Rattle.profile_loader.specs.declared.Loading.{Loading}
use Rattle.profile_loader.specs.declared.Finished.{Finished}
use Rattle.profile_loader.specs.declared.Loaded.{Loaded}
use Rattle.profile_loader.specs.Gaps.{Between, between, due, not_due, gaps_of, entries_in, log_of, entries_left}
use Rattle.load_rules.specs.Laws.{LoadLaws}
use Rattle.load_rules.specs.Load.{reply_of, Progress, turn_by, turn_of, turns, most_commands, load_of, verdict_in}

-- ---- a command
abbrev pub exchanged : Replied → List ℕ → Replied
exchanged x r =
    record { chip = (step_of x.chip r).chip; reply = cond (eqb (byte_at r 0) 1) (step_of x.chip r).answer x.reply }

unfoldable pub replied : Chip → Command → Replied
replied c x = record { chip = chip_after c (session_of x); reply = reply_of c x }

-- the chip that the bytes m stand for, with a reply
abbrev pub replied_in : List ℕ → ℕ → Replied
replied_in m reply = record { chip = chip_of m; reply = reply }

-- ---- a turn
-- how far a load has come, with its chip
pub record Underway : Type 0 where
  pub stage : Stage
  pub gap : Between

abbrev pub underway : List ℕ → Loading → Underway
underway m x = record { stage = x.stage; gap = between m x.gap }

-- the code's progress as the rules have it, with the records that it has put down since
abbrev pub progress_of : Underway → List (List ℕ) → Progress
progress_of x rs = record { stage = x.stage; chip = x.gap.chip; sent = rs }

-- the same progress as s, whose records are put into the room from a place on
pub record Follows (at : ℕ) (s : Progress) (y : Underway) (room after : List ℕ) : Type 0 where
  pub stage : y.stage ≡ s.stage
  pub chip : y.gap.chip ≡ s.chip
  pub sent : y.gap.sent ≡ at + 16 * length s.sent
  pub records : after ≡ sets room at (log_of s.sent)

-- the entries left, and room to count
pub record Fewer (x y : Underway) : Type 0 where
  pub left : y.gap.left ≤ x.gap.left
  pub bound : y.gap.sent + 16 * y.gap.left ≤ x.gap.sent + 16 * x.gap.left + 96

pub record Advanced (x y : Underway) (p : List ℕ) (command : Command) (events : List ℕ) (n : ℕ) (room after : List ℕ) : Type 0 where
  pub follows : Follows x.gap.sent (turn_by (Send command) p (due n (entries_left events x.gap.left)) (progress_of x [])) y room after
  pub left : entries_left events y.gap.left ≡ not_due n (entries_left events x.gap.left)
  pub fewer : Fewer x y

abbrev pub is_ended : Stage → Bool
is_ended Asking = false
is_ended Looking = false
is_ended (Writing i) = false
is_ended (Checking i agreed) = false
is_ended (Returning v) = false
is_ended (Ended v) = true

pub record Turned (x y : Underway) (p : List ℕ) (m : Mode) (events : List ℕ) (n : ℕ) (room after : List ℕ) : Type 0 where
  pub follows : Follows x.gap.sent (turn_of p m (due n (entries_left events x.gap.left)) (progress_of x [])) y room after
  pub left : is_ended x.stage ≡ false → entries_left events y.gap.left ≡ not_due n (entries_left events x.gap.left)
  pub fewer : Fewer x y

-- all turns
pub record Gone (x y : Underway) (p : List ℕ) (m : Mode) (events room after : List ℕ) : Type 0 where
  pub follows : Follows 0 (turns p m (gaps_of (entries_in events)) most_commands 0 (progress_of x [])) y room after
  pub size : length (log_of (turns p m (gaps_of (entries_in events)) most_commands 0 (progress_of x [])).sent)
      ≡ 16 * length (turns p m (gaps_of (entries_in events)) most_commands 0 (progress_of x [])).sent

-- ---- the whole run, with the entries in its gaps
abbrev pub run_of : Chip → List ℕ → List ℕ → Progress
run_of c p events = load_of c p (gaps_of (entries_in events))

-- the room is filled as far as it goes; each record is 16 bytes
pub record Ran (c : Chip) (p events room after : List ℕ) (y : Finished) : Type 0 where
  pub stage : y.stage ≡ (run_of c p events).stage
  pub chip : y.chip ≡ (run_of c p events).chip
  pub sent : y.sent ≡ 16 * length (run_of c p events).sent
  pub records : after ≡ sets room 0 (log_of (run_of c p events).sent)
  pub size : length (log_of (run_of c p events).sent) ≡ 16 * length (run_of c p events).sent

-- what the load by value promises, and what is true of every load
pub record LoadedFrom (c : Chip) (p events : List ℕ) (y : Loaded) : Type 0 where
  pub chip : y.chip ≡ (run_of c p events).chip
  pub verdict : y.verdict ≡ verdict_in (run_of c p events).stage
  pub laws : LoadLaws
