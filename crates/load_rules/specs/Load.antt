-- The run of the loader over a chip: any chip, any profile, any family of records in the gaps. Assumes nothing: these are definitions.
use Rattle.std.specs.Prelude.{ℕ, zero, suc, Bool, true, false, cond, List, [], ◌∷◌, ◌++◌, eqb}
use Rattle.records.specs.Records.{byte_at, kind_of, is_event}
use Rattle.registers.specs.declared.Mode.{Mode}
use Rattle.spi.specs.declared.Select.{Select}
use Rattle.spi.specs.declared.Select.TheVariants.{Raised, Lowered}
use Rattle.mcp2515.specs.declared.Chip.{Chip}
use Rattle.mcp2515.specs.Step.{step_of, next_chip, chip_after}
use Rattle.load_machine.specs.declared.Verdict.{Verdict}
use Rattle.load_machine.specs.declared.Verdict.TheVariants.{Differs}
use Rattle.load_machine.specs.declared.Stage.{Stage}
use Rattle.load_machine.specs.declared.Stage.TheVariants.{Asking, Looking, Writing, Checking, Returning, Ended}
use Rattle.load_machine.specs.declared.Command.{Command}
use Rattle.load_machine.specs.declared.Turn.{Turn}
use Rattle.load_machine.specs.declared.Turn.TheVariants.{Send, Say}
use Rattle.load_machine.specs.Machine.{begin_of, next_of, following_of, session_of}

-- ---- bus events between the commands
-- of some records the events, kinds 3 to 8, whether or not the chip will take them; only these come
unfoldable pub events_in : List (List ℕ) → List (List ℕ)
events_in [] = []
events_in (r ∷ rs) = cond (is_event (kind_of r)) (r ∷ events_in rs) (events_in rs)

-- a family gives the records of each gap; gap n is after n commands, and before the first command there is none
abbrev pub gap_before : (ℕ → List (List ℕ)) → ℕ → List (List ℕ)
gap_before g zero = []
gap_before g (suc n) = events_in (g (suc n))

-- ---- the reply to a command: the answer to its last byte
unfoldable pub last_reply : Chip → List (List ℕ) → ℕ → ℕ
last_reply c [] reply = reply
last_reply c (r ∷ rs) reply = last_reply (next_chip c r) rs (cond (eqb (byte_at r 0) 1) (step_of c r).answer reply)

abbrev pub reply_of : Chip → Command → ℕ
reply_of c x = last_reply c (session_of x) 0

-- ---- a turn
-- how far the loader has come: its stage, the chip, and the records so far, its own and the events
pub record Progress : Type 0 where
  pub stage : Stage
  pub chip : Chip
  pub sent : List (List ℕ)

-- the events es come, then the command; once there is a verdict, neither
abbrev pub turn_by : Turn → List ℕ → List (List ℕ) → Progress → Progress
turn_by (Say v) p es s = s
turn_by (Send x) p es s =
    record {
      stage = following_of p s.stage (reply_of (chip_after s.chip es) x);
      chip = chip_after (chip_after s.chip es) (session_of x);
      sent = s.sent ++ (es ++ session_of x);
    }

unfoldable pub turn_of : List ℕ → Mode → List (List ℕ) → Progress → Progress
turn_of p m es s = turn_by (next_of p m s.stage) p es s

-- k turns, command n being the next, from 0
unfoldable pub turns : List ℕ → Mode → (ℕ → List (List ℕ)) → ℕ → ℕ → Progress → Progress
turns p m g zero n s = s
turns p m g (suc k) n s = turns p m g k (suc n) (turn_of p m (gap_before g n) s)

-- ---- the load
-- the most commands: two asks and a look, 34 writes and 34 reads
abbrev pub most_commands : ℕ
most_commands = 71

-- the mode at the start is the chip's mode, not what CANCTRL asks for
abbrev pub start_of : Chip → Mode
start_of c = c.core.control.state.mode

abbrev pub is_lowered : Select → Bool
is_lowered Raised = false
is_lowered (Lowered p i) = true

abbrev pub begun : Chip → List ℕ → Progress
begun c p = record { stage = begin_of (is_lowered c.select) p (start_of c); chip = c; sent = [] }

unfoldable pub load_of : Chip → List ℕ → (ℕ → List (List ℕ)) → Progress
load_of c p g = turns p (start_of c) g most_commands 0 (begun c p)

-- what the last stage says; before it there is no verdict, and Differs stands for that
abbrev pub verdict_in : Stage → Verdict
verdict_in Asking = Differs
verdict_in Looking = Differs
verdict_in (Writing i) = Differs
verdict_in (Checking i agreed) = Differs
verdict_in (Returning v) = Differs
verdict_in (Ended v) = v
