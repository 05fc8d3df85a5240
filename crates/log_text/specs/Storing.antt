-- What the functions below `render_stretch` promise of the output. Assumes nothing: these are definitions.
use Rattle.std.specs.Prelude.{◌≡◌, List, ℕ, ◌+◌, ◌*◌, ◌≤◌, length}
use Rattle.std.proofs.lemmas.List.Edits.{sets}
use Rattle.mcp2515.specs.declared.Chip.{Chip}
use Rattle.bus_log.specs.Log.{steps_of}
use Rattle.log_text.specs.Line.{lines_of}
use Rattle.log_text.specs.Stretch.{line_room, stretch_room, replay_of}

-- text was stored at a place, and end is the place after it
pub record Stored (before : List ℕ) (at : ℕ) (text after : List ℕ) (end : ℕ) : Type 0 where
  pub buffer : after ≡ sets before at text
  pub place : end ≡ at + length text

-- the lines of count records after n others were stored from the start on
pub record Lined (c : Chip) (n count : ℕ) (part before after : List ℕ) (end : ℕ) : Type 0 where
  pub text : Stored before 0 (lines_of n part (steps_of count c part)) after end
  pub most : end ≤ count * line_room

-- the text of a stretch was stored from the start on
pub record Written (c : Chip) (n : ℕ) (part before after : List ℕ) (end : ℕ) : Type 0 where
  pub text : Stored before 0 (replay_of c n part).text after end
  pub most : end ≤ stretch_room (length part)
