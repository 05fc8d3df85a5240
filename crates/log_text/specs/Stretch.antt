-- The replay of a stretch of a log: of the bytes from a record's start on, after some records and over the chip that they left. Assumes nothing: these are definitions.
use Rattle.std.specs.Prelude.{◌≡◌, cond, List, [], ◌++◌, ℕ, ◌+◌, ◌*◌, ◌-◌, ◌%◌, ◌≤◌, min, ltb, length, take, drop}
use Rattle.mcp2515.specs.declared.Chip.{Chip}
use Rattle.mcp2515.specs.declared.Stepped.{Stepped}
use Rattle.bus_log.specs.Log.{record_size, max_records, length_refusal, room_refusal, count_refusal, records_in, steps_of, last_chip}
use Rattle.log_text.specs.declared.Rendered.{Rendered}
use Rattle.log_text.specs.Line.{line_of, lines_of}

-- the records that may still be run after number of them
abbrev pub records_left : ℕ → ℕ
records_left number = max_records - number

-- how many records of a stretch of size bytes are run: the whole ones, as far as the limit goes
abbrev pub run_in : ℕ → ℕ → ℕ
run_in number size = min (records_in size) (records_left number)

-- the refusal that ends the run in a stretch: 8 at a whole record past the limit, else 6 at a short last record, else 0
unfoldable pub stretch_refusal : ℕ → ℕ → ℕ
stretch_refusal number size =
    cond (ltb (records_left number) (records_in size)) count_refusal
    (cond (ltb 0 (size % record_size)) length_refusal 0)

-- the line of the record that ends the run, where one does; its answer is 0, and it has no set
unfoldable pub end_line : ℕ → ℕ → List ℕ
end_line number refusal = cond (ltb 0 refusal) (line_of number refusal 0) []

-- what a replay leaves: its text, the refusal that ended it or 0, the records run so far, and their chip
pub record Replay : Type 0 where
  pub text : List ℕ
  pub refusal : ℕ
  pub number : ℕ
  pub chip : Chip

-- the replay of the first records of a part by their steps, after number others, ended by a refusal or, at 0, not ended
abbrev pub replayed : Chip → ℕ → List ℕ → List Stepped → ℕ → Replay
replayed c number part steps refusal =
    record {
      text = lines_of number part steps ++ end_line (number + length steps + 1) refusal;
      refusal = refusal;
      number = number + length steps;
      chip = last_chip c steps;
    }

-- the steps of the records of a stretch that are run
abbrev pub stretch_steps : Chip → ℕ → List ℕ → List Stepped
stretch_steps c number part = steps_of (run_in number (length part)) c part

-- the replay of a stretch
unfoldable pub replay_of : Chip → ℕ → List ℕ → Replay
replay_of c number part =
    replayed c number part (stretch_steps c number part) (stretch_refusal number (length part))

-- a replay and then another: the texts one after the other, and what the second leaves
abbrev pub and_then : Replay → Replay → Replay
and_then r s = record { text = r.text ++ s.text; refusal = s.refusal; number = s.number; chip = s.chip }

-- a replay that another stretch follows: once it has ended nothing more is run
unfoldable pub followed_by : Replay → List ℕ → Replay
followed_by r part = cond (ltb 0 r.refusal) r (and_then r (replay_of r.chip r.number part))

-- a log that is cut between two records is replayed as its two stretches are, one after the other
abbrev pub StretchesJoin : Type 0
StretchesJoin =
    (c : Chip) (number : ℕ) (a b : List ℕ) → length a % record_size ≡ 0
    → replay_of c number (a ++ b) ≡ followed_by (replay_of c number a) b

-- the most bytes of a line: ten digits for a number up to 2 ^ 32, three for each byte, four characters after them
abbrev pub line_room : ℕ
line_room = 23

-- the room that a stretch of size bytes asks: a line for each whole record, and one more
abbrev pub stretch_room : ℕ → ℕ
stretch_room size = (records_in size + 1) * line_room

-- refusal 7 where the output is shorter than that, or 0
abbrev pub short_room : ℕ → ℕ → ℕ
short_room size room = cond (ltb room (stretch_room size)) room_refusal 0

-- the answer to a stretch: what its replay leaves, with the length of the text; or refusal 7 where the output is too short
unfoldable pub rendered_of : Chip → ℕ → List ℕ → ℕ → Rendered
rendered_of c number part room =
    let r = replay_of c number part in
    cond (ltb room (stretch_room (length part))) (record { refusal = room_refusal; len = 0; number = number; chip = c })
    (record { refusal = r.refusal; len = length r.text; number = r.number; chip = r.chip })

-- the output after it: the text and then what the output held past it; or all that it held
unfoldable pub output_of : Chip → ℕ → List ℕ → List ℕ → List ℕ
output_of c number part out =
    let text = (replay_of c number part).text in
    cond (ltb (length out) (stretch_room (length part))) out (text ++ drop (length text) out)

-- what rendering a stretch promises; `fits` and `counts` let a caller take the text as a part of the output
pub record Rendering (c : Chip) (number : ℕ) (part out after : List ℕ) (r : Rendered) : Type 0 where
  pub result : r ≡ rendered_of c number part (length out)
  pub output : after ≡ output_of c number part out
  pub join : StretchesJoin
  pub fits : r.len ≤ length after
  pub counts : r.len ≡ length (take r.len after)
