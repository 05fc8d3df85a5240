-- The lines that a replay prints. Assumes nothing: these are definitions.
use Rattle.std.specs.Prelude.{Option, Some, None, List, [], ◌∷◌, ◌++◌, cond, ℕ, ◌+◌, eqb, drop}
use Rattle.records.specs.declared.Outcome.{Outcome}
use Rattle.records.specs.Records.{byte_at}
use Rattle.mcp2515.specs.declared.Stepped.{Stepped}
use Rattle.mcp2515.specs.Step.{outcome_in}
use Rattle.bus_log.specs.Log.{record_size}
use Rattle.log_text.specs.Decimal.{decimal_of}

abbrev pub space : ℕ
space = 32

abbrev pub newline : ℕ
newline = 10

-- a number and the character after it
unfoldable pub field_of : ℕ → ℕ → List ℕ
field_of n end = decimal_of n ++ (end ∷ [])

-- number, refusal and answer, one space between, a newline after
unfoldable pub line_of : ℕ → ℕ → ℕ → List ℕ
line_of number refusal answer = field_of number space ++ (field_of refusal space ++ field_of answer newline)

-- .. and then the set
unfoldable pub frame_line_of : ℕ → Outcome → List ℕ
frame_line_of number o = field_of number space ++ (field_of o.refusal space ++ (field_of o.answer space ++ field_of o.matched newline))

-- the line of a record with a set, where it has one
abbrev pub line_with : ℕ → ℕ → ℕ → Option ℕ → List ℕ
line_with number refusal answer None = line_of number refusal answer
line_with number refusal answer (Some set) = frame_line_of number (record { refusal = refusal; answer = answer; matched = set })

-- the line of a record by its byte 0: a frame, refused or not, has its set as a fourth number
abbrev pub frame_kind : ℕ
frame_kind = 3

unfoldable pub record_line : ℕ → ℕ → Outcome → List ℕ
record_line kind number o = cond (eqb kind frame_kind) (frame_line_of number o) (line_of number o.refusal o.answer)

-- the lines of the first records of a log by their steps, after n others; the first record of a log has the number 1
unfoldable pub lines_of : ℕ → List ℕ → List Stepped → List ℕ
lines_of n log [] = []
lines_of n log (s ∷ ss) = record_line (byte_at log 0) (n + 1) (outcome_in s) ++ lines_of (n + 1) (drop record_size log) ss
