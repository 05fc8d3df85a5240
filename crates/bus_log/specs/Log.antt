-- A bus log: records of 16 bytes with no header, each a step of the chip. Assumes nothing: these are definitions.
use Rattle.std.specs.Prelude.{◌≡◌, Bool, true, cond, not, ◌&&◌, List, [], ◌∷◌, ◌++◌, ℕ, zero, suc, ◌/◌, ◌%◌, eqb, ltb, length, take, drop}
use Rattle.records.specs.declared.Outcome.{Outcome}
use Rattle.mcp2515.specs.declared.Chip.{Chip}
use Rattle.mcp2515.specs.declared.Stepped.{Stepped}
use Rattle.mcp2515.specs.Step.{step_of, outcome_in}

-- the bytes of a record
abbrev pub record_size : ℕ
record_size = 16

-- the most records that a log may have
abbrev pub max_records : ℕ
max_records = 65535

-- the refusal of a length that is not a multiple of the record size
abbrev pub length_refusal : ℕ
length_refusal = 6

-- the refusal of an output that is too short
abbrev pub room_refusal : ℕ
room_refusal = 7

-- the refusal of more records than a log may have
abbrev pub count_refusal : ℕ
count_refusal = 8

-- how many whole records stand in size bytes
abbrev pub records_in : ℕ → ℕ
records_in size = size / record_size

-- the refusal of a log of size bytes: 6, then 8, else 0
unfoldable pub log_refusal : ℕ → ℕ
log_refusal size =
    cond (ltb 0 (size % record_size)) length_refusal (cond (ltb max_records (records_in size)) count_refusal 0)

-- of two refusals the first that applies, 0 where none does
abbrev pub first_refusal : ℕ → ℕ → ℕ
first_refusal a b = cond (ltb 0 a) a b

-- the record at a place of a log
abbrev pub record_at : List ℕ → ℕ → List ℕ
record_at log at = take record_size (drop at log)

-- the steps of the first n records of a log, each over the chip that the one before left
unfoldable pub steps_of : ℕ → Chip → List ℕ → List Stepped
steps_of zero c log = []
steps_of (suc n) c log =
    step_of c (take record_size log) ∷ steps_of n (step_of c (take record_size log)).chip (drop record_size log)

-- .. of all its records
abbrev pub steps_in : Chip → List ℕ → List Stepped
steps_in c log = steps_of (records_in (length log)) c log

-- the chip after some steps
unfoldable pub last_chip : Chip → List Stepped → Chip
last_chip c [] = c
last_chip c (s ∷ ss) = last_chip s.chip ss

-- whether each of some steps was refused
unfoldable pub all_refused : List Stepped → Bool
all_refused [] = true
all_refused (s ∷ ss) = not (eqb s.refusal 0) && all_refused ss

-- where each step was refused, the bytes m of the chip stay: n after them is m
abbrev pub RefusedStay : List Stepped → List ℕ → List ℕ → Type 0
RefusedStay ss m n = all_refused ss ≡ true → n ≡ m

-- the bytes of an answer: refusal and answer, and where it is asked for the set
abbrev pub answer_bytes : Bool → Outcome → List ℕ
answer_bytes wanted o = o.refusal ∷ o.answer ∷ cond wanted (o.matched ∷ []) []

-- .. of some steps
unfoldable pub answers_of : Bool → List Stepped → List ℕ
answers_of wanted [] = []
answers_of wanted (s ∷ ss) = answer_bytes wanted (outcome_in s) ++ answers_of wanted ss
