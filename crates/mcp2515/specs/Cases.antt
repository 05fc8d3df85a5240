-- The fixed cases W1 to W12: rows of records from power-on, a question, and the value expected.
use Rattle.std.specs.Prelude.{ℕ, zero, suc, ◌/◌, ◌%◌, Bool, true, ◌&&◌, List, [], ◌∷◌, ◌++◌, eqb, T, replicate}
use Rattle.registers.specs.Registers.{holds}
use Rattle.records.specs.declared.Outcome.{Outcome}
use Rattle.mcp2515.specs.Step.{power_on, chip_after, outcomes}

-- ---- records
abbrev pub padded : ℕ → ℕ → List ℕ
padded kind field = kind ∷ field ∷ replicate 14 0

abbrev pub low : List ℕ
low = padded 0 0

abbrev pub sends : ℕ → List ℕ
sends b = padded 1 b

abbrev pub high : List ℕ
high = padded 2 0

abbrev pub idle : List ℕ
idle = padded 4 0

abbrev pub ends : ℕ → List ℕ
ends how = padded 5 how

-- a frame with no data: byte 1 and the identifier
abbrev pub frame : ℕ → ℕ → List ℕ
frame flags id =
    3 ∷ flags ∷ 0 ∷ 0 ∷ id / 0x1000000 % 256 ∷ id / 0x10000 % 256 ∷ id / 0x100 % 256 ∷ id % 256 ∷ replicate 8 0

-- ---- sessions
abbrev pub write : ℕ → ℕ → List (List ℕ)
write a b = low ∷ sends 0x02 ∷ sends a ∷ sends b ∷ high ∷ []

abbrev pub modify : ℕ → ℕ → ℕ → List (List ℕ)
modify a mask b = low ∷ sends 0x05 ∷ sends a ∷ sends mask ∷ sends b ∷ high ∷ []

abbrev pub command : ℕ → List (List ℕ)
command code = low ∷ sends code ∷ high ∷ []

-- an instruction with one reply, left open there so that the reply is the last answer
abbrev pub asks : ℕ → List (List ℕ)
asks code = low ∷ sends code ∷ sends 0 ∷ []

abbrev pub reads_at : ℕ → List (List ℕ)
reads_at a = low ∷ sends 0x03 ∷ sends a ∷ sends 0 ∷ []

abbrev pub normal : List (List ℕ)
normal = write 0x0F 0x07

abbrev pub configuration : List (List ℕ)
configuration = write 0x0F 0x87

-- both buffers take any frame
abbrev pub any_frame : List (List ℕ)
any_frame = write 0x60 0x60 ++ write 0x70 0x60

abbrev pub repeated : ℕ → List (List ℕ) → List (List ℕ)
repeated zero rs = []
repeated (suc n) rs = rs ++ repeated n rs

-- ---- questions
pub data Question : Type 0 where
  last_answer last_refusal : Question
  held : ℕ → Question

pub record Row : Type 0 where
  pub steps : List (List ℕ)
  pub question : Question
  pub expected : ℕ

abbrev pub last_of : Outcome → List Outcome → Outcome
last_of o [] = o
last_of o (x ∷ xs) = last_of x xs

abbrev pub no_outcome : Outcome
no_outcome = record { refusal = 0; answer = 0; matched = 0 }

abbrev pub answer_to : Question → List (List ℕ) → ℕ
answer_to last_answer rs = (last_of no_outcome (outcomes power_on rs)).answer
answer_to last_refusal rs = (last_of no_outcome (outcomes power_on rs)).refusal
answer_to (held a) rs = holds (chip_after power_on rs).core a

abbrev pub row : List (List ℕ) → Question → ℕ → Row
row rs q n = record { steps = rs; question = q; expected = n }

-- ---- the table
abbrev pub transmitted : ℕ → List (List ℕ)
transmitted n = repeated n (idle ∷ ends 2 ∷ [])

-- a mask of all ones with filter 1 at identifier 7FFh, the rest at 0, rollover on: a frame 7FFh hits filter 1 alone
abbrev pub rollover : List (List ℕ)
rollover =
    write 0x20 0xFF ++ write 0x21 0xE0 ++ write 0x04 0xFF ++ write 0x05 0xE0 ++ write 0x60 0x04 ++ write 0x24 0xFF ++ normal

unfoldable pub table : List Row
table =
    -- W1: CANCTRL of a fresh chip
    row (reads_at 0x0F) last_answer 0x87
    -- W2: a filter write in Normal is not kept
    ∷ row (normal ++ write 0x00 0x20 ++ configuration ++ reads_at 0x00) last_answer 0x00
    ∷ row (write 0x00 0x11 ++ normal ++ write 0x00 0x20 ++ configuration ++ reads_at 0x00) last_answer 0x11
    -- W3: at equal TXP the last buffer is sent; a larger TXP comes first
    ∷ row (normal ++ command 0x85 ++ (idle ∷ [])) last_answer 2
    ∷ row (write 0x30 0x01 ++ normal ++ command 0x85 ++ (idle ∷ [])) last_answer 0
    -- W4: standard 123h
    ∷ row (any_frame ++ normal ++ (frame 0 0x123 ∷ [])) (held 0x61) 0x24
    ∷ row (any_frame ++ normal ++ (frame 0 0x123 ∷ [])) (held 0x62) 0x60
    -- W5: extended 12345678h
    ∷ row (any_frame ++ normal ++ (frame 1 0x12345678 ∷ [])) (held 0x61) 0x91
    ∷ row (any_frame ++ normal ++ (frame 1 0x12345678 ∷ [])) (held 0x62) 0xA8
    ∷ row (any_frame ++ normal ++ (frame 1 0x12345678 ∷ [])) (held 0x63) 0x56
    ∷ row (any_frame ++ normal ++ (frame 1 0x12345678 ∷ [])) (held 0x64) 0x78
    -- W6: BIT MODIFY of CANINTF
    ∷ row (write 0x2C 0x03 ++ modify 0x2C 0x01 0x00) (held 0x2C) 0x02
    -- W7: BIT MODIFY of a data byte takes no mask
    ∷ row (write 0x36 0x0F ++ modify 0x36 0xF0 0xA5) (held 0x36) 0xA5
    -- W8: a second hit with BUKT clear
    ∷ row (any_frame ++ normal ++ (frame 0 0x123 ∷ frame 0 0x123 ∷ [])) (held 0x2D) 0x40
    ∷ row (any_frame ++ normal ++ (frame 0 0x123 ∷ frame 0 0x123 ∷ [])) (held 0x2C) 0x21
    -- W9: a third hit with BUKT set
    ∷ row (rollover ++ (frame 0 0x7FF ∷ frame 0 0x7FF ∷ frame 0 0x7FF ∷ [])) (held 0x2D) 0x80
    -- W10: RXB1 alone full, with a rolled standard data frame of filter 1
    ∷ row (rollover ++ (frame 0 0x7FF ∷ frame 0 0x7FF ∷ []) ++ modify 0x2C 0x01 0x00 ++ asks 0xB0) last_answer 0x87
    -- W11: TEC at 96, 128 and 256
    ∷ row (normal ++ command 0x81 ++ transmitted 12) (held 0x2D) 0x05
    ∷ row (normal ++ command 0x81 ++ transmitted 16) (held 0x2D) 0x15
    ∷ row (normal ++ command 0x81 ++ transmitted 32) (held 0x2D) 0x35
    -- W12: the largest standard identifier, and one more
    ∷ row (normal ++ (frame 0 2047 ∷ [])) last_refusal 0
    ∷ row (normal ++ (frame 0 2048 ∷ [])) last_refusal 2
    ∷ []

-- ---- the claim: every row holds
abbrev pub right : Row → Bool
right x = eqb (answer_to x.question x.steps) x.expected

unfoldable pub all_right : List Row → Bool
all_right [] = true
all_right (x ∷ xs) = right x && all_right xs

abbrev pub CasesHold : Type 0
CasesHold = T (all_right table)
