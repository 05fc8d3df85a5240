-- How the code tells an answer and a set: the set only where it is asked for. No rule is said here.
use Rattle.std.specs.Prelude.{ℕ, Bool, cond}
use Rattle.records.specs.declared.Answer.{Answer}
use Rattle.receiving.specs.declared.MatchAnswer.{MatchAnswer}
use Rattle.receiving.specs.Receiving.{reception_number, Received}

-- a set where it is asked for, else 0
abbrev pub wanted_set : Bool → ℕ → ℕ
wanted_set wanted s = cond wanted s 0

abbrev pub wanted_match : Bool → MatchAnswer → MatchAnswer
wanted_match wanted m = record { verdict = m.verdict; matched = wanted_set wanted m.matched }

-- an answer by its number, and a set
pub record AnswerSet : Type 0 where
  pub answer : ℕ
  pub matched : ℕ

abbrev pub answer_set_to : Bool → Received → AnswerSet
answer_set_to wanted x = record { answer = reception_number x.answer; matched = wanted_set wanted x.matched }

-- .. for which no filter was asked
abbrev pub plain_answer : ℕ → AnswerSet
plain_answer n = record { answer = n; matched = 0 }

-- .. as the code tells it
abbrev pub answer_set_in : Answer → AnswerSet
answer_set_in x = record { answer = x.byte; matched = x.matched }
