-- The calls that load a profile into a chip that a C program holds. In each, m are the bytes of the chip that is lent, p those of the
-- profile, events those of the bus events that come between the loader's commands. Assumes nothing: these are definitions.
use Rattle.std.specs.Prelude.{◌≡◌, Bool, true, false, cond, List, ◌++◌, ℕ, ◌%◌, eqb, ltb, ℤ, pos, neg_ℤ, length, drop}
use Rattle.mcp2515.specs.ChipImage.{chip_of}
use Rattle.bus_log.specs.Log.{length_refusal, first_refusal}
use Rattle.bus_log.specs.Run.{call_result}
use Rattle.bus_log.specs.Held.{held_refusal, Held}
use Rattle.load_machine.specs.declared.Verdict.{Verdict}
use Rattle.load_machine.specs.declared.Verdict.TheVariants.{Refused, Waiting, In, Differs}
use Rattle.load_machine.specs.Profile.{profile_size}
use Rattle.load_rules.specs.Laws.{reaches, refusal_of_load, Loads}
use Rattle.profile_loader.specs.Gaps.{entry_size, gaps_of, entries_in, log_of}
use Rattle.profile_loader.specs.Running.{run_of}
use Rattle.stand_in.specs.StandIn.{short_refusal, zero_or_one}

-- ---- refusals: 21, then 6 for a profile that is not 34 bytes or events that are no whole entries, then those of the loader
unfoldable pub lengths_refusal : ℕ → ℕ → ℕ
lengths_refusal profile events = cond (eqb profile profile_size) (cond (ltb 0 (events % entry_size)) length_refusal 0) length_refusal

abbrev pub load_refusal : List ℕ → List ℕ → List ℕ → ℕ
load_refusal m p events = first_refusal (held_refusal m (lengths_refusal (length p) (length events))) (refusal_of_load (chip_of m) p)

-- ---- the load
-- the one reading of the mode gives Configuration
abbrev pub goes_in : List ℕ → List ℕ → Bool
goes_in m events = reaches (chip_of m) (gaps_of (entries_in events))

-- minus the refusal, or 1 for in and 0 for waiting
unfoldable pub load_result : List ℕ → List ℕ → List ℕ → ℤ
load_result m p events = call_result (load_refusal m p events) (zero_or_one (goes_in m events))

-- what the call promises of n, in which it leaves the chip, and of its result r; the laws say what in and waiting mean
pub record LoadCall (m p events n : List ℕ) (r : ℤ) : Type 0 where
  pub result : r ≡ load_result m p events
  pub chip : Held (load_refusal m p events) m n (run_of (chip_of m) p events).chip
  pub laws : load_refusal m p events ≡ 0 → Loads (chip_of m) p (gaps_of (entries_in events))

-- ---- its records, put into a room
abbrev pub sent_bytes : List ℕ → List ℕ → List ℕ → List ℕ
sent_bytes m p events = log_of (run_of (chip_of m) p events).sent

-- .. then 19 for too little room
abbrev pub room_for_sent : List ℕ → List ℕ → List ℕ → ℕ → ℕ
room_for_sent m p events room = cond (ltb room (length (sent_bytes m p events))) short_refusal 0

abbrev pub records_refusal : List ℕ → List ℕ → List ℕ → ℕ → ℕ
records_refusal m p events room = first_refusal (load_refusal m p events) (room_for_sent m p events room)

-- how many there are
unfoldable pub records_result : List ℕ → List ℕ → List ℕ → ℕ → ℤ
records_result m p events room = call_result (records_refusal m p events room) (length (run_of (chip_of m) p events).sent)

-- the room after it: the records and then what it held past them, or, refused, all that it held
unfoldable pub records_after : List ℕ → List ℕ → List ℕ → List ℕ → List ℕ
records_after m p events room =
    cond (ltb 0 (records_refusal m p events (length room))) room (sent_bytes m p events ++ drop (length (sent_bytes m p events)) room)

-- ---- what a verdict returns to C; it is never that a byte read back differs
abbrev pub result_of : Verdict → ℤ
result_of (Refused n) = neg_ℤ (pos n)
result_of Waiting = pos 0
result_of In = pos 1
result_of Differs = pos 2

abbrev pub is_refused : Verdict → Bool
is_refused (Refused n) = true
is_refused Waiting = false
is_refused In = false
is_refused Differs = false

-- what is left of both calls once the bytes are a chip and the lengths are right
pub record LoadHeld (m p events n : List ℕ) (r : ℤ) : Type 0 where
  pub result : r ≡ call_result (refusal_of_load (chip_of m) p) (zero_or_one (goes_in m events))
  pub chip : Held (refusal_of_load (chip_of m) p) m n (run_of (chip_of m) p events).chip

pub record SentHeld (m p events room after : List ℕ) (r : ℤ) : Type 0 where
  pub result : r ≡ call_result (first_refusal (refusal_of_load (chip_of m) p) (room_for_sent m p events (length room))) (length (run_of (chip_of m) p events).sent)
  pub buffer : after ≡ cond (ltb 0 (first_refusal (refusal_of_load (chip_of m) p) (room_for_sent m p events (length room)))) room
      (sent_bytes m p events ++ drop (length (sent_bytes m p events)) room)
