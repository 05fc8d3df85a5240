-- The text of a stretch over a chip m that a C program holds. Assumes nothing: these are definitions.
use Rattle.std.specs.Prelude.{◌≡◌, cond, List, ◌++◌, ℕ, ltb, ℤ, length, drop}
use Rattle.mcp2515.specs.ChipImage.{chip_of}
use Rattle.bus_log.specs.Log.{RefusedStay}
use Rattle.bus_log.specs.Run.{call_result}
use Rattle.bus_log.specs.Held.{held_refusal, Held}
use Rattle.log_text.specs.Stretch.{stretch_steps, replay_of, short_room, StretchesJoin}

-- the refusal: 21, then 7 for too little room
abbrev pub text_refusal : List ℕ → List ℕ → List ℕ → ℕ
text_refusal m part out = held_refusal m (short_room (length part) (length out))

-- the text
abbrev pub text_of : List ℕ → ℕ → List ℕ → List ℕ
text_of m number part = (replay_of (chip_of m) number part).text

-- the bytes of text, or minus the refusal
unfoldable pub text_result : List ℕ → ℕ → List ℕ → List ℕ → ℤ
text_result m number part out = call_result (text_refusal m part out) (length (text_of m number part))

-- the text and then what the output held past it; or, refused, all that it held
unfoldable pub text_after : List ℕ → ℕ → List ℕ → List ℕ → List ℕ
text_after m number part out =
    cond (ltb 0 (text_refusal m part out)) out (text_of m number part ++ drop (length (text_of m number part)) out)

-- what the call promises of n and after, in which it leaves the chip and the output, and of its result r
pub record TextHeld (m : List ℕ) (number : ℕ) (part out n after : List ℕ) (r : ℤ) : Type 0 where
  pub result : r ≡ text_result m number part out
  pub buffer : after ≡ text_after m number part out
  pub chip : Held (text_refusal m part out) m n (replay_of (chip_of m) number part).chip
  -- where the chip refuses each record that is run, no byte of the chip changes
  pub kept : RefusedStay (stretch_steps (chip_of m) number part) m n
  pub join : StretchesJoin
