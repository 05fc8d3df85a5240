-- The promise of a rendered stretch, from what was stored. Assumes nothing.
use mathlib.Core.Path.{◌≡◌, refl, sym, ◌∙◌}
use mathlib.Core.Bool.{Bool, true, false}
use mathlib.Core.List.{List, append-nil}
use Prim.Native.Nat.{ℕ, ◌+◌, ◌<◌, ◌≤◌}
use native.Mathlib.Omega.{arith}
use borrow.Author.Tests.{ltb-true, ltb-false, lt-ltb, le-ltb}
use lib.Dec.{ltb}
use lib.ListN.{length}
use lib.Seq.{length-sets, length-take-le}
use Rattle.mcp2515.specs.declared.Chip.{Chip}
use Rattle.bus_log.specs.Log.{room_refusal, steps_of, last_chip}
use Rattle.bus_log.proofs.Copy.{sets_first}
use Rattle.bus_log.proofs.Steps.{length_steps}
use Rattle.log_text.specs.declared.Rendered.{Rendered}
use Rattle.log_text.specs.Line.{line_of}
use Rattle.log_text.specs.Stretch.{run_in, stretch_refusal, end_line, replay_of, line_room, stretch_room, short_room, rendered_of, output_of, Rendering}
use Rattle.log_text.specs.Storing.{Stored, Lined, Written}
use Rattle.log_text.proofs.Stores.{then_stored}
use Rattle.log_text.proofs.Joins.{stretches_join}

-- ---- the room that a stretch asks
pub enough : (size room : ℕ) → short_room size room ≡ 0 → stretch_room size ≤ room
enough size room e = go (ltb room (stretch_room size)) refl
  where
    go : (b : Bool) → ltb room (stretch_room size) ≡ b → stretch_room size ≤ room
    go true p = absurd (omega (arith, rw p at e))
    go false p = ltb-false room (stretch_room size) p

-- a refusal with the number k
too_short : (size room k : ℕ) → (k ≡ 0 → ⊥) → k ≡ short_room size room → (room < stretch_room size) × (k ≡ room_refusal)
too_short size room k some h = go (ltb room (stretch_room size)) refl
  where
    go : (b : Bool) → ltb room (stretch_room size) ≡ b → (room < stretch_room size) × (k ≡ room_refusal)
    go true p = (ltb-true room (stretch_room size) p, h ∙ rw p)
    go false p = absurd (some (h ∙ rw p))

module _ (c : Chip) (n : ℕ) (part out : List ℕ) where
  pub no_room : (k : ℕ) → (k ≡ 0 → ⊥) → k ≡ short_room (length part) (length out)
      → Rendering c n part out out (record { refusal = k; len = 0; number = n; chip = c })
  unfolding rendered_of output_of
  no_room k some h =
      let short = too_short (length part) (length out) k some h in
      let t = lt-ltb (length out) (stretch_room (length part)) short.0 in
      record { result = rw (short.1, t); output = simp t; join = stretches_join; fits = omega arith; counts = refl }

  -- the text is stored, and the result has what is shown beside it
  whole_text : (after : List ℕ) (r : Rendered) → stretch_room (length part) ≤ length out
      → Stored out 0 (replay_of c n part).text after r.len → r.len ≤ length out
      → r.refusal ≡ (replay_of c n part).refusal → r.number ≡ (replay_of c n part).number → r.chip ≡ (replay_of c n part).chip
      → Rendering c n part out after r
  unfolding rendered_of output_of
  whole_text after r room text fits refusal number chip =
      let t = le-ltb (length out) (stretch_room (length part)) room in
      let len : r.len ≡ length (replay_of c n part).text = omega (arith, text.place) in
      let same : length after ≡ length out = rw text.buffer (length-sets out 0 (replay_of c n part).text) in
      let within : r.len ≤ length after = omega arith in
      record {
        result = rw (t, ← refusal, ← number, ← chip, ← len);
        output = rw t (text.buffer ∙ sets_first (replay_of c n part).text out (omega arith));
        join = stretches_join;
        fits = within;
        counts = sym (length-take-le r.len after within);
      }

-- the text of a stretch from its lines
module _ (c : Chip) (n : ℕ) (part out mid : List ℕ) (len count : ℕ) (all : count ≡ run_in n (length part)) (lines : Lined c n count part out mid len) (room : stretch_room (length part) ≤ length out) where
  ran : length (steps_of (run_in n (length part)) c part) ≡ count
  ran = length_steps (run_in n (length part)) c part ∙ sym all

  -- the run goes on after the stretch: no line more
  pub goes_on : stretch_refusal n (length part) ≡ 0 → Written c n part out mid len
  unfolding replay_of end_line
  goes_on none = record { text = rw (none, append-nil, ← all) lines.text; most = omega (arith, lines.most) }

  -- the run ends in the stretch: one line more
  pub ends : (after : List ℕ) (end r : ℕ) → r ≡ stretch_refusal n (length part) → 0 < r
      → Stored mid len (line_of (n + count + 1) r 0) after end → end ≤ len + line_room → Written c n part out after end
  unfolding replay_of end_line
  ends after end r same some last most =
      record {
        text = rw (← same, lt-ltb 0 r some, ran, ← all) (then_stored lines.text last);
        most = omega (arith, lines.most);
      }

-- the chip that the lines of a stretch leave is its replay's
pub replay_chip : (c : Chip) (n : ℕ) (part : List ℕ) (count : ℕ) → count ≡ run_in n (length part) → last_chip c (steps_of count c part) ≡ (replay_of c n part).chip
unfolding replay_of
replay_chip c n part count all = rw all

-- the promise by value
pub rendering : (c : Chip) (n : ℕ) (part out after : List ℕ) (r : Rendered) → stretch_room (length part) ≤ length out
    → Written c n part out after r.len → r.refusal ≡ stretch_refusal n (length part) → r.number ≡ n + run_in n (length part)
    → r.chip ≡ (replay_of c n part).chip → Rendering c n part out after r
unfolding replay_of
rendering c n part out after r room told refusal number chip =
    let ran = length_steps (run_in n (length part)) c part in
    whole_text c n part out after r room told.text (omega (arith, told.most)) refusal (number ∙ rw ran) chip
