-- Turns of the run. Assumes nothing.
use mathlib.Core.Path.{◌≡◌, refl, sym, ap, ◌∙◌}
use mathlib.Core.Bool.{Bool, true, false}
use mathlib.Core.List.{List, [], ◌++◌, append-nil}
use Prim.Native.Nat.{ℕ, zero, suc, ◌+◌, ◌*◌, ◌/◌, ◌≤◌}
use native.Mathlib.Nat.{add-zero}
use native.Mathlib.Omega.{arith}
use lib.ListN.{length, length-append}
use lib.Seq.{sets}
use Rattle.registers.specs.declared.Mode.{Mode}
use Rattle.spi.proofs.Clash.{clash}
use Rattle.load_machine.specs.declared.Stage.{Stage}
use Rattle.load_machine.specs.declared.Stage.TheVariants.{Asking, Looking, Writing, Checking, Returning, Ended}
use Rattle.load_machine.specs.declared.Command.{Command}
use Rattle.load_machine.specs.declared.Turn.{Turn}
use Rattle.load_machine.specs.declared.Turn.TheVariants.{Send, Say}
use Rattle.load_machine.specs.declared.Verdict.{Verdict}
use Rattle.load_machine.specs.Machine.{next_of, following_of, records_in, session_of}
use Rattle.load_rules.specs.Load.{gap_before, Progress, turn_by, turn_of, turns}
use Rattle.profile_loader.specs.declared.Replied.{Replied}
use Rattle.profile_loader.specs.Gaps.{Between, entry_size, due, log_of, entries_left, GapRun}
use Rattle.profile_loader.specs.Running.{Underway, replied, Advanced, is_ended}
use Rattle.profile_loader.proofs.Logs.{Sized, sized_none, sized_append, put_append}
use Rattle.profile_loader.proofs.Entries.{sized_left}
use Rattle.profile_loader.proofs.Sessions.{records_most, length_records, sized_records}

-- what is due has come, and then the command
pub advanced : (x : Underway) (g : Between) (told : Replied) (stage : Stage) (k : ℕ) (p : List ℕ) (command : Command) (events : List ℕ) (n : ℕ) (room mid after : List ℕ)
    → x.gap.left ≤ length events / entry_size → GapRun x.gap g events n room mid → told ≡ replied g.chip command
    → after ≡ sets mid g.sent (log_of (session_of command)) → stage ≡ following_of p x.stage told.reply → k ≡ records_in command
    → Advanced x (record { stage = stage; gap = record { chip = told.chip; left = g.left; sent = g.sent + 16 * k } }) p command events n room after
unfolding replied
advanced x g told stage k p command events n room mid after fits w is put follows count =
    let es = due n (entries_left events x.gap.left) in
    let chip = w.came.chip in
    let size = length-append es (session_of command) in
    record {
      follows = record {
        stage = follows ∙ rw (is, chip);
        chip = rw (is, chip);
        sent = omega (arith, size, length_records command 0 (records_in command), w.came.sent, count);
        records = put ∙ rw (w.came.records, w.came.sent) (put_append room x.gap.sent es (session_of command) (sized_left n events x.gap.left fits));
      };
      left = w.left;
      fewer = record { left = w.fewer; bound = omega (arith, w.bound, records_most command, count) };
    }

-- ---- a verdict is said at the end and nowhere else
abbrev is_say : Turn → Bool
is_say (Send x) = false
is_say (Say v) = true

says_ended : (p : List ℕ) (m : Mode) (s : Stage) → is_say (next_of p m s) ≡ is_ended s
unfolding next_of
says_ended p m Asking = refl
says_ended p m Looking = refl
says_ended p m (Writing i) = refl
says_ended p m (Checking i agreed) = refl
says_ended p m (Returning v) = refl
says_ended p m (Ended v) = refl

pub ended : (p : List ℕ) (m : Mode) (s : Stage) (v : Verdict) → next_of p m s ≡ Say v → is_ended s ≡ true
ended p m s v e = sym (says_ended p m s) ∙ ap is_say e

pub ended_stay : (p : List ℕ) (m : Mode) (es : List (List ℕ)) (s : Progress) → is_ended s.stage ≡ true → turn_of p m es s ≡ s
unfolding turn_of
ended_stay p m es s e = go (next_of p m s.stage) (says_ended p m s.stage ∙ e)
  where
    go : (t : Turn) → is_say t ≡ true → turn_by t p es s ≡ s
    go (Send x) h = clash (sym h)
    go (Say v) h = refl

-- ---- a turn behind some records
abbrev pub behind : List (List ℕ) → Progress → Progress
behind rs s = record { stage = s.stage; chip = s.chip; sent = rs ++ s.sent }

abbrev pub afresh : Progress → Progress
afresh s = record { stage = s.stage; chip = s.chip; sent = [] }

pub turn_behind : (p : List ℕ) (m : Mode) (es : List (List ℕ)) (s : Progress) → turn_of p m es s ≡ behind s.sent (turn_of p m es (afresh s))
unfolding turn_of
turn_behind p m es s = go (next_of p m s.stage)
  where
    go : (t : Turn) → turn_by t p es s ≡ behind s.sent (turn_by t p es (afresh s))
    go (Send x) = refl
    go (Say v) = rw append-nil

pub sized_turn : (p : List ℕ) (m : Mode) (es : List (List ℕ)) (s : Progress) → Sized es → Sized (turn_of p m es (afresh s)).sent
unfolding turn_of
sized_turn p m es s h = go (next_of p m s.stage)
  where
    go : (t : Turn) → Sized (turn_by t p es (afresh s)).sent
    go (Send x) = sized_append es (session_of x) h (sized_records x 0 (records_in x))
    go (Say v) = sized_none

-- ---- one turn more, at the end
pub turns_snoc : (p : List ℕ) (m : Mode) (g : ℕ → List (List ℕ)) (k n : ℕ) (s : Progress)
    → turns p m g (suc k) n s ≡ turn_of p m (gap_before g (n + k)) (turns p m g k n s)
unfolding turns
turns_snoc p m g zero n s = rw add-zero
turns_snoc p m g (suc k) n s =
    let next : n + suc k ≡ suc n + k = omega arith in
    rw next (turns_snoc p m g k (suc n) (turn_of p m (gap_before g n) s))
