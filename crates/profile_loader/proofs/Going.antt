-- The run so far is that of the rules. Assumes nothing.
use mathlib.Core.Path.{◌≡◌, refl, sym, ap, ◌∙◌}
use mathlib.Core.Bool.{Bool, true, false}
use mathlib.Core.List.{List, []}
use Prim.Native.Nat.{ℕ, ◌+◌, ◌*◌, ◌/◌, ◌≤◌}
use native.Mathlib.Numerals.{add-one}
use native.Mathlib.Omega.{arith}
use lib.ListN.{length, length-append}
use Rattle.registers.specs.declared.Mode.{Mode}
use Rattle.spi.proofs.Clash.{clash}
use Rattle.load_rules.specs.Load.{gap_before, Progress, turn_of, turns}
use Rattle.profile_loader.specs.Gaps.{entry_size, entries_in, due, not_due, left_before, gaps_of, log_of, entries_left}
use Rattle.profile_loader.specs.Running.{Underway, progress_of, Follows, is_ended, Turned}
use Rattle.profile_loader.proofs.Logs.{Sized, sized_none, sized_append, put_append}
use Rattle.profile_loader.proofs.Entries.{sized_left, gap_due, all_left}
use Rattle.profile_loader.proofs.Turns.{ended_stay, behind, afresh, turn_behind, sized_turn, turns_snoc}

-- n turns from s on
abbrev pub so_far : Progress → List ℕ → Mode → List ℕ → ℕ → Progress
so_far s p m events n = turns p m (gaps_of (entries_in events)) n 0 s

-- n turns have come to s
pub record Going (s : Progress) (events : List ℕ) (n : ℕ) (y : Underway) (room after : List ℕ) : Type 0 where
  pub follows : Follows 0 s y room after
  pub sized : Sized s.sent
  pub left : is_ended s.stage ≡ false → entries_left events y.gap.left ≡ left_before n (entries_in events)
  pub fewer : y.gap.left ≤ length events / entry_size
  pub bound : y.gap.sent + 16 * y.gap.left ≤ 16 * (length events / entry_size) + 96 * n

pub begins : (x : Underway) (p : List ℕ) (m : Mode) (events room : List ℕ) → x.gap.left ≡ length events / entry_size → x.gap.sent ≡ 0
    → Going (so_far (progress_of x []) p m events 0) events 0 x room room
unfolding turns left_before log_of
begins x p m events room all none =
    record {
      follows = record { stage = refl; chip = refl; sent = omega arith; records = refl };
      sized = sized_none;
      left = λ _. rw all (all_left events);
      fewer = omega arith;
      bound = omega arith;
    }

module _ (begin : Progress) (p : List ℕ) (m : Mode) (events : List ℕ) (n : ℕ) (y z : Underway) (room mid after : List ℕ)
    (h : Going (so_far begin p m events n) events n y room mid) (w : Turned y z p m events n mid after) where
  abbrev s : Progress
  s = so_far begin p m events n

  abbrev es : List (List ℕ)
  es = due n (entries_left events y.gap.left)

  abbrev t : Progress
  t = turn_of p m es (progress_of y [])

  -- what is due in the code is the gap of the rules, but at the end, where nothing comes
  same_gap : (b : Bool) → is_ended s.stage ≡ b → turn_of p m (gap_before (gaps_of (entries_in events)) n) s ≡ turn_of p m es s
  same_gap true e = ended_stay p m (gap_before (gaps_of (entries_in events)) n) s e ∙ sym (ended_stay p m es s e)
  same_gap false e =
      ap (λ (rs : List (List ℕ)). turn_of p m rs s) (gap_due (entries_in events) n ∙ ap (due n) (sym (h.left e)))

  next : so_far begin p m events (n + 1) ≡ behind s.sent t
  next =
      let here : progress_of y [] ≡ afresh s = rw (h.follows.stage, h.follows.chip) in
      let first : 0 + n ≡ n = omega arith in
      rw (add-one, turns_snoc p m (gaps_of (entries_in events)) n 0 begin, first, here)
      (same_gap (is_ended s.stage) refl ∙ turn_behind p m es s)

  still : (b : Bool) → is_ended y.stage ≡ b → is_ended t.stage ≡ false → entries_left events z.gap.left ≡ left_before (n + 1) (entries_in events)
  unfolding left_before
  still true e g = clash (sym e ∙ ap (λ (q : Progress). is_ended q.stage) (sym (ended_stay p m es (progress_of y []) e)) ∙ g)
  still false e g = rw add-one (w.left e ∙ ap (not_due n) (h.left (rw h.follows.stage at e)))

  pub goes_on : Going (so_far begin p m events (n + 1)) events (n + 1) z room after
  goes_on =
      let size = length-append s.sent t.sent in
      rw next
      (record {
        follows = record {
          stage = w.follows.stage;
          chip = w.follows.chip;
          sent = omega (arith, size, w.follows.sent, h.follows.sent);
          records = w.follows.records ∙ rw (h.follows.records, h.follows.sent) (put_append room 0 s.sent t.sent h.sized);
        };
        sized = sized_append s.sent t.sent h.sized (sized_turn p m es (progress_of y []) (sized_left n events y.gap.left h.fewer));
        left = still (is_ended y.stage) refl;
        fewer = omega (arith, h.fewer, w.fewer.left);
        bound = omega (arith, h.bound, w.fewer.bound);
      })
