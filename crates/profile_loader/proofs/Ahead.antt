-- What is due from some entry on, behind what has come before it, is all that is due. Assumes nothing.
use mathlib.Core.Path.{◌≡◌, refl, sym, ap, ◌∙◌}
use mathlib.Core.Bool.{true, false}
use mathlib.Core.List.{List, [], ◌∷◌, ◌++◌}
use Prim.Native.Nat.{ℕ, ◌+◌, ◌*◌, ◌-◌, ◌/◌, ◌≤◌, ◌<◌}
use native.Mathlib.Omega.{arith}
use lib.ListN.{length, take, drop, length-append, length-drop}
use lib.Seq.{sets, length-take-le}
use Rattle.records.specs.Records.{kind_of, is_event}
use Rattle.mcp2515.specs.Step.{chip_after}
use Rattle.mcp2515.proofs.CoreKept.{either}
use Rattle.load_rules.specs.Load.{events_in}
use Rattle.load_rules.proofs.Gapped.{after_append}
use Rattle.profile_loader.specs.Gaps.{Between, entry_size, due, not_due, goes_by, log_of, start_at, timed_of, entries_left, Came, GapRun}
use Rattle.profile_loader.proofs.Logs.{Sized, sized_none, sized_cons, put_append}
use Rattle.profile_loader.proofs.Entries.{left_next, gone_by, held_up}

-- from y on as from x on
pub record Ahead (x y : Between) (events : List ℕ) (n : ℕ) (room after : List ℕ) : Type 0 where
  pub chip : chip_after y.chip (due n (entries_left events y.left)) ≡ chip_after x.chip (due n (entries_left events x.left))
  pub sent : y.sent + 16 * length (due n (entries_left events y.left)) ≡ x.sent + 16 * length (due n (entries_left events x.left))
  pub records : sets after y.sent (log_of (due n (entries_left events y.left))) ≡ sets room x.sent (log_of (due n (entries_left events x.left)))
  pub left : not_due n (entries_left events y.left) ≡ not_due n (entries_left events x.left)
  pub fewer : y.left ≤ x.left
  pub bound : y.sent + 16 * y.left ≤ x.sent + 16 * x.left

pub at_first : (x : Between) (events : List ℕ) (n : ℕ) (room : List ℕ) → Ahead x x events n room room
at_first x events n room = record { chip = refl; sent = refl; records = refl; left = refl; fewer = omega arith; bound = omega arith }

-- of one record at most one comes
one_most : (r : List ℕ) → length (events_in (r ∷ [])) ≤ 1
unfolding events_in
one_most r = either (λ (l : List (List ℕ)). length l ≤ 1) (is_event (kind_of r)) {x = r ∷ []} {y = []} (omega arith) (omega arith)

one_sized : (r : List ℕ) → length r ≡ 16 → Sized (events_in (r ∷ []))
unfolding events_in
one_sized r e = either Sized (is_event (kind_of r)) {x = r ∷ []} {y = []} (sized_cons r [] e sized_none) sized_none

pub one_further : (x y z : Between) (events : List ℕ) (n : ℕ) (room mid after r : List ℕ) → 0 < y.left → y.left ≤ length events / entry_size
    → goes_by n (entries_left events y.left) ≡ true → r ≡ take 16 (drop 4 (drop (start_at events y.left) events))
    → Came y z (events_in (r ∷ [])) mid after → z.left + 1 ≡ y.left → Ahead x y events n room mid → Ahead x z events n room after
one_further x y z events n room mid after r more fits by is w less h =
    let l : y.left - 1 ≡ z.left = omega arith in
    let next = rw l at (left_next events y.left more fits) in
    let ahead = gone_by n (timed_of (drop (start_at events y.left) events)) (entries_left events z.left) (rw next at by) in
    let one = events_in (r ∷ []) in
    let rest = due n (entries_left events z.left) in
    let d : due n (entries_left events y.left) ≡ one ++ rest = rw (next, is) ahead.0 in
    let whole : length r ≡ 16 = ap length is ∙ length-take-le 16 (drop 4 (drop (start_at events y.left) events)) (rw (length-drop, length-drop) (omega arith)) in
    let count = ap length d ∙ length-append one rest in
    record {
      chip = rw (w.chip, ← after_append y.chip one rest, ← d) h.chip;
      sent = omega (arith, w.sent, h.sent);
      records = rw (w.records, w.sent, put_append mid y.sent one rest (one_sized r whole), ← d) h.records;
      left = sym (rw next ahead.1) ∙ h.left;
      fewer = omega (arith, h.fewer);
      bound = omega (arith, w.sent, one_most r, h.bound);
    }

pub all_come : (x y : Between) (events : List ℕ) (n : ℕ) (room after : List ℕ) → goes_by n (entries_left events y.left) ≡ false
    → Ahead x y events n room after → GapRun x y events n room after
unfolding chip_after log_of
all_come x y events n room after e h =
    let none = held_up n (entries_left events y.left) e in
    record {
      came = record { chip = rw none.0 at h.chip; sent = omega (arith, rw none.0 at h.sent); records = rw none.0 at h.records };
      left = sym none.1 ∙ h.left;
      fewer = h.fewer;
      bound = h.bound;
    }
