-- A log that is cut between two records shows what its two stretches show. Assumes nothing.
use mathlib.Core.Path.{◌≡◌, refl, sym, ◌∙◌}
use mathlib.Core.Bool.{Bool, true, false}
use mathlib.Core.List.{List, ◌++◌, append_assoc, append-nil}
use Prim.Native.Nat.{ℕ, ◌+◌, ◌*◌, ◌%◌, ◌<◌, ◌≤◌}
use native.Mathlib.Omega.{arith}
use borrow.Author.Tests.{lt-ltb, le-ltb, ltb-true, ltb-false}
use lib.Dec.{ltb}
use lib.IntN.{ℤ, pos, neg_ℤ}
use lib.ListN.{length, length-append}
use lib.Seq.{drop_at}
use Rattle.mcp2515.specs.declared.Chip.{Chip}
use Rattle.mcp2515.specs.declared.Stepped.{Stepped}
use Rattle.bus_log.specs.Log.{record_size, records_in, steps_of, last_chip}
use Rattle.bus_log.proofs.Steps.{length_steps, steps_append, steps_prefix, chip_append}
use Rattle.bus_log.proofs.Helds.{held_kept}
use Rattle.log_text.specs.Text.{text_refusal, text_result, text_after, TextHeld}
use Rattle.log_text.specs.Stretch.{records_left, run_in, stretch_refusal, end_line, replayed, replay_of, and_then, followed_by, StretchesJoin}
use Rattle.log_text.proofs.Lines.{lines_append, lines_prefix}

-- the steps of a whole part with no refusal, and then others
replayed_append : (c : Chip) (n : ℕ) (a b : List ℕ) (ss ts : List Stepped) (r : ℕ) → length a ≡ length ss * record_size
    → replayed c n (a ++ b) (ss ++ ts) r ≡ and_then (replayed c n a ss 0) (replayed (last_chip c ss) (n + length ss) b ts r)
unfolding end_line
replayed_append c n a b ss ts r whole =
    let sum : n + (length ss + length ts) ≡ n + length ss + length ts = omega arith in
    simp (lines_append, lines_prefix n a b ss (omega arith), drop_at a b (length ss * record_size) whole, chip_append, length-append, sum, append-nil, append_assoc)

same_test : (x y u v : ℕ) → (x < y → u < v) → (y ≤ x → v ≤ u) → ltb x y ≡ ltb u v
same_test x y u v f g = go (ltb x y) refl
  where
    go : (t : Bool) → ltb x y ≡ t → ltb x y ≡ ltb u v
    go true e = e ∙ sym (lt-ltb u v (f (ltb-true x y e)))
    go false e = e ∙ sym (le-ltb u v (g (ltb-false x y e)))

module _ (c : Chip) (n : ℕ) (a b : List ℕ) (cut : length a % record_size ≡ 0) where
  abbrev k : ℕ
  k = records_in (length a)

  -- the limit lies in the first stretch
  past : records_left n < k → replay_of c n (a ++ b) ≡ followed_by (replay_of c n a) b
  unfolding replay_of followed_by stretch_refusal
  past h =
      let more : records_left n < records_in (length (a ++ b)) = rw length-append (omega arith) in
      let ran : run_in n (length (a ++ b)) ≡ records_left n = omega arith in
      let ran-a : run_in n (length a) ≡ records_left n = omega arith in
      let size : length (steps_of (records_left n) c a) ≡ records_left n = length_steps (records_left n) c a in
      rw (lt-ltb (records_left n) k h, lt-ltb (records_left n) (records_in (length (a ++ b))) more, ran, ran-a, steps_prefix (records_left n) c a b (omega arith), lines_prefix n a b (steps_of (records_left n) c a) (omega arith))

  abbrev first : List Stepped
  first = steps_of k c a

  refusal_first : k ≤ records_left n → stretch_refusal n (length a) ≡ 0
  unfolding stretch_refusal
  refusal_first h = simp (le-ltb (records_left n) k h, le-ltb 0 (length a % record_size) (omega arith))

  refusal_both : k ≤ records_left n → stretch_refusal n (length (a ++ b)) ≡ stretch_refusal (n + k) (length b)
  unfolding stretch_refusal
  refusal_both h =
      let tail : (length a + length b) % record_size ≡ length b % record_size = omega arith in
      rw (length-append, tail, same_test (records_left n) (records_in (length a + length b)) (records_left (n + k)) (records_in (length b)) (λ x. omega arith) (λ x. omega arith))

  -- the run goes on in the second stretch
  within : k ≤ records_left n → replay_of c n (a ++ b) ≡ followed_by (replay_of c n a) b
  unfolding replay_of followed_by
  within h =
      let m = run_in (n + k) (length b) in
      let ran : run_in n (length (a ++ b)) ≡ k + m = rw length-append (omega arith) in
      let ran-a : run_in n (length a) ≡ k = omega arith in
      let size : length first ≡ k = length_steps k c a in
      rw (ran, refusal_both h, steps_append k m c a b (omega arith), ran-a, refusal_first h)
      (replayed_append c n a b first (steps_of m (last_chip c first) b) (stretch_refusal (n + k) (length b)) (omega arith) ∙ rw size)

  pub join : replay_of c n (a ++ b) ≡ followed_by (replay_of c n a) b
  join = go (ltb (records_left n) k) refl
    where
      go : (t : Bool) → ltb (records_left n) k ≡ t → replay_of c n (a ++ b) ≡ followed_by (replay_of c n a) b
      go true e = past (ltb-true (records_left n) k e)
      go false e = within (ltb-false (records_left n) k e)

pub stretches_join : StretchesJoin
stretches_join = join

-- a call that is refused with the number n
pub refused_text : (m : List ℕ) (number : ℕ) (part out : List ℕ) (n : ℕ) (r : ℤ) → text_refusal m part out ≡ n → 0 < n → r ≡ neg_ℤ (pos n)
    → TextHeld m number part out m out r
unfolding text_result text_after
refused_text m number part out n r same some told =
    let t = lt-ltb 0 n some in
    record {
      result = told ∙ rw (same, t);
      buffer = rw (same, t);
      chip = held_kept (λ z. let none : n ≡ 0 = sym same ∙ z in omega arith);
      kept = λ _. refl;
      join = stretches_join;
    }
