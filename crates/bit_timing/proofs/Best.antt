-- The lowest bytes of the first pair that is nearest: no sound setting is better, and if they are not within the limit none is. Assumes
-- nothing.
use mathlib.Core.Path.{◌≡◌, refl, ap, ◌∙◌}
use mathlib.Core.Bool.{Bool, true, false}
use mathlib.Core.List.{List, []}
use Prim.Native.Nat.{ℕ, ◌+◌, ◌-◌, ◌*◌, ◌<◌, ◌≤◌}
use native.Mathlib.Omega.{arith}
use lib.Dec.{ltb}
use lib.IntN.{nat_abs}
use lib.ListN.{drop}
use lib.Ieee.Bits.{is_true}
use borrow.Author.Tests.{ltb-true, ltb-false, le-leb, lt-leb}
use Rattle.bits.proofs.All.{every, agree}
use Rattle.bit_timing.specs.declared.Setting.{Setting}
use Rattle.bit_timing.specs.Timing.{brp_of, quanta_of, least_quanta, is_sound, is_plain, difference_at, difference_of, ranks_of, is_better, is_within, NoneWithin, IsBest}
use Rattle.bit_timing.specs.Pairs.{pairs, lengths, brp_at, quanta_at, size_at, IsFirstLeast, setting_at}
use Rattle.bit_timing.proofs.Ranks.{not_less}
use Rattle.bit_timing.proofs.Sound.{Kept, kept_by}
use Rattle.bit_timing.proofs.Lowest.{cnf2_lowest, cnf3_lowest}

-- the setting of a pair, by its number
abbrev pub setting_of : ℕ → Setting
setting_of n = setting_at (brp_at n) (quanta_at n)

-- ---- of each pair it is sound and plain, with the BRP and the quanta of the pair: tests over all pairs
module _ (n : ℕ) (inside : n < pairs) where
  pair_sound : is_sound (setting_of n) ≡ true
  unfolding is_sound
  pair_sound = is_true _ (every (λ k. is_sound (setting_of k)) pairs tt n inside)

  pair_plain : is_plain (setting_of n) ≡ true
  pair_plain = is_true _ (every (λ k. is_plain (setting_of k)) pairs tt n inside)

  pair_brp : brp_of (setting_of n) ≡ brp_at n
  pair_brp = agree (λ k. brp_of (setting_of k)) brp_at pairs tt n inside

  pair_quanta : quanta_of (setting_of n) ≡ quanta_at n
  pair_quanta = agree (λ k. quanta_of (setting_of k)) quanta_at pairs tt n inside

  pair_difference : (oscillator rate : ℕ) → difference_of oscillator rate (setting_of n) ≡ difference_at oscillator rate (brp_at n) (quanta_at n)
  unfolding difference_of
  pair_difference oscillator rate = rw (pair_brp, pair_quanta) refl

-- ---- the pair of a sound setting
abbrev pair_of : Setting → ℕ
pair_of s = brp_of s * lengths + (quanta_of s - least_quanta)

module _ (s : Setting) (kept : Kept s) where
  pair_inside : pair_of s < pairs
  pair_inside = omega (arith, kept.most)

  brp_back : brp_at (pair_of s) ≡ brp_of s
  brp_back = omega (arith, kept.most)

  quanta_back : quanta_at (pair_of s) ≡ quanta_of s
  quanta_back = omega (arith, kept.most, kept.least)

  size_back : (oscillator rate : ℕ) → size_at oscillator rate (pair_of s) ≡ nat_abs (difference_of oscillator rate s)
  unfolding difference_of
  size_back oscillator rate = rw (brp_back, quanta_back) refl

  -- a pair that is not behind that of s has no higher BRP, and with the same BRP no more quanta
  brp_order : (n : ℕ) → n ≤ pair_of s → brp_at n ≤ brp_of s
  brp_order n h = omega (arith, kept.most)

  quanta_order : (n : ℕ) → n ≤ pair_of s → brp_of s ≡ brp_at n → quanta_at n ≤ quanta_of s
  quanta_order n h e = omega (arith, kept.most, kept.least)

-- ---- the first pair that is nearest
module _ (oscillator rate n : ℕ) (nearest : IsFirstLeast (size_at oscillator rate) pairs n) where
  size : nat_abs (difference_of oscillator rate (setting_of n)) ≡ size_at oscillator rate n
  size = ap nat_abs (pair_difference n nearest.inside oscillator rate)

  module _ (s : Setting) (sound : is_sound s ≡ true) where
    kept : Kept s
    kept = kept_by s sound

    least : size_at oscillator rate n ≤ nat_abs (difference_of oscillator rate s)
    least = rw (size_back s kept oscillator rate) at (nearest.least (pair_of s) (pair_inside s kept))

    first : nat_abs (difference_of oscillator rate s) ≡ size_at oscillator rate n → n ≤ pair_of s
    first e = go (ltb (pair_of s) n) refl
      where
        go : (behind : Bool) → ltb (pair_of s) n ≡ behind → n ≤ pair_of s
        go true t = omega (arith, nearest.before (pair_of s) (ltb-true _ _ t), size_back s kept oscillator rate)
        go false t = ltb-false _ _ t

    -- the ranks from place k on
    behind : ℕ → List ℕ × List ℕ
    behind k = (drop k (ranks_of oscillator rate s), drop k (ranks_of oscillator rate (setting_of n)))

    not_better : is_better oscillator rate s (setting_of n) ≡ false
    unfolding is_better behind
    not_better =
        not_less (nat_abs (difference_of oscillator rate s)) (nat_abs (difference_of oscillator rate (setting_of n))) (behind 1).0 (behind 1).1 (rw size least)
        (λ same_size.
        let ahead = first (same_size ∙ size) in
        not_less (brp_of s) (brp_of (setting_of n)) (behind 2).0 (behind 2).1 (rw (pair_brp n nearest.inside) (brp_order s kept n ahead))
        (λ same-brp.
        let brp = same-brp ∙ pair_brp n nearest.inside in
        let quanta = quanta_order s kept n ahead brp in
        not_less s.cnf1 (setting_of n).cnf1 (behind 3).0 (behind 3).1 (omega arith)
        (λ same-cnf1.
        not_less s.cnf2 (setting_of n).cnf2 (behind 4).0 (behind 4).1 (cnf2_lowest s kept (brp_at n) (quanta_at n) (omega arith) quanta)
        (λ same-cnf2.
        not_less s.cnf3 (setting_of n).cnf3 [] [] (cnf3_lowest s kept (brp_at n) (quanta_at n) (omega arith) quanta same-cnf2) (λ same-cnf3. refl)))))

    -- the limit
    beyond : oscillator < size_at oscillator rate n * 1000 → is_within oscillator rate s ≡ false
    unfolding is_within
    beyond h = lt-leb (nat_abs (difference_of oscillator rate s) * 1000) oscillator (omega (arith, least))

  pub best : size_at oscillator rate n * 1000 ≤ oscillator → IsBest oscillator rate (setting_of n)
  unfolding is_within
  best h =
      record {
        sound = pair_sound n nearest.inside;
        plain = pair_plain n nearest.inside;
        within = le-leb (nat_abs (difference_of oscillator rate (setting_of n)) * 1000) oscillator (rw size h);
        best = not_better;
      }

  pub none : oscillator < size_at oscillator rate n * 1000 → NoneWithin oscillator rate
  none h s sound = beyond s sound h
