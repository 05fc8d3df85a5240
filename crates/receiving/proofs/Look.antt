-- The look for the lowest match, one filter at a time. Assumes nothing.
use mathlib.Core.Path.{◌≡◌, refl, ap₂}
use mathlib.Core.Bool.{Bool, true, false, cond}
use mathlib.Core.List.{List}
use Prim.Native.Nat.{ℕ, zero, suc, ◌+◌, ◌-◌, ◌<◌, ◌≤◌}
use native.Mathlib.Omega.{arith}
use native.Mathlib.Numerals.{add-one}
use lib.Dec.{ltb}
use lib.ListN.{take}
use lib.Seq.{get_or-take}
use Rattle.bits.specs.Bit.{agree_under}
use Rattle.receiving.specs.declared.Key.{Key}
use Rattle.std.specs.Prelude.{Some, None}
use Rattle.receiving.specs.Receiving.{sidh_byte, sidl_byte, eid8_byte, eid0_byte, filter_at, mask_at, lowest_from}
use Rattle.receiving.specs.Words.{word_at, counted, word_matches}

one_more : (i e : ℕ) → i < e → e - i ≡ suc (e - (i + 1))
one_more i e h = omega arith

module _ (f : ℕ → Bool) (i e : ℕ) where
  pub skipped : i < e → f i ≡ false → lowest_from f i (e - i) ≡ lowest_from f (i + 1) (e - (i + 1))
  unfolding lowest_from
  skipped h p = rw (one_more i e h) (simp (p, add-one))

  pub found : i < e → f i ≡ true → lowest_from f i (e - i) ≡ Some i
  unfolding lowest_from
  found h p = rw (one_more i e h) (simp p)

  pub ended : e ≤ i → lowest_from f i (e - i) ≡ None
  unfolding lowest_from
  ended p =
      let z : e - i ≡ 0 = omega arith in
      rw z

-- ---- two tests that agree on the filters asked find the same one
pub lowest_below : {f g : ℕ → Bool} (i n : ℕ) → ((k : ℕ) → k < i + n → f k ≡ g k) → lowest_from f i n ≡ lowest_from g i n
unfolding lowest_from
lowest_below i zero e = refl
lowest_below i (suc n) e = rw (e i (omega arith), lowest_below (suc i) n (λ k h. e k (omega arith)))

-- ---- the filters lie in the first 48 bytes
mask_low : (n : ℕ) → mask_at n ≤ 36
mask_low n = go (ltb n 2)
  where
    go : (b : Bool) → cond b 32 36 ≤ 36
    go true = omega arith
    go false = omega arith

module _ (m : List ℕ) (q : Key) where
  word_take : (at : ℕ) → at ≤ 44 → word_at (take 48 m) at ≡ word_at m at
  word_take at h =
      rw (get_or-take 48 m (at + sidh_byte) 0 (omega arith), get_or-take 48 m (at + sidl_byte) 0 (omega arith), get_or-take 48 m (at + eid8_byte) 0 (omega arith), get_or-take 48 m (at + eid0_byte) 0 (omega arith))

  pub matches_take : (n : ℕ) → n < 6 → word_matches (take 48 m) q n ≡ word_matches m q n
  unfolding word_matches
  matches_take n h =
      ap₂ (λ (mask filter : ℕ). agree_under (counted mask q.reach) filter q.word)
      (word_take (mask_at n) (omega (arith, mask_low n))) (word_take (filter_at n) (omega arith))

  pub lowest_take : (i n : ℕ) → i + n ≤ 6 → lowest_from (word_matches (take 48 m) q) i n ≡ lowest_from (word_matches m q) i n
  lowest_take i n h = lowest_below i n (λ k l. matches_take k (omega arith))
