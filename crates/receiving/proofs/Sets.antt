-- The set of the filters that match: its bits, and each buffer's hit in it. Assumes nothing.
use mathlib.Core.Path.{◌≡◌, refl, sym, ◌∙◌}
use mathlib.Core.Bool.{Bool, true, false, cond, not, ◌&&◌}
use mathlib.Core.List.{List}
use Prim.Native.Nat.{ℕ, zero, suc, ◌+◌, ◌%◌, ◌^◌, ◌≤◌, ◌<◌}
use native.Mathlib.Omega.{arith}
use native.Mathlib.Numerals.{add-one}
use lib.Bits.{or_lt}
use lib.Dec.{T, eqb, ltb, eqb→eq, ltb→lt}
use lib.ListN.{take}
use borrow.Author.Tests.{eqb-true, eqb-false}
use Rattle.bits.specs.Bit.{has_bit, power_of, set_bit}
use Rattle.bits.proofs.All.{and_left, and_right, every}
use Rattle.bits.proofs.Laws.{has_set_same, has_set_other}
use Rattle.records.specs.declared.Frame.{Frame}
use Rattle.registers.specs.declared.RxBuffer.{RxBuffer}
use Rattle.registers.specs.declared.RxBuffer.TheVariants.{Rxb0, Rxb1}
use Rattle.receiving.specs.declared.Key.{Key}
use Rattle.std.specs.Prelude.{Option, Some, None}
use Rattle.receiving.specs.Receiving.{filters, set_of, matches, matched_of, lowest_from, lowest_for, hit_for, share_of, is_miss, SetBits, HitIsLowest}
use Rattle.receiving.specs.Words.{key_of, word_matches}
use Rattle.receiving.proofs.Look.{matches_take, lowest_below}
use Rattle.receiving.proofs.Match.{is_true, is_false, matches_bitwise}

-- ---- two tests that agree below n give the same set
pub set_same : {f g : ℕ → Bool} (n : ℕ) → ((i : ℕ) → i < n → f i ≡ g i) → set_of f n ≡ set_of g n
unfolding set_of
set_same zero e = refl
set_same (suc n) e = rw (e n (omega arith), set_same n (λ i h. e i (omega arith)))

-- one filter more
pub set_next : (f : ℕ → Bool) (n : ℕ) → set_of f (n + 1) ≡ cond (f n) (set_bit (set_of f n) n) (set_of f n)
unfolding set_of
set_next f n = simp add-one

-- the words of an image and the rule's bits give the same set
pub set_words : (m : List ℕ) (f : Frame) → set_of (word_matches (take 48 m) (key_of f)) filters ≡ matched_of (take 48 m) f
unfolding matched_of
set_words m f = set_same filters (λ i h. matches_bitwise (take 48 m) f i)

pub set_take : (m : List ℕ) (q : Key) → set_of (word_matches (take 48 m) q) filters ≡ set_of (word_matches m q) filters
set_take m q = set_same filters (matches_take m q)

-- ---- the bits of a set
module _ (f : ℕ → Bool) where
  -- none from n on
  bit_past : (n k : ℕ) → n ≤ k → k < 8 → has_bit (set_of f n) k ≡ false
  unfolding set_of
  bit_past zero k h l = is_false (has_bit 0 k) (every (λ k. not (has_bit 0 k)) 8 tt k l)
  bit_past (suc n) k h l = go (f n) (bit_past n k (omega arith) l)
    where
      go : (b : Bool) → has_bit (set_of f n) k ≡ false → has_bit (cond b (set_bit (set_of f n) n) (set_of f n)) k ≡ false
      go true past = has_set_other (set_of f n) n (omega arith) k l (λ e. omega arith) ∙ past
      go false past = past

  -- below n, the test's
  bit_in : (n k : ℕ) → k < n → n ≤ 8 → has_bit (set_of f n) k ≡ f k
  unfolding set_of
  bit_in zero k h l = absurd (omega arith)
  bit_in (suc n) k h l = go (f n) refl (eqb n k) refl (λ h. bit_in n k h (omega arith))
    where
      go : (b : Bool) → f n ≡ b → (same : Bool) → eqb n k ≡ same → (k < n → has_bit (set_of f n) k ≡ f k)
          → has_bit (cond b (set_bit (set_of f n) n) (set_of f n)) k ≡ f k
      go true e true s past = let i : n ≡ k = eqb-true n k s in rw (← i, e) (has_set_same (set_of f n) n (omega arith))
      go false e true s past = let i : n ≡ k = eqb-true n k s in rw (← i, e) (bit_past n n (omega arith) (omega arith))
      go true e false s past = has_set_other (set_of f n) n (omega arith) k (omega arith) (eqb-false n k s) ∙ past (omega (arith, eqb-false n k s))
      go false e false s past = past (omega (arith, eqb-false n k s))

  -- a set of six is below 64
  set_lt : (n : ℕ) → n ≤ 6 → set_of f n < 2 ^ 6
  unfolding set_of
  set_lt zero h = omega arith
  set_lt (suc n) h = go (f n) (set_lt n (omega arith))
    where
      go : (b : Bool) → set_of f n < 2 ^ 6 → cond b (set_bit (set_of f n) n) (set_of f n) < 2 ^ 6
      go true l = or_lt 6 (set_of f n) (power_of n) l (ltb→lt (power_of n) 64 (every (λ k. ltb (power_of k) 64) 6 tt n (omega arith)))
      go false l = l

pub set_bits : SetBits
set_bits f n h = bit_in f filters n h (omega arith)

-- ---- the hit in the set
-- asked by the bits of the set, a buffer finds what it finds by the test
lowest_in : (f : ℕ → Bool) (b : RxBuffer) → lowest_for f b ≡ lowest_for (has_bit (set_of f filters)) b
lowest_in f Rxb0 = lowest_below 0 2 (λ n h. sym (set_bits f n (omega arith)))
lowest_in f Rxb1 = lowest_below 2 4 (λ n h. sym (set_bits f n (omega arith)))

-- of every set: what a buffer finds is the lowest bit of its share, and nothing just if that is empty
sound : RxBuffer → ℕ → Option ℕ → Bool
sound b s (Some h) = has_bit (share_of b s) h && eqb (share_of b s % 2 ^ h) 0 && not (eqb (share_of b s) 0)
sound b s None = eqb (share_of b s) 0

sound_all : (b : RxBuffer) (s : ℕ) → s < 64 → T (sound b s (lowest_for (has_bit s) b))
unfolding sound lowest_from
sound_all Rxb0 s h = every (λ s. sound Rxb0 s (lowest_for (has_bit s) Rxb0)) 64 tt s h
sound_all Rxb1 s h = every (λ s. sound Rxb1 s (lowest_for (has_bit s) Rxb1)) 64 tt s h

module _ (b : RxBuffer) (s : ℕ) where
  sound_bit : (h : ℕ) → T (sound b s (Some h)) → has_bit (share_of b s) h ≡ true
  unfolding sound
  sound_bit h t =
      let both = and_left (has_bit (share_of b s) h && eqb (share_of b s % 2 ^ h) 0) (not (eqb (share_of b s) 0)) t in
      is_true (has_bit (share_of b s) h) (and_left (has_bit (share_of b s) h) (eqb (share_of b s % 2 ^ h) 0) both)

  sound_lowest : (h : ℕ) → T (sound b s (Some h)) → share_of b s % 2 ^ h ≡ 0
  unfolding sound
  sound_lowest h t =
      let both = and_left (has_bit (share_of b s) h && eqb (share_of b s % 2 ^ h) 0) (not (eqb (share_of b s) 0)) t in
      eqb→eq (share_of b s % 2 ^ h) 0 (and_right (has_bit (share_of b s) h) (eqb (share_of b s % 2 ^ h) 0) both)

  sound_none : (x : Option ℕ) → T (sound b s x) → is_miss x ≡ eqb (share_of b s) 0
  unfolding sound
  sound_none (Some h) t = sym (is_false (eqb (share_of b s) 0) (and_right (has_bit (share_of b s) h && eqb (share_of b s % 2 ^ h) 0) (not (eqb (share_of b s) 0)) t))
  sound_none None t = sym (is_true (eqb (share_of b s) 0) t)

pub hit_is_lowest : HitIsLowest
unfolding hit_for matched_of
hit_is_lowest c config f b e =
    let s = set_of (matches config f) filters in
    let here : hit_for c (matches config f) b ≡ lowest_for (has_bit s) b = simp e (lowest_in (matches config f) b) in
    let sound-here : T (sound b s (hit_for c (matches config f) b)) = rw here (sound_all b s (set_lt (matches config f) 6 (omega arith))) in
    record {
      bit = λ h p. sound_bit b s h (rw p at sound-here);
      lowest = λ h p. sound_lowest b s h (rw p at sound-here);
      none = sound_none b s (hit_for c (matches config f) b) sound-here;
    }
