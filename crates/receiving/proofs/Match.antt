-- Words agree where the rule's bits do. Assumes nothing.
use mathlib.Core.Path.{◌≡◌, refl, ap, ap₂, sym, ◌∙◌}
use mathlib.Core.Bool.{Bool, true, false, cond, not, ◌&&◌, ◌||◌, and-true, and-false, or-true, or-false}
use mathlib.Core.List.{List, [], ◌∷◌}
use Prim.Native.Nat.{ℕ, ◌+◌, ◌*◌, ◌/◌, ◌%◌, ◌^◌, ◌≤◌, ◌<◌}
use native.Mathlib.Nat.{zero-add}
use native.Mathlib.Omega.{arith}
use lib.Bits.{bit_and, and_le_r, or_lt}
use lib.Dec.{T, eqb, ltb, eqb→eq}
use lib.ListN.{get_or}
use Rattle.bits.specs.Bit.{bit, has_bit, same_as, agrees, for_below, agree_under, word_of}
use Rattle.bits.proofs.All.{and_left, and_right, from, every}
use Rattle.bits.proofs.Words.{has_and, has_or, word_bitwise, for_below_same, for_below_split, for_below_bytes, agree_bitwise}
use Rattle.records.specs.declared.Frame.{Frame}
use Rattle.registers.specs.State.{exide_bit}
use Rattle.registers.specs.Registers.{rx_control}
use Rattle.registers.specs.declared.Control.{Control}
use Rattle.registers.specs.declared.RxBuffer.{RxBuffer}
use Rattle.registers.specs.declared.RxBuffer.TheVariants.{Rxb0, Rxb1}
use Rattle.std.specs.Prelude.{Some}
use Rattle.receiving.specs.Receiving.{sidh_byte, sidl_byte, eid8_byte, eid0_byte, identifier_place, identifier_width, filter_at, mask_at, bit_at, agrees_at, carried_by, matches, takes_any, hit_for}
use Rattle.receiving.specs.Words.{four_at, key_bytes, reach_bytes, key_of, always_bytes, counted, word_matches, MatchesBitwise}
use Rattle.receiving.proofs.Look.{lowest_below}
use Rattle.receiving.proofs.Places.{top_kept, remote_lt, sidl, extended_bytes, extended_kept}

pub is_true : (b : Bool) → T b → b ≡ true
is_true true t = refl
is_true false t = absurd t

pub is_false : (b : Bool) → T (not b) → b ≡ false
is_false false t = refl
is_false true t = absurd t

-- ---- conjunctions, brought to the rule's order: format, identifier, data
four : {a b c d a' b' c' d' : Bool} → a ≡ a' → b ≡ b' → c ≡ c' → d ≡ d' → (a && b && c && d) ≡ (a' && b' && c' && d')
four p q r s = ap₂ ◌&&◌ (ap₂ ◌&&◌ (ap₂ ◌&&◌ p q) r) s

standard_order : (form low high first second : Bool) → (high && (form && low) && first && second) ≡ (form && (low && high) && (first && second))
standard_order true true true first second = refl
standard_order true true false first second = refl
standard_order true false true first second = refl
standard_order true false false first second = refl
standard_order false low true first second = refl
standard_order false low false first second = refl

extended_order : (form a b c d e : Bool) → (e && (c && form && d) && b && a) ≡ (form && (a && b && c && d && e) && true)
extended_order true true true true d true = refl
extended_order true true true false d true = refl
extended_order true true false c d true = rw (and-false (c && true && d))
extended_order true false b c d true = rw (and-false (c && true && d && b))
extended_order true a b c d false = rw (and-false (a && b && c && d))
extended_order false a b true d true = refl
extended_order false a b false d true = refl
extended_order false a b c d false = refl

-- ---- four bytes, bit by bit
abbrev bit_of : List ℕ → ℕ → ℕ → Bool
bit_of xs i k = has_bit (get_or xs i 0) k

-- bit k of one byte: the mask's, those that can count, those that always do, the filter's and the frame's
abbrev agreed : (mask reach always filter key : ℕ) → ℕ → Bool
agreed mask reach always filter key k = agrees ((has_bit mask k && has_bit reach k) || has_bit always k) (has_bit filter k) (has_bit key k)

module _ (mask reach filter key : List ℕ) (h : word_of reach < 2 ^ 32) where
  counted_bit : (i k : ℕ) → k < 8 → has_bit (counted (word_of mask) (word_of reach)) (i * 8 + k) ≡ ((bit_of mask i k && bit_of reach i k) || bit_of always_bytes i k)
  counted_bit i k o =
      simp (has_or, has_and, word_bitwise mask i k o, word_bitwise reach i k o, word_bitwise always_bytes i k o)

  counted_lt : counted (word_of mask) (word_of reach) < 2 ^ 32
  counted_lt =
      or_lt 32 (bit_and (word_of mask) (word_of reach)) (word_of always_bytes) (omega (arith, h, and_le_r (word_of mask) (word_of reach))) (omega arith)

  -- bit k of byte i, as the words have it and as the bytes have it
  abbrev in_words : ℕ → Bool
  in_words k = agrees (has_bit (counted (word_of mask) (word_of reach)) k) (has_bit (word_of filter) k) (has_bit (word_of key) k)

  abbrev in_bytes : ℕ → ℕ → Bool
  in_bytes i = agreed (get_or mask i 0) (get_or reach i 0) (get_or always_bytes i 0) (get_or filter i 0) (get_or key i 0)

  each : (i k : ℕ) → k < 8 → in_words (i * 8 + k) ≡ in_bytes i k
  each i k o = rw (counted_bit i k o, word_bitwise filter i k o, word_bitwise key i k o)

  words_agree : agree_under (counted (word_of mask) (word_of reach)) (word_of filter) (word_of key) ≡ for_below 4 (λ i. for_below 8 (in_bytes i))
  words_agree =
      agree_bitwise 32 (counted (word_of mask) (word_of reach)) (word_of filter) (word_of key) counted_lt
      ∙ for_below_bytes 4 in_words
      ∙ for_below_same 4 (λ i p. for_below_same 8 (λ k o. each i k o))

-- ---- a run of w bits: identifier bits from s on stand in byte j from bit t on, and all of them count
abbrev at_place : (extended : Bool) (j s t : ℕ) → ℕ → Bool
at_place extended j s t k = eqb (identifier_place extended (s + k)).0 j && eqb (identifier_place extended (s + k)).1 (t + k)

abbrev is_counted : (reach j t : ℕ) → ℕ → Bool
is_counted reach j t k = has_bit reach (t + k) && not (bit_of always_bytes j (t + k))

abbrev fits : (extended : Bool) (reach j s t w : ℕ) → Bool
fits extended reach j s t w = from (λ k. is_counted reach j t k && at_place extended j s t k) 0 w

module _ (m : List ℕ) (n : ℕ) where
  -- bit k of byte j agrees
  abbrev part : (j reach key : ℕ) → ℕ → Bool
  part j reach key k = agreed (get_or m (mask_at n + j) 0) reach (get_or always_bytes j 0) (get_or m (filter_at n + j) 0) key k

  module _ (j reach key k : ℕ) where
    abbrev mask_bit : Bool
    mask_bit = has_bit (get_or m (mask_at n + j) 0) k

    -- a bit that counts agrees as the rule says, one that does not is let pass, and one that always does knows no mask
    counts : has_bit reach k ≡ true → bit_of always_bytes j k ≡ false → part j reach key k ≡ agrees_at m n (j, k) (has_bit key k)
    counts e o = rw (e, o, and-true mask_bit, or-false mask_bit)

    passes : has_bit reach k ≡ false → bit_of always_bytes j k ≡ false → part j reach key k ≡ true
    passes e o = rw (e, o, and-false mask_bit)

    always : bit_of always_bytes j k ≡ true → part j reach key k ≡ same_as (bit_at m (filter_at n) (j, k)) (has_bit key k)
    always o = rw (o, or-true (mask_bit && has_bit reach k))

  abbrev rule : Bool → ℕ → ℕ → Bool
  rule extended id i = agrees_at m n (identifier_place extended i) (has_bit id i)

  run : (extended : Bool) (id : ℕ) (q : List ℕ) → ((i : ℕ) → i < identifier_width extended → bit_at q 0 (identifier_place extended i) ≡ has_bit id i)
      → (reach j s t w : ℕ) → s + w ≤ identifier_width extended → T (fits extended reach j s t w)
      → for_below w (λ k. part j reach (get_or q j 0) (t + k)) ≡ for_below w (λ k. rule extended id (s + k))
  run extended id q kept reach j s t w end tests = for_below_same w one
    where
      one : (k : ℕ) → k < w → part j reach (get_or q j 0) (t + k) ≡ rule extended id (s + k)
      one k h =
          let both : T (is_counted reach j t k && at_place extended j s t k) = every (λ k. is_counted reach j t k && at_place extended j s t k) w tests k h in
          let counted : T (is_counted reach j t k) = and_left (is_counted reach j t k) (at_place extended j s t k) both in
          let place : T (at_place extended j s t k) = and_right (is_counted reach j t k) (at_place extended j s t k) both in
          let byte : (identifier_place extended (s + k)).0 ≡ j = eqb→eq (identifier_place extended (s + k)).0 j (and_left (eqb (identifier_place extended (s + k)).0 j) (eqb (identifier_place extended (s + k)).1 (t + k)) place) in
          let bit : (identifier_place extended (s + k)).1 ≡ t + k = eqb→eq (identifier_place extended (s + k)).1 (t + k) (and_right (eqb (identifier_place extended (s + k)).0 j) (eqb (identifier_place extended (s + k)).1 (t + k)) place) in
          let stands : has_bit (get_or q j 0) (t + k) ≡ has_bit id (s + k) = rw (byte, bit, zero-add j) at (kept (s + k) (omega arith)) in
          rw (byte, bit, ← stands)
          (counts j reach (get_or q j 0) (t + k) (is_true (has_bit reach (t + k)) (and_left (has_bit reach (t + k)) (not (bit_of always_bytes j (t + k))) counted)) (is_false (bit_of always_bytes j (t + k)) (and_right (has_bit reach (t + k)) (not (bit_of always_bytes j (t + k))) counted)))

  -- ---- EID8 and EID0 of a standard frame: data byte j - 2, where it is there
  abbrev data_part : ℕ → Bool → ℕ → Bool
  data_part j present q = not present || for_below 8 (λ k. agrees_at m n (j, k) (has_bit q k))

  data_run : (j : ℕ) (present : Bool) (q : ℕ) → T (from (λ k. not (bit_of always_bytes j k)) 0 8) → for_below 8 (part j (cond present 0xFF 0) q) ≡ data_part j present q
  data_run j true q free =
      for_below_same 8 (λ k h. counts j 0xFF q k (is_true (has_bit 0xFF k) (every (λ k. has_bit 0xFF k) 8 tt k h)) (is_false (bit_of always_bytes j k) (every (λ k. not (bit_of always_bytes j k)) 8 free k h)))
  data_run j false q free =
      for_below_same 8 (λ k h. passes j 0 q k (is_false (has_bit 0 k) (every (λ k. not (has_bit 0 k)) 8 tt k h)) (is_false (bit_of always_bytes j k) (every (λ k. not (bit_of always_bytes j k)) 8 free k h)))

  -- SIDL bit 3 of the filter and the frame's extended bit
  abbrev form : Bool → Bool
  form extended = same_as (bit_at m (filter_at n) (sidl_byte, exide_bit)) extended

  exide : (reach q : ℕ) (extended : Bool) → has_bit q exide_bit ≡ extended → part sidl_byte reach q exide_bit ≡ form extended
  exide reach q extended e = always sidl_byte reach q exide_bit refl ∙ ap (same_as (bit_at m (filter_at n) (sidl_byte, exide_bit))) e

  module _ (id : ℕ) where
    -- ---- a standard frame
    module _ (remote : Bool) where
      abbrev low : ℕ
      low = id % 8 * 32 + cond remote 16 0

      no_exide : has_bit low exide_bit ≡ false
      no_exide = elim remote as (λ b. has_bit (id % 8 * 32 + cond b 16 0) exide_bit ≡ false) [ true ↦ ap (λ (x : ℕ). eqb x 1) with16 | false ↦ ap (λ (x : ℕ). eqb x 1) with0 ]
        where
          with16 : bit (id % 8 * 32 + 16) exide_bit ≡ 0
          with16 = omega arith

          with0 : bit (id % 8 * 32 + 0) exide_bit ≡ 0
          with0 = omega arith

      -- below bit 5 of SIDL only EXIDE is looked at
      low_five : for_below 5 (part sidl_byte 0xE0 low) ≡ form false
      low_five =
          ap₂ ◌&&◌
          (ap₂ ◌&&◌ (ap₂ ◌&&◌ (ap₂ ◌&&◌ (passes sidl_byte 0xE0 low 0 refl refl) (passes sidl_byte 0xE0 low 1 refl refl)) (passes sidl_byte 0xE0 low 2 refl refl)) (exide 0xE0 low false no_exide))
          (passes sidl_byte 0xE0 low 4 refl refl)
          ∙ and-true (form false)

      module _ (has0 has1 : Bool) (data0 data1 : ℕ) where
        abbrev bytes : List ℕ
        bytes = id / 8 % 256 ∷ low ∷ data0 ∷ data1 ∷ []

        kept : (i : ℕ) → i < 11 → bit_at bytes 0 (identifier_place false i) ≡ has_bit id i
        kept = top_kept id (cond remote 16 0) (data0 ∷ data1 ∷ []) (remote_lt remote)

        abbrev data_parts : Bool
        data_parts = data_part eid8_byte has0 data0 && data_part eid0_byte has1 data1

        standard : (for_below 8 (part sidh_byte 0xFF (id / 8 % 256)) && for_below 8 (part sidl_byte 0xE0 low) && for_below 8 (part eid8_byte (cond has0 0xFF 0) data0) && for_below 8 (part eid0_byte (cond has1 0xFF 0) data1))
            ≡ (form false && for_below 11 (rule false id) && data_parts)
        standard =
            four (run false id bytes kept 0xFF sidh_byte 3 0 8 (omega arith) tt)
            (for_below_split 5 3 (part sidl_byte 0xE0 low) ∙ ap₂ ◌&&◌ low_five (run false id bytes kept 0xE0 sidl_byte 0 5 3 (omega arith) tt))
            (data_run eid8_byte has0 data0 tt) (data_run eid0_byte has1 data1 tt)
            ∙ standard_order (form false) (for_below 3 (rule false id)) (for_below 8 (λ k. rule false id (3 + k))) (data_part eid8_byte has0 data0) (data_part eid0_byte has1 data1)
            ∙ ap (λ (b : Bool). form false && b && data_parts) (sym (for_below_split 3 8 (rule false id)))

    -- ---- an extended frame
    has_exide : has_bit (sidl id) exide_bit ≡ true
    has_exide = ap (λ (x : ℕ). eqb x 1) one
      where
        one : bit (sidl id) exide_bit ≡ 1
        one = omega arith

    middle_three : for_below 3 (λ k. part sidl_byte 0xE3 (sidl id) (2 + k)) ≡ form true
    middle_three =
        ap₂ ◌&&◌ (ap₂ ◌&&◌ (passes sidl_byte 0xE3 (sidl id) 2 refl refl) (exide 0xE3 (sidl id) true has_exide)) (passes sidl_byte 0xE3 (sidl id) 4 refl refl)
        ∙ and-true (form true)

    -- identifier bits from s on
    abbrev bits_from : ℕ → ℕ → Bool
    bits_from w s = for_below w (λ k. rule true id (s + k))

    identifier_parts : for_below 29 (rule true id) ≡ ((((bits_from 8 0 && bits_from 8 8) && bits_from 2 16) && bits_from 3 18) && bits_from 8 21)
    identifier_parts =
        for_below_split 21 8 (rule true id)
        ∙ ap (λ (b : Bool). b && bits_from 8 21) (for_below_split 18 3 (rule true id)
        ∙ ap (λ (b : Bool). b && bits_from 3 18) (for_below_split 16 2 (rule true id)
        ∙ ap (λ (b : Bool). b && bits_from 2 16) (for_below_split 8 8 (rule true id))))

    run_extended : (reach j s t w : ℕ) → s + w ≤ 29 → T (fits true reach j s t w) → for_below w (λ k. part j reach (get_or (extended_bytes id) j 0) (t + k)) ≡ bits_from w s
    run_extended = run true id (extended_bytes id) (extended_kept id)

    extended : (for_below 8 (part sidh_byte 0xFF (id / 0x200000 % 256)) && for_below 8 (part sidl_byte 0xE3 (sidl id)) && for_below 8 (part eid8_byte 0xFF (id / 0x100 % 256)) && for_below 8 (part eid0_byte 0xFF (id % 256)))
        ≡ (form true && for_below 29 (rule true id) && true)
    extended =
        four (run_extended 0xFF sidh_byte 21 0 8 (omega arith) tt)
        (for_below_split 5 3 (part sidl_byte 0xE3 (sidl id))
        ∙ ap₂ ◌&&◌ (for_below_split 2 3 (part sidl_byte 0xE3 (sidl id)) ∙ ap₂ ◌&&◌ (run_extended 0xE3 sidl_byte 16 0 2 (omega arith) tt) middle_three)
        (run_extended 0xE3 sidl_byte 18 5 3 (omega arith) tt))
        (run_extended 0xFF eid8_byte 8 0 8 (omega arith) tt) (run_extended 0xFF eid0_byte 0 0 8 (omega arith) tt)
        ∙ extended_order (form true) (bits_from 8 0) (bits_from 8 8) (bits_from 2 16) (bits_from 3 18) (bits_from 8 21)
        ∙ ap (λ (b : Bool). form true && b && true) (sym identifier_parts)

-- ---- every frame, filter and mask
reach_lt : (f : Frame) → word_of (reach_bytes f) < 2 ^ 32
reach_lt f = omega arith

pub matches_bitwise : MatchesBitwise
unfolding key_of word_matches matches
matches_bitwise m f n =
    words_agree (four_at m (mask_at n)) (reach_bytes f) (four_at m (filter_at n)) (key_bytes f) (reach_lt f)
    ∙ go f.extended refl
  where
    go : (b : Bool) → f.extended ≡ b
        → for_below 4 (λ i. for_below 8 (agreed (get_or (four_at m (mask_at n)) i 0) (get_or (reach_bytes f) i 0) (get_or always_bytes i 0) (get_or (four_at m (filter_at n)) i 0) (get_or (key_bytes f) i 0))) ≡ matches m f n
    go true e = rw e (extended m n f.identifier)
    go false e = rw e (standard m n f.identifier f.remote (ltb 0 (carried_by f)) (ltb 1 (carried_by f)) (get_or f.bytes 0 0) (get_or f.bytes 1 0))

-- ---- so the look finds the rule's filter
pub hit_same : (c : Control) (m : List ℕ) (f : Frame) (b : RxBuffer) → hit_for c (word_matches m (key_of f)) b ≡ hit_for c (matches m f) b
unfolding hit_for
hit_same c m f Rxb0 = ap (cond (takes_any (rx_control c.rx Rxb0)) (Some 0)) (lowest_below 0 2 (λ k h. matches_bitwise m f k))
hit_same c m f Rxb1 = ap (cond (takes_any (rx_control c.rx Rxb1)) (Some 0)) (lowest_below 2 4 (λ k h. matches_bitwise m f k))
