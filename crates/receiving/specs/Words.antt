-- What the code compares in place of single bits: four bytes at a time, as one word. MatchesBitwise says that it finds the filters that
-- Receiving.matches finds, so nothing here has to be believed.
use Rattle.std.specs.Prelude.{ℕ, ◌+◌, Bool, cond, ◌||◌, ◌≡◌, List, [], ◌∷◌, ltb, get_or}
use Rattle.std.specs.Int.Bits.{bit_and, bit_or}
use Rattle.bits.specs.Bit.{agree_under, word_of}
use Rattle.records.specs.declared.Frame.{Frame}
use Rattle.receiving.specs.declared.Key.{Key}
use Rattle.receiving.specs.Receiving.{sidh_of, sidl_of, eid8_of, eid0_of, carried_by, sidh_byte, sidl_byte, eid8_byte, eid0_byte, filter_at, mask_at, matches}

-- the four bytes from `at` on
abbrev pub four_at : List ℕ → ℕ → List ℕ
four_at m at = get_or m (at + sidh_byte) 0 ∷ get_or m (at + sidl_byte) 0 ∷ get_or m (at + eid8_byte) 0 ∷ get_or m (at + eid0_byte) 0 ∷ []

abbrev pub word_at : List ℕ → ℕ → ℕ
word_at m at = word_of (four_at m at)

-- a frame's identifier bytes; in a standard frame the first two data bytes stand in for EID8 and EID0
abbrev pub key_bytes : Frame → List ℕ
key_bytes f =
    sidh_of f ∷ sidl_of f ∷ cond f.extended (eid8_of f) (get_or f.bytes 0 0) ∷ cond f.extended (eid0_of f) (get_or f.bytes 1 0) ∷ []

-- the bits of these that a mask can make count
abbrev pub reach_bytes : Frame → List ℕ
reach_bytes f =
    0xFF ∷ cond f.extended 0xE3 0xE0
    ∷ cond (f.extended || ltb 0 (carried_by f)) 0xFF 0 ∷ cond (f.extended || ltb 1 (carried_by f)) 0xFF 0 ∷ []

unfoldable pub key_of : Frame → Key
key_of f = record { word = word_of (key_bytes f); reach = word_of (reach_bytes f) }

-- the bits that count: those that the mask picks, and always EXIDE
abbrev pub always_bytes : List ℕ
always_bytes = 0 ∷ 0x08 ∷ 0 ∷ 0 ∷ []

abbrev pub counted : ℕ → ℕ → ℕ
counted mask reach = bit_or (bit_and mask reach) (word_of always_bytes)

unfoldable pub word_matches : List ℕ → Key → ℕ → Bool
word_matches m q n = agree_under (counted (word_at m (mask_at n)) q.reach) (word_at m (filter_at n)) q.word

-- proved in proofs/Match
abbrev pub MatchesBitwise : Type 0
MatchesBitwise = (m : List ℕ) (f : Frame) (n : ℕ) → word_matches m (key_of f) n ≡ matches m f n
