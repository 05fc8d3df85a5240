-- One byte: its bits, and the changes that a register takes; bytes as one word.
use Rattle.std.specs.Prelude.{ℕ, zero, suc, ◌+◌, ◌-◌, ◌*◌, ◌/◌, ◌%◌, ◌^◌, ◌<◌, Bool, true, cond, not, ◌&&◌, ◌||◌, ◌≡◌, List, [], ◌∷◌, eqb, ltb, get_or}
use Rattle.std.specs.Int.Bits.{bit_and, bit_or}

-- bit k of x, counted from 0, as 0 or 1
abbrev pub bit : ℕ → ℕ → ℕ
bit x k = x / 2 ^ k % 2

-- whether bit k of x is 1
abbrev pub has_bit : ℕ → ℕ → Bool
has_bit x k = eqb (bit x k) 1

-- the byte with bit k alone; a byte has no bit 8 and up
abbrev pub power_of : ℕ → ℕ
power_of k = cond (ltb k 8) (2 ^ k) 0

-- x with bit k set, and with bit k clear
abbrev pub set_bit : ℕ → ℕ → ℕ
set_bit x k = bit_or x (power_of k)

abbrev pub clear_bit : ℕ → ℕ → ℕ
clear_bit x k = bit_and x (255 - power_of k)

-- the bits of new where mask has a 1, and of old where it has a 0
abbrev pub merged : ℕ → ℕ → ℕ → ℕ
merged mask old new = bit_or (bit_and old (255 - mask)) (bit_and new mask)

-- a write that is taken merges; one that is not leaves the old byte
abbrev pub written : Bool → ℕ → ℕ → ℕ → ℕ
written takes mask old new = cond takes (merged mask old new) old

-- two bits are the same
abbrev pub same_as : Bool → Bool → Bool
same_as x y = cond x y (not y)

-- .. or the mask's bit is 0
abbrev pub agrees : Bool → Bool → Bool → Bool
agrees mask x y = not mask || same_as x y

-- the test holds at every number below n
abbrev pub for_below : ℕ → (ℕ → Bool) → Bool
for_below zero f = true
for_below (suc n) f = for_below n f && f n

-- ---- what code compares in place of single bits; AgreeBitwise and WordBitwise below say both bit by bit
-- two numbers are the same where the mask has a 1
abbrev pub agree_under : ℕ → ℕ → ℕ → Bool
agree_under mask a b = eqb (bit_and a mask) (bit_and b mask)

-- bytes as one number, the first one lowest
abbrev pub word_of : List ℕ → ℕ
word_of [] = 0
word_of (x ∷ xs) = word_of xs * 2 ^ 8 + x % 2 ^ 8

-- ---- set, clear, merge, compare and join, bit by bit; proved in proofs/Laws and proofs/Words
abbrev pub SetBitwise : Type 0
SetBitwise = (x i j : ℕ) → i < 8 → j < 8 → has_bit (set_bit x i) j ≡ (eqb i j || has_bit x j)

abbrev pub ClearBitwise : Type 0
ClearBitwise = (x i j : ℕ) → i < 8 → j < 8 → has_bit (clear_bit x i) j ≡ (not (eqb i j) && has_bit x j)

abbrev pub MergedBitwise : Type 0
MergedBitwise = (mask old new k : ℕ) → mask < 256 → k < 8 → bit (merged mask old new) k ≡ cond (has_bit mask k) (bit new k) (bit old k)

-- at any width
abbrev pub AgreeBitwise : Type 0
AgreeBitwise = (w mask a b : ℕ) → mask < 2 ^ w → agree_under mask a b ≡ for_below w (λ k. agrees (has_bit mask k) (has_bit a k) (has_bit b k))

-- bit k of byte i
abbrev pub WordBitwise : Type 0
WordBitwise = (xs : List ℕ) (i k : ℕ) → k < 8 → has_bit (word_of xs) (i * 8 + k) ≡ has_bit (get_or xs i 0) k
