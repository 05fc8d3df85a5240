-- Numbers of any width, bit by bit: a part of one, two joined, two compared under a mask. Assumes nothing.
use mathlib.Core.Path.{◌≡◌, refl, ap, ap₂, sym, ◌∙◌}
use mathlib.Core.Bool.{Bool, true, false, ◌&&◌, ◌||◌, and-true, and_assoc}
use mathlib.Core.List.{List, [], ◌∷◌}
use Prim.Native.Nat.{ℕ, zero, suc, ◌+◌, ◌-◌, ◌*◌, ◌/◌, ◌%◌, ◌^◌, ◌<◌, min, max}
use native.Mathlib.Nat.{pow-suc, mod-lt, zero-div, add-zero, add-suc, div-one}
use native.Mathlib.Numerals.{one-add}
use native.Mathlib.Omega.{arith}
use lib.Bits.{bit_and, bit_or, and_step, and_zero_r}
use lib.Dec.{T, eqb}
use lib.ListN.{get_or}
use lib.Pow.{pow_pos, shr-shr, field, high, low, mod-mod-pow}
use borrow.Author.Tests.{eq-eqb, ne_eqb, eqb-true, eqb-false}
use Rattle.bits.specs.Bit.{bit, has_bit, same_as, agrees, for_below, agree_under, word_of, AgreeBitwise, WordBitwise}
use Rattle.bits.proofs.All.{from, every²}
use Rattle.bits.proofs.Laws.{bit-bit_and, bit-bit_or}

-- ---- two tests of two binary digits agree, from all four cases
same : (a b : Bool) → T (same_as a b) → a ≡ b
same true true t = refl
same false false t = refl
same true false t = absurd t
same false true t = absurd t

digits : (f g : ℕ → ℕ → Bool) → T (from (λ x. from (λ y. same_as (f x y) (g x y)) 0 2) 0 2) → (x y : ℕ) → x < 2 → y < 2 → f x y ≡ g x y
digits f g t x y hx hy = same (f x y) (g x y) (every² (λ x y. same_as (f x y) (g x y)) 2 2 t x y hx hy)

-- ---- the bits of AND and OR
pub has_and : (a b k : ℕ) → has_bit (bit_and a b) k ≡ (has_bit a k && has_bit b k)
has_and a b k =
    rw (bit-bit_and a b k) (digits (λ x y. eqb (min x y) 1) (λ x y. eqb x 1 && eqb y 1) tt (bit a k) (bit b k) (omega arith) (omega arith))

pub has_or : (a b k : ℕ) → has_bit (bit_or a b) k ≡ (has_bit a k || has_bit b k)
has_or a b k =
    rw (bit-bit_or a b k) (digits (λ x y. eqb (max x y) 1) (λ x y. eqb x 1 || eqb y 1) tt (bit a k) (bit b k) (omega arith) (omega arith))

-- ---- a part of a number
pub bit_quotient : (x s k : ℕ) → bit (x / 2 ^ s) k ≡ bit x (s + k)
bit_quotient x s k = ap (λ (n : ℕ). n % 2) (shr-shr x s k)

pub bit_remainder : (x w k : ℕ) → k < w → bit (x % 2 ^ w) k ≡ bit x k
bit_remainder x w k h =
    let e : w ≡ w - suc k + 1 + k = omega arith in
    rw e (rw (field x (w - suc k + 1) k) (mod-mod-pow (x / 2 ^ k) (w - suc k) 1))

-- ---- two numbers joined: lo below bit s, hi from there on
module _ (hi lo s : ℕ) (h : lo < 2 ^ s) where
  pub bit_joined_low : (k : ℕ) → k < s → bit (hi * 2 ^ s + lo) k ≡ bit lo k
  bit_joined_low k hk = sym (bit_remainder (hi * 2 ^ s + lo) s k hk) ∙ ap (λ (n : ℕ). bit n k) (low hi s h)

  pub bit_joined_high : (k : ℕ) → bit (hi * 2 ^ s + lo) (s + k) ≡ bit hi k
  bit_joined_high k = sym (bit_quotient (hi * 2 ^ s + lo) s k) ∙ ap (λ (n : ℕ). bit n k) (high hi s h)

bit_zero : (k : ℕ) → bit 0 k ≡ 0
bit_zero k = rw (zero-div (2 ^ k))

byte_lt : (x : ℕ) → x % 2 ^ 8 < 2 ^ 8
byte_lt x = mod-lt x (pow_pos 8)

bit_word : (xs : List ℕ) (i k : ℕ) → k < 8 → bit (word_of xs) (i * 8 + k) ≡ bit (get_or xs i 0) k
bit_word [] i k h = bit_zero (i * 8 + k) ∙ sym (bit_zero k)
bit_word (x ∷ xs) zero k h =
    let e : zero * 8 + k ≡ k = omega arith in
    rw e (bit_joined_low (word_of xs) (x % 2 ^ 8) 8 (byte_lt x) k h ∙ bit_remainder x 8 k h)
bit_word (x ∷ xs) (suc i) k h =
    let e : suc i * 8 + k ≡ 8 + (i * 8 + k) = omega arith in
    rw e (bit_joined_high (word_of xs) (x % 2 ^ 8) 8 (byte_lt x) (i * 8 + k) ∙ bit_word xs i k h)

pub word_bitwise : WordBitwise
word_bitwise xs i k h = ap (λ (n : ℕ). eqb n 1) (bit_word xs i k h)

-- ---- a test at every number below a bound
pub for_below_same : (n : ℕ) {f g : ℕ → Bool} → ((k : ℕ) → k < n → f k ≡ g k) → for_below n f ≡ for_below n g
for_below_same zero e = refl
for_below_same (suc n) e = ap₂ ◌&&◌ (for_below_same n (λ k h. e k (omega arith))) (e n (omega arith))

pub for_below_split : (m n : ℕ) (f : ℕ → Bool) → for_below (m + n) f ≡ (for_below m f && for_below n (λ k. f (m + k)))
for_below_split m zero f = rw (add-zero m, and-true (for_below m f))
for_below_split m (suc n) f =
    rw (add-suc m n) (ap (λ (b : Bool). b && f (m + n)) (for_below_split m n f) ∙ and_assoc (for_below m f) (for_below n (λ k. f (m + k))) (f (m + n)))

-- n bytes of eight bits
pub for_below_bytes : (n : ℕ) (f : ℕ → Bool) → for_below (n * 8) f ≡ for_below n (λ i. for_below 8 (λ k. f (i * 8 + k)))
for_below_bytes zero f = refl
for_below_bytes (suc n) f =
    let e : suc n * 8 ≡ n * 8 + 8 = omega arith in
    rw e (for_below_split (n * 8) 8 f ∙ ap (λ (b : Bool). b && for_below 8 (λ k. f (n * 8 + k))) (for_below_bytes n f))

-- ---- two numbers under a mask, the lowest bit and the rest
one_bit : (m a b : ℕ) → m < 2 → a < 2 → b < 2 → eqb (min a m) (min b m) ≡ agrees (eqb m 1) (eqb a 1) (eqb b 1)
one_bit zero a b hm ha hb = eq-eqb (min a 0) (min b 0) (omega arith)
one_bit (suc zero) a b hm ha hb = digits (λ a b. eqb (min a 1) (min b 1)) (λ a b. same_as (eqb a 1) (eqb b 1)) tt a b ha hb
one_bit (suc (suc m)) a b hm ha hb = absurd (omega arith)

same_digits : (x y r s : ℕ) → r < 2 → s < 2 → eqb (x * 2 + r) (y * 2 + s) ≡ (eqb r s && eqb x y)
same_digits x y r s hr hs = go (eqb r s) refl (eqb x y) refl
  where
    go : (p : Bool) → eqb r s ≡ p → (q : Bool) → eqb x y ≡ q → eqb (x * 2 + r) (y * 2 + s) ≡ (eqb r s && eqb x y)
    go true ep true eq = rw (ep, eq) (eq-eqb (x * 2 + r) (y * 2 + s) (omega (arith, eqb-true r s ep, eqb-true x y eq)))
    go true ep false eq = rw (ep, eq) (ne_eqb (x * 2 + r) (y * 2 + s) (λ e. eqb-false x y eq (omega (arith, e, hr, hs))))
    go false ep q eq = rw ep (ne_eqb (x * 2 + r) (y * 2 + s) (λ e. eqb-false r s ep (omega (arith, e, hr, hs))))

agree_step : (m a b : ℕ) → agree_under m a b ≡ (agrees (has_bit m 0) (has_bit a 0) (has_bit b 0) && agree_under (m / 2) (a / 2) (b / 2))
agree_step m a b =
    rw (and_step a m, and_step b m, div-one m, div-one a, div-one b)
    (same_digits (bit_and (a / 2) (m / 2)) (bit_and (b / 2) (m / 2)) (min (a % 2) (m % 2)) (min (b % 2) (m % 2)) (omega arith) (omega arith)
    ∙ ap (λ (p : Bool). p && agree_under (m / 2) (a / 2) (b / 2)) (one_bit (m % 2) (a % 2) (b % 2) (omega arith) (omega arith) (omega arith)))

has_half : (x k : ℕ) → has_bit (x / 2) k ≡ has_bit x (1 + k)
has_half x k = ap (λ (n : ℕ). eqb n 1) (bit_quotient x 1 k)

pub agree_bitwise : AgreeBitwise
agree_bitwise zero m a b h =
    let e : m ≡ 0 = omega arith in
    rw (e, and_zero_r a, and_zero_r b)
agree_bitwise (suc w) m a b h =
    agree_step m a b
    ∙ ap (λ (p : Bool). agrees (has_bit m 0) (has_bit a 0) (has_bit b 0) && p)
    (agree_bitwise w (m / 2) (a / 2) (b / 2) (omega (arith, h, pow-suc 2 w))
    ∙ for_below_same w (λ k q. rw (has_half m k, has_half a k, has_half b k)))
    ∙ sym (rw (one-add w) at (for_below_split 1 w (λ k. agrees (has_bit m k) (has_bit a k) (has_bit b k))))

-- ---- a number of 32 bits is its four bytes
byte_more : (r : ℕ) {w : ℕ} → w ≡ r / 256 → w * 2 ^ 8 + r % 256 % 2 ^ 8 ≡ r
byte_more r e = rw e (omega arith)

pub word_whole : (r : ℕ) → r < 2 ^ 32 → word_of (r % 256 ∷ r / 0x100 % 256 ∷ r / 0x10000 % 256 ∷ r / 0x1000000 % 256 ∷ []) ≡ r
word_whole r h =
    let two : r / 0x10000 ≡ r / 256 / 256 = omega arith in
    let three : r / 0x1000000 ≡ r / 256 / 256 / 256 = omega arith in
    let none : 0 ≡ r / 256 / 256 / 256 / 256 = omega arith in
    rw (two, three) (byte_more r (byte_more (r / 256) (byte_more (r / 256 / 256) (byte_more (r / 256 / 256 / 256) none))))
