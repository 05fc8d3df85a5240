-- A record taken apart and put together: 16 bytes of a list, and the bytes of a number. Assumes nothing.
use mathlib.Core.Path.{◌≡◌, refl, ap, sym}
use mathlib.Core.Bool.{Bool, true, false, cond, ◌&&◌, ◌||◌, and_assoc, and_comm, and-true}
use Rattle.std.specs.Prelude.{Some}
use mathlib.Core.List.{List, [], ◌∷◌}
use Prim.Native.Nat.{ℕ, zero, suc, ◌+◌, ◌-◌, ◌*◌, ◌/◌, ◌%◌, ◌^◌, ◌≤◌, ◌<◌, max}
use native.Mathlib.Nat.{add-zero, add-suc, pow-suc, one-le-pow, pow-le-pow_right, div-one, div-eq_of_lt, div-div-eq-div-mul, div-lt_iff_lt-mul, le-max_right, max-zero, lt_of_lt_of_le}
use native.Mathlib.Omega.{arith}
use lib.ListN.{length, take, drop, get_or}
use lib.Seq.{drop-cons}
use lib.Dec.{eqb, ltb, leb}
use Rattle.records.specs.declared.Kind.{Kind}
use Rattle.records.specs.declared.Kind.TheVariants.{SelectLow, Exchange, SelectHigh, FrameHeard, BusIdle, FrameEnds, ReceiveError, Recovery, PinLevel}
use Rattle.records.specs.Records.{data_bytes, carried, sound_as, sound_by}
use borrow.Author.Tests.{eq-eqb, ne_eqb, eqb-true, eqb-false, leb-true, leb-false, ltb-true, ltb-false}

-- n elements of a list, the first at + k
unfoldable pub listed : List ℕ → ℕ → ℕ → ℕ → List ℕ
listed l at k zero = []
listed l at k (suc n) = get_or l (at + k) 0 ∷ listed l at (suc k) n

pub taken : (l : List ℕ) (at k n : ℕ) → at + k + n ≤ length l → take n (drop (at + k) l) ≡ listed l at k n
unfolding listed
taken l at k zero h = refl
taken l at k (suc n) h =
    let within : at + k < length l = omega arith in
    rw (drop-cons l (at + k) 0, ← add-suc)
    (ap (λ (r : List ℕ). get_or l (at + k) 0 ∷ r) (taken l at (suc k) n (omega arith)))

-- 16 bytes of a list are a record
pub sixteen : (l : List ℕ) (at : ℕ) → at + 16 ≤ length l
    → take 16 (drop at l)
    ≡ get_or l at 0 ∷ get_or l (at + 1) 0 ∷ get_or l (at + 2) 0 ∷ get_or l (at + 3) 0
    ∷ get_or l (at + 4) 0 ∷ get_or l (at + 5) 0 ∷ get_or l (at + 6) 0 ∷ get_or l (at + 7) 0
    ∷ get_or l (at + 8) 0 ∷ get_or l (at + 9) 0 ∷ get_or l (at + 10) 0 ∷ get_or l (at + 11) 0
    ∷ get_or l (at + 12) 0 ∷ get_or l (at + 13) 0 ∷ get_or l (at + 14) 0 ∷ get_or l (at + 15) 0 ∷ []
unfolding listed
sixteen l at h = rw add-zero at (taken l at 0 16 (omega arith))

-- ---- a number and its bytes
-- a number is 0 where its low byte and the rest are
zero_low : (x : ℕ) → eqb x 0 ≡ (eqb (x / 256) 0 && eqb (x % 256) 0)
zero_low x = go (eqb (x / 256) 0) refl (eqb (x % 256) 0) refl
  where
    go : (a : Bool) → eqb (x / 256) 0 ≡ a → (b : Bool) → eqb (x % 256) 0 ≡ b → eqb x 0 ≡ (eqb (x / 256) 0 && eqb (x % 256) 0)
    go true ea true eb = rw (ea, eb) (eq-eqb x 0 (omega (arith, eqb-true (x / 256) 0 ea, eqb-true (x % 256) 0 eb)))
    go true ea false eb = rw (ea, eb) (ne_eqb x 0 (λ e. eqb-false (x % 256) 0 eb (rw e)))
    go false ea b eb = rw ea (ne_eqb x 0 (λ e. eqb-false (x / 256) 0 ea (rw e)))

-- the same at byte j
zero_at : (x j : ℕ) → eqb (x / 256 ^ j) 0 ≡ (eqb (x / 256 ^ suc j) 0 && eqb (x / 256 ^ j % 256) 0)
zero_at x j = rw (pow-suc, ← div-div-eq-div-mul) (zero_low (x / 256 ^ j))

-- of the first j bytes of x, low byte first, those past the first n are 0
abbrev pub past : ℕ → ℕ → ℕ → Bool
past x n zero = true
past x n (suc j) = past x n j && (ltb j n || eqb (x / 256 ^ j % 256) 0)

-- with what lies past byte j, all past the first n
past-max : (x n j : ℕ) → (past x n j && eqb (x / 256 ^ max n j) 0) ≡ eqb (x / 256 ^ n) 0
past-max x n zero = rw max-zero
past-max x n (suc j) = go (ltb j n) refl (past-max x n j)
  where
    go : (b : Bool) → ltb j n ≡ b → (past x n j && eqb (x / 256 ^ max n j) 0) ≡ eqb (x / 256 ^ n) 0 → (past x n (suc j) && eqb (x / 256 ^ max n (suc j)) 0) ≡ eqb (x / 256 ^ n) 0
    go true e before =
        let below : j < n = ltb-true j n e in
        let same : max n (suc j) ≡ max n j = omega arith in
        rw (e, and-true, same) before
    go false e before =
        let above : n ≤ j = ltb-false j n e in
        let here : max n j ≡ j = omega arith in
        let there : max n (suc j) ≡ suc j = omega arith in
        rw (e, there, and_assoc, and_comm (eqb (x / 256 ^ j % 256) 0), ← zero_at) (rw here at before)

-- where x has k bytes, nothing does
past_is : (x n k : ℕ) → x < 256 ^ k → past x n k ≡ eqb (x / 256 ^ n) 0
past_is x n k h =
    let none : x / 256 ^ max n k ≡ 0 = div-eq_of_lt (lt_of_lt_of_le h (pow-le-pow_right (omega arith) (le-max_right n k))) in
    rw (none, and-true) at (past-max x n k)

-- a number is 0 where its bytes are
pub zero_bytes : (x k : ℕ) → x < 256 ^ k → eqb x 0 ≡ past x 0 k
zero_bytes x k h = rw (past_is x 0 k h, div-one)

-- a number below m, by a quotient
under : (x m : ℕ) → 0 < m → leb x (m - 1) ≡ eqb (x / m) 0
under x m h = go (leb x (m - 1)) refl
  where
    go : (b : Bool) → leb x (m - 1) ≡ b → leb x (m - 1) ≡ eqb (x / m) 0
    go true e =
        let none : x / m ≡ 0 = div-eq_of_lt (omega (arith, leb-true x (m - 1) e)) in
        rw (e, none)
    go false e = rw e (sym (ne_eqb (x / m) 0 (λ z. omega (arith, leb-false x (m - 1) e, (div-lt_iff_lt-mul {x = x} {y = 1} h).0 (omega (arith, z))))))

-- of k bytes those past the first n are 0 where the number is that small
pub past-leb : (x n k : ℕ) → x < 256 ^ k → leb x (256 ^ n - 1) ≡ past x n k
past-leb x n k h = rw (past_is x n k h) (under x (256 ^ n) (one-le-pow n 256 (omega arith)))

-- ---- a remote frame carries what code 0 stands for
pub carried-code : (remote : Bool) (code : ℕ) → data_bytes (cond remote 0 code) ≡ carried remote code
carried-code true code = refl
carried-code false code = refl

-- a number of four bytes, high byte first
module _ (x : ℕ) (h : x < 256 ^ 4) where
  top : x / 0x1000000 % 256 ≡ x / 0x1000000
  top = omega arith

  pub zero_four : eqb x 0 ≡ (eqb (x / 0x1000000 % 256) 0 && eqb (x / 0x10000 % 256) 0 && eqb (x / 0x100 % 256) 0 && eqb (x % 256) 0)
  zero_four = rw (top, ← zero_at x 2, ← zero_at x 1) (zero_low x)

  pub four : x / 0x1000000 % 256 * 0x1000000 + x / 0x10000 % 256 * 0x10000 + x / 0x100 % 256 * 0x100 + x % 256 ≡ x
  four = omega (arith, top, div-div-eq-div-mul x 256 256, div-div-eq-div-mul x 0x10000 256)

-- any kind but that of a frame has no more than two fields
pub two_fields : (k : Kind) (r : List ℕ) → (k ≡ FrameHeard → ⊥) → sound_as k r ≡ sound_by (Some k) r
two_fields SelectLow r n = refl
two_fields Exchange r n = refl
two_fields SelectHigh r n = refl
two_fields FrameHeard r n = absurd (n refl)
two_fields BusIdle r n = refl
two_fields FrameEnds r n = refl
two_fields ReceiveError r n = refl
two_fields Recovery r n = refl
two_fields PinLevel r n = refl
