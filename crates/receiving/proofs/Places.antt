-- A frame's bytes have its identifier bits at their places. Assumes nothing.
use mathlib.Core.Path.{◌≡◌, refl, ap, ◌∙◌}
use mathlib.Core.Bool.{Bool, true, false, cond}
use mathlib.Core.List.{List, [], ◌∷◌}
use Prim.Native.Nat.{ℕ, ◌+◌, ◌-◌, ◌*◌, ◌/◌, ◌%◌, ◌^◌, ◌<◌}
use native.Mathlib.Nat.{add_assoc}
use native.Mathlib.Omega.{arith}
use lib.Dec.{eqb, ltb}
use borrow.Author.Tests.{ltb-true, ltb-false}
use Rattle.bits.specs.Bit.{has_bit}
use Rattle.bits.proofs.Words.{bit_quotient, bit_remainder, bit_joined_low, bit_joined_high}
use Rattle.receiving.specs.Receiving.{standard_place, extended_place, identifier_place, bit_at, identifier_bytes, StoredAtPlaces}

-- w bits of a number from bit s on
field_bit : (x s w k : ℕ) → k < w → has_bit (x / 2 ^ s % 2 ^ w) k ≡ has_bit x (s + k)
field_bit x s w k h = ap (λ (d : ℕ). eqb d 1) (bit_remainder (x / 2 ^ s) w k h ∙ bit_quotient x s k)

-- eleven bits in SIDH and the upper SIDL
pub top_kept : (x low : ℕ) (rest : List ℕ) → low < 2 ^ 5 → (i : ℕ) → i < 11
    → bit_at (x / 8 % 256 ∷ (x % 8 * 32 + low) ∷ rest) 0 (standard_place i) ≡ has_bit x i
top_kept x low rest l i h = go (ltb i 3) refl
  where
    go : (b : Bool) → ltb i 3 ≡ b → bit_at (x / 8 % 256 ∷ (x % 8 * 32 + low) ∷ rest) 0 (standard_place i) ≡ has_bit x i
    go true e = rw e (ap (λ (d : ℕ). eqb d 1) (bit_joined_high (x % 8) low 5 l i ∙ bit_remainder x 3 i (ltb-true i 3 e)))
    go false e =
        let back : 3 + (i - 3) ≡ i = omega (arith, ltb-false i 3 e) in
        rw e (field_bit x 3 8 (i - 3) (omega arith) ∙ ap (has_bit x) back)

module _ (x : ℕ) where
  -- the bytes of an extended identifier
  abbrev pub sidl : ℕ
  sidl = x / 0x40000 % 8 * 32 + 8 + x / 0x10000 % 4

  abbrev pub extended_bytes : List ℕ
  extended_bytes = x / 0x200000 % 256 ∷ sidl ∷ x / 0x100 % 256 ∷ x % 256 ∷ []

  sidl_parts : sidl ≡ x / 0x40000 % 8 * 32 + (2 * 2 ^ 2 + x / 0x10000 % 4)
  sidl_parts = add_assoc (x / 0x40000 % 8 * 32) 8 (x / 0x10000 % 4)

  low_lt : 2 * 2 ^ 2 + x / 0x10000 % 4 < 2 ^ 5
  low_lt = omega arith

  lower : (k : ℕ) → k < 2 → has_bit sidl k ≡ has_bit x (16 + k)
  lower k h =
      rw sidl_parts
      (ap (λ (d : ℕ). eqb d 1)
      (bit_joined_low (x / 0x40000 % 8) (2 * 2 ^ 2 + x / 0x10000 % 4) 5 low_lt k (omega arith) ∙ bit_joined_low 2 (x / 0x10000 % 4) 2 (omega arith) k h)
      ∙ field_bit x 16 2 k h)

  upper : (i : ℕ) → i < 11 → bit_at extended_bytes 0 (standard_place i) ≡ has_bit x (18 + i)
  upper i h =
      let sidh : x / 0x200000 ≡ x / 0x40000 / 8 = omega arith in
      rw (sidh, sidl_parts)
      (top_kept (x / 0x40000) (2 * 2 ^ 2 + x / 0x10000 % 4) (x / 0x100 % 256 ∷ x % 256 ∷ []) low_lt i h ∙ ap (λ (d : ℕ). eqb d 1) (bit_quotient x 18 i))

  pub extended_kept : (i : ℕ) → i < 29 → bit_at extended_bytes 0 (extended_place i) ≡ has_bit x i
  extended_kept i h = go (ltb i 8) refl (ltb i 16) refl (ltb i 18) refl
    where
      go : (a : Bool) → ltb i 8 ≡ a → (b : Bool) → ltb i 16 ≡ b → (c : Bool) → ltb i 18 ≡ c → bit_at extended_bytes 0 (extended_place i) ≡ has_bit x i
      go true ea b eb c ec = rw ea (ap (λ (d : ℕ). eqb d 1) (bit_remainder x 8 i (ltb-true i 8 ea)))
      go false ea true eb c ec =
          let back : 8 + (i - 8) ≡ i = omega (arith, ltb-false i 8 ea) in
          rw (ea, eb) (field_bit x 8 8 (i - 8) (omega (arith, ltb-true i 16 eb)) ∙ ap (has_bit x) back)
      go false ea false eb true ec =
          let back : 16 + (i - 16) ≡ i = omega (arith, ltb-false i 16 eb) in
          rw (ea, eb, ec) (lower (i - 16) (omega (arith, ltb-true i 18 ec)) ∙ ap (has_bit x) back)
      go false ea false eb false ec =
          let back : 18 + (i - 18) ≡ i = omega (arith, ltb-false i 18 ec) in
          rw (ea, eb, ec) (upper (i - 18) (omega arith) ∙ ap (has_bit x) back)

pub remote_lt : (remote : Bool) → cond remote 16 0 < 2 ^ 5
remote_lt true = omega arith
remote_lt false = omega arith

pub stored_at_places : StoredAtPlaces
stored_at_places f i h = go f.extended refl
  where
    go : (b : Bool) → f.extended ≡ b → bit_at (identifier_bytes f) 0 (identifier_place f.extended i) ≡ has_bit f.identifier i
    go true e = rw e (extended_kept f.identifier i (rw e at h))
    go false e = rw e (top_kept f.identifier (cond f.remote 16 0) (0 ∷ 0 ∷ []) (remote_lt f.remote) i (rw e at h))
