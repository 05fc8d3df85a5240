-- A chip that a C program holds: bytes that it lends to a call, and finds changed after it. Assumes nothing: these are definitions.
use Rattle.std.specs.Prelude.{◌≡◌, true, cond, List, ℕ, drop}
use Rattle.image.specs.Image.{is_chip}
use Rattle.mcp2515.specs.declared.Chip.{Chip}
use Rattle.mcp2515.specs.ChipImage.{chip_of}

-- the refusal of bytes that are no chip
abbrev pub chip_refusal : ℕ
chip_refusal = 21

-- the refusal of a call that is lent a chip: bytes that are no chip come first, then what else it refuses
unfoldable pub held_refusal : List ℕ → ℕ → ℕ
held_refusal m refusal = cond (is_chip m) refusal chip_refusal

-- what a call leaves of the bytes m that it is lent: refused, the same bytes; else a chip again, which is c
pub record Held (refusal : ℕ) (m n : List ℕ) (c : Chip) : Type 0 where
  pub refused : (refusal ≡ 0 → ⊥) → n ≡ m
  pub again : refusal ≡ 0 → is_chip n ≡ true
  pub chip : refusal ≡ 0 → chip_of n ≡ c
  -- behind the select line nothing changes: the spare bytes and the version
  pub spare : drop 150 n ≡ drop 150 m
