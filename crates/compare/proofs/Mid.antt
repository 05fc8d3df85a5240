use Rattle.std.proofs.Common.{ℕ, ◌≡◌, ◌≤◌, ◌+◌, List, ◌++◌, length, take, drop, ◌∙◌, append_assoc}
use Rattle.std.proofs.lemmas.List.Edits.{sets, sets-eq}
use lib.Seq.{drop-drop}

-- a list with ys in the place of so many elements from a on
pub sets_mid : (xs ys : List ℕ) (a : ℕ) → a + length ys ≤ length xs → sets xs a ys ≡ take a xs ++ (ys ++ drop (length ys) (drop a xs))
sets_mid xs ys a h = sets-eq ys xs a h ∙ rw (drop-drop (length ys) a xs) (append_assoc (take a xs) ys (drop (a + length ys) xs))
