-- What is stored from the start on, and behind something else. Assumes nothing.
use mathlib.Core.Path.{◌≡◌, ap, ◌∙◌}
use mathlib.Core.List.{List, [], ◌∷◌, ◌++◌}
use Prim.Native.Nat.{ℕ, suc, ◌+◌, ◌≤◌}
use native.Mathlib.Nat.{add-zero}
use native.Mathlib.Omega.{arith}
use lib.ListN.{length, drop, set}
use lib.Seq.{sets, sets-eq}

-- what is stored from the start on stands before what the list held past it
pub sets_first : (vs xs : List ℕ) → length vs ≤ length xs → sets xs 0 vs ≡ vs ++ drop (length vs) xs
sets_first vs xs fits =
    let end : 0 + length vs ≡ length vs = omega arith in
    sets-eq vs xs 0 (omega arith) ∙ ap (λ (k : ℕ). vs ++ drop k xs) end

-- bytes are stored, and others behind them
pub sets_append : (u v l : List ℕ) (at : ℕ) → sets (sets l at u) (at + length u) v ≡ sets l at (u ++ v)
sets_append [] v l at = rw add-zero
sets_append (x ∷ u) v l at =
    let next : at + suc (length u) ≡ suc at + length u = omega arith in
    rw next (sets_append u v (set l at x) (suc at))
