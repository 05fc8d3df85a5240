-- Records one after the other, and their bytes in a room. Assumes nothing.
use mathlib.Core.Path.{◌≡◌, refl, sym, ◌∙◌}
use mathlib.Core.List.{List, [], ◌∷◌, ◌++◌, append_assoc}
use Prim.Native.Nat.{ℕ, ◌+◌, ◌*◌}
use native.Mathlib.Omega.{arith}
use lib.ListN.{length, length-append}
use lib.Seq.{sets}
use Rattle.bus_log.proofs.Copy.{sets_append}
use Rattle.profile_loader.specs.Gaps.{log_of}

log_append : (a b : List (List ℕ)) → log_of (a ++ b) ≡ log_of a ++ log_of b
unfolding log_of
log_append [] b = refl
log_append (r ∷ a) b = rw (log_append a b) (sym (append_assoc r (log_of a) (log_of b)))

-- ---- records of 16 bytes
pub put_next : (room r : List ℕ) (at : ℕ) (rs : List (List ℕ)) → length r ≡ 16 → sets (sets room at r) (at + 16) (log_of rs) ≡ sets room at (log_of (r ∷ rs))
unfolding log_of
put_next room r at rs e = rw (← e) (sets_append r (log_of rs) room at)

abbrev pub Sized : List (List ℕ) → Type 0
Sized rs = length (log_of rs) ≡ 16 * length rs

pub sized_none : Sized []
unfolding log_of
sized_none = refl

pub sized_cons : (r : List ℕ) (rs : List (List ℕ)) → length r ≡ 16 → Sized rs → Sized (r ∷ rs)
unfolding log_of
sized_cons r rs e h = length-append r (log_of rs) ∙ omega arith

pub sized_append : (a b : List (List ℕ)) → Sized a → Sized b → Sized (a ++ b)
sized_append a b p q = rw (log_append a b, length-append (log_of a) (log_of b), length-append a b) (omega arith)

-- they are put down, and others behind them
pub put_append : (room : List ℕ) (at : ℕ) (a b : List (List ℕ)) → Sized a
    → sets (sets room at (log_of a)) (at + 16 * length a) (log_of b) ≡ sets room at (log_of (a ++ b))
put_append room at a b e = rw (log_append a b, ← e) (sets_append (log_of a) (log_of b) room at)
