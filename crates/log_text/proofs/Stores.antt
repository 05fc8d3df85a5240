-- A text stored in a buffer, and another after it. Assumes nothing.
use mathlib.Core.Path.{refl, ◌∙◌}
use mathlib.Core.List.{List, [], ◌++◌}
use Prim.Native.Nat.{ℕ}
use native.Mathlib.Omega.{arith}
use lib.ListN.{length-append}
use Rattle.bus_log.proofs.Copy.{sets_append}
use Rattle.log_text.specs.Storing.{Stored}

pub then_stored : {l m o u v : List ℕ} {at p q : ℕ} → Stored l at u m p → Stored m p v o q → Stored l at (u ++ v) o q
then_stored {l} {m} {o} {u} {v} {at} {p} {q} a b =
    record {
      buffer = b.buffer ∙ rw (a.buffer, a.place) (sets_append u v l at);
      place = omega (arith, a.place, b.place, length-append u v);
    }

pub none_stored : (l : List ℕ) (at : ℕ) → Stored l at [] l at
none_stored l at = record { buffer = refl; place = omega arith }
