use mathlib.Core.List.{List, [], ◌∷◌}
use mathlib.Core.Bool.{Bool}
use Prim.Native.Nat.{ℕ}
use lib.Dec.{eqb, eqb→eq}
use lib.ListN.{get_or}
use Rattle.bits.proofs.Table.{entry}
use Rattle.registers.specs.Registers.{region_of, writable_of}
use borrow.Author.Rules.{rules}
use Rattle.stores.proofs.control.mask_at.Goals as goal

masks : List ℕ
masks =
    255 ∷ 235 ∷ 255 ∷ 255 ∷ 255 ∷ 235 ∷ 255 ∷ 255 ∷ 255 ∷ 235 ∷ 255 ∷ 255 ∷ 63 ∷ 7 ∷ 0 ∷ 255 ∷
    255 ∷ 235 ∷ 255 ∷ 255 ∷ 255 ∷ 235 ∷ 255 ∷ 255 ∷ 255 ∷ 235 ∷ 255 ∷ 255 ∷ 0 ∷ 0 ∷ 0 ∷ 255 ∷
    255 ∷ 227 ∷ 255 ∷ 255 ∷ 255 ∷ 227 ∷ 255 ∷ 255 ∷ 199 ∷ 255 ∷ 255 ∷ 255 ∷ 255 ∷ 192 ∷ 0 ∷ 255 ∷
    11 ∷ 255 ∷ 235 ∷ 255 ∷ 255 ∷ 79 ∷ 255 ∷ 255 ∷ 255 ∷ 255 ∷ 255 ∷ 255 ∷ 255 ∷ 255 ∷ 0 ∷ 255 ∷
    11 ∷ 255 ∷ 235 ∷ 255 ∷ 255 ∷ 79 ∷ 255 ∷ 255 ∷ 255 ∷ 255 ∷ 255 ∷ 255 ∷ 255 ∷ 255 ∷ 0 ∷ 255 ∷
    11 ∷ 255 ∷ 235 ∷ 255 ∷ 255 ∷ 79 ∷ 255 ∷ 255 ∷ 255 ∷ 255 ∷ 255 ∷ 255 ∷ 255 ∷ 255 ∷ 0 ∷ 255 ∷
    100 ∷ 0 ∷ 0 ∷ 0 ∷ 0 ∷ 0 ∷ 0 ∷ 0 ∷ 0 ∷ 0 ∷ 0 ∷ 0 ∷ 0 ∷ 0 ∷ 0 ∷ 255 ∷
    96 ∷ 0 ∷ 0 ∷ 0 ∷ 0 ∷ 0 ∷ 0 ∷ 0 ∷ 0 ∷ 0 ∷ 0 ∷ 0 ∷ 0 ∷ 0 ∷ 0 ∷ 255 ∷ []

right : ℕ → ℕ → Bool
right a m = eqb m (writable_of a)

pub returns : goal.returns
unfolding masks right region_of writable_of
returns c = eqb→eq (get_or masks c.args.at 0) (writable_of c.args.at) (entry right masks tt c.args.at (search rules))
