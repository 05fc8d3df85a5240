-- The addresses of each region. Assumes nothing.
use mathlib.Core.Path.{◌≡◌}
use mathlib.Core.Bool.{Bool, true, ◌&&◌}
use Prim.Native.Nat.{ℕ, ◌<◌}
use lib.Dec.{T, eqb, ltb, ltb→lt}
use Rattle.bits.proofs.All.{every, and_left, and_right}
use Rattle.registers.specs.declared.Region.{Region}
use Rattle.registers.specs.declared.Region.TheVariants.{Filters, Masks, Configured, Bfpctrl, Txrtsctrl, Tec, Rec, Caninte, Canintf, Eflg, Canstat, Canctrl, TxCtrl, TxMessage, RxCtrl, RxMessage}
use Rattle.registers.specs.Registers.{region_of}

abbrev within : Region → ℕ → Bool
within Filters a = ltb a 48
within Masks a = ltb a 48
within Configured a = ltb a 48
within Bfpctrl a = ltb a 48
within Txrtsctrl a = eqb a 0x0D
within Tec a = true
within Rec a = true
within Caninte a = true
within Canintf a = true
within Eflg a = true
within Canstat a = true
within Canctrl a = true
within (TxCtrl b) a = true
within (TxMessage b) a = ltb 47 a && ltb a 96
within (RxCtrl b) a = true
within RxMessage a = ltb 95 a

inside : (a : ℕ) → a < 128 → T (within (region_of a) a)
unfolding region_of
inside a h = every (λ a. within (region_of a) a) 128 tt a h

pub inside_of : (a : ℕ) (g : Region) → a < 128 → region_of a ≡ g → T (within g a)
inside_of a g h e = rw e at (inside a h)

pub message_above : (a : ℕ) → T (ltb 47 a && ltb a 96) → 47 < a
message_above a t = ltb→lt 47 a (and_left (ltb 47 a) (ltb a 96) t)

pub message_below : (a : ℕ) → T (ltb 47 a && ltb a 96) → a < 96
message_below a t = ltb→lt a 96 (and_right (ltb 47 a) (ltb a 96) t)
