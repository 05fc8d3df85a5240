-- Where the bytes of the buffers lie. Assumes nothing.
use mathlib.Core.Bool.{cond}
use mathlib.Core.Path.{◌≡◌, refl}
use Prim.Native.Nat.{ℕ, ◌+◌, ◌*◌, ◌%◌, ◌≤◌, ◌<◌}
use native.Mathlib.Omega.{arith}
use lib.Dec.{ltb}
use lib.ListN.{get_or}
use borrow.Author.Tests.{lt-ltb, le-ltb, ne_eqb}
use Rattle.registers.specs.declared.RxBuffer.{RxBuffer}
use Rattle.registers.specs.declared.RxBuffer.TheVariants.{Rxb0, Rxb1}
use Rattle.registers.specs.declared.TxBuffer.{TxBuffer}
use Rattle.registers.specs.declared.TxBuffer.TheVariants.{Txb0, Txb1, Txb2}
use Rattle.registers.specs.declared.Region.TheVariants.{TxMessage, RxMessage}
use Rattle.registers.specs.declared.Core.{Core}
use Rattle.registers.specs.State.{tx_number}
use Rattle.registers.specs.Registers.{tx_at, region_of, holds, reads}
use Rattle.image.proofs.Laws.{tx_below}
use Rattle.mcp2515.proofs.CoreFacts.{RxByte, tx_base, TxByte}

-- from 30h on, what is no control byte, CANSTAT or CANCTRL is a byte of a message
message_region : (a : ℕ) → 0x30 ≤ a → a < 0x80 → 0 < a % 16 → a % 16 < 14 → region_of (a % 128) ≡ cond (ltb a 0x60) (TxMessage (tx_at a)) RxMessage
unfolding region_of
message_region a lo hi p q =
    let e : a % 128 ≡ a = omega arith in
    rw (e, ne_eqb (a % 16) 14 (λ z. omega arith), ne_eqb (a % 16) 15 (λ z. omega arith), ne_eqb (a % 16) 0 (λ z. omega arith), le-ltb a 0x20 (omega arith), le-ltb a 0x30 lo)

-- ---- transmit buffers
pub base_number : (b : TxBuffer) → tx_base b ≡ 48 + 16 * tx_number b
base_number Txb0 = refl
base_number Txb1 = refl
base_number Txb2 = refl

buffer_at : (b : TxBuffer) (a : ℕ) → TxByte b a → tx_at a ≡ b
buffer_at Txb0 a t = rw (lt-ltb a 0x40 (omega (arith, t.to)))
buffer_at Txb1 a t = rw (le-ltb a 0x40 (omega (arith, t.from)), lt-ltb a 0x50 (omega (arith, t.to)))
buffer_at Txb2 a t = rw (le-ltb a 0x40 (omega (arith, t.from)), le-ltb a 0x50 (omega (arith, t.from)))

tx_row : (b : TxBuffer) (a : ℕ) → TxByte b a → (0x30 ≤ a) × (a < 0x60) × (0 < a % 16) × (a % 16 < 14)
tx_row b a t = omega (arith, base_number b, tx_below b, t.from, t.to)

pub tx_region : (b : TxBuffer) (a : ℕ) → TxByte b a → region_of (a % 128) ≡ TxMessage b
tx_region b a t =
    let w = tx_row b a t in
    rw (message_region a w.0 (omega arith) w.2 w.3, lt-ltb a 0x60 w.1, buffer_at b a t)

-- ---- receive buffers
rx_row : (b : RxBuffer) (a : ℕ) → RxByte b a → (0x60 ≤ a) × (a < 0x80) × (0 < a % 16) × (a % 16 < 14)
rx_row Rxb0 a t = omega (arith, t.from, t.to)
rx_row Rxb1 a t = omega (arith, t.from, t.to)

pub rx-reads : (k : Core) (b : RxBuffer) (a : ℕ) → RxByte b a → reads k a ≡ get_or k.rx (a % 32) 0
unfolding reads holds
rx-reads k b a t =
    let w = rx_row b a t in
    let e : a % 128 % 32 ≡ a % 32 = omega arith in
    rw (message_region a (omega arith) w.1 w.2 w.3, le-ltb a 0x60 w.0, e)
