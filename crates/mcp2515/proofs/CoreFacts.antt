-- What demand 3 needs to know of the core. Assumes nothing.
use mathlib.Core.Bool.{Bool, true, false}
use mathlib.Core.List.{List}
use mathlib.Core.Path.{◌≡◌}
use Prim.Native.Nat.{ℕ, ◌+◌, ◌≤◌}
use Rattle.registers.specs.declared.RxBuffer.{RxBuffer}
use Rattle.registers.specs.declared.RxBuffer.TheVariants.{Rxb0, Rxb1}
use Rattle.registers.specs.declared.TxBuffer.{TxBuffer}
use Rattle.registers.specs.declared.TxBuffer.TheVariants.{Txb0, Txb1, Txb2}
use Rattle.registers.specs.declared.Core.{Core}
use Rattle.registers.specs.State.{level_of}
use Rattle.registers.specs.Registers.{power_on_core, reads}
use Rattle.controller.specs.Events.{settled_core, falls_enabled, event_of}
use Rattle.spi.specs.declared.Act.{Act}
use Rattle.spi.specs.declared.Act.TheVariants.{Store}
use Rattle.spi.specs.Instructions.{acted}
use Rattle.receiving.specs.Receiving.{is_full}
use Rattle.mcp2515.specs.Moments.{is_free}

-- The invariant of reached chips: no mode request can be carried out.
abbrev pub Good : Core → Type 0
Good k = settled_core k ≡ k

-- The control byte's address of each buffer.
abbrev pub rx_base : RxBuffer → ℕ
rx_base Rxb0 = 0x60
rx_base Rxb1 = 0x70

abbrev pub tx_base : TxBuffer → ℕ
tx_base Txb0 = 0x30
tx_base Txb1 = 0x40
tx_base Txb2 = 0x50

-- The identifier, length and data bytes of a receive buffer, and of a transmit buffer.
pub record RxByte (b : RxBuffer) (a : ℕ) : Type 0 where
  pub from : rx_base b + 1 ≤ a
  pub to : a ≤ rx_base b + 13

pub record TxByte (b : TxBuffer) (a : ℕ) : Type 0 where
  pub from : tx_base b + 1 ≤ a
  pub to : a ≤ tx_base b + 13

-- The event asks for the buffer: it is a fall of the buffer's enabled pin.
abbrev pub asks : Core → List ℕ → TxBuffer → Bool
asks k r b = falls_enabled k b (level_of (event_of k r).core.pins b)

pub record CoreFacts : Type 0 where
  pub good_power : Good power_on_core
  pub good_acted : (a : Act) (k : Core) → Good k → Good (acted a k)
  pub good_event : (k : Core) (r : List ℕ) → Good k → Good (event_of k r).core
  -- no event empties a receive buffer, only a pin asks for sending, and none changes a full buffer's bytes
  pub full_event : (k : Core) (r : List ℕ) (b : RxBuffer) → is_full k.control b ≡ true → is_full (event_of k r).core.control b ≡ true
  pub free_event : (k : Core) (r : List ℕ) (b : TxBuffer) → asks k r b ≡ false → is_free k b ≡ true → is_free (event_of k r).core b ≡ true
  pub fetch_event : (k : Core) (r : List ℕ) (b : RxBuffer) (a : ℕ) → is_full k.control b ≡ true → RxByte b a → reads (event_of k r).core a ≡ reads k a
  -- no event looks at the bytes of a free transmit buffer
  pub store_free : (k : Core) (b : TxBuffer) (a v : ℕ) → Good k → is_free k b ≡ true → TxByte b a → is_free (acted (Store a v) k) b ≡ true
  pub store_refusal : (k : Core) (r : List ℕ) (b : TxBuffer) (a v : ℕ) → Good k → is_free k b ≡ true → TxByte b a
      → (event_of (acted (Store a v) k) r).refusal ≡ (event_of k r).refusal
  pub store_answer : (k : Core) (r : List ℕ) (b : TxBuffer) (a v : ℕ) → Good k → is_free k b ≡ true → TxByte b a
      → (event_of (acted (Store a v) k) r).answer ≡ (event_of k r).answer
  pub store_set : (k : Core) (r : List ℕ) (b : TxBuffer) (a v : ℕ) → Good k → is_free k b ≡ true → TxByte b a
      → (event_of (acted (Store a v) k) r).matched ≡ (event_of k r).matched
  pub store_asks : (k : Core) (r : List ℕ) (b : TxBuffer) (a v : ℕ) → Good k → is_free k b ≡ true → TxByte b a
      → asks (acted (Store a v) k) r b ≡ asks k r b
  pub store_event : (k : Core) (r : List ℕ) (b : TxBuffer) (a v : ℕ) → Good k → is_free k b ≡ true → TxByte b a → asks k r b ≡ false
      → (event_of (acted (Store a v) k) r).core ≡ acted (Store a v) (event_of k r).core
