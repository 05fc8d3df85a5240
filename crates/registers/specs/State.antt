-- The state that the rules carry from step to step, without the SPI side: names of bits, numbers of the enums, and one setter for each part.
use Rattle.std.specs.Prelude.{ℕ, Bool, true, false, List, cond, eqb, get_or, set, ◌≡◌, Option, Some, None, Result, Ok, Err}
use Rattle.bits.specs.Bit.{has_bit}
use Rattle.registers.specs.declared.Mode.{Mode}
use Rattle.registers.specs.declared.Mode.TheVariants.{Normal, Sleep, Loopback, ListenOnly, Configuration}
use Rattle.registers.specs.declared.TxBuffer.{TxBuffer}
use Rattle.registers.specs.declared.TxBuffer.TheVariants.{Txb0, Txb1, Txb2}
use Rattle.registers.specs.declared.RxBuffer.{RxBuffer}
use Rattle.registers.specs.declared.RxBuffer.TheVariants.{Rxb0, Rxb1}
use Rattle.registers.specs.declared.UnknownNumber.{UnknownNumber}
use Rattle.registers.specs.declared.State.{State}
use Rattle.registers.specs.declared.Flags.{Flags}
use Rattle.registers.specs.declared.TxControl.{TxControl}
use Rattle.registers.specs.declared.RxControl.{RxControl}
use Rattle.registers.specs.declared.Counters.{Counters}
use Rattle.registers.specs.declared.Control.{Control}
use Rattle.registers.specs.declared.Pins.{Pins}
use Rattle.registers.specs.declared.Core.{Core}

-- ---- bit numbers by the data sheet's names
-- CANINTF and CANINTE
abbrev pub rx0if_bit : ℕ
rx0if_bit = 0

abbrev pub rx1if_bit : ℕ
rx1if_bit = 1

abbrev pub tx0if_bit : ℕ
tx0if_bit = 2

abbrev pub tx1if_bit : ℕ
tx1if_bit = 3

abbrev pub tx2if_bit : ℕ
tx2if_bit = 4

abbrev pub errif_bit : ℕ
errif_bit = 5

abbrev pub wakif_bit : ℕ
wakif_bit = 6

abbrev pub merrf_bit : ℕ
merrf_bit = 7

-- CANCTRL
abbrev pub osm_bit : ℕ
osm_bit = 3

abbrev pub abat_bit : ℕ
abat_bit = 4

-- SIDL of a filter or a message to send, and DLC of one
abbrev pub exide_bit : ℕ
exide_bit = 3

abbrev pub rtr_bit : ℕ
rtr_bit = 6

-- TXBnCTRL
abbrev pub txreq_bit : ℕ
txreq_bit = 3

abbrev pub txerr_bit : ℕ
txerr_bit = 4

abbrev pub mloa_bit : ℕ
mloa_bit = 5

abbrev pub abtf_bit : ℕ
abtf_bit = 6

-- RXB0CTRL and RXBnCTRL
abbrev pub bukt1_bit : ℕ
bukt1_bit = 1

abbrev pub bukt_bit : ℕ
bukt_bit = 2

abbrev pub rxrtr_bit : ℕ
rxrtr_bit = 3

-- ---- modes by their number in CANSTAT and CANCTRL bits 7-5
abbrev pub mode_number : Mode → ℕ
mode_number Normal = 0
mode_number Sleep = 1
mode_number Loopback = 2
mode_number ListenOnly = 3
mode_number Configuration = 4

abbrev pub is_configuration : Mode → Bool
is_configuration Normal = false
is_configuration Sleep = false
is_configuration Loopback = false
is_configuration ListenOnly = false
is_configuration Configuration = true

abbrev pub is_normal : Mode → Bool
is_normal Normal = true
is_normal Sleep = false
is_normal Loopback = false
is_normal ListenOnly = false
is_normal Configuration = false

abbrev pub is_loopback : Mode → Bool
is_loopback Normal = false
is_loopback Sleep = false
is_loopback Loopback = true
is_loopback ListenOnly = false
is_loopback Configuration = false

-- ---- buffers by their number
abbrev pub tx_number : TxBuffer → ℕ
tx_number Txb0 = 0
tx_number Txb1 = 1
tx_number Txb2 = 2

-- the buffer of a number; a number from 3 on has none
abbrev pub tx_by : ℕ → Option TxBuffer
tx_by n =
    cond (eqb n 0) (Some Txb0)
    (cond (eqb n 1) (Some Txb1)
    (cond (eqb n 2) (Some Txb2) None))

abbrev pub known_or : {A : Type 0} → ℕ → Option A → Result A UnknownNumber
known_or n (Some a) = Ok a
known_or n None = Err (record { 0 = n })

abbrev pub TxBy : ℕ → Result TxBuffer UnknownNumber → Type 0
TxBy n r = r ≡ known_or n (tx_by n)

abbrev pub tx_flag : TxBuffer → ℕ
tx_flag Txb0 = tx0if_bit
tx_flag Txb1 = tx1if_bit
tx_flag Txb2 = tx2if_bit

abbrev pub rx_flag : RxBuffer → ℕ
rx_flag Rxb0 = rx0if_bit
rx_flag Rxb1 = rx1if_bit

-- ---- what is in flight
abbrev pub is_idle : Option TxBuffer → Bool
is_idle None = true
is_idle (Some b) = false

abbrev pub same_tx : TxBuffer → TxBuffer → Bool
same_tx a b = eqb (tx_number a) (tx_number b)

abbrev pub in_flight : Option TxBuffer → TxBuffer → Bool
in_flight None b = false
in_flight (Some a) b = same_tx a b

-- ---- TXBnCTRL of a buffer
abbrev pub tx_control : TxControl → TxBuffer → ℕ
tx_control t Txb0 = t.txb0
tx_control t Txb1 = t.txb1
tx_control t Txb2 = t.txb2

abbrev pub with_tx_control : TxControl → TxBuffer → ℕ → TxControl
with_tx_control t Txb0 v = record { txb0 = v; txb1 = t.txb1; txb2 = t.txb2 }
with_tx_control t Txb1 v = record { txb0 = t.txb0; txb1 = v; txb2 = t.txb2 }
with_tx_control t Txb2 v = record { txb0 = t.txb0; txb1 = t.txb1; txb2 = v }

-- ---- the level of a buffer's request pin: TXnRTS for TXBn, true for high
abbrev pub level_of : Pins → TxBuffer → Bool
level_of p Txb0 = p.tx0rts
level_of p Txb1 = p.tx1rts
level_of p Txb2 = p.tx2rts

abbrev pub with_level : Pins → TxBuffer → Bool → Pins
with_level p Txb0 v = record { tx0rts = v; tx1rts = p.tx1rts; tx2rts = p.tx2rts }
with_level p Txb1 v = record { tx0rts = p.tx0rts; tx1rts = v; tx2rts = p.tx2rts }
with_level p Txb2 v = record { tx0rts = p.tx0rts; tx1rts = p.tx1rts; tx2rts = v }

-- the bit of RTS that names a buffer alone
abbrev pub rts_bit : TxBuffer → ℕ
rts_bit Txb0 = 1
rts_bit Txb1 = 2
rts_bit Txb2 = 4

-- ---- one part of the control registers, the rest as it was
abbrev pub with_flags : Control → Flags → Control
with_flags c f = record { flags = f; tx = c.tx; rx = c.rx; counters = c.counters; state = c.state }

abbrev pub with_tx : Control → TxControl → Control
with_tx c t = record { flags = c.flags; tx = t; rx = c.rx; counters = c.counters; state = c.state }

abbrev pub with_rx : Control → RxControl → Control
with_rx c r = record { flags = c.flags; tx = c.tx; rx = r; counters = c.counters; state = c.state }

abbrev pub with_counters : Control → Counters → Control
with_counters c n = record { flags = c.flags; tx = c.tx; rx = c.rx; counters = n; state = c.state }

abbrev pub with_state : Control → State → Control
with_state c s = record { flags = c.flags; tx = c.tx; rx = c.rx; counters = c.counters; state = s }

abbrev pub with_canctrl : Control → ℕ → Control
with_canctrl c v = with_flags c (record { canctrl = v; caninte = c.flags.caninte; canintf = c.flags.canintf; eflg = c.flags.eflg })

abbrev pub with_caninte : Control → ℕ → Control
with_caninte c v = with_flags c (record { canctrl = c.flags.canctrl; caninte = v; canintf = c.flags.canintf; eflg = c.flags.eflg })

abbrev pub with_canintf : Control → ℕ → Control
with_canintf c v = with_flags c (record { canctrl = c.flags.canctrl; caninte = c.flags.caninte; canintf = v; eflg = c.flags.eflg })

abbrev pub with_eflg : Control → ℕ → Control
with_eflg c v = with_flags c (record { canctrl = c.flags.canctrl; caninte = c.flags.caninte; canintf = c.flags.canintf; eflg = v })

abbrev pub with_mode : Control → Mode → Control
with_mode c m = with_state c (record { mode = m; flight = c.state.flight; request = c.state.request })

abbrev pub with_flight : Control → Option TxBuffer → Control
with_flight c f = with_state c (record { mode = c.state.mode; flight = f; request = c.state.request })

abbrev pub with_request : Control → Option Mode → Control
with_request c q = with_state c (record { mode = c.state.mode; flight = c.state.flight; request = q })

-- ---- one part of the core
abbrev pub with_control : Core → Control → Core
with_control k c = record { control = c; config = k.config; tx = k.tx; rx = k.rx; pins = k.pins }

abbrev pub with_config : Core → List ℕ → Core
with_config k l = record { control = k.control; config = l; tx = k.tx; rx = k.rx; pins = k.pins }

abbrev pub with_tx_bytes : Core → List ℕ → Core
with_tx_bytes k l = record { control = k.control; config = k.config; tx = l; rx = k.rx; pins = k.pins }

abbrev pub with_rx_bytes : Core → List ℕ → Core
with_rx_bytes k l = record { control = k.control; config = k.config; tx = k.tx; rx = l; pins = k.pins }

abbrev pub with_pins : Core → Pins → Core
with_pins k p = record { control = k.control; config = k.config; tx = k.tx; rx = k.rx; pins = p }

-- ---- a list of bytes with the one at an index passed through f
abbrev pub updated : List ℕ → ℕ → (ℕ → ℕ) → List ℕ
updated l i f = set l i (f (get_or l i 0))

-- ---- ABAT stands in CANCTRL
abbrev pub aborts_all : Control → Bool
aborts_all c = has_bit c.flags.canctrl abat_bit
