-- The chip as bytes at fixed places: 00h to 7Fh at their addresses, behind them the control registers, one to a byte and TEC in two, the
-- levels of the request pins, then the select line. Any bytes of this length stand for a core: a decoder has an answer for every byte.
use Rattle.std.specs.Prelude.{ℕ, ◌+◌, ◌*◌, ◌/◌, ◌%◌, Bool, true, false, cond, not, ◌&&◌, ◌≡◌, List, [], ◌∷◌, ◌++◌, eqb, length, get_or, take, drop, replicate, Option, Some, None, IfSome}
use Rattle.std.specs.Borrow.{LendsIf, Bor, MutBor, Fml, Array, u8}
use Rattle.registers.specs.declared.Mode.{Mode}
use Rattle.registers.specs.declared.Mode.TheVariants.{Normal, Sleep, Loopback, ListenOnly, Configuration}
use Rattle.registers.specs.declared.TxBuffer.{TxBuffer}
use Rattle.registers.specs.declared.Control.{Control}
use Rattle.registers.specs.declared.Pins.{Pins}
use Rattle.registers.specs.declared.Core.{Core}
use Rattle.registers.specs.declared.Region.{Region}
use Rattle.registers.specs.declared.Region.TheVariants.{Filters, Masks, Configured, Bfpctrl, Txrtsctrl, Tec, Rec, Caninte, Canintf, Eflg, Canstat, Canctrl, TxCtrl, TxMessage, RxCtrl, RxMessage}
use Rattle.registers.specs.State.{mode_number, tx_number, tx_by, rx_flag}
use Rattle.registers.specs.Registers.{region_of, first_control}
use Rattle.registers.specs.Modes.{requested}

-- the bytes of an image; those past the select line are spare
abbrev pub image_size : ℕ
image_size = 152

-- where the level of TX0RTS lies, with those of TX1RTS and TX2RTS behind it
abbrev pub pins_at : ℕ
pins_at = 143

-- where the select line lies: the open instruction, its address, its mask and who selected
abbrev pub select_at : ℕ
select_at = 146

-- where the version lies that a chip bears which a C program holds, and the version of this layout
abbrev pub version_at : ℕ
version_at = 151

abbrev pub version : ℕ
version = 3

-- bytes are a chip where they are an image of this version
unfoldable pub is_chip : List ℕ → Bool
is_chip m = eqb (length m) image_size && eqb (get_or m version_at 0) version

-- bytes lent as a chip, and what is written to it then stands in them; the chip that is read or changed has the bytes that it had before
abbrev pub LendsChip : MutBor (List ℕ) → Option (MutBor (List ℕ)) → Fml
LendsChip s r = LendsIf (Array u8 0) (Array u8 0) s r (λ ws. ws) s.now

abbrev pub HoldsChip : List ℕ → Option (MutBor (List ℕ)) → Type 0
HoldsChip m r = IfSome r (λ y. y.now ≡ m)

abbrev pub ReadsChip : List ℕ → Option (Bor (List ℕ)) → Type 0
ReadsChip m r = IfSome r (λ y. y.now ≡ m)

-- ---- the enums in a byte: modes by their number, a flight by its buffer or 3, a request by its mode or 7; each larger byte means the last
abbrev pub mode_of : ℕ → Mode
mode_of n =
    cond (eqb n 0) Normal
    (cond (eqb n 1) Sleep
    (cond (eqb n 2) Loopback
    (cond (eqb n 3) ListenOnly Configuration)))

abbrev pub flight_of : ℕ → Option TxBuffer
flight_of n = tx_by n

abbrev pub flight_number : Option TxBuffer → ℕ
flight_number None = 3
flight_number (Some b) = tx_number b

abbrev pub request_number : Option Mode → ℕ
request_number None = 7
request_number (Some m) = mode_number m

-- ---- the control registers that the bytes from 128 on stand for, b i being byte i
unfoldable pub decoded : (ℕ → ℕ) → Control
decoded b =
    record {
      flags = record { canctrl = b 128; caninte = b 129; canintf = b 130; eflg = b 131 };
      tx = record { txb0 = b 132; txb1 = b 133; txb2 = b 134 };
      rx = record { rxb0 = b 135; rxb1 = b 136 };
      counters = record { tec = b 137 + b 139 * 256; rec = b 138 };
      state = record { mode = mode_of (b 140); flight = flight_of (b 141); request = requested (b 142) };
    }

abbrev pub control_of : List ℕ → Control
control_of m = decoded (λ i. get_or m i 0)

-- the bytes of control registers, in the same order
unfoldable pub encoded : Control → List ℕ
encoded c =
    c.flags.canctrl ∷ c.flags.caninte ∷ c.flags.canintf ∷ c.flags.eflg
    ∷ c.tx.txb0 ∷ c.tx.txb1 ∷ c.tx.txb2
    ∷ c.rx.rxb0 ∷ c.rx.rxb1
    ∷ c.counters.tec % 256 ∷ c.counters.rec ∷ c.counters.tec / 256
    ∷ mode_number c.state.mode ∷ flight_number c.state.flight ∷ request_number c.state.request ∷ []

-- ---- the levels of the pins: a byte is 0 for low, any other for high
abbrev pub pins_by : ℕ → ℕ → ℕ → Pins
pins_by x y z = record { tx0rts = not (eqb x 0); tx1rts = not (eqb y 0); tx2rts = not (eqb z 0) }

abbrev pub pins_of : List ℕ → Pins
pins_of m = pins_by (get_or m 143 0) (get_or m 144 0) (get_or m 145 0)

abbrev pub level_byte : Bool → ℕ
level_byte high = cond high 1 0

-- ---- the bytes at power-on: zeros for 00h to 7Fh, the control registers, the pins high, the select line high and the spare bytes 0,
-- the version
unfoldable pub power_on_bytes : List ℕ
power_on_bytes = replicate 128 0 ++ (encoded first_control ++ (replicate 3 1 ++ (replicate 5 0 ++ (version ∷ []))))

-- ---- the core that an image stands for
abbrev pub core_of : List ℕ → Core
core_of m = record { control = control_of m; config = take 48 m; tx = take 48 (drop 48 m); rx = take 32 (drop 96 m); pins = pins_of m }

-- ---- where the byte of an address lies; CANSTAT, EFLG, TEC and TXRTSCTRL have none that is read as it stands
abbrev pub is_derived : Region → Bool
is_derived Filters = false
is_derived Masks = false
is_derived Configured = false
is_derived Bfpctrl = false
is_derived Txrtsctrl = true
is_derived Tec = true
is_derived Rec = false
is_derived Caninte = false
is_derived Canintf = false
is_derived Eflg = true
is_derived Canstat = true
is_derived Canctrl = false
is_derived (TxCtrl b) = false
is_derived (TxMessage b) = false
is_derived (RxCtrl b) = false
is_derived RxMessage = false

abbrev pub place_in : Region → ℕ → ℕ
place_in Filters a = a
place_in Masks a = a
place_in Configured a = a
place_in Bfpctrl a = a
place_in Txrtsctrl a = a
place_in Tec a = 137
place_in Rec a = 138
place_in Caninte a = 129
place_in Canintf a = 130
place_in Eflg a = 131
place_in Canstat a = a
place_in Canctrl a = 128
place_in (TxCtrl b) a = 132 + tx_number b
place_in (TxMessage b) a = a
place_in (RxCtrl b) a = 135 + rx_flag b
place_in RxMessage a = a

unfoldable pub place_of : ℕ → ℕ
place_of a = place_in (region_of (a % 128)) (a % 128)

-- ---- an image m changed into n: n stands for the core k, and from the select line on no byte differs
pub record Became (m n : List ℕ) (k : Core) : Type 0 where
  pub size : length n ≡ image_size
  pub core : core_of n ≡ k
  pub rest : drop select_at n ≡ drop select_at m

-- what a call does to bytes that it is lent: an image stands for k afterwards; bytes of any other length are no image and stay
pub record Acted (m n : List ℕ) (k : Core) : Type 0 where
  pub image : length m ≡ image_size → Became m n k
  pub other : (length m ≡ image_size → ⊥) → n ≡ m

-- what a call answers that is lent bytes: a for an image, o for any other bytes
pub record Answered {A : Type 0} (m : List ℕ) (r a o : A) : Type 0 where
  pub image : length m ≡ image_size → r ≡ a
  pub other : (length m ≡ image_size → ⊥) → r ≡ o

-- a record refused by the number r changes no byte: n after it is m
abbrev pub RefusedKept : ℕ → List ℕ → List ℕ → Type 0
RefusedKept r m n = (r ≡ 0 → ⊥) → n ≡ m
