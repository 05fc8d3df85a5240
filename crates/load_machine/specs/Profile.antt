-- A profile: 34 bytes, filters 0 to 5, masks 0 and 1, RXB0CTRL, RXB1CTRL. Assumes nothing: these are definitions.
use Rattle.std.specs.Prelude.{ℕ, ◌+◌, Bool, true, false, cond, List, eqb, ltb, get_or, Result, Ok, Err}
use Rattle.std.specs.Int.Bits.{bit_and}
use Rattle.bits.specs.Bit.{for_below, agree_under}
use Rattle.records.specs.declared.Refusal.{Refusal}
use Rattle.records.specs.declared.Refusal.TheVariants.{Select, Profile, Mode as OtherMode}
use Rattle.records.specs.Records.{refused_select}
use Rattle.registers.specs.declared.Mode.{Mode}
use Rattle.registers.specs.declared.Mode.TheVariants.{Normal, Sleep, Loopback, ListenOnly, Configuration}
use Rattle.registers.specs.Registers.{writable_of}

abbrev pub profile_size : ℕ
profile_size = 34

-- where byte i goes: filters 0-2 from 00h and 3-5 from 10h on, masks from 20h on, RXB0CTRL 60h, RXB1CTRL 70h
unfoldable pub address_of : ℕ → ℕ
address_of i =
    cond (ltb i 12) i
    (cond (ltb i 24) (i + 4)
    (cond (ltb i 32) (i + 8)
    (cond (eqb i 32) 0x60 0x70)))

-- the bits of byte i that a write reaches: EBh in SIDL of a filter, E3h in that of a mask, 64h and 60h in the control bytes
abbrev pub bits_of : ℕ → ℕ
bits_of i = writable_of (address_of i)

-- a profile with any other bit set is refused
abbrev pub is_writable_at : List ℕ → ℕ → Bool
is_writable_at p i = eqb (bit_and (get_or p i 0) (bits_of i)) (get_or p i 0)

unfoldable pub is_writable : List ℕ → Bool
is_writable p = for_below profile_size (is_writable_at p)

-- a byte read back agrees with byte i in the writable bits
abbrev pub agrees_at : List ℕ → ℕ → ℕ → Bool
agrees_at p i v = agree_under (bits_of i) v (get_or p i 0)

-- ---- refusals, in their order: 1 where select is low, 10 for a bit that is not writable, 11 for a mode at the start other than these
abbrev pub refused_profile : ℕ
refused_profile = 10

abbrev pub refused_mode : ℕ
refused_mode = 11

abbrev pub loads_in : Mode → Bool
loads_in Normal = true
loads_in Sleep = false
loads_in Loopback = false
loads_in ListenOnly = true
loads_in Configuration = true

unfoldable pub checked_for : Bool → List ℕ → Mode → Result Unit Refusal
checked_for low p m = cond low (Err Select) (cond (is_writable p) (cond (loads_in m) (Ok tt) (Err OtherMode)) (Err Profile))

-- the same by number, 0 where it is not refused
unfoldable pub refusal_for : Bool → List ℕ → Mode → ℕ
refusal_for low p m = cond low refused_select (cond (is_writable p) (cond (loads_in m) 0 refused_mode) refused_profile)
