-- Errors: the error flags of EFLG, and ERRIF where a counter moves.
use Rattle.std.specs.Prelude.{ℕ, ◌-◌, ◌+◌, min, Bool, cond, not, ◌||◌, eqb, ltb, leb}
use Rattle.std.specs.Int.Bits.{bit_and, bit_or}
use Rattle.bits.specs.Bit.{set_bit}
use Rattle.registers.specs.declared.Counters.{Counters}
use Rattle.registers.specs.declared.Control.{Control}
use Rattle.registers.specs.State.{errif_bit, with_counters, with_canintf}

-- Bus-off begins where TEC reaches 256.
abbrev pub is_bus_off : Counters → Bool
is_bus_off n = leb 256 n.tec

-- EFLG bits 5 to 0: TXBO, TXEP, RXEP, TXWAR, RXWAR, EWARN.
unfoldable pub error_flags : Counters → ℕ
error_flags n =
    bit_or (cond (is_bus_off n) 0x20 0)
    (bit_or (cond (leb 128 n.tec) 0x10 0)
    (bit_or (cond (leb 128 n.rec) 0x08 0)
    (bit_or (cond (leb 96 n.tec) 0x04 0)
    (bit_or (cond (leb 96 n.rec) 0x02 0)
    (cond (leb 96 n.tec || leb 96 n.rec) 0x01 0)))))

-- A flag of new is 1 that was 0 in old.
abbrev pub rises : ℕ → ℕ → Bool
rises old new = not (eqb (bit_and new (255 - old)) 0)

-- The counters move: a flag that turns from 0 to 1 raises ERRIF.
unfoldable pub moved_to : Control → Counters → Control
moved_to c n =
    with_canintf (with_counters c n)
    (cond (rises (error_flags c.counters) (error_flags n)) (set_bit c.flags.canintf errif_bit) c.flags.canintf)

-- ---- how far a counter moves; neither falls below 0
-- the largest values: 263 for TEC, 255 for REC
abbrev pub largest_tec : ℕ
largest_tec = 263

abbrev pub largest_rec : ℕ
largest_rec = 255

abbrev pub tec_less : Counters → Counters
tec_less n = record { tec = n.tec - 1; rec = n.rec }

abbrev pub tec_more : Counters → Counters
tec_more n = record { tec = min (n.tec + 8) largest_tec; rec = n.rec }

-- a good frame: a REC of 128 or more drops to 127, any other falls by 1
abbrev pub rec_less : Counters → Counters
rec_less n = record { tec = n.tec; rec = cond (ltb 127 n.rec) 127 (n.rec - 1) }

abbrev pub rec_more : Counters → ℕ → Counters
rec_more n by = record { tec = n.tec; rec = min (n.rec + by) largest_rec }

abbrev pub no_errors : Counters
no_errors = record { tec = 0; rec = 0 }
