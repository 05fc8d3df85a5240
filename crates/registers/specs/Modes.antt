-- Modes: the request that a CANCTRL store makes, entering a mode, and the last act of a step.
use Rattle.std.specs.Prelude.{ℕ, Bool, true, false, cond, not, ◌&&◌, ◌||◌, eqb, ◌≡◌, Option, Some, None, Result}
use Rattle.bits.specs.Bit.{has_bit}
use Rattle.registers.specs.declared.Mode.{Mode}
use Rattle.registers.specs.declared.Mode.TheVariants.{Normal, Sleep, Loopback, ListenOnly, Configuration}
use Rattle.registers.specs.declared.UnknownNumber.{UnknownNumber}
use Rattle.registers.specs.declared.TxControl.{TxControl}
use Rattle.registers.specs.declared.Counters.{Counters}
use Rattle.registers.specs.declared.Control.{Control}
use Rattle.registers.specs.State.{txreq_bit, mode_number, is_idle, known_or, with_counters, with_mode, with_request}
use Rattle.registers.specs.Errors.{no_errors}

-- Mode bits 0 to 4 request a mode; 5 to 7 cancel.
abbrev pub requested : ℕ → Option Mode
requested n =
    cond (eqb n 0) (Some Normal)
    (cond (eqb n 1) (Some Sleep)
    (cond (eqb n 2) (Some Loopback)
    (cond (eqb n 3) (Some ListenOnly)
    (cond (eqb n 4) (Some Configuration) None))))

abbrev pub ModeBy : ℕ → Result Mode UnknownNumber → Type 0
ModeBy n r = r ≡ known_or n (requested n)

-- The present mode cancels too.
abbrev pub request_in : Mode → ℕ → Option Mode
request_in m n = cond (eqb n (mode_number m)) None (requested n)

-- Normal and Loopback send.
abbrev pub sends_in : Mode → Bool
sends_in Normal = true
sends_in Sleep = false
sends_in Loopback = true
sends_in ListenOnly = false
sends_in Configuration = false

-- Some buffer has TXREQ.
abbrev pub waits : TxControl → Bool
waits t = has_bit t.txb0 txreq_bit || has_bit t.txb1 txreq_bit || has_bit t.txb2 txreq_bit

-- Both counters are zeroed on the way into Listen-Only and Configuration.
abbrev pub counters_in : Mode → Counters → Counters
counters_in Normal n = n
counters_in Sleep n = n
counters_in Loopback n = n
counters_in ListenOnly n = no_errors
counters_in Configuration n = no_errors

unfoldable pub entered : Control → Mode → Control
entered c m = with_mode (with_counters c (counters_in m c.counters)) m

-- What frees a request: a mode that does not send, or neither a TXREQ nor a flight left.
unfoldable pub free_to_change : Control → Bool
free_to_change c = not (sends_in c.state.mode) || (not (waits c.tx) && is_idle c.state.flight)

-- The last act of each accepted step.
abbrev pub settled_by : Option Mode → Control → Control
settled_by None c = c
settled_by (Some m) c = cond (free_to_change c) (entered (with_request c None) m) c

unfoldable pub settled : Control → Control
settled c = settled_by c.state.request c
