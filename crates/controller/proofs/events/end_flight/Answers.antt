use native.Mathlib.Omega.{arith}
use mathlib.Core.Path.{ap, sym, ◌∙◌}
use Rattle.registers.specs.State.{is_loopback}
use Rattle.receiving.proofs.Stored.{unchanged}
use Rattle.controller.proofs.Acts.{ended_idle, ended_of, plainly}
use Rattle.controller.proofs.events.end_flight.Goals as goal

pub returns-in-None : goal.returns-in-None
returns-in-None c = rw (ended_idle c.args.image.now c.args.number (sym c.flight_of.ensures ∙ c.in-None.is)) record { result_value = plainly c.args.wanted c.plain.ensures; became = unchanged c.args.image.now (omega arith) }

pub returns-in-Some : goal.returns-in-Some
returns-in-Some c = rw (ended_of c.args.image.now c.args.number _ c.is_loopback-loopback.result (sym c.flight_of.ensures ∙ c.in-Some.is) (sym (c.is_loopback-loopback.ensures ∙ ap is_loopback c.mode_of.ensures)), ← c.from.ensures) c.finish.ensures
