use mathlib.Core.Path.{refl, sym, ◌∙◌}
use native.Mathlib.Omega.{arith}
use mir.Syntax.{w64}
use mir.Facts.{to_z-of_z}
use Rattle.records.specs.Records.{refusal_number}
use Rattle.records.proofs.Refusals.{number_some}
use Rattle.bus_log.proofs.Helds.{no_chip, held_chip, held_none}
use Rattle.stand_in.proofs.Calls.{told}
use Rattle.stand_in.proofs.Loading.{call_refused, call_taken}
use Rattle.stand_in.proofs.mcp2515_load_profile.Goals as goal

pub returns-in_default : goal.returns-in_default
returns-in_default c =
    call_refused c.args.chip.now c.args.profile.now c.args.events.now 21 _ (no_chip c.args.chip.now _ c.in_default.ensures.is.1) (omega arith)
    (told (record { sfits = c.refused.type_inv }) c.refused.ensures)

pub returns-in-Err : goal.returns-in-Err
returns-in-Err c =
    rw c.in-Some.ensures.value
    (call_refused c.args.chip.now c.args.profile.now c.args.events.now (refusal_number c.in-Err.refusal) _
    (held_chip c.args.chip.now _ (c.in-Some.ensures.is.0 refl) ∙ sym c.in-Err.ensures.refusal) (omega (arith, number_some c.in-Err.refusal))
    (told (record { sfits = c.refused-in-Err.type_inv }) c.refused-in-Err.ensures))

pub load_profile-requires : goal.load_profile-requires
load_profile-requires c = rw c.in-Some.ensures.value (c.in-Some.ensures.is.0 refl)

pub returns-in-Ok : goal.returns-in-Ok
returns-in-Ok c =
    let is = c.in-Some.ensures.is.0 refl in
    rw (to_z-of_z {w = w64} (record { sfits = c.load_profile.type_inv }))
    (call_taken c.args.chip.now _ _ _ _ (held_none c.args.chip.now _ is (sym c.in-Ok.ensures.refusal)) is (rw (c.in-Some.ensures.value, c.in-Ok.ensures.same) at c.load_profile.ensures))
