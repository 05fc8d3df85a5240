use mathlib.Core.Path.{◌≡◌, refl, ap, sym, ◌∙◌}
use native.Mathlib.Omega.{arith}
use lib.IntN.{pos}
use lib.ListN.{length}
use mir.Syntax.{w64}
use mir.Facts.{to_z_pos}
use Rattle.records.proofs.Refusals.{number_some}
use Rattle.bus_log.proofs.Copy.{sets_first}
use Rattle.bus_log.proofs.Helds.{no_chip, held_chip, held_none, held_moved}
use Rattle.bus_log.proofs.Refusals.{minus_told}
use Rattle.log_text.specs.Stretch.{short_room}
use Rattle.log_text.specs.Text.{text_of, text_result, text_after}
use Rattle.log_text.proofs.Joins.{stretches_join, refused_text}
use Rattle.log_text.proofs.Renderings.{enough}
use Rattle.log_text.proofs.render_held.Goals as goal

pub returns-in_default : goal.returns-in_default
returns-in_default c =
    refused_text c.args.chip.now c.args.number c.args.part.now c.args.text.now 21 _ (no_chip c.args.chip.now _ c.in_default.ensures.is.1) (omega arith)
    (minus_told (record { sfits = c.minus.type_inv }) c.minus.ensures c.number.ensures)

pub returns-in-Err : goal.returns-in-Err
returns-in-Err c =
    rw c.in-Some.ensures.value
    (refused_text c.args.chip.now c.args.number c.args.part.now c.args.text.now _ _
    (held_chip c.args.chip.now _ (c.in-Some.ensures.is.0 refl) ∙ sym c.in-Err.ensures) (omega (arith, number_some c.in-Err.refusal))
    (minus_told (record { sfits = c.minus-in-Err.type_inv }) c.minus-in-Err.ensures c.number-in-Err.ensures))

pub returns : goal.returns
unfolding text_result text_after
returns c =
    let none : short_room (length c.args.part.now) (length c.args.text.now) ≡ 0 = sym c.in_default-room_refusal.ensures in
    let is = c.in-Some.ensures.is.0 refl in
    let held = held_none c.args.chip.now _ is none in
    let room = enough (length c.args.part.now) (length c.args.text.now) none in
    let put = rw c.in-Some.ensures.value at c.put_stretch.ensures in
    let len : c.put_stretch.result ≡ length (text_of c.args.chip.now c.args.number c.args.part.now) = omega (arith, put.written.text.place) in
    record {
      result = rw held (to_z_pos w64 (omega (arith, put.written.most, room, c.well_formed)) ∙ ap pos len);
      buffer = rw held (put.written.text.buffer ∙ sets_first (text_of c.args.chip.now c.args.number c.args.part.now) c.args.text.now (omega (arith, len, put.written.most, room)));
      chip = held_moved is held put.moved;
      kept = put.refused_stay;
      join = stretches_join;
    }
