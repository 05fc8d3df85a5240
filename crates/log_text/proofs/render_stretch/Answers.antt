use mathlib.Core.Path.{◌≡◌, sym, ◌∙◌}
use Prim.Native.Nat.{◌+◌}
use native.Mathlib.Omega.{arith}
use lib.ListN.{length}
use Rattle.records.proofs.Refusals.{number_some}
use Rattle.log_text.specs.Stretch.{run_in, short_room, stretch_refusal}
use Rattle.log_text.proofs.Renderings.{enough, no_room, rendering}
use Rattle.log_text.proofs.render_stretch.Goals.{in-Ok, in-Err-end_refusal}
use Rattle.log_text.proofs.render_stretch.Goals as goal

pub returns-in-Err : goal.returns-in-Err
returns-in-Err c =
    no_room c.args.chip c.args.number c.args.part.now c.args.out.now c.number.result (λ z. number_some c.in-Err.refusal (sym c.number.ensures ∙ z)) (c.number.ensures ∙ c.in-Err.ensures)

pub put_stretch-len-requires : goal.put_stretch-len-requires
put_stretch-len-requires c = enough (length c.args.part.now) (length c.args.out.now) (sym c.in_default.ensures)

pub returns : goal.returns
returns c =
    let none : short_room (length c.args.part.now) (length c.args.out.now) ≡ 0 = sym c.in_default.ensures in
    let refusal : c.match-end_refusal.refusal ≡ stretch_refusal c.args.number (length c.args.part.now) =
    elim c.match-end_refusal.branch [ in-Ok w ↦ w.refusal-is ∙ w.in-Ok.ensures | in-Err-end_refusal w ↦ w.refusal-is ∙ w.number-refusal.ensures ∙ w.in-Err-end_refusal.ensures ] in
    let number : c.args.number + c.least-count.result ≡ c.args.number + run_in c.args.number (length c.args.part.now) = omega arith in
    rendering c.args.chip c.args.number c.args.part.now c.args.out.now _ _ (enough (length c.args.part.now) (length c.args.out.now) none) (rw c.pack-image.ensures.chip at c.put_stretch-len.ensures.written) refusal number (c.unpack.ensures ∙ rw c.pack-image.ensures.chip at c.put_stretch-len.ensures.moved.packed.chip)
