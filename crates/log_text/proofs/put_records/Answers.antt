use mathlib.Core.Path.{◌≡◌, refl, ap, sym, ◌∙◌}
use mathlib.Core.List.{[]}
use Prim.Native.Nat.{◌-◌, ◌*◌, ◌<◌}
use native.Mathlib.Omega.{arith}
use lib.ListN.{length, get_or, take, drop}
use lib.Seq.{get_or-take, length-take-le}
use Rattle.mcp2515.specs.Step.{step_of}
use Rattle.mcp2515.specs.ChipImage.{chip_of}
use Rattle.bus_log.specs.Log.{record_size, last_chip}
use Rattle.bus_log.proofs.Advance.{same_size}
use Rattle.bus_log.proofs.Steps.{chunk_at, none_left}
use Rattle.log_text.specs.Line.{lines_of}
use Rattle.log_text.proofs.Stores.{then_stored, none_stored}
use Rattle.log_text.proofs.Lines.{next_line, later_chip, next_refused}
use Rattle.log_text.proofs.put_records.Goals as goal

pub loop-record-init : goal.loop-record-init
loop-record-init c =
    let all : c.args.count - 0 ≡ c.args.count = omega arith in
    (omega arith, omega arith, rw all (λ after end s. s), rw all refl, refl, λ h. (refl, rw all h))

pub loop-record-preserved : goal.loop-record-preserved
loop-record-preserved c =
    let m = c.loop-record.image in
    let part = c.args.part.now in
    let count = c.args.count in
    let i = c.loop-record.record-index in
    let items : length (take count c.as_chunks.result.0.now) ≡ count = length-take-le count c.as_chunks.result.0.now (omega (arith, c.as_chunks.ensures.front_len)) in
    let here : i < count = omega (arith, items) in
    let r = take record_size (drop (record_size * i) part) in
    let s = step_of (chip_of m) r in
    let same : get_or (take count c.as_chunks.result.0.now) i [] ≡ r =
    get_or-take count c.as_chunks.result.0.now i [] here ∙ rw c.as_chunks.ensures.front (chunk_at _ i part (omega (arith, c.as_chunks.ensures.front_len))) in
    let ran = rw same at c.run_one-told.ensures in
    let kind : get_or r 0 0 ≡ get_or (drop (record_size * i) part) 0 0 = get_or-take record_size (drop (record_size * i) part) 0 0 (omega arith) in
    let line = rw (same, ran.told, kind) at c.put_told-len.ensures.line in
    let lines = next_line count i c.loop-record.last (chip_of m) part here in
    let chip = later_chip count i c.loop-record.last (chip_of m) part here in (
      omega arith,
      omega (arith, c.put_told-len.ensures.most),
      (λ to end rest. c.loop-record.invariant.2 to end (rw lines (then_stored line (rw ran.moved.packed.chip at rest)))),
      rw ran.moved.packed.chip (sym chip ∙ c.loop-record.invariant.3),
      ran.moved.spare ∙ c.loop-record.invariant.4,
      (λ h.
          let before = c.loop-record.invariant.5 h in
          let first = next_refused count i c.loop-record.last (chip_of m) part here before.1 in
          (ran.refused_kept (λ z. first.0 (sym (ap (λ o. o.refusal) ran.told) ∙ z)) ∙ before.0, rw ran.moved.packed.chip first.1)),
    )

pub returns : goal.returns
unfolding lines_of last_chip
returns c =
    let i = c.loop-record.record-index in
    let items : length (take c.args.count c.as_chunks.result.0.now) ≡ c.args.count = length-take-le c.args.count c.as_chunks.result.0.now (omega (arith, c.as_chunks.ensures.front_len)) in
    let none = none_left c.args.count i (chip_of c.loop-record.image) (drop (record_size * i) c.args.part.now) (omega (arith, items)) in
    record {
      lined = record { text = c.loop-record.invariant.2 c.loop-record.out c.loop-record.len (rw none (none_stored c.loop-record.out c.loop-record.len)); most = omega arith };
      moved = record { packed = record { size = same_size c.args.image.now c.loop-record.image (omega arith) c.loop-record.invariant.4; chip = rw none at c.loop-record.invariant.3 }; spare = c.loop-record.invariant.4 };
      refused_stay = λ h. (c.loop-record.invariant.5 h).0;
    }
