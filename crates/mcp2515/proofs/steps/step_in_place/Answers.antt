use native.Mathlib.Omega.{arith}
use mathlib.Core.Path.{◌≡◌, refl, ap}
use Rattle.records.specs.declared.Kind.TheVariants.{SelectLow, Exchange, SelectHigh}
use Rattle.records.specs.Records.{kind_by, record_of}
use Rattle.mcp2515.specs.ChipImage.{chip_of}
use Rattle.mcp2515.proofs.Sides.{event_side, told_wanted, spi_wanted, moved_as, became_moved}
use Rattle.mcp2515.proofs.steps.step_in_place.Goals as goal

pub returns-then-fields-2-clause-answered : goal.returns-then-fields-2-clause-answered
returns-then-fields-2-clause-answered c =
    let e : c.args.fields.kind ≡ 1 = omega arith in
    spi_wanted c.args.wanted (chip_of c.args.image.now) c.args.fields Exchange (ap kind_by e) refl c.step_exchange.ensures.told

pub returns-then-fields-3-clause-answered : goal.returns-then-fields-3-clause-answered
returns-then-fields-3-clause-answered c =
    let e : c.args.fields.kind ≡ 0 = omega arith in
    spi_wanted c.args.wanted (chip_of c.args.image.now) c.args.fields SelectLow (ap kind_by e) refl c.step_low.ensures.told

pub returns-then-fields-clause-answered : goal.returns-then-fields-clause-answered
returns-then-fields-clause-answered c =
    let e : c.args.fields.kind ≡ 2 = omega arith in
    spi_wanted c.args.wanted (chip_of c.args.image.now) c.args.fields SelectHigh (ap kind_by e) refl c.step_high.ensures.told

pub returns : goal.returns
returns c =
    let q = event_side (chip_of c.args.image.now) c.args.fields (omega arith) in
    let e = c.event.ensures in
    record {
      answered = told_wanted c.args.wanted (chip_of c.args.image.now) (record_of c.args.fields) q e.told;
      moved = moved_as (chip_of c.args.image.now) (record_of c.args.fields) q (became_moved e.became);
      refused_kept = e.refused_kept;
    }
