use mathlib.Core.Path.{◌≡◌, sym, ◌∙◌}
use native.Mathlib.Omega.{arith}
use lib.ListN.{length}
use Rattle.records.proofs.Refusals.{number_some}
use Rattle.mcp2515.specs.ChipImage.{chip_of}
use Rattle.log_text.specs.Stretch.{run_in}
use Rattle.log_text.proofs.Renderings.{goes_on, ends, replay_chip}
use Rattle.log_text.proofs.put_stretch.Goals as goal

pub returns-in-Ok : goal.returns-in-Ok
returns-in-Ok c =
    let all : c.least-count.result ≡ run_in c.args.number (length c.args.part.now) = omega arith in
    record {
      written = goes_on (chip_of c.args.image.now) c.args.number c.args.part.now c.args.out.now _ c.put_records-len.result c.least-count.result all c.put_records-len.ensures.lined c.requires (sym c.in-Ok.ensures);
      moved = rw (replay_chip (chip_of c.args.image.now) c.args.number c.args.part.now c.least-count.result all) at c.put_records-len.ensures.moved;
      refused_stay = rw all at c.put_records-len.ensures.refused_stay;
    }

pub returns-in-Err : goal.returns-in-Err
returns-in-Err c =
    let all : c.least-count.result ≡ run_in c.args.number (length c.args.part.now) = omega arith in
    record {
      written = ends (chip_of c.args.image.now) c.args.number c.args.part.now c.args.out.now _ c.put_records-len.result c.least-count.result all c.put_records-len.ensures.lined c.requires _ c.put_line.result c.number.result (c.number.ensures ∙ c.in-Err.ensures) (omega (arith, c.number.ensures, number_some c.in-Err.refusal)) c.put_line.ensures.line c.put_line.ensures.most;
      moved = rw (replay_chip (chip_of c.args.image.now) c.args.number c.args.part.now c.least-count.result all) at c.put_records-len.ensures.moved;
      refused_stay = rw all at c.put_records-len.ensures.refused_stay;
    }
