use mathlib.Core.Path.{ap, sym, ◌∙◌}
use mathlib.Core.List.{List}
use Prim.Native.Nat.{ℕ}
use native.Mathlib.Omega.{arith}
use lib.ListN.{length, length-append}
use Rattle.mcp2515.specs.ChipImage.{chip_of}
use Rattle.bus_log.specs.From.{chip_from}
use Rattle.compare.proofs.Runs.{chip_joined, chip_none}
use Rattle.compare.proofs.run_ahead.Goals as goal

pub loop-block-preserved : goal.loop-block-preserved
loop-block-preserved c =
    let w = c.loop-block.invariant in
    let size = c.in-Some.ensures.steps.1.1 in
    let parts = c.in-Some.ensures.steps.1.0 in
    let sizes = simp length-append at (ap length parts) in
    let left = chip_joined (chip_of c.loop-block.image) c.in-Some.block.now c.next.new.self.rest.now (omega arith) in
    record {
      chip = c.run_block.ensures.ahead.again;
      size = c.in-Some.ensures.steps.0 ∙ w.size;
      whole = omega arith;
      left = rw c.run_block.ensures.ahead.chip (sym left ∙ ap (λ (log : List ℕ). chip_from (chip_of c.loop-block.image) log) (sym parts) ∙ w.left);
    }

pub returns : goal.returns
returns c =
    let w = c.loop-block.invariant in
    record { again = w.chip; chip = sym (chip_none (chip_of c.loop-block.image) c.loop-block.block-iterator.rest.now c.in-None.ensures.steps.1.0) ∙ w.left }
