use mathlib.Core.Path.{◌≡◌, ap, ◌∙◌}
use mathlib.Core.List.{◌++◌}
use native.Mathlib.Omega.{arith}
use lib.ListN.{length, length-append}
use Rattle.std.proofs.Common.{⊎_elim}
use Rattle.mcp2515.specs.ChipImage.{chip_of}
use Rattle.bus_log.specs.Log.{records_in}
use Rattle.compare.specs.Compare.{differences_from, entries_of}
use Rattle.compare.proofs.Blocks.{parts_stored, parts_sizes, block_parts}
use Rattle.compare.proofs.list.Goals as goal

pub list_block-found-requires : goal.list_block-found-requires
list_block-found-requires c =
    let w = c.loop-first.invariant in
    let s = c.in-Some.ensures.steps in
    let split : c.loop-first.first-iterator.a.rest.now ≡ c.in-Some.first.now ++ c.next.new.self.a.rest.now = s.0.1.0 in
    let split_2 : c.loop-first.first-iterator.b.rest.now ≡ c.in-Some.second.now ++ c.next.new.self.b.rest.now = s.1.1.0 in
    let size = s.0.1.1 in
    let size_2 = s.1.1.1 in
    let parts = block_parts c.loop-first.before (chip_of c.loop-first.one) (chip_of c.loop-first.two) (chip_of c.run_block.new.image) (chip_of c.run_block-in-loop-first.new.image) c.in-Some.first.now c.in-Some.second.now c.next.new.self.a.rest.now c.next.new.self.b.rest.now c.run_block.new.told c.run_block-in-loop-first.new.told _ _
    (omega arith) (omega arith) c.run_block.ensures.answers c.run_block-in-loop-first.ensures.answers c.run_block.ensures.ahead.chip c.run_block-in-loop-first.ensures.ahead.chip in
    let counted = rw (split, split_2) at w.counted in
    record {
      told_all = omega arith;
      other_all = omega arith;
      few = w.few;
      has_room = λ some.
          let room = c.requires.has_room (λ z. some (c.loop-first.auto.entries ∙ z)) in
          omega (arith, room, parts_sizes parts.0, counted);
    }

pub loop-first-preserved : goal.loop-first-preserved
loop-first-preserved c =
    let w = c.loop-first.invariant in
    let s = c.in-Some.ensures.steps in
    let split : c.loop-first.first-iterator.a.rest.now ≡ c.in-Some.first.now ++ c.next.new.self.a.rest.now = s.0.1.0 in
    let split_2 : c.loop-first.first-iterator.b.rest.now ≡ c.in-Some.second.now ++ c.next.new.self.b.rest.now = s.1.1.0 in
    let size = s.0.1.1 in
    let size_2 = s.1.1.1 in
    let parts = block_parts c.loop-first.before (chip_of c.loop-first.one) (chip_of c.loop-first.two) (chip_of c.run_block.new.image) (chip_of c.run_block-in-loop-first.new.image) c.in-Some.first.now c.in-Some.second.now c.next.new.self.a.rest.now c.next.new.self.b.rest.now c.run_block.new.told c.run_block-in-loop-first.new.told _ _
    (omega arith) (omega arith) c.run_block.ensures.answers c.run_block-in-loop-first.ensures.answers c.run_block.ensures.ahead.chip c.run_block-in-loop-first.ensures.ahead.chip in
    let counted = rw (split, split_2) at w.counted in
    let stored = rw (split, split_2) at w.stored in
    let sizes = simp length-append at (ap length split) in
    let sizes_2 = simp length-append at (ap length split_2) in
    record {
      one = c.run_block.ensures.ahead.again;
      two = c.run_block-in-loop-first.ensures.ahead.again;
      size = s.0.0 ∙ w.size;
      size_2 = s.1.0 ∙ w.size_2;
      alike = omega arith;
      whole = omega arith;
      numbered = omega arith;
      few = omega (arith, c.list_block-found.ensures.counted, parts.1);
      counted = omega (arith, c.list_block-found.ensures.counted, parts_sizes parts.0, counted);
      stored = parts_stored parts.0 c.list_block-found.ensures ∙ stored;
    }

pub returns : goal.returns
unfolding differences_from entries_of
returns c =
    let w = c.loop-first.invariant in
    let none : length c.loop-first.first-iterator.a.rest.now ≡ 0 = ⊎_elim (λ t. t.1.1.0) (λ t. omega arith) c.in-None.ensures.steps in
    let no_more : records_in (length c.loop-first.first-iterator.a.rest.now) ≡ 0 = omega arith in
    record { counted = omega (arith, rw no_more at w.counted); stored = rw no_more at w.stored }
