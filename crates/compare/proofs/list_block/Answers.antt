use mathlib.Core.Path.{◌≡◌, sym, ◌∙◌}
use mathlib.Core.Bool.{false, ◌&&◌}
use mathlib.Core.List.{[], ◌∷◌}
use Prim.Native.Nat.{◌+◌, ◌-◌, ◌/◌}
use native.Mathlib.Omega.{arith}
use borrow.Author.Rules.{rules}
use lib.ListN.{length, get_or}
use Rattle.std.specs.Str.{bytes_eq}
use Rattle.bus_log.specs.Log.{records_in}
use Rattle.compare.specs.Compare.{Difference, entries_of}
use Rattle.compare.specs.Block.{told_by, differences_in, Listing}
use Rattle.compare.proofs.Blocks.{one_listed, one_counted, parts_stored, parts_sizes, none_here, one_here}
use Rattle.compare.proofs.list_block.Goals as goal
use Rattle.compare.proofs.list_block.Goals.{else-eq-via-then-eq+else-eq-2, else-eq-via-else-eq, then-storing, else-storing}

pub loop-i-preserved-then-eq-2 : goal.loop-i-preserved-then-eq-2
loop-i-preserved-then-eq-2 c =
    let size = c.as_chunks.ensures.front_len in
    let same =
    none_here (records_in (length c.args.block.first.now)) (records_in (length c.args.block.second.now)) (length c.args.told.now / 3) (length c.args.other.now / 3) c.args.block.before c.loop-i.i
    c.args.block.first.now c.args.told.now c.args.block.second.now c.args.other.now c.as_chunks.result.0.now c.as_chunks-2.result.0.now c.as_chunks-3.result.0.now c.as_chunks-4.result.0.now
    (omega arith) (omega (arith, c.args.block.alike)) (omega arith) (omega arith) (omega arith) (omega arith) c.as_chunks.ensures.front c.as_chunks-2.ensures.front c.as_chunks-3.ensures.front c.as_chunks-4.ensures.front (sym c.if-eq.ensures) (sym c.if-eq-2.ensures) in
    record { few = omega (arith, c.loop-i.invariant.few); counted = rw same at c.loop-i.invariant.counted; stored = rw same at c.loop-i.invariant.stored }

pub put_entry-requires : goal.put_entry-requires
put_entry-requires c =
    let size = c.as_chunks.ensures.front_len in
    let unlike : (bytes_eq (get_or c.as_chunks.result.0.now c.loop-i.i []) (get_or c.as_chunks-2.result.0.now c.loop-i.i []) && bytes_eq (get_or c.as_chunks-3.result.0.now c.loop-i.i []) (get_or c.as_chunks-4.result.0.now c.loop-i.i [])) ≡ false =
    elim c.else-eq.branch [
      | else-eq-via-then-eq+else-eq-2 w ↦ rw (← w.if-eq.ensures, ← w.if-eq-2.ensures)
      | else-eq-via-else-eq w ↦ rw (← w.if-eq.ensures)
    ] in
    let parts =
    one_here (records_in (length c.args.block.first.now)) (records_in (length c.args.block.second.now)) (length c.args.told.now / 3) (length c.args.other.now / 3) c.args.block.before c.loop-i.i
    c.args.block.first.now c.args.told.now c.args.block.second.now c.args.other.now c.as_chunks.result.0.now c.as_chunks-2.result.0.now c.as_chunks-3.result.0.now c.as_chunks-4.result.0.now
    (omega arith) (omega (arith, c.args.block.alike)) (omega arith) (omega arith) (omega arith) (omega arith) c.as_chunks.ensures.front c.as_chunks-2.ensures.front c.as_chunks-3.ensures.front c.as_chunks-4.ensures.front unlike in
    let room = c.requires.has_room (λ z. search rules) in
    omega (arith, room, parts_sizes parts, c.loop-i.invariant.counted)

pub loop-i-preserved : goal.loop-i-preserved
loop-i-preserved c =
    let size = c.as_chunks.ensures.front_len in
    let unlike : (bytes_eq (get_or c.as_chunks.result.0.now c.loop-i.i []) (get_or c.as_chunks-2.result.0.now c.loop-i.i []) && bytes_eq (get_or c.as_chunks-3.result.0.now c.loop-i.i []) (get_or c.as_chunks-4.result.0.now c.loop-i.i [])) ≡ false =
    elim c.else-eq.branch [
      | else-eq-via-then-eq+else-eq-2 w ↦ rw (← w.if-eq.ensures, ← w.if-eq-2.ensures)
      | else-eq-via-else-eq w ↦ rw (← w.if-eq.ensures)
    ] in
    let parts =
    one_here (records_in (length c.args.block.first.now)) (records_in (length c.args.block.second.now)) (length c.args.told.now / 3) (length c.args.other.now / 3) c.args.block.before c.loop-i.i
    c.args.block.first.now c.args.told.now c.args.block.second.now c.args.other.now c.as_chunks.result.0.now c.as_chunks-2.result.0.now c.as_chunks-3.result.0.now c.as_chunks-4.result.0.now
    (omega arith) (omega (arith, c.args.block.alike)) (omega arith) (omega arith) (omega arith) (omega arith) c.as_chunks.ensures.front c.as_chunks-2.ensures.front c.as_chunks-3.ensures.front c.as_chunks-4.ensures.front unlike in
    let item : Difference = record { number = c.args.block.before + c.loop-i.i + 1; first = told_by (get_or c.as_chunks-3.result.0.now c.loop-i.i []); second = told_by (get_or c.as_chunks-4.result.0.now c.loop-i.i []) } in
    let listed : Listing (item ∷ []) c.loop-i.listed c.loop-i.entries c.if-storing.entries (c.loop-i.listed + 1) =
    elim c.if-storing.branch [
      | then-storing w ↦ one_listed item c.loop-i.listed c.loop-i.entries c.if-storing.entries (w.entries-is ∙ w.put_entry.ensures)
      | else-storing w ↦ one_counted item c.loop-i.listed c.loop-i.entries c.if-storing.entries (search rules) w.entries-is
    ] in
    record {
      few = omega (arith, c.loop-i.invariant.few);
      counted = omega (arith, parts_sizes parts, c.loop-i.invariant.counted);
      stored = parts_stored parts listed ∙ c.loop-i.invariant.stored;
    }

pub returns : goal.returns
unfolding differences_in entries_of
returns c =
    let size = c.as_chunks.ensures.front_len in
    let none : records_in (length c.args.block.first.now) - c.loop-i.i ≡ 0 = omega arith in
    record { counted = omega (arith, rw none at c.loop-i.invariant.counted); stored = rw none at c.loop-i.invariant.stored }
