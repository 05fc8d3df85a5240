use mathlib.Core.Path.{◌≡◌, sym, ◌∙◌}
use mathlib.Core.Bool.{true, false}
use Prim.Native.Nat.{◌*◌, ◌-◌, ◌/◌, min}
use native.Mathlib.Omega.{arith}
use lib.Dec.{ltb}
use lib.ListN.{length, take, drop}
use Rattle.bus_log.specs.Log.{record_size}
use Rattle.compare.specs.Compare.{records_in_both, differences_of, entry_room}
use Rattle.compare.proofs.Whole.{behind_agreeing, none_behind, none_told, lacking_told, listed_told}
use Rattle.compare.proofs.list_logs.Goals as goal

pub returns-then-same-count : goal.returns-then-same-count
returns-then-same-count c =
    let both : c.min-count.result ≡ min (length c.args.first.now) (length c.args.second.now) = c.min-count.ensures in
    let t = none_told c.args.first.now c.args.second.now c.args.entries.now (none_behind c.args.first.now c.args.second.now (omega (arith, c.agreeing-same.ensures.told))) in
    record { told = t.told; buffer = t.stored }

pub returns-then-lacks_room : goal.returns-then-lacks_room
returns-then-lacks_room c =
    let at = c.agreeing-same.result * record_size in
    let size = c.min-count.result / 16 * record_size - at in
    let most = c.agreeing-same.ensures.most in
    let rest : size ≡ (records_in_both c.args.first.now c.args.second.now - c.agreeing-same.result) * record_size = omega (arith, c.min-count.ensures) in
    let all =
    behind_agreeing c.args.first.now c.args.second.now c.power_on-image.result c.run_ahead.new.image (take size (drop at c.args.first.now)) (take size (drop at c.args.second.now)) c.agreeing-same.result c.agreeing-same.ensures.told c.power_on-image.ensures c.run_ahead.ensures (rw rest) (rw rest) in
    let short : ltb (length c.args.entries.now) (entry_room (length (differences_of c.args.first.now c.args.second.now))) ≡ true = rw all at (sym c.lacks_room.ensures.told ∙ c.if-lacks_room.true) in
    let t = lacking_told c.args.first.now c.args.second.now c.args.entries.now short in
    record { told = t.told; buffer = c.lacks_room.ensures.kept ∙ t.stored }

pub returns : goal.returns
returns c =
    let at = c.agreeing-same.result * record_size in
    let size = c.min-count.result / 16 * record_size - at in
    let most = c.agreeing-same.ensures.most in
    let rest : size ≡ (records_in_both c.args.first.now c.args.second.now - c.agreeing-same.result) * record_size = omega (arith, c.min-count.ensures) in
    let all =
    behind_agreeing c.args.first.now c.args.second.now c.power_on-image.result c.run_ahead.new.image (take size (drop at c.args.first.now)) (take size (drop at c.args.second.now)) c.agreeing-same.result c.agreeing-same.ensures.told c.power_on-image.ensures c.run_ahead.ensures (rw rest) (rw rest) in
    let enough : ltb (length c.args.entries.now) (entry_room (length (differences_of c.args.first.now c.args.second.now))) ≡ false = rw all at (sym c.lacks_room.ensures.told ∙ c.if-lacks_room.false) in
    let t = listed_told c.args.first.now c.args.second.now c.args.entries.now c.list.new.entries c.list.result enough (rw (all, c.lacks_room.ensures.kept) at c.list.ensures) in
    record { told = t.told; buffer = t.stored }
