use mathlib.Core.Path.{◌≡◌, ap, ◌∙◌}
use mathlib.Core.List.{List}
use Prim.Native.Nat.{ℕ, ◌+◌, ◌*◌, ◌-◌}
use native.Mathlib.Omega.{arith}
use lib.Seq.{sets}
use Rattle.mcp2515.specs.Step.{chip_after}
use Rattle.load_machine.specs.Machine.{records_by, record_of_command}
use Rattle.load_rules.specs.Load.{last_reply}
use Rattle.profile_loader.specs.declared.Replied.{Replied}
use Rattle.profile_loader.specs.Gaps.{log_of}
use Rattle.profile_loader.specs.Running.{replied, replied_in, exchanged}
use Rattle.profile_loader.proofs.Logs.{put_next}
use Rattle.profile_loader.proofs.Sessions.{records_most, record_size, records_next, replied_by, replied_next}
use Rattle.profile_loader.proofs.runs.perform.Goals as goal

pub put_record-requires : goal.put_record-requires
put_record-requires c = omega (arith, c.records_in-count.ensures, records_most c.args.command)

pub loop-index-init : goal.loop-index-init
loop-index-init c =
    let all : c.records_in-count.result - 0 ≡ c.records_in-count.result = omega arith in
    let first : c.args.at + 16 * 0 ≡ c.args.at = omega arith in
    (rw all, rw (all, first))

pub loop-index-preserved : goal.loop-index-preserved
loop-index-preserved c =
    let next = records_next c.args.command c.loop-index.index c.records_in-count.result (omega arith) in
    let rest = records_by c.args.command (c.loop-index.index + 1) (c.records_in-count.result - (c.loop-index.index + 1)) in
    let put = c.put_record.ensures ∙ ap (λ (bs : List ℕ). sets c.loop-index.room (c.args.at + 16 * c.loop-index.index) bs) c.record_of-record.ensures in
    let told = c.exchange-reply.ensures ∙ ap (exchanged (replied_in c.loop-index.image c.loop-index.reply)) c.record_of-record.ensures in
    let place : c.args.at + 16 * (c.loop-index.index + 1) ≡ c.args.at + 16 * c.loop-index.index + 16 = omega arith in (
      ap (λ (x : Replied). replied_by x rest) told ∙ replied_next (replied_in c.loop-index.image c.loop-index.reply) (record_of_command c.args.command c.loop-index.index) rest ∙ rw next at c.loop-index.invariant.0,
      rw place (ap (λ (m : List ℕ). sets m (c.args.at + 16 * c.loop-index.index + 16) (log_of rest)) put ∙ put_next c.loop-index.room (record_of_command c.args.command c.loop-index.index) (c.args.at + 16 * c.loop-index.index) rest (record_size c.args.command c.loop-index.index)) ∙ rw next at c.loop-index.invariant.1,
    )

pub returns : goal.returns
unfolding records_by chip_after last_reply log_of replied
returns c =
    let none : c.records_in-count.result - c.loop-index.index ≡ 0 = omega arith in
    record { value = rw (none, c.records_in-count.ensures) at c.loop-index.invariant.0; room_after = rw (none, c.records_in-count.ensures) at c.loop-index.invariant.1 }
