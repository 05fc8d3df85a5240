use native.Mathlib.Omega.{arith}
use Rattle.profile_loader.proofs.Sessions.{records_most}
use Rattle.profile_loader.specs.Gaps.{between}
use Rattle.profile_loader.specs.Running.{underway, replied_in}
use Rattle.profile_loader.proofs.Turns.{advanced}
use Rattle.profile_loader.proofs.runs.advance.Goals as goal

pub overflow_add-result : goal.overflow_add-result
overflow_add-result c = omega (arith, c.records_in.ensures, records_most c.args.command, c.happen-gap.ensures.bound, c.requires.1)

pub returns : goal.returns
returns c =
    advanced (underway c.args.image.now c.args.loading) (between _ c.happen-gap.result) (replied_in _ c.perform-reply.result) c.following.result c.records_in.result _ c.args.command c.args.events.now c.args.number c.args.room.now _ _ c.requires.0 c.happen-gap.ensures c.perform-reply.ensures.value c.perform-reply.ensures.room_after c.following.ensures c.records_in.ensures
