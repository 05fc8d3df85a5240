use native.Mathlib.Omega.{arith}
use mathlib.Core.Path.{◌≡◌, refl, sym, ◌∙◌}
use Rattle.image.specs.Image.{core_of}
use Rattle.spi.specs.Instructions.{command_by}
use lib.ListN.{get_or}
use Rattle.spi.specs.declared.Instruction.TheVariants.{Done}
use Rattle.spi.specs.Open.{instruction_by, speaker_of, open_of}
use Rattle.spi.proofs.Numbered.{staged, lowered, fetching, ended}
use Rattle.spi.proofs.Turns.{first_reply, stayed}
use Rattle.spi.proofs.exchanges.exchange_open.Goals as goal

pub returns-in-First : goal.returns-in-First
unfolding instruction_by
returns-in-First c = rw (staged _ _ _ (sym c.from.ensures ∙ c.in-First.is)) record { value = sym (first_reply (command_by (speaker_of c.args.image.now) c.args.byte) (core_of c.args.image.now)); turned = c.start.ensures }

pub returns-in-ReadAddress : goal.returns-in-ReadAddress
unfolding instruction_by
returns-in-ReadAddress c = rw (staged _ _ _ (sym c.from.ensures ∙ c.in-ReadAddress.is)) record { value = refl; turned = c.turn_to.ensures }

pub returns-in-WriteAddress : goal.returns-in-WriteAddress
unfolding instruction_by
returns-in-WriteAddress c = rw (staged _ _ _ (sym c.from.ensures ∙ c.in-WriteAddress.is)) record { value = refl; turned = c.turn_to-in-WriteAddress.ensures }

pub returns-in-ModifyAddress : goal.returns-in-ModifyAddress
unfolding instruction_by
returns-in-ModifyAddress c = rw (staged _ _ _ (sym c.from.ensures ∙ c.in-ModifyAddress.is)) record { value = refl; turned = c.turn_to-in-ModifyAddress.ensures }

pub returns-in-ModifyMask : goal.returns-in-ModifyMask
unfolding instruction_by
returns-in-ModifyMask c = rw (staged _ _ _ (sym c.from.ensures ∙ c.in-ModifyMask.is)) record { value = refl; turned = c.keep_mask.ensures }

pub returns-in-ModifyData : goal.returns-in-ModifyData
unfolding instruction_by
returns-in-ModifyData c = rw (staged _ _ _ (sym c.from.ensures ∙ c.in-ModifyData.is)) record { value = refl; turned = c.change.ensures }

pub returns-in-Writing : goal.returns-in-Writing
unfolding instruction_by
returns-in-Writing c = rw (staged _ _ _ (sym c.from.ensures ∙ c.in-Writing.is)) record { value = refl; turned = rw (lowered _ _ _ _ c.requires (sym c.from.ensures ∙ c.in-Writing.is)) at c.write.ensures }

pub returns-in-StatusReply : goal.returns-in-StatusReply
unfolding instruction_by
returns-in-StatusReply c = rw (staged _ _ _ (sym c.from.ensures ∙ c.in-StatusReply.is)) record { value = c.status.ensures; turned = stayed c.args.image.now _ (omega arith) c.requires (staged _ _ _ (sym c.from.ensures ∙ c.in-StatusReply.is)) }

pub returns-in-RxStatusReply : goal.returns-in-RxStatusReply
unfolding instruction_by
returns-in-RxStatusReply c = rw (staged _ _ _ (sym c.from.ensures ∙ c.in-RxStatusReply.is)) record { value = c.rx_status.ensures; turned = stayed c.args.image.now _ (omega arith) c.requires (staged _ _ _ (sym c.from.ensures ∙ c.in-RxStatusReply.is)) }

pub returns-in-Reading : goal.returns-in-Reading
returns-in-Reading c =
    let f = fetching (command_by (speaker_of c.args.image.now) c.args.byte) (get_or c.args.image.now 147 0) (get_or c.args.image.now 148 0) c.args.byte c.in-Reading.is in
    rw (staged _ _ _ (sym c.from.ensures), f.0, f.1) record { value = c.fetch.ensures.value; turned = rw (lowered _ _ _ _ c.requires (sym c.from.ensures)) at c.fetch.ensures.turned }

pub returns-in-Raised : goal.returns-in-Raised
returns-in-Raised c =
    let e : open_of c.args.image.now ≡ Done = staged _ _ _ (sym c.from.ensures) ∙ ended _ _ c.in-Raised.is in
    rw e record { value = refl; turned = stayed c.args.image.now _ (omega arith) c.requires e }
