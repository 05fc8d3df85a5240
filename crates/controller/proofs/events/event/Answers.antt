use native.Mathlib.Omega.{arith}
use mathlib.Core.Path.{refl, sym, ap, ◌∙◌}
use Rattle.std.proofs.Common.{rules, Some}
use Rattle.records.specs.Records.{record_of}
use Rattle.records.specs.declared.Refusal.TheVariants.{Field}
use Rattle.registers.specs.declared.Control.{Control}
use Rattle.controller.specs.Events.{refusal_by}
use Rattle.controller.proofs.Acts.{refused_told, refused_stays, unknown, unsound, checked, accepted_told}
use Rattle.controller.proofs.events.event.Goals as goal

pub returns-in_err-kind-clause-told : goal.returns-in_err-kind-clause-told
returns-in_err-kind-clause-told c = search (rules, refused_told, unknown)

pub returns-in_err-kind-clause-became : goal.returns-in_err-kind-clause-became
returns-in_err-kind-clause-became c = refused_stays c.args.image.now _ _ (omega arith) (unknown _ _ _ c.in_err-kind.ensures)

pub returns-then-not-is_sound-clause-told : goal.returns-then-not-is_sound-clause-told
returns-then-not-is_sound-clause-told c = refused_told _ _ _ Field (unsound _ _ (sym c.if-not-is_sound.ensures))

pub returns-then-not-is_sound-clause-became : goal.returns-then-not-is_sound-clause-became
returns-then-not-is_sound-clause-became c = refused_stays c.args.image.now _ Field (omega arith) (unsound _ _ (sym c.if-not-is_sound.ensures))

pub returns-in_err-check-clause-told : goal.returns-in_err-check-clause-told
returns-in_err-check-clause-told c = search (rules, refused_told, checked)

pub returns-in_err-check-clause-became : goal.returns-in_err-check-clause-became
returns-in_err-check-clause-became c = refused_stays c.args.image.now _ _ (omega arith) (checked _ _ _ _ (sym c.if-not-is_sound.ensures) c.in_ok-kind.ensures (c.in_err-check.ensures ∙ ap (λ (x : Control). refusal_by (Some c.in_ok-kind.kind) x (record_of c.args.fields)) (c.control_of.ensures)))

pub returns : goal.returns
returns c =
    let h = c.happen-answer.ensures in
    let w = accepted_told c.args.wanted c.args.fields c.in_ok-kind.kind _ c.in_ok-kind.ensures (sym c.if-not-is_sound.ensures) (c.in_ok-check.ensures ∙ ap (λ (x : Control). refusal_by (Some c.in_ok-kind.kind) x (record_of c.args.fields)) (c.control_of.ensures)) h.result_value h.became c.settle.ensures in
    record { told = w.0; became = w.1; refused_kept = λ refused. absurd (refused refl) }
