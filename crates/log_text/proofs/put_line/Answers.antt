use native.Mathlib.Omega.{arith}
use Rattle.log_text.specs.Line.{space, newline, line_of, frame_line_of}
use Rattle.log_text.proofs.Stores.{then_stored}
use Rattle.log_text.proofs.Lines.{number_length, byte_length, after_number, after_byte}
use Rattle.log_text.proofs.put_line.Goals as goal

-- Three fields or four, one after the other. Assumes nothing.
pub put_field-second-requires : goal.put_field-second-requires
put_field-second-requires c = omega (arith, number_length c.args.number (omega arith))

pub put_field-third-requires : goal.put_field-third-requires
put_field-third-requires c =
    omega (arith, after_number c.args.number space (omega arith) c.put_field-second.ensures, byte_length c.args.refusal (omega arith))

pub put_field-requires : goal.put_field-requires
put_field-requires c =
    omega (arith, after_number c.args.number space (omega arith) c.put_field-second.ensures, after_byte c.args.refusal space (omega arith) c.put_field-third.ensures, byte_length c.args.answer (omega arith))

pub returns-in_default : goal.returns-in_default
unfolding line_of
returns-in_default c =
    let first = c.put_field-second.ensures in
    let second = c.put_field-third.ensures in
    let third = c.put_field.ensures in
    simp c.in_default.is
    (record { line = then_stored first (then_stored second third); most = omega (arith, after_number c.args.number space (omega arith) first, after_byte c.args.refusal space (omega arith) second, after_byte c.args.answer newline (omega arith) third) })

pub put_field-fourth-requires : goal.put_field-fourth-requires
put_field-fourth-requires c =
    omega (arith, after_number c.args.number space (omega arith) c.put_field-second.ensures, after_byte c.args.refusal space (omega arith) c.put_field-third.ensures, byte_length c.args.answer (omega arith))

pub put_field-requires-2 : goal.put_field-requires-2
put_field-requires-2 c =
    omega (arith, after_number c.args.number space (omega arith) c.put_field-second.ensures, after_byte c.args.refusal space (omega arith) c.put_field-third.ensures, after_byte c.args.answer space (omega arith) c.put_field-fourth.ensures, byte_length c.in-Some.set (omega arith))

pub returns : goal.returns
unfolding frame_line_of
returns c =
    let first = c.put_field-second.ensures in
    let second = c.put_field-third.ensures in
    let third = c.put_field-fourth.ensures in
    let fourth = c.put_field-2.ensures in
    simp c.in-Some.is
    (record { line = then_stored first (then_stored second (then_stored third fourth)); most = omega (arith, after_number c.args.number space (omega arith) first, after_byte c.args.refusal space (omega arith) second, after_byte c.args.answer space (omega arith) third, after_byte c.in-Some.set newline (omega arith) fourth) })
