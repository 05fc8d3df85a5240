use Rattle.log_text.specs.Line.{field_of}
use Rattle.log_text.proofs.Stores.{then_stored}
use Rattle.log_text.proofs.put_field.Goals as goal

pub returns : goal.returns
unfolding field_of
returns c = then_stored c.put_number-last.ensures c.put_byte.ensures
