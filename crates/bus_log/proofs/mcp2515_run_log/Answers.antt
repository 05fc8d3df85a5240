use mathlib.Core.Path.{◌∙◌}
use mir.Syntax.{w64}
use mir.Facts.{to_z-of_z}
use Rattle.bus_log.proofs.mcp2515_run_log.Goals as goal

pub returns : goal.returns
returns c =
    let w = rw c.power_on-image.ensures at c.run_from.ensures in
    let same = w.power_on c.args.log.now c.args.answers.now in record { result = to_z-of_z {w = w64} (record { sfits = c.run_from.type_inv }) ∙ w.result ∙ same.0; buffer = w.buffer ∙ same.1 }
