use lib.ListN.{replicate}
use mathlib.Core.Path.{refl}
use Rattle.mcp2515.proofs.Images.{bytes_in}
use Rattle.mcp2515.proofs.packing.with_bytes.Goals as goal

pub returns : goal.returns
returns c = bytes_in (replicate 152 0) c.put_part.new.image c.put_part-2.new.image c.put_part-3.new.image c.args.config c.args.tx c.args.rx refl c.well_formed.0.1.0.1 c.well_formed.1.0.1.0.1 c.well_formed.1.1.0.1.0.1 c.put_part.ensures c.put_part-2.ensures c.put_part-3.ensures
