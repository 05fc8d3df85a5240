use Rattle.spi.proofs.Turns.{became_lined, address_set, turned_by_lem}
use Rattle.spi.proofs.exchanges.write.Goals as goal

pub returns : goal.returns
returns c = simp c.rise.ensures (turned_by_lem (address_set (became_lined c.store.ensures) _))
