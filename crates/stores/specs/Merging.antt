-- Which addresses have a byte that a store merges into, and when it takes the write. These sort the rules of Store by region; they add none.
use Rattle.std.specs.Prelude.{Bool, true, false, not}
use Rattle.registers.specs.declared.Region.{Region}
use Rattle.registers.specs.declared.Region.TheVariants.{Filters, Masks, Configured, Bfpctrl, Txrtsctrl, Tec, Rec, Caninte, Canintf, Eflg, Canstat, Canctrl, TxCtrl, TxMessage, RxCtrl, RxMessage}
use Rattle.registers.specs.declared.Control.{Control}
use Rattle.registers.specs.State.{is_configuration}
use Rattle.stores.specs.Store.{is_locked}

abbrev pub merges_in : Region → Bool
merges_in Filters = true
merges_in Masks = true
merges_in Configured = true
merges_in Bfpctrl = true
merges_in Txrtsctrl = true
merges_in Tec = false
merges_in Rec = false
merges_in Caninte = true
merges_in Canintf = true
merges_in Eflg = true
merges_in Canstat = false
merges_in Canctrl = false
merges_in (TxCtrl b) = false
merges_in (TxMessage b) = true
merges_in (RxCtrl b) = false
merges_in RxMessage = false

-- filters, masks, CNF1-3 and TXRTSCTRL in Configuration; a message to send while it is not locked
abbrev pub takes_write : Region → Control → Bool
takes_write Filters c = is_configuration c.state.mode
takes_write Masks c = is_configuration c.state.mode
takes_write Configured c = is_configuration c.state.mode
takes_write Bfpctrl c = true
takes_write Txrtsctrl c = is_configuration c.state.mode
takes_write Tec c = false
takes_write Rec c = false
takes_write Caninte c = true
takes_write Canintf c = true
takes_write Eflg c = true
takes_write Canstat c = false
takes_write Canctrl c = false
takes_write (TxCtrl b) c = false
takes_write (TxMessage b) c = not (is_locked c b)
takes_write (RxCtrl b) c = false
takes_write RxMessage c = false
