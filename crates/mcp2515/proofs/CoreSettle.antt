-- The last act of a step, carried out twice, is carried out once: every core after an accepted step is Good. Assumes nothing.
use Rattle.std.proofs.Common.{Option, Some, None}
use mathlib.Core.Bool.{Bool, true, false, cond}
use mathlib.Core.Path.{◌≡◌, refl, ap}
use mathlib.Core.List.{List}
use Prim.Native.Nat.{ℕ}
use lib.Dec.{eqb}
use Rattle.records.specs.Records.{accepted, kind_of}
use Rattle.registers.specs.declared.Mode.{Mode}
use Rattle.registers.specs.declared.Control.{Control}
use Rattle.registers.specs.declared.Core.{Core}
use Rattle.registers.specs.State.{with_request, with_control}
use Rattle.registers.specs.Registers.{reset_core, power_on_core}
use Rattle.registers.specs.Modes.{entered, free_to_change, settled_by, settled}
use Rattle.stores.specs.Store.{stored, modified, requested_to_send}
use Rattle.controller.specs.Events.{settled_core, told_of, refused_by, happens_by, event_refusal, event_of}
use Rattle.spi.specs.declared.Act.{Act}
use Rattle.spi.specs.declared.Act.TheVariants.{Rest, ResetAll, Fetch, Store, Modify, RequestToSend, ClearFlag, FetchStatus, FetchRxStatus, Refuse}
use Rattle.spi.specs.Instructions.{cleared_of, acted}
use Rattle.mcp2515.proofs.CoreFacts.{Good}

settled_by_lem : (q : Option Mode) (c : Control) → c.state.request ≡ q → settled (settled_by q c) ≡ settled_by q c
unfolding settled entered free_to_change
settled_by_lem None c e = rw e
settled_by_lem (Some m) c e = go (free_to_change c) refl
  where
    go : (b : Bool) → free_to_change c ≡ b → settled (cond b (entered (with_request c None) m) c) ≡ cond b (entered (with_request c None) m) c
    go true f = refl
    go false f = rw (e, f)

settled_twice : (c : Control) → settled (settled c) ≡ settled c
unfolding settled
settled_twice c = settled_by_lem c.state.request c refl

pub settle_good : (k : Core) → Good (settled_core k)
settle_good k = ap (λ (c : Control). with_control k c) (settled_twice k.control)

pub good_power : Good power_on_core
unfolding power_on_core settled
good_power = refl

pub good_acted : (a : Act) (k : Core) → Good k → Good (acted a k)
good_acted Rest k g = settle_good k
good_acted ResetAll k g = settle_good (reset_core k)
good_acted (Fetch a) k g = settle_good k
good_acted (Store a v) k g = settle_good (stored k a v)
good_acted (Modify a m v) k g = settle_good (modified k a m v)
good_acted (RequestToSend m) k g = settle_good (with_control k (requested_to_send k.control m))
good_acted (ClearFlag n) k g = settle_good (with_control k (cleared_of k.control n))
good_acted FetchStatus k g = settle_good k
good_acted FetchRxStatus k g = settle_good k
good_acted (Refuse n) k g = g

pub good_event : (k : Core) (r : List ℕ) → Good k → Good (event_of k r).core
unfolding event_of
good_event k r g = go (eqb (event_refusal k.control r) accepted)
  where
    go : (b : Bool) → Good (cond b (told_of (happens_by (kind_of r) k r)) (refused_by (event_refusal k.control r) k)).core
    go true = settle_good (happens_by (kind_of r) k r).core
    go false = g
