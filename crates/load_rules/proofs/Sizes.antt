-- Every chip that a run reaches has 48 bytes for the rows of filters and masks. Assumes nothing.
use mathlib.Core.Path.{◌≡◌, refl, ap, ◌∙◌}
use mathlib.Core.List.{List, [], ◌∷◌}
use Prim.Native.Nat.{ℕ, suc, ◌%◌}
use lib.ListN.{length, length-set}
use Rattle.records.specs.Records.{kind_of, is_event}
use Rattle.registers.specs.declared.Region.{Region}
use Rattle.registers.specs.declared.Region.TheVariants.{Filters, Masks, Configured, Bfpctrl, Txrtsctrl, Tec, Rec, Caninte, Canintf, Eflg, Canstat, Canctrl, TxCtrl, TxMessage, RxCtrl, RxMessage}
use Rattle.registers.specs.declared.Core.{Core}
use Rattle.registers.specs.Registers.{region_of, power_on_core, kept_from, reset_core}
use Rattle.stores.specs.Store.{stored_in, stored, modified}
use Rattle.spi.specs.declared.Act.{Act}
use Rattle.spi.specs.declared.Act.TheVariants.{Rest, ResetAll, Fetch, Store, Modify, RequestToSend, ClearFlag, FetchStatus, FetchRxStatus, Refuse}
use Rattle.spi.specs.Instructions.{acted}
use Rattle.mcp2515.specs.declared.Chip.{Chip}
use Rattle.mcp2515.specs.declared.Stepped.{Stepped}
use Rattle.mcp2515.specs.Step.{power_on, asked, step_of, next_chip, chip_after}
use Rattle.mcp2515.proofs.CoreKept.{either, event_kept}
use Rattle.load_rules.specs.Laws.{IsWhole}

abbrev Sized : Core → Core → Type 0
Sized k j = length j.config ≡ length k.config

kept_size : (a : ℕ) (l : List ℕ) → length (kept_from a l) ≡ length l
unfolding kept_from
kept_size a [] = refl
kept_size a (x ∷ xs) = ap suc (kept_size (suc a) xs)

stored_size : (g : Region) (k : Core) (a v : ℕ) → Sized k (stored_in g k a v)
stored_size Filters k a v = length-set k.config (a % 48) _
stored_size Masks k a v = length-set k.config (a % 48) _
stored_size Configured k a v = length-set k.config (a % 48) _
stored_size Bfpctrl k a v = length-set k.config (a % 48) _
stored_size Txrtsctrl k a v = length-set k.config (a % 48) _
stored_size Tec k a v = refl
stored_size Rec k a v = refl
stored_size Caninte k a v = refl
stored_size Canintf k a v = refl
stored_size Eflg k a v = refl
stored_size Canstat k a v = refl
stored_size Canctrl k a v = refl
stored_size (TxCtrl b) k a v = refl
stored_size (TxMessage b) k a v = refl
stored_size (RxCtrl b) k a v = refl
stored_size RxMessage k a v = refl

acted_size : (x : Act) (k : Core) → Sized k (acted x k)
unfolding stored modified reset_core
acted_size Rest k = refl
acted_size ResetAll k = kept_size 0 k.config
acted_size (Fetch a) k = refl
acted_size (Store a v) k = stored_size (region_of (a % 128)) k (a % 128) v
acted_size (Modify a m v) k = stored_size (region_of (a % 128)) k (a % 128) _
acted_size (RequestToSend m) k = refl
acted_size (ClearFlag n) k = refl
acted_size FetchStatus k = refl
acted_size FetchRxStatus k = refl
acted_size (Refuse n) k = refl

step_size : (c : Chip) (r : List ℕ) → Sized c.core (next_chip c r).core
unfolding step_of
step_size c r =
    either (λ (s : Stepped). Sized c.core s.chip.core) (is_event (kind_of r)) (ap length (event_kept c.core r).config) (acted_size (asked c.select r) c.core)

run_size : (c : Chip) (rs : List (List ℕ)) → Sized c.core (chip_after c rs).core
unfolding chip_after
run_size c [] = refl
run_size c (r ∷ rs) = run_size (next_chip c r) rs ∙ step_size c r

pub whole_reached : (rs : List (List ℕ)) → IsWhole (chip_after power_on rs)
unfolding power_on power_on_core
whole_reached rs = run_size power_on rs
