-- The facts of the core that demand 3 rests on. Assumes nothing.
use mathlib.Core.Bool.{true, false, not}
use mathlib.Core.Path.{◌≡◌, ◌∙◌, sym, ap}
use mathlib.Core.List.{List}
use Prim.Native.Nat.{ℕ}
use borrow.Author.Tests.{not-true}
use Rattle.registers.specs.declared.RxBuffer.{RxBuffer}
use Rattle.registers.specs.declared.TxBuffer.{TxBuffer}
use Rattle.registers.specs.declared.Core.{Core}
use Rattle.registers.specs.State.{with_tx_bytes, level_of}
use Rattle.registers.specs.Registers.{reads}
use Rattle.controller.specs.Events.{Told, falls_enabled, event_of}
use Rattle.spi.specs.declared.Act.TheVariants.{Store}
use Rattle.spi.specs.Instructions.{acted}
use Rattle.receiving.specs.Receiving.{is_full}
use Rattle.mcp2515.specs.Moments.{is_free}
use Rattle.mcp2515.proofs.CoreFacts.{Good, asks, RxByte, TxByte, CoreFacts}
use Rattle.mcp2515.proofs.CoreSettle.{good_power, good_acted, good_event}
use Rattle.mcp2515.proofs.CoreKept.{event_kept}
use Rattle.mcp2515.proofs.CoreRegions.{rx-reads}
use Rattle.mcp2515.proofs.CoreBytes.{told_with, bytes_put, acted_put, event_put}

free_event : (k : Core) (r : List ℕ) (b : TxBuffer) → asks k r b ≡ false → is_free k b ≡ true → is_free (event_of k r).core b ≡ true
free_event k r b n h = ap not ((event_kept k r).control.free b n (not-true _ h))

fetch_event : (k : Core) (r : List ℕ) (b : RxBuffer) (a : ℕ) → is_full k.control b ≡ true → RxByte b a → reads (event_of k r).core a ≡ reads k a
fetch_event k r b a h t = rx-reads (event_of k r).core b a t ∙ (event_kept k r).rx b a h t ∙ sym (rx-reads k b a t)

-- ---- a store into a free buffer and an event, in either order
module _ (k : Core) (r : List ℕ) (b : TxBuffer) (a v : ℕ) (g : Good k) (free : is_free k b ≡ true) (t : TxByte b a) where
  told : event_of (acted (Store a v) k) r ≡ told_with (bytes_put k.tx a v) (event_of k r)
  told = rw (acted_put k b a v g free t) (event_put k r b a v free t)

  -- the store moves no pin and enables none
  store_asks : asks (acted (Store a v) k) r b ≡ asks k r b
  store_asks =
      ap (λ (x : Told). falls_enabled (acted (Store a v) k) b (level_of x.core.pins b)) told
      ∙ ap (λ (j : Core). falls_enabled j b (level_of (event_of k r).core.pins b)) (acted_put k b a v g free t)

  store_event : asks k r b ≡ false → (event_of (acted (Store a v) k) r).core ≡ acted (Store a v) (event_of k r).core
  store_event n =
      ap (λ (x : Told). x.core) told
      ∙ ap (λ (l : List ℕ). with_tx_bytes (event_of k r).core (bytes_put l a v)) (sym (event_kept k r).tx)
      ∙ sym (acted_put (event_of k r).core b a v (good_event k r g) (free_event k r b n free) t)

pub facts : CoreFacts
facts = record {
  good_power = good_power;
  good_acted = good_acted;
  good_event = good_event;
  full_event = λ k r b h. (event_kept k r).control.full b h;
  free_event = free_event;
  fetch_event = fetch_event;
  store_free = λ k b a v g free t. ap (λ (j : Core). is_free j b) (acted_put k b a v g free t) ∙ free;
  store_refusal = λ k r b a v g free t. ap (λ (x : Told). x.refusal) (told k r b a v g free t);
  store_answer = λ k r b a v g free t. ap (λ (x : Told). x.answer) (told k r b a v g free t);
  store_set = λ k r b a v g free t. ap (λ (x : Told). x.matched) (told k r b a v g free t);
  store_asks = store_asks;
  store_event = store_event;
}
