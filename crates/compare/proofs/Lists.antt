-- Laws of the list of differences. Assumes nothing.
use mathlib.Core.Path.{◌≡◌, refl, ap, ◌∙◌}
use mathlib.Core.Bool.{Bool, true, false, ◌&&◌}
use mathlib.Core.List.{List, []}
use Prim.Native.Nat.{ℕ, zero, suc, ◌+◌, ◌*◌, ◌<◌, ◌≤◌, min}
use native.Mathlib.Omega.{arith}
use borrow.Author.Tests.{lt-ltb, le-ltb, eq-eqb, ne_eqb}
use lib.Dec.{ltb, leb-suc-suc}
use lib.ListN.{length, take, drop}
use lib.Seq.{drop-drop}
use Rattle.records.specs.declared.Outcome.{Outcome}
use Rattle.mcp2515.specs.declared.Chip.{Chip}
use Rattle.mcp2515.specs.Step.{power_on, outcome, next_chip}
use Rattle.bus_log.specs.Log.{record_size, steps_of, last_chip}
use Rattle.compare.specs.Compare.{differs, Difference, item_if, differences_from, differences_of, records_in_both, NoneWithItself, swapped, all_swapped, SwappedLogs, rises_from, NumbersRise, told_after, differs_after, is_listed, ListedWhereDiffers, items_from, ToldByOwnRuns}
use Rattle.compare.proofs.Tests.{differs_itself, differs_swap}
use Rattle.compare.proofs.Runs.{chip_next}

none : (n k : ℕ) (c : Chip) (a : List ℕ) → differences_from n k c c a a ≡ []
unfolding differences_from
none zero k c a = refl
none (suc n) k c a =
    let r = take record_size a in
    ap (λ (t : Bool). item_if t (record { number = suc k; first = outcome c r; second = outcome c r }) (differences_from n (suc k) (next_chip c r) (next_chip c r) (drop record_size a) (drop record_size a))) (differs_itself r (outcome c r))
    ∙ none n (suc k) (next_chip c r) (drop record_size a)

pub none_with_itself : NoneWithItself
unfolding differences_of
none_with_itself a = none (records_in_both a a) 0 power_on a

swap_item : (t : Bool) (x : Difference) (ds : List Difference) → item_if t (swapped x) (all_swapped ds) ≡ all_swapped (item_if t x ds)
unfolding all_swapped
swap_item true x ds = refl
swap_item false x ds = refl

swap : (n k : ℕ) (c d : Chip) (a b : List ℕ) → differences_from n k d c b a ≡ all_swapped (differences_from n k c d a b)
unfolding differences_from all_swapped
swap zero k c d a b = refl
swap (suc n) k c d a b =
    let r = take record_size a in
    let s = take record_size b in
    let x : Difference = record { number = suc k; first = outcome c r; second = outcome d s } in
    let rest = differences_from n (suc k) (next_chip c r) (next_chip d s) (drop record_size a) (drop record_size b) in
    ap (λ (ds : List Difference). item_if (differs s (outcome d s) r (outcome c r)) (swapped x) ds) (swap n (suc k) (next_chip c r) (next_chip d s) (drop record_size a) (drop record_size b))
    ∙ ap (λ (t : Bool). item_if t (swapped x) (all_swapped rest)) (differs_swap s r (outcome d s) (outcome c r))
    ∙ swap_item (differs r (outcome c r) s (outcome d s)) x rest

pub swapped_logs : SwappedLogs
unfolding differences_of
swapped_logs a b =
    let same : min (length b) (length a) ≡ min (length a) (length b) = omega arith in
    rw same (swap (records_in_both a b) 0 power_on power_on a b)

rise_item : (t : Bool) (m k : ℕ) (x : Difference) (ds : List Difference) → x.number ≡ suc k → m ≤ k
    → ((j : ℕ) → j ≤ suc k → rises_from j ds ≡ true) → rises_from m (item_if t x ds) ≡ true
unfolding rises_from
rise_item true m k x ds e h rest = rw (e, lt-ltb m (suc k) (omega arith), rest (suc k) (omega arith))
rise_item false m k x ds e h rest = rest m (omega arith)

rise : (n m k : ℕ) (c d : Chip) (a b : List ℕ) → m ≤ k → rises_from m (differences_from n k c d a b) ≡ true
unfolding differences_from rises_from
rise zero m k c d a b h = refl
rise (suc n) m k c d a b h =
    let r = take record_size a in
    let s = take record_size b in
    rise_item (differs r (outcome c r) s (outcome d s)) m k (record { number = suc k; first = outcome c r; second = outcome d s })
    (differences_from n (suc k) (next_chip c r) (next_chip d s) (drop record_size a) (drop record_size b)) refl h
    (λ (j : ℕ) (less : j ≤ suc k). rise n j (suc k) (next_chip c r) (next_chip d s) (drop record_size a) (drop record_size b) less)

pub numbers_rise : NumbersRise
unfolding differences_of
numbers_rise a b = rise (records_in_both a b) 0 0 power_on power_on a b (omega arith)

module _ (a b : List ℕ) where
  own : (n k : ℕ)
      → differences_from n k (last_chip power_on (steps_of k power_on a)) (last_chip power_on (steps_of k power_on b)) (drop (k * record_size) a) (drop (k * record_size) b)
      ≡ items_from n k (differs_after a b) (λ before. record { number = suc before; first = told_after a before; second = told_after b before })
  unfolding differences_from items_from
  own zero k = refl
  own (suc n) k =
      let next : k * record_size + record_size ≡ suc k * record_size = omega arith in
      ap (λ (ds : List Difference). item_if (differs_after a b k) (record { number = suc k; first = told_after a k; second = told_after b k }) ds)
      (rw (drop-drop record_size (k * record_size) a, drop-drop record_size (k * record_size) b, next, ← chip_next k power_on a, ← chip_next k power_on b) (own n (suc k)))

pub told_by_own_runs : ToldByOwnRuns
unfolding differences_of steps_of last_chip
told_by_own_runs a b = own a b (records_in_both a b) 0

module _ (test : ℕ → Bool) (o p : ℕ → Outcome) where
  abbrev item : ℕ → Difference
  item k = record { number = suc k; first = o k; second = p k }

  skip_item : (t : Bool) (k m : ℕ) (ds : List Difference) → (k ≡ m → ⊥) → is_listed (suc m) (item_if t (item k) ds) ≡ is_listed (suc m) ds
  unfolding is_listed
  skip_item true k m ds h = rw (ne_eqb (suc k) (suc m) (λ e. h (omega arith)))
  skip_item false k m ds h = refl

  -- numbers below the first are not listed
  below : (n k m : ℕ) → m < k → is_listed (suc m) (items_from n k test item) ≡ false
  unfolding items_from is_listed
  below zero k m h = refl
  below (suc n) k m h =
      skip_item (test k) k m (items_from n (suc k) test item) (λ e. omega arith) ∙ below n (suc k) m (omega arith)

  at_item : (t : Bool) (k : ℕ) (ds : List Difference) → is_listed (suc k) ds ≡ false → is_listed (suc k) (item_if t (item k) ds) ≡ t
  unfolding is_listed
  at_item true k ds h = rw (eq-eqb (suc k) (suc k) refl)
  at_item false k ds h = h

  listed : (j n k : ℕ) → is_listed (suc (k + j)) (items_from n k test item) ≡ (ltb j n && test (k + j))
  unfolding items_from is_listed
  listed j zero k = rw (le-ltb j 0 (omega arith))
  listed zero (suc n) k =
      let same : k + 0 ≡ k = omega arith in
      rw (same, lt-ltb 0 (suc n) (omega arith)) (at_item (test k) k (items_from n (suc k) test item) (below n (suc k) k (omega arith)))
  listed (suc j) (suc n) k =
      let same : k + suc j ≡ suc k + j = omega arith in
      let less : ltb (suc j) (suc n) ≡ ltb j n = leb-suc-suc (suc j) n in
      rw (same, less) (skip_item (test k) k (suc k + j) (items_from n (suc k) test item) (λ e. omega arith) ∙ listed j n (suc k))

pub listed_where_differs : ListedWhereDiffers
listed_where_differs a b before =
    let same : 0 + before ≡ before = omega arith in
    ap (λ (ds : List Difference). is_listed (suc before) ds) (told_by_own_runs a b)
    ∙ rw same at (listed (differs_after a b) (told_after a) (told_after b) before (records_in_both a b) 0)
