-- The entries that are left, and those that have come. Assumes nothing.
use mathlib.Core.Path.{◌≡◌, refl, sym, ap, ◌∙◌}
use mathlib.Core.Bool.{Bool, true, false, cond, not, ◌&&◌, ◌||◌}
use mathlib.Core.List.{List, [], ◌∷◌, ◌++◌}
use Prim.Native.Nat.{ℕ, zero, suc, ◌+◌, ◌*◌, ◌-◌, ◌/◌, ◌≤◌, ◌<◌, max}
use native.Mathlib.Omega.{arith}
use lib.Dec.{leb, ltb}
use lib.ListN.{length, take, drop, length-drop}
use lib.Seq.{drop-drop, length-take-le}
use borrow.Author.Tests.{lt-ltb, le-leb, lt-leb, leb-true, leb-false, ltb-true}
use Rattle.records.specs.Records.{kind_of, is_event}
use Rattle.spi.proofs.Clash.{clash}
use Rattle.load_rules.specs.Load.{events_in, gap_before}
use Rattle.mcp2515.proofs.CoreKept.{either}
use Rattle.profile_loader.proofs.Logs.{Sized, sized_none, sized_cons}
use Rattle.profile_loader.specs.Gaps.{entry_size, Timed, place_of, timed_of, entries_from, entries_in, is_bus_event, has_come, due, not_due, left_before, gaps_of, goes_by, start_at, entries_left}

-- the first of the entries that are left
pub left_next : (b : List ℕ) (n : ℕ) → 0 < n → n ≤ length b / entry_size
    → entries_left b n ≡ timed_of (drop (start_at b n) b) ∷ entries_left b (n - 1)
unfolding entries_from
left_next b zero more fits = absurd (omega arith)
left_next b (suc n) more fits =
    let less : suc n - 1 ≡ n = omega arith in
    let next : start_at b (suc n) + entry_size ≡ start_at b n = omega arith in
    ap (λ (l : List ℕ). timed_of (drop (start_at b (suc n)) b) ∷ entries_from n l) (drop-drop entry_size (start_at b (suc n)) b ∙ ap (λ (k : ℕ). drop k b) next)
    ∙ ap (λ (k : ℕ). timed_of (drop (start_at b (suc n)) b) ∷ entries_left b k) (sym less)

-- 0 counts as 1
pub come : (n p : ℕ) → (ltb 0 n && leb p n) ≡ leb (max 1 p) n
come n p = go (leb (max 1 p) n) refl
  where
    late : (b : Bool) → ltb 0 n ≡ b → n < max 1 p → (b && leb p n) ≡ false
    late true e h = lt-leb p n (omega (arith, ltb-true 0 n e))
    late false e h = refl

    go : (b : Bool) → leb (max 1 p) n ≡ b → (ltb 0 n && leb p n) ≡ leb (max 1 p) n
    go true e = let h = leb-true (max 1 p) n e in rw (e, lt-ltb 0 n (omega arith), le-leb p n (omega arith))
    go false e = rw e (late (ltb 0 n) refl (leb-false (max 1 p) n e))

-- by the record and the place of the first
pub goes : (b : List ℕ) (n left at : ℕ) (r : List ℕ) → 0 < left → left ≤ length b / entry_size → at ≡ start_at b left → r ≡ take 16 (drop 4 (drop at b))
    → goes_by n (entries_left b left) ≡ (not (is_event (kind_of r)) || leb (max 1 (place_of (drop at b))) n)
goes b n left at r more fits p q = rw (left_next b left more fits, q, p)

pub some_left : (b : List ℕ) (n left : ℕ) → goes_by n (entries_left b left) ≡ true → 0 < left
unfolding entries_from
some_left b n zero h = clash (sym h)
some_left b n (suc left) h = omega arith

-- the first comes, or is passed over
pub gone_by : (n : ℕ) (e : Timed) (es : List Timed) → goes_by n (e ∷ es) ≡ true
    → (due n (e ∷ es) ≡ events_in (e.rec ∷ []) ++ due n es) × (not_due n (e ∷ es) ≡ not_due n es)
unfolding due not_due events_in
gone_by n e es h = go (is_bus_event e) refl (has_come n e) refl
  where
    go : (a : Bool) → is_bus_event e ≡ a → (b : Bool) → has_come n e ≡ b → (due n (e ∷ es) ≡ events_in (e.rec ∷ []) ++ due n es) × (not_due n (e ∷ es) ≡ not_due n es)
    go true p true q = rw (p, q) (refl, refl)
    go true p false q = clash (sym (rw (p, q) at h))
    go false p b q = rw p (refl, refl)

-- .. or holds up all
pub held_up : (n : ℕ) (es : List Timed) → goes_by n es ≡ false → (due n es ≡ []) × (not_due n es ≡ es)
unfolding due not_due
held_up n [] h = (refl, refl)
held_up n (e ∷ es) h = go (is_bus_event e) refl (has_come n e) refl
  where
    go : (a : Bool) → is_bus_event e ≡ a → (b : Bool) → has_come n e ≡ b → (due n (e ∷ es) ≡ []) × (not_due n (e ∷ es) ≡ e ∷ es)
    go true p true q = clash (rw (p, q) at h)
    go true p false q = rw (p, q) (refl, refl)
    go false p b q = clash (rw p at h)

-- ---- the records that are due
pub sized_due : (n m : ℕ) (b : List ℕ) → m * entry_size ≤ length b → Sized (due n (entries_from m b))
unfolding entries_from due
sized_due n zero b h = sized_none
sized_due n (suc m) b h =
    let e = timed_of b in
    let rest = due n (entries_from m (drop entry_size b)) in
    let sized = sized_due n m (drop entry_size b) (rw length-drop (omega arith)) in
    let whole : length e.rec ≡ 16 = length-take-le 16 (drop 4 b) (rw length-drop (omega arith)) in
    either Sized (is_bus_event e) {x = cond (has_come n e) (e.rec ∷ rest) []} {y = rest}
    (either Sized (has_come n e) {x = e.rec ∷ rest} {y = []} (sized_cons e.rec rest whole sized) sized_none) sized

pub sized_left : (n : ℕ) (b : List ℕ) (left : ℕ) → left ≤ length b / entry_size → Sized (due n (entries_left b left))
sized_left n b left h = sized_due n left (drop (start_at b left) b) (rw length-drop (omega arith))

-- they are events
due_events : (n : ℕ) (es : List Timed) → events_in (due n es) ≡ due n es
unfolding due events_in
due_events n [] = refl
due_events n (e ∷ es) = go (due_events n es) (is_bus_event e) refl (has_come n e) refl
  where
    go : events_in (due n es) ≡ due n es → (a : Bool) → is_bus_event e ≡ a → (b : Bool) → has_come n e ≡ b → events_in (due n (e ∷ es)) ≡ due n (e ∷ es)
    go rest true p true q = simp (p, q, rest)
    go rest true p false q = simp (p, q)
    go rest false p b q = simp (p, rest)

-- none before the first command
none_first : (es : List Timed) → due 0 es ≡ []
unfolding due
none_first [] = refl
none_first (e ∷ es) =
    let late : has_come 0 e ≡ false = lt-leb (max 1 e.place) 0 (omega arith) in
    either (λ (rs : List (List ℕ)). rs ≡ []) (is_bus_event e) {x = cond (has_come 0 e) (e.rec ∷ due 0 es) []} {y = due 0 es} (rw late) (none_first es)

pub gap_due : (es : List Timed) (n : ℕ) → gap_before (gaps_of es) n ≡ due n (left_before n es)
unfolding left_before
gap_due es zero = sym (none_first es)
gap_due es (suc n) = due_events (suc n) (not_due n (left_before n es))

-- at first all are left
pub all_left : (b : List ℕ) → entries_left b (length b / entry_size) ≡ entries_in b
all_left b =
    let start : start_at b (length b / entry_size) ≡ 0 = omega arith in
    rw start
