-- Demand 3 from the laws of the chip: records move past events one by one until the list is tidied. Assumes nothing.
use Rattle.std.proofs.Common.{Option, Some, None}
use mathlib.Core.Bool.{Bool, true, false, cond, ◌&&◌}
use mathlib.Core.List.{List, [], ◌∷◌, ◌++◌, append_assoc, append-nil}
use mathlib.Core.Path.{◌≡◌, refl, sym, ap, ap₂, subst, ◌∙◌}
use Prim.Native.Nat.{ℕ, zero, suc, ◌+◌, ◌≤◌, ◌<◌}
use lib.ListN.{length}
use lib.Seq.{append_snoc}
use lib.Dec.{eqb, leb, leb→le}
use native.Mathlib.Omega.{arith}
use Rattle.records.specs.declared.Kind.{Kind}
use Rattle.records.specs.declared.Kind.TheVariants.{SelectLow, Exchange, SelectHigh, FrameHeard, BusIdle, FrameEnds, ReceiveError, Recovery, PinLevel}
use Rattle.records.specs.Records.{byte_at, kind_of, is_event}
use Rattle.spi.specs.declared.Speaker.{Speaker}
use Rattle.spi.specs.declared.Command.{Command}
use Rattle.mcp2515.specs.declared.Chip.{Chip}
use Rattle.spi.specs.Instructions.{command_by}
use Rattle.records.specs.declared.Outcome.{Outcome}
use Rattle.mcp2515.specs.Step.{power_on, speaker_in, next_chip, outcome, chip_after, outcomes}
use Rattle.mcp2515.specs.Moments.{Role, event, low, exchange, high, other, accepted_role, role_of, is_event_role, is_low, is_high, Entry, role_in, trace, most, moment_of, allowed, listed_by, listed, events, others, bytes, before, after, placed, session, outside, inside, tidy_from, tidy, records, outs, Demand3For}

-- How far a session has come: no exchange yet, or j exchanges behind the first, which named this command.
pub data Stage : Type 0 where
  fresh : Stage
  sofar : Command → ℕ → Stage

-- Of a session's inside: neither an event nor an exchange nor the end.
abbrev pub is_other : Role → Bool
is_other event = false
is_other low = true
is_other exchange = false
is_other high = false
is_other other = true

abbrev pub Event : List ℕ → Type 0
Event e = is_event (kind_of e) ≡ true

-- The role of the record r at the chip c.
abbrev pub role_at : Chip → List ℕ → Role
role_at c r = role_of r (outcome c r)

-- The command that the record r opens in the session that began with this entry.
abbrev pub named : Entry → List ℕ → Command
named l r = command_by (speaker_in l.rec) (byte_at r 1)

-- The record r met by the chip c.
abbrev pub entry : Chip → List ℕ → Entry
entry c r = record { met = c; rec = r; out = outcome c r }

-- At the chip c the record r and the event e may change places.
pub record Swap (c : Chip) (r e : List ℕ) : Type 0 where
  pub first : outcome (next_chip c e) r ≡ outcome c r
  pub second : outcome (next_chip c r) e ≡ outcome c e
  pub both : next_chip (next_chip c r) e ≡ next_chip (next_chip c e) r

pub record Laws (extra : ℕ) : Type 1 where
  -- what holds of every chip reached from power-on
  pub Good : Chip → Type 0
  pub good_start : Good power_on
  pub good_next : (c : Chip) (r : List ℕ) → Good c → Good (next_chip c r)
  -- the record may change places with these events that follow it, one after the other
  pub Calm : Chip → List ℕ → List Entry → Type 0
  pub calm_swap : (c : Chip) (r : List ℕ) (e : Entry) (es : List Entry) → Good c → Event e.rec → Calm c r (e ∷ es) → Swap c r e.rec
  pub calm_event : (c : Chip) (r : List ℕ) (e : Entry) (es : List Entry) → Good c → Event e.rec → Calm c r (e ∷ es)
      → Calm (next_chip c e.rec) r es
  -- the record does not touch what an event looks at
  pub Quiet : Chip → List ℕ → Type 0
  pub quiet_calm : (c : Chip) (r : List ℕ) (es : List Entry) → Quiet c r → Calm c r es
  pub quiet_back : (c : Chip) (r e : List ℕ) → Good c → Event e → Quiet (next_chip c e) r → Quiet c r
  -- run from the chip, these events ask for nothing that the command forbids
  pub Spared : Command → Chip → List Entry → Type 0
  pub spared_none : (m : Command) (c : Chip) → Spared m c []
  -- the chip c of a session that began with the entry l₀, has the inside s₀ and has come so far, with s still to come, as long as the
  -- session is listed
  pub Inside : Entry → List Entry → Stage → Chip → List Entry → Type 0
  pub inside_low : (c : Chip) (s : List Entry) (r : List ℕ) → Good c → role_at c r ≡ low
      → Inside (entry c r) s fresh (next_chip c r) s × ((es : List Entry) → Calm c r es)
  pub inside_event : (l₀ : Entry) (s₀ : List Entry) (σ : Stage) (c : Chip) (s : List Entry) (e : List ℕ) → Good c → Event e
      → Inside l₀ s₀ σ c (entry c e ∷ s) → Inside l₀ s₀ σ (next_chip c e) s
  pub spared_event : (l₀ : Entry) (s₀ : List Entry) (m : Command) (j : ℕ) (c : Chip) (s : List Entry) (e : List ℕ) (es : List Entry) → Event e
      → Inside l₀ s₀ (sofar m j) c (entry c e ∷ s) → Spared m (next_chip c e) es → Spared m c (entry c e ∷ es)
  pub inside_other : (l₀ : Entry) (s₀ : List Entry) (σ : Stage) (c : Chip) (s : List Entry) (r : List ℕ) → is_other (role_at c r) ≡ true
      → Inside l₀ s₀ σ c (entry c r ∷ s) → Inside l₀ s₀ σ (next_chip c r) s × Quiet c r × (next_chip c r ≡ c)
  pub inside_first : (l₀ : Entry) (s₀ : List Entry) (c : Chip) (s : List Entry) (r : List ℕ) → Good c → role_at c r ≡ exchange
      → allowed l₀.met.core s₀ (named l₀ r) ≡ true → Inside l₀ s₀ fresh c (entry c r ∷ s)
      → Inside l₀ s₀ (sofar (named l₀ r) 0) (next_chip c r) s × (0 < moment_of extra (named l₀ r) → (es : List Entry) → Calm c r es)
  pub inside_next : (l₀ : Entry) (s₀ : List Entry) (c : Chip) (s : List Entry) (m : Command) (j : ℕ) (r : List ℕ) → Good c → role_at c r ≡ exchange
      → suc j < most extra m → Inside l₀ s₀ (sofar m j) c (entry c r ∷ s)
      → Inside l₀ s₀ (sofar m (suc j)) (next_chip c r) s
      × (suc j < moment_of extra m → (es : List Entry) → Spared m (next_chip c r) es → Calm c r es × Spared m c es)
      × (moment_of extra m ≤ j → Quiet c r)
  pub inside_high : (l₀ : Entry) (s₀ : List Entry) (c : Chip) (s : List Entry) (m : Command) (j : ℕ) (r : List ℕ) → role_at c r ≡ high
      → moment_of extra m ≤ j → j < most extra m → Inside l₀ s₀ (sofar m j) c s → Quiet c r

-- ---- roles
event_only : (ρ : Role) → is_event_role ρ ≡ true → ρ ≡ event
event_only event e = refl
event_only low e = cc
event_only exchange e = cc
event_only high e = cc
event_only other e = cc

low_only : (ρ : Role) → is_low ρ ≡ true → ρ ≡ low
low_only low e = refl
low_only event e = cc
low_only exchange e = cc
low_only high e = cc
low_only other e = cc

high_only : (ρ : Role) → is_high ρ ≡ true → ρ ≡ high
high_only high e = refl
high_only event e = cc
high_only exchange e = cc
high_only low e = cc
high_only other e = cc

accepted_event : (κ : Option Kind) → accepted_role κ ≡ event → is_event κ ≡ true
accepted_event (Some SelectLow) e = cc
accepted_event (Some Exchange) e = cc
accepted_event (Some SelectHigh) e = cc
accepted_event (Some FrameHeard) e = refl
accepted_event (Some BusIdle) e = refl
accepted_event (Some FrameEnds) e = refl
accepted_event (Some ReceiveError) e = refl
accepted_event (Some Recovery) e = refl
accepted_event (Some PinLevel) e = refl
accepted_event None e = cc

-- Only an event has the role of one.
role_of_event : (κ : Option Kind) (b : Bool) → cond b (accepted_role κ) other ≡ event → is_event κ ≡ true
role_of_event κ true e = accepted_event κ e
role_of_event κ false e = cc

pub event_of_lem : (r : List ℕ) (o : Outcome) → role_of r o ≡ event → Event r
unfolding role_of
event_of_lem r o e = go (is_event (kind_of r)) refl (λ h. role_of_event (kind_of r) (eqb o.refusal 0) (rw h at e))
  where
    go : (v : Bool) → is_event (kind_of r) ≡ v → (is_event (kind_of r) ≡ false → Event r) → Event r
    go true h f = h
    go false h f = f h

none-some : (k : ℕ) → None ≡ Some k → ⊥
none-some k e = let z : ◌≡◌ {A = ℕ} 0 1 = cc in omega arith

true-false : true ≡ false → ⊥
true-false e = let z : ◌≡◌ {A = ℕ} 0 1 = cc in omega arith

-- ---- runs
-- Run from c, the records of the list get the outcomes of the list and end at d.
abbrev Fits : Chip → List Entry → Chip → Type 0
Fits c [] d = c ≡ d
Fits c (x ∷ xs) d = (outcome c x.rec ≡ x.out) × Fits (next_chip c x.rec) xs d

abbrev AllEvents : List Entry → Type 0
AllEvents [] = Unit {0}
AllEvents (x ∷ xs) = Event x.rec × AllEvents xs

all_events : (s : List Entry) → AllEvents (events s)
unfolding events
all_events [] = tt
all_events (x ∷ s) = go (is_event_role (role_in x)) refl (all_events s)
  where
    go : (b : Bool) → is_event_role (role_in x) ≡ b → AllEvents (events s) → AllEvents (events (x ∷ s))
    go true e h = rw e (event_of_lem x.rec x.out (event_only (role_in x) e), h)
    go false e h = rw e h

-- No record of the list is an accepted select high.
abbrev NoHigh : Chip → List (List ℕ) → Type 0
NoHigh c [] = Unit {0}
NoHigh c (r ∷ rs) = (is_high (role_at c r) ≡ false) × NoHigh (next_chip c r) rs

trace_snoc : (c : Chip) (qs : List (List ℕ)) (r : List ℕ) → trace c (qs ++ (r ∷ [])) ≡ trace c qs ++ (entry (chip_after c qs) r ∷ [])
unfolding trace chip_after
trace_snoc c [] r = refl
trace_snoc c (q ∷ qs) r = ap (λ (t : List Entry). entry c q ∷ t) (trace_snoc (next_chip c q) qs r)

after_snoc : (c : Chip) (qs : List (List ℕ)) (r : List ℕ) → chip_after c (qs ++ (r ∷ [])) ≡ next_chip (chip_after c qs) r
unfolding chip_after
after_snoc c [] r = refl
after_snoc c (q ∷ qs) r = after_snoc (next_chip c q) qs r

no_high_snoc : (c : Chip) (qs : List (List ℕ)) (r : List ℕ) → NoHigh c qs → is_high (role_at (chip_after c qs) r) ≡ false
    → NoHigh c (qs ++ (r ∷ []))
unfolding chip_after
no_high_snoc c [] r n e = (e, tt)
no_high_snoc c (q ∷ qs) r n e = (n.0, no_high_snoc (next_chip c q) qs r n.1 e)

-- A trace fits, and so does a trace with anything behind it that fits there.
fits_trace : (c d : Chip) (qs : List (List ℕ)) (rest : List Entry) → Fits (chip_after c qs) rest d → Fits c (trace c qs ++ rest) d
unfolding trace chip_after
fits_trace c d [] rest f = f
fits_trace c d (q ∷ qs) rest f = (refl, fits_trace (next_chip c q) d qs rest f)

open_end : (c : Chip) (qs : List (List ℕ)) → Fits c (trace c qs) (chip_after c qs)
open_end c qs = rw append-nil at (fits_trace c (chip_after c qs) qs [] refl)

fits_outcomes : (c d : Chip) (t : List Entry) → Fits c t d → (outcomes c (records t) ≡ outs t) × (chip_after c (records t) ≡ d)
unfolding outcomes chip_after records outs
fits_outcomes c d [] f = (refl, f)
fits_outcomes c d (x ∷ t) f =
    let i = fits_outcomes (next_chip c x.rec) d t f.1 in
    (ap₂ (λ (o : Outcome) (os : List Outcome). o ∷ os) f.0 i.0, i.1)

regroup : (a : List Entry) (l : Entry) (s : List Entry) (h : Entry) (z rest : List Entry)
    → a ++ (l ∷ (s ++ (h ∷ (z ++ rest)))) ≡ (a ++ (l ∷ (s ++ (h ∷ z)))) ++ rest
regroup a l s h z rest = simp append_assoc

module _ (extra : ℕ) (L : Laws extra) where
  open L use {Good, good_start, good_next, Calm, calm_swap, calm_event, Quiet, quiet_calm, quiet_back, Spared, spared_none, Inside, inside_low, inside_event, spared_event, inside_other, inside_first, inside_next, inside_high}

  -- ---- moving one record
  -- A calm record moves behind the events that follow it.
  behind : (c d : Chip) (x : Entry) (es rest : List Entry) → Good c → Calm c x.rec es → AllEvents es
      → Fits c (x ∷ (es ++ rest)) d → Fits c (es ++ (x ∷ rest)) d
  behind c d x [] rest g k a f = f
  behind c d x (e ∷ es) rest g k a f =
      let sw : Swap c x.rec e.rec = calm_swap c x.rec e es g a.0 k in (
        sym sw.second ∙ f.1.0,
        behind (next_chip c e.rec) d x es rest (good_next c e.rec g) (calm_event c x.rec e es g a.0 k) a.1
            (sw.first ∙ f.0, subst (λ (b : Chip). Fits b (es ++ rest) d) sw.both f.1.1),
      )

  -- Records that are quiet one after the other.
  abbrev QuietRun : Chip → List Entry → Type 0
  QuietRun c [] = Unit {0}
  QuietRun c (x ∷ xs) = Quiet c x.rec × QuietRun (next_chip c x.rec) xs

  -- A quiet record changes places with any event.
  quiet_swap : (c : Chip) (r e : List ℕ) → Good c → Event e → Quiet c r → Swap c r e
  quiet_swap c r e g ev q = calm_swap c r (entry c e) [] g ev (quiet_calm c r (entry c e ∷ []) q)

  quiet_run_back : (c : Chip) (e : List ℕ) (ys : List Entry) → Good c → Event e → QuietRun (next_chip c e) ys → QuietRun c ys
  quiet_run_back c e [] g ev q = tt
  quiet_run_back c e (y ∷ ys) g ev q =
      let k : Quiet c y.rec = quiet_back c y.rec e g ev q.0 in
      let sw : Swap c y.rec e = quiet_swap c y.rec e g ev k in
      (k, quiet_run_back (next_chip c y.rec) e ys (good_next c y.rec g) ev (subst (λ (b : Chip). QuietRun b ys) (sym sw.both) q.1))

  -- An event moves behind the quiet records that follow it.
  event_behind : (c d : Chip) (x : Entry) (ys rest : List Entry) → Good c → Event x.rec → QuietRun c ys
      → Fits c (x ∷ (ys ++ rest)) d → Fits c (ys ++ (x ∷ rest)) d
  event_behind c d x [] rest g ev q f = f
  event_behind c d x (y ∷ ys) rest g ev q f =
      let sw : Swap c y.rec x.rec = quiet_swap c y.rec x.rec g ev q.0 in (
        sym sw.first ∙ f.1.0,
        event_behind (next_chip c y.rec) d x ys rest (good_next c y.rec g) ev q.1
            (sw.second ∙ f.0, subst (λ (b : Chip). Fits b (ys ++ rest) d) (sym sw.both) f.1.1),
      )

  event_behind_high : (c d : Chip) (x : Entry) (ys : List Entry) (h : Entry) (rest : List Entry) → Good c → Event x.rec
      → QuietRun c (ys ++ (h ∷ [])) → Fits c (x ∷ (ys ++ (h ∷ rest))) d → Fits c (ys ++ (h ∷ (x ∷ rest))) d
  event_behind_high c d x ys h rest g ev q f =
      subst (λ (l : List Entry). Fits c l d) (append_snoc ys h (x ∷ rest))
      (event_behind c d x (ys ++ (h ∷ [])) rest g ev q (subst (λ (l : List Entry). Fits c (x ∷ l) d) (sym (append_snoc ys h rest)) f))

  -- ---- moving all events of a session
  -- After the moment: each record that is no event, and the select high h, is quiet where it stands.
  abbrev AtRest : Bool → Type 0 → Type 0 → Type 0
  AtRest true q n = n
  AtRest false q n = q × n

  abbrev Still : Chip → List Entry → Entry → Type 0
  Still c [] h = Quiet c h.rec
  Still c (x ∷ s) h = AtRest (is_event_role (role_in x)) (Quiet c x.rec) (Still (next_chip c x.rec) s h)

  -- Up to the exchange number k each record that is no event is calm where it stands; behind it all is still.
  abbrev AtReady : Role → Type 0 → Type 0 → Type 0 → Type 0
  AtReady event q n m = n
  AtReady low q n m = q × n
  AtReady exchange q n m = m
  AtReady high q n m = q × n
  AtReady other q n m = q × n

  abbrev Ready : ℕ → Chip → List Entry → Entry → Type 0
  Ready k c [] h = Unit {0}
  Ready k c (x ∷ s) h =
      AtReady (role_in x) (Calm c x.rec (events (before k s))) (Ready k (next_chip c x.rec) s h)
      (elim k [ zero ↦ Still (next_chip c x.rec) s h | suc j ↦ Calm c x.rec (events (before j s)) × Ready j (next_chip c x.rec) s h ])

  -- The events after the moment go behind select high.
  late : (c d : Chip) (s : List Entry) (h : Entry) (rest : List Entry) → Good c → Still c s h
      → Fits c (s ++ (h ∷ rest)) d → QuietRun c (others s ++ (h ∷ [])) × Fits c (others s ++ (h ∷ (events s ++ rest))) d
  unfolding events others
  late c d [] h rest g t f = ((t, tt), f)
  late c d (x ∷ s) h rest g t f = go (is_event_role (role_in x)) refl t (λ t'. late (next_chip c x.rec) d s h rest (good_next c x.rec g) t' f.1)
    where
      Goal : Type 0
      Goal = QuietRun c (others (x ∷ s) ++ (h ∷ [])) × Fits c (others (x ∷ s) ++ (h ∷ (events (x ∷ s) ++ rest))) d

      Next : Type 0
      Next = QuietRun (next_chip c x.rec) (others s ++ (h ∷ [])) × Fits (next_chip c x.rec) (others s ++ (h ∷ (events s ++ rest))) d

      go : (b : Bool) → is_event_role (role_in x) ≡ b → AtRest b (Quiet c x.rec) (Still (next_chip c x.rec) s h)
          → (Still (next_chip c x.rec) s h → Next) → Goal
      go true e t n =
          let ev : Event x.rec = event_of_lem x.rec x.out (event_only (role_in x) e) in
          let i : Next = n t in
          let q : QuietRun c (others s ++ (h ∷ [])) = quiet_run_back c x.rec (others s ++ (h ∷ [])) g ev i.0 in
          rw e (q, event_behind_high c d x (others s) h (events s ++ rest) g ev q (f.0, i.1))
      go false e t n = let i : Next = n t.1 in rw e ((t.0, i.0), (f.0, i.1))

  -- The events before the moment go to the front.
  early : (k : ℕ) (c d : Chip) (s : List Entry) (h : Entry) (rest : List Entry) → Good c → Ready k c s h
      → Fits c (s ++ (h ∷ rest)) d → Fits c (events (before k s) ++ (others s ++ (h ∷ (events (after k s) ++ rest)))) d
  unfolding events others before after
  early k c d [] h rest g r f = f
  early k c d (x ∷ s) h rest g r f =
      go (role_in x) refl k r (λ j r'. early j (next_chip c x.rec) d s h rest (good_next c x.rec g) r' f.1)
    where
      Next : ℕ → Type 0
      Next j = Fits (next_chip c x.rec) (events (before j s) ++ (others s ++ (h ∷ (events (after j s) ++ rest)))) d

      calm : (j : ℕ) → Calm c x.rec (events (before j s)) → Next j
          → Fits c (events (before j s) ++ (x ∷ (others s ++ (h ∷ (events (after j s) ++ rest))))) d
      calm j q i =
          behind c d x (events (before j s)) (others s ++ (h ∷ (events (after j s) ++ rest))) g q (all_events (before j s)) (f.0, i)

      go : (ρ : Role) → role_in x ≡ ρ → (k : ℕ)
          → AtReady ρ (Calm c x.rec (events (before k s))) (Ready k (next_chip c x.rec) s h)
          (elim k [ zero ↦ Still (next_chip c x.rec) s h | suc j ↦ Calm c x.rec (events (before j s)) × Ready j (next_chip c x.rec) s h ])
          → ((j : ℕ) → Ready j (next_chip c x.rec) s h → Next j)
          → Fits c (events (before k (x ∷ s)) ++ (others (x ∷ s) ++ (h ∷ (events (after k (x ∷ s)) ++ rest)))) d
      go event e k t n = rw (e, e) (f.0, n k t)
      go low e k t n = rw (e, e) (calm k t.0 (n k t.1))
      go high e k t n = rw (e, e) (calm k t.0 (n k t.1))
      go other e k t n = rw (e, e) (calm k t.0 (n k t.1))
      go exchange e zero t n = rw (e, e) (f.0, (late (next_chip c x.rec) d s h rest (good_next c x.rec g) t f.1).1)
      go exchange e (suc k) t n = rw (e, e) (calm k t.0 (n k t.1))

  -- ---- a listed session is ready
  still_inside : (l₀ : Entry) (s₀ : List Entry) (c : Chip) (m : Command) (j : ℕ) (qs : List (List ℕ)) (h : List ℕ) → Good c → NoHigh c qs
      → role_at (chip_after c qs) h ≡ high → moment_of extra m ≤ j → j + length (bytes (trace c qs)) < most extra m
      → Inside l₀ s₀ (sofar m j) c (trace c qs) → Still c (trace c qs) (entry (chip_after c qs) h)
  unfolding trace chip_after bytes
  still_inside l₀ s₀ c m j [] h g n eh p le i = inside_high l₀ s₀ c [] m j h eh p (omega arith) i
  still_inside l₀ s₀ c m j (r ∷ qs) h g n eh p le i =
      go (role_at c r) refl (λ j' p' t l. still_inside l₀ s₀ (next_chip c r) m j' qs h (good_next c r g) n.1 eh p' l t)
    where
      s : List Entry
      s = trace (next_chip c r) qs

      Next : Type 0
      Next = Still (next_chip c r) (trace (next_chip c r) qs) (entry (chip_after (next_chip c r) qs) h)

      go : (ρ : Role) → role_at c r ≡ ρ
          → ((j' : ℕ) → moment_of extra m ≤ j' → Inside l₀ s₀ (sofar m j') (next_chip c r) (trace (next_chip c r) qs)
          → j' + length (bytes (trace (next_chip c r) qs)) < most extra m → Next)
          → Still c (trace c (r ∷ qs)) (entry (chip_after c (r ∷ qs)) h)
      go event e k = rw e (k j p (inside_event l₀ s₀ (sofar m j) c s r g (event_of_lem r (outcome c r) e) i) (rw e at le))
      go low e k = let w = inside_other l₀ s₀ (sofar m j) c s r (rw e) i in rw e (w.1, k j p w.0 (rw e at le))
      go other e k = let w = inside_other l₀ s₀ (sofar m j) c s r (rw e) i in rw e (w.1, k j p w.0 (rw e at le))
      go high e k = absurd (true-false (rw e at n.0))
      go exchange e k =
          let l : j + suc (length (bytes (trace (next_chip c r) qs))) < most extra m = rw e at le in
          let w = inside_next l₀ s₀ c s m j r g e (omega arith) i in
          rw e (w.2 p, k (suc j) (omega arith) w.0 (omega arith))

  -- .. and its events before the moment are spared
  abbrev Prepared : ℕ → Command → Chip → List Entry → Entry → Type 0
  Prepared k m c s h = Ready k c s h × Spared m c (events (before k s))

  ready_inside : (l₀ : Entry) (s₀ : List Entry) (c : Chip) (m : Command) (j k : ℕ) (qs : List (List ℕ)) (h : List ℕ) → Good c → NoHigh c qs
      → role_at (chip_after c qs) h ≡ high → suc j + k ≡ moment_of extra m → j + length (bytes (trace c qs)) < most extra m
      → Inside l₀ s₀ (sofar m j) c (trace c qs) → Prepared k m c (trace c qs) (entry (chip_after c qs) h)
  unfolding trace chip_after bytes events before
  ready_inside l₀ s₀ c m j k [] h g n eh p le i = (tt, spared_none m c)
  ready_inside l₀ s₀ c m j k (r ∷ qs) h g n eh p le i =
      go (role_at c r) refl k p (λ j' k' p' t l. ready_inside l₀ s₀ (next_chip c r) m j' k' qs h (good_next c r g) n.1 eh p' l t)
    where
      s : List Entry
      s = trace (next_chip c r) qs

      same : (k : ℕ) → next_chip c r ≡ c → Spared m (next_chip c r) (events (before k s)) → Spared m c (events (before k s))
      same k e t = subst (λ (d : Chip). Spared m d (events (before k s))) e t

      go : (ρ : Role) → role_at c r ≡ ρ → (k : ℕ) → suc j + k ≡ moment_of extra m
          → ((j' k' : ℕ) → suc j' + k' ≡ moment_of extra m → Inside l₀ s₀ (sofar m j') (next_chip c r) (trace (next_chip c r) qs)
          → j' + length (bytes (trace (next_chip c r) qs)) < most extra m
          → Prepared k' m (next_chip c r) (trace (next_chip c r) qs) (entry (chip_after (next_chip c r) qs) h))
          → Prepared k m c (trace c (r ∷ qs)) (entry (chip_after c (r ∷ qs)) h)
      go event e k p f =
          let ev : Event r = event_of_lem r (outcome c r) e in
          let t = f j k p (inside_event l₀ s₀ (sofar m j) c s r g ev i) (rw e at le) in
          rw (e, e) (t.0, spared_event l₀ s₀ m j c s r (events (before k s)) ev i t.1)
      go low e k p f =
          let w = inside_other l₀ s₀ (sofar m j) c s r (rw e) i in
          let t = f j k p w.0 (rw e at le) in
          rw (e, e) ((quiet_calm c r (events (before k s)) w.1, t.0), same k w.2 t.1)
      go other e k p f =
          let w = inside_other l₀ s₀ (sofar m j) c s r (rw e) i in
          let t = f j k p w.0 (rw e at le) in
          rw (e, e) ((quiet_calm c r (events (before k s)) w.1, t.0), same k w.2 t.1)
      go high e k p f = absurd (true-false (rw e at n.0))
      go exchange e zero p f =
          let l : j + suc (length (bytes (trace (next_chip c r) qs))) < most extra m = rw e at le in
          let w = inside_next l₀ s₀ c s m j r g e (omega arith) i in
          rw e (still_inside l₀ s₀ (next_chip c r) m (suc j) qs h (good_next c r g) n.1 eh (omega arith) (omega arith) w.0, spared_none m c)
      go exchange e (suc k) p f =
          let l : j + suc (length (bytes (trace (next_chip c r) qs))) < most extra m = rw e at le in
          let w = inside_next l₀ s₀ c s m j r g e (omega arith) i in
          let t = f (suc j) k (omega arith) w.0 (omega arith) in
          let q = w.1 (omega arith) (events (before k s)) t.1 in
          rw (e, e) ((q.0, t.0), q.1)

  -- the moment of a session by its select low, its inside and its bytes
  abbrev listed_in : Entry → List Entry → List ℕ → Option ℕ
  listed_in l s bs = listed_by extra (speaker_in l.rec) l.met s bs

  listed_cons : (p : Speaker) (c : Chip) (s : List Entry) (b : ℕ) (bs : List ℕ) (k : ℕ) → listed_by extra p c s (b ∷ bs) ≡ Some k
      → (length (b ∷ bs) ≤ most extra (command_by p b)) × (allowed c.core s (command_by p b) ≡ true) × (moment_of extra (command_by p b) ≡ k)
  unfolding listed_by
  listed_cons p c s b bs k e = go (leb (length (b ∷ bs)) (most extra (command_by p b))) refl (allowed c.core s (command_by p b)) refl e
    where
      go : (x : Bool) → leb (length (b ∷ bs)) (most extra (command_by p b)) ≡ x → (y : Bool) → allowed c.core s (command_by p b) ≡ y
          → cond (x && y) (Some (moment_of extra (command_by p b))) None ≡ Some k
          → (length (b ∷ bs) ≤ most extra (command_by p b)) × (allowed c.core s (command_by p b) ≡ true) × (moment_of extra (command_by p b) ≡ k)
      go true ex true ey e = (leb→le (length (b ∷ bs)) (most extra (command_by p b)) (rw ex tt), ey, (cc))
      go true ex false ey e = absurd (none-some k e)
      go false ex true ey e = absurd (none-some k e)
      go false ex false ey e = absurd (none-some k e)

  ready : (l₀ : Entry) (s₀ : List Entry) (c : Chip) (k : ℕ) (qs : List (List ℕ)) (h : List ℕ) → Good c → NoHigh c qs
      → role_at (chip_after c qs) h ≡ high → listed_in l₀ s₀ (bytes (trace c qs)) ≡ Some k → Inside l₀ s₀ fresh c (trace c qs)
      → Ready k c (trace c qs) (entry (chip_after c qs) h)
  unfolding trace chip_after bytes
  ready l₀ s₀ c k [] h g n eh le i = tt
  ready l₀ s₀ c k (r ∷ qs) h g n eh le i =
      go (role_at c r) refl k le (λ k' t l. ready l₀ s₀ (next_chip c r) k' qs h (good_next c r g) n.1 eh l t)
    where
      s : List Entry
      s = trace (next_chip c r) qs

      go : (ρ : Role) → role_at c r ≡ ρ → (k : ℕ) → listed_in l₀ s₀ (bytes (trace c (r ∷ qs))) ≡ Some k
          → ((k' : ℕ) → Inside l₀ s₀ fresh (next_chip c r) (trace (next_chip c r) qs) → listed_in l₀ s₀ (bytes (trace (next_chip c r) qs)) ≡ Some k'
          → Ready k' (next_chip c r) (trace (next_chip c r) qs) (entry (chip_after (next_chip c r) qs) h))
          → Ready k c (trace c (r ∷ qs)) (entry (chip_after c (r ∷ qs)) h)
      go event e k le f = rw e (f k (inside_event l₀ s₀ fresh c s r g (event_of_lem r (outcome c r) e) i) (rw e at le))
      go low e k le f =
          let w = inside_other l₀ s₀ fresh c s r (rw e) i in rw e (quiet_calm c r (events (before k s)) w.1, f k w.0 (rw e at le))
      go other e k le f =
          let w = inside_other l₀ s₀ fresh c s r (rw e) i in rw e (quiet_calm c r (events (before k s)) w.1, f k w.0 (rw e at le))
      go high e k le f = absurd (true-false (rw e at n.0))
      go exchange e zero le f =
          let l = listed_cons (speaker_in l₀.rec) l₀.met s₀ (byte_at r 1) (bytes (trace (next_chip c r) qs)) zero (rw e at le) in
          let w = inside_first l₀ s₀ c s r g e l.1 i in
          let z = still_inside l₀ s₀ (next_chip c r) (named l₀ r) 0 qs h (good_next c r g) n.1 eh (omega (arith, l.2)) (omega (arith, l.0)) w.0 in
          rw e z
      go exchange e (suc k) le f =
          let l = listed_cons (speaker_in l₀.rec) l₀.met s₀ (byte_at r 1) (bytes (trace (next_chip c r) qs)) (suc k) (rw e at le) in
          let w = inside_first l₀ s₀ c s r g e l.1 i in
          let z = ready_inside l₀ s₀ (next_chip c r) (named l₀ r) 0 k qs h (good_next c r g) n.1 eh (omega (arith, l.2)) (omega (arith, l.0)) w.0 in
          rw e (w.1 (omega (arith, l.2)) (events (before k s)), z.0)

  -- A session, listed or not.
  session_fits : (c d : Chip) (l : List ℕ) (qs : List (List ℕ)) (h : List ℕ) (rest : List Entry) → Good c → role_at c l ≡ low
      → NoHigh (next_chip c l) qs → role_at (chip_after (next_chip c l) qs) h ≡ high
      → Fits c (entry c l ∷ (trace (next_chip c l) qs ++ (entry (chip_after (next_chip c l) qs) h ∷ rest))) d
      → Fits c (session extra (entry c l) (trace (next_chip c l) qs) (entry (chip_after (next_chip c l) qs) h) ++ rest) d
  unfolding session placed
  session_fits c d l qs h rest g el n eh f = go (listed extra (entry c l) s) refl
    where
      s : List Entry
      s = trace (next_chip c l) qs

      x : Entry
      x = entry (chip_after (next_chip c l) qs) h

      go : (o : Option ℕ) → listed extra (entry c l) s ≡ o → Fits c (placed (listed extra (entry c l) s) (entry c l) s x ++ rest) d
      go None e = rw e (subst (λ (t : List Entry). Fits c (entry c l ∷ t) d) (sym (append_snoc s x rest)) f)
      go (Some k) e =
          let w = inside_low c s l g el in
          let g' = good_next c l g in
          let es = events (before k s) in
          let zs = events (after k s) in
          let r = early k (next_chip c l) d s x rest g' (ready (entry c l) s (next_chip c l) k qs h g' n eh e w.0) f.1 in
          let m = behind c d (entry c l) es (others s ++ (x ∷ (zs ++ rest))) g (w.1 es) (all_events (before k s)) (f.0, r) in
          rw e (subst (λ (t : List Entry). Fits c t d) (regroup es (entry c l) (others s) x zs rest) m)

  -- ---- a whole list, outside a session and inside one
  abbrev Outside : List (List ℕ) → Type 0
  Outside rs = (c : Chip) → Good c → Fits c (tidy_from extra outside (trace c rs)) (chip_after c rs)

  -- Inside a session that began at c with the record l and has met the records qs.
  abbrev Begun : List (List ℕ) → Chip → List ℕ → List (List ℕ) → Type 0
  Begun rs c l qs =
      Fits c (tidy_from extra (inside (entry c l) (trace (next_chip c l) qs)) (trace (chip_after (next_chip c l) qs) rs))
      (chip_after (chip_after (next_chip c l) qs) rs)

  abbrev Within : List (List ℕ) → Type 0
  Within rs = (c : Chip) (l : List ℕ) (qs : List (List ℕ)) → Good c → role_at c l ≡ low → NoHigh (next_chip c l) qs → Begun rs c l qs

  good_after : (c : Chip) (qs : List (List ℕ)) → Good c → Good (chip_after c qs)
  unfolding chip_after
  good_after c [] g = g
  good_after c (q ∷ qs) g = good_after (next_chip c q) qs (good_next c q g)

  outside_step : (r : List ℕ) (rs : List (List ℕ)) → Outside rs → Within rs → Outside (r ∷ rs)
  unfolding tidy_from trace chip_after
  outside_step r rs o w c g = go (is_low (role_at c r)) refl
    where
      go : (b : Bool) → is_low (role_at c r) ≡ b → Fits c (tidy_from extra outside (trace c (r ∷ rs))) (chip_after c (r ∷ rs))
      go true e = rw e (w c r [] g (low_only (role_at c r) e) tt)
      go false e = rw e (refl, o (next_chip c r) (good_next c r g))

  within_more : (r : List ℕ) (rs : List (List ℕ)) (c : Chip) (l : List ℕ) (qs : List (List ℕ)) → Begun rs c l (qs ++ (r ∷ []))
      → let d : Chip = chip_after (next_chip c l) qs in
      Fits c (tidy_from extra (inside (entry c l) (trace (next_chip c l) qs ++ (entry d r ∷ []))) (trace (next_chip d r) rs))
      (chip_after (next_chip d r) rs)
  within_more r rs c l qs f = rw (trace_snoc, after_snoc) at f

  within_step : (r : List ℕ) (rs : List (List ℕ)) → Outside rs → Within rs → Within (r ∷ rs)
  unfolding tidy_from trace chip_after
  within_step r rs o w c l qs g el n = go (is_high (role_at (chip_after (next_chip c l) qs) r)) refl
    where
      d : Chip
      d = chip_after (next_chip c l) qs

      s : List Entry
      s = trace (next_chip c l) qs

      go : (b : Bool) → is_high (role_at (chip_after (next_chip c l) qs) r) ≡ b
          → Fits c (tidy_from extra (inside (entry c l) s) (trace d (r ∷ rs))) (chip_after d (r ∷ rs))
      go true e =
          let t = tidy_from extra outside (trace (next_chip d r) rs) in
          let z = chip_after (next_chip d r) rs in
          let f = o (next_chip d r) (good_next d r (good_after (next_chip c l) qs (good_next c l g))) in
          rw e (session_fits c z l qs r t g el n (high_only (role_at d r) e) (refl, fits_trace (next_chip c l) z qs (entry d r ∷ t) (refl, f)))
      go false e = rw e (within_more r rs c l qs (w c l (qs ++ (r ∷ [])) g el (no_high_snoc (next_chip c l) qs r n e)))

  both_fit : (rs : List (List ℕ)) → Outside rs × Within rs
  unfolding tidy_from trace chip_after
  both_fit [] = ((λ c g. refl), (λ c l qs g el n. (refl, open_end (next_chip c l) qs)))
  both_fit (r ∷ rs) = let i = both_fit rs in (outside_step r rs i.0 i.1, within_step r rs i.0 i.1)

  pub demand_3_by : Demand3For extra
  unfolding tidy
  demand_3_by rs = fits_outcomes power_on (chip_after power_on rs) (tidy_from extra outside (trace power_on rs)) ((both_fit rs).0 power_on good_start)
