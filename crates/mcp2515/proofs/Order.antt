-- What the tidied list keeps, of any list of entries. Assumes nothing.
use Rattle.std.proofs.Common.{Option, Some, None}
use mathlib.Core.Bool.{Bool, true, false}
use mathlib.Core.List.{List, [], ◌∷◌, ◌++◌, append_assoc, append-nil, cons-ne-nil}
use mathlib.Core.Path.{◌≡◌, refl, sym, ap, ap₂, subst, ◌∙◌}
use Prim.Native.Nat.{ℕ, zero, suc}
use Rattle.mcp2515.specs.Moments.{Role, event, low, exchange, high, other, is_event_role, is_low, is_exchange, is_high, Entry, role_in, listed, events, others, before, after, placed, session, outside, inside, tidy_from, tidy, SameOrder, Still, Apart, TidyKept, Inner, TidyIs}

-- ---- events and others are two halves of a list
-- Both go by the role of the head.
by_head : (P : List Entry → Type 0) (x : Entry) (s : List Entry)
    → (is_event_role (role_in x) ≡ true → P s → P (x ∷ s)) → (is_event_role (role_in x) ≡ false → P s → P (x ∷ s)) → P s → P (x ∷ s)
by_head P x s f n h = go (is_event_role (role_in x)) refl
  where
    go : (b : Bool) → is_event_role (role_in x) ≡ b → P (x ∷ s)
    go true e = f e h
    go false e = n e h

cons : (x : Entry) {a b : List Entry} → a ≡ b → ◌≡◌ {A = List Entry} (x ∷ a) (x ∷ b)
cons x e = ap (λ (t : List Entry). x ∷ t) e

events_append : (a b : List Entry) → events (a ++ b) ≡ events a ++ events b
unfolding events
events_append [] b = refl
events_append (x ∷ a) b =
    by_head (λ s. events (s ++ b) ≡ events s ++ events b) x a (λ e h. rw e (cons x h)) (λ e h. rw e h) (events_append a b)

others_append : (a b : List Entry) → others (a ++ b) ≡ others a ++ others b
unfolding others
others_append [] b = refl
others_append (x ∷ a) b =
    by_head (λ s. others (s ++ b) ≡ others s ++ others b) x a (λ e h. rw e h) (λ e h. rw e (cons x h)) (others_append a b)

events-events : (a : List Entry) → events (events a) ≡ events a
unfolding events
events-events [] = refl
events-events (x ∷ a) = by_head (λ s. events (events s) ≡ events s) x a (λ e h. rw (e, e) (cons x h)) (λ e h. rw e h) (events-events a)

others-events : (a : List Entry) → others (events a) ≡ []
unfolding events others
others-events [] = refl
others-events (x ∷ a) = by_head (λ s. others (events s) ≡ []) x a (λ e h. rw (e, e) h) (λ e h. rw e h) (others-events a)

events-others : (a : List Entry) → events (others a) ≡ []
unfolding events others
events-others [] = refl
events-others (x ∷ a) = by_head (λ s. events (others s) ≡ []) x a (λ e h. rw e h) (λ e h. rw (e, e) h) (events-others a)

others-others : (a : List Entry) → others (others a) ≡ others a
unfolding others
others-others [] = refl
others-others (x ∷ a) = by_head (λ s. others (others s) ≡ others s) x a (λ e h. rw e h) (λ e h. rw (e, e) (cons x h)) (others-others a)

events_skip : (x : Entry) (a : List Entry) → is_event_role (role_in x) ≡ false → events (x ∷ a) ≡ events a
unfolding events
events_skip x a e = rw e

others_keep : (x : Entry) (a : List Entry) → is_event_role (role_in x) ≡ false → others (x ∷ a) ≡ x ∷ others a
unfolding others
others_keep x a e = rw e

events_nil : events [] ≡ []
unfolding events
events_nil = refl

others_nil : others [] ≡ []
unfolding others
others_nil = refl

-- ---- one session
-- The two parts of a session are the session.
parts : (k : ℕ) (s : List Entry) → before k s ++ after k s ≡ s
unfolding before after
parts k [] = refl
parts k (x ∷ s) = go (is_exchange (role_in x)) refl k (λ j. parts j s)
  where
    go : (v : Bool) → is_exchange (role_in x) ≡ v → (k : ℕ) → ((j : ℕ) → before j s ++ after j s ≡ s) → before k (x ∷ s) ++ after k (x ∷ s) ≡ x ∷ s
    go true e zero h = rw e
    go true e (suc k) h = rw e (cons x (h k))
    go false e k h = rw e (cons x (h k))

events_parts : (k : ℕ) (s : List Entry) → events (before k s) ++ events (after k s) ≡ events s
events_parts k s = sym (events_append (before k s) (after k s)) ∙ ap events (parts k s)

record Kept (a b : List Entry) : Type 0 where
  kept_events : events a ≡ events b
  kept_others : others a ≡ others b

kept_refl : (a : List Entry) → Kept a a
kept_refl a = record { kept_events = refl; kept_others = refl }

kept_append : (a b c d : List Entry) → Kept a b → Kept c d → Kept (a ++ c) (b ++ d)
kept_append a b c d h k = record {
  kept_events = simp events_append (ap₂ (λ (x y : List Entry). x ++ y) h.kept_events k.kept_events);
  kept_others = simp others_append (ap₂ (λ (x y : List Entry). x ++ y) h.kept_others k.kept_others);
}

placed_kept : (o : Option ℕ) (l : Entry) (s : List Entry) (h : Entry) → is_event_role (role_in l) ≡ false → is_event_role (role_in h) ≡ false
    → Kept (placed o l s h) (l ∷ (s ++ (h ∷ [])))
unfolding placed
placed_kept None l s h el eh = kept_refl (l ∷ (s ++ (h ∷ [])))
placed_kept (Some k) l s h el eh = record {
  kept_events = simp (events_append, events-events, events-others, events_skip, events_nil, append-nil, el, eh) (events_parts k s);
  kept_others = simp (others_append, others-events, others-others, others_keep, others_nil, el, eh);
}

low_no_event : (ρ : Role) → is_low ρ ≡ true → is_event_role ρ ≡ false
low_no_event low e = refl
low_no_event event e = cc
low_no_event exchange e = refl
low_no_event high e = refl
low_no_event other e = refl

high_no_event : (ρ : Role) → is_high ρ ≡ true → is_event_role ρ ≡ false
high_no_event high e = refl
high_no_event event e = cc
high_no_event exchange e = refl
high_no_event low e = refl
high_no_event other e = refl

regroup : (l : Entry) (s : List Entry) (x : Entry) (t : List Entry) → (l ∷ (s ++ (x ∷ []))) ++ t ≡ l ∷ (s ++ (x ∷ t))
regroup l s x t = simp append_assoc

no_parts : (a b : List Entry) → a ++ b ≡ [] → (a ≡ []) × (b ≡ [])
no_parts [] b e = (refl, e)
no_parts (x ∷ a) b e = absurd (cons-ne-nil x (a ++ b) e)

others_all : (s : List Entry) → events s ≡ [] → others s ≡ s
unfolding events others
others_all [] e = refl
others_all (x ∷ s) e =
    by_head (λ s. events s ≡ [] → others s ≡ s) x s (λ z f e. absurd (cons-ne-nil x (events s) (rw z at e))) (λ z f e. rw z (cons x (f (rw z at e))))
    (λ h. others_all s h) e

-- A listed session with no event inside stays as it is, and so does one that is not listed.
placed_same : (o : Option ℕ) (l : Entry) (s : List Entry) (h : Entry) → Still o s → placed o l s h ≡ l ∷ (s ++ (h ∷ []))
unfolding placed
placed_same None l s h e = refl
placed_same (Some k) l s h e =
    let p = no_parts (events (before k s)) (events (after k s)) (events_parts k s ∙ e) in rw (p.0, p.1, others_all s e)

-- ---- whole lists
module _ (extra : ℕ) where
  record Both (t : List Entry) : Type 0 where
    beyond : Kept (tidy_from extra outside t) t
    within : (l : Entry) (s : List Entry) → is_event_role (role_in l) ≡ false → Kept (tidy_from extra (inside l s) t) (l ∷ (s ++ t))

  both : (t : List Entry) → Both t
  unfolding tidy_from session
  both [] = record { beyond = kept_refl []; within = λ l s e. rw append-nil (kept_refl (l ∷ s)) }
  both (x ∷ t) =
      let i = both t in record {
        beyond = out i.beyond i.within (is_low (role_in x)) refl;
        within = λ l s e. in-it i.beyond i.within l s e (is_high (role_in x)) refl;
      }
    where
      Within : Type 0
      Within = (l : Entry) (s : List Entry) → is_event_role (role_in l) ≡ false → Kept (tidy_from extra (inside l s) t) (l ∷ (s ++ t))

      out : Kept (tidy_from extra outside t) t → Within → (v : Bool) → is_low (role_in x) ≡ v → Kept (tidy_from extra outside (x ∷ t)) (x ∷ t)
      out o w true e = rw e (w x [] (low_no_event (role_in x) e))
      out o w false e = rw e (kept_append (x ∷ []) (x ∷ []) (tidy_from extra outside t) t (kept_refl (x ∷ [])) o)

      in-it : Kept (tidy_from extra outside t) t → Within → (l : Entry) (s : List Entry) → is_event_role (role_in l) ≡ false
          → (v : Bool) → is_high (role_in x) ≡ v → Kept (tidy_from extra (inside l s) (x ∷ t)) (l ∷ (s ++ (x ∷ t)))
      in-it o w l s el true e =
          let p = placed_kept (listed extra l s) l s x el (high_no_event (role_in x) e) in
          rw e (subst (λ (z : List Entry). Kept (session extra l s x ++ tidy_from extra outside t) z) (regroup l s x t)
          (kept_append (session extra l s x) (l ∷ (s ++ (x ∷ []))) (tidy_from extra outside t) t p o))
      in-it o w l s el false e =
          rw e (subst (λ (z : List Entry). Kept (tidy_from extra (inside l (s ++ (x ∷ []))) t) z) (regroup l s x t) (w l (s ++ (x ∷ [])) el))

  pub same_order : SameOrder extra
  unfolding tidy
  same_order t = let k = (both t).beyond in (k.kept_events, k.kept_others)

  record Same (t : List Entry) : Type 0 where
    same_beyond : Apart extra outside t → tidy_from extra outside t ≡ t
    same_within : (l : Entry) (s : List Entry) → Apart extra (inside l s) t → tidy_from extra (inside l s) t ≡ l ∷ (s ++ t)

  same : (t : List Entry) → Same t
  unfolding tidy_from session
  same [] = record { same_beyond = λ a. refl; same_within = λ l s a. rw append-nil }
  same (x ∷ t) =
      let i = same t in record {
        same_beyond = out i.same_beyond i.same_within (is_low (role_in x)) refl;
        same_within = λ l s a. in-it i.same_beyond i.same_within l s a (is_high (role_in x)) refl;
      }
    where
      Beyond : Type 0
      Beyond = Apart extra outside t → tidy_from extra outside t ≡ t

      Within : Type 0
      Within = (l : Entry) (s : List Entry) → Apart extra (inside l s) t → tidy_from extra (inside l s) t ≡ l ∷ (s ++ t)

      out : Beyond → Within → (v : Bool) → is_low (role_in x) ≡ v → Apart extra outside (x ∷ t) → tidy_from extra outside (x ∷ t) ≡ x ∷ t
      out o w true e a = rw e (w x [] (rw e at a))
      out o w false e a = rw e (cons x (o (rw e at a)))

      in-it : Beyond → Within → (l : Entry) (s : List Entry) → Apart extra (inside l s) (x ∷ t) → (v : Bool) → is_high (role_in x) ≡ v
          → tidy_from extra (inside l s) (x ∷ t) ≡ l ∷ (s ++ (x ∷ t))
      in-it o w l s a true e =
          let p : Still (listed extra l s) s × Apart extra outside t = rw e at a in
          rw (e, placed_same (listed extra l s) l s x p.0, o p.1) (regroup l s x t)
      in-it o w l s a false e = rw (e, w l (s ++ (x ∷ [])) (rw e at a)) (regroup l s x t)

  pub tidy_kept : TidyKept extra
  unfolding tidy
  tidy_kept t a = (same t).same_beyond a

  -- What stands inside an open session is gathered in its order.
  gather : (l : Entry) (p s t : List Entry) → Inner s → tidy_from extra (inside l p) (s ++ t) ≡ tidy_from extra (inside l (p ++ s)) t
  unfolding tidy_from
  gather l p [] t i = rw append-nil
  gather l p (x ∷ s) t i =
      rw i.0 (gather l (p ++ (x ∷ [])) s t i.1 ∙ ap (λ (q : List Entry). tidy_from extra (inside l q) t) (simp append_assoc))

  pub tidy_is : TidyIs extra
  unfolding tidy tidy_from
  tidy_is = record {
    empty = refl;
    beyond = λ x t e. rw e;
    whole = λ l s h t el i eh. rw el (gather l [] s (h ∷ t) i ∙ rw eh);
    still_open = λ l s el i. rw el (ap (tidy_from extra (inside l [])) (sym (append-nil s)) ∙ gather l [] s [] i);
  }
