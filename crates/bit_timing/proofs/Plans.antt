-- The rules fix the plan: two answers that are both right are the same. Assumes nothing.
use mathlib.Core.Path.{◌≡◌, refl, sym, ap, ◌∙◌}
use mathlib.Core.Bool.{true≢false}
use Rattle.std.specs.Prelude.{Option, Some, None, Result, Ok, Err}
use Prim.Native.Nat.{ℕ}
use Rattle.bit_timing.specs.declared.Setting.{Setting}
use Rattle.records.specs.declared.Refusal.{Refusal}
use Rattle.records.specs.Records.{refusal_number}
use Rattle.records.proofs.Refusals.{number_some, one_number}
use Rattle.bit_timing.specs.declared.Planned.{Planned}
use Rattle.bit_timing.specs.Timing.{ranks_of, is_better, IsBest, NoneWithin, plan_refusal, IsPlan, Planning}
use Rattle.bit_timing.proofs.Ranks.{same}

module _ (oscillator rate : ℕ) where
  best_only : (s t : Setting) → IsBest oscillator rate s → IsBest oscillator rate t → s ≡ t
  unfolding is_better
  best_only s t a b =
      let ranks = same (ranks_of oscillator rate s) (ranks_of oscillator rate t) refl (b.best s a.sound) (a.best t b.sound) in
      let cnf1 : s.cnf1 ≡ t.cnf1 = cc in
      let cnf2 : s.cnf2 ≡ t.cnf2 = cc in
      let cnf3 : s.cnf3 ≡ t.cnf3 = cc in
      λ i. record { cnf1 = cnf1 i; cnf2 = cnf2 i; cnf3 = cnf3 i }

  clash : (r : Refusal) → refusal_number r ≡ plan_refusal oscillator rate → plan_refusal oscillator rate ≡ 0 → ⊥
  clash r e z = number_some r (e ∙ z)

  apart : (s : Setting) → IsBest oscillator rate s → NoneWithin oscillator rate → ⊥
  apart s a none = true≢false (sym a.within ∙ none s a.sound)

  pub only : (p other : Result (Option Planned) Refusal) → IsPlan oscillator rate p → IsPlan oscillator rate other → other ≡ p
  only (Err r) (Err s) a b = ap Err (one_number s r (b ∙ sym a))
  only (Err r) (Ok None) a b = absurd (clash r a b.0)
  only (Err r) (Ok (Some p)) a b = absurd (clash r a b.0)
  only (Ok None) (Err r) a b = absurd (clash r b a.0)
  only (Ok None) (Ok None) a b = refl
  only (Ok None) (Ok (Some p)) a b = absurd (apart p.setting b.1 a.1)
  only (Ok (Some p)) (Err r) a b = absurd (clash r b a.0)
  only (Ok (Some p)) (Ok None) a b = absurd (apart p.setting a.1 b.1)
  only (Ok (Some p)) (Ok (Some q)) a b =
      let settings = best_only q.setting p.setting b.1 a.1 in
      let differences : q.difference ≡ p.difference = b.2 ∙ rw settings (sym a.2) in
      λ i. Ok (Some (record { setting = settings i; difference = differences i }))

  pub planning : (p : Result (Option Planned) Refusal) → IsPlan oscillator rate p → Planning oscillator rate p
  planning p a = record { answer = a; only = λ other b. only p other a b }
