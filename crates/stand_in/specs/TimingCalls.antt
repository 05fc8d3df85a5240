-- The calls for C on bit timing, of three bytes and of a plan that is written to them. Assumes nothing: these are definitions.
use Rattle.std.specs.Prelude.{◌≡◌, cond, List, [], ◌∷◌, ◌++◌, ℕ, ltb, ℤ, length, drop, Option, Some, None, Result, Ok, Err}
use Rattle.records.specs.declared.Refusal.{Refusal}
use Rattle.bit_timing.specs.declared.Setting.{Setting}
use Rattle.bit_timing.specs.declared.Planned.{Planned}
use Rattle.bit_timing.specs.Timing.{plan_refusal, Planning}
use Rattle.bus_log.specs.Log.{first_refusal}
use Rattle.bus_log.specs.Run.{call_result}
use Rattle.stand_in.specs.StandIn.{short_refusal}

-- CNF1, CNF2, CNF3
abbrev pub setting_bytes : Setting → List ℕ
setting_bytes s = s.cnf1 ∷ s.cnf2 ∷ s.cnf3 ∷ []

abbrev pub setting_size : ℕ
setting_size = 3

-- 19 for less room than three bytes
abbrev pub setting_refusal : ℕ → ℕ
setting_refusal room = cond (ltb room setting_size) short_refusal 0

-- the room after a setting is stored: its bytes and then what the room held past them; or, refused, all that it held
abbrev pub setting_after : Setting → List ℕ → List ℕ
setting_after s room = cond (ltb 0 (setting_refusal (length room))) room (setting_bytes s ++ drop setting_size room)

-- ---- a plan
-- the refusal: 12, then 13, then 19, also where there is no plan
abbrev pub plan_call_refusal : ℕ → ℕ → ℕ → ℕ
plan_call_refusal oscillator rate room = first_refusal (plan_refusal oscillator rate) (setting_refusal room)

-- what the call returns where it is not refused: 3, or 0 where there is no plan
abbrev pub plan_value : Result (Option Planned) Refusal → ℕ
plan_value (Err e) = 0
plan_value (Ok None) = 0
plan_value (Ok (Some plan)) = setting_size

-- the room cnf after it
abbrev pub plan_after : Result (Option Planned) Refusal → List ℕ → List ℕ
plan_after (Err e) cnf = cnf
plan_after (Ok None) cnf = cnf
plan_after (Ok (Some plan)) cnf = setting_after plan.setting cnf

-- what the call promises: its result x, and after, what the room cnf holds then, are those of the one plan that the rules fix
pub record PlanCall (oscillator rate : ℕ) (cnf after : List ℕ) (x : ℤ) : Type 0 where
  pub plan : Result (Option Planned) Refusal
  pub planned : Planning oscillator rate plan
  pub result : x ≡ call_result (plan_call_refusal oscillator rate (length cnf)) (plan_value plan)
  pub buffer : after ≡ plan_after plan cnf
