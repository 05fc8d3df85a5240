-- Bit timing: the fields of CNF1 to CNF3, which settings are sound, how far one is off a bit rate, and which one is planned. A setting
-- is three numbers; its fields are remainders, so that what is said of all settings is said of all 2^24 triples of bytes, and of more.
-- Assumes nothing: these are definitions.
use Rattle.std.specs.Prelude.{◌≡◌, Bool, true, false, cond, not, ◌&&◌, ◌||◌, List, [], ◌∷◌, ℕ, ◌+◌, ◌*◌, ◌/◌, ◌%◌, eqb, leb, ltb, ℤ, pos, ◌-ℤ◌, nat_abs, Option, Some, None, Result, Ok, Err}
use Rattle.bits.specs.Bit.{has_bit}
use Rattle.bit_timing.specs.declared.Setting.{Setting}
use Rattle.records.specs.declared.Refusal.{Refusal}
use Rattle.records.specs.Records.{refusal_number}
use Rattle.bit_timing.specs.declared.Planned.{Planned}

-- CNF1, CNF2, CNF3
abbrev pub setting_by : ℕ → ℕ → ℕ → Setting
setting_by cnf1 cnf2 cnf3 = record { cnf1 = cnf1; cnf2 = cnf2; cnf3 = cnf3 }

-- ---- the fields; lengths are in quanta. By their widths SJW is 1 to 4, BRP 0 to 63, and PropSeg, PS1 and PS2 are 1 to 8 each
-- CNF1: SJW less 1 in bits 7-6, BRP in bits 5-0
abbrev pub sjw_of : Setting → ℕ
sjw_of s = s.cnf1 / 64 % 4 + 1

abbrev pub brp_of : Setting → ℕ
brp_of s = s.cnf1 % 64

-- CNF2: BTLMODE is bit 7, SAM bit 6, PS1 less 1 in bits 5-3, PropSeg less 1 in bits 2-0
abbrev pub btlmode_bit : ℕ
btlmode_bit = 7

abbrev pub sam_bit : ℕ
sam_bit = 6

abbrev pub ps1_of : Setting → ℕ
ps1_of s = s.cnf2 / 8 % 8 + 1

abbrev pub prop_seg_of : Setting → ℕ
prop_seg_of s = s.cnf2 % 8 + 1

-- CNF3: SOF is bit 7, WAKFIL bit 6, bits 5-3 are spare, PS2 less 1 in bits 2-0
abbrev pub sof_bit : ℕ
sof_bit = 7

abbrev pub wakfil_bit : ℕ
wakfil_bit = 6

abbrev pub spare_of : Setting → ℕ
spare_of s = s.cnf3 / 8 % 8

abbrev pub ps2_of : Setting → ℕ
ps2_of s = s.cnf3 % 8 + 1

-- a bit: the sync quantum, PropSeg, PS1 and PS2
abbrev pub quanta_of : Setting → ℕ
quanta_of s = 1 + prop_seg_of s + ps1_of s + ps2_of s

abbrev pub least_quanta : ℕ
least_quanta = 8

abbrev pub most_quanta : ℕ
most_quanta = 25

abbrev pub is_inside : ℕ → ℕ → ℕ → Bool
is_inside least most n = leb least n && leb n most

-- ---- sound settings
-- BTLMODE is set; the spare bits are clear; PS2 is at least 2; PropSeg and PS1 together are at least PS2; PS2 is longer than SJW; a bit
-- has 8 to 25 quanta
abbrev pub rules_of : Setting → List Bool
rules_of s =
    has_bit s.cnf2 btlmode_bit
    ∷ eqb (spare_of s) 0
    ∷ leb 2 (ps2_of s)
    ∷ leb (ps2_of s) (prop_seg_of s + ps1_of s)
    ∷ ltb (sjw_of s) (ps2_of s)
    ∷ is_inside least_quanta most_quanta (quanta_of s)
    ∷ []

abbrev pub all_kept : List Bool → Bool
all_kept [] = true
all_kept (kept ∷ rest) = kept && all_kept rest

-- sound: every rule is kept
unfoldable pub is_sound : Setting → Bool
is_sound s = all_kept (rules_of s)

-- the broken rules, as a set: bit n for rule n, counted from 0; value is that of the bit for the first
abbrev pub faults_from : ℕ → List Bool → ℕ
faults_from value [] = 0
faults_from value (kept ∷ rest) = cond kept 0 value + faults_from (2 * value) rest

unfoldable pub faults_of : Setting → ℕ
faults_of s = faults_from 1 (rules_of s)

-- a law that the proofs show: sound is what has no faults
abbrev pub SoundHasNoFaults : Type 0
SoundHasNoFaults = (s : Setting) → is_sound s ≡ eqb (faults_of s) 0

-- ---- the difference: oscillator less rate times the clocks of a bit, a quantum being 2 (BRP + 1) clocks
abbrev pub clocks_at : ℕ → ℕ → ℕ → ℕ
clocks_at rate brp quanta = rate * 2 * (brp + 1) * quanta

abbrev pub difference_at : ℕ → ℕ → ℕ → ℕ → ℤ
difference_at oscillator rate brp quanta = pos oscillator -ℤ pos (clocks_at rate brp quanta)

unfoldable pub difference_of : ℕ → ℕ → Setting → ℤ
difference_of oscillator rate s = difference_at oscillator rate (brp_of s) (quanta_of s)

-- ---- which of two settings is better
-- what they are ranked by: the size of the difference, then BRP, then the register bytes
abbrev pub ranks_of : ℕ → ℕ → Setting → List ℕ
ranks_of oscillator rate s = nat_abs (difference_of oscillator rate s) ∷ brp_of s ∷ s.cnf1 ∷ s.cnf2 ∷ s.cnf3 ∷ []

-- the first number in which they differ decides
abbrev pub is_less : List ℕ → List ℕ → Bool
is_less [] ys = false
is_less (x ∷ xs) [] = false
is_less (x ∷ xs) (y ∷ ys) = ltb x y || eqb x y && is_less xs ys

unfoldable pub is_better : ℕ → ℕ → Setting → Setting → Bool
is_better oscillator rate s t = is_less (ranks_of oscillator rate s) (ranks_of oscillator rate t)

-- ---- the plan
-- SAM, SOF and WAKFIL are 0
abbrev pub is_plain : Setting → Bool
is_plain s = not (has_bit s.cnf2 sam_bit) && not (has_bit s.cnf3 sof_bit) && not (has_bit s.cnf3 wakfil_bit)

-- the size of the difference, times 1,000, is at most the oscillator
unfoldable pub is_within : ℕ → ℕ → Setting → Bool
is_within oscillator rate s = leb (nat_abs (difference_of oscillator rate s) * 1000) oscillator

-- the best setting: sound, plain, within the limit, and no sound setting is better, plain or not
pub record IsBest (oscillator rate : ℕ) (s : Setting) : Type 0 where
  pub sound : is_sound s ≡ true
  pub plain : is_plain s ≡ true
  pub within : is_within oscillator rate s ≡ true
  pub best : (other : Setting) → is_sound other ≡ true → is_better oscillator rate other s ≡ false

-- there is none: no sound setting is within the limit
abbrev pub NoneWithin : ℕ → ℕ → Type 0
NoneWithin oscillator rate = (s : Setting) → is_sound s ≡ true → is_within oscillator rate s ≡ false

abbrev pub oscillator_refusal : ℕ
oscillator_refusal = 12

abbrev pub rate_refusal : ℕ
rate_refusal = 13

-- 12 for an oscillator outside 1 to 40 MHz, then 13 for a rate outside 5,000 to 1,000,000, else 0
unfoldable pub plan_refusal : ℕ → ℕ → ℕ
plan_refusal oscillator rate =
    cond (is_inside 1000000 40000000 oscillator) (cond (is_inside 5000 1000000 rate) 0 rate_refusal) oscillator_refusal

-- an answer: the refusal; or none; or the best setting, with its difference
abbrev pub IsPlan : ℕ → ℕ → Result (Option Planned) Refusal → Type 0
IsPlan oscillator rate (Err refusal) = refusal_number refusal ≡ plan_refusal oscillator rate
IsPlan oscillator rate (Ok None) = (plan_refusal oscillator rate ≡ 0) × NoneWithin oscillator rate
IsPlan oscillator rate (Ok (Some plan)) =
    (plan_refusal oscillator rate ≡ 0) × IsBest oscillator rate plan.setting × (plan.difference ≡ difference_of oscillator rate plan.setting)

-- what the planner promises of its answer, which the rules fix: there is no other
pub record Planning (oscillator rate : ℕ) (p : Result (Option Planned) Refusal) : Type 0 where
  pub answer : IsPlan oscillator rate p
  pub only : (other : Result (Option Planned) Refusal) → IsPlan oscillator rate other → other ≡ p
