-- What a sound setting keeps, as facts about its numbers. Assumes nothing.
use mathlib.Core.Path.{◌≡◌}
use mathlib.Core.Bool.{Bool, true}
use mathlib.Core.List.{List, [], ◌∷◌}
use Prim.Native.Nat.{ℕ, zero, suc, ◌+◌, ◌/◌, ◌%◌, ◌≤◌}
use lib.Dec.{T, leb, leb→le, eqb→eq}
use Rattle.bits.proofs.All.{and_left, and_right}
use Rattle.bit_timing.specs.declared.Setting.{Setting}
use Rattle.bit_timing.specs.Timing.{all_kept, rules_of, is_sound, is_inside, quanta_of, prop_seg_of, ps1_of, ps2_of}

pub record Kept (s : Setting) : Type 0 where
  pub btlmode : s.cnf2 / 128 % 2 ≡ 1
  pub sample : ps2_of s ≤ prop_seg_of s + ps1_of s
  pub least : 8 ≤ quanta_of s
  pub most : quanta_of s ≤ 25

-- the rule at a place of the list
abbrev rule : List Bool → ℕ → Bool
rule [] n = true
rule (kept ∷ rest) zero = kept
rule (kept ∷ rest) (suc n) = rule rest n

rule_kept : (rules : List Bool) (n : ℕ) → T (all_kept rules) → T (rule rules n)
rule_kept [] n all = tt
rule_kept (kept ∷ rest) zero all = and_left kept (all_kept rest) all
rule_kept (kept ∷ rest) (suc n) all = rule_kept rest n (and_right kept (all_kept rest) all)

module _ (s : Setting) (sound : is_sound s ≡ true) where
  all : T (all_kept (rules_of s))
  unfolding is_sound
  all = rw sound tt

  inside : T (is_inside 8 25 (quanta_of s))
  inside = rule_kept (rules_of s) 5 all

  pub kept_by : Kept s
  kept_by =
      record {
        btlmode = eqb→eq _ _ (rule_kept (rules_of s) 0 all);
        sample = leb→le _ _ (rule_kept (rules_of s) 3 all);
        least = leb→le 8 (quanta_of s) (and_left (leb 8 (quanta_of s)) (leb (quanta_of s) 25) inside);
        most = leb→le (quanta_of s) 25 (and_right (leb 8 (quanta_of s)) (leb (quanta_of s) 25) inside);
      }
