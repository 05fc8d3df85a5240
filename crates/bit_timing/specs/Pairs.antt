-- How the planner looks for the best setting: the difference depends on BRP and quanta alone, so it goes over their pairs, by number, and
-- takes the lowest bytes of the first pair that is nearest. No rule: laws have it find what the rules fix. Assumes nothing: these are
-- definitions.
use Rattle.std.specs.Prelude.{ℕ, ◌+◌, ◌-◌, ◌*◌, ◌/◌, ◌%◌, ◌≤◌, ◌<◌, min, nat_abs}
use Rattle.bit_timing.specs.declared.Setting.{Setting}
use Rattle.bit_timing.specs.Timing.{least_quanta, most_quanta, setting_by, difference_at}

-- for each BRP the lengths that a bit may have
abbrev pub lengths : ℕ
lengths = most_quanta - least_quanta + 1

abbrev pub pairs : ℕ
pairs = 64 * lengths

-- in the order in which they are preferred at the same size
abbrev pub brp_at : ℕ → ℕ
brp_at n = n / lengths

abbrev pub quanta_at : ℕ → ℕ
quanta_at n = least_quanta + n % lengths

abbrev pub size_at : ℕ → ℕ → ℕ → ℕ
size_at oscillator rate n = nat_abs (difference_at oscillator rate (brp_at n) (quanta_at n))

-- sizes and clocks of 32-bit numbers are below this: a quantum has at most 2 x 64 clocks, and a bit 25 quanta
abbrev pub clock_limit : ℕ
clock_limit = 3200 * 4294967296

-- the first of n numbers at which f is least
pub record IsFirstLeast (f : ℕ → ℕ) (n first : ℕ) : Type 0 where
  pub inside : first < n
  pub least : (k : ℕ) → k < n → f first ≤ f k
  pub before : (k : ℕ) → k < first → f first < f k

-- the lowest bytes of a pair. SJW is 1. PS1 is 1 as long as the others can take the rest, up to 18 quanta. Half of these, rounded down,
-- are the sync quantum and PropSeg, the other half are PS1 and PS2: with less in PropSeg, PS2 would be longer than PropSeg and PS1
abbrev pub shared_quanta : ℕ → ℕ
shared_quanta quanta = min quanta 18

abbrev pub first_half : ℕ → ℕ
first_half quanta = shared_quanta quanta / 2

abbrev pub second_half : ℕ → ℕ
second_half quanta = shared_quanta quanta - first_half quanta

abbrev pub setting_at : ℕ → ℕ → Setting
setting_at brp quanta = setting_by brp (128 + (quanta - shared_quanta quanta) * 8 + (first_half quanta - 2)) (second_half quanta - 2)
