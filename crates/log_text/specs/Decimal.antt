-- A number in decimal, in ASCII. Assumes nothing: these are definitions.
use Rattle.std.specs.Prelude.{◌≡◌, cond, List, [], ◌∷◌, ◌++◌, ℕ, zero, suc, ◌+◌, ◌*◌, ◌-◌, ◌/◌, ◌%◌, ltb}

-- the character of a digit; `0` is 48
abbrev pub digit : ℕ → ℕ
digit d = 48 + d

-- the decimal form of a number of at most k digits: of one below 10 its digit, of any other the form of its tens and then its last digit
unfoldable pub decimal_within : ℕ → ℕ → List ℕ
decimal_within zero n = []
decimal_within (suc k) n = cond (ltb n 10) (digit n ∷ []) (decimal_within k (n / 10) ++ (digit (n % 10) ∷ []))

-- the decimal form of n, which has at most n + 1 digits
unfoldable pub decimal_of : ℕ → List ℕ
decimal_of n = decimal_within (suc n) n

-- the number that digits spell after those that spell n
unfoldable pub spelled : ℕ → List ℕ → ℕ
spelled n [] = n
spelled n (x ∷ xs) = spelled (10 * n + (x - digit 0)) xs

-- a law that the proofs show: the decimal form spells its number
abbrev pub DecimalSpells : Type 0
DecimalSpells = (n : ℕ) → spelled 0 (decimal_of n) ≡ n
