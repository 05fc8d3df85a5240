-- A command's records, one after the other. Assumes nothing.
use mathlib.Core.Path.{◌≡◌, refl, ap, ◌∙◌}
use mathlib.Core.List.{List, ◌∷◌}
use Prim.Native.Nat.{ℕ, zero, suc, ◌+◌, ◌-◌, ◌≤◌, ◌<◌}
use native.Mathlib.Numerals.{add-one}
use native.Mathlib.Omega.{arith}
use lib.Dec.{eqb, ltb}
use lib.ListN.{length}
use Rattle.mcp2515.specs.Step.{chip_after}
use Rattle.mcp2515.proofs.CoreKept.{either}
use Rattle.load_machine.specs.declared.Command.{Command}
use Rattle.load_machine.specs.declared.Command.TheVariants.{Ask, Read, Write}
use Rattle.load_machine.specs.Machine.{plain_record, byte_of, bytes_in, record_of_command, records_in, records_by}
use Rattle.load_rules.specs.Load.{last_reply}
use Rattle.profile_loader.specs.declared.Replied.{Replied}
use Rattle.profile_loader.specs.Running.{exchanged}
use Rattle.profile_loader.proofs.Logs.{Sized, sized_none, sized_cons}

pub record_size : (x : Command) (j : ℕ) → length (record_of_command x j) ≡ 16
unfolding record_of_command
record_size x j =
    either (λ (r : List ℕ). length r ≡ 16) (eqb j 0) {x = plain_record 0 0} refl
    (either (λ (r : List ℕ). length r ≡ 16) (ltb (bytes_in x) j) {x = plain_record 2 0} {y = plain_record 1 (byte_of x (j - 1))} refl refl)

pub records_most : (x : Command) → records_in x ≤ 6
records_most (Ask m) = omega arith
records_most (Read a) = omega arith
records_most (Write a v) = omega arith

pub sized_records : (x : Command) (j n : ℕ) → Sized (records_by x j n)
unfolding records_by
sized_records x j zero = sized_none
sized_records x j (suc n) = sized_cons (record_of_command x j) (records_by x (suc j) n) (record_size x j) (sized_records x (suc j) n)

pub length_records : (x : Command) (j n : ℕ) → length (records_by x j n) ≡ n
unfolding records_by
length_records x j zero = refl
length_records x j (suc n) = ap suc (length_records x (suc j) n)

pub records_next : (x : Command) (j n : ℕ) → j < n → records_by x j (n - j) ≡ record_of_command x j ∷ records_by x (j + 1) (n - (j + 1))
unfolding records_by
records_next x j n h =
    let e : n - j ≡ suc (n - (j + 1)) = omega arith in
    ap (records_by x j) e ∙ rw add-one

-- what the rest of them replies
abbrev pub replied_by : Replied → List (List ℕ) → Replied
replied_by x rs = record { chip = chip_after x.chip rs; reply = last_reply x.chip rs x.reply }

pub replied_next : (x : Replied) (r : List ℕ) (rs : List (List ℕ)) → replied_by (exchanged x r) rs ≡ replied_by x (r ∷ rs)
unfolding chip_after last_reply
replied_next x r rs = refl
