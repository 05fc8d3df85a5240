-- Two whole logs: what a refusal and a listing come to. Assumes nothing.
use mathlib.Core.Path.{◌≡◌, refl, ap, subst, sym, ◌∙◌}
use mathlib.Core.Bool.{Bool, true, false, cond}
use mathlib.Core.List.{List, [], ◌++◌}
use Prim.Native.Nat.{ℕ, ◌+◌, ◌*◌, ◌-◌, ◌^◌, ◌<◌, ◌≤◌}
use native.Mathlib.Omega.{arith}
use borrow.Author.Tests.{lt-ltb, le-ltb, ltb-false}
use lib.Dec.{ltb}
use lib.IntN.{pos, neg_ℤ}
use lib.ListN.{length, take, drop, length-drop}
use lib.Seq.{length-take-le}
use Rattle.std.specs.Prelude.{Result, Ok, Err, is_err}
use Rattle.records.specs.declared.Refusal.{Refusal}
use Rattle.records.specs.Records.{refusal_number}
use Rattle.records.proofs.Refusals.{number_some}
use Rattle.image.specs.Image.{power_on_bytes}
use Rattle.mcp2515.specs.Step.{power_on}
use Rattle.mcp2515.specs.ChipImage.{chip_of}
use Rattle.mcp2515.proofs.Images.{power_on_chip}
use Rattle.bus_log.specs.Log.{record_size, records_in, room_refusal, log_refusal, first_refusal, steps_of, last_chip}
use Rattle.bus_log.specs.Run.{call_result}
use Rattle.bus_log.proofs.Copy.{sets_first}
use Rattle.compare.specs.Compare.{differences_from, records_in_both, differences_of, entries_of, entry_room, room_lack, compare_refusal, entries_after}
use Rattle.compare.specs.Block.{Compared, compared_in, Ahead, Listing, compared_by, agreeing_of}
use Rattle.compare.proofs.Blocks.{at_most, in_taken, one_chip, agree_most, length_entries}
use Rattle.compare.proofs.Runs.{steps_taken}

-- the differences behind the records that agree are all that there are
pub behind_agreeing : (a b start image first second : List ℕ) (s : ℕ) → s ≡ agreeing_of (records_in_both a b) a b → start ≡ power_on_bytes
    → Ahead (records_in (length (take (s * record_size) a))) (take (s * record_size) a) start image
    → first ≡ take ((records_in_both a b - s) * record_size) (drop (s * record_size) a)
    → second ≡ take ((records_in_both a b - s) * record_size) (drop (s * record_size) b)
    → differences_from (records_in (length first)) s (chip_of image) (chip_of image) first second ≡ differences_of a b
unfolding differences_of
behind_agreeing a b start image first second s same power ahead e f =
    let n = records_in_both a b in
    let most : s ≤ n = omega (arith, same, agree_most n a b) in
    let fits : s * record_size ≤ length a = omega arith in
    let room : (n - s) * record_size ≤ length (drop (s * record_size) a) = omega (arith, length-drop (s * record_size) a) in
    let room_2 : (n - s) * record_size ≤ length (drop (s * record_size) b) = omega (arith, length-drop (s * record_size) b) in
    let count : records_in (length first) ≡ n - s = rw e (omega (arith, length-take-le ((n - s) * record_size) (drop (s * record_size) a) room)) in
    let run : records_in (length (take (s * record_size) a)) ≡ s = omega (arith, length-take-le (s * record_size) a fits) in
    let here : 0 + s ≡ s = omega arith in
    let chip : chip_of image ≡ last_chip power_on (steps_of s power_on a) =
    ahead.chip ∙ rw (run, power, power_on_chip, steps_taken s power_on a fits) in
    rw (count, e, f, chip, in_taken (n - s) s (last_chip power_on (steps_of s power_on a)) (last_chip power_on (steps_of s power_on a)) (drop (s * record_size) a) (drop (s * record_size) b) room room_2)
    (sym (rw (← same, here) at (one_chip n 0 power_on a b)))

-- where all records agree there are none
pub none_behind : (a b : List ℕ) → records_in_both a b - agreeing_of (records_in_both a b) a b ≡ 0 → differences_of a b ≡ []
unfolding differences_of differences_from
none_behind a b e =
    let n = records_in_both a b in
    one_chip n 0 power_on a b ∙ rw e

first_some : (x y : ℕ) → 0 < x → first_refusal x y ≡ x
first_some x y some = rw (lt-ltb 0 x some)

-- what is told, and what is left of the output
pub record Told (refusal found : ℕ) (a b entries after : List ℕ) (r : ℕ) : Type 0 where
  pub told : ◌≡◌ {A = Compared} (record { refusal = refusal; found = found }) (compared_by r a b)
  pub stored : after ≡ entries_after r a b entries

pub none_told : (a b entries : List ℕ) → differences_of a b ≡ [] → Told 0 0 a b entries entries (room_lack a b (length entries))
unfolding compared_by entries_of
none_told a b entries e =
    let none : room_lack a b (length entries) ≡ 0 = rw (e, le-ltb (length entries) 0 (omega arith)) in
    record { told = rw (none, e); stored = rw (none, e) }

pub lacking_told : (a b entries : List ℕ) → ltb (length entries) (entry_room (length (differences_of a b))) ≡ true
    → Told room_refusal 0 a b entries entries (room_lack a b (length entries))
unfolding compared_by
lacking_told a b entries e = record { told = rw e; stored = rw e }

pub listed_told : (a b entries after : List ℕ) (r : ℕ) → ltb (length entries) (entry_room (length (differences_of a b))) ≡ false
    → Listing (differences_of a b) 0 entries after r → Told 0 r a b entries after (room_lack a b (length entries))
unfolding compared_by
listed_told a b entries after r e l =
    let ds = differences_of a b in
    let size = length_entries ds in
    let count : r ≡ length ds = omega (arith, l.counted) in
    let fits : length (entries_of ds) ≤ length entries = omega (arith, size, ltb-false (length entries) (entry_room (length ds)) e) in
    record {
      told = rw (e, count);
      stored = rw e (l.stored ∙ sets_first (entries_of ds) entries fits ∙ ap (λ (k : ℕ). entries_of ds ++ drop k entries) size);
    }

refused_told : (x y : ℕ) (a b entries : List ℕ) → 0 < x → Told x 0 a b entries entries (first_refusal x y)
unfolding compared_by
refused_told x y a b entries some =
    let t = lt-ltb 0 x some in
    subst (λ (r : ℕ). Told x 0 a b entries entries r) (sym (first_some x y some)) (record { told = rw t; stored = rw t })

some : (e : Refusal) → 0 < refusal_number e
some e = let no = number_some e in omega arith

-- where something is refused, by what is told
pub refused_is : (x : Result ℕ Refusal) → is_err x ≡ ltb 0 (compared_in x).refusal
refused_is (Ok n) = refl
refused_is (Err e) = sym (lt-ltb 0 (refusal_number e) (some e))

-- refused for a log, whatever the room
log_refused : (a b entries : List ℕ) → 0 < first_refusal (log_refusal (length a)) (log_refusal (length b))
    → Told (first_refusal (log_refusal (length a)) (log_refusal (length b))) 0 a b entries entries (compare_refusal a b (length entries))
unfolding compare_refusal
log_refused a b entries some =
    refused_told (first_refusal (log_refusal (length a)) (log_refusal (length b))) (room_lack a b (length entries)) a b entries some

pub err_told : (a b entries : List ℕ) (e : Refusal) → refusal_number e ≡ first_refusal (log_refusal (length a)) (log_refusal (length b))
    → Told (refusal_number e) 0 a b entries entries (compare_refusal a b (length entries))
err_told a b entries e h = rw h (log_refused a b entries (rw h at (some e)))

pub log_taken : (a b : List ℕ) (room : ℕ) → first_refusal (log_refusal (length a)) (log_refusal (length b)) ≡ 0 → room_lack a b room ≡ compare_refusal a b room
unfolding compare_refusal
log_taken a b room none = rw none

-- the count fits the result
pub count_fits : (t : Compared) (refusal : ℕ) (a b : List ℕ) → length a < 2 ^ 64 → t ≡ compared_by refusal a b → t.found < 2 ^ 63
unfolding compared_by differences_of
count_fits t refusal a b small e = rw e (go (ltb 0 refusal))
  where
    most : length (differences_from (records_in_both a b) 0 power_on power_on a b) ≤ records_in_both a b
    most = at_most (records_in_both a b) 0 power_on power_on a b

    go : (t : Bool) → cond t 0 (length (differences_from (records_in_both a b) 0 power_on power_on a b)) < 2 ^ 63
    go true = omega arith
    go false = omega (arith, most)

pub result_is : (t : Compared) (refusal : ℕ) (a b : List ℕ) → t ≡ compared_by refusal a b
    → call_result t.refusal t.found ≡ call_result refusal (length (differences_of a b))
unfolding compared_by
result_is t refusal a b e = rw e (go (ltb 0 refusal))
  where
    go : (t : Bool) → cond t (neg_ℤ (pos refusal)) (pos (cond t 0 (length (differences_of a b)))) ≡ cond t (neg_ℤ (pos refusal)) (pos (length (differences_of a b)))
    go true = refl
    go false = refl
