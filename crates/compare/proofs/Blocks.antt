-- Differences in parts of two logs, by their answer bytes and over one chip; and where their entries go. Assumes nothing.
use mathlib.Core.Path.{◌≡◌, refl, ap, ap₂, sym, ◌∙◌}
use mathlib.Core.Bool.{Bool, true, false, cond, not, ◌&&◌}
use mathlib.Core.List.{List, [], ◌∷◌, ◌++◌, append-nil}
use Prim.Native.Nat.{ℕ, zero, suc, ◌+◌, ◌*◌, ◌-◌, ◌%◌, ◌<◌, ◌≤◌, min}
use native.Mathlib.Numerals.{unary_clauses}
use native.Mathlib.Omega.{arith}
use lib.ListN.{length, take, drop, get_or, length-append, length-drop, take-append-drop}
use lib.Seq.{sets, drop-drop, length-take-le, take-append-le, drop-append-le}
use Rattle.std.specs.List.{zip, prefix_len}
use Rattle.std.specs.Str.{bytes_eq}
use Rattle.std.specs.Simd.{first_chunks}
use Rattle.records.specs.declared.Outcome.{Outcome}
use Rattle.mcp2515.specs.declared.Chip.{Chip}
use Rattle.mcp2515.specs.Step.{outcome, next_chip}
use Rattle.bus_log.specs.Log.{record_size, records_in, record_at, steps_of, last_chip, answers_of}
use Rattle.bus_log.specs.From.{chip_from}
use Rattle.bus_log.proofs.Copy.{sets_append}
use Rattle.compare.specs.Compare.{same_bytes, differs, Difference, item_if, differences_from, entry_of, entries_of, entry_room}
use Rattle.compare.specs.Block.{told_by, differences_in, Listing, agreeing_of, OneChip}
use Rattle.compare.proofs.Tests.{same_equal, differs_itself, equal_same, told_same}

empty_append : (xs ys : List ℕ) → length xs ≡ 0 → xs ++ ys ≡ ys
empty_append [] ys e = refl
empty_append (x ∷ xs) ys e = absurd (omega arith)

-- the differences by the answer bytes of both runs, whatever stands behind these
by_answers : (n k : ℕ) (c d : Chip) (a b x y : List ℕ)
    → differences_in n k a (answers_of true (steps_of n c a) ++ x) b (answers_of true (steps_of n d b) ++ y) ≡ differences_from n k c d a b
unfolding differences_in differences_from steps_of answers_of
by_answers zero k c d a b x y = refl
by_answers (suc n) k c d a b x y =
    let r = take record_size a in
    let s = take record_size b in
    ap (λ (ds : List Difference). item_if (differs r (outcome c r) s (outcome d s)) (record { number = suc k; first = outcome c r; second = outcome d s }) ds)
    (by_answers n (suc k) (next_chip c r) (next_chip d s) (drop record_size a) (drop record_size b) x y)

-- there are at most as many differences as records
pub at_most : (n k : ℕ) (c d : Chip) (a b : List ℕ) → length (differences_from n k c d a b) ≤ n
unfolding differences_from
at_most zero k c d a b = omega arith
at_most (suc n) k c d a b =
    let r = take record_size a in
    let s = take record_size b in
    one (differs r (outcome c r) s (outcome d s)) (record { number = suc k; first = outcome c r; second = outcome d s })
    (differences_from n (suc k) (next_chip c r) (next_chip d s) (drop record_size a) (drop record_size b))
    (at_most n (suc k) (next_chip c r) (next_chip d s) (drop record_size a) (drop record_size b))
  where
    one : (t : Bool) (x : Difference) (ds : List Difference) → length ds ≤ n → length (item_if t x ds) ≤ suc n
    one true x ds h = omega arith
    one false x ds h = omega arith

append_item : (t : Bool) (x : Difference) (ds es : List Difference) → item_if t x (ds ++ es) ≡ item_if t x ds ++ es
append_item true x ds es = refl
append_item false x ds es = refl

-- the differences of logs that are cut between two records: those of the first parts, and those of the second over the chips that the
-- first left
in_parts : (m n k : ℕ) (c d : Chip) (x y a b : List ℕ) → length x ≡ m * record_size → length y ≡ m * record_size
    → differences_from (m + n) k c d (x ++ a) (y ++ b)
    ≡ differences_from m k c d x y ++ differences_from n (k + m) (last_chip c (steps_of m c x)) (last_chip d (steps_of m d y)) a b
unfolding differences_from steps_of last_chip
in_parts zero n k c d x y a b h i =
    let same : 0 + n ≡ n = omega arith in
    let here : k + 0 ≡ k = omega arith in
    rw (same, here, empty_append x a (omega arith), empty_append y b (omega arith))
in_parts (suc m) n k c d x y a b h i =
    let r = take record_size x in
    let s = take record_size y in
    let more : suc m + n ≡ suc (m + n) = omega arith in
    let number : suc k + m ≡ k + suc m = omega arith in
    let some : record_size ≤ length x = omega arith in
    let some_2 : record_size ≤ length y = omega arith in
    let rest = in_parts m n (suc k) (next_chip c r) (next_chip d s) (drop record_size x) (drop record_size y) a b (rw length-drop (omega arith)) (rw length-drop (omega arith)) in
    rw (more, take-append-le record_size x a some, take-append-le record_size y b some_2, drop-append-le record_size x a some, drop-append-le record_size y b some_2)
    (ap (λ (ds : List Difference). item_if (differs r (outcome c r) s (outcome d s)) (record { number = suc k; first = outcome c r; second = outcome d s }) ds)
    (rest ∙ rw number)
    ∙ append_item (differs r (outcome c r) s (outcome d s)) _ _ _)

-- the differences of the first records of two logs are those of logs that end behind them
pub in_taken : (n k : ℕ) (c d : Chip) (a b : List ℕ) → n * record_size ≤ length a → n * record_size ≤ length b
    → differences_from n k c d (take (n * record_size) a) (take (n * record_size) b) ≡ differences_from n k c d a b
unfolding differences_from
in_taken n k c d a b h i =
    let size = n * record_size in
    let more : n + 0 ≡ n = omega arith in
    let parts = in_parts n 0 k c d (take size a) (take size b) (drop size a) (drop size b) (length-take-le size a h) (length-take-le size b i) in
    sym (rw (more, take-append-drop size a, take-append-drop size b, append-nil) at parts)

-- ---- one chip for both logs, as long as they agree
agree_next : (n : ℕ) (a b : List ℕ) → same_bytes (take record_size a) (take record_size b) ≡ true
    → agreeing_of (suc n) a b ≡ suc (agreeing_of n (drop record_size a) (drop record_size b))
unfolding agreeing_of
agree_next n a b e = rw e

agree_ends : (n : ℕ) (a b : List ℕ) → same_bytes (take record_size a) (take record_size b) ≡ false → agreeing_of (suc n) a b ≡ 0
unfolding agreeing_of
agree_ends n a b e = rw e

-- a record in which they agree is no difference, and both go on from one chip
no_difference : (n k : ℕ) (c : Chip) (a b : List ℕ) → take record_size a ≡ take record_size b
    → differences_from (suc n) k c c a b
    ≡ differences_from n (suc k) (next_chip c (take record_size a)) (next_chip c (take record_size a)) (drop record_size a) (drop record_size b)
unfolding differences_from
no_difference n k c a b e =
    let r = take record_size a in
    let rest = differences_from n (suc k) (next_chip c r) (next_chip c r) (drop record_size a) (drop record_size b) in
    rw (sym e) (ap (λ (t : Bool). item_if t (record { number = suc k; first = outcome c r; second = outcome c r }) rest) (differs_itself r (outcome c r)))

-- the differences from after the first m records on, over the chip that these leave in the first log
abbrev behind : ℕ → ℕ → ℕ → Chip → List ℕ → List ℕ → List Difference
behind m n k c a b =
    differences_from (n - m) (k + m) (last_chip c (steps_of m c a)) (last_chip c (steps_of m c a)) (drop (m * record_size) a) (drop (m * record_size) b)

behind_none : (n k : ℕ) (c : Chip) (a b : List ℕ) → differences_from n k c c a b ≡ behind 0 n k c a b
unfolding steps_of last_chip
behind_none n k c a b =
    let all : n - 0 ≡ n = omega arith in
    let here : k + 0 ≡ k = omega arith in
    rw (all, here)

behind_next : (m n k : ℕ) (c : Chip) (a b : List ℕ)
    → behind m n (suc k) (next_chip c (take record_size a)) (drop record_size a) (drop record_size b) ≡ behind (suc m) (suc n) k c a b
unfolding steps_of last_chip
behind_next m n k c a b =
    let less : suc n - suc m ≡ n - m = omega arith in
    let number : suc k + m ≡ k + suc m = omega arith in
    let place : record_size + m * record_size ≡ suc m * record_size = omega arith in
    rw (less, number, drop-drop (m * record_size) record_size a, drop-drop (m * record_size) record_size b, place)

one_more : (t : Bool) (n k : ℕ) (c : Chip) (a b : List ℕ) → same_bytes (take record_size a) (take record_size b) ≡ t
    → (differences_from n (suc k) (next_chip c (take record_size a)) (next_chip c (take record_size a)) (drop record_size a) (drop record_size b)
    ≡ behind (agreeing_of n (drop record_size a) (drop record_size b)) n (suc k) (next_chip c (take record_size a)) (drop record_size a) (drop record_size b))
    → differences_from (suc n) k c c a b ≡ behind (agreeing_of (suc n) a b) (suc n) k c a b
one_more true n k c a b e rest =
    let m = agreeing_of n (drop record_size a) (drop record_size b) in
    no_difference n k c a b (same_equal (take record_size a) (take record_size b) e)
    ∙ rest
    ∙ behind_next m n k c a b
    ∙ ap (λ (x : ℕ). behind x (suc n) k c a b) (sym (agree_next n a b e))
one_more false n k c a b e rest =
    behind_none (suc n) k c a b ∙ ap (λ (x : ℕ). behind x (suc n) k c a b) (sym (agree_ends n a b e))

pub one_chip : OneChip
unfolding agreeing_of
one_chip zero k c a b = behind_none 0 k c a b
one_chip (suc n) k c a b =
    one_more (same_bytes (take record_size a) (take record_size b)) n k c a b refl
    (one_chip n (suc k) (next_chip c (take record_size a)) (drop record_size a) (drop record_size b))

-- ---- entries
entries_append : (ds es : List Difference) → entries_of (ds ++ es) ≡ entries_of ds ++ entries_of es
unfolding entries_of
entries_append [] es = refl
entries_append (d ∷ ds) es = ap (λ (l : List ℕ). entry_of d ++ l) (entries_append ds es)

pub length_entries : (ds : List Difference) → length (entries_of ds) ≡ entry_room (length ds)
unfolding entries_of
length_entries [] = refl
length_entries (d ∷ ds) = omega (arith, length_entries ds)

-- what was listed, and then more
listed_more : (ds es : List Difference) (found r : ℕ) (entries after : List ℕ) → Listing ds found entries after r
    → sets after (entry_room r) (entries_of es) ≡ sets entries (entry_room found) (entries_of (ds ++ es))
listed_more ds es found r entries after l =
    let place : entry_room r ≡ entry_room found + length (entries_of ds) = omega (arith, l.counted, length_entries ds) in
    rw (l.stored, place, entries_append ds es) (sets_append (entries_of ds) (entries_of es) entries (entry_room found))

-- nothing is stored in an empty list
sets_empty : (xs vs : List ℕ) (i : ℕ) → length xs ≡ 0 → xs ≡ sets xs i vs
sets_empty [] [] i e = refl
sets_empty [] (v ∷ vs) i e = sets_empty [] vs (suc i) e
sets_empty (x ∷ xs) vs i e = absurd (omega arith)

-- an entry more, in an output that may be empty
pub one_listed : (d : Difference) (k : ℕ) (entries after : List ℕ) → after ≡ sets entries (entry_room k) (entry_of d) → Listing (d ∷ []) k entries after (k + 1)
unfolding entries_of
one_listed d k entries after e = record { counted = refl; stored = e }

pub one_counted : (d : Difference) (k : ℕ) (entries after : List ℕ) → length entries ≡ 0 → after ≡ entries → Listing (d ∷ []) k entries after (k + 1)
one_counted d k entries after none e = one_listed d k entries after (e ∙ sets_empty entries (entry_of d) (entry_room k) none)

-- ---- one record of a block
-- the differences from a place on: that of the record there, if it differs, and those from the next place on
next_item : (left done at out : ℕ) (a told b other : List ℕ) → 0 < left
    → differences_in left done (drop at a) (drop out told) (drop at b) (drop out other)
    ≡ item_if (differs (record_at a at) (told_by (drop out told)) (record_at b at) (told_by (drop out other)))
    (record { number = done + 1; first = told_by (drop out told); second = told_by (drop out other) })
    (differences_in (left - 1) (done + 1) (drop (at + record_size) a) (drop (out + 3) told) (drop (at + record_size) b) (drop (out + 3) other))
unfolding differences_in
next_item zero done at out a told b other more = absurd (omega arith)
next_item (suc n) done at out a told b other more =
    let less : suc n - 1 ≡ n = omega arith in
    let number : done + 1 ≡ suc done = omega arith in
    rw (less, number, drop-drop record_size at a, drop-drop record_size at b, drop-drop 3 out told, drop-drop 3 out other)

-- a list in two parts
pub record Parts (whole part rest : List Difference) : Type 0 where
  pub split : whole ≡ part ++ rest

-- the first part is listed, and then the rest
pub parts_stored : {whole part rest : List Difference} {found r : ℕ} {entries after : List ℕ} → Parts whole part rest
    → Listing part found entries after r → sets after (entry_room r) (entries_of rest) ≡ sets entries (entry_room found) (entries_of whole)
parts_stored {part = part} {rest = rest} {found} {r} {entries} {after} p l = rw p.split (listed_more part rest found r entries after l)

pub parts_sizes : {whole part rest : List Difference} → Parts whole part rest → length whole ≡ length part + length rest
parts_sizes {part = part} {rest = rest} p = rw p.split (length-append part rest)

-- element i of the elements of n bytes
chunk_at : (n k i : ℕ) (log : List ℕ) → i < k → get_or (first_chunks n k log) i [] ≡ take n (drop (i * n) log)
chunk_at n zero i log h = absurd (omega arith)
chunk_at n (suc k) zero log h = let none : 0 * n ≡ 0 = omega arith in rw none
chunk_at n (suc k) (suc i) log h =
    let next : n + i * n ≡ suc i * n = omega arith in
    chunk_at n k i (drop n log) (omega arith) ∙ rw (drop-drop (i * n) n log, next)

told_taken : (l : List ℕ) → told_by (take 3 l) ≡ told_by l
told_taken [] = refl
told_taken (x ∷ []) = refl
told_taken (x ∷ y ∷ []) = refl
told_taken (x ∷ y ∷ z ∷ l) = refl

module _ (n m k l before i : ℕ) (a told b other : List ℕ) (ours theirs sets_1 sets_2 : List (List ℕ))
    (more : i < n) (more_2 : i < m) (more_3 : i < k) (more_4 : i < l) (room : k * 3 ≤ length told) (room_2 : l * 3 ≤ length other)
    (first : ours ≡ first_chunks record_size n a) (second : theirs ≡ first_chunks record_size m b)
    (told_1 : sets_1 ≡ first_chunks 3 k told) (told_2 : sets_2 ≡ first_chunks 3 l other) where
  abbrev here : List Difference
  here = differences_in (n - i) (before + i) (drop (i * record_size) a) (drop (i * 3) told) (drop (i * record_size) b) (drop (i * 3) other)

  abbrev rest : List Difference
  rest = differences_in (n - (i + 1)) (before + (i + 1)) (drop ((i + 1) * record_size) a) (drop ((i + 1) * 3) told) (drop ((i + 1) * record_size) b) (drop ((i + 1) * 3) other)

  abbrev item : Difference
  item = record { number = before + i + 1; first = told_by (get_or sets_1 i []); second = told_by (get_or sets_2 i []) }

  abbrev next : List Difference
  next = differences_in (n - i - 1) (before + i + 1) (drop (i * record_size + record_size) a) (drop (i * 3 + 3) told) (drop (i * record_size + record_size) b) (drop (i * 3 + 3) other)

  next_is : next ≡ rest
  next_is =
      let less : n - i - 1 ≡ n - (i + 1) = omega arith in
      let number : before + i + 1 ≡ before + (i + 1) = omega arith in
      let place : i * record_size + record_size ≡ (i + 1) * record_size = omega arith in
      let out : i * 3 + 3 ≡ (i + 1) * 3 = omega arith in
      rw (less, number, place, out)

  ours_is : get_or ours i [] ≡ record_at a (i * record_size)
  ours_is = rw first (chunk_at record_size n i a more)

  theirs_is : get_or theirs i [] ≡ record_at b (i * record_size)
  theirs_is = rw second (chunk_at record_size m i b more_2)

  set_is : get_or sets_1 i [] ≡ take 3 (drop (i * 3) told)
  set_is = rw told_1 (chunk_at 3 k i told more_3)

  set_is_2 : get_or sets_2 i [] ≡ take 3 (drop (i * 3) other)
  set_is_2 = rw told_2 (chunk_at 3 l i other more_4)

  size : length (get_or sets_1 i []) ≡ 3
  size = rw set_is (length-take-le 3 (drop (i * 3) told) (omega (arith, length-drop (i * 3) told)))

  size_2 : length (get_or sets_2 i []) ≡ 3
  size_2 = rw set_is_2 (length-take-le 3 (drop (i * 3) other) (omega (arith, length-drop (i * 3) other)))

  -- the code's test
  abbrev differ : Bool
  differ = not (bytes_eq (get_or ours i []) (get_or theirs i []) && bytes_eq (get_or sets_1 i []) (get_or sets_2 i []))

  test : differ ≡ differs (record_at a (i * record_size)) (told_by (get_or sets_1 i [])) (record_at b (i * record_size)) (told_by (get_or sets_2 i []))
  test =
      rw (equal_same (get_or ours i []) (get_or theirs i []), told_same (get_or sets_1 i []) (get_or sets_2 i []) size size_2)
      (ap₂ (λ (r s : List ℕ). differs r (told_by (get_or sets_1 i [])) s (told_by (get_or sets_2 i []))) ours_is theirs_is)

  told_is : told_by (drop (i * 3) told) ≡ told_by (get_or sets_1 i [])
  told_is = sym (ap told_by set_is ∙ told_taken (drop (i * 3) told))

  told_is_2 : told_by (drop (i * 3) other) ≡ told_by (get_or sets_2 i [])
  told_is_2 = sym (ap told_by set_is_2 ∙ told_taken (drop (i * 3) other))

  -- the record's difference, if it differs, and those behind it
  record_parts : Parts here (item_if differ item []) rest
  record_parts =
      record {
        split =
            next_item (n - i) (before + i) (i * record_size) (i * 3) a told b other (omega arith)
            ∙ ap₂ (λ (o p : Outcome). item_if (differs (record_at a (i * record_size)) o (record_at b (i * record_size)) p) (record { number = before + i + 1; first = o; second = p }) next) told_is told_is_2
            ∙ ap₂ (λ (t : Bool) (ds : List Difference). item_if t item ds) (sym test) next_is
            ∙ append_item differ item [] rest;
      }

  pub none_here : bytes_eq (get_or ours i []) (get_or theirs i []) ≡ true → bytes_eq (get_or sets_1 i []) (get_or sets_2 i []) ≡ true → here ≡ rest
  none_here e f = record_parts.split ∙ rw (e, f)

  pub one_here : (bytes_eq (get_or ours i []) (get_or theirs i []) && bytes_eq (get_or sets_1 i []) (get_or sets_2 i [])) ≡ false → Parts here (item ∷ []) rest
  one_here e = record { split = record_parts.split ∙ rw e }

-- ---- one block
module _ (before : ℕ) (c d e f : Chip) (x y a b told other u v : List ℕ)
    (whole_x : length x % record_size ≡ 0) (alike : length y ≡ length x)
    (first : told ≡ answers_of true (steps_of (records_in (length x)) c x) ++ u)
    (second : other ≡ answers_of true (steps_of (records_in (length y)) d y) ++ v)
    (next : e ≡ chip_from c x) (next_2 : f ≡ chip_from d y) where
  abbrev block : List Difference
  block = differences_in (records_in (length x)) before x told y other

  block_is : block ≡ differences_from (records_in (length x)) before c d x y
  block_is = rw (first, second, alike) (by_answers (records_in (length x)) before c d x y u v)

  -- from it on, and behind it over the chips that it left
  abbrev whole : List Difference
  whole = differences_from (records_in (length (x ++ a))) before c d (x ++ a) (y ++ b)

  abbrev behind_it : List Difference
  behind_it = differences_from (records_in (length a)) (before + records_in (length x)) e f a b

  -- in two parts; and there are at most as many in the block as it has records
  pub block_parts : Parts whole block behind_it × (length block ≤ records_in (length x))
  block_parts =
      let count : records_in (length (x ++ a)) ≡ records_in (length x) + records_in (length a) = rw (length-append x a) (omega arith) in (
        record {
          split = rw (block_is, next, next_2, alike, count)
              (in_parts (records_in (length x)) (records_in (length a)) before c d x y a b (omega arith) (omega arith));
        },
        rw block_is (at_most (records_in (length x)) before c d x y),
      )

-- ---- where the agreeing records end
pub agree_prefix : (n m : ℕ) (a b : List ℕ)
    → prefix_len (λ (p : List ℕ × List ℕ). bytes_eq p.0 p.1) (zip (first_chunks record_size n a) (first_chunks record_size m b))
    ≡ agreeing_of (min n m) a b
unfolding agreeing_of
agree_prefix zero m a b = simp unary_clauses
agree_prefix (suc n) zero a b = simp unary_clauses
agree_prefix (suc n) (suc m) a b =
    let one : (k : ℕ) → 1 + k ≡ suc k = λ k. omega arith in
    simp (unary_clauses, equal_same, agree_prefix n m (drop record_size a) (drop record_size b), one)

pub agree_most : (n : ℕ) (a b : List ℕ) → agreeing_of n a b ≤ n
unfolding agreeing_of
agree_most zero a b = omega arith
agree_most (suc n) a b = one (same_bytes (take record_size a) (take record_size b)) (agree_most n (drop record_size a) (drop record_size b))
  where
    one : (t : Bool) {m : ℕ} → m ≤ n → cond t (suc m) 0 ≤ suc n
    one true h = omega arith
    one false h = omega arith
