-- What the refusal of a run says of its sizes. Assumes nothing.
use mathlib.Core.Path.{◌≡◌, refl, ap, sym, ◌∙◌}
use mathlib.Core.Bool.{Bool, true, false, cond}
use Prim.Native.Nat.{ℕ, zero, suc, ◌%◌, ◌≤◌}
use native.Mathlib.Omega.{arith}
use borrow.Author.Tests.{ltb-false, lt-ltb, le-ltb}
use lib.Dec.{ltb}
use lib.IntN.{ℤ, pos, neg_ℤ}
use mir.Syntax.{w64}
use mir.Val.{SFits, to_z, of_z}
use mir.Facts.{to_z-of_z}
use Rattle.records.specs.declared.Refusal.{Refusal}
use Rattle.records.specs.Records.{refusal_number}
use Rattle.records.proofs.Refusals.{number_some}
use Rattle.bus_log.specs.Log.{record_size, max_records, length_refusal, room_refusal, count_refusal, records_in, log_refusal, first_refusal}
use Rattle.bus_log.specs.Run.{answer_room, run_refusal}

-- a log of size bytes that is not refused with these answer bytes
pub record Accepted (wanted : Bool) (size bytes : ℕ) : Type 0 where
  pub whole : size % record_size ≡ 0
  pub count : records_in size ≤ max_records
  pub room : answer_room wanted (records_in size) ≤ bytes

-- a log of size bytes that is not refused by itself
pub record Taken (size : ℕ) : Type 0 where
  pub whole : size % record_size ≡ 0
  pub count : records_in size ≤ max_records

-- where the first of two refusals is 0, neither applies
pub neither : (a b : ℕ) → first_refusal a b ≡ 0 → (a ≡ 0) × (b ≡ 0)
neither zero b e = (refl, e)
neither (suc a) b e = let some : suc a ≡ 0 = rw (lt-ltb 0 (suc a) (omega arith)) at e in absurd (omega arith)

no_test : (x y : Bool) → cond x length_refusal (cond y count_refusal 0) ≡ 0 → (x ≡ false) × (y ≡ false)
no_test true y e = absurd (omega arith)
no_test false true e = absurd (omega arith)
no_test false false e = (refl, refl)

pub taken : (size : ℕ) → log_refusal size ≡ 0 → Taken size
unfolding log_refusal
taken size e =
    let t = no_test (ltb 0 (size % record_size)) (ltb max_records (records_in size)) e in
    record { whole = omega (arith, ltb-false 0 (size % record_size) t.0); count = ltb-false max_records (records_in size) t.1 }

pub takes : (size : ℕ) → Taken size → log_refusal size ≡ 0
unfolding log_refusal
takes size t =
    simp (le-ltb 0 (size % record_size) (omega (arith, t.whole)), le-ltb max_records (records_in size) t.count)

-- where the room is not refused, there is enough
no_room : (z : Bool) → cond z room_refusal 0 ≡ 0 → z ≡ false
no_room true e = absurd (omega arith)
no_room false e = refl

pub accepted : (wanted : Bool) (size bytes : ℕ) → run_refusal wanted size bytes ≡ 0 → Accepted wanted size bytes
unfolding run_refusal
accepted wanted size bytes e =
    let both = neither (log_refusal size) _ e in
    let t = taken size both.0 in
    record {
      whole = t.whole;
      count = t.count;
      room = ltb-false bytes (answer_room wanted (records_in size)) (no_room (ltb bytes (answer_room wanted (records_in size))) both.1);
    }

pub accepts : (wanted : Bool) (size bytes : ℕ) → Accepted wanted size bytes → run_refusal wanted size bytes ≡ 0
unfolding run_refusal
accepts wanted size bytes a =
    rw (takes size (record { whole = a.whole; count = a.count }), le-ltb bytes (answer_room wanted (records_in size)) a.room)

-- the first of two refusals comes first
pub first_of : (a b : ℕ) → (a ≡ 0 → ⊥) → first_refusal a b ≡ a
first_of a b some = rw (lt-ltb 0 a (omega (arith, some)))

-- so a log that is refused by itself is refused so, whatever the room
pub log_first : (wanted : Bool) (size room : ℕ) (e : Refusal) → refusal_number e ≡ log_refusal size → refusal_number e ≡ run_refusal wanted size room
unfolding run_refusal
log_first wanted size room e h = h ∙ sym (first_of (log_refusal size) _ (λ z. number_some e (h ∙ z)))

-- minus the number n of a refusal, told as `i64`
pub minus_told : {r : ℤ} {k n : ℕ} → SFits w64 r → r ≡ neg_ℤ (pos k) → k ≡ n → to_z w64 (of_z w64 r) ≡ neg_ℤ (pos n)
minus_told fits e h = to_z-of_z {w = w64} fits ∙ e ∙ ap (λ (n : ℕ). neg_ℤ (pos n)) h
