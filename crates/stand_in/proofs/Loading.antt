-- A chip put back into the bytes that it came from, and what a load over them says. Assumes nothing.
use mathlib.Core.Path.{◌≡◌, refl, sym, ap, ◌∙◌}
use mathlib.Core.Bool.{Bool, true, false, cond}
use mathlib.Core.List.{List, [], ◌∷◌}
use Prim.Native.Nat.{ℕ, ◌<◌, ◌≤◌}
use native.Mathlib.Omega.{arith}
use lib.Dec.{eqb, ltb}
use lib.IntN.{ℤ, pos, neg_ℤ}
use lib.ListN.{length, get_or, set, drop, length-set, drop_of_length-le}
use lib.Seq.{sets, length-take-le, drop-cons, get_or-set_same, get_or-set_other}
use borrow.Author.Tests.{eqb-true, eqb-false, lt-ltb, le-ltb}
use Rattle.image.specs.Image.{image_size, is_chip}
use Rattle.image.proofs.Laws.{chip_size}
use Rattle.spi.proofs.Turns.{select_core}
use Rattle.mcp2515.specs.declared.Chip.{Chip}
use Rattle.mcp2515.specs.ChipImage.{chip_of, Packed, Moved}
use Rattle.spi.proofs.Clash.{clash}
use Rattle.bus_log.specs.Run.{call_result}
use Rattle.bus_log.specs.Held.{held_refusal}
use Rattle.bus_log.proofs.Copy.{sets_first}
use Rattle.bus_log.proofs.Helds.{held_moved, held_kept}
use Rattle.load_machine.specs.declared.Verdict.{Verdict}
use Rattle.load_machine.specs.declared.Verdict.TheVariants.{Refused, Waiting, In}
use Rattle.load_rules.specs.Load.{load_of, verdict_in}
use Rattle.load_rules.specs.Laws.{reaches, refusal_of_load, IsWhole}
use Rattle.load_rules.proofs.AllLaws.{load_laws}
use Rattle.profile_loader.specs.Gaps.{gaps_of, entries_in}
use Rattle.profile_loader.specs.Running.{run_of}
use Rattle.stand_in.specs.StandIn.{short_refusal, zero_or_one}
use Rattle.stand_in.specs.LoadCalls.{lengths_refusal, goes_in, load_result, LoadCall, sent_bytes, records_result, records_after, result_of, is_refused, LoadHeld, SentHeld}

-- ---- a chip is read from the first 150 bytes
spare_set : (m : List ℕ) (i v : ℕ) → 150 ≤ i → chip_of (set m i v) ≡ chip_of m
spare_set m i v h =
    rw (
      select_core m i v (omega arith),
      get_or-set_other m i 146 v 0 (λ e. omega (arith, e)),
      get_or-set_other m i 147 v 0 (λ e. omega (arith, e)),
      get_or-set_other m i 148 v 0 (λ e. omega (arith, e)),
      get_or-set_other m i 149 v 0 (λ e. omega (arith, e)),
    )

-- the two behind them
two_left : (m : List ℕ) → length m ≡ image_size → drop 150 m ≡ get_or m 150 0 ∷ get_or m 151 0 ∷ []
two_left m h =
    drop-cons m 150 0 (omega arith) ∙ ap (λ (l : List ℕ). get_or m 150 0 ∷ l) (drop-cons m 151 0 (omega arith) ∙ ap (λ (l : List ℕ). get_or m 151 0 ∷ l) (drop_of_length-le m {i = 152} (omega arith)))

-- a packed chip with the two of m behind it
pub put_back : (m image : List ℕ) (c : Chip) → length m ≡ image_size → Packed image c
    → Moved m (set (set image 150 (get_or m 150 0)) 151 (get_or m 151 0)) c
put_back m image c h k =
    let i : List ℕ = set (set image 150 (get_or m 150 0)) 151 (get_or m 151 0) in
    let size : length i ≡ image_size = length-set (set image 150 (get_or m 150 0)) 151 (get_or m 151 0) ∙ length-set image 150 (get_or m 150 0) ∙ k.size in
    let first : length (set image 150 (get_or m 150 0)) ≡ image_size = length-set image 150 (get_or m 150 0) ∙ k.size in
    let second : get_or i 151 0 ≡ get_or m 151 0 = get_or-set_same (set image 150 (get_or m 150 0)) 151 (get_or m 151 0) 0 (omega arith) in
    let spare : get_or i 150 0 ≡ get_or m 150 0
    = get_or-set_other (set image 150 (get_or m 150 0)) 151 150 (get_or m 151 0) 0 (λ z. omega (arith, z)) ∙ get_or-set_same image 150 (get_or m 150 0) 0 (omega (arith, k.size)) in
    record {
      packed = record {
        size = size;
        chip = spare_set (set image 150 (get_or m 150 0)) 151 (get_or m 151 0) (omega arith) ∙ spare_set image 150 (get_or m 150 0) (omega arith) ∙ k.chip;
      };
      spare = two_left i size ∙ rw (spare, second) (sym (two_left m h));
    }

-- ---- what a load says
not_zero : (n : ℕ) → (n ≡ 0 → ⊥) → 0 < n
not_zero n h = omega (arith, h)

whole_chip : (m : List ℕ) → length m ≡ image_size → IsWhole (chip_of m)
whole_chip m h = length-take-le 48 m (omega arith)

-- of a load that is refused by the number n, and else goes in or waits
record Said (n : ℕ) (b : Bool) (v : Verdict) : Type 0 where
  result : result_of v ≡ call_result n (zero_or_one b)
  refused : is_refused v ≡ true → n ≡ 0 → ⊥
  accepted : is_refused v ≡ false → n ≡ 0

said_taken : (b : Bool) → Said 0 b (cond b In Waiting)
said_taken true = record { result = refl; refused = λ e. clash (sym e); accepted = λ _. refl }
said_taken false = record { result = refl; refused = λ e. clash (sym e); accepted = λ _. refl }

said_refused : (n : ℕ) (b : Bool) → (n ≡ 0 → ⊥) → Said n b (Refused n)
said_refused n b some =
    record {
      result = rw (lt-ltb 0 n (not_zero n some));
      refused = λ _. some;
      accepted = λ f. clash f;
    }

said : (c : Chip) (p : List ℕ) (g : ℕ → List (List ℕ)) → IsWhole c → Said (refusal_of_load c p) (reaches c g) (verdict_in (load_of c p g).stage)
said c p g whole = go (eqb (refusal_of_load c p) 0) refl
  where
    go : (b : Bool) → eqb (refusal_of_load c p) 0 ≡ b → Said (refusal_of_load c p) (reaches c g) (verdict_in (load_of c p g).stage)
    go true e =
        let none = eqb-true (refusal_of_load c p) 0 e in
        rw (none, (load_laws.accepted c p g whole none).verdict) (said_taken (reaches c g))
    go false e =
        let some = eqb-false (refusal_of_load c p) 0 e in
        rw (load_laws.refused c p g some) (said_refused (refusal_of_load c p) (reaches c g) some)

-- ---- both calls, over a chip m
module _ (m p events : List ℕ) (is : is_chip m ≡ true) where
  abbrev here : Chip
  here = chip_of m

  abbrev refusal : ℕ
  refusal = refusal_of_load here p

  said_here : Said refusal (goes_in m events) (verdict_in (run_of here p events).stage)
  said_here = said here p (gaps_of (entries_in events)) (whole_chip m (chip_size m is))

  module _ (v : Verdict) (e : v ≡ verdict_in (run_of here p events).stage) where
    said_v : Said refusal (goes_in m events) v
    said_v = rw e said_here

    refused_here : is_refused v ≡ true → refusal ≡ 0 → ⊥
    refused_here = said_v.refused

    accepted_here : is_refused v ≡ false → refusal ≡ 0
    accepted_here = said_v.accepted

    result_here : result_of v ≡ call_result refusal (zero_or_one (goes_in m events))
    result_here = said_v.result

    pub load_refused : (r : ℤ) → r ≡ result_of v → is_refused v ≡ true → LoadHeld m p events m r
    load_refused r f x = record { result = f ∙ result_here; chip = held_kept (refused_here x) }

    pub load_taken : (n : List ℕ) (c : Chip) (r : ℤ) → r ≡ result_of v → is_refused v ≡ false → c ≡ (run_of here p events).chip → Moved m n c
        → LoadHeld m p events n r
    load_taken n c r f x z w = record { result = f ∙ result_here; chip = held_moved is (accepted_here x) (rw z at w) }

    pub records_refused : (room : List ℕ) (r : ℤ) → r ≡ result_of v → is_refused v ≡ true → SentHeld m p events room room r
    records_refused room r f x =
        let some : ltb 0 refusal ≡ true = lt-ltb 0 refusal (not_zero refusal (refused_here x)) in
        record { result = f ∙ result_here ∙ rw (some, some); buffer = rw (some, some) }

    module _ (room : List ℕ) (sent : ℕ) (size : sent ≡ length (sent_bytes m p events)) (x : is_refused v ≡ false) where
      pub records_short : (r : ℤ) → r ≡ neg_ℤ (pos short_refusal) → length room < sent → SentHeld m p events room room r
      records_short r f l =
          let short : ltb (length room) (length (sent_bytes m p events)) ≡ true = lt-ltb (length room) (length (sent_bytes m p events)) (rw size at l) in
          record { result = f ∙ rw (accepted_here x, short); buffer = rw (accepted_here x, short) }

      pub records_stored : (after : List ℕ) (r : ℤ) → r ≡ pos (length (run_of here p events).sent) → sent ≤ length room
          → after ≡ sets room 0 (sent_bytes m p events) → SentHeld m p events room after r
      records_stored after r f l put =
          let fits : length (sent_bytes m p events) ≤ length room = rw size at l in
          let enough : ltb (length room) (length (sent_bytes m p events)) ≡ false = le-ltb (length room) (length (sent_bytes m p events)) fits in
          record {
            result = f ∙ rw (accepted_here x, enough);
            buffer = put ∙ sets_first (sent_bytes m p events) room fits ∙ rw (accepted_here x, enough);
          }

-- ---- with the refusals before them
module _ (m p events : List ℕ) where
  abbrev first : ℕ
  first = held_refusal m (lengths_refusal (length p) (length events))

  pub call_refused : (n : ℕ) (r : ℤ) → first ≡ n → 0 < n → r ≡ neg_ℤ (pos n) → LoadCall m p events m r
  unfolding load_result
  call_refused n r same l f =
      let some : ltb 0 n ≡ true = lt-ltb 0 n l in
      record {
        result = f ∙ rw (same, some, some);
        chip = held_kept (λ z. omega (arith, l, rw (same, some) at z));
        laws = λ z. absurd (omega (arith, l, rw (same, some) at z));
      }

  pub call_taken : (n : List ℕ) (r : ℤ) → first ≡ 0 → is_chip m ≡ true → LoadHeld m p events n r → LoadCall m p events n r
  unfolding load_result
  call_taken n r e is h =
      record {
        result = h.result ∙ rw e;
        chip = rw e h.chip;
        laws = λ z. load_laws.accepted (chip_of m) p (gaps_of (entries_in events)) (whole_chip m (chip_size m is)) (rw e at z);
      }

  pub sent_refused : (room : List ℕ) (n : ℕ) (r : ℤ) → first ≡ n → 0 < n → r ≡ neg_ℤ (pos n)
      → (r ≡ records_result m p events (length room)) × (room ≡ records_after m p events room)
  unfolding records_result records_after
  sent_refused room n r same l f =
      let some : ltb 0 n ≡ true = lt-ltb 0 n l in
      (f ∙ rw (same, some, some, some), rw (same, some, some, some))

  pub sent_taken : (room after : List ℕ) (r : ℤ) → first ≡ 0 → SentHeld m p events room after r
      → (r ≡ records_result m p events (length room)) × (after ≡ records_after m p events room)
  unfolding records_result records_after
  sent_taken room after r e h = (h.result ∙ rw e, h.buffer ∙ rw e)
