-- The stages of a load, one turn after the other. Assumes nothing.
use mathlib.Core.Path.{◌≡◌, refl, sym, subst, ap, ◌∙◌}
use mathlib.Core.Bool.{Bool, true, false, cond, ◌&&◌}
use mathlib.Core.List.{List, [], ◌∷◌, ◌++◌, append_assoc, append-nil}
use Prim.Native.Nat.{ℕ, zero, suc, ◌+◌, ◌%◌, ◌<◌, ◌≤◌}
use native.Mathlib.Omega.{arith}
use lib.Dec.{eqb, ltb}
use lib.Bits.{bit_and, and_le_r}
use lib.ListN.{get_or}
use borrow.Author.Tests.{lt-ltb, le-ltb, eq-eqb, eqb-true, eqb-false}
use Rattle.registers.specs.declared.Mode.{Mode}
use Rattle.registers.specs.declared.Mode.TheVariants.{Configuration}
use Rattle.registers.specs.declared.State.{State}
use Rattle.registers.specs.declared.Flags.{Flags}
use Rattle.registers.specs.declared.Core.{Core}
use Rattle.registers.specs.State.{with_control}
use Rattle.registers.specs.Registers.{region_of, is_profile, holds, reads}
use Rattle.stores.specs.Store.{stored}
use Rattle.controller.specs.Events.{settled_core}
use Rattle.mcp2515.specs.declared.Chip.{Chip}
use Rattle.mcp2515.specs.Step.{chip_after}
use Rattle.load_machine.specs.declared.Verdict.TheVariants.{In}
use Rattle.load_machine.specs.declared.Stage.{Stage}
use Rattle.load_machine.specs.declared.Stage.TheVariants.{Writing, Checking, Returning}
use Rattle.load_machine.specs.declared.Command.{Command}
use Rattle.load_machine.specs.declared.Command.TheVariants.{Read, Write}
use Rattle.load_machine.specs.Profile.{profile_size, address_of, bits_of, agrees_at}
use Rattle.load_machine.specs.Machine.{next_of, last_byte, checked_by, following_of, session_of}
use Rattle.load_rules.specs.Load.{gap_before, reply_of, Progress, turn_of, turns}
use Rattle.load_rules.specs.Laws.{register_of, writes_from, reads_from, interleaved}
use Rattle.load_rules.proofs.Reach.{Home, settle_none}
use Rattle.load_rules.proofs.Sessions.{raised, write_core, read_chip, read_reply, write_chip}
use Rattle.load_rules.proofs.Slots.{byte_address, small_bits, Written, write_register}
use Rattle.load_rules.proofs.Gapped.{gap_pass}
use Rattle.load_rules.proofs.Kept.{Wrote, wrote_event}

-- at a stage, with a core of which Q holds, and these records sent
abbrev pub at : Stage → Core → List (List ℕ) → Progress
at st k rs = record { stage = st; chip = raised k; sent = rs }

pub record At (st : Stage) (Q : Core → Type 0) (rs : List (List ℕ)) (s : Progress) : Type 0 where
  pub core : Core
  pub is : s ≡ at st core rs
  pub good : Q core

settle_core : {m : Mode} (k : Core) → Home m k.control → settled_core k ≡ k
settle_core k h = ap (with_control k) (settle_none k.control h.request)

-- in Configuration nothing is hidden
and_false : (x : Bool) → x && false ≡ false
and_false true = refl
and_false false = refl

reads_there : (k : Core) (a : ℕ) → Home Configuration k.control → a < 128 → reads k (a % 128) ≡ holds k a
unfolding reads
reads_there k a h l =
    let e : a % 128 ≡ a = omega (arith, l) in
    rw (e, h.mode, and_false (is_profile (region_of (a % 128))))

module _ (p : List ℕ) (m : Mode) (g : ℕ → List (List ℕ)) (base : Core)
    (fits : (i : ℕ) → i < profile_size → bit_and (get_or p i 0) (bits_of i) ≡ get_or p i 0) where
  byte_fits : (i : ℕ) → i < profile_size → get_or p i 0 ≤ 255
  byte_fits i h =
      let le : bit_and (get_or p i 0) (bits_of i) ≤ bits_of i = and_le_r (get_or p i 0) (bits_of i) in
      omega (arith, le, fits i h, small_bits i h)

  -- ---- a write
  wrote_next : (i : ℕ) (k : Core) → i < profile_size → Wrote p base i k → Wrote p base (suc i) (write_core (address_of i) (get_or p i 0) k)
  wrote_next i k h w =
      let v : ℕ = get_or p i 0 in
      let j : Core = stored k (address_of i % 128) v in
      let x : Written k j i v = write_register k i v h w.home w.size in
      let home : Home Configuration j.control = record {
        mode = ap (λ (s : State). s.mode) x.state ∙ w.home.mode;
        request = ap (λ (s : State). s.request) x.state ∙ w.home.request;
      } in
      let same : write_core (address_of i) v k ≡ j
      = ap (λ (c : Core). settled_core (stored c (address_of i % 128) v)) (settle_core k w.home) ∙ settle_core j home in
      subst (Wrote p base (suc i)) (sym same)
      (record {
        home = home;
        size = x.size ∙ w.size;
        written = λ n l below. go n l below x (eqb i n) refl;
        canctrl = ap (λ (f : Flags). f.canctrl % 32) x.flags ∙ w.canctrl;
      })
    where
      go : (n : ℕ) → n < profile_size → n < suc i → Written k (stored k (address_of i % 128) (get_or p i 0)) i (get_or p i 0)
          → (b : Bool) → eqb i n ≡ b → register_of (stored k (address_of i % 128) (get_or p i 0)) n ≡ get_or p n 0
      go n l below x true e = rw (← eqb-true i n e) (x.own ∙ fits i h)
      go n l below x false e = x.other n l (eqb-false i n e) ∙ w.written n l (omega (arith, below, eqb-false i n e))

  -- the records of a turn
  abbrev sent_in : ℕ → Command → List (List ℕ)
  sent_in n x = gap_before g n ++ session_of x

  write_turn : (i n : ℕ) (rs : List (List ℕ)) (s : Progress) → i < profile_size → At (Writing i) (Wrote p base i) rs s
      → At (cond (ltb i last_byte) (Writing (suc i)) (Checking 0 true)) (Wrote p base (suc i)) (rs ++ sent_in n (Write (address_of i) (get_or p i 0)))
      (turn_of p m (gap_before g n) s)
  unfolding turn_of next_of following_of
  write_turn i n rs s h a =
      let passed = gap_pass (Wrote p base i) (wrote_event p base i) g n a.core a.good in
      let x : Command = Write (address_of i) (get_or p i 0) in
      record {
        core = write_core (address_of i) (get_or p i 0) passed.core;
        is = ap (turn_of p m (gap_before g n)) a.is
            ∙ ap (λ (c : Chip). record { stage = cond (ltb i last_byte) (Writing (suc i)) (Checking 0 true); chip = c; sent = rs ++ sent_in n x })
            (ap (λ (c : Chip). chip_after c (session_of x)) passed.chip
            ∙ write_chip (address_of i) (get_or p i 0) passed.core (omega (arith, byte_address i h)) (byte_fits i h));
        good = wrote_next i passed.core h passed.kept;
      }

  -- what is sent behind what was sent
  more : (rs : List (List ℕ)) (n : ℕ) (x : Command) (xs : List Command)
      → (rs ++ sent_in n x) ++ interleaved g (suc n) xs ≡ rs ++ interleaved g n (x ∷ xs)
  unfolding interleaved
  more rs n x xs = append_assoc rs (sent_in n x) (interleaved g (suc n) xs) ∙ ap (rs ++◌) (append_assoc (gap_before g n) (session_of x) (interleaved g (suc n) xs))

  moved : {st : Stage} {Q : Core → Type 0} {rs us : List (List ℕ)} {s : Progress} → rs ≡ us → At st Q rs s → At st Q us s
  moved {st = st} {Q = Q} {s = s} e a = subst (λ (us : List (List ℕ)). At st Q us s) e a

  pub writes : (j i n : ℕ) (rs : List (List ℕ)) (s : Progress) → i + j ≡ last_byte → At (Writing i) (Wrote p base i) rs s
      → At (Checking 0 true) (Wrote p base profile_size) (rs ++ interleaved g n (writes_from p i (suc j))) (turns p m g (suc j) n s)
  unfolding turns writes_from interleaved
  writes zero i n rs s e a =
      let all : suc i ≡ profile_size = omega arith in
      let next = write_turn i n rs s (omega arith) a in
      moved (sym (append-nil _) ∙ more rs n _ []) (rw (le-ltb i last_byte (omega arith), all) at next)
  writes (suc j) i n rs s e a =
      let next = write_turn i n rs s (omega arith) a in
      moved (more rs n _ (writes_from p (suc i) (suc j))) (writes j (suc i) (suc n) _ _ (omega arith) (rw (lt-ltb i last_byte (omega arith)) at next))

  -- ---- a byte read back
  read_agrees : (i : ℕ) (k : Core) → i < profile_size → Wrote p base profile_size k → agrees_at p i (reads k (address_of i % 128)) ≡ true
  read_agrees i k h w =
      eq-eqb _ _ (ap (λ (x : ℕ). bit_and x (bits_of i)) (reads_there k (address_of i) w.home (byte_address i h)) ∙ w.written i h h ∙ sym (fits i h))

  check_turn : (i n : ℕ) (rs : List (List ℕ)) (s : Progress) → i < profile_size → At (Checking i true) (Wrote p base profile_size) rs s
      → At (checked_by i true) (Wrote p base profile_size) (rs ++ sent_in n (Read (address_of i))) (turn_of p m (gap_before g n) s)
  unfolding turn_of next_of following_of
  check_turn i n rs s h a =
      let passed = gap_pass (Wrote p base profile_size) (wrote_event p base profile_size) g n a.core a.good in
      let x : Command = Read (address_of i) in
      let small : address_of i ≤ 255 = omega (arith, byte_address i h) in
      let kept : settled_core passed.core ≡ passed.core = settle_core passed.core passed.kept.home in
      let reply : reply_of (chip_after (raised a.core) (gap_before g n)) x ≡ reads passed.core (address_of i % 128)
      = ap (λ (c : Chip). reply_of c x) passed.chip ∙ read_reply (address_of i) passed.core small ∙ ap (λ (k : Core). reads k (address_of i % 128)) kept in
      let agreed : agrees_at p i (reply_of (chip_after (raised a.core) (gap_before g n)) x) ≡ true
      = ap (agrees_at p i) reply ∙ read_agrees i passed.core h passed.kept in
      let chip : chip_after (chip_after (raised a.core) (gap_before g n)) (session_of x) ≡ raised passed.core
      = ap (λ (c : Chip). chip_after c (session_of x)) passed.chip ∙ read_chip (address_of i) passed.core small ∙ ap raised kept in
      record {
        core = passed.core;
        is = ap (turn_of p m (gap_before g n)) a.is
            ∙ ap (λ (b : Bool). record { stage = checked_by i b; chip = chip_after (chip_after (raised a.core) (gap_before g n)) (session_of x); sent = rs ++ sent_in n x }) agreed
            ∙ ap (λ (c : Chip). record { stage = checked_by i true; chip = c; sent = rs ++ sent_in n x }) chip;
        good = passed.kept;
      }

  pub checks : (j i n : ℕ) (rs : List (List ℕ)) (s : Progress) → i + j ≡ last_byte → At (Checking i true) (Wrote p base profile_size) rs s
      → At (Returning In) (Wrote p base profile_size) (rs ++ interleaved g n (reads_from i (suc j))) (turns p m g (suc j) n s)
  unfolding turns reads_from interleaved
  checks zero i n rs s e a =
      let next = check_turn i n rs s (omega arith) a in
      moved (sym (append-nil _) ∙ more rs n _ []) (rw (le-ltb i last_byte (omega arith)) at next)
  checks (suc j) i n rs s e a =
      let next = check_turn i n rs s (omega arith) a in
      moved (more rs n _ (reads_from (suc i) (suc j))) (checks j (suc i) (suc n) _ _ (omega arith) (rw (lt-ltb i last_byte (omega arith)) at next))
