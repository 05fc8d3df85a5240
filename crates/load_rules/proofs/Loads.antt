-- Every load, from its refusals to its verdicts. Assumes nothing.
use mathlib.Core.Path.{◌≡◌, refl, sym, subst, ap, ◌∙◌}
use mathlib.Core.Bool.{Bool, true, false, cond}
use mathlib.Core.List.{List, [], ◌∷◌, ◌++◌, append_assoc, append-nil}
use Prim.Native.Nat.{ℕ, zero, suc, ◌+◌, ◌*◌, ◌/◌, ◌%◌, ◌<◌}
use native.Mathlib.Omega.{arith}
use native.Mathlib.Nat.{zero-add}
use lib.Dec.{eqb, lit<}
use lib.Bits.{bit_and, or_shifted}
use lib.ListN.{get_or, length}
use borrow.Author.Tests.{eqb-true, eqb-false}
use Rattle.bits.specs.Bit.{has_bit, for_below}
use Rattle.records.specs.Records.{refused_select}
use Rattle.registers.specs.declared.Mode.{Mode}
use Rattle.registers.specs.declared.Mode.TheVariants.{Normal, Sleep, Loopback, ListenOnly, Configuration}
use Rattle.registers.specs.declared.Control.{Control}
use Rattle.registers.specs.declared.Core.{Core}
use Rattle.registers.specs.State.{rx0if_bit, rx1if_bit, tx0if_bit, tx1if_bit, tx2if_bit, errif_bit, wakif_bit, mode_number}
use Rattle.registers.specs.Registers.{region_of, sources, interrupt_code, canstat_of, holds, reads}
use Rattle.registers.specs.Modes.{sends_in, settled}
use Rattle.controller.specs.Events.{settled_core, event_of}
use Rattle.spi.specs.declared.Select.{Select}
use Rattle.spi.specs.declared.Select.TheVariants.{Raised, Lowered}
use Rattle.spi.proofs.Clash.{clash}
use Rattle.mcp2515.specs.declared.Chip.{Chip}
use Rattle.mcp2515.specs.Step.{chip_after}
use Rattle.mcp2515.proofs.CoreKept.{either}
use Rattle.mcp2515.proofs.Reached.{same_profile}
use Rattle.std.specs.Prelude.{Result, Ok, Err}
use Rattle.records.specs.declared.Refusal.{Refusal}
use Rattle.records.specs.declared.Refusal.TheVariants.{Profile, Mode as OtherMode}
use Rattle.records.specs.Records.{refusal_number, refusal_in}
use Rattle.records.proofs.Refusals.{number_some}
use Rattle.load_machine.specs.declared.Verdict.{Verdict}
use Rattle.load_machine.specs.declared.Verdict.TheVariants.{Refused, Waiting, In}
use Rattle.load_machine.specs.declared.Stage.TheVariants.{Asking, Looking, Writing, Returning, Ended}
use Rattle.load_machine.specs.declared.Command.{Command}
use Rattle.load_machine.specs.declared.Command.TheVariants.{Ask, Read}
use Rattle.load_machine.specs.declared.Turn.{Turn}
use Rattle.load_machine.specs.declared.Turn.TheVariants.{Send, Say}
use Rattle.load_machine.specs.Profile.{profile_size, address_of, bits_of, is_writable_at, is_writable, refused_profile, refused_mode, loads_in, checked_for, refusal_for}
use Rattle.load_machine.specs.Machine.{begin_by, begin_of, next_of, is_reached, following_of, session_of}
use Rattle.load_rules.specs.Load.{gap_before, reply_of, Progress, turn_by, turn_of, turns, start_of, is_lowered, begun, load_of}
use Rattle.load_rules.specs.Laws.{writes_from, reads_from, commands_of, records_of_all, CommandCounts, interleaved, reaches, refusal_of_load, RefusedLoads, register_of, Loads, AcceptedLoads}
use Rattle.load_rules.proofs.Reach.{Home, Reach, there, waiting, settle_reach, event_reach}
use Rattle.load_rules.proofs.Sessions.{raised, ask_core, ask_chip, read_chip, read_reply}
use Rattle.load_rules.proofs.Slots.{at_profile, same_registers}
use Rattle.load_rules.proofs.Stays.{and_left, and_right}
use Rattle.load_rules.proofs.Gapped.{after_append, gap_pass}
use Rattle.load_rules.proofs.Kept.{Same, then_same, event_same, settle_same, ask_same, ask_canctrl, ask_there, ask_home, ask_first, Wrote, wrote_event}
use Rattle.load_rules.proofs.Stages.{at, At, writes, checks}

pub command_counts : (p : List ℕ) (m : Mode) → CommandCounts p m
unfolding writes_from reads_from records_of_all
command_counts p m = record { in_commands = refl; in_records = refl; waiting_commands = refl; waiting_records = refl }

-- ---- CANSTAT shows the mode
code_small : (s : ℕ) → interrupt_code s < 16
unfolding interrupt_code
code_small s =
    either (λ (n : ℕ). n < 16) (has_bit s errif_bit) (lit< tt)
    (either (λ (n : ℕ). n < 16) (has_bit s wakif_bit) (lit< tt)
    (either (λ (n : ℕ). n < 16) (has_bit s tx0if_bit) (lit< tt)
    (either (λ (n : ℕ). n < 16) (has_bit s tx1if_bit) (lit< tt)
    (either (λ (n : ℕ). n < 16) (has_bit s tx2if_bit) (lit< tt)
    (either (λ (n : ℕ). n < 16) (has_bit s rx0if_bit) (lit< tt)
    (either (λ (n : ℕ). n < 16) (has_bit s rx1if_bit) (lit< tt) (lit< tt)))))))

mode_shown : (c : Control) → canstat_of c / 32 ≡ mode_number c.state.mode
unfolding canstat_of
mode_shown c =
    let code : interrupt_code (sources c.flags) * 2 < 32 = omega (arith, code_small (sources c.flags)) in
    ap (λ (n : ℕ). n / 32) (or_shifted (mode_number c.state.mode) 5 (interrupt_code (sources c.flags) * 2) code) ∙ omega (arith, code)

mode_read : (k : Core) → is_reached (reads k (0x0E % 128)) ≡ eqb (mode_number k.control.state.mode) (mode_number Configuration)
unfolding reads holds region_of
mode_read k = ap (λ (n : ℕ). eqb n 4) (mode_shown k.control)

-- the loader reads Configuration just where it has arrived
arrived : (m : Mode) (c : Control) → Reach m c → eqb (mode_number c.state.mode) (mode_number Configuration) ≡ true → Home Configuration c
arrived m c (there h) e = h
arrived m c (waiting q) e = sends-not m q.sends (rw q.mode at e)
  where
    sends-not : (n : Mode) → sends_in n ≡ true → eqb (mode_number n) (mode_number Configuration) ≡ true → Home Configuration c
    sends-not Normal s f = clash (sym f)
    sends-not Sleep s f = clash (sym s)
    sends-not Loopback s f = clash (sym f)
    sends-not ListenOnly s f = clash (sym s)
    sends-not Configuration s f = clash (sym s)

-- ---- turns
module _ (p : List ℕ) (m : Mode) (g : ℕ → List (List ℕ)) where
  turns_add : (a b n : ℕ) (s : Progress) → turns p m g (a + b) n s ≡ turns p m g b (a + n) (turns p m g a n s)
  unfolding turns
  turns_add zero b n s = rw (zero-add n, zero-add b)
  turns_add (suc a) b n s =
      let e : suc a + n ≡ a + suc n = omega arith in
      let f : suc a + b ≡ suc (a + b) = omega arith in
      rw (e, f) (turns_add a b (suc n) (turn_of p m (gap_before g n) s))

  turns_ended : (k n : ℕ) (v : Verdict) (c : Chip) (rs : List (List ℕ))
      → turns p m g k n (record { stage = Ended v; chip = c; sent = rs }) ≡ record { stage = Ended v; chip = c; sent = rs }
  unfolding turns turn_of next_of
  turns_ended zero n v c rs = refl
  turns_ended (suc k) n v c rs = turns_ended k (suc n) v c rs

  -- the chip is the one after the records sent
  turn_replays : (c : Chip) (es : List (List ℕ)) (s : Progress) → s.chip ≡ chip_after c s.sent → (turn_of p m es s).chip ≡ chip_after c (turn_of p m es s).sent
  unfolding turn_of
  turn_replays c es s h = go (next_of p m s.stage)
    where
      go : (t : Turn) → (turn_by t p es s).chip ≡ chip_after c (turn_by t p es s).sent
      go (Say v) = h
      go (Send x) =
          ap (λ (d : Chip). chip_after (chip_after d es) (session_of x)) h
          ∙ ap (λ (d : Chip). chip_after d (session_of x)) (sym (after_append c s.sent es))
          ∙ sym (after_append c (s.sent ++ es) (session_of x))
          ∙ ap (chip_after c) (append_assoc s.sent es (session_of x))

  turns_replay : (c : Chip) (k n : ℕ) (s : Progress) → s.chip ≡ chip_after c s.sent → (turns p m g k n s).chip ≡ chip_after c (turns p m g k n s).sent
  unfolding turns
  turns_replay c zero n s h = h
  turns_replay c (suc k) n s h = turns_replay c k (suc n) (turn_of p m (gap_before g n) s) (turn_replays c (gap_before g n) s h)

  interleaved_append : (n : ℕ) (xs ys : List Command) → interleaved g n (xs ++ ys) ≡ interleaved g n xs ++ interleaved g (length xs + n) ys
  unfolding interleaved
  interleaved_append n [] ys = rw (zero-add n)
  interleaved_append n (x ∷ xs) ys =
      let e : length xs + suc n ≡ suc (length xs) + n = omega arith in
      rw (interleaved_append (suc n) xs ys, e)
      (ap (gap_before g n ++◌) (sym (append_assoc (session_of x) (interleaved g (suc n) xs) _)) ∙ sym (append_assoc (gap_before g n) (session_of x ++ interleaved g (suc n) xs) _))

  -- back to the mode at the start
  return_turn : (Q R : Core → Type 0) → ((k : Core) (r : List ℕ) → Q k → Q (event_of k r).core) → ((k : Core) → Q k → R (ask_core m k))
      → (v : Verdict) (n : ℕ) (rs : List (List ℕ)) (s : Progress) → At (Returning v) Q rs s
      → At (Ended v) R (rs ++ (gap_before g n ++ session_of (Ask m))) (turn_of p m (gap_before g n) s)
  unfolding turn_of next_of following_of
  return_turn Q R event ask v n rs s a =
      let passed = gap_pass Q event g n a.core a.good in
      record {
        core = ask_core m passed.core;
        is = ap (turn_of p m (gap_before g n)) a.is
            ∙ ap (λ (c : Chip). record { stage = Ended v; chip = c; sent = rs ++ (gap_before g n ++ session_of (Ask m)) })
            (ap (λ (c : Chip). chip_after c (session_of (Ask m))) passed.chip ∙ ask_chip m passed.core);
        good = ask passed.core passed.kept;
      }

-- ---- after Configuration was asked for, from the core k
record Asked (k j : Core) : Type 0 where
  reach : Reach (settled k.control).state.mode j.control
  same : Same k j

asked_event : (k j : Core) (r : List ℕ) → Asked k j → Asked k (event_of j r).core
asked_event k j r a = record { reach = event_reach j r a.reach; same = then_same a.same (event_same j r) }

asked_settled : (k j : Core) → Asked k j → Asked k (settled_core j)
asked_settled k j a = record { reach = settle_reach j.control a.reach; same = then_same a.same (settle_same j) }

-- ---- at the end: CANCTRL, and what else R says
record Final (m : Mode) (R : Core → Type 0) (k j : Core) : Type 0 where
  canctrl : j.control.flags.canctrl ≡ k.control.flags.canctrl % 32 + mode_number m * 32
  home : settled k.control ≡ k.control → Home m j.control
  rest : R j

module _ (k : Core) (p : List ℕ) (g : ℕ → List (List ℕ)) where
  abbrev c : Chip
  c = raised k

  abbrev m : Mode
  m = k.control.state.mode

  abbrev read : Bool
  read = reaches c g

  -- the records of the first two commands
  abbrev opening : List (List ℕ)
  opening = ([] ++ ([] ++ session_of (Ask Configuration))) ++ (gap_before g 1 ++ session_of (Read 0x0E))

  -- ---- the first two turns
  record Looked (s : Progress) : Type 0 where
    core : Core
    is : s ≡ at (cond read (Writing 0) (Returning Waiting)) core opening
    asked : Asked k core
    reading : read ≡ eqb (mode_number core.control.state.mode) (mode_number Configuration)

  asking : turn_of p m (gap_before g 0) (at Asking k []) ≡ at Looking (ask_core Configuration k) ([] ++ ([] ++ session_of (Ask Configuration)))
  unfolding turn_of next_of following_of chip_after
  asking = ap (λ (d : Chip). record { stage = Looking; chip = d; sent = [] ++ ([] ++ session_of (Ask Configuration)) }) (ask_chip Configuration k)

  looking : Looked (turn_of p m (gap_before g 1) (at Looking (ask_core Configuration k) ([] ++ ([] ++ session_of (Ask Configuration)))))
  unfolding turn_of next_of following_of
  looking =
      let k1 : Core = ask_core Configuration k in
      let passed = gap_pass (Asked k) (asked_event k) g 1 k1 (record { reach = ask_first k; same = ask_same Configuration k }) in
      let x : Command = Read 0x0E in
      let from-ask : reply_of (chip_after (chip_after c (session_of (Ask Configuration))) (gap_before g 1)) x ≡ reply_of (chip_after (raised k1) (gap_before g 1)) x
      = ap (λ (d : Chip). reply_of (chip_after d (gap_before g 1)) x) (ask_chip Configuration k) in
      let reply : reply_of (chip_after (raised k1) (gap_before g 1)) x ≡ reads (settled_core passed.core) (0x0E % 128)
      = ap (λ (d : Chip). reply_of d x) passed.chip ∙ read_reply 0x0E passed.core (omega arith) in
      let chip : chip_after (chip_after (raised k1) (gap_before g 1)) (session_of x) ≡ raised (settled_core passed.core)
      = ap (λ (d : Chip). chip_after d (session_of x)) passed.chip ∙ read_chip 0x0E passed.core (omega arith) in
      record {
        core = settled_core passed.core;
        is = ap (λ (n : ℕ). record { stage = cond (is_reached n) (Writing 0) (Returning Waiting); chip = chip_after (chip_after (raised k1) (gap_before g 1)) (session_of x); sent = opening }) (sym from-ask)
            ∙ ap (λ (d : Chip). record { stage = cond read (Writing 0) (Returning Waiting); chip = d; sent = opening }) chip;
        asked = asked_settled k passed.core passed.kept;
        reading = ap is_reached (from-ask ∙ reply) ∙ mode_read (settled_core passed.core);
      }

  started : turns p m g 71 0 (at Asking k []) ≡ turns p m g 69 2 (turn_of p m (gap_before g 1) (at Looking (ask_core Configuration k) ([] ++ ([] ++ session_of (Ask Configuration)))))
  unfolding turns
  started = ap (λ (s : Progress). turns p m g 69 2 (turn_of p m (gap_before g 1) s)) asking

  join : (xs : List Command) → opening ++ interleaved g 2 xs ≡ interleaved g 0 (Ask Configuration ∷ Read 0x0E ∷ xs)
  unfolding interleaved
  join xs =
      append_assoc (session_of (Ask Configuration)) (gap_before g 1 ++ session_of (Read 0x0E)) (interleaved g 2 xs)
      ∙ ap (session_of (Ask Configuration) ++◌) (append_assoc (gap_before g 1) (session_of (Read 0x0E)) (interleaved g 2 xs))

  last_sent : (rs : List (List ℕ)) (n : ℕ) → rs ++ (gap_before g n ++ session_of (Ask m)) ≡ rs ++ interleaved g n (Ask m ∷ [])
  unfolding interleaved
  last_sent rs n = ap (λ (us : List (List ℕ)). rs ++ (gap_before g n ++ us)) (sym (append-nil (session_of (Ask m))))

  -- ---- not there: the one command more
  waited : (s : Progress) → Looked s → read ≡ false
      → At (Ended Waiting) (Final m (Same k) k) (interleaved g 0 (commands_of false p m)) (turns p m g 69 2 s)
  unfolding turns interleaved
  waited s l e =
      let last = return_turn p m g (Asked k) (Final m (Same k) k) (asked_event k) final Waiting 2 opening s
      (record { core = l.core; is = l.is ∙ ap (λ (b : Bool). at (cond b (Writing 0) (Returning Waiting)) l.core opening) e; good = l.asked }) in
      record {
        core = last.core;
        is = ap (turns p m g 68 3) last.is ∙ turns_ended p m g 68 3 Waiting (raised last.core) _ ∙ ap (at (Ended Waiting) last.core) lists;
        good = last.good;
      }
    where
      final : (j : Core) → Asked k j → Final m (Same k) k (ask_core m j)
      final j a = record {
        canctrl = ask_canctrl m j ∙ ap (λ (n : ℕ). n + mode_number m * 32) a.same.canctrl;
        home = λ h. ask_home m j (subst (λ (d : Control). Reach d.state.mode j.control) h a.reach);
        rest = then_same a.same (ask_same m j);
      }

      lists : opening ++ (gap_before g 2 ++ session_of (Ask m)) ≡ interleaved g 0 (commands_of false p m)
      lists = last_sent opening 2 ∙ join (Ask m ∷ [])

  -- ---- there: writes, reads, and the one command more
  module _ (whole : length k.config ≡ 48) (fits : (i : ℕ) → i < profile_size → bit_and (get_or p i 0) (bits_of i) ≡ get_or p i 0) where
    abbrev bytes_in : List Command
    bytes_in = writes_from p 0 profile_size

    abbrev bytes_back : List Command
    bytes_back = reads_from 0 profile_size

    sent_in : ((opening ++ interleaved g 2 bytes_in) ++ interleaved g 36 bytes_back) ++ (gap_before g 70 ++ session_of (Ask m)) ≡ interleaved g 0 (commands_of true p m)
    unfolding writes_from reads_from
    sent_in =
        last_sent ((opening ++ interleaved g 2 bytes_in) ++ interleaved g 36 bytes_back) 70
        ∙ append_assoc (opening ++ interleaved g 2 bytes_in) (interleaved g 36 bytes_back) (interleaved g 70 (Ask m ∷ []))
        ∙ append_assoc opening (interleaved g 2 bytes_in) (interleaved g 36 bytes_back ++ interleaved g 70 (Ask m ∷ []))
        ∙ ap (λ (us : List (List ℕ)). opening ++ (interleaved g 2 bytes_in ++ us)) (sym (interleaved_append p m g 36 bytes_back (Ask m ∷ [])))
        ∙ ap (opening ++◌) (sym (interleaved_append p m g 2 bytes_in (bytes_back ++ (Ask m ∷ []))))
        ∙ join (bytes_in ++ (bytes_back ++ (Ask m ∷ [])))

    -- 34 turns, 34 turns and one
    parted : (s : Progress) → turns p m g 69 2 s ≡ turn_of p m (gap_before g 70) (turns p m g 34 36 (turns p m g 34 2 s))
    unfolding turns
    parted s = turns_add p m g 34 35 2 s ∙ turns_add p m g 34 1 36 (turns p m g 34 2 s)

    went_in : (s : Progress) → Looked s → read ≡ true
        → At (Ended In) (Final m (λ j. (i : ℕ) → i < profile_size → register_of j i ≡ get_or p i 0) k) (interleaved g 0 (commands_of true p m)) (turns p m g 69 2 s)
    went_in s l e =
        let wrote : Wrote p k 0 l.core = record {
          home = arrived (settled k.control).state.mode l.core.control l.asked.reach (sym l.reading ∙ e);
          size = ap length l.asked.same.config ∙ whole;
          written = λ i h none. absurd (omega (arith, none));
          canctrl = l.asked.same.canctrl;
        } in
        let first = writes p m g k fits 33 0 2 opening s (omega arith)
        (record { core = l.core; is = l.is ∙ ap (λ (b : Bool). at (cond b (Writing 0) (Returning Waiting)) l.core opening) e; good = wrote }) in
        let second = checks p m g k fits 33 0 36 _ _ (omega arith) first in
        let last = return_turn p m g (Wrote p k profile_size) (Final m (λ j. (i : ℕ) → i < profile_size → register_of j i ≡ get_or p i 0) k) (wrote_event p k profile_size) final In 70 _ _ second in
        record {
          core = last.core;
          is = parted s ∙ last.is ∙ ap (at (Ended In) last.core) sent_in;
          good = last.good;
        }
      where
        final : (j : Core) → Wrote p k profile_size j → Final m (λ j. (i : ℕ) → i < profile_size → register_of j i ≡ get_or p i 0) k (ask_core m j)
        final j w = record {
          canctrl = ask_canctrl m j ∙ ap (λ (n : ℕ). n + mode_number m * 32) w.canctrl;
          home = λ h. ask_there m j w.home;
          rest = λ i l. same_registers (ask_core m j) j (ask_same m j).config (ask_same m j).receive i l ∙ w.written i l l;
        }

-- ---- the laws
sound_at : (p : List ℕ) (n i : ℕ) → for_below n (is_writable_at p) ≡ true → i < n → is_writable_at p i ≡ true
sound_at p zero i e h = absurd (omega arith)
sound_at p (suc n) i e h = go (eqb i n) refl (λ l. sound_at p n i (and_left (for_below n (is_writable_at p)) (is_writable_at p n) e) l)
  where
    go : (b : Bool) → eqb i n ≡ b → (i < n → is_writable_at p i ≡ true) → is_writable_at p i ≡ true
    go true f below = rw (eqb-true i n f) (and_right (for_below n (is_writable_at p)) (is_writable_at p n) e)
    go false f below = below (omega (arith, h, eqb-false i n f))

-- the check before a load, and its number
checked_number : (low : Bool) (p : List ℕ) (m : Mode) → refusal_in (checked_for low p m) ≡ refusal_for low p m
unfolding checked_for refusal_for
checked_number true p m = refl
checked_number false p m = go (is_writable p) (loads_in m)
  where
    go : (x y : Bool) → refusal_in {A = Unit} (cond x (cond y (Ok tt) (Err OtherMode)) (Err Profile)) ≡ cond x (cond y 0 refused_mode) refused_profile
    go true true = refl
    go true false = refl
    go false y = refl

pub refused_loads : RefusedLoads
unfolding load_of begin_of
refused_loads c p g h = go (checked_for (is_lowered c.select) p (start_of c)) refl
  where
    go : (x : Result Unit Refusal) → checked_for (is_lowered c.select) p (start_of c) ≡ x
        → load_of c p g ≡ record { stage = Ended (Refused (refusal_of_load c p)); chip = c; sent = [] }
    go (Ok passed) e = absurd (h (sym (checked_number (is_lowered c.select) p (start_of c)) ∙ ap refusal_in e))
    go (Err r) e =
        ap (λ (x : Result Unit Refusal). turns p (start_of c) g 71 0 (record { stage = begin_by x; chip = c; sent = [] })) e
        ∙ turns_ended p (start_of c) g 71 0 (Refused (refusal_number r)) c []
        ∙ ap (λ (n : ℕ). record { stage = Ended (Refused n); chip = c; sent = [] }) (sym (ap refusal_in e) ∙ checked_number (is_lowered c.select) p (start_of c))

-- the chip after a load is the chip after its records
load_replays : (c : Chip) (p : List ℕ) (g : ℕ → List (List ℕ)) → (load_of c p g).chip ≡ chip_after c (load_of c p g).sent
unfolding load_of chip_after
load_replays c p g = turns_replay p (start_of c) g c 71 0 (begun c p) refl

-- a load that is not refused finds the select high and the profile sound
record Begins (low : Bool) (p : List ℕ) : Type 0 where
  high : low ≡ false
  sound : is_writable p ≡ true

begins : (low : Bool) (p : List ℕ) (m : Mode) → refusal_for low p m ≡ 0 → Begins low p
unfolding refusal_for
begins low p m e = go low (is_writable p) refl refl
  where
    positive : (n : ℕ) → 0 < n → n ≡ 0 → ⊥
    positive n l z = omega (arith, l, z)

    go : (x y : Bool) → low ≡ x → is_writable p ≡ y → Begins low p
    go true y f h = absurd (positive refused_select (omega arith) (rw f at e))
    go false true f h = record { high = f; sound = h }
    go false false f h = absurd (positive refused_profile (omega arith) (rw (f, h) at e))

passes : (low : Bool) (p : List ℕ) (m : Mode) → refusal_for low p m ≡ 0 → checked_for low p m ≡ Ok tt
passes low p m e = go (checked_for low p m) refl
  where
    go : (x : Result Unit Refusal) → checked_for low p m ≡ x → checked_for low p m ≡ Ok tt
    go (Ok passed) f = f
    go (Err r) f = absurd (number_some r (sym (ap refusal_in f) ∙ checked_number low p m ∙ e))

raised_select : (s : Select) → is_lowered s ≡ false → s ≡ Raised
raised_select Raised e = refl
raised_select (Lowered q i) e = clash e

module _ (k : Core) (p : List ℕ) (g : ℕ → List (List ℕ)) (whole : length k.config ≡ 48) (ok : refusal_for false p k.control.state.mode ≡ 0) where
  fits : (i : ℕ) → i < profile_size → bit_and (get_or p i 0) (bits_of i) ≡ get_or p i 0
  unfolding is_writable
  fits i h = eqb-true _ _ (sound_at p profile_size i (begins false p k.control.state.mode ok).sound h)

  begun_at : load_of (raised k) p g
      ≡ turns p k.control.state.mode g 69 2 (turn_of p k.control.state.mode (gap_before g 1) (at Looking (ask_core Configuration k) ([] ++ ([] ++ session_of (Ask Configuration)))))
  unfolding load_of begin_of
  begun_at =
      ap (λ (x : Result Unit Refusal). turns p k.control.state.mode g 71 0 (at (begin_by x) k [])) (passes false p k.control.state.mode ok) ∙ started k p g

  by_reading : (b : Bool) → reaches (raised k) g ≡ b → Loads (raised k) p g
  by_reading true e =
      let a = went_in k p g whole fits _ (looking k p g) e in
      let is = begun_at ∙ a.is in
      record {
        sent = ap (λ (s : Progress). s.sent) is ∙ ap (λ (b : Bool). interleaved g 0 (commands_of b p k.control.state.mode)) (sym e);
        replay = load_replays (raised k) p g;
        verdict = ap (λ (s : Progress). s.stage) is ∙ ap (λ (b : Bool). Ended (cond b In Waiting)) (sym e);
        held = λ _ i l. ap (λ (s : Progress). register_of s.chip.core i) is ∙ a.good.rest i l;
        kept = λ n. clash (sym e ∙ n);
        whole = λ n. clash (sym e ∙ n);
        canctrl = ap (λ (s : Progress). s.chip.core.control.flags.canctrl) is ∙ a.good.canctrl;
        select = ap (λ (s : Progress). s.chip.select) is;
        mode = λ h. ap (λ (s : Progress). s.chip.core.control.state.mode) is ∙ (a.good.home h).mode;
        request = λ h. ap (λ (s : Progress). s.chip.core.control.state.request) is ∙ (a.good.home h).request;
      }
  by_reading false e =
      let a = waited k p g _ (looking k p g) e in
      let is = begun_at ∙ a.is in
      record {
        sent = ap (λ (s : Progress). s.sent) is ∙ ap (λ (b : Bool). interleaved g 0 (commands_of b p k.control.state.mode)) (sym e);
        replay = load_replays (raised k) p g;
        verdict = ap (λ (s : Progress). s.stage) is ∙ ap (λ (b : Bool). Ended (cond b In Waiting)) (sym e);
        held = λ y. clash (sym y ∙ e);
        kept = λ _ i l. ap (λ (s : Progress). register_of s.chip.core i) is ∙ same_registers a.core k a.good.rest.config a.good.rest.receive i l;
        whole = λ _ i l. ap (λ (s : Progress). holds s.chip.core (address_of i)) is ∙ same_profile a.core k (address_of i) (at_profile i l) a.good.rest.config;
        canctrl = ap (λ (s : Progress). s.chip.core.control.flags.canctrl) is ∙ a.good.canctrl;
        select = ap (λ (s : Progress). s.chip.select) is;
        mode = λ h. ap (λ (s : Progress). s.chip.core.control.state.mode) is ∙ (a.good.home h).mode;
        request = λ h. ap (λ (s : Progress). s.chip.core.control.state.request) is ∙ (a.good.home h).request;
      }

pub accepted_loads : AcceptedLoads
accepted_loads c p g whole ok =
    let high = (begins (is_lowered c.select) p (start_of c) ok).high in
    let is : c ≡ raised c.core = ap (λ (s : Select). record { core = c.core; select = s }) (raised_select c.select high) in
    subst (λ (d : Chip). Loads d p g) (sym is)
    (by_reading c.core p g whole (ap (λ (b : Bool). refusal_for b p (start_of c)) (sym high) ∙ ok) (reaches (raised c.core) g) refl)
