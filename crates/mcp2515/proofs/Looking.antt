-- A session of the panel that only looks leaves what the events inside alone leave. Assumes nothing.
use Rattle.std.proofs.Common.{Some}
use mathlib.Core.Bool.{Bool, true, false, cond, ◌||◌}
use mathlib.Core.List.{List, [], ◌∷◌}
use mathlib.Core.Path.{◌≡◌, refl, sym, ap, subst, ◌∙◌}
use Prim.Native.Nat.{ℕ}
use Rattle.records.specs.declared.Kind.TheVariants.{SelectLow, Exchange, SelectHigh}
use Rattle.records.specs.Records.{byte_at}
use Rattle.registers.specs.declared.Core.{Core}
use Rattle.registers.specs.Registers.{holds}
use Rattle.controller.specs.Events.{event_of}
use Rattle.spi.specs.declared.Speaker.{Speaker}
use Rattle.spi.specs.declared.Speaker.TheVariants.{Panel}
use Rattle.spi.specs.declared.Select.{Select}
use Rattle.spi.specs.declared.Select.TheVariants.{Raised, Lowered}
use Rattle.spi.specs.declared.Command.{Command}
use Rattle.spi.specs.declared.Command.TheVariants.{Reset, Read, Write, BitModify, ReadRxBuffer, LoadTxBuffer, Rts, ReadStatus, RxStatus, UnknownCode}
use Rattle.spi.specs.declared.Instruction.{Instruction}
use Rattle.spi.specs.declared.Instruction.TheVariants.{First, ReadAddress, Reading, WriteAddress, Writing, ModifyAddress, ModifyMask, ModifyData, ReadingBuffer, StatusReply, RxStatusReply, Done}
use Rattle.spi.specs.declared.Act.{Act}
use Rattle.spi.specs.declared.Act.TheVariants.{Rest, Fetch}
use Rattle.spi.specs.Instructions.{panel_goes_on, command_by, first_act, opened, rising, act_by, next_by, acted}
use Rattle.spi.proofs.Clash.{clash}
use Rattle.mcp2515.specs.declared.Chip.{Chip}
use Rattle.mcp2515.specs.Step.{power_on, speaker_in, event_step, next_chip, outcome, chip_after}
use Rattle.mcp2515.specs.Moments.{Role, event, low, exchange, high, other, trace, bytes, events, records, Inner}
use Rattle.mcp2515.specs.Panel.{panel_selected, is_panel, is_panel_record, only_looks, looking, LookingSessions}
use Rattle.mcp2515.proofs.CoreFacts.{Good}
use Rattle.mcp2515.proofs.CoreSettle.{good_event}
use Rattle.mcp2515.proofs.CoreKept.{either}
use Rattle.mcp2515.proofs.Swap.{is_other, Event, role_at, event_of_lem}
use Rattle.mcp2515.proofs.Session.{Accepted, accepted_as, chip, event_next, low_next, taken_next, other_step}
use Rattle.mcp2515.proofs.Reached.{good_reached}
use Rattle.mcp2515.proofs.Panel.{guarded_kept}

-- ---- open instructions that only look
abbrev is_looking : Instruction → Bool
is_looking First = false
is_looking ReadAddress = true
is_looking (Reading a) = true
is_looking WriteAddress = false
is_looking (Writing a) = false
is_looking ModifyAddress = false
is_looking (ModifyMask a) = false
is_looking (ModifyData a m) = false
is_looking (ReadingBuffer n a) = true
is_looking StatusReply = true
is_looking RxStatusReply = true
is_looking Done = true

abbrev Looks : Instruction → Type 0
Looks i = is_looking i ≡ true

-- what a byte asks then, and what is open after it
look_act : (i : Instruction) (b : ℕ) (k : Core) → Looks i → Good k → acted (act_by Panel i b) k ≡ k
look_act First b k e g = clash (sym e)
look_act ReadAddress b k e g = g
look_act (Reading a) b k e g = g
look_act WriteAddress b k e g = clash (sym e)
look_act (Writing a) b k e g = clash (sym e)
look_act ModifyAddress b k e g = clash (sym e)
look_act (ModifyMask a) b k e g = clash (sym e)
look_act (ModifyData a m) b k e g = clash (sym e)
look_act (ReadingBuffer n a) b k e g = either (λ (x : Act). acted x k ≡ k) (panel_goes_on (ReadingBuffer n a)) {x = Fetch a} {y = Rest} g g
look_act StatusReply b k e g = g
look_act RxStatusReply b k e g = g
look_act Done b k e g = g

look_next : (i : Instruction) (b : ℕ) → Looks i → Looks (next_by Panel i b)
look_next First b e = clash (sym e)
look_next ReadAddress b e = refl
look_next (Reading a) b e = refl
look_next WriteAddress b e = clash (sym e)
look_next (Writing a) b e = clash (sym e)
look_next ModifyAddress b e = clash (sym e)
look_next (ModifyMask a) b e = clash (sym e)
look_next (ModifyData a m) b e = clash (sym e)
look_next (ReadingBuffer n a) b e = either Looks (panel_goes_on (ReadingBuffer n a)) {x = ReadingBuffer n (rising a)} {y = ReadingBuffer n a} refl refl
look_next StatusReply b e = refl
look_next RxStatusReply b e = refl
look_next Done b e = refl

first_act_lem : (m : Command) (k : Core) → only_looks m ≡ true → Good k → acted (first_act m) k ≡ k
first_act_lem Reset k e g = clash (sym e)
first_act_lem Read k e g = g
first_act_lem Write k e g = clash (sym e)
first_act_lem BitModify k e g = clash (sym e)
first_act_lem (ReadRxBuffer b a) k e g = g
first_act_lem (LoadTxBuffer b a) k e g = clash (sym e)
first_act_lem (Rts m) k e g = clash (sym e)
first_act_lem ReadStatus k e g = g
first_act_lem RxStatus k e g = g
first_act_lem UnknownCode k e g = g

first_next : (m : Command) → only_looks m ≡ true → Looks (opened m)
first_next Reset e = clash (sym e)
first_next Read e = refl
first_next Write e = clash (sym e)
first_next BitModify e = clash (sym e)
first_next (ReadRxBuffer b a) e = refl
first_next (LoadTxBuffer b a) e = clash (sym e)
first_next (Rts m) e = clash (sym e)
first_next ReadStatus e = refl
first_next RxStatus e = refl
first_next UnknownCode e = refl

-- ---- the chip d of such a session, and e that has met its events alone
-- the instruction that is open, and the bytes still to come
abbrev Stands : Instruction → List ℕ → Type 0
Stands i bs = cond (is_looking i) (Unit {0}) ((i ≡ First) × (looking bs ≡ true))

record Beside (d e : Chip) (bs : List ℕ) : Type 0 where
  inside : (i : Instruction) × (d.select ≡ Lowered Panel i) × Stands i bs
  same : e.core ≡ d.core
  good : Good d.core

record Left (d e : Chip) : Type 0 where
  core : d.core ≡ e.core
  select : panel_selected d.select ≡ true

left : (d e : Chip) (bs : List ℕ) → Beside d e bs → Left d e
left d e bs b = record { core = sym b.same; select = ap panel_selected b.inside.1 }

-- an event moves both
beside_event : (d e : Chip) (r : List ℕ) (bs : List ℕ) → Event r → Beside d e bs → Beside (next_chip d r) (next_chip e r) bs
beside_event d e r bs v b =
    subst (λ (x : Chip). Beside x (next_chip e r) bs) (sym (event_next d r v))
    (subst (λ (y : Chip). Beside (event_step d r).chip y bs) (sym (event_next e r v))
    (record {
      inside = b.inside;
      same = ap (λ (k : Core). (event_of k r).core) b.same;
      good = good_event d.core r b.good;
    }))

-- a refused record moves neither
beside_other : (d e : Chip) (r : List ℕ) (bs : List ℕ) → is_other (role_at d r) ≡ true → Beside d e bs → Beside (next_chip d r) e bs
beside_other d e r bs h b =
    let i : Instruction = b.inside.0 in
    let at : chip d.core Panel i ≡ d = λ t. record { core = d.core; select = sym b.inside.1 t } in
    let o = subst (λ (x : Chip). is_other (role_at x r) ≡ true → next_chip x r ≡ x) at (λ z. (other_step d.core Panel i r z).0) h in
    subst (λ (x : Chip). Beside x e bs) (sym o) b

-- an exchange of the session leaves the core
stands_looking : (i : Instruction) (bs : List ℕ) → Looks i → Stands i bs
stands_looking i bs e = rw e tt

exchanged : (i : Instruction) (b : ℕ) (bs : List ℕ) (k : Core) → Stands i (b ∷ bs) → Good k
    → (acted (act_by Panel i b) k ≡ k) × Stands (next_by Panel i b) bs
exchanged i b bs k s g = go (is_looking i) refl s
  where
    go : (x : Bool) → is_looking i ≡ x → cond x (Unit {0}) ((i ≡ First) × (only_looks (command_by Panel b) ≡ true))
        → (acted (act_by Panel i b) k ≡ k) × Stands (next_by Panel i b) bs
    go true e t = (look_act i b k e g, stands_looking (next_by Panel i b) bs (look_next i b e))
    go false e t =
        rw t.0
        (first_act_lem (command_by Panel b) k t.1 g, stands_looking (opened (command_by Panel b)) bs (first_next (command_by Panel b) t.1))

beside_exchange : (d e : Chip) (r : List ℕ) (bs : List ℕ) → role_at d r ≡ exchange → Beside d e (byte_at r 1 ∷ bs) → Beside (next_chip d r) e bs
beside_exchange d e r bs h b =
    let i : Instruction = b.inside.0 in
    let w = exchanged i (byte_at r 1) bs d.core b.inside.2 b.good in
    let a : Accepted d r (Some Exchange) = accepted_as d r exchange refl h in
    subst (λ (x : Chip). Beside x e bs) (sym (taken_next d r Panel i a b.inside.1))
    (record {
      inside = (next_by Panel i (byte_at r 1), refl, w.1);
      same = b.same ∙ sym w.0;
      good = subst Good (sym w.0) b.good;
    })

-- ---- a whole session
run : (qs : List (List ℕ)) (d e : Chip) → Inner (trace d qs) → Beside d e (bytes (trace d qs)) → Left (chip_after d qs) (chip_after e (records (events (trace d qs))))
unfolding trace chip_after bytes events records
run [] d e n b = left d e [] b
run (r ∷ qs) d e n b = go (role_at d r) refl (λ x y. run qs x y)
  where
    d' : Chip
    d' = next_chip d r

    bs : List ℕ
    bs = bytes (trace (next_chip d r) qs)

    go : (ρ : Role) → role_at d r ≡ ρ
        → ((x y : Chip) → Inner (trace x qs) → Beside x y (bytes (trace x qs)) → Left (chip_after x qs) (chip_after y (records (events (trace x qs)))))
        → Left (chip_after d (r ∷ qs)) (chip_after e (records (events (trace d (r ∷ qs)))))
    go event h f = rw h (f d' (next_chip e r) n.1 (beside_event d e r bs (event_of_lem r (outcome d r) h) (rw h at b)))
    go low h f = rw h (f d' e n.1 (beside_other d e r bs (rw h) (rw h at b)))
    go other h f = rw h (f d' e n.1 (beside_other d e r bs (rw h) (rw h at b)))
    go exchange h f = rw h (f d' e n.1 (beside_exchange d e r bs h (rw h at b)))
    go high h f = clash (rw h at n.0)

-- its select low leaves the core and opens it
beside_low : (c : Chip) (l : List ℕ) (bs : List ℕ) → Good c.core → role_at c l ≡ low → speaker_in l ≡ Panel → looking bs ≡ true → Beside (next_chip c l) c bs
beside_low c l bs g h p t = go c.select refl (accepted_as c l low refl h)
  where
    go : (s : Select) → c.select ≡ s → Accepted c l (Some SelectLow) → Beside (next_chip c l) c bs
    go Raised e a =
        subst (λ (x : Chip). Beside x c bs) (sym (low_next c l a e ∙ ap (λ (w : Speaker). chip (acted Rest c.core) w First) p))
        (record { inside = (First, refl, (refl, t)); same = sym g; good = subst Good (sym g) g })
    go (Lowered q i) e a = clash (sym (rw e at a.taken))

or_true : (x y : Bool) → y ≡ true → (x || y) ≡ true
or_true true y e = refl
or_true false y e = e

high_panel : (c : Chip) (h : List ℕ) → role_at c h ≡ high → panel_selected c.select ≡ true → is_panel_record c h ≡ true
high_panel c h e p =
    let a : Accepted c h (Some SelectHigh) = accepted_as c h high refl e in
    rw a.plain (or_true (is_panel (speaker_in h)) (panel_selected c.select) p)

pub looking_sessions : LookingSessions
looking_sessions rs l qs h s t =
    let c : Chip = chip_after power_on rs in
    let d : Chip = next_chip c l in
    let w = run qs d c s.inner (beside_low c l (bytes (trace d qs)) (good_reached rs) s.lowered s.panel t) in
    record {
      before = w.core;
      after = λ a g.
          guarded_kept (chip_after d qs) h (high_panel (chip_after d qs) h s.raised w.select) a g ∙ ap (λ (k : Core). holds k a) w.core;
    }
