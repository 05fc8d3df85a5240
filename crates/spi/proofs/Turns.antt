-- The select line of an image after a change of its bytes, and an act with the mode request after it. Assumes nothing.
use mathlib.Core.Path.{◌≡◌, refl, ap, sym, subst, ◌∙◌}
use mathlib.Core.Bool.{Bool, true, false, cond}
use mathlib.Core.List.{List}
use Prim.Native.Nat.{ℕ, ◌+◌, ◌≤◌}
use native.Mathlib.Omega.{arith}
use lib.ListN.{length, get_or, set, drop, length-set}
use lib.Seq.{get_or-set_same, get_or-set_other, get_or-drop, drop-set-lt, drop-drop}
use borrow.Author.Tests.{ne_eqb}
use Rattle.registers.specs.declared.RxBuffer.{RxBuffer}
use Rattle.registers.specs.declared.RxBuffer.TheVariants.{Rxb0, Rxb1}
use Rattle.registers.specs.declared.Control.{Control}
use Rattle.registers.specs.declared.Pins.{Pins}
use Rattle.registers.specs.declared.Core.{Core}
use Rattle.registers.specs.State.{with_control, with_pins}
use Rattle.registers.specs.Modes.{settled}
use Rattle.image.specs.Image.{image_size, select_at, control_of, pins_of, core_of, Became}
use Rattle.image.proofs.Laws.{pins_away, behind_control, high_kept}
use Rattle.controller.specs.Events.{settled_core}
use Rattle.spi.specs.declared.Command.{Command}
use Rattle.spi.specs.declared.Command.TheVariants.{Reset, Read, Write, BitModify, ReadRxBuffer, LoadTxBuffer, Rts, ReadStatus, RxStatus, UnknownCode}
use Rattle.spi.specs.declared.Instruction.{Instruction}
use Rattle.spi.specs.declared.Instruction.TheVariants.{First, ReadAddress, Reading, WriteAddress, Writing, ModifyAddress, ModifyMask, ModifyData, ReadingBuffer, StatusReply, RxStatusReply, Done}
use Rattle.spi.specs.declared.Act.{Act}
use Rattle.spi.specs.declared.Act.TheVariants.{Rest, ClearFlag}
use Rattle.spi.specs.declared.Speaker.{Speaker}
use Rattle.spi.specs.declared.Speaker.TheVariants.{Controller, Panel}
use Rattle.spi.specs.declared.Select.{Select}
use Rattle.spi.specs.declared.stages.Stage.{Stage}
use Rattle.spi.specs.Stages.{stage_number}
use Rattle.spi.specs.declared.Select.TheVariants.{Raised, Lowered}
use Rattle.spi.specs.Instructions.{speaker_by, command_by, first_act, exchange_act, goes_on, act_by, next_by, clears_flag, high_act, reply_to, refusal_of, acted}
use Rattle.spi.specs.Open.{reading_number, instruction_by, select_by, select_of, speaker_of, open_of, Turned, performed, Exchanged}

-- ---- a byte from the select line on is none of the core
pub select_core : (m : List ℕ) (i v : ℕ) → select_at ≤ i → core_of (set m i v) ≡ core_of m
select_core m i v h =
    ap (λ (c : Control). with_control (core_of (set m i v)) c) (behind_control m i v (omega arith))
    ∙ ap (λ (p : Pins). with_pins (with_control (core_of (set m i v)) (control_of m)) p)
    (pins_away m i v (λ e. omega arith) (λ e. omega arith) (λ e. omega arith))
    ∙ high_kept (control_of m) (pins_of m) m i v (omega arith)

-- a change of the core leaves the bytes of the select line
pub select_kept : {m n : List ℕ} {k : Core} → Became m n k → (i : ℕ) → get_or n (select_at + i) 0 ≡ get_or m (select_at + i) 0
select_kept {m} {n} w i = sym (get_or-drop select_at n i 0) ∙ ap (λ (l : List ℕ). get_or l i 0) w.rest ∙ get_or-drop select_at m i 0

spare_kept : {m n : List ℕ} {k : Core} → Became m n k → drop 150 n ≡ drop 150 m
spare_kept {m} {n} w = sym (drop-drop 4 select_at n) ∙ ap (λ (l : List ℕ). drop 4 l) w.rest ∙ drop-drop 4 select_at m

-- ---- m changed into n, which stands for the core k and has these bytes for its select line
pub record Lined (m n : List ℕ) (k : Core) (p a q w : ℕ) : Type 0 where
  pub size : length n ≡ image_size
  pub core : core_of n ≡ k
  pub number : get_or n 146 0 ≡ p
  pub address : get_or n 147 0 ≡ a
  pub mask : get_or n 148 0 ≡ q
  pub who : get_or n 149 0 ≡ w
  pub spare : drop 150 n ≡ drop 150 m

pub lined : (m : List ℕ) → length m ≡ image_size → Lined m m (core_of m) (get_or m 146 0) (get_or m 147 0) (get_or m 148 0) (get_or m 149 0)
lined m e = record { size = e; core = refl; number = refl; address = refl; mask = refl; who = refl; spare = refl }

pub became_lined : {m n : List ℕ} {k : Core} → Became m n k → Lined m n k (get_or m 146 0) (get_or m 147 0) (get_or m 148 0) (get_or m 149 0)
became_lined w = record { size = w.size; core = w.core; number = select_kept w 0; address = select_kept w 1; mask = select_kept w 2; who = select_kept w 3; spare = spare_kept w }

-- the number of a stage is put in
pub number_set : {m n : List ℕ} {k : Core} {p a q w v s : ℕ} → Lined m n k p a q w → v ≡ s → Lined m (set n 146 v) k s a q w
number_set {n = n} {v = v} l e = record {
  size = length-set n 146 v ∙ l.size;
  core = select_core n 146 v (omega arith) ∙ l.core;
  number = get_or-set_same n 146 v 0 (omega (arith, l.size)) ∙ e;
  address = get_or-set_other n 146 147 v 0 (λ e. omega arith) ∙ l.address;
  mask = get_or-set_other n 146 148 v 0 (λ e. omega arith) ∙ l.mask;
  who = get_or-set_other n 146 149 v 0 (λ e. omega arith) ∙ l.who;
  spare = drop-set-lt 150 n 146 v (omega arith) ∙ l.spare;
}

module _ {m n : List ℕ} {k : Core} {p a q w : ℕ} (l : Lined m n k p a q w) (v : ℕ) where
  pub address_set : Lined m (set n 147 v) k p v q w
  address_set = record {
    size = length-set n 147 v ∙ l.size;
    core = select_core n 147 v (omega arith) ∙ l.core;
    number = get_or-set_other n 147 146 v 0 (λ e. omega arith) ∙ l.number;
    address = get_or-set_same n 147 v 0 (omega (arith, l.size));
    mask = get_or-set_other n 147 148 v 0 (λ e. omega arith) ∙ l.mask;
    who = get_or-set_other n 147 149 v 0 (λ e. omega arith) ∙ l.who;
    spare = drop-set-lt 150 n 147 v (omega arith) ∙ l.spare;
  }

  pub mask_set : Lined m (set n 148 v) k p a v w
  mask_set = record {
    size = length-set n 148 v ∙ l.size;
    core = select_core n 148 v (omega arith) ∙ l.core;
    number = get_or-set_other n 148 146 v 0 (λ e. omega arith) ∙ l.number;
    address = get_or-set_other n 148 147 v 0 (λ e. omega arith) ∙ l.address;
    mask = get_or-set_same n 148 v 0 (omega (arith, l.size));
    who = get_or-set_other n 148 149 v 0 (λ e. omega arith) ∙ l.who;
    spare = drop-set-lt 150 n 148 v (omega arith) ∙ l.spare;
  }

  pub who_set : Lined m (set n 149 v) k p a q v
  who_set = record {
    size = length-set n 149 v ∙ l.size;
    core = select_core n 149 v (omega arith) ∙ l.core;
    number = get_or-set_other n 149 146 v 0 (λ e. omega arith) ∙ l.number;
    address = get_or-set_other n 149 147 v 0 (λ e. omega arith) ∙ l.address;
    mask = get_or-set_other n 149 148 v 0 (λ e. omega arith) ∙ l.mask;
    who = get_or-set_same n 149 v 0 (omega (arith, l.size));
    spare = drop-set-lt 150 n 149 v (omega arith) ∙ l.spare;
  }

pub turned_by_lem : {m n : List ℕ} {k : Core} {p a q w : ℕ} → Lined m n k p a q w → Turned m n k (select_by p a q w)
turned_by_lem l = record { size = l.size; core = l.core; select = rw (l.number, l.address, l.mask, l.who); rest = l.spare }

-- ---- one after another
pub then_turned : {m n p : List ℕ} {k : Core} {i : Instruction} → Became m n k → Turned n p (core_of n) (Lowered (speaker_of n) i)
    → Turned m p k (Lowered (speaker_of m) i)
then_turned {i = i} w t = record {
  size = t.size;
  core = t.core ∙ w.core;
  select = t.select ∙ ap (λ (v : ℕ). Lowered (speaker_by v) i) (select_kept w 3);
  rest = t.rest ∙ spare_kept w;
}

-- the speaker w is put in as v, then the instruction
pub then_put : {m n p : List ℕ} {a b q v : ℕ} {w : Speaker} {i : Instruction} → Lined m n (core_of m) a b q v → speaker_by v ≡ w
    → Turned n p (core_of n) (Lowered (speaker_of n) i) → Turned m p (core_of m) (Lowered w i)
then_put {i = i} l e t = record {
  size = t.size;
  core = t.core ∙ l.core;
  select = t.select ∙ ap (λ (z : Speaker). Lowered z i) (ap speaker_by l.who ∙ e);
  rest = t.rest ∙ l.spare;
}

pub then_settled : {m n p : List ℕ} {k : Core} {s : Select} → Turned m n k s → Became n p (with_control (core_of n) (settled (control_of n))) → Turned m p (settled_core k) s
then_settled t w = record {
  size = w.size;
  core = w.core ∙ ap settled_core t.core;
  select = rw (select_kept w 0, select_kept w 1, select_kept w 2, select_kept w 3) t.select;
  rest = spare_kept w ∙ t.rest;
}

-- ---- an act of the automaton, and the mode request after it
first_acted : (x : Command) (k : Core) → acted (first_act x) k ≡ settled_core (performed (first_act x) k)
first_acted Reset k = refl
first_acted Read k = refl
first_acted Write k = refl
first_acted BitModify k = refl
first_acted (ReadRxBuffer b a) k = refl
first_acted (LoadTxBuffer b a) k = refl
first_acted (Rts m) k = refl
first_acted ReadStatus k = refl
first_acted RxStatus k = refl
first_acted UnknownCode k = refl

exchange_acted : (x : Command) (i : Instruction) (b : ℕ) (k : Core) → acted (exchange_act x i b) k ≡ settled_core (performed (exchange_act x i b) k)
exchange_acted x First b k = first_acted x k
exchange_acted x ReadAddress b k = refl
exchange_acted x (Reading a) b k = refl
exchange_acted x WriteAddress b k = refl
exchange_acted x (Writing a) b k = refl
exchange_acted x ModifyAddress b k = refl
exchange_acted x (ModifyMask a) b k = refl
exchange_acted x (ModifyData a m) b k = refl
exchange_acted x (ReadingBuffer n a) b k = refl
exchange_acted x StatusReply b k = refl
exchange_acted x RxStatusReply b k = refl
exchange_acted x Done b k = refl

pub act_acted : (p : Speaker) (i : Instruction) (b : ℕ) (k : Core) → acted (act_by p i b) k ≡ settled_core (performed (act_by p i b) k)
act_acted p i b k = go (goes_on p i)
  where
    go : (g : Bool) → let x : Act = cond g (exchange_act (command_by p b) i b) Rest in acted x k ≡ settled_core (performed x k)
    go true = exchange_acted (command_by p b) i b k
    go false = refl

flag_acted : (g : Bool) (n : RxBuffer) (k : Core) → let x : Act = cond g (ClearFlag n) Rest in acted x k ≡ settled_core (performed x k)
flag_acted true n k = refl
flag_acted false n k = refl

pub high_acted : (p : Speaker) (i : Instruction) (k : Core) → acted (high_act p i) k ≡ settled_core (performed (high_act p i) k)
high_acted p First k = refl
high_acted p ReadAddress k = refl
high_acted p (Reading a) k = refl
high_acted p WriteAddress k = refl
high_acted p (Writing a) k = refl
high_acted p ModifyAddress k = refl
high_acted p (ModifyMask a) k = refl
high_acted p (ModifyData a m) k = refl
high_acted p (ReadingBuffer n a) k = flag_acted (clears_flag p n) n k
high_acted p StatusReply k = refl
high_acted p RxStatusReply k = refl
high_acted p Done k = refl

-- ---- the select line by its number
pub open_of_lem : (m : List ℕ) → (get_or m 146 0 ≡ 0 → ⊥) → select_of m ≡ Lowered (speaker_of m) (open_of m)
open_of_lem m h = rw (ne_eqb (get_or m 146 0) 0 h)

same_open : {p q : Speaker} {i j : Instruction} → Lowered p i ≡ Lowered q j → (p ≡ q) × (i ≡ j)
same_open e = (cc, cc)

-- what holds of one speaker and instruction holds of the other
pub at_open : (P : Speaker → Instruction → Type 0) {p q : Speaker} {i j : Instruction} → Lowered p i ≡ Lowered q j → P p i → P q j
at_open P {p} {q} {i} {j} e h =
    subst (λ (w : Speaker). P w j) (same_open e).0 (subst (λ (x : Instruction). P p x) (same_open e).1 h)

pub not_both : {A : Type 0} {p : Speaker} {i : Instruction} → Raised ≡ Lowered p i → A
not_both e = let z : ◌≡◌ {A = ℕ} 0 1 = cc in absurd (omega arith)

pub low_of : (m : List ℕ) {p : Speaker} {i : Instruction} → select_of m ≡ Lowered p i → get_or m 146 0 ≡ 0 → ⊥
low_of m s e = not_both (rw e at s)

-- an exchange over an image by its own select line is one by any that it may be named by
pub exchanged : {m n : List ℕ} {b r : ℕ} → length m ≡ image_size
    → ((get_or m 146 0 ≡ 0 → ⊥) → r ≡ reply_to (act_by (speaker_of m) (open_of m) b) (core_of m))
    → ((get_or m 146 0 ≡ 0 → ⊥) → Turned m n (acted (act_by (speaker_of m) (open_of m) b) (core_of m)) (Lowered (speaker_of m) (next_by (speaker_of m) (open_of m) b)))
    → (select_of m ≡ Raised → (r ≡ 0) × (n ≡ m)) → Exchanged m n b r
exchanged {m} {n} {b} {r} size reply turned raised = record {
  reply = λ _ p i s. at_open (λ (w : Speaker) (j : Instruction). r ≡ reply_to (act_by w j b) (core_of m)) (sym (open_of_lem m (low_of m s)) ∙ s) (reply (low_of m s));
  image = λ _ p i s.
      at_open (λ (w : Speaker) (j : Instruction). Turned m n (acted (act_by w j b) (core_of m)) (Lowered w (next_by w j b)))
      (sym (open_of_lem m (low_of m s)) ∙ s) (turned (low_of m s));
  raised = raised;
  other = λ h. absurd (h size);
}

-- what holds of either
pub by_cond : {A : Type 0} (P : A → Type 0) (b : Bool) {x y : A} → P x → P y → P (cond b x y)
by_cond P true p q = p
by_cond P false p q = q

-- select high acts after READ RX BUFFER alone
abbrev Quiet : Speaker → Instruction → Type 0
Quiet w i = high_act w i ≡ Rest

pub quiet_high : (w : Speaker) (s : Stage) (a m : ℕ) → (s ≡ Stage.ReadingRxb0 → ⊥) → (s ≡ Stage.ReadingRxb1 → ⊥) → Quiet w (instruction_by (stage_number s) a m)
unfolding instruction_by
quiet_high w Stage.Raised a m p q = refl
quiet_high w Stage.First a m p q = refl
quiet_high w Stage.ReadAddress a m p q = refl
quiet_high w Stage.Reading a m p q = refl
quiet_high w Stage.WriteAddress a m p q = refl
quiet_high w Stage.Writing a m p q = refl
quiet_high w Stage.ModifyAddress a m p q = refl
quiet_high w Stage.ModifyMask a m p q = refl
quiet_high w Stage.ModifyData a m p q = refl
quiet_high w Stage.ReadingRxb0 a m p q = absurd (p refl)
quiet_high w Stage.ReadingRxb1 a m p q = absurd (q refl)
quiet_high w Stage.StatusReply a m p q = refl
quiet_high w Stage.RxStatusReply a m p q = refl
quiet_high w Stage.Done a m p q = refl

-- who is not the controller is the panel
pub by_panel : (w : Speaker) → (w ≡ Controller → ⊥) → w ≡ Panel
by_panel Controller h = absurd (h refl)
by_panel Panel h = refl

-- RX1IF is cleared for either speaker
pub clears_second : (p : Speaker) → clears_flag p Rxb1 ≡ true
clears_second Controller = refl
clears_second Panel = refl

pub reading_select : (b : RxBuffer) (a m w : ℕ) → select_by (reading_number b) a m w ≡ Lowered (speaker_by w) (ReadingBuffer b a)
unfolding instruction_by
reading_select Rxb0 a m w = refl
reading_select Rxb1 a m w = refl

-- the first byte has no reply
pub first_reply : (x : Command) (k : Core) → reply_to (first_act x) k ≡ 0
first_reply Reset k = refl
first_reply Read k = refl
first_reply Write k = refl
first_reply BitModify k = refl
first_reply (ReadRxBuffer b a) k = refl
first_reply (LoadTxBuffer b a) k = refl
first_reply (Rts m) k = refl
first_reply ReadStatus k = refl
first_reply RxStatus k = refl
first_reply UnknownCode k = refl

-- an image that stays, with its instruction by name
pub stayed : (m : List ℕ) (i : Instruction) → length m ≡ image_size → (get_or m 146 0 ≡ 0 → ⊥) → open_of m ≡ i
    → Turned m m (core_of m) (Lowered (speaker_of m) i)
stayed m i e h p = record { size = e; core = refl; select = open_of_lem m h ∙ ap (λ (j : Instruction). Lowered (speaker_of m) j) p; rest = refl }

-- ---- no act of an open instruction is refused, and select high has no reply
first_accepted : (x : Command) → refusal_of (first_act x) ≡ 0
first_accepted Reset = refl
first_accepted Read = refl
first_accepted Write = refl
first_accepted BitModify = refl
first_accepted (ReadRxBuffer b a) = refl
first_accepted (LoadTxBuffer b a) = refl
first_accepted (Rts m) = refl
first_accepted ReadStatus = refl
first_accepted RxStatus = refl
first_accepted UnknownCode = refl

exchange_accepted : (x : Command) (i : Instruction) (b : ℕ) → refusal_of (exchange_act x i b) ≡ 0
exchange_accepted x First b = first_accepted x
exchange_accepted x ReadAddress b = refl
exchange_accepted x (Reading a) b = refl
exchange_accepted x WriteAddress b = refl
exchange_accepted x (Writing a) b = refl
exchange_accepted x ModifyAddress b = refl
exchange_accepted x (ModifyMask a) b = refl
exchange_accepted x (ModifyData a m) b = refl
exchange_accepted x (ReadingBuffer n a) b = refl
exchange_accepted x StatusReply b = refl
exchange_accepted x RxStatusReply b = refl
exchange_accepted x Done b = refl

pub act_accepted : (p : Speaker) (i : Instruction) (b : ℕ) → refusal_of (act_by p i b) ≡ 0
act_accepted p i b = go (goes_on p i)
  where
    go : (g : Bool) → refusal_of (cond g (exchange_act (command_by p b) i b) Rest) ≡ 0
    go true = exchange_accepted (command_by p b) i b
    go false = refl

flag_told : (g : Bool) (n : RxBuffer) (k : Core) → let x : Act = cond g (ClearFlag n) Rest in (refusal_of x ≡ 0) × (reply_to x k ≡ 0)
flag_told true n k = (refl, refl)
flag_told false n k = (refl, refl)

pub high_told : (p : Speaker) (i : Instruction) (k : Core) → (refusal_of (high_act p i) ≡ 0) × (reply_to (high_act p i) k ≡ 0)
high_told p First k = (refl, refl)
high_told p ReadAddress k = (refl, refl)
high_told p (Reading a) k = (refl, refl)
high_told p WriteAddress k = (refl, refl)
high_told p (Writing a) k = (refl, refl)
high_told p ModifyAddress k = (refl, refl)
high_told p (ModifyMask a) k = (refl, refl)
high_told p (ModifyData a m) k = (refl, refl)
high_told p (ReadingBuffer n a) k = flag_told (clears_flag p n) n k
high_told p StatusReply k = (refl, refl)
high_told p RxStatusReply k = (refl, refl)
high_told p Done k = (refl, refl)
