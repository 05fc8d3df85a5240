-- The two sides of a step by the kind of the record, and a step of the image as a step of the chip that it stands for. Assumes nothing.
use mathlib.Core.Bool.{Bool, true, false, cond}
use mathlib.Core.List.{List}
use mathlib.Core.Path.{◌≡◌, refl, ap, sym, subst, ◌∙◌}
use Prim.Native.Nat.{ℕ, zero, suc, ◌<◌, ◌≤◌}
use native.Mathlib.Omega.{arith}
use lib.Dec.{eqb}
use lib.ListN.{length, get_or}
use borrow.Author.Tests.{ne_eqb}
use Rattle.std.proofs.Common.{Some, None, Result, Err}
use Rattle.records.specs.declared.Kind.{Kind}
use Rattle.records.specs.declared.Kind.TheVariants.{SelectLow, Exchange, SelectHigh, FrameHeard, BusIdle, FrameEnds, ReceiveError, Recovery, PinLevel}
use Rattle.records.specs.declared.Refusal.{Refusal}
use Rattle.records.specs.declared.Answer.{Answer}
use Rattle.records.specs.declared.Fields.{Fields}
use Rattle.records.specs.declared.Outcome.{Outcome}
use Rattle.records.specs.Records.{accepted, refused_select, refused_field, refused_outcome, refusal_number, outcome_of, byte_at, kind_by, kind_of, is_event, sound_as, sound_of, record_of}
use Rattle.records.proofs.Refusals.{refusal_told, passed, failed}
use Rattle.registers.specs.declared.Core.{Core}
use Rattle.image.specs.Image.{image_size, core_of, Became}
use Rattle.controller.specs.Events.{event_refusal, event_of}
use Rattle.spi.specs.declared.Instruction.{Instruction}
use Rattle.spi.specs.declared.Instruction.TheVariants.{First}
use Rattle.spi.specs.declared.Act.TheVariants.{Rest}
use Rattle.spi.specs.declared.Speaker.{Speaker}
use Rattle.spi.specs.declared.Select.{Select}
use Rattle.spi.specs.declared.Select.TheVariants.{Raised, Lowered}
use Rattle.spi.specs.Instructions.{speaker_by, same_speaker, act_by, next_by, high_act, refusal_of, reply_to, acted}
use Rattle.spi.specs.Open.{select_of, speaker_of, open_of, Turned}
use Rattle.spi.proofs.Clash.{clash}
use Rattle.spi.proofs.Turns.{lined, became_lined, turned_by_lem, act_accepted, high_told}
use Rattle.mcp2515.specs.declared.Chip.{Chip}
use Rattle.mcp2515.specs.declared.Stepped.{Stepped}
use Rattle.mcp2515.specs.Step.{speaker_in, line_refusal, asked_by, asked, turned_by, turned, event_step, step_of, outcome_in, outcome, next_chip}
use Rattle.mcp2515.specs.ChipImage.{wanted_outcome, chip_of, Moved, SpiStep}

-- ---- what a step is known to be says what it tells and where it leads
pub told_as : (c : Chip) (r : List ℕ) {s : Stepped} {o : Outcome} → step_of c r ≡ s → o ≡ outcome_in s → o ≡ outcome c r
told_as c r e p = p ∙ ap outcome_in (sym e)

-- .. with the set where it is asked for
pub told_wanted : (wanted : Bool) (c : Chip) (r : List ℕ) {s : Stepped} {o : Outcome} → step_of c r ≡ s → o ≡ wanted_outcome wanted (outcome_in s)
    → o ≡ wanted_outcome wanted (outcome c r)
told_wanted wanted c r e p = p ∙ ap (λ (x : Stepped). wanted_outcome wanted (outcome_in x)) (sym e)

pub moved_as : {m n : List ℕ} (c : Chip) (r : List ℕ) {s : Stepped} → step_of c r ≡ s → Moved m n s.chip → Moved m n (next_chip c r)
moved_as {m} {n} c r e w = subst (λ (x : Stepped). Moved m n x.chip) (sym e) w

-- an image changed by the SPI side, or by a bus event, is a chip moved
pub turned_moved : {m n : List ℕ} {k : Core} {s : Select} → Turned m n k s → Moved m n (record { core = k; select = s })
turned_moved t = record { packed = record { size = t.size; chip = rw (t.core, t.select) }; spare = t.rest }

pub became_moved : {m n : List ℕ} {k : Core} → Became m n k → Moved m n (record { core = k; select = select_of m })
became_moved w = turned_moved (turned_by_lem (became_lined w))

stayed_moved : (m : List ℕ) → length m ≡ image_size → Moved m m (chip_of m)
stayed_moved m e = turned_moved (turned_by_lem (lined m e))

-- ---- a step that is refused
abbrev pub refused_step : ℕ → Chip → Stepped
refused_step n c = record { refusal = n; answer = 0; matched = 0; chip = c }

pub refused_told : (c : Chip) (r : List ℕ) (x : Refusal) → step_of c r ≡ refused_step (refusal_number x) c → refused_outcome (refusal_number x) ≡ outcome c r
refused_told c r x e = sym (ap outcome_in e)

pub refused_moved : (m r : List ℕ) (x : Refusal) → length m ≡ image_size → step_of (chip_of m) r ≡ refused_step (refusal_number x) (chip_of m)
    → Moved m m (next_chip (chip_of m) r)
refused_moved m r x size e = moved_as (chip_of m) r e (stayed_moved m size)

pub kind_in : (f : Fields) → kind_of (record_of f) ≡ kind_by f.kind
unfolding kind_of record_of
kind_in f = refl

-- ---- the side of the events: each number but the three of the SPI side
unknown_side : (c : Chip) (r : List ℕ) → kind_of r ≡ None → step_of c r ≡ event_step c r
unfolding step_of asked turned sound_of event_of event_refusal
unknown_side c r e = rw e

beyond : (c : Chip) (r : List ℕ) (n : ℕ) → kind_of r ≡ kind_by n → 3 ≤ n → step_of c r ≡ event_step c r
unfolding step_of
beyond c r zero e h = absurd (omega arith)
beyond c r (suc zero) e h = absurd (omega arith)
beyond c r (suc (suc zero)) e h = absurd (omega arith)
beyond c r (suc (suc (suc zero))) e h = rw e
beyond c r (suc (suc (suc (suc zero)))) e h = rw e
beyond c r (suc (suc (suc (suc (suc zero))))) e h = rw e
beyond c r (suc (suc (suc (suc (suc (suc zero)))))) e h = rw e
beyond c r (suc (suc (suc (suc (suc (suc (suc zero))))))) e h = rw e
beyond c r (suc (suc (suc (suc (suc (suc (suc (suc zero)))))))) e h = rw e
beyond c r (suc (suc (suc (suc (suc (suc (suc (suc (suc n))))))))) e h = unknown_side c r (e ∙ simp (apart 0 (omega arith), apart 1 (omega arith), apart 2 (omega arith), apart 3 (omega arith), apart 4 (omega arith), apart 5 (omega arith), apart 6 (omega arith), apart 7 (omega arith), apart 8 (omega arith)))
  where
    apart : (k : ℕ) → k < 9 → eqb (suc (suc (suc (suc (suc (suc (suc (suc (suc n))))))))) k ≡ false
    apart k p = ne_eqb (suc (suc (suc (suc (suc (suc (suc (suc (suc n))))))))) k (λ e. omega arith)

pub event_side : (c : Chip) (f : Fields) → 3 ≤ f.kind → step_of c (record_of f) ≡ event_step c (record_of f)
event_side c f h = beyond c (record_of f) f.kind (kind_in f) h

-- ---- the SPI side
plain_sound : (r : List ℕ) (g : Kind) → is_event (Some g) ≡ false → kind_of r ≡ Some g → sound_of r ≡ sound_as g r
unfolding sound_of
plain_sound r SelectLow n e = rw e
plain_sound r Exchange n e = rw e
plain_sound r SelectHigh n e = rw e
plain_sound r FrameHeard n e = clash n
plain_sound r BusIdle n e = clash n
plain_sound r FrameEnds n e = clash n
plain_sound r ReceiveError n e = clash n
plain_sound r Recovery n e = clash n
plain_sound r PinLevel n e = clash n

-- what it does with a record that refusal 2 does not name
abbrev step_by : Kind → Chip → Speaker → ℕ → Stepped
step_by g c p b =
    record {
      refusal = refusal_of (asked_by (Some g) c.select p b);
      answer = reply_to (asked_by (Some g) c.select p b) c.core;
      matched = 0;
      chip = record { core = acted (asked_by (Some g) c.select p b) c.core; select = turned_by (Some g) c.select p b };
    }

fields_in : (g : Kind) (c : Chip) (f : Fields) → step_by g c (speaker_in (record_of f)) (byte_at (record_of f) 1) ≡ step_by g c (speaker_by f.code) f.field
unfolding record_of
fields_in g c f = refl

module _ (c : Chip) (f : Fields) (g : Kind) (e : kind_by f.kind ≡ Some g) (spi : is_event (Some g) ≡ false) where
  unsound : sound_as g (record_of f) ≡ false → step_of c (record_of f) ≡ refused_step refused_field c
  unfolding step_of asked turned
  unsound s = let k = kind_in f ∙ e in rw (k, spi, plain_sound (record_of f) g spi k ∙ s)

  sound : sound_as g (record_of f) ≡ true → step_of c (record_of f) ≡ step_by g c (speaker_by f.code) f.field
  unfolding step_of asked turned
  sound s = let k = kind_in f ∙ e in rw (k, spi, plain_sound (record_of f) g spi k ∙ s) (fields_in g c f)

-- ---- what such a step tells and leaves
refused_spi : (m r : List ℕ) (x : Refusal) → length m ≡ image_size → step_of (chip_of m) r ≡ refused_step (refusal_number x) (chip_of m) → SpiStep m m r (Err x)
refused_spi m r x size e = record { told = refused_told (chip_of m) r x e; moved = refused_moved m r x size e; refused_kept = λ _. refl }

accepted_spi : {m n : List ℕ} (r : List ℕ) {x : Result Answer Refusal} {s : Stepped} → step_of (chip_of m) r ≡ s → outcome_of x ≡ outcome_in s
    → s.refusal ≡ 0 → Turned m n s.chip.core s.chip.select → SpiStep m n r x
accepted_spi {m} r {x} e t z w = record {
  told = told_as (chip_of m) r e t;
  moved = moved_as (chip_of m) r e (turned_moved w);
  refused_kept = λ h. absurd (h (sym (refusal_told x) ∙ ap (λ (o : Outcome). o.refusal) t ∙ z));
}

-- .. where refusal 2 names the record
pub unsound_step : (c : Chip) (f : Fields) (g : Kind) (x : Refusal) → kind_by f.kind ≡ Some g → is_event (Some g) ≡ false
    → refusal_number x ≡ cond (sound_as g (record_of f)) accepted refused_field → step_of c (record_of f) ≡ refused_step (refusal_number x) c
unsound_step c f g x e spi h =
    let p = failed (sound_as g (record_of f)) x h in
    rw p.1 (unsound c f g e spi p.0)

pub passes : {t : Bool} → 0 ≡ cond t accepted refused_field → t ≡ true
passes {t} h = passed t (λ e. omega arith) h

-- ---- select low
module _ (m : List ℕ) (f : Fields) (size : length m ≡ image_size) (e : kind_by f.kind ≡ Some SelectLow) (s : sound_as SelectLow (record_of f) ≡ true) where
  pub low_accepted : {n : List ℕ} {x : Result Answer Refusal} → get_or m 146 0 ≡ 0 → outcome_of x ≡ record { refusal = 0; answer = 0; matched = 0 }
      → Turned m n (acted Rest (core_of m)) (Lowered (speaker_by f.code) First) → SpiStep m n (record_of f) x
  low_accepted z t w =
      accepted_spi {m = m} (record_of f)
      {s = record { refusal = 0; answer = 0; matched = 0; chip = record { core = acted Rest (core_of m); select = Lowered (speaker_by f.code) First } }}
      (sound (chip_of m) f SelectLow e refl s ∙ rw z) t refl w

  pub low_refused : (x : Refusal) → refusal_number x ≡ refused_select → (get_or m 146 0 ≡ 0 → ⊥) → SpiStep m m (record_of f) (Err x)
  low_refused x h z = refused_spi m (record_of f) x size (sound (chip_of m) f SelectLow e refl s ∙ rw (ne_eqb (get_or m 146 0) 0 z, h))

-- ---- an exchange and select high: over a select that this speaker has lowered
lowered : (t : Bool) (q : Speaker) (i : Instruction) (p : Speaker) → 0 ≡ line_refusal (cond t Raised (Lowered q i)) p
    → (t ≡ false) × (same_speaker q p ≡ true)
lowered true q i p h = absurd (omega arith)
lowered false q i p h = (refl, passed (same_speaker q p) (λ e. omega arith) h)

exchange_line : (k : Core) (s : Select) (p : Speaker) (b : ℕ) (x : Refusal) → refusal_number x ≡ line_refusal s p
    → step_by Exchange (record { core = k; select = s }) p b ≡ refused_step (refusal_number x) (record { core = k; select = s })
exchange_line k Raised p b x h = rw h
exchange_line k (Lowered q i) p b x h = let o = failed (same_speaker q p) x h in rw (o.0, o.1)

high_line : (k : Core) (s : Select) (p : Speaker) (b : ℕ) (x : Refusal) → refusal_number x ≡ line_refusal s p
    → step_by SelectHigh (record { core = k; select = s }) p b ≡ refused_step (refusal_number x) (record { core = k; select = s })
high_line k Raised p b x h = rw h
high_line k (Lowered q i) p b x h = let o = failed (same_speaker q p) x h in rw (o.0, o.1)

module _ (m : List ℕ) (f : Fields) (e : kind_by f.kind ≡ Some Exchange) (s : sound_as Exchange (record_of f) ≡ true) where
  pub exchange_refused : (x : Refusal) → refusal_number x ≡ line_refusal (select_of m) (speaker_by f.code)
      → step_of (chip_of m) (record_of f) ≡ refused_step (refusal_number x) (chip_of m)
  exchange_refused x h = sound (chip_of m) f Exchange e refl s ∙ exchange_line (core_of m) (select_of m) (speaker_by f.code) f.field x h

  -- over the open instruction i of the speaker q
  module _ (line : 0 ≡ line_refusal (select_of m) (speaker_by f.code)) where
    pub exchange_low : get_or m 146 0 ≡ 0 → ⊥
    exchange_low z = absurd (omega (arith, rw z at line))

    pub exchange_accepted : {n : List ℕ} {x : Result Answer Refusal}
        → outcome_of x ≡ record { refusal = 0; answer = reply_to (act_by (speaker_of m) (open_of m) f.field) (core_of m); matched = 0 }
        → Turned m n (acted (act_by (speaker_of m) (open_of m) f.field) (core_of m)) (Lowered (speaker_of m) (next_by (speaker_of m) (open_of m) f.field))
        → SpiStep m n (record_of f) x
    exchange_accepted t w =
        let q = speaker_of m in
        let i = open_of m in
        let o = lowered (eqb (get_or m 146 0) 0) q i (speaker_by f.code) line in
        let z = act_accepted q i f.field in
        accepted_spi {m = m} (record_of f)
        {s = record { refusal = refusal_of (act_by q i f.field); answer = reply_to (act_by q i f.field) (core_of m); matched = 0; chip = record { core = acted (act_by q i f.field) (core_of m); select = Lowered q (next_by q i f.field) } }}
        (sound (chip_of m) f Exchange e refl s ∙ rw (o.0, o.1)) (t ∙ rw z) z w

module _ (m : List ℕ) (f : Fields) (e : kind_by f.kind ≡ Some SelectHigh) (s : sound_as SelectHigh (record_of f) ≡ true) where
  pub high_refused : (x : Refusal) → refusal_number x ≡ line_refusal (select_of m) (speaker_by f.code)
      → step_of (chip_of m) (record_of f) ≡ refused_step (refusal_number x) (chip_of m)
  high_refused x h = sound (chip_of m) f SelectHigh e refl s ∙ high_line (core_of m) (select_of m) (speaker_by f.code) f.field x h

  pub high_accepted : {n : List ℕ} {x : Result Answer Refusal} → 0 ≡ line_refusal (select_of m) (speaker_by f.code)
      → outcome_of x ≡ record { refusal = 0; answer = 0; matched = 0 } → Turned m n (acted (high_act (speaker_of m) (open_of m)) (core_of m)) Raised → SpiStep m n (record_of f) x
  high_accepted line t w =
      let q = speaker_of m in
      let i = open_of m in
      let o = lowered (eqb (get_or m 146 0) 0) q i (speaker_by f.code) line in
      let z = high_told q i (core_of m) in
      accepted_spi {m = m} (record_of f)
      {s = record { refusal = refusal_of (high_act q i); answer = reply_to (high_act q i) (core_of m); matched = 0; chip = record { core = acted (high_act q i) (core_of m); select = Raised } }}
      (sound (chip_of m) f SelectHigh e refl s ∙ rw (o.0, o.1)) (t ∙ rw (z.0, z.1)) z.0 w

-- a record of the SPI side has an empty set, asked for or not
pub spi_wanted : (wanted : Bool) (c : Chip) (f : Fields) (g : Kind) {o : Outcome} → kind_by f.kind ≡ Some g → is_event (Some g) ≡ false → o ≡ outcome c (record_of f)
    → o ≡ wanted_outcome wanted (outcome c (record_of f))
unfolding step_of
spi_wanted true c f g e n p = p
spi_wanted false c f g e n p = p ∙ rw (kind_in f ∙ e, n)
