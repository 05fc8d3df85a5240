-- What a command does to a chip whose select is high: select stays high, the core changes at one moment. Assumes nothing.
use mathlib.Core.Path.{◌≡◌, refl, ap, ◌∙◌}
use Prim.Native.Nat.{ℕ, ◌*◌, ◌%◌, ◌≤◌}
use native.Mathlib.Omega.{arith}
use borrow.Author.Tests.{le-leb}
use Rattle.records.specs.Records.{kind_of, sound_of}
use Rattle.registers.specs.declared.Mode.{Mode}
use Rattle.registers.specs.declared.Core.{Core}
use Rattle.registers.specs.State.{mode_number}
use Rattle.registers.specs.Registers.{reads}
use Rattle.stores.specs.Store.{stored, modified}
use Rattle.controller.specs.Events.{settled_core}
use Rattle.spi.specs.declared.Speaker.TheVariants.{Controller}
use Rattle.spi.specs.declared.Instruction.{Instruction}
use Rattle.spi.specs.declared.Instruction.TheVariants.{First, ReadAddress, Reading, WriteAddress, Writing, ModifyAddress, ModifyMask, ModifyData}
use Rattle.spi.specs.declared.Select.TheVariants.{Raised, Lowered}
use Rattle.spi.specs.Instructions.{command_of, act_by, next_by, acted, reply_to, refusal_of, high_act}
use Rattle.mcp2515.specs.declared.Chip.{Chip}
use Rattle.mcp2515.specs.declared.Stepped.{Stepped}
use Rattle.mcp2515.specs.Step.{asked, turned, step_of, next_chip, chip_after}
use Rattle.mcp2515.proofs.CoreSettle.{settle_good}
use Rattle.load_machine.specs.declared.Command.TheVariants.{Ask, Read, Write}
use Rattle.load_machine.specs.Machine.{plain_record, record_of_command, records_by, session_of}
use Rattle.load_rules.specs.Load.{last_reply, reply_of}
use Rattle.load_rules.proofs.Reach.{small}

-- a core with the select high, and in a session of the controller
abbrev pub raised : Core → Chip
raised k = record { core = k; select = Raised }

abbrev inside : Core → Instruction → Chip
inside k i = record { core = k; select = Lowered Controller i }

low_step : (k : Core) → next_chip (raised k) (plain_record 0 0) ≡ inside (settled_core k) First
unfolding step_of asked turned sound_of kind_of
low_step k = refl

high_step : (k : Core) (i : Instruction) → next_chip (inside k i) (plain_record 2 0) ≡ raised (acted (high_act Controller i) k)
unfolding step_of asked turned sound_of kind_of
high_step k i = refl

exchange_step : (k : Core) (i : Instruction) (b : ℕ) → b ≤ 255
    → step_of (inside k i) (plain_record 1 b)
    ≡ record {
      refusal = refusal_of (act_by Controller i b);
      answer = reply_to (act_by Controller i b) k;
      matched = 0;
      chip = inside (acted (act_by Controller i b) k) (next_by Controller i b);
    }
unfolding step_of asked turned sound_of kind_of
exchange_step k i b h = rw (le-leb b 255 h)

exchange_next : (k : Core) (i : Instruction) (b : ℕ) → b ≤ 255
    → next_chip (inside k i) (plain_record 1 b) ≡ inside (acted (act_by Controller i b) k) (next_by Controller i b)
exchange_next k i b h = ap (λ (s : Stepped). s.chip) (exchange_step k i b h)

-- ---- the core after each command
abbrev pub ask_core : Mode → Core → Core
ask_core m k = settled_core (modified (settled_core k) 0x0F 0xE0 (mode_number m * 32))

abbrev pub write_core : ℕ → ℕ → Core → Core
write_core a v k = settled_core (stored (settled_core k) (a % 128) v)

-- settling twice is settling once
twice : (k : Core) → settled_core (settled_core k) ≡ settled_core k
twice k = settle_good k

thrice : (k : Core) → settled_core (settled_core (settled_core k)) ≡ settled_core k
thrice k = twice (settled_core k) ∙ twice k

four_times : (k : Core) → settled_core (settled_core (settled_core (settled_core k))) ≡ settled_core k
four_times k = twice (settled_core (settled_core k)) ∙ thrice k

pub ask_chip : (m : Mode) (k : Core) → chip_after (raised k) (session_of (Ask m)) ≡ raised (ask_core m k)
unfolding records_by record_of_command chip_after command_of
ask_chip m k =
    let b : mode_number m * 32 ≤ 255 = omega (arith, small m) in
    rw (
      low_step k,
      exchange_next _ First 5 (omega arith),
      exchange_next _ ModifyAddress 15 (omega arith),
      exchange_next _ (ModifyMask 15) 224 (omega arith),
      exchange_next _ (ModifyData 15 224) _ b,
      high_step,
      twice,
    )
    (ap (λ (j : Core). raised (settled_core (modified j 0x0F 0xE0 (mode_number m * 32)))) (four_times k))

pub read_chip : (a : ℕ) (k : Core) → a ≤ 255 → chip_after (raised k) (session_of (Read a)) ≡ raised (settled_core k)
unfolding records_by record_of_command chip_after command_of
read_chip a k h =
    rw (low_step k, exchange_next _ First 3 (omega arith), exchange_next _ ReadAddress a h, exchange_next _ (Reading (a % 128)) 0 (omega arith), high_step, twice)
    (ap raised (four_times k))

pub read_reply : (a : ℕ) (k : Core) → a ≤ 255 → reply_of (raised k) (Read a) ≡ reads (settled_core k) (a % 128)
unfolding records_by record_of_command last_reply command_of
read_reply a k h =
    let coded : next_chip (next_chip (raised k) (plain_record 0 0)) (plain_record 1 3) ≡ inside (settled_core (settled_core k)) ReadAddress
    = ap (λ (c : Chip). next_chip c (plain_record 1 3)) (low_step k) ∙ exchange_next (settled_core k) First 3 (omega arith) in
    let addressed : next_chip (next_chip (next_chip (raised k) (plain_record 0 0)) (plain_record 1 3)) (plain_record 1 a)
    ≡ inside (settled_core (settled_core (settled_core k))) (Reading (a % 128))
    = ap (λ (c : Chip). next_chip c (plain_record 1 a)) coded ∙ exchange_next (settled_core (settled_core k)) ReadAddress a h in
    ap (λ (c : Chip). (step_of c (plain_record 1 0)).answer) addressed
    ∙ ap (λ (s : Stepped). s.answer) (exchange_step (settled_core (settled_core (settled_core k))) (Reading (a % 128)) 0 (omega arith))
    ∙ ap (λ (j : Core). reads j (a % 128)) (thrice k)

pub write_chip : (a v : ℕ) (k : Core) → a ≤ 255 → v ≤ 255 → chip_after (raised k) (session_of (Write a v)) ≡ raised (write_core a v k)
unfolding records_by record_of_command chip_after command_of
write_chip a v k h b =
    rw (low_step k, exchange_next _ First 2 (omega arith), exchange_next _ WriteAddress a h, exchange_next _ (Writing (a % 128)) v b, high_step, twice)
    (ap (λ (j : Core). raised (settled_core (stored j (a % 128) v))) (thrice k))
