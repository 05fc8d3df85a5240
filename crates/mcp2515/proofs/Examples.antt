-- Lists tidied by computation, over the chip from power-on. Assumes nothing.
use Rattle.std.proofs.Common.{None}
use mathlib.Core.List.{List, [], ◌∷◌, ◌++◌}
use mathlib.Core.Logic.{◌≢◌}
use mathlib.Core.Path.{◌≡◌, refl, sym, ap, ◌∙◌}
use Prim.Native.Nat.{ℕ}
use native.Mathlib.Omega.{arith}
use lib.ListN.{get_or, replicate}
use Rattle.records.specs.Records.{kind_of, frame_of, sound_of}
use Rattle.registers.specs.Errors.{error_flags, moved_to}
use Rattle.registers.specs.Modes.{entered, free_to_change, settled}
use Rattle.registers.specs.Registers.{region_of, writable_of, power_on_core, all_high, holds, reads}
use Rattle.stores.specs.Store.{tx_stored, requested_of, requested_to_send, aborted, canctrl_stored, stored}
use Rattle.receiving.specs.Receiving.{matches, set_of, matched_of, lowest_from, hit_for, verdict_of, match_of, bytes_stored, received_of}
use Rattle.controller.specs.Sending.{best_of, choice_of, sent_by}
use Rattle.controller.specs.Events.{heard_of, idled, ended, error_heard, pinned, event_refusal, event_of}
use Rattle.registers.specs.declared.Flags.{Flags}
use Rattle.registers.specs.declared.Mode.TheVariants.{Normal}
use Rattle.spi.specs.declared.Select.TheVariants.{Raised}
use Rattle.mcp2515.specs.declared.Chip.{Chip}
use Rattle.spi.specs.Instructions.{buffer_command, command_of}
use Rattle.records.specs.declared.Outcome.{Outcome}
use Rattle.mcp2515.specs.Step.{power_on, asked, turned, step_of, chip_after, outcomes}
use Rattle.mcp2515.specs.Moments.{role_of, trace, no_fall, listed_by, events, others, bytes, before, after, placed, session, tidy_from, tidy, records, outs}

-- ---- records
abbrev row : ℕ → ℕ → List ℕ
row k b = k ∷ b ∷ 0 ∷ 0 ∷ 0 ∷ 0 ∷ 0 ∷ 0 ∷ 0 ∷ 0 ∷ 0 ∷ 0 ∷ 0 ∷ 0 ∷ 0 ∷ 0 ∷ []

abbrev low : List ℕ
low = row 0 0

abbrev byte : ℕ → List ℕ
byte b = row 1 b

abbrev high : List ℕ
high = row 2 0

-- a standard frame 123h with one data byte, and a remote one with none
abbrev frame : ℕ → List ℕ
frame d = 3 ∷ 0 ∷ 1 ∷ 0 ∷ 0 ∷ 0 ∷ 1 ∷ 0x23 ∷ d ∷ 0 ∷ 0 ∷ 0 ∷ 0 ∷ 0 ∷ 0 ∷ 0 ∷ []

abbrev remote : List ℕ
remote = 3 ∷ 2 ∷ 0 ∷ 0 ∷ 0 ∷ 0 ∷ 1 ∷ 0x23 ∷ 0 ∷ 0 ∷ 0 ∷ 0 ∷ 0 ∷ 0 ∷ 0 ∷ 0 ∷ []

abbrev idle : List ℕ
idle = row 4 0

-- the own frame in flight is sent
abbrev sent : List ℕ
sent = row 5 0

abbrev error : List ℕ
error = row 6 0

abbrev recovery : List ℕ
recovery = row 7 0

-- from power-on to Normal mode
abbrev normal : List (List ℕ)
normal = low ∷ byte 0x02 ∷ byte 0x0F ∷ byte 0x00 ∷ high ∷ []

-- ---- runs from power-on
-- To open this is to open all that a run looks through.
tidied : List (List ℕ) → List (List ℕ)
unfolding kind_of frame_of sound_of error_flags moved_to entered free_to_change settled region_of writable_of power_on_core holds reads
    tx_stored requested_of requested_to_send aborted canctrl_stored stored matches set_of matched_of lowest_from hit_for verdict_of match_of bytes_stored received_of best_of choice_of sent_by
    heard_of idled ended error_heard pinned event_refusal event_of buffer_command command_of power_on asked turned step_of chip_after outcomes role_of trace no_fall listed_by events
    others bytes before after placed session tidy_from tidy records outs
tidied rs = records (tidy 0 (trace power_on rs))

abbrev ok : ℕ → Outcome
ok a = record { refusal = 0; answer = a; matched = 0 }

-- a frame that each of the six filters matches, as they do under masks of 0
abbrev heard : ℕ → Outcome
heard a = record { refusal = 0; answer = a; matched = 0x3F }

abbrev wrote : List Outcome
wrote = ok 0 ∷ ok 0 ∷ ok 0 ∷ ok 0 ∷ ok 0 ∷ []

-- a chip in Normal mode with select high that has sent nothing, with its flags, RXB0CTRL, REC, and of RXB0 SIDL, DLC and data byte 0
abbrev rested : Flags → ℕ → ℕ → ℕ → ℕ → ℕ → Chip
rested f ctrl heard sidl dlc d =
    record {
      core = record {
        control = record {
          flags = f;
          tx = record { txb0 = 0; txb1 = 0; txb2 = 0 };
          rx = record { rxb0 = ctrl; rxb1 = 0 };
          counters = record { tec = 0; rec = heard };
          state = record { mode = Normal; flight = None; request = None };
        };
        config = replicate 48 0;
        tx = replicate 48 0;
        rx = 0 ∷ 0x24 ∷ sidl ∷ 0 ∷ 0 ∷ dlc ∷ d ∷ replicate 25 0;
        pins = all_high;
      };
      select = Raised;
    }

-- The list given is moved; there each record gets the outcome that it had, and the end is the same.
record Tidied (given moved : List (List ℕ)) (told : List Outcome) (end : Chip) : Type 0 where
  in_order : tidied given ≡ moved
  told_before : outs (tidy 0 (trace power_on given)) ≡ told
  told_after : outcomes power_on moved ≡ told
  end_before : chip_after power_on given ≡ end
  end_after : chip_after power_on moved ≡ end

-- ---- WRITE of CANINTE with a frame before its data byte and one after it
abbrev written : List (List ℕ)
written = normal ++ (low ∷ byte 0x02 ∷ frame 0xAA ∷ byte 0x2B ∷ byte 0x03 ∷ frame 0xBB ∷ high ∷ [])

-- the first goes before select low and the second behind select high
write_tidied : Tidied written
    (normal ++ (frame 0xAA ∷ low ∷ byte 0x02 ∷ byte 0x2B ∷ byte 0x03 ∷ high ∷ frame 0xBB ∷ []))
    (wrote ++ (heard 1 ∷ ok 0 ∷ ok 0 ∷ ok 0 ∷ ok 0 ∷ ok 0 ∷ heard 3 ∷ []))
    (rested (record { canctrl = 0; caninte = 3; canintf = 0x21; eflg = 0x40 }) 0 0 0x60 1 0xAA)
unfolding tidied
write_tidied = record { in_order = refl; told_before = refl; told_after = refl; end_before = refl; end_after = refl }

-- ---- READ RX BUFFER of a full RXB0, with a frame between its two replies and a receive error after them
abbrev fetched : List (List ℕ)
fetched = normal ++ (frame 0xAA ∷ low ∷ byte 0x92 ∷ byte 0 ∷ frame 0xBB ∷ byte 0 ∷ error ∷ high ∷ [])

-- select high is the moment, so both go before select low; the first reply is still data byte 0 of the first frame
fetch_tidied : Tidied fetched
    (normal ++ (frame 0xAA ∷ frame 0xBB ∷ error ∷ low ∷ byte 0x92 ∷ byte 0 ∷ byte 0 ∷ high ∷ []))
    (wrote ++ (heard 1 ∷ heard 3 ∷ ok 0 ∷ ok 0 ∷ ok 0 ∷ ok 0xAA ∷ ok 0 ∷ ok 0 ∷ []))
    (rested (record { canctrl = 0; caninte = 0; canintf = 0xA0; eflg = 0x40 }) 0 1 0x60 1 0xAA)
unfolding tidied
fetch_tidied = record { in_order = refl; told_before = refl; told_after = refl; end_before = refl; end_after = refl }

-- ---- BIT MODIFY cut after its mask byte, with a bus idle, a frame and a refused recovery inside
abbrev cut : List (List ℕ)
cut = normal ++ (low ∷ byte 0x05 ∷ idle ∷ byte 0x2B ∷ frame 0xAA ∷ byte 0xFF ∷ recovery ∷ high ∷ [])

-- its moment never comes, so all go before select low
cut_tidied : Tidied cut
    (normal ++ (idle ∷ frame 0xAA ∷ recovery ∷ low ∷ byte 0x05 ∷ byte 0x2B ∷ byte 0xFF ∷ high ∷ []))
    (wrote ++ (ok 3 ∷ heard 1 ∷ record { refusal = 5; answer = 0; matched = 0 } ∷ ok 0 ∷ ok 0 ∷ ok 0 ∷ ok 0 ∷ ok 0 ∷ []))
    (rested (record { canctrl = 0; caninte = 0; canintf = 1; eflg = 0 }) 0 0 0x60 1 0xAA)
unfolding tidied
cut_tidied = record { in_order = refl; told_before = refl; told_after = refl; end_before = refl; end_after = refl }

-- ---- READ of RXB0CTRL and RXB0SIDH with a remote frame between its two replies
abbrev twice : List (List ℕ)
twice = normal ++ (low ∷ byte 0x03 ∷ byte 0x60 ∷ byte 0 ∷ remote ∷ byte 0 ∷ high ∷ [])

-- it is not listed, and stays as it is
twice_kept : Tidied twice twice (wrote ++ (ok 0 ∷ ok 0 ∷ ok 0 ∷ ok 0 ∷ heard 1 ∷ ok 0x24 ∷ ok 0 ∷ []))
    (rested (record { canctrl = 0; caninte = 0; canintf = 1; eflg = 0 }) 8 0 0x70 0 0)
unfolding tidied
twice_kept = record { in_order = refl; told_before = refl; told_after = refl; end_before = refl; end_after = refl }

-- for moved before select low the frame changes the first reply, and moved behind select high the second
abbrev early : List (List ℕ)
early = normal ++ (remote ∷ low ∷ byte 0x03 ∷ byte 0x60 ∷ byte 0 ∷ byte 0 ∷ high ∷ [])

abbrev late : List (List ℕ)
late = normal ++ (low ∷ byte 0x03 ∷ byte 0x60 ∷ byte 0 ∷ byte 0 ∷ high ∷ remote ∷ [])

early_told : outcomes power_on early ≡ wrote ++ (heard 1 ∷ ok 0 ∷ ok 0 ∷ ok 0 ∷ ok 8 ∷ ok 0x24 ∷ ok 0 ∷ [])
unfolding tidied
early_told = refl

late_told : outcomes power_on late ≡ wrote ++ (ok 0 ∷ ok 0 ∷ ok 0 ∷ ok 0 ∷ ok 0 ∷ ok 0 ∷ heard 1 ∷ [])
unfolding tidied
late_told = refl

-- so neither order keeps each record's own outcome
not_early : outcomes power_on early ≢ wrote ++ (heard 1 ∷ ok 0 ∷ ok 0 ∷ ok 0 ∷ ok 0 ∷ ok 0x24 ∷ ok 0 ∷ [])
not_early e = let z : ◌≡◌ {A = ℕ} 8 0 = ap (λ (os : List Outcome). (get_or os 9 (ok 0)).answer) (sym early_told ∙ e) in omega arith

not_late : outcomes power_on late ≢ wrote ++ (ok 0 ∷ ok 0 ∷ ok 0 ∷ ok 0 ∷ ok 0x24 ∷ ok 0 ∷ heard 1 ∷ [])
not_late e = let z : ◌≡◌ {A = ℕ} 0 0x24 = ap (λ (os : List Outcome). (get_or os 9 (ok 0)).answer) (sym late_told ∙ e) in omega arith

-- ---- LOAD TX BUFFER of two data bytes, with a fall of the buffer's enabled pin between them
-- a level of TX0RTS
abbrev pin : ℕ → List ℕ
pin level = 8 ∷ 0 ∷ level ∷ replicate 13 0

-- from power-on TXRTSCTRL is written, which enables TX0RTS
abbrev enabled : List (List ℕ)
enabled = low ∷ byte 0x02 ∷ byte 0x0D ∷ byte 0x01 ∷ high ∷ []

abbrev fallen : List (List ℕ)
fallen = enabled ++ (low ∷ byte 0x41 ∷ byte 0xAA ∷ pin 0 ∷ byte 0xBB ∷ high ∷ [])

-- it is not listed, and stays as it is
fallen_kept : tidied fallen ≡ fallen
unfolding tidied
fallen_kept = refl

-- what the two bytes hold after a list
abbrev loaded : List (List ℕ) → List ℕ
loaded rs = holds (chip_after power_on rs).core 0x36 ∷ holds (chip_after power_on rs).core 0x37 ∷ []

-- the first byte is taken, the fall requests the buffer, and the second finds it locked
fallen-loaded : loaded fallen ≡ 0xAA ∷ 0x00 ∷ []
unfolding tidied
fallen-loaded = refl

-- moved before select low the fall locks both bytes out, and moved behind select high none: so the LOAD acts at no single moment
fallen_early : loaded (enabled ++ (pin 0 ∷ low ∷ byte 0x41 ∷ byte 0xAA ∷ byte 0xBB ∷ high ∷ [])) ≡ 0x00 ∷ 0x00 ∷ []
unfolding tidied
fallen_early = refl

fallen_late : loaded (enabled ++ (low ∷ byte 0x41 ∷ byte 0xAA ∷ byte 0xBB ∷ high ∷ pin 0 ∷ [])) ≡ 0xAA ∷ 0xBB ∷ []
unfolding tidied
fallen_late = refl

-- with the pin low from the start, and a rise in the fall's place, the LOAD is listed: select high is its moment, and the rise goes
-- before select low
abbrev risen : List (List ℕ)
risen = pin 0 ∷ (enabled ++ (low ∷ byte 0x41 ∷ byte 0xAA ∷ pin 1 ∷ byte 0xBB ∷ high ∷ []))

risen-tidied : tidied risen ≡ pin 0 ∷ (enabled ++ (pin 1 ∷ low ∷ byte 0x41 ∷ byte 0xAA ∷ byte 0xBB ∷ high ∷ []))
unfolding tidied
risen-tidied = refl

-- ---- LOAD TX BUFFER of a buffer that is locked at select low, and sent between two data bytes
-- by TXREQ alone: it starts inside
abbrev requested : List (List ℕ)
requested = normal ++ (low ∷ byte 0x81 ∷ high ∷ [])

abbrev waiting : List (List ℕ)
waiting = requested ++ (low ∷ byte 0x41 ∷ byte 0xAA ∷ idle ∷ sent ∷ byte 0xBB ∷ high ∷ [])

-- by the flight alone: it has started, and its TXREQ was cleared
abbrev flying : List (List ℕ)
flying = requested ++ (idle ∷ low ∷ byte 0x02 ∷ byte 0x30 ∷ byte 0x00 ∷ high ∷ low ∷ byte 0x41 ∷ byte 0xAA ∷ sent ∷ byte 0xBB ∷ high ∷ [])

-- neither is listed, and both stay as they are; the first byte finds the buffer locked, and the second does not
waiting_kept : (tidied waiting ≡ waiting) × (loaded waiting ≡ 0x00 ∷ 0xBB ∷ [])
unfolding tidied
waiting_kept = (refl, refl)

flying_kept : (tidied flying ≡ flying) × (loaded flying ≡ 0x00 ∷ 0xBB ∷ [])
unfolding tidied
flying_kept = (refl, refl)

-- ---- after power-on TXRTSCTRL holds and reads the levels of three pins that are high
power_on_levels : (holds power_on.core 0x0D ≡ 0x38) × (reads power_on.core 0x0D ≡ 0x38)
unfolding tidied
power_on_levels = (refl, refl)

-- ---- a session of the panel with 87h, which it may not give: two frames inside, and an exchange of the controller that is refused
abbrev panel : ℕ → ℕ → List ℕ
panel k b = k ∷ b ∷ 1 ∷ replicate 13 0

abbrev barred : List (List ℕ)
barred = normal ++ (panel 0 0 ∷ frame 0xAA ∷ panel 1 0x87 ∷ byte 0x02 ∷ frame 0xBB ∷ panel 2 0 ∷ [])

-- it counts as an unknown code, with its moment at select high: both frames go before select low, the refused record keeps its place
barred_tidied : Tidied barred
    (normal ++ (frame 0xAA ∷ frame 0xBB ∷ panel 0 0 ∷ panel 1 0x87 ∷ byte 0x02 ∷ panel 2 0 ∷ []))
    (wrote ++ (heard 1 ∷ heard 3 ∷ ok 0 ∷ ok 0 ∷ record { refusal = 18; answer = 0; matched = 0 } ∷ ok 0 ∷ []))
    (rested (record { canctrl = 0; caninte = 0; canintf = 0x21; eflg = 0x40 }) 0 0 0x60 1 0xAA)
unfolding tidied
barred_tidied = record { in_order = refl; told_before = refl; told_after = refl; end_before = refl; end_after = refl }
