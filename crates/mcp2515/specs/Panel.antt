-- What the panel changes and what it cannot: isolation, record by record and over whole sessions, and cases of what it can do.
use Rattle.std.specs.Prelude.{ℕ, ◌%◌, Bool, true, false, not, ◌&&◌, ◌||◌, List, [], ◌∷◌, ◌++◌, ◌≡◌, ltb, T, take, drop, replicate}
use Rattle.bits.specs.Bit.{clear_bit}
use Rattle.records.specs.Records.{kind_of, is_event}
use Rattle.registers.specs.declared.TxBuffer.TheVariants.{Txb0, Txb1, Txb2}
use Rattle.registers.specs.declared.RxBuffer.TheVariants.{Rxb0, Rxb1}
use Rattle.registers.specs.declared.Region.{Region}
use Rattle.registers.specs.declared.Region.TheVariants.{Filters, Masks, Configured, Bfpctrl, Txrtsctrl, Tec, Rec, Caninte, Canintf, Eflg, Canstat, Canctrl, TxCtrl, TxMessage, RxCtrl, RxMessage}
use Rattle.registers.specs.declared.Control.{Control}
use Rattle.registers.specs.declared.Core.{Core}
use Rattle.registers.specs.State.{rx1if_bit, with_tx_control, with_tx, with_canintf}
use Rattle.registers.specs.Registers.{region_of, holds}
use Rattle.spi.specs.declared.Speaker.{Speaker}
use Rattle.spi.specs.declared.Speaker.TheVariants.{Controller, Panel}
use Rattle.spi.specs.declared.Select.{Select}
use Rattle.spi.specs.declared.Select.TheVariants.{Raised, Lowered}
use Rattle.spi.specs.declared.Command.{Command}
use Rattle.spi.specs.declared.Command.TheVariants.{Reset, Read, Write, BitModify, ReadRxBuffer, LoadTxBuffer, Rts, ReadStatus, RxStatus, UnknownCode}
use Rattle.spi.specs.Instructions.{command_by}
use Rattle.mcp2515.specs.declared.Chip.{Chip}
use Rattle.mcp2515.specs.Step.{power_on, speaker_in, next_chip, outcome, chip_after}
use Rattle.mcp2515.specs.Moments.{low, high, role_of, trace, bytes, events, records, Inner}
use Rattle.mcp2515.specs.Cases as cases

-- ---- a record of the panel: no event, and given by it or within its session; one of an unknown kind is refused and changes nothing
abbrev pub is_panel : Speaker → Bool
is_panel Controller = false
is_panel Panel = true

abbrev pub panel_selected : Select → Bool
panel_selected Raised = false
panel_selected (Lowered p i) = is_panel p

abbrev pub is_panel_record : Chip → List ℕ → Bool
is_panel_record c r = not (is_event (kind_of r)) && (is_panel (speaker_in r) || panel_selected c.select)

-- ---- what it cannot change: filters, masks, CNF1-3, CANCTRL, and control and message bytes of TXB0, TXB1 and RXB0
abbrev pub is_guarded_in : Region → ℕ → Bool
is_guarded_in Filters a = true
is_guarded_in Masks a = true
is_guarded_in Configured a = true
is_guarded_in Bfpctrl a = false
is_guarded_in Txrtsctrl a = false
is_guarded_in Tec a = false
is_guarded_in Rec a = false
is_guarded_in Caninte a = false
is_guarded_in Canintf a = false
is_guarded_in Eflg a = false
is_guarded_in Canstat a = false
is_guarded_in Canctrl a = true
is_guarded_in (TxCtrl Txb0) a = true
is_guarded_in (TxCtrl Txb1) a = true
is_guarded_in (TxCtrl Txb2) a = false
is_guarded_in (TxMessage Txb0) a = true
is_guarded_in (TxMessage Txb1) a = true
is_guarded_in (TxMessage Txb2) a = false
is_guarded_in (RxCtrl Rxb0) a = true
is_guarded_in (RxCtrl Rxb1) a = false
is_guarded_in RxMessage a = ltb a 0x70

abbrev pub is_guarded : ℕ → Bool
is_guarded a = is_guarded_in (region_of (a % 128)) (a % 128)

-- at any chip, reached or not: the step itself keeps the panel to what it may
abbrev pub GuardedKept : Type 0
GuardedKept = (c : Chip) (r : List ℕ) → is_panel_record c r ≡ true → (a : ℕ) → is_guarded a ≡ true → holds (next_chip c r).core a ≡ holds c.core a

-- ---- in one line: nothing but RX1IF, TXB2CTRL, 51h to 5Dh and the select line
-- what is left without these; the bytes to send begin at 30h, so that 51h lies at 21h and 5Eh at 2Eh
abbrev pub control_beside : Control → Control
control_beside c = with_tx (with_canintf c (clear_bit c.flags.canintf rx1if_bit)) (with_tx_control c.tx Txb2 0)

abbrev pub message_first : ℕ
message_first = 0x21

abbrev pub message_end : ℕ
message_end = 0x2E

abbrev pub bytes_beside : List ℕ → List ℕ
bytes_beside l = take message_first l ++ drop message_end l

abbrev pub core_beside : Core → Core
core_beside k = record { control = control_beside k.control; config = k.config; tx = bytes_beside k.tx; rx = k.rx; pins = k.pins }

-- after any list of records from power-on
abbrev pub PanelChanges : Type 0
PanelChanges =
    (rs : List (List ℕ)) (r : List ℕ) → is_panel_record (chip_after power_on rs) r ≡ true
    → core_beside (next_chip (chip_after power_on rs) r).core ≡ core_beside (chip_after power_on rs).core

-- ---- over a whole session of the panel
-- READ, both statuses, READ RX BUFFER and the codes that it may not give only look; RTS and LOAD TX BUFFER do not
abbrev pub only_looks : Command → Bool
only_looks Reset = false
only_looks Read = true
only_looks Write = false
only_looks BitModify = false
only_looks (ReadRxBuffer b a) = true
only_looks (LoadTxBuffer b a) = false
only_looks (Rts m) = false
only_looks ReadStatus = true
only_looks RxStatus = true
only_looks UnknownCode = true

-- by the bytes that it sends; one that sends none looks at nothing
abbrev pub looking : List ℕ → Bool
looking [] = true
looking (b ∷ bs) = only_looks (command_by Panel b)

-- at the chip c, the accepted select low l of the panel, the inside qs with no accepted select high, and the accepted select high h
pub record PanelSession (c : Chip) (l : List ℕ) (qs : List (List ℕ)) (h : List ℕ) : Type 0 where
  pub lowered : role_of l (outcome c l) ≡ low
  pub panel : speaker_in l ≡ Panel
  pub inner : Inner (trace (next_chip c l) qs)
  pub raised : role_of h (outcome (chip_after (next_chip c l) qs) h) ≡ high

-- the events inside, as records
abbrev pub events_inside : Chip → List ℕ → List (List ℕ) → List (List ℕ)
events_inside c l qs = records (events (trace (next_chip c l) qs))

-- up to select high the core is what the events inside alone leave, and what it cannot change is so afterwards too
pub record LeavesEvents (c : Chip) (l : List ℕ) (qs : List (List ℕ)) (h : List ℕ) : Type 0 where
  pub before : (chip_after (next_chip c l) qs).core ≡ (chip_after c (events_inside c l qs)).core
  pub after : (a : ℕ) → is_guarded a ≡ true
      → holds (next_chip (chip_after (next_chip c l) qs) h).core a ≡ holds (chip_after c (events_inside c l qs)).core a

abbrev pub LookingSessions : Type 0
LookingSessions =
    (rs : List (List ℕ)) (l : List ℕ) (qs : List (List ℕ)) (h : List ℕ) → PanelSession (chip_after power_on rs) l qs h
    → looking (bytes (trace (next_chip (chip_after power_on rs) l) qs)) ≡ true → LeavesEvents (chip_after power_on rs) l qs h

-- ---- cases: records of the panel
abbrev pub panel_low : List ℕ
panel_low = 0 ∷ 0 ∷ 1 ∷ replicate 13 0

abbrev pub panel_sends : ℕ → List ℕ
panel_sends b = 1 ∷ b ∷ 1 ∷ replicate 13 0

abbrev pub panel_high : List ℕ
panel_high = 2 ∷ 0 ∷ 1 ∷ replicate 13 0

abbrev pub panel_request : List (List ℕ)
panel_request = panel_low ∷ panel_sends 0x84 ∷ panel_high ∷ []

-- TX2RTS falls
abbrev pub pin_falls : List ℕ
pin_falls = 8 ∷ 2 ∷ 0 ∷ replicate 13 0

-- the bus is idle, and what goes then is sent
abbrev pub sent_now : List (List ℕ)
sent_now = cases.idle ∷ cases.ends 0 ∷ []

-- TX2RTS enabled, TXB2 with one data byte, 55h, and Loopback
abbrev pub loopback : List (List ℕ)
loopback = cases.write 0x0D 0x04 ++ cases.write 0x55 0x01 ++ cases.write 0x56 0x55 ++ cases.write 0x0F 0x47

unfoldable pub table : List cases.Row
table =
    -- it sees by READ what the controller has written
    cases.row (cases.write 0x36 0xA5 ++ (panel_low ∷ panel_sends 0x03 ∷ panel_sends 0x36 ∷ panel_sends 0 ∷ [])) cases.last_answer 0xA5
    -- its RTS delays a request for Configuration until TXB2 is sent; CANSTAT shows the mode
    ∷ cases.row (cases.normal ++ cases.configuration) (cases.held 0x0E) 0x80
    ∷ cases.row (cases.normal ++ panel_request ++ cases.configuration) (cases.held 0x0E) 0x00
    ∷ cases.row (cases.normal ++ panel_request ++ cases.configuration ++ sent_now) (cases.held 0x0E) 0x80
    -- its RTS wins a tie over TXB0
    ∷ cases.row (cases.normal ++ cases.command 0x81 ++ (cases.idle ∷ [])) cases.last_answer 0
    ∷ cases.row (cases.normal ++ cases.command 0x81 ++ panel_request ++ (cases.idle ∷ [])) cases.last_answer 2
    -- with the bus events inside its RTS session TXB2 is sent and TXB0 waits; the same events alone send TXB0
    ∷ cases.row (cases.normal ++ cases.command 0x81 ++ (panel_low ∷ panel_sends 0x84 ∷ cases.idle ∷ [])) cases.last_answer 2
    ∷ cases.row (cases.normal ++ cases.command 0x81 ++ (panel_low ∷ panel_sends 0x84 ∷ sent_now) ++ (panel_high ∷ [])) (cases.held 0x30) 0x08
    ∷ cases.row (cases.normal ++ cases.command 0x81 ++ sent_now) (cases.held 0x30) 0x00
    -- with a fall and the bus events inside its LOAD session its byte comes in at RXB0; the same events alone bring the old one
    ∷ cases.row (loopback ++ (panel_low ∷ panel_sends 0x45 ∷ panel_sends 0xAA ∷ pin_falls ∷ sent_now) ++ (panel_high ∷ [])) (cases.held 0x66) 0xAA
    ∷ cases.row (loopback ++ (pin_falls ∷ sent_now)) (cases.held 0x66) 0x55
    ∷ []

abbrev pub PanelCasesHold : Type 0
PanelCasesHold = T (cases.all_right table)
