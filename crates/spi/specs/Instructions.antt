-- Instructions: the SPI side as an automaton. A byte and the open instruction give the next open instruction and one act on the core.
use Rattle.std.specs.Prelude.{ℕ, ◌+◌, ◌/◌, ◌%◌, Bool, true, false, cond, ◌&&◌, eqb, ltb, get_or}
use Rattle.std.specs.Int.Bits.{bit_or}
use Rattle.bits.specs.Bit.{has_bit, clear_bit}
use Rattle.registers.specs.declared.TxBuffer.{TxBuffer}
use Rattle.registers.specs.declared.TxBuffer.TheVariants.{Txb0, Txb1, Txb2}
use Rattle.registers.specs.declared.RxBuffer.{RxBuffer}
use Rattle.registers.specs.declared.RxBuffer.TheVariants.{Rxb0, Rxb1}
use Rattle.registers.specs.declared.Control.{Control}
use Rattle.registers.specs.declared.Core.{Core}
use Rattle.registers.specs.State.{rx0if_bit, rx1if_bit, tx0if_bit, tx1if_bit, tx2if_bit, txreq_bit, rxrtr_bit, rx_flag, rts_bit, with_canintf, with_control}
use Rattle.registers.specs.Registers.{reads, reset_core}
use Rattle.stores.specs.Store.{stored, modified, requested_to_send}
use Rattle.controller.specs.Events.{settled_core}
use Rattle.spi.specs.declared.Speaker.{Speaker}
use Rattle.spi.specs.declared.Speaker.TheVariants.{Controller, Panel}
use Rattle.spi.specs.declared.Command.{Command}
use Rattle.spi.specs.declared.Command.TheVariants.{Reset, Read, Write, BitModify, ReadRxBuffer, LoadTxBuffer, Rts, ReadStatus, RxStatus, UnknownCode}
use Rattle.spi.specs.declared.Instruction.{Instruction}
use Rattle.spi.specs.declared.Instruction.TheVariants.{First, ReadAddress, Reading, WriteAddress, Writing, ModifyAddress, ModifyMask, ModifyData, ReadingBuffer, StatusReply, RxStatusReply, Done}
use Rattle.spi.specs.declared.Act.{Act}
use Rattle.spi.specs.declared.Act.TheVariants.{Rest, ResetAll, Fetch, Store, Modify, RequestToSend, ClearFlag, FetchStatus, FetchRxStatus, Refuse}

-- ---- the codes
-- READ RX BUFFER and LOAD TX BUFFER begin at SIDH or at data byte 0 of a buffer
unfoldable pub buffer_command : ℕ → Command
buffer_command b =
    cond (eqb b 0x90) (ReadRxBuffer Rxb0 0x61)
    (cond (eqb b 0x92) (ReadRxBuffer Rxb0 0x66)
    (cond (eqb b 0x94) (ReadRxBuffer Rxb1 0x71)
    (cond (eqb b 0x96) (ReadRxBuffer Rxb1 0x76)
    (cond (eqb b 0x40) (LoadTxBuffer Txb0 0x31)
    (cond (eqb b 0x41) (LoadTxBuffer Txb0 0x36)
    (cond (eqb b 0x42) (LoadTxBuffer Txb1 0x41)
    (cond (eqb b 0x43) (LoadTxBuffer Txb1 0x46)
    (cond (eqb b 0x44) (LoadTxBuffer Txb2 0x51)
    (cond (eqb b 0x45) (LoadTxBuffer Txb2 0x56) UnknownCode)))))))))

-- 80h to 87h are RTS: bits 2-0 pick the buffers TXB2 to TXB0
unfoldable pub command_of : ℕ → Command
command_of b =
    cond (eqb (b / 8) 16) (Rts (b % 8))
    (cond (eqb b 0xC0) Reset
    (cond (eqb b 0x03) Read
    (cond (eqb b 0x02) Write
    (cond (eqb b 0x05) BitModify
    (cond (eqb b 0xA0) ReadStatus
    (cond (eqb b 0xB0) RxStatus (buffer_command b)))))))

-- ---- the first byte, at which RESET and RTS act
abbrev pub first_act : Command → Act
first_act Reset = ResetAll
first_act Read = Rest
first_act Write = Rest
first_act BitModify = Rest
first_act (ReadRxBuffer b a) = Rest
first_act (LoadTxBuffer b a) = Rest
first_act (Rts m) = RequestToSend m
first_act ReadStatus = Rest
first_act RxStatus = Rest
first_act UnknownCode = Rest

-- READ RX BUFFER goes on as READ but for its end; LOAD TX BUFFER goes on as WRITE; after RESET the select is still low, with nothing open to do
abbrev pub opened : Command → Instruction
opened Reset = Done
opened Read = ReadAddress
opened Write = WriteAddress
opened BitModify = ModifyAddress
opened (ReadRxBuffer b a) = ReadingBuffer b a
opened (LoadTxBuffer b a) = Writing a
opened (Rts m) = Done
opened ReadStatus = StatusReply
opened RxStatus = RxStatusReply
opened UnknownCode = Done

-- ---- who speaks: byte 2 of a record, 0 the controller and 1 the panel
abbrev pub speaker_by : ℕ → Speaker
speaker_by n = cond (eqb n 0) Controller Panel

abbrev pub same_speaker : Speaker → Speaker → Bool
same_speaker Controller Controller = true
same_speaker Controller Panel = false
same_speaker Panel Controller = false
same_speaker Panel Panel = true

-- the buffers that are open to the panel: RXB1 to read and TXB2 to load and request
abbrev pub panel_reads : RxBuffer → Bool
panel_reads Rxb0 = false
panel_reads Rxb1 = true

abbrev pub panel_loads : TxBuffer → Bool
panel_loads Txb0 = false
panel_loads Txb1 = false
panel_loads Txb2 = true

-- the panel may READ, ask both statuses, READ RX BUFFER for RXB1, LOAD TXB2 and RTS by 84h; any other code is none to it
abbrev pub permitted : Command → Command
permitted Reset = UnknownCode
permitted Read = Read
permitted Write = UnknownCode
permitted BitModify = UnknownCode
permitted (ReadRxBuffer b a) = cond (panel_reads b) (ReadRxBuffer b a) UnknownCode
permitted (LoadTxBuffer b a) = cond (panel_loads b) (LoadTxBuffer b a) UnknownCode
permitted (Rts m) = cond (eqb m (rts_bit Txb2)) (Rts m) UnknownCode
permitted ReadStatus = ReadStatus
permitted RxStatus = RxStatus
permitted UnknownCode = UnknownCode

abbrev pub command_by : Speaker → ℕ → Command
command_by Controller b = command_of b
command_by Panel b = permitted (command_of b)

-- SIDH to data byte 7 of the buffer whose control register stands at c
abbrev pub in_message : ℕ → ℕ → Bool
in_message c a = ltb c (a % 128) && ltb (a % 128) (c + 14)

-- The panel goes on with what it may have opened, READ RX BUFFER and LOAD TX BUFFER as far as data byte 7. Past it, and on a chip that no
-- run reaches, its instruction has nothing more to do.
abbrev pub panel_goes_on : Instruction → Bool
panel_goes_on First = true
panel_goes_on ReadAddress = true
panel_goes_on (Reading a) = true
panel_goes_on WriteAddress = false
panel_goes_on (Writing a) = in_message 0x50 a
panel_goes_on ModifyAddress = false
panel_goes_on (ModifyMask a) = false
panel_goes_on (ModifyData a m) = false
panel_goes_on (ReadingBuffer n a) = panel_reads n && in_message 0x70 a
panel_goes_on StatusReply = true
panel_goes_on RxStatusReply = true
panel_goes_on Done = true

abbrev pub goes_on : Speaker → Instruction → Bool
goes_on Controller i = true
goes_on Panel i = panel_goes_on i

-- ---- an exchange, whose byte names the command x if it is the first; an address is taken modulo 128
abbrev pub rising : ℕ → ℕ
rising a = (a % 128 + 1) % 128

-- WRITE stores byte by byte, BIT MODIFY waits for its data byte, a status repeats; an instruction that is done ignores further bytes
abbrev pub exchange_act : Command → Instruction → ℕ → Act
exchange_act x First b = first_act x
exchange_act x ReadAddress b = Rest
exchange_act x (Reading a) b = Fetch a
exchange_act x WriteAddress b = Rest
exchange_act x (Writing a) b = Store a b
exchange_act x ModifyAddress b = Rest
exchange_act x (ModifyMask a) b = Rest
exchange_act x (ModifyData a m) b = Modify a m b
exchange_act x (ReadingBuffer n a) b = Fetch a
exchange_act x StatusReply b = FetchStatus
exchange_act x RxStatusReply b = FetchRxStatus
exchange_act x Done b = Rest

abbrev pub exchange_next : Command → Instruction → ℕ → Instruction
exchange_next x First b = opened x
exchange_next x ReadAddress b = Reading (b % 128)
exchange_next x (Reading a) b = Reading (rising a)
exchange_next x WriteAddress b = Writing (b % 128)
exchange_next x (Writing a) b = Writing (rising a)
exchange_next x ModifyAddress b = ModifyMask (b % 128)
exchange_next x (ModifyMask a) b = ModifyData a b
exchange_next x (ModifyData a m) b = Done
exchange_next x (ReadingBuffer n a) b = ReadingBuffer n (rising a)
exchange_next x StatusReply b = StatusReply
exchange_next x RxStatusReply b = RxStatusReply
exchange_next x Done b = Done

-- what a byte of the speaker asks, and the instruction after it
abbrev pub act_by : Speaker → Instruction → ℕ → Act
act_by p i b = cond (goes_on p i) (exchange_act (command_by p b) i b) Rest

abbrev pub next_by : Speaker → Instruction → ℕ → Instruction
next_by p i b = cond (goes_on p i) (exchange_next (command_by p b) i b) i

-- ---- select high: after READ RX BUFFER it clears that RXnIF
abbrev pub clears_flag : Speaker → RxBuffer → Bool
clears_flag Controller n = true
clears_flag Panel n = panel_reads n

abbrev pub high_act : Speaker → Instruction → Act
high_act p First = Rest
high_act p ReadAddress = Rest
high_act p (Reading a) = Rest
high_act p WriteAddress = Rest
high_act p (Writing a) = Rest
high_act p ModifyAddress = Rest
high_act p (ModifyMask a) = Rest
high_act p (ModifyData a m) = Rest
high_act p (ReadingBuffer n a) = cond (clears_flag p n) (ClearFlag n) Rest
high_act p StatusReply = Rest
high_act p RxStatusReply = Rest
high_act p Done = Rest

-- ---- the two statuses
-- A0h: RX0IF and RX1IF in bits 0 and 1; above them a pair TXREQ, TXnIF for each of TXB0, TXB1 and TXB2
unfoldable pub status_of : Control → ℕ
status_of c =
    bit_or (cond (has_bit c.flags.canintf rx0if_bit) 0x01 0)
    (bit_or (cond (has_bit c.flags.canintf rx1if_bit) 0x02 0)
    (bit_or (cond (has_bit c.tx.txb0 txreq_bit) 0x04 0)
    (bit_or (cond (has_bit c.flags.canintf tx0if_bit) 0x08 0)
    (bit_or (cond (has_bit c.tx.txb1 txreq_bit) 0x10 0)
    (bit_or (cond (has_bit c.flags.canintf tx1if_bit) 0x20 0)
    (bit_or (cond (has_bit c.tx.txb2 txreq_bit) 0x40 0)
    (cond (has_bit c.flags.canintf tx2if_bit) 0x80 0)))))))

-- B0h: bit 4 extended, bit 3 remote, bits 2-0 the filter
abbrev pub described : ℕ → ℕ → ℕ → ℕ
described ctrl sidl filter = bit_or (cond (has_bit sidl 3) 0x10 0) (bit_or (cond (has_bit ctrl rxrtr_bit) 0x08 0) filter)

-- a hit of 0 or 1 in RXB1 is shown 6 higher
abbrev pub shown_hit : ℕ → ℕ
shown_hit h = cond (ltb h 2) (h + 6) h

abbrev pub described_rxb0 : Core → ℕ
described_rxb0 k = described k.control.rx.rxb0 (get_or k.rx 2 0) (k.control.rx.rxb0 % 2)

abbrev pub described_rxb1 : Core → ℕ
described_rxb1 k = described k.control.rx.rxb1 (get_or k.rx 18 0) (shown_hit (k.control.rx.rxb1 % 8))

-- bit 7 for RX1IF, bit 6 for RX0IF; the other bits describe RXB0 or, where only RXB1 is full, RXB1; both empty, all is 0
unfoldable pub rx_status_of : Core → ℕ
rx_status_of k =
    bit_or (cond (has_bit k.control.flags.canintf rx1if_bit) 0x80 0)
    (bit_or (cond (has_bit k.control.flags.canintf rx0if_bit) 0x40 0)
    (cond (has_bit k.control.flags.canintf rx0if_bit) (described_rxb0 k)
    (cond (has_bit k.control.flags.canintf rx1if_bit) (described_rxb1 k) 0)))

-- ---- what an act replies, sampled at its exchange; acts that fetch nothing reply 0
abbrev pub reply_to : Act → Core → ℕ
reply_to Rest k = 0
reply_to ResetAll k = 0
reply_to (Fetch a) k = reads k a
reply_to (Store a b) k = 0
reply_to (Modify a m b) k = 0
reply_to (RequestToSend m) k = 0
reply_to (ClearFlag n) k = 0
reply_to FetchStatus k = status_of k.control
reply_to FetchRxStatus k = rx_status_of k
reply_to (Refuse n) k = 0

-- ---- what an act does; the last act of each accepted step is the mode request
abbrev pub cleared_of : Control → RxBuffer → Control
cleared_of c n = with_canintf c (clear_bit c.flags.canintf (rx_flag n))

abbrev pub acted : Act → Core → Core
acted Rest k = settled_core k
acted ResetAll k = settled_core (reset_core k)
acted (Fetch a) k = settled_core k
acted (Store a b) k = settled_core (stored k a b)
acted (Modify a m b) k = settled_core (modified k a m b)
acted (RequestToSend m) k = settled_core (with_control k (requested_to_send k.control m))
acted (ClearFlag n) k = settled_core (with_control k (cleared_of k.control n))
acted FetchStatus k = settled_core k
acted FetchRxStatus k = settled_core k
acted (Refuse n) k = k

abbrev pub refusal_of : Act → ℕ
refusal_of Rest = 0
refusal_of ResetAll = 0
refusal_of (Fetch a) = 0
refusal_of (Store a b) = 0
refusal_of (Modify a m b) = 0
refusal_of (RequestToSend m) = 0
refusal_of (ClearFlag n) = 0
refusal_of FetchStatus = 0
refusal_of FetchRxStatus = 0
refusal_of (Refuse n) = n
