-- The select line and the open instruction in the bytes of an image, and what an exchange does to an image.
use Rattle.std.specs.Prelude.{ℕ, cond, ◌≡◌, List, eqb, length, get_or, drop}
use Rattle.registers.specs.declared.RxBuffer.{RxBuffer}
use Rattle.registers.specs.declared.RxBuffer.TheVariants.{Rxb0, Rxb1}
use Rattle.registers.specs.declared.Core.{Core}
use Rattle.registers.specs.State.{with_control}
use Rattle.registers.specs.Registers.{reset_core}
use Rattle.stores.specs.Store.{stored, modified, requested_to_send}
use Rattle.image.specs.Image.{image_size, core_of}
use Rattle.spi.specs.declared.Speaker.{Speaker}
use Rattle.spi.specs.declared.Select.{Select}
use Rattle.spi.specs.declared.Select.TheVariants.{Raised, Lowered}
use Rattle.spi.specs.declared.Instruction.{Instruction}
use Rattle.spi.specs.declared.Instruction.TheVariants.{First, ReadAddress, Reading, WriteAddress, Writing, ModifyAddress, ModifyMask, ModifyData, ReadingBuffer, StatusReply, RxStatusReply, Done}
use Rattle.spi.specs.declared.Act.{Act}
use Rattle.spi.specs.declared.Act.TheVariants.{Rest, ResetAll, Fetch, Store, Modify, RequestToSend, ClearFlag, FetchStatus, FetchRxStatus, Refuse}
use Rattle.spi.specs.Instructions.{speaker_by, act_by, next_by, high_act, acted, reply_to, cleared_of}

-- ---- the open instruction by a number, with an address a and a mask m where it has them; from 13 on it is done
unfoldable pub instruction_by : ℕ → ℕ → ℕ → Instruction
instruction_by n a m =
    cond (eqb n 1) First
    (cond (eqb n 2) ReadAddress
    (cond (eqb n 3) (Reading a)
    (cond (eqb n 4) WriteAddress
    (cond (eqb n 5) (Writing a)
    (cond (eqb n 6) ModifyAddress
    (cond (eqb n 7) (ModifyMask a)
    (cond (eqb n 8) (ModifyData a m)
    (cond (eqb n 9) (ReadingBuffer Rxb0 a)
    (cond (eqb n 10) (ReadingBuffer Rxb1 a)
    (cond (eqb n 11) StatusReply
    (cond (eqb n 12) RxStatusReply Done)))))))))))

-- READ RX BUFFER by its buffer
abbrev pub reading_number : RxBuffer → ℕ
reading_number Rxb0 = 9
reading_number Rxb1 = 10

-- 0 stands for a select that is high, of nobody; w is who selected
abbrev pub select_by : ℕ → ℕ → ℕ → ℕ → Select
select_by n a m w = cond (eqb n 0) Raised (Lowered (speaker_by w) (instruction_by n a m))

-- ---- the select line of an image: its number, then the address, the mask and who selected
abbrev pub select_of : List ℕ → Select
select_of m = select_by (get_or m 146 0) (get_or m 147 0) (get_or m 148 0) (get_or m 149 0)

abbrev pub speaker_of : List ℕ → Speaker
speaker_of m = speaker_by (get_or m 149 0)

abbrev pub open_of : List ℕ → Instruction
open_of m = instruction_by (get_or m 146 0) (get_or m 147 0) (get_or m 148 0)

-- ---- an image m changed into n: n stands for the core k with the select line s, and the spare bytes stay
pub record Turned (m n : List ℕ) (k : Core) (s : Select) : Type 0 where
  pub size : length n ≡ image_size
  pub core : core_of n ≡ k
  pub select : select_of n ≡ s
  pub rest : drop 150 n ≡ drop 150 m

-- what an act does before the mode request
abbrev pub performed : Act → Core → Core
performed Rest k = k
performed ResetAll k = reset_core k
performed (Fetch a) k = k
performed (Store a b) k = stored k a b
performed (Modify a m b) k = modified k a m b
performed (RequestToSend m) k = with_control k (requested_to_send k.control m)
performed (ClearFlag n) k = with_control k (cleared_of k.control n)
performed FetchStatus k = k
performed FetchRxStatus k = k
performed (Refuse n) k = k

-- ---- what the calls promise
-- an exchange over an image whose select is low; any other bytes stay, and the reply is 0
pub record Exchanged (m n : List ℕ) (b r : ℕ) : Type 0 where
  pub reply : length m ≡ image_size → (p : Speaker) (i : Instruction) → select_of m ≡ Lowered p i → r ≡ reply_to (act_by p i b) (core_of m)
  pub image : length m ≡ image_size → (p : Speaker) (i : Instruction) → select_of m ≡ Lowered p i
      → Turned m n (acted (act_by p i b) (core_of m)) (Lowered p (next_by p i b))
  pub raised : select_of m ≡ Raised → (r ≡ 0) × (n ≡ m)
  pub other : (length m ≡ image_size → ⊥) → (r ≡ 0) × (n ≡ m)

-- select low by the speaker w, over a select that is high or low: the instruction begins anew
pub record Opened (m n : List ℕ) (w : ℕ) : Type 0 where
  pub image : length m ≡ image_size → Turned m n (acted Rest (core_of m)) (Lowered (speaker_by w) First)
  pub other : (length m ≡ image_size → ⊥) → n ≡ m

-- select high
pub record Closed (m n : List ℕ) : Type 0 where
  pub image : length m ≡ image_size → Turned m n (acted (high_act (speaker_of m) (open_of m)) (core_of m)) Raised
  pub other : (length m ≡ image_size → ⊥) → n ≡ m

-- a select line put in
pub record Selected (m n : List ℕ) (s : Select) : Type 0 where
  pub image : length m ≡ image_size → Turned m n (core_of m) s
  pub other : (length m ≡ image_size → ⊥) → n ≡ m
