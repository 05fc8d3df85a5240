-- A frame's bytes stored in the image are its bytes stored among the received ones; which of its data bytes there are. Assumes nothing.
use mathlib.Core.Path.{◌≡◌, refl, ap, sym, ◌∙◌}
use mathlib.Core.Bool.{Bool, true, false, cond}
use mathlib.Core.List.{List}
use Prim.Native.Nat.{ℕ, zero, suc, ◌+◌, ◌<◌, ◌≤◌}
use native.Mathlib.Omega.{arith}
use lib.Dec.{ltb}
use lib.ListN.{length, get_or, set, drop}
use lib.Seq.{get_or-take, get_or-drop}
use borrow.Author.Tests.{lt-ltb, le-ltb, ltb-true, ltb-false}
use Rattle.records.specs.declared.Frame.{Frame}
use Rattle.records.specs.Records.{data_bytes}
use Rattle.registers.specs.declared.Core.{Core}
use Rattle.registers.specs.declared.RxBuffer.{RxBuffer}
use Rattle.registers.specs.declared.RxBuffer.TheVariants.{Rxb0, Rxb1}
use Rattle.registers.specs.State.{updated, with_rx_bytes}
use Rattle.image.specs.Image.{image_size, core_of, Became}
use Rattle.image.proofs.Laws.{rx_set, became_low, followed}
use Rattle.receiving.specs.Receiving.{sidh_of, sidl_of, eid8_of, eid0_of, dlc_of, carried_by, headed, filled, bytes_at, bytes_stored}

-- ---- of the eight data bytes a code tells those that it stands for
pub code_tells : (j code : ℕ) → j < 8 → ltb j code ≡ ltb j (data_bytes code)
code_tells j code h = go (ltb j code) refl
  where
    go : (b : Bool) → ltb j code ≡ b → ltb j code ≡ ltb j (data_bytes code)
    go true e = rw e (sym (lt-ltb j (data_bytes code) (omega (arith, ltb-true j code e))))
    go false e = rw e (sym (le-ltb j (data_bytes code) (omega (arith, ltb-false j code e))))

-- ---- nothing changed
pub unchanged : (m : List ℕ) → length m ≡ image_size → Became m m (core_of m)
unchanged m e = record { size = e; core = refl; rest = refl }

-- ---- one byte more: the image n stands for k
module _ {m n : List ℕ} {k : Core} (w : Became m n k) (i j : ℕ) (p : i ≡ 96 + j) (h : j < 32) where
  rx_step : (v : ℕ) → Became m (set n i v) (with_rx_bytes k (set k.rx j v))
  rx_step v =
      followed (λ (q : Core). with_rx_bytes q (set q.rx j v)) w
      (became_low n i v _ w.size (omega arith) (rw p (rx_set n j v h)))

  rx_pass : (g : ℕ → ℕ) → Became m (updated n i g) (with_rx_bytes k (updated k.rx j g))
  rx_pass g = rw (← same) (rx_step (g (get_or n i 0)))
    where
      same : get_or n i 0 ≡ get_or k.rx j 0
      same = rw p (sym (get_or-take 32 (drop 96 n) j 0 h ∙ get_or-drop 96 n j 0) ∙ ap (λ (q : Core). get_or q.rx j 0) w.core)

module _ {m n : List ℕ} {k : Core} (w : Became m n k) (o : ℕ) (h : o ≤ 16) (f : Frame) where
  filled-rx : (j : ℕ) → j ≤ 8 → Became m (filled n (96 + o) f j) (with_rx_bytes k (filled k.rx o f j))
  filled-rx zero q = w
  filled-rx (suc j) q =
      rx_pass (filled-rx j (omega arith)) (96 + o + 6 + j) (o + 6 + j) (omega arith) (omega arith)
      (λ old. cond (ltb j (carried_by f)) (get_or f.bytes j 0) old)

  headed-rx : Became m (headed n (96 + o) f) (with_rx_bytes k (headed k.rx o f))
  headed-rx =
      rx_step
      (rx_step
      (rx_step
      (rx_step
      (rx_step w (96 + o + 1) (o + 1) (omega arith) (omega arith) (sidh_of f))
      (96 + o + 2) (o + 2) (omega arith) (omega arith) (sidl_of f))
      (96 + o + 3) (o + 3) (omega arith) (omega arith) (eid8_of f))
      (96 + o + 4) (o + 4) (omega arith) (omega arith) (eid0_of f))
      (96 + o + 5) (o + 5) (omega arith) (omega arith) (dlc_of f)

-- ---- a frame whole
bytes_low : (b : RxBuffer) → bytes_at b ≤ 16
bytes_low Rxb0 = omega arith
bytes_low Rxb1 = omega arith

pub frame_put : (m n : List ℕ) (b : RxBuffer) (f : Frame) → length m ≡ image_size → n ≡ bytes_stored m (96 + bytes_at b) f
    → Became m n (with_rx_bytes (core_of m) (bytes_stored (core_of m).rx (bytes_at b) f))
unfolding bytes_stored
frame_put m n b f e p =
    let low = bytes_low b in
    rw p (filled-rx (headed-rx (unchanged m e) (bytes_at b) low f) (bytes_at b) low f 8 (omega arith))
