-- What the core is that an image stands for, after a change of its bytes. Assumes nothing.
use mathlib.Core.Path.{◌≡◌, refl, ap, sym, subst, ◌∙◌, fun_ext}
use mathlib.Core.Bool.{Bool, true, false, cond, not, ◌&&◌}
use mathlib.Core.List.{List, [], ◌∷◌, ◌++◌}
use Prim.Native.Nat.{ℕ, zero, suc, ◌+◌, ◌*◌, ◌/◌, ◌%◌, ◌-◌, ◌<◌, ◌≤◌}
use native.Mathlib.Omega.{arith}
use native.Mathlib.Nat.{add-suc, zero-add}
use lib.Dec.{eqb, lit<}
use lib.ListN.{length, get_or, set, take, drop, length-set, length-drop}
use lib.Seq.{take-take, length-take-le, length_front, drop_at, take-suc, append_snoc, get_or_at, take-append-le, drop-append-le, get_or-set_same, get_or-set_other, take-set-le, take-set-lt, drop-set-lt, drop-set-add, get_or-drop, sets, length-sets, sets-eq, drop-cons, set_at, drop-drop}
use borrow.Author.Tests.{eqb-true, eqb-false, ne_eqb}
use Rattle.registers.specs.declared.Mode.{Mode}
use Rattle.registers.specs.declared.Mode.TheVariants.{Normal, Sleep, Loopback, ListenOnly, Configuration}
use Rattle.registers.specs.declared.TxBuffer.{TxBuffer}
use Rattle.registers.specs.declared.TxBuffer.TheVariants.{Txb0, Txb1, Txb2}
use Rattle.std.specs.Prelude.{Option, Some, None}
use Rattle.registers.specs.declared.Control.{Control}
use Rattle.registers.specs.declared.Pins.{Pins}
use Rattle.registers.specs.declared.Core.{Core}
use Rattle.registers.specs.State.{mode_number, tx_number, with_control, with_config, with_tx_bytes, with_rx_bytes, with_level, with_pins}
use Rattle.registers.specs.Registers.{region_of, first_control, is_kept, kept_from, reset_core}
use Rattle.registers.proofs.Kept.{kept_length, kept_take, kept_drop, kept_snoc}
use Rattle.registers.specs.Modes.{requested, settled}
use Rattle.image.specs.Image.{image_size, pins_at, select_at, version_at, version, is_chip, mode_of, flight_of, flight_number, request_number, decoded, control_of, encoded, pins_of, level_byte, core_of, Became}

-- ---- the enums come back out of their bytes
pub mode_back : (m : Mode) → mode_of (mode_number m) ≡ m
mode_back Normal = refl
mode_back Sleep = refl
mode_back Loopback = refl
mode_back ListenOnly = refl
mode_back Configuration = refl

pub flight_back : (f : Option TxBuffer) → flight_of (flight_number f) ≡ f
flight_back None = refl
flight_back (Some Txb0) = refl
flight_back (Some Txb1) = refl
flight_back (Some Txb2) = refl

pub request_back : (q : Option Mode) → requested (request_number q) ≡ q
request_back None = refl
request_back (Some Normal) = refl
request_back (Some Sleep) = refl
request_back (Some Loopback) = refl
request_back (Some ListenOnly) = refl
request_back (Some Configuration) = refl

-- ---- the bytes by their index, after a change of one
abbrev pub bytes : List ℕ → ℕ → ℕ
bytes m i = get_or m i 0

abbrev pub changed : (ℕ → ℕ) → ℕ → ℕ → ℕ → ℕ
changed b i v j = cond (eqb j i) v (b j)

pub bytes-set : (m : List ℕ) (i v : ℕ) → i < length m → bytes (set m i v) ≡ changed (bytes m) i v
bytes-set m i v h = fun_ext (λ j. go j (eqb j i) refl)
  where
    go : (j : ℕ) (b : Bool) → eqb j i ≡ b → get_or (set m i v) j 0 ≡ cond (eqb j i) v (get_or m j 0)
    go j true e = let same : j ≡ i = eqb-true j i e in rw (e, same) (get_or-set_same m i v 0 h)
    go j false e = rw e (get_or-set_other m i j v 0 (eqb-false j i e))

-- a part that ends at or below the byte
pub slice_above : (n k : ℕ) (m : List ℕ) (i v : ℕ) → n + k ≤ i → take k (drop n (set m i v)) ≡ take k (drop n m)
slice_above n k m i v h =
    let e : i ≡ n + (i - n) = omega arith in
    let g : k ≤ i - n = omega arith in
    rw (e, drop-set-add n m (i - n) v, take-set-le k (drop n m) (i - n) v g)

-- ---- the levels of the pins are those of three bytes
pub pins_away : (m : List ℕ) (i v : ℕ) → (pins_at ≡ i → ⊥) → (144 ≡ i → ⊥) → (145 ≡ i → ⊥) → pins_of (set m i v) ≡ pins_of m
pins_away m i v x y z = rw (get_or-set_other m i 143 v 0 x, get_or-set_other m i 144 v 0 y, get_or-set_other m i 145 v 0 z)

pins_below : (m : List ℕ) (i v : ℕ) → i < pins_at → pins_of (set m i v) ≡ pins_of m
pins_below m i v h = pins_away m i v (λ e. omega arith) (λ e. omega arith) (λ e. omega arith)

-- ---- a byte below 128 is no control register
low_control : (m : List ℕ) (i v : ℕ) → i < 128 → control_of (set m i v) ≡ control_of m
unfolding decoded
low_control m i v h =
    simp (away 128 (λ e. omega arith), away 129 (λ e. omega arith), away 130 (λ e. omega arith), away 131 (λ e. omega arith), away 132 (λ e. omega arith), away 133 (λ e. omega arith), away 134 (λ e. omega arith), away 135 (λ e. omega arith), away 136 (λ e. omega arith), away 137 (λ e. omega arith), away 138 (λ e. omega arith), away 139 (λ e. omega arith), away 140 (λ e. omega arith), away 141 (λ e. omega arith), away 142 (λ e. omega arith))
  where
    away : (j : ℕ) → (j ≡ i → ⊥) → get_or (set m i v) j 0 ≡ get_or m j 0
    away j n = get_or-set_other m i j v 0 n

module _ (m : List ℕ) (i v : ℕ) where
  pub config_set : i < 48 → core_of (set m i v) ≡ with_config (core_of m) (set (take 48 m) i v)
  config_set h = rw (take-set-lt 48 m i v h, drop-set-lt 48 m i v h, drop-set-lt 96 m i v (omega arith), low_control m i v (omega arith), pins_below m i v (omega arith))

module _ (m : List ℕ) (j v : ℕ) where
  pub tx_set : j < 48 → core_of (set m (48 + j) v) ≡ with_tx_bytes (core_of m) (set (take 48 (drop 48 m)) j v)
  tx_set h =
      rw (take-set-le 48 m (48 + j) v (omega arith), drop-set-add 48 m j v, take-set-lt 48 (drop 48 m) j v h, drop-set-lt 96 m (48 + j) v (omega arith), low_control m (48 + j) v (omega arith), pins_below m (48 + j) v (omega arith))

  pub rx_set : j < 32 → core_of (set m (96 + j) v) ≡ with_rx_bytes (core_of m) (set (take 32 (drop 96 m)) j v)
  rx_set h =
      rw (take-set-le 48 m (96 + j) v (omega arith), slice_above 48 48 m (96 + j) v (omega arith), drop-set-add 96 m j v, take-set-lt 32 (drop 96 m) j v h, low_control m (96 + j) v (omega arith), pins_below m (96 + j) v (omega arith))

-- ---- a byte from 128 on is none of config, tx and rx
pub high_kept : (c : Control) (p : Pins) (m : List ℕ) (i v : ℕ) → 128 ≤ i
    → with_pins (with_control (core_of (set m i v)) c) p ≡ with_pins (with_control (core_of m) c) p
high_kept c p m i v h = rw (take-set-le 48 m i v (omega arith), slice_above 48 48 m i v (omega arith), slice_above 96 32 m i v (omega arith))

-- .. and one below the pins none of them either
control_kept : (c : Control) (m : List ℕ) (i v : ℕ) → 128 ≤ i → i < pins_at → with_control (core_of (set m i v)) c ≡ with_control (core_of m) c
control_kept c m i v h q =
    ap (λ (p : Pins). with_pins (with_control (core_of (set m i v)) c) p) (pins_below m i v q) ∙ high_kept c (pins_of m) m i v h

-- ---- several control registers changed in place: b are the bytes now, and the others are as in m
pub record Marked (m n : List ℕ) (b : ℕ → ℕ) : Type 0 where
  pub size : length n ≡ image_size
  pub regs : bytes n ≡ b
  pub low : (c : Control) → with_control (core_of n) c ≡ with_control (core_of m) c
  pub rest : drop select_at n ≡ drop select_at m

pub unmarked : (m : List ℕ) → length m ≡ image_size → Marked m m (bytes m)
unmarked m e = record { size = e; regs = refl; low = λ c. refl; rest = refl }

pub mark_one : {m n : List ℕ} {b : ℕ → ℕ} → Marked m n b → (j v : ℕ) → 128 ≤ j → j < pins_at → Marked m (set n j v) (changed b j v)
mark_one {m} {n} {b} w j v p q =
    record {
      size = length-set n j v ∙ w.size;
      regs = bytes-set n j v (omega (arith, w.size)) ∙ ap (λ (f : ℕ → ℕ). changed f j v) w.regs;
      low = λ c. control_kept c n j v p q ∙ w.low c;
      rest = drop-set-lt select_at n j v (omega arith) ∙ w.rest;
    }

pub marked : {m n : List ℕ} {b : ℕ → ℕ} → Marked m n b → (c : Control) → decoded b ≡ c → Became m n (with_control (core_of m) c)
marked {m} {n} {b} w c e =
    record {
      size = w.size;
      core = ap (λ (d : Control). with_control (core_of n) d) (ap decoded w.regs ∙ e) ∙ w.low c;
      rest = w.rest;
    }

-- ---- a byte below 128 changed in place
pub became_low : (m : List ℕ) (i v : ℕ) (k : Core) → length m ≡ image_size → i < 128 → core_of (set m i v) ≡ k → Became m (set m i v) k
became_low m i v k e h p = record { size = length-set m i v ∙ e; core = p; rest = drop-set-lt select_at m i v (omega arith) }

-- ---- control registers put back: a run of stores
pub sets_kept : {A : Type 0} (f : List ℕ → A) (n : ℕ) → ((m : List ℕ) (i v : ℕ) → n ≤ i → f (set m i v) ≡ f m) → (m : List ℕ) (i : ℕ) (vs : List ℕ) → n ≤ i → f (sets m i vs) ≡ f m
sets_kept f n k m i [] h = refl
sets_kept f n k m i (v ∷ vs) h = sets_kept f n k (set m i v) (suc i) vs (omega arith) ∙ k m i v h

pub drop-sets : (m : List ℕ) (n i : ℕ) (vs : List ℕ) → drop n (sets m (n + i) vs) ≡ sets (drop n m) i vs
drop-sets m n i [] = refl
drop-sets m n i (v ∷ vs) = rw (← add-suc n i, ← drop-set-add n m i v) (drop-sets (set m (n + i) v) n (suc i) vs)

pub drop_past : (m : List ℕ) (n i : ℕ) (vs : List ℕ) → i + length vs ≤ n → drop n (sets m i vs) ≡ drop n m
drop_past m n i [] h = refl
drop_past m n i (v ∷ vs) h = drop_past (set m i v) n (suc i) vs (omega arith) ∙ drop-set-lt n m i v (omega arith)

-- .. of which none is a pin
put_kept : (c : Control) (m : List ℕ) (i : ℕ) (vs : List ℕ) → 128 ≤ i → i + length vs ≤ pins_at → with_control (core_of (sets m i vs)) c ≡ with_control (core_of m) c
put_kept c m i [] h q = refl
put_kept c m i (v ∷ vs) h q = put_kept c (set m i v) (suc i) vs (omega arith) (omega arith) ∙ control_kept c m i v h (omega arith)

-- the control registers by the bytes from 128 on
from_there : (m : List ℕ) → control_of m ≡ decoded (λ i. get_or (drop 128 m) (i - 128) 0)
unfolding decoded
from_there m = simp get_or-drop

control_back : (c : Control) (rest : List ℕ) → decoded (λ i. get_or (encoded c ++ rest) (i - 128) 0) ≡ c
unfolding decoded encoded
control_back c rest =
    let tec : c.counters.tec % 256 + c.counters.tec / 256 * 256 ≡ c.counters.tec = omega arith in
    simp (tec, mode_back, flight_back, request_back)

room : (c : Control) → length (encoded c) ≡ 15
unfolding encoded
room c = refl

pub put_core : (m : List ℕ) (c : Control) → length m ≡ image_size → Became m (sets m 128 (encoded c)) (with_control (core_of m) c)
put_core m c e =
    record {
      size = length-sets m 128 (encoded c) ∙ e;
      core =
          ap (λ (d : Control). with_control (core_of (sets m 128 (encoded c))) d) back
          ∙ put_kept c m 128 (encoded c) (omega arith) (omega (arith, room c));
      rest = drop_past m select_at 128 (encoded c) (omega (arith, room c));
    }
  where
    back : control_of (sets m 128 (encoded c)) ≡ c
    back =
        from_there (sets m 128 (encoded c))
        ∙ rw (drop-sets m 128 0 (encoded c), sets-eq (encoded c) (drop 128 m) 0 (omega (arith, room c, length-drop 128 m))) (control_back c _)

-- ---- the level of a pin put in
level_back : (high : Bool) → not (eqb (level_byte high) 0) ≡ high
level_back true = refl
level_back false = refl

pins_set : (m : List ℕ) (b : TxBuffer) (high : Bool) → length m ≡ image_size
    → pins_of (set m (pins_at + tx_number b) (level_byte high)) ≡ with_level (pins_of m) b high
pins_set m Txb0 high e =
    rw (get_or-set_same m 143 (level_byte high) 0 (omega (arith, e)), get_or-set_other m 143 144 (level_byte high) 0 (λ z. omega arith), get_or-set_other m 143 145 (level_byte high) 0 (λ z. omega arith), level_back high)
pins_set m Txb1 high e =
    rw (get_or-set_same m 144 (level_byte high) 0 (omega (arith, e)), get_or-set_other m 144 143 (level_byte high) 0 (λ z. omega arith), get_or-set_other m 144 145 (level_byte high) 0 (λ z. omega arith), level_back high)
pins_set m Txb2 high e =
    rw (get_or-set_same m 145 (level_byte high) 0 (omega (arith, e)), get_or-set_other m 145 143 (level_byte high) 0 (λ z. omega arith), get_or-set_other m 145 144 (level_byte high) 0 (λ z. omega arith), level_back high)

pub tx_below : (b : TxBuffer) → tx_number b < 3
tx_below Txb0 = lit< tt
tx_below Txb1 = lit< tt
tx_below Txb2 = lit< tt

-- a byte behind the control registers is none of them
pub behind_control : (m : List ℕ) (i v : ℕ) → 142 < i → control_of (set m i v) ≡ control_of m
unfolding decoded
behind_control m i v h = simp (away 128 (omega arith), away 129 (omega arith), away 130 (omega arith), away 131 (omega arith), away 132 (omega arith), away 133 (omega arith), away 134 (omega arith), away 135 (omega arith), away 136 (omega arith), away 137 (omega arith), away 138 (omega arith), away 139 (omega arith), away 140 (omega arith), away 141 (omega arith), away 142 (omega arith))
  where
    away : (j : ℕ) → j < 143 → get_or (set m i v) j 0 ≡ get_or m j 0
    away j p = get_or-set_other m i j v 0 (λ e. omega arith)

pub pin_put : (m : List ℕ) (b : TxBuffer) (high : Bool) → length m ≡ image_size
    → Became m (set m (pins_at + tx_number b) (level_byte high)) (with_pins (core_of m) (with_level (pins_of m) b high))
pin_put m b high e =
    let i : ℕ = pins_at + tx_number b in
    let v : ℕ = level_byte high in
    record {
      size = length-set m i v ∙ e;
      core =
          ap (λ (c : Control). with_control (core_of (set m i v)) c) (behind_control m i v (omega arith))
          ∙ ap (λ (p : Pins). with_pins (with_control (core_of (set m i v)) (control_of m)) p) (pins_set m b high e)
          ∙ high_kept (control_of m) (with_level (pins_of m) b high) m i v (omega arith);
      rest = drop-set-lt select_at m i v (omega (arith, tx_below b));
    }

-- ---- one change after another: what the second does to the core that the first left
pub followed : {m n p : List ℕ} {k : Core} (f : Core → Core) → Became m n k → Became n p (f (core_of n)) → Became m p (f k)
followed {m} {n} {p} {k} f x y = record { size = y.size; core = y.core ∙ ap f x.core; rest = y.rest ∙ x.rest }

-- the three levels put in one after the other
pub pins_in : {m n p q : List ℕ} (x y z : Bool) → Became m n (with_pins (core_of m) (with_level (pins_of m) Txb0 x))
    → Became n p (with_pins (core_of n) (with_level (pins_of n) Txb1 y)) → Became p q (with_pins (core_of p) (with_level (pins_of p) Txb2 z))
    → Became m q (with_pins (core_of m) (record { tx0rts = x; tx1rts = y; tx2rts = z }))
pins_in x y z a b c =
    let two = followed (λ (k : Core). with_pins k (with_level k.pins Txb1 y)) a b in
    followed (λ (k : Core). with_pins k (with_level k.pins Txb2 z)) two c

-- ---- RESET of the bytes before i, with the rest as it was
abbrev pub reset_to : ℕ → List ℕ → List ℕ
reset_to i m = kept_from 0 (take i m) ++ drop i m

front : (i : ℕ) (m : List ℕ) → i ≤ length m → length (kept_from 0 (take i m)) ≡ i
front i m h = kept_length 0 (take i m) ∙ length-take-le i m h

pub reset_byte : (i : ℕ) (m : List ℕ) → i < length m → get_or (reset_to i m) i 0 ≡ get_or m i 0
reset_byte i m h =
    ap (λ (r : List ℕ). get_or (kept_from 0 (take i m) ++ r) i 0) (drop-cons m i 0 h)
    ∙ get_or_at (kept_from 0 (take i m)) (get_or m i 0) (drop (suc i) m) 0 i (front i m (omega arith))

pub reset_more : (i : ℕ) (m : List ℕ) → i < length m → set (reset_to i m) i (cond (is_kept (region_of i)) (get_or m i 0) 0) ≡ reset_to (suc i) m
reset_more i m h =
    let v : ℕ = cond (is_kept (region_of i)) (get_or m i 0) 0 in
    let long : length (take i m) ≡ i = length-take-le i m (omega arith) in
    let grown : kept_from 0 (take (suc i) m) ≡ kept_from 0 (take i m) ++ (v ∷ []) =
    ap (kept_from 0) (take-suc m i 0 h)
    ∙ kept_snoc 0 (take i m) (get_or m i 0)
    ∙ ap (λ (n : ℕ). kept_from 0 (take i m) ++ (cond (is_kept (region_of n)) (get_or m i 0) 0 ∷ [])) (zero-add (length (take i m)) ∙ long) in
    ap (λ (r : List ℕ). set (kept_from 0 (take i m) ++ r) i v) (drop-cons m i 0 h)
    ∙ set_at (kept_from 0 (take i m)) (get_or m i 0) (drop (suc i) m) v i (front i m (omega arith))
    ∙ sym (append_snoc (kept_from 0 (take i m)) v (drop (suc i) m))
    ∙ ap (λ (r : List ℕ). r ++ drop (suc i) m) (sym grown)

-- a part that ends before n is the part of the first n
part_of_take : (a n t : ℕ) (l : List ℕ) → a + n ≤ t → take n (drop a (take t l)) ≡ take n (drop a l)
part_of_take zero n t l h = take-take n t l (omega arith)
part_of_take (suc a) n zero l h = absurd (omega arith)
part_of_take (suc a) n (suc t) [] h = refl
part_of_take (suc a) n (suc t) (x ∷ xs) h = part_of_take a n t xs (omega arith)

reset_part : (m : List ℕ) → length m ≡ image_size → (n a : ℕ) → a + n ≤ 128 → take n (drop a (reset_to 128 m)) ≡ kept_from a (take n (drop a m))
reset_part m e n a h =
    let k : List ℕ = kept_from 0 (take 128 m) in
    let long : length k ≡ 128 = front 128 m (omega (arith, e)) in
    let rest : n ≤ length (drop a k) = rw length-drop (omega (arith, long)) in
    ap (take n) (drop-append-le a k (drop 128 m) (omega (arith, long)))
    ∙ take-append-le n (drop a k) (drop 128 m) rest
    ∙ ap (take n) (kept_drop a 0 (take 128 m))
    ∙ ap (λ (b : ℕ). take n (kept_from b (drop a (take 128 m)))) (zero-add a)
    ∙ kept_take n a (drop a (take 128 m))
    ∙ ap (kept_from a) (part_of_take a n 128 m h)

-- with these bytes and the first control registers put in, the core is that of RESET
pub reset_core_lem : (m n p : List ℕ) (c : Control) → length m ≡ image_size → n ≡ reset_to 128 m → c ≡ first_control
    → Became n p (with_control (core_of n) c) → Became m p (reset_core (core_of m))
unfolding reset_core
reset_core_lem m n p c e q f b =
    let k : List ℕ = kept_from 0 (take 128 m) in
    let size : length (reset_to 128 m) ≡ image_size = length_front m k 128 (kept_length 0 (take 128 m)) ∙ e in
    let behind : drop 128 (reset_to 128 m) ≡ drop 128 m = drop_at k (drop 128 m) 128 (front 128 m (omega (arith, e))) in
    let pin : (i : ℕ) → get_or (reset_to 128 m) (128 + i) 0 ≡ get_or m (128 + i) 0 =
    λ i. sym (get_or-drop 128 (reset_to 128 m) i 0) ∙ ap (λ (l : List ℕ). get_or l i 0) behind ∙ get_or-drop 128 m i 0 in
    record {
      size = b.size;
      core = b.core ∙ rw (q, f, reset_part m e 48 0 (omega arith), reset_part m e 48 48 (omega arith), reset_part m e 32 96 (omega arith), pin 15, pin 16, pin 17) refl;
      rest = b.rest ∙ ap (drop select_at) q ∙ sym (drop-drop 18 128 (reset_to 128 m)) ∙ ap (drop 18) behind ∙ drop-drop 18 128 m;
    }

-- ---- a request for nothing is not carried out
unrequested : (n : ℕ) → 7 ≤ n → requested n ≡ None
unrequested n h =
    simp (ne_eqb n 0 (λ e. omega arith), ne_eqb n 1 (λ e. omega arith), ne_eqb n 2 (λ e. omega arith), ne_eqb n 3 (λ e. omega arith), ne_eqb n 4 (λ e. omega arith))

settled_idle : (m : List ℕ) → 7 ≤ get_or m 142 0 → settled (control_of m) ≡ control_of m
unfolding settled decoded
settled_idle m h = rw (unrequested (get_or m 142 0) h)

pub no_request : (m : List ℕ) → length m ≡ image_size → 7 ≤ get_or m 142 0 → Became m m (with_control (core_of m) (settled (control_of m)))
no_request m e h = record { size = e; core = ap (λ (c : Control). with_control (core_of m) c) (sym (settled_idle m h)); rest = refl }

-- ---- the control registers taken out, passed through f and put back
pub changed_by : {m n : List ℕ} {c d : Control} (f : Control → Control) → c ≡ control_of m → d ≡ f c
    → Became m n (with_control (core_of m) d) → Became m n (with_control (core_of m) (f (control_of m)))
changed_by {m} {n} f a p w = subst (λ (x : Control). Became m n (with_control (core_of m) x)) (p ∙ ap f a) w

-- ---- bytes that are a chip
both : (a b : Bool) → a && b ≡ true → (a ≡ true) × (b ≡ true)
both true true e = (refl, refl)
both true false e = (refl, e)
both false b e = (e, absurd (clash e))
  where
    clash : false ≡ true → ⊥
    clash q = let z : ◌≡◌ {A = ℕ} 0 1 = ap (λ (x : Bool). cond x 1 0) q in omega arith

pub chip_size : (m : List ℕ) → is_chip m ≡ true → length m ≡ image_size
unfolding is_chip
chip_size m e = eqb-true (length m) image_size (both (eqb (length m) image_size) (eqb (get_or m version_at 0) version) e).0

-- an image with the spare bytes of a chip, the version among them, is a chip
pub chip_again : (m n : List ℕ) → length n ≡ image_size → drop 150 n ≡ drop 150 m → is_chip m ≡ true → is_chip n ≡ true
unfolding is_chip
chip_again m n size spare e =
    let same : get_or n version_at 0 ≡ get_or m version_at 0 = sym (get_or-drop 150 n 1 0) ∙ ap (λ (l : List ℕ). get_or l 1 0) spare ∙ get_or-drop 150 m 1 0 in
    rw (same, size, (both (eqb (length m) image_size) (eqb (get_or m version_at 0) version) e).1)
