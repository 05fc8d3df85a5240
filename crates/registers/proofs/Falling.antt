-- A counter that falls raises no error flag: REC with a good frame, TEC with one that was sent. Assumes nothing.
use mathlib.Core.Path.{◌≡◌, refl}
use mathlib.Core.Bool.{Bool, true, false, cond, not, ◌&&◌, ◌||◌}
use Prim.Native.Nat.{ℕ, ◌-◌, ◌<◌, ◌≤◌}
use native.Mathlib.Omega.{arith}
use lib.Dec.{T, ltb, leb}
use lib.Bits.{bit_or}
use borrow.Author.Tests.{ltb-true, ltb-false, leb-true, le-leb, lt-leb}
use Rattle.bits.proofs.All.{and_left, and_right}
use Rattle.registers.specs.declared.Counters.{Counters}
use Rattle.registers.specs.declared.Control.{Control}
use Rattle.registers.specs.State.{with_counters}
use Rattle.registers.specs.Errors.{error_flags, rises, moved_to, tec_less, rec_less}

-- ---- the error flags by their five tests
abbrev flags_by : Bool → Bool → Bool → Bool → Bool → ℕ
flags_by off passive heard warned near =
    bit_or (cond off 0x20 0)
    (bit_or (cond passive 0x10 0)
    (bit_or (cond heard 0x08 0)
    (bit_or (cond warned 0x04 0)
    (bit_or (cond near 0x02 0)
    (cond (warned || near) 0x01 0)))))

-- no flag rises where RXEP goes and RXWAR stays or goes: so in each of the 64 cases
abbrev calm : Bool → Bool → Bool → Bool → Bool → Bool → Bool
calm a b c d e f = not (rises (flags_by a b c d e) (flags_by a b false d (f && e)))

abbrev both : (Bool → Bool) → Bool
both p = p true && p false

each : (p : Bool → Bool) → T (both p) → (b : Bool) → T (p b)
each p t true = and_left (p true) (p false) t
each p t false = and_right (p true) (p false) t

calm_always : (a b c d e f : Bool) → T (calm a b c d e f)
calm_always a b c d e f =
    each (λ f. calm a b c d e f)
    (each (λ e. both (λ f. calm a b c d e f))
    (each (λ d. both (λ e. both (λ f. calm a b c d e f)))
    (each (λ c. both (λ d. both (λ e. both (λ f. calm a b c d e f))))
    (each (λ b. both (λ c. both (λ d. both (λ e. both (λ f. calm a b c d e f)))))
    (each (λ a. both (λ b. both (λ c. both (λ d. both (λ e. both (λ f. calm a b c d e f)))))) tt a)
    b) c) d) e) f

unrisen : (b : Bool) → T (not b) → b ≡ false
unrisen true t = absurd t
unrisen false t = refl

-- ---- REC after a good frame is below 128, and not above what it was
abbrev fallen : ℕ → ℕ
fallen r = cond (ltb 127 r) 127 (r - 1)

lower : (r : ℕ) → (fallen r < 128) × (fallen r ≤ r)
lower r = go (ltb 127 r) refl
  where
    go : (b : Bool) → ltb 127 r ≡ b → (cond b 127 (r - 1) < 128) × (cond b 127 (r - 1) ≤ r)
    go true e = let h : 127 < r = ltb-true 127 r e in (omega arith, omega arith)
    go false e = let h : r ≤ 127 = ltb-false 127 r e in (omega arith, omega arith)

near_falls : (r : ℕ) → leb 96 (fallen r) ≡ leb 96 (fallen r) && leb 96 r
near_falls r = go (leb 96 (fallen r)) refl
  where
    go : (b : Bool) → leb 96 (fallen r) ≡ b → b ≡ b && leb 96 r
    go true e =
        let h : 96 ≤ fallen r = leb-true 96 (fallen r) e in
        rw (le-leb 96 r (omega (arith, (lower r).1)))
    go false e = refl

falling_flags : (n : Counters) → rises (error_flags n) (error_flags (rec_less n)) ≡ false
unfolding error_flags
falling_flags n =
    let t : ℕ = n.tec in
    let r : ℕ = n.rec in
    rw (lt-leb 128 (fallen r) (lower r).0, near_falls r)
    (unrisen _ (calm_always (leb 256 t) (leb 128 t) (leb 128 r) (leb 96 t) (leb 96 r) (leb 96 (fallen r))))

pub falling : (c : Control) → moved_to c (rec_less c.counters) ≡ with_counters c (rec_less c.counters)
unfolding moved_to
falling c = rw (falling_flags c.counters)

-- ---- TEC after a frame that was sent is not above what it was, so that no flag rises: so in each of the 256 cases
abbrev calm_sent : Bool → Bool → Bool → Bool → Bool → Bool → Bool → Bool → Bool
calm_sent a b c d e x y z = not (rises (flags_by a b c d e) (flags_by (x && a) (y && b) c (z && d) e))

calm_sent_always : (a b c d e x y z : Bool) → T (calm_sent a b c d e x y z)
calm_sent_always a b c d e x y z =
    each (λ z. calm_sent a b c d e x y z)
    (each (λ y. both (λ z. calm_sent a b c d e x y z))
    (each (λ x. both (λ y. both (λ z. calm_sent a b c d e x y z)))
    (each (λ e. both (λ x. both (λ y. both (λ z. calm_sent a b c d e x y z))))
    (each (λ d. both (λ e. both (λ x. both (λ y. both (λ z. calm_sent a b c d e x y z)))))
    (each (λ c. both (λ d. both (λ e. both (λ x. both (λ y. both (λ z. calm_sent a b c d e x y z))))))
    (each (λ b. both (λ c. both (λ d. both (λ e. both (λ x. both (λ y. both (λ z. calm_sent a b c d e x y z)))))))
    (each (λ a. both (λ b. both (λ c. both (λ d. both (λ e. both (λ x. both (λ y. both (λ z. calm_sent a b c d e x y z)))))))) tt a)
    b) c) d) e) x) y) z

less_passes : (n t : ℕ) → leb n (t - 1) ≡ leb n (t - 1) && leb n t
less_passes n t = go (leb n (t - 1)) refl
  where
    go : (b : Bool) → leb n (t - 1) ≡ b → b ≡ b && leb n t
    go true e =
        let h : n ≤ t - 1 = leb-true n (t - 1) e in
        rw (le-leb n t (omega arith))
    go false e = refl

sent_flags : (n : Counters) → rises (error_flags n) (error_flags (tec_less n)) ≡ false
unfolding error_flags
sent_flags n =
    let t : ℕ = n.tec in
    let r : ℕ = n.rec in
    rw (less_passes 256 t, less_passes 128 t, less_passes 96 t)
    (unrisen _ (calm_sent_always (leb 256 t) (leb 128 t) (leb 128 r) (leb 96 t) (leb 96 r) (leb 256 (t - 1)) (leb 128 (t - 1)) (leb 96 (t - 1))))

pub sent_falling : (c : Control) → moved_to c (tec_less c.counters) ≡ with_counters c (tec_less c.counters)
unfolding moved_to
sent_falling c = rw (sent_flags c.counters)
