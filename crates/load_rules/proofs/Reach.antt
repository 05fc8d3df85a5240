-- Mode and mode request while the loader waits for Configuration, and once it is there: whatever the bus does, and by its own requests.
-- Assumes nothing.
use mathlib.Core.Path.{◌≡◌, refl, sym, ap, ◌∙◌}
use mathlib.Core.Bool.{true, false, cond}
use mathlib.Core.List.{List}
use Rattle.std.specs.Prelude.{Option, Some, None}
use Prim.Native.Nat.{ℕ, ◌+◌, ◌*◌, ◌/◌, ◌<◌}
use native.Mathlib.Omega.{arith}
use lib.Dec.{eqb, lit<}
use lib.Bits.{bit_and}
use Rattle.bits.specs.Bit.{has_bit}
use Rattle.records.specs.Records.{accepted, kind_of}
use Rattle.registers.specs.declared.Mode.{Mode}
use Rattle.registers.specs.declared.Mode.TheVariants.{Normal, Sleep, Loopback, ListenOnly, Configuration}
use Rattle.registers.specs.declared.RxBuffer.{RxBuffer}
use Rattle.registers.specs.declared.Flags.{Flags}
use Rattle.registers.specs.declared.RxControl.{RxControl}
use Rattle.registers.specs.declared.Control.{Control}
use Rattle.registers.specs.declared.Core.{Core}
use Rattle.registers.specs.State.{abat_bit, mode_number, with_request}
use Rattle.registers.specs.Registers.{rx_control, receive_bits}
use Rattle.registers.specs.Modes.{request_in, sends_in, entered, free_to_change, settled_by, settled}
use Rattle.stores.specs.Store.{aborted, canctrl_held, canctrl_stored}
use Rattle.controller.specs.Events.{Told, happens_by, event_refusal, told_of, refused_by, event_of}
use Rattle.spi.proofs.Clash.{clash}
use Rattle.mcp2515.proofs.CoreKept.{either}
use Rattle.load_rules.proofs.Quiet.{Quiet, happens_quiet}

-- ---- in this mode with no request left
pub record Home (m : Mode) (c : Control) : Type 0 where
  pub mode : c.state.mode ≡ m
  pub request : c.state.request ≡ None

-- in this mode, which sends, with Configuration asked for
pub record Pending (m : Mode) (c : Control) : Type 0 where
  pub mode : c.state.mode ≡ m
  pub request : c.state.request ≡ Some Configuration
  pub sends : sends_in m ≡ true

pub data Reach (m : Mode) (c : Control) : Type 0 where
  there : Home Configuration c → Reach m c
  waiting : Pending m c → Reach m c

-- ---- the last act of a step
pub settle_none : (c : Control) → c.state.request ≡ None → settled c ≡ c
unfolding settled
settle_none c e = ap (λ (q : Option Mode). settled_by q c) e

pub settle_home : {m : Mode} (c : Control) → Home m c → Home m (settled c)
settle_home c h = rw (settle_none c h.request) h

wanted_by : (c : Control) (m : Mode) → c.state.request ≡ Some m → settled c ≡ cond (free_to_change c) (entered (with_request c None) m) c
unfolding settled
wanted_by c m e = ap (λ (q : Option Mode). settled_by q c) e

pub settle_reach : {m : Mode} (c : Control) → Reach m c → Reach m (settled c)
unfolding entered
settle_reach c (there h) = there (settle_home c h)
settle_reach {m = m} c (waiting p) =
    rw (wanted_by c Configuration p.request)
    (either (λ (d : Control). Reach m d) (free_to_change c) (there (record { mode = refl; request = refl })) (waiting p))

-- .. moves neither CANCTRL nor RXBnCTRL
pub settle_flags : (c : Control) → (settled c).flags ≡ c.flags
unfolding settled entered
settle_flags c = go c.state.request
  where
    go : (q : Option Mode) → (settled_by q c).flags ≡ c.flags
    go None = refl
    go (Some m) = either (λ (d : Control). d.flags ≡ c.flags) (free_to_change c) {x = entered (with_request c None) m} {y = c} refl refl

pub settle_rx : (c : Control) → (settled c).rx ≡ c.rx
unfolding settled entered
settle_rx c = go c.state.request
  where
    go : (q : Option Mode) → (settled_by q c).rx ≡ c.rx
    go None = refl
    go (Some m) = either (λ (d : Control). d.rx ≡ c.rx) (free_to_change c) {x = entered (with_request c None) m} {y = c} refl refl

-- ---- an event
awake : {m : Mode} → sends_in m ≡ true → m ≡ Sleep → ⊥
awake s e = clash (sym (rw e at s))

not_asleep : {m : Mode} → Configuration ≡ m → m ≡ Sleep → ⊥
not_asleep e f = clash (ap (λ (m : Mode). eqb (mode_number m) 4) (e ∙ f))

quiet_there : (c d : Control) → Quiet c d → Home Configuration c → Home Configuration d
quiet_there c d q h = record { mode = q.mode (not_asleep (sym h.mode)) ∙ h.mode; request = q.request ∙ h.request }

quiet_reach : {m : Mode} (c d : Control) → Quiet c d → Reach m c → Reach m d
quiet_reach c d q (there h) = there (quiet_there c d q h)
quiet_reach c d q (waiting p) =
    waiting (record { mode = q.mode (λ e. awake p.sends (sym p.mode ∙ e)) ∙ p.mode; request = q.request ∙ p.request; sends = p.sends })

-- of an event, a fact of what happens that settling keeps
by_event : (P : Control → Type 0) (k : Core) (r : List ℕ) → P (settled (happens_by (kind_of r) k r).core.control) → P k.control
    → P (event_of k r).core.control
unfolding event_of
by_event P k r p q =
    either (λ (t : Told). P t.core.control) (eqb (event_refusal k.control r) accepted)
    {x = told_of (happens_by (kind_of r) k r)} {y = refused_by (event_refusal k.control r) k} p q

pub event_there : (k : Core) (r : List ℕ) → Home Configuration k.control → Home Configuration (event_of k r).core.control
event_there k r h =
    by_event (λ (d : Control). Home Configuration d) k r
    (settle_home (happens_by (kind_of r) k r).core.control (quiet_there k.control _ (happens_quiet (kind_of r) k r) h)) h

-- CANCTRL, and the writable bits of RXBnCTRL
pub event_canctrl : (k : Core) (r : List ℕ) → (event_of k r).core.control.flags.canctrl ≡ k.control.flags.canctrl
event_canctrl k r =
    by_event (λ (d : Control). d.flags.canctrl ≡ k.control.flags.canctrl) k r
    (ap (λ (f : Flags). f.canctrl) (settle_flags (happens_by (kind_of r) k r).core.control) ∙ (happens_quiet (kind_of r) k r).canctrl) refl

pub event_receive : (k : Core) (r : List ℕ) (b : RxBuffer)
    → bit_and (rx_control (event_of k r).core.control.rx b) (receive_bits b) ≡ bit_and (rx_control k.control.rx b) (receive_bits b)
event_receive k r b =
    by_event (λ (d : Control). bit_and (rx_control d.rx b) (receive_bits b) ≡ bit_and (rx_control k.control.rx b) (receive_bits b)) k r
    (ap (λ (x : RxControl). bit_and (rx_control x b) (receive_bits b)) (settle_rx (happens_by (kind_of r) k r).core.control) ∙ (happens_quiet (kind_of r) k r).receive b)
    refl

pub event_reach : {m : Mode} (k : Core) (r : List ℕ) → Reach m k.control → Reach m (event_of k r).core.control
event_reach {m = m} k r h =
    by_event (λ (d : Control). Reach m d) k r
    (settle_reach (happens_by (kind_of r) k r).core.control (quiet_reach k.control _ (happens_quiet (kind_of r) k r) h)) h

-- ---- a store into CANCTRL
module _ (c : Control) (v : ℕ) where
  by_abat : (P : Control → Type 0) → P (aborted (canctrl_held c v)) → P (canctrl_held c v) → P (canctrl_stored c v)
  unfolding canctrl_stored
  by_abat P p q = either P (has_bit v abat_bit) p q

  pub canctrl_held_lem : (canctrl_stored c v).flags.canctrl ≡ v
  unfolding aborted
  canctrl_held_lem = by_abat (λ (d : Control). d.flags.canctrl ≡ v) refl refl

  pub canctrl_rx : (canctrl_stored c v).rx ≡ c.rx
  unfolding aborted
  canctrl_rx = by_abat (λ (d : Control). d.rx ≡ c.rx) refl refl

  canctrl_mode : (canctrl_stored c v).state.mode ≡ c.state.mode
  unfolding aborted
  canctrl_mode = by_abat (λ (d : Control). d.state.mode ≡ c.state.mode) refl refl

  canctrl_request : (canctrl_stored c v).state.request ≡ request_in c.state.mode (v / 32)
  unfolding aborted
  canctrl_request = by_abat (λ (d : Control). d.state.request ≡ request_in c.state.mode (v / 32)) refl refl

-- ---- a mode is asked for, with l in the other bits of CANCTRL
abbrev pub ask_for : ℕ → Mode → ℕ
ask_for l m = l + mode_number m * 32

pub small : (m : Mode) → mode_number m < 8
small Normal = lit< tt
small Sleep = lit< tt
small Loopback = lit< tt
small ListenOnly = lit< tt
small Configuration = lit< tt

asked_number : (l : ℕ) (m : Mode) → l < 32 → ask_for l m / 32 ≡ mode_number m
asked_number l m h = omega (arith, h)

module _ (c : Control) (l : ℕ) (m : Mode) (h : l < 32) where
  -- the request that it leaves
  asked_request : (canctrl_stored c (ask_for l m)).state.request ≡ request_in c.state.mode (mode_number m)
  asked_request = canctrl_request c (ask_for l m) ∙ ap (request_in c.state.mode) (asked_number l m h)

  -- the present mode is asked for
  asked_same : c.state.mode ≡ m → Home m (settled (canctrl_stored c (ask_for l m)))
  asked_same e =
      settle_home (canctrl_stored c (ask_for l m)) (record {
        mode = canctrl_mode c (ask_for l m) ∙ e;
        request = asked_request ∙ ap (λ (n : Mode). request_in n (mode_number m)) e ∙ own m;
      })
    where
      own : (n : Mode) → request_in n (mode_number n) ≡ None
      own Normal = refl
      own Sleep = refl
      own Loopback = refl
      own ListenOnly = refl
      own Configuration = refl

  -- another mode is asked for, and either entered or waited for
  module _ (e : request_in c.state.mode (mode_number m) ≡ Some m) where
    asked_other : settled (canctrl_stored c (ask_for l m))
        ≡ cond (free_to_change (canctrl_stored c (ask_for l m))) (entered (with_request (canctrl_stored c (ask_for l m)) None) m) (canctrl_stored c (ask_for l m))
    asked_other = wanted_by (canctrl_stored c (ask_for l m)) m (asked_request ∙ e)

    asked_free : sends_in c.state.mode ≡ false → Home m (settled (canctrl_stored c (ask_for l m)))
    unfolding entered free_to_change
    asked_free s = rw (asked_other, canctrl_mode c (ask_for l m), s) (record { mode = refl; request = refl })

-- from Configuration any mode is reached at once
pub back_there : (c : Control) (l : ℕ) (m : Mode) → l < 32 → Home Configuration c → Home m (settled (canctrl_stored c (ask_for l m)))
back_there c l Normal h p = asked_free c l Normal h (rw p.mode) (rw p.mode)
back_there c l Sleep h p = asked_free c l Sleep h (rw p.mode) (rw p.mode)
back_there c l Loopback h p = asked_free c l Loopback h (rw p.mode) (rw p.mode)
back_there c l ListenOnly h p = asked_free c l ListenOnly h (rw p.mode) (rw p.mode)
back_there c l Configuration h p = asked_same c l Configuration h p.mode

-- .. and where the loader still waits in the mode at the start, its request is taken back
pub back_home : (c : Control) (l : ℕ) (m : Mode) → l < 32 → Reach m c → Home m (settled (canctrl_stored c (ask_for l m)))
back_home c l m h (there p) = back_there c l m h p
back_home c l m h (waiting p) = asked_same c l m h p.mode

-- Configuration is asked for in any mode
pub ask_reach : (c : Control) (l : ℕ) (m : Mode) → l < 32 → c.state.mode ≡ m → Reach m (settled (canctrl_stored c (ask_for l Configuration)))
unfolding entered
ask_reach c l m h e = go m e
  where
    d : Control
    d = canctrl_stored c (ask_for l Configuration)

    wait : (n : Mode) → c.state.mode ≡ n → request_in c.state.mode (mode_number Configuration) ≡ Some Configuration → sends_in n ≡ true
        → Reach n (settled d)
    wait n e w s =
        rw (asked_other c l Configuration h w)
        (either (λ (x : Control). Reach n x) (free_to_change d) {x = entered (with_request d None) Configuration} {y = d}
        (there (record { mode = refl; request = refl }))
        (waiting (record { mode = canctrl_mode c (ask_for l Configuration) ∙ e; request = asked_request c l Configuration h ∙ w; sends = s })))

    go : (n : Mode) → c.state.mode ≡ n → Reach n (settled d)
    go Normal e = wait Normal e (rw e) refl
    go Sleep e = there (asked_free c l Configuration h (rw e) (rw e))
    go Loopback e = wait Loopback e (rw e) refl
    go ListenOnly e = there (asked_free c l Configuration h (rw e) (rw e))
    go Configuration e = there (asked_same c l Configuration h e)
