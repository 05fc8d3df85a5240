-- Receiving leaves the counters. Assumes nothing.
use mathlib.Core.Path.{◌≡◌, refl}
use mathlib.Core.Bool.{Bool}
use Rattle.records.specs.declared.Frame.{Frame}
use Rattle.registers.specs.declared.Control.{Control}
use Rattle.registers.specs.declared.Core.{Core}
use Rattle.registers.specs.declared.RxBuffer.TheVariants.{Rxb0, Rxb1}
use Rattle.receiving.specs.declared.Verdict.{Verdict}
use Rattle.receiving.specs.declared.Verdict.TheVariants.{Unmatched, Stored, RolledOver, Lost}
use Rattle.receiving.specs.Receiving.{verdict_of, match_of, control_after, received_of}

after_counters : (v : Verdict) (c : Control) (remote : Bool) → (control_after v c remote).counters ≡ c.counters
after_counters Unmatched c remote = refl
after_counters (Stored Rxb0 h) c remote = refl
after_counters (Stored Rxb1 h) c remote = refl
after_counters (RolledOver h) c remote = refl
after_counters (Lost b) c remote = refl

pub received_counters : (k : Core) (f : Frame) → (received_of k f).core.control.counters ≡ k.control.counters
unfolding received_of match_of
received_counters k f = after_counters (verdict_of k.control k.config f) k.control f.remote
