-- The laws of the loader together. Assumes nothing.
use mathlib.Core.Path.{ap, ◌∙◌}
use Prim.Native.Nat.{ℕ}
use lib.Bits.{bit_and}
use native.Mathlib.Omega.{arith}
use Rattle.mcp2515.specs.Step.{power_on, chip_after}
use Rattle.mcp2515.proofs.Reached.{settled_reached}
use Rattle.load_machine.specs.Profile.{bits_of}
use Rattle.load_rules.specs.Load.{load_of}
use Rattle.load_rules.specs.Laws.{HeldStays, ReachedLoads, LoadLaws}
use Rattle.load_rules.proofs.Loads.{command_counts, refused_loads, accepted_loads}
use Rattle.load_rules.proofs.Stays.{commands_keep, profile_stays}
use Rattle.load_rules.proofs.Sizes.{whole_reached}

held_stays : HeldStays
held_stays c p g whole ok read rs i h spared =
    ap (λ (x : ℕ). bit_and x (bits_of i)) (profile_stays (load_of c p g).chip rs i h spared) ∙ (accepted_loads c p g whole ok).held read i (omega arith)

reached_loads : ReachedLoads
reached_loads rs p g ok = (accepted_loads (chip_after power_on rs) p g (whole_reached rs) ok, settled_reached rs)

pub load_laws : LoadLaws
load_laws =
    record {
      refused = refused_loads;
      accepted = accepted_loads;
      counts = command_counts;
      keep = commands_keep;
      stay = profile_stays;
      held_stay = held_stays;
      reached = reached_loads;
    }
