-- Demand 3 of the rules, for however many bytes past the last of RESET, RTS, BIT MODIFY and an unknown code are let in. Assumes nothing.
use Prim.Native.Nat.{ℕ}
use Rattle.mcp2515.specs.Moments.{Demand3For, Demand3}
use Rattle.mcp2515.proofs.CoreLaws.{facts}
use Rattle.mcp2515.proofs.Session.{demand_3_from}

pub demand_3_for : (extra : ℕ) → Demand3For extra
demand_3_for extra = demand_3_from facts extra

pub demand_3 : Demand3
demand_3 = demand_3_for 0
