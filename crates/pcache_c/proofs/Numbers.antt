-- The numbers of refusals.
use Rattle.std.proofs.Common.{ℕ, ◌≤◌, ◌<◌, arith}
use Rattle.pc_types.specs.Refusals.{refusal_number}
use Rattle.pc_types.specs.declared.refusal.Refusal.{Refusal}

-- they are few, and above 0
pub few : (r : Refusal) → (0 < refusal_number r) × (refusal_number r < 32)
few r = search Rattle.std.proofs.Common.rules
