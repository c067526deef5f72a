-- What every step of the cache keeps, every step of the world keeps.
use Rattle.std.proofs.Common.{sym, subst, inl, inr}
use Rattle.machine.specs.State.{State}
use Rattle.machine.proofs.steps.Cases.{Cases, by_cases}
use Rattle.runs.specs.World.{World, Move, WorldStep}
use Rattle.runs.proofs.moments.Histories.{core_step}

pub core_cases : (w new : World) (P : State → Type 0) → P w.core → Cases w.core (λ e r s. P s) → (move : Move)
    → WorldStep w move new → P new.core
core_cases w new P now c move m = elim (core_step w new move m) [
  | inl same ↦ subst P (sym same) now
  | inr a ↦ by_cases w.core (λ e r s. P s) c a.0 a.1 new.core a.2
]
