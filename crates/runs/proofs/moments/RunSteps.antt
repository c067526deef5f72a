-- A run, step by step.
use Rattle.std.proofs.Common.{◌≡◌, ℕ, zero, suc, ◌<◌, [], ◌∷◌, length, refl, arith, take, Some, slice_get}
use Rattle.runs.specs.Plain.{Plain}
use Rattle.runs.specs.World.{World, Move, WorldStep}
use Rattle.runs.specs.Runs.{Steps, Run, last, plain_move, plain_from}

-- ---- a run, step by step

pub record StepAt (w : World) (plain : Plain) (run : Steps) (k : ℕ) : Type 0 where
  pub move : Move
  pub new : World
  pub there : slice_get run k ≡ Some (move, new)
  pub next : last w (take (suc k) run) ≡ new
  pub moves : WorldStep (last w (take k run)) move new
  pub plain_next : plain_from plain (take (suc k) run) ≡ plain_move (plain_from plain (take k run)) move

pub step_at : (run : Steps) (w : World) (plain : Plain) (k : ℕ) → Run w run → k < length run → StepAt w plain run k
step_at [] w plain k r h = absurd (omega arith)
step_at (step ∷ steps) w plain zero r h =
    record { move = step.0; new = step.1; there = refl; next = refl; moves = r.0; plain_next = refl }
step_at (step ∷ steps) w plain (suc k) r h = let s = step_at steps step.1 (plain_move plain step.0) k r.1
    (omega arith) in search s
