-- What a scripted device keeps of its plan, and how a call of it begins.
use Rattle.std.specs.Prelude.{◌≡◌, ℕ, ◌+◌, ◌<◌, List, [], ◌∷◌, drop, Option, Some, None, option_map, IfSome}
use Rattle.blockdev.specs.declared.fault.Fault.{Fault}
use Rattle.blockdev.specs.Device.{Told, max_calls, next_fault}

-- the plan with at most one fault, for the next call
abbrev pub plan_of : Option Fault → List (Option Fault)
plan_of None = []
plan_of (Some fault) = Some fault ∷ []

-- how many faults that is
abbrev pub count_of : Option Fault → ℕ
count_of None = 0
count_of (Some fault) = 1

-- a call begins that can be counted: its planned fault is taken off the plan, and both are counted
pub record Begins (old : Told) (fault : Option Fault) (new : Told) : Type 0 where
  pub counted : old.calls < max_calls
  pub taken : IfSome old.plan (λ plan. fault ≡ next_fault plan)
  pub after : new ≡ record old { plan = option_map (drop 1) old.plan; calls = old.calls + 1; faults = old.faults + count_of fault }
