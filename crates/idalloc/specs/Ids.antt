-- Numbers that are given out and taken back (Linux, Documentation/core-api/idr.rst).
use Rattle.std.specs.Prelude.{◌≡◌, ℕ, ◌<◌, ◌≤◌, Bool, true, false, max}
use Rattle.std.specs.Ordering.{nat_cmp}
use Rattle.std.specs.Coded.{Coded, coded_ℕ, coded×, code_by}
use Rattle.std.specs.FinSet as set
use Rattle.pc_types.specs.declared.refusal.Refusal.{Refusal}
use Rattle.pc_types.specs.declared.refusal.Refusal.TheVariants.{NoId, Memory}
use mathlib.Core.Path.{refl}

-- the numbers that are given out, and where the next cyclic search begins
pub record Ids : Type 0 where
  pub used : set.FinSet nat_cmp
  pub next : ℕ

abbrev pub ids_code : Coded Ids
ids_code = code_by (set.FinSet nat_cmp × ℕ) (coded× (set.code coded_ℕ) coded_ℕ) (λ ids. (ids.used, ids.next)) (λ p. record { used = p.0; next = p.1 }) (λ _. refl)

-- the lowest unused number from `from` to `to`
pub record IsLowestUnused (used : set.FinSet nat_cmp) (from to n : ℕ) : Type 0 where
  pub low : from ≤ n
  pub high : n ≤ to
  pub unused : set.contains used n ≡ false
  pub lowest : (k : ℕ) → from ≤ k → k < n → set.contains used k ≡ true

-- every number from `from` to `to` is used, as also where there is none
pub record AllUsed (used : set.FinSet nat_cmp) (from to : ℕ) : Type 0 where
  pub each : (k : ℕ) → from ≤ k → k ≤ to → set.contains used k ≡ true

-- What a cyclic search gives: it goes from the greater of `next` and `from` up to `to`, and only where all these are used
-- does it begin again at `from`, which is to have wrapped.
abbrev pub IsCyclic : set.FinSet nat_cmp → ℕ → ℕ → ℕ → ℕ × Bool → Type 0
IsCyclic used next from to (n, false) = IsLowestUnused used (max next from) to n
IsCyclic used next from to (n, true) = AllUsed used (max next from) to × IsLowestUnused used from to n

-- why a call that uses a number is refused
abbrev pub IsNoIdOrMemory : Refusal → Type 0
IsNoIdOrMemory NoId = Unit {0}
IsNoIdOrMemory Memory = Unit {0}
IsNoIdOrMemory _ = ⊥
