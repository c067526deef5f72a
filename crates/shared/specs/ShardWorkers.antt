-- A caller's workers, one at each shard.
use Rattle.std.specs.Prelude.{◌≡◌, ◌+◌, ◌-◌, ℕ, zero, suc, true, false, List, [], ◌∷◌, IfSome, Some, slice_get, slice_set}
use Rattle.held.specs.Shown.{IsFresh}
use Rattle.shared.specs.ShardNames.{CacheNames}
use Rattle.shared.specs.ShardParts.{AllBoth}
use Rattle.shared.specs.Workers.{IsWorkerOf, company_of, popped_by, pushed_by, seat_of}
use Rattle.shared.specs.declared.worker.Worker.{Worker}

-- so it is with each of these, counted from this number on
abbrev pub AllFrom : {X : Type 0} → (ℕ → X → Type 0) → ℕ → List X → Type 0
AllFrom P k [] = Unit {0}
AllFrom P k (x ∷ xs) = P k x × AllFrom P (k + 1) xs

-- a worker of the cache of these names
abbrev pub IsWorkerAt : CacheNames → Worker → Type 0
IsWorkerAt n w = IfSome n.ring (λ ring. IsWorkerOf ring n.name n.table n.deeds n.sizes w)

-- a worker of each shard, in order
abbrev pub AreWorkers : (ℕ → CacheNames) → List Worker → Type 0
AreWorkers names ws = AllFrom (λ k w. IsWorkerAt (names k) w) 0 ws

-- the own worker of the cache of these names, as it was made: alone at its ring and without jobs, with the last seat
abbrev pub IsFirstOf : CacheNames → Worker → Type 0
IsFirstOf n w =
    (company_of w ≡ (true, 0, 0)) × (popped_by w ≡ []) × (pushed_by w ≡ [])
    × IsFresh n.table n.name (seat_of w) (n.seats - 1)

-- the worker at this shard went on so, and no other changed
abbrev pub WorksAt : ℕ → (Worker → Worker → Type 0) → List Worker → List Worker → Type 0
WorksAt k P before after =
    (w : Worker) × (x : Worker) × (slice_get before k ≡ Some w) × (after ≡ slice_set before k x) × P w x

-- the other was made of the first: it took no job from the ring and put none in, and its pass comes of one more
abbrev pub IsMadeBy : Worker → Worker → Type 0
IsMadeBy own w = (popped_by w ≡ []) × (pushed_by w ≡ []) × (company_of w ≡ (false, 0, (company_of own).2 + 1))

-- a worker before and after one other was made of it: it did nothing else
abbrev pub HasMadeOne : Worker → Worker → Type 0
HasMadeOne old new =
    (seat_of new ≡ seat_of old) × (popped_by new ≡ popped_by old) × (pushed_by new ≡ pushed_by old)
    × (company_of new ≡ (false, (company_of old).1 + 1, (company_of old).2))

-- so many of the first ones are as they were, and each of the others made one: these, in order
abbrev pub HaveMadeFrom : ℕ → List Worker → List Worker → List Worker → Type 0
HaveMadeFrom zero first own made = AllBoth HasMadeOne first own × AllBoth IsMadeBy first made
HaveMadeFrom (suc k) [] [] made = made ≡ []
HaveMadeFrom (suc k) [] (w ∷ ws) made = ⊥
HaveMadeFrom (suc k) (v ∷ vs) [] made = ⊥
HaveMadeFrom (suc k) (v ∷ vs) (w ∷ ws) made = (w ≡ v) × HaveMadeFrom k vs ws made
