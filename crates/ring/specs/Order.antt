-- The rule of the ring. A history has each parcel beside the number of the pass that pushed or popped it.
use Rattle.std.specs.Prelude.{◌≡◌, ◌+◌, ◌<◌, ◌≤◌, ◌⊎◌, ℕ, zero, suc, Bool, true, false, List, [], ◌∷◌, ◌++◌, length, All}
use mathlib.Core.Option.{some}
use lib.ListN.{get_elem?}
use Rattle.atomic_table.specs.Seated.{TableId}
use Rattle.blockdev.specs.Jobs.{IsJobFor}
use Rattle.deeds.specs.Shown.{ParcelSeen, no_table}
use Rattle.ring.specs.declared.log.Log.{Log}

-- ---- what a pass knows

abbrev pub log : ℕ → Bool → ℕ → ℕ → ℕ → ℕ → ℕ → TableId → List ParcelSeen → List ParcelSeen → Log
log stage alone made depth cache blocks page table pushed popped = record {
  stage = stage;
  alone = alone;
  made = made;
  depth = depth;
  cache = cache;
  blocks = blocks;
  page = page;
  table = table;
  pushed = pushed;
  popped = popped;
}

-- at a new ring
abbrev pub start : Log
start = log 0 true 0 0 0 0 0 no_table [] []

-- where a sample lies in it: the sample has the cache's name, the device's blocks as its serial, and a page of bytes
abbrev pub seeded : ParcelSeen → Log
seeded sample =
    log 1 true 0 0 sample.task.cache sample.task.serial (length sample.task.bytes) sample.table (sample ∷ []) []

-- at an open ring for the same parcels, with nothing pushed or popped: the first pass, or one that was made of v
abbrev pub opened : Bool → ℕ → Log → Log
opened alone depth v = log 2 alone 0 depth v.cache v.blocks v.page v.table [] []

-- with another pass beside it, that was made of it
abbrev pub accompanied : Log → Log
accompanied v = record v { alone = false; made = v.made + 1 }

abbrev pub with_pushed : Log → ParcelSeen → Log
with_pushed v x = record v { pushed = v.pushed ++ x ∷ [] }

abbrev pub with_popped : Log → ParcelSeen → Log
with_popped v x = record v { popped = v.popped ++ x ∷ [] }

-- ---- the rule

-- its job is one of the cache with this name, whose device has so many blocks of so many bytes, and its deed is of this table
pub record IsParcelFor (name blocks page : ℕ) (table : TableId) (parcel : ParcelSeen) : Type 0 where
  pub job : IsJobFor name blocks page parcel.task
  pub deed : parcel.table ≡ table

-- the parcels of a history, in order
abbrev pub jobs : List (ℕ × ParcelSeen) → List ParcelSeen
jobs [] = []
jobs (e ∷ es) = e.1 ∷ jobs es

-- the parcel, where the two numbers are one
abbrev pub pick : ℕ → ℕ → ParcelSeen → List ParcelSeen
pick zero zero x = x ∷ []
pick zero (suc j) x = []
pick (suc i) zero x = []
pick (suc i) (suc j) x = pick i j x

-- the parcels that a history has of this pass, in order
abbrev pub of : ℕ → List (ℕ × ParcelSeen) → List ParcelSeen
of i [] = []
of i (e ∷ es) = pick i e.0 e.1 ++ of i es

-- all that was pushed, in one order, is all that was popped, in one order, and then what the ring holds. Each pass has pushed
-- and popped what these two histories have of it, in their order, and they have nothing of any other
pub record Kept (cache blocks page : ℕ) (table : TableId) (pushed popped : List (ℕ × ParcelSeen)) (items : List ParcelSeen) (views : List Log) : Type 0 where
  pub order : jobs pushed ≡ jobs popped ++ items
  pub fit : All (IsParcelFor cache blocks page table) items
  pub passes : (i : ℕ) (v : Log) → get_elem? views i ≡ some v → v ≡ log 2 v.alone v.made v.depth cache blocks page table (of i pushed) (of i popped)
  pub others : (i : ℕ) → length views ≤ i → (of i pushed ≡ []) × (of i popped ≡ [])
  -- a pass that is alone is the only one, and did it all
  pub alone : (i : ℕ) (v : Log) → get_elem? views i ≡ some v → v.alone ≡ true → (length views ≡ 1) × (v.pushed ≡ jobs pushed) × (v.popped ≡ jobs popped)

-- the ring is open
abbrev pub InUse : List ParcelSeen → List Log → Type 0
InUse items views =
    (cache blocks page : ℕ) × (table : TableId) × (pushed popped : List (ℕ × ParcelSeen))
    × Kept cache blocks page table pushed popped items views

-- it is new, or its sample is being shown to it, or it is open
abbrev pub Ruled : List ParcelSeen → List Log → Type 0
Ruled items views =
    ((items ≡ []) × (views ≡ start ∷ []))
    ⊎ (((sample : ParcelSeen) × (items ≡ sample ∷ []) × (views ≡ seeded sample ∷ []))
    ⊎ InUse items views)

-- ---- what a step tells its pass, by what it knew before

-- the ring held these items at a moment. Some one order of all that was pushed is one order of all that was popped, followed by
-- them, and this pass's parcels stand there in the pass's order
pub record Stands (v : Log) (items : List ParcelSeen) : Type 0 where
  pub one_order : (i : ℕ) × (pushed popped : List (ℕ × ParcelSeen)) × (jobs pushed ≡ jobs popped ++ items) × (v.pushed ≡ of i pushed) × (v.popped ≡ of i popped)
  -- where this pass is alone, they are what it pushed and has not popped
  pub alone : v.alone ≡ true → v.pushed ≡ v.popped ++ items

-- a push: before it there was room, and the parcel went in at the back
abbrev pub Enqueues : Log → ParcelSeen → Log → Type 0
Enqueues v x w = (w ≡ with_pushed v x) × (items : List ParcelSeen) × (length items < 64) × Stands v items

-- a pop: before it the parcel was at the front, and it came out
abbrev pub Dequeues : Log → ParcelSeen → Log → Type 0
Dequeues v x w = (w ≡ with_popped v x) × IsParcelFor v.cache v.blocks v.page v.table x × (items : List ParcelSeen) × Stands v (x ∷ items)
