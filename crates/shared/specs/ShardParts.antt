-- What the parts of a cache of shards are.
use Rattle.std.specs.Prelude.{◌≡◌, ◌+◌, ℕ, List, [], ◌∷◌, is_some, true}
use Rattle.blockdev.specs.Device.{Told}
use Rattle.machine.specs.Catalogs.{Catalog, IsCatalog}
use Rattle.pc_types.specs.Limits.{Sizes}
use Rattle.shared.specs.Keeps.{AreBlocksOf}
use Rattle.shared.specs.ShardNames.{CacheNames}
use Rattle.trail.specs.Room.{Room}

-- as many of the one as of the other, and so it is with each two of the same place
abbrev pub AllBoth : {X Y : Type 0} → (X → Y → Type 0) → List X → List Y → Type 0
AllBoth P [] [] = Unit {0}
AllBoth P [] (y ∷ ys) = ⊥
AllBoth P (x ∷ xs) [] = ⊥
AllBoth P (x ∷ xs) (y ∷ ys) = P x y × AllBoth P xs ys

-- so it is with each of these, and the one of the same place among those
abbrev pub AllFirst : {X Y : Type 0} → (X → Y → Type 0) → List X → List Y → Type 0
AllFirst P [] ys = Unit {0}
AllFirst P (x ∷ xs) [] = ⊥
AllFirst P (x ∷ xs) (y ∷ ys) = P x y × AllFirst P xs ys

-- the parts of a cache of this name and these sizes, over these files, for so many callers, with a trail of this room and over this device
pub record IsMadeOf (sizes : Sizes) (callers name : ℕ) (given : Catalog) (whole : Room) (device : Told) (n : CacheNames) : Type 0 where
  pub named : n.name ≡ name
  pub sized : n.sizes ≡ sizes
  pub files : n.files ≡ given
  pub catalog : IsCatalog sizes given
  pub seats : n.seats ≡ callers + 1
  pub room : n.whole ≡ whole
  pub told : n.told ≡ is_some device.contents
  pub blocks : AreBlocksOf n.told n.blocks device
  pub calls : n.calls ≡ device.calls
  pub ringed : is_some n.ring ≡ true
