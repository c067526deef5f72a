-- Copies of the device of a storm.
use Rattle.std.proofs.Common.{◌≡◌, ℕ, Bool, true, false, ◌∙◌, sym, eqb, eq-eqb, List, [], ◌∷◌, ◌++◌, All}
use Rattle.std.proofs.lemmas.List.Elements.{All-push, All-same}
use Rattle.std.specs.Prelude.{◌&&◌}
use Rattle.blockdev.specs.Device.{Told}
use Rattle.pc_types.specs.Limits.{Sizes}
use Rattle.playback.specs.Playing.{AreCopies, IsCopy}
use Rattle.playback.specs.declared.verdict.Copies.{Copies}
use Rattle.shared.specs.Keeps.{IsDisk}
use Rattle.storm.specs.Sharded.{AreFor}
use Rattle.world.specs.Stepping.{fits}

both : (a b : Bool) → a ≡ true → b ≡ true → (a && b) ≡ true
both true b e h = h
both false b e h = absurd cc

copy_fits : (g : Sizes) (d copy : Told) → IsCopy d copy → d.size ≡ g.page → d.count ≡ g.blocks → fits g copy ≡ true
copy_fits g d copy c size count = both (eqb copy.size g.page) (eqb copy.count g.blocks)
    (eq-eqb copy.size g.page (c.0 ∙ size)) (eq-eqb copy.count g.blocks (c.1 ∙ count))

-- they have the sizes of a cache that its device has
pub copies_fit : (g : Sizes) (d : Told) (copies : Copies) (page blocks : ℕ) → AreCopies d copies → d.size ≡ page
    → d.count ≡ blocks → g.page ≡ page → g.blocks ≡ blocks
    → (fits g copies.one ≡ true) × (fits g copies.other ≡ true)
copies_fit g d copies page blocks c size count same many = (
  copy_fits g d copies.one c.0 (size ∙ sym same) (count ∙ sym many),
  copy_fits g d copies.other c.1 (size ∙ sym same) (count ∙ sym many),
)

-- the same of a shard
pub copies_are_for : (g : Sizes) (d : Told) (copies : Copies) → AreCopies d copies → IsDisk g d → AreFor g copies
copies_are_for g d copies c is = (
  copy_fits g d copies.one c.0 is.0 is.1,
  copy_fits g d copies.other c.1 is.0 is.1,
  c.0.2,
  c.1.2,
)

-- and one more of them
pub all_for : (g : Sizes) (old new : List Copies) (c : Copies) → new ≡ old ++ c ∷ [] → All (AreFor g) old → AreFor g c → All (AreFor g) new
all_for g old new c is all one = All-same (AreFor g) new (old ++ c ∷ []) is (All-push (AreFor g) old c all one)

-- one more device of these sizes
pub all_disks : {S : Type 0} (old new : List S) (s : S) (told : S → Told) (g : Sizes) → new ≡ old ++ s ∷ []
    → All (λ x. IsDisk g (told x)) old → IsDisk g (told s) → All (λ x. IsDisk g (told x)) new
all_disks old new s told g is all one =
    All-same (λ x. IsDisk g (told x)) new (old ++ s ∷ []) is (All-push (λ x. IsDisk g (told x)) old s all one)
