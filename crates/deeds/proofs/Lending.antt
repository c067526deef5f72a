-- Before a type names the deeds, one deed is lent, and comes back.
use Rattle.std.proofs.Common.{◌≡◌, ◌≢◌, ℕ, zero, suc, ◌<◌, Bool, List, [], ◌∷◌, map, length, refl, ap, sym, ◌∙◌, subst, ⊎_elim, arith}
use Rattle.std.specs.Prelude.{slice_get, slice_set, Some}
use Rattle.std.proofs.lemmas.Option.{same_Some}
use Rattle.atomic_table.specs.Table.{Me}
use Rattle.deeds.specs.declared.views.Block.{Block}
use Rattle.deeds.specs.declared.views.Given.{Given}
use Rattle.deeds.specs.declared.views.Place.{Place}
use Rattle.deeds.specs.declared.views.Place.TheVariants.{Home, Out}
use Rattle.deeds.specs.declared.views.View.{View}
use Rattle.deeds.specs.Shown.{OneOut, bytes_of, uncalled}
use Rattle.deeds.specs.Steps.{IsDesk, IsDevice}
use Rattle.deeds.specs.Views.{desk_in, desk_view, device_in, home_in, no_given}
use Rattle.deeds.proofs.Counts.{contents_uncalled}
use Rattle.deeds.proofs.Lists.{get_set, mapped_at}

abbrev given_in : Place → Given
given_in (Out g) = g
given_in (Home now) = no_given

home_at : (blocks : List Block) (k : ℕ) → k < length blocks
    → (slice_get (map Home blocks) k ≡ Some (Home (home_in (map Home blocks) k)))
    × (slice_get blocks k ≡ Some (home_in (map Home blocks) k))
home_at [] k h = absurd (omega arith)
home_at (b ∷ bs) zero h = (refl, refl)
home_at (b ∷ bs) (suc k) h = home_at bs k (omega arith)

is_home : (blocks : List Block) (k : ℕ) → k < length blocks
    → slice_get (map Home blocks) k ≡ Some (Home (home_in (map Home blocks) k))
is_home blocks k h = (home_at blocks k h).0

one_out : (blocks : List Block) (g : Given) → g.task.block < length blocks
    → g.before ≡ home_in (map Home blocks) g.task.block
    → OneOut blocks (slice_set (map Home blocks) g.task.block (Out g))
one_out blocks g h e = record {
  given = g;
  was = (home_at blocks g.task.block h).1 ∙ ap (λ x. Some x) (sym e);
  out = refl;
}

abbrev is_home_place : Place → Type 0
is_home_place (Home now) = Unit {0}
is_home_place (Out g) = ⊥

set_back : (blocks : List Block) (k : ℕ) (p : Place) (now : Block) → slice_get blocks k ≡ Some now
    → slice_set (slice_set (map Home blocks) k p) k (Home now) ≡ map Home blocks
set_back [] k p now e = refl
set_back (b ∷ bs) zero p now e = λ i. Home (sym (same_Some b now e) i) ∷ map Home bs
set_back (b ∷ bs) (suc k) p now e = λ i. Home b ∷ set_back bs k p now e i

-- the deed that comes back is the one that was lent, and all are at home again
lent_back : (blocks : List Block) (places : List Place) (g : Given) → OneOut blocks places
    → slice_get places g.task.block ≡ Some (Out g) → slice_set places g.task.block (Home g.before) ≡ map Home blocks
lent_back blocks places g one e =
    let out = ap (λ ps. slice_get ps g.task.block) (sym one.out) ∙ e in
    ⊎_elim
    (λ (t : (g.task.block ≡ one.given.task.block) × (Out one.given ≡ Out g)).
    let same : one.given ≡ g = ap given_in t.1 in
    let was : slice_get blocks g.task.block ≡ Some g.before =
    subst (λ (x : Given). slice_get blocks x.task.block ≡ Some x.before) same one.was in
    (λ i. slice_set (one.out i) g.task.block (Home g.before))
    ∙ subst (λ (x : Given). slice_set (slice_set (map Home blocks) x.task.block (Out x)) g.task.block (Home g.before) ≡ map Home blocks)
    (sym same) (set_back blocks g.task.block (Out g) g.before was))
    (λ (t : (g.task.block ≢ one.given.task.block) × (slice_get (map Home blocks) g.task.block ≡ Some (Out g))).
    let m = mapped_at Home blocks g.task.block (Out g) t.1 in
    absurd (subst is_home_place m.2 tt))
    (get_set (map Home blocks) one.given.task.block g.task.block (Out one.given) (Out g) out)

-- ---- both sides, as they were just opened

module _ (me : Me ℕ View) (told : Bool) (blocks : List (List ℕ)) (is : IsDevice me told (map uncalled blocks)) where
  pub opened_told : (device_in me.0).0 ≡ told
  opened_told = ap (λ (m : Me ℕ View). (device_in m.0).0) is

  pub opened_blocks : bytes_of (device_in me.0).1 ≡ blocks
  opened_blocks = ap (λ (m : Me ℕ View). bytes_of (device_in m.0).1) is ∙ contents_uncalled blocks

  pub opened_device : IsDevice me (device_in me.0).0 (map uncalled (bytes_of (device_in me.0).1))
  opened_device = subst (λ (d : Bool × List (List ℕ)). IsDevice me d.0 (map uncalled d.1))
      (λ i. (sym opened_told i, sym opened_blocks i)) is

  pub opened_desk : (desk : Me ℕ View) → IsDesk desk told (map Home (map uncalled blocks))
      → IsDesk desk (device_in me.0).0 (map Home (map uncalled (bytes_of (device_in me.0).1)))
  opened_desk desk there = subst (λ (d : Bool × List (List ℕ)). IsDesk desk d.0 (map Home (map uncalled d.1)))
      (λ i. (sym opened_told i, sym opened_blocks i)) there

-- ---- at a desk that is known by an equation

module _ (me : Me ℕ View) (told : Bool) (blocks : List Block) where
  pub home_there : (k : ℕ) → IsDesk me told (map Home blocks) → k < length blocks
      → slice_get (desk_in me.0).1 k ≡ Some (Home (home_in (desk_in me.0).1 k))
  home_there k is h =
      subst (λ (ps : List Place). slice_get ps k ≡ Some (Home (home_in ps k)))
      (sym (ap (λ (m : Me ℕ View). (desk_in m.0).1) is)) (is_home blocks k h)

  pub lends : (new : Me ℕ View) (g : Given) → IsDesk me told (map Home blocks) → g.task.block < length blocks
      → g.before ≡ home_in (desk_in me.0).1 g.task.block
      → IsDesk new (desk_in me.0).0 (slice_set (desk_in me.0).1 g.task.block (Out g))
      → IsDesk new told (desk_in new.0).1 × OneOut blocks (desk_in new.0).1
  lends new g is h before desk =
      let places : (desk_in me.0).1 ≡ map Home blocks = ap (λ (m : Me ℕ View). (desk_in m.0).1) is in
      let says : (desk_in me.0).0 ≡ told = ap (λ (m : Me ℕ View). (desk_in m.0).0) is in
      let now : IsDesk new told (slice_set (map Home blocks) g.task.block (Out g)) =
      desk ∙ (λ i. (desk_view (says i) (slice_set (places i) g.task.block (Out g)), [])) in
      let there : (desk_in new.0).1 ≡ slice_set (map Home blocks) g.task.block (Out g) =
      ap (λ (m : Me ℕ View). (desk_in m.0).1) now in (
        now ∙ (λ i. (desk_view told (sym there i), [])),
        subst (OneOut blocks) (sym there)
            (one_out blocks g h (before ∙ ap (λ ps. home_in ps g.task.block) places)),
      )

  pub restores : (new : Me ℕ View) (g : Given) → IsDesk me told (desk_in me.0).1 → OneOut blocks (desk_in me.0).1
      → slice_get (desk_in me.0).1 g.task.block ≡ Some (Out g)
      → IsDesk new (desk_in me.0).0 (slice_set (desk_in me.0).1 g.task.block (Home g.before))
      → IsDesk new told (map Home blocks)
  restores new g is one out desk =
      let says : (desk_in me.0).0 ≡ told = ap (λ (m : Me ℕ View). (desk_in m.0).0) is in
      desk ∙ (λ i. (desk_view (says i) (lent_back blocks (desk_in me.0).1 g one out i), []))
