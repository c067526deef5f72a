-- What the calls of a desk say, in the clauses of the exports.
use Rattle.std.proofs.Common.{◌≡◌, ◌⊎◌, ℕ, List, [], Option, Some, None, refl, sym, ap, subst, inl, inr}
use Rattle.std.specs.Prelude.{ℤ, IfErr, IfOk, Result, Ok, Err}
use Rattle.std.specs.Option.{IsSomeAnd}
use Rattle.pc_types.specs.Limits.{Sizes}
use Rattle.pc_types.specs.declared.refusal.Refusal.{Refusal}
use Rattle.catalog.specs.Cataloged.{Cataloged}
use Rattle.catalog.specs.declared.extent.Misfit.{Misfit}
use Rattle.world.specs.Stepping.{adopted_world}
use Rattle.relay.specs.Device.{told_relay}
use Rattle.listing.specs.Listing.{IsUnfit, Lists}
use Rattle.listing.specs.declared.list.FileExtent.{FileExtent}
use Rattle.listing.specs.declared.list.Unfit.{Unfit}
use Rattle.listing.specs.declared.list.Unfit.TheVariants as unfit
use Rattle.desk.specs.Seen.{DeskSeen}
use Rattle.pcache_c.specs.Answers.{misfit_answer}
use Rattle.pcache_c.specs.Caches.{IsAdoptRefusal, IsAdopted}

pub some_and : {X : Type 0} (o : Option X) (x : X) (P : X → Type 0) → o ≡ Some x → P x → IsSomeAnd o P
some_and o x P e p = subst (λ z. IsSomeAnd z P) (sym e) p

-- what was made is there
pub made_and : (o : Option DeskSeen) (made : Result DeskSeen Refusal) (P : DeskSeen → Type 0) → IsSomeAnd o (λ new. made ≡ Ok new) → IfOk made P → IsSomeAnd o P
made_and (Some d) made P is p = subst (λ (r : Result DeskSeen Refusal). IfOk r P) is p
made_and None made P is p = is

pub if_adopted : (g : Sizes) (sizes : List ℕ) (extents : List FileExtent) (c : Cataloged) (made : Result DeskSeen Refusal) → Lists sizes extents c → (c.page ≡ g.page) × (c.blocks ≡ g.blocks)
    → IfOk made (λ d. d.service.world ≡ adopted_world g 1 c.files (told_relay g.page g.blocks)) → IfOk made (λ d. d.handles ≡ []) → IfOk made (IsAdopted g sizes extents)
if_adopted g sizes extents c (Ok d) lists fits world handles = (c, lists, fits.0, fits.1, world, handles)
if_adopted g sizes extents c (Err why) lists fits world handles = tt

pub told_unfit : (sizes : List ℕ) (extents : List FileExtent) (r : Result Cataloged Unfit) (u : Unfit) (place : ℕ) (why : Misfit) (answer : ℤ) → r ≡ Err u → IfErr r (IsUnfit sizes extents)
    → (u ≡ unfit.File place why) ⊎ (u ≡ unfit.Extent place why) → answer ≡ misfit_answer why → IsAdoptRefusal sizes extents place answer
told_unfit sizes extents r u place why answer is refused told e =
    let unfit : IsUnfit sizes extents u = subst (λ (x : Result Cataloged Unfit). IfErr x (IsUnfit sizes extents)) is refused in
    inr (inr (
      why,
      e,
      elim told [
        | inl file ↦ inl (subst (IsUnfit sizes extents) file unfit)
        | inr extent ↦ inr (subst (IsUnfit sizes extents) extent unfit)
      ],
    ))
