use Rattle.std.proofs.Common.{◌≡◌, sym, ap, subst, ◌∙◌, ℕ, List, Option, None, replicate, rules}
use Rattle.std.specs.FinSet as set
use Rattle.std.specs.Ordering.{nat_cmp}
use Rattle.pc_types.specs.declared.limits.TheConstants.{MAX_HANDLES}
use Rattle.maps.specs.Vectors.{by_place}
use Rattle.cachecore.specs.Handles.{AreHandles}
use Rattle.maps.proofs.Vectors.{by_place-empty}
use Rattle.cachecore.proofs.HandleLemmas.{no_handles}
use Rattle.cachecore.proofs.handles.Handles.new.Goals as goal

pub invariant_of-result : goal.invariant_of-result
invariant_of-result c =
    let files : c.in_ok-vec.field-0.items ≡ replicate MAX_HANDLES None =
    c.in_ok-vec.ensures.items_if_clones_equal (λ y e. search rules) in
    subst (λ (used : set.FinSet nat_cmp). AreHandles used c.in_ok-vec.field-0.items 0) (sym c.new.ensures.used)
    (subst (λ (fs : List (Option ℕ)). AreHandles set.empty fs 0) (sym files) no_handles)

pub returns : goal.returns
returns c =
    let files : c.in_ok-vec.field-0.items ≡ replicate MAX_HANDLES None =
    c.in_ok-vec.ensures.items_if_clones_equal (λ y e. search rules) in
    ap by_place files ∙ by_place-empty MAX_HANDLES
