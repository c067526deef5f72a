-- A test that no value of a map passes.
use Rattle.std.proofs.Common.{◌≡◌, Bool, true, false, cond, T, List, [], ◌∷◌, refl, ap, ◌∙◌, map}
use Rattle.std.specs.Prelude.{◌||◌, Some, None}
use Rattle.std.specs.List.{list_any}
use Rattle.std.specs.declared.cmp.Ordering.{Ordering}
use Rattle.std.specs.declared.cmp.Ordering.TheVariants.{Less, Equal, Greater}
use Rattle.std.specs.Ordering.{is_eq, is_lt, eq_by_cmp}
use Rattle.std.specs.Cmp.{IsTotalOrder}
use Rattle.std.specs.FinMap as finmap
use Rattle.std.specs.FinMap.{FinMap, IsAntisymmetric, find, get-entries, entries_sorted}
use Rattle.std.specs.FinMap.Entries.{below_all, is_sorted}
use Rattle.std.proofs.lemmas.Bool.{false≢true}
use Rattle.std.proofs.lemmas.Cmp.{eq_by_cmp_equiv}
use Rattle.maps.proofs.Found.{both_true}

less_apart : (o : Ordering) → T (is_lt o) → is_eq o ≡ false
less_apart Less h = refl
less_apart Equal h = absurd h
less_apart Greater h = absurd h

ties : (o : Ordering) → is_eq o ≡ true → o ≡ Equal
ties Less e = absurd (false≢true e)
ties Equal e = refl
ties Greater e = absurd (false≢true e)

module _ {K X : Type 0} (R : K → K → Ordering) (o : IsTotalOrder R) (same : IsAntisymmetric R) where
  none_below : (k : K) (es : List (K × X)) → T (below_all R k es) → find R k es ≡ None
  none_below k [] h = refl
  none_below k (y ∷ es) h =
      let parts = both_true _ _ h in
      ap (λ b. cond b (Some y.1) (find R k es)) (less_apart (R k y.0) parts.0) ∙ none_below k es parts.1

  -- what later entries have at a key, all of them have there
  passed : (y : K × X) (es : List (K × X)) (k : K) (x : X) → T (below_all R y.0 es) → find R k es ≡ Some x
      → find R k (y ∷ es) ≡ Some x
  passed y es k x h e =
      elim (eq_by_cmp R k y.0) as (λ b. eq_by_cmp R k y.0 ≡ b → cond b (Some y.1) (find R k es) ≡ Some x) [
        | true ↦ λ t. (let none : find R k es ≡ None = ap (λ k. find R k es) (same k y.0 (ties _ t))
            ∙ none_below y.0 es h in absurd cc)
        | false ↦ λ t. e
      ] refl

  none_in : (test : X → Bool) (es : List (K × X)) → T (is_sorted R es)
      → ((k : K) (x : X) → find R k es ≡ Some x → test x ≡ false) → list_any test (map (λ (e : K × X). e.1) es) ≡ false
  none_in test [] h each = refl
  none_in test (y ∷ es) h each =
      let parts = both_true _ _ h in
      let here : test y.1 ≡ false =
      each y.0 y.1 (ap (λ b. cond b (Some y.1) (find R y.0 es)) ((eq_by_cmp_equiv o).refl y.0)) in
      let later = none_in test es parts.1 (λ k x e. each k x (passed y es k x parts.0 e)) in
      λ i. here i || later i

  pub no_value : (test : X → Bool) (m : FinMap R X) → ((k : K) (x : X) → finmap.get m k ≡ Some x → test x ≡ false)
      → list_any test (finmap.values m) ≡ false
  no_value test m each = none_in test (finmap.entries m) (entries_sorted m) (λ k x e. each k x (get-entries m k ∙ e))
