-- The first entry with a key, in a list and in the map that it makes.
use Rattle.std.proofs.Common.{◌≡◌, ℕ, cond, eqb, List, [], ◌∷◌, refl, ◌∙◌, Option, Some, None, nat_cmp}
use Rattle.std.specs.Cmp.{nat_cmp_total, unsigned_tied}
use Rattle.std.specs.FinMap as finmap
use Rattle.std.specs.FinMap.{FinMap, find, get-entries, get-from_entries, from_entries}

-- ---- the first entry with a key

module _ {X : Type 0} where
  abbrev pub lookup : ℕ → List (ℕ × X) → Option X
  lookup q [] = None
  lookup q (e ∷ es) = cond (eqb q e.0) (Some e.1) (lookup q es)

  pub find-lookup : (q : ℕ) (es : List (ℕ × X)) → find nat_cmp q es ≡ lookup q es
  find-lookup q [] = refl
  find-lookup q (e ∷ es) = λ i. cond (unsigned_tied q e.0 i) (Some e.1) (find-lookup q es i)

  pub get-lookup : (es : List (ℕ × X)) (q : ℕ) → finmap.get (from_entries {R = nat_cmp} es) q ≡ lookup q es
  get-lookup es q = get-from_entries nat_cmp_total es q ∙ find-lookup q es

  pub get_is : (m : FinMap nat_cmp X) (q : ℕ) → finmap.get m q ≡ lookup q (finmap.entries m)
  get_is m q = get-entries m q ∙ find-lookup q (finmap.entries m)
