-- What holds of each entry of a list, and of a map.
use Rattle.std.proofs.Common.{◌≡◌, ℕ, ◌<◌, Bool, true, false, cond, eqb, T, List, [], ◌∷◌, refl, ap, ◌∙◌, arith, Some}
use Rattle.std.proofs.Common.{nat_cmp, is_lt}
use Rattle.std.specs.FinMap as finmap
use Rattle.std.specs.FinMap.{FinMap, entries_sorted}
use Rattle.std.specs.FinMap.Entries.{below_all, is_sorted}
use Rattle.std.proofs.lemmas.Bool.Decides.{nat_tests}
use Rattle.mapping.proofs.MapLemmas.{both_true}
use Rattle.writeback.proofs.MapLaws.{lookup, get_is}

-- ---- each entry of a list

abbrev pub Each : {A : Type 0} → (A → Type 0) → List A → Type 0
Each P [] = Unit {0}
Each P (x ∷ xs) = P x × Each P xs

pub each_on : {A : Type 0} {P Q : A → Type 0} → ((x : A) → P x → Q x) → (xs : List A) → Each P xs → Each Q xs
each_on f [] h = tt
each_on f (x ∷ xs) h = (f x h.0, each_on f xs h.1)

pub is_true : (b : Bool) → T b → b ≡ true
is_true true h = refl
is_true false h = absurd h

pub more : (a b : ℕ) → is_lt (nat_cmp a b) ≡ true → a < b
more a b e = grind (arith, nat_tests)

apart : (a b : ℕ) → a < b → eqb b a ≡ false
apart a b h = grind (arith, nat_tests)

same : (a : ℕ) → eqb a a ≡ true
same a = grind (arith, nat_tests)

module _ {X : Type 0} where
  past : (y : ℕ × X) (ys zs : List (ℕ × X)) → T (below_all nat_cmp y.0 zs)
      → Each (λ (e : ℕ × X). lookup e.0 ys ≡ Some e.1) zs → Each (λ (e : ℕ × X). lookup e.0 (y ∷ ys) ≡ Some e.1) zs
  past y ys [] b h = tt
  past y ys (z ∷ zs) b h =
      let parts = both_true _ _ b in (
        ap (λ b. cond b (Some y.1) (lookup z.0 ys)) (apart y.0 z.0 (more y.0 z.0 (is_true _ parts.0)))
            ∙ h.0,
        past y ys zs parts.1 h.1,
      )

  each_found : (es : List (ℕ × X)) → T (is_sorted nat_cmp es) → Each (λ (e : ℕ × X). lookup e.0 es ≡ Some e.1) es
  each_found [] s = tt
  each_found (y ∷ ys) s =
      let parts = both_true _ _ s in
      (ap (λ b. cond b (Some y.1) (lookup y.0 ys)) (same y.0), past y ys ys parts.0 (each_found ys parts.1))

  -- a map has each of its entries
  pub each_entry : (m : FinMap nat_cmp X) → Each (λ (e : ℕ × X). finmap.get m e.0 ≡ Some e.1) (finmap.entries m)
  each_entry m = each_on (λ e h. get_is m e.0 ∙ h) (finmap.entries m) (each_found (finmap.entries m) (entries_sorted m))
