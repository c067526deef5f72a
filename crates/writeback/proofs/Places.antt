-- An entry by its place in a list: what a search for a key finds.
use Rattle.std.proofs.Common.{◌≡◌, ℕ, ◌<◌, zero, suc, true, false, not, eqb, List, [], ◌∷◌, length, get_or, refl, arith}
use Rattle.std.specs.Prelude.{Some, None, position}
use Rattle.std.specs.List.{prefix_len}
use Rattle.std.proofs.lemmas.Bool.Decides.{nat_tests}
use Rattle.std.proofs.lemmas.List.Quantifiers.{position-Some}
use Rattle.std.proofs.lemmas.List.Sums.{prefix_len_passes}
use Rattle.writeback.proofs.MapLaws.{lookup}

module _ {X : Type 0} where
  -- the first entry with the key stands at i
  lookup_at : (q : ℕ) (es : List (ℕ × X)) (i : ℕ) (d : ℕ × X) → i < length es → eqb (get_or es i d).0 q ≡ true
      → ((k : ℕ) → k < i → eqb (get_or es k d).0 q ≡ false) → lookup q es ≡ Some (get_or es i d).1
  lookup_at q [] i d h e n = absurd (omega arith)
  lookup_at q (x ∷ es) zero d h e n = grind (arith, nat_tests)
  lookup_at q (x ∷ es) (suc i) d h e n =
      let first : eqb x.0 q ≡ false = n 0 (omega arith) in
      let later : lookup q es ≡ Some (get_or es i d).1 =
      lookup_at q es i d (omega arith) e (λ k l. n (suc k) (omega arith)) in
      grind (arith, nat_tests)

  lookup_none : (q : ℕ) (es : List (ℕ × X)) → ((k : ℕ) (d : ℕ × X) → k < length es → eqb (get_or es k d).0 q ≡ false)
      → lookup q es ≡ None
  lookup_none q [] n = refl
  lookup_none q (x ∷ es) n =
      let first : eqb x.0 q ≡ false = n 0 x (omega arith) in
      let later : lookup q es ≡ None = lookup_none q es (λ k d l. n (suc k) d (omega arith)) in
      grind (arith, nat_tests)

  position_none : (q : ℕ) (es : List (ℕ × X)) → position (λ (e : ℕ × X). eqb e.0 q) es ≡ None → (k : ℕ) (d : ℕ × X)
      → k < length es → eqb (get_or es k d).0 q ≡ false
  position_none q es e k d h =
      let passes : k < prefix_len (λ (x : ℕ × X). not (eqb x.0 q)) es → not (eqb (get_or es k d).0 q) ≡ true =
      prefix_len_passes (λ (x : ℕ × X). not (eqb x.0 q)) es k d in
      grind (arith, nat_tests)

  pub lookup-position_none : (q : ℕ) (es : List (ℕ × X)) → position (λ (e : ℕ × X). eqb e.0 q) es ≡ None
      → lookup q es ≡ None
  lookup-position_none q es e = lookup_none q es (position_none q es e)

  pub lookup-position : (q : ℕ) (es : List (ℕ × X)) (i : ℕ) (d : ℕ × X)
      → position (λ (e : ℕ × X). eqb e.0 q) es ≡ Some i → lookup q es ≡ Some (get_or es i d).1
  lookup-position q es i d e =
      let is = position-Some (λ (x : ℕ × X). eqb x.0 q) es i d e in
      lookup_at q es i d is.0 is.1 is.2
