-- A map of what a function gives of the values of another, where it gives one.
use Rattle.std.proofs.Common.{◌≡◌, ℕ, Bool, true, false, cond, eqb, eqb-true, T, List, [], ◌∷◌, refl, ap, sym, ◌∙◌}
use Rattle.std.proofs.Common.{arith, Option, Some, None, option_map, option_and_then, filter_map, nat_cmp}
use Rattle.std.specs.List.{cons_option}
use Rattle.std.specs.Cmp.{nat_cmp_total, unsigned_tied}
use Rattle.std.specs.FinMap as finmap
use Rattle.std.specs.FinMap.{FinMap, find, get-empty, get-entries, get-from_entries, entries_sorted}
use Rattle.std.specs.FinMap.Entries.{below_all, is_sorted}
use Rattle.maps.specs.Maps.{filter_map_values, put_some}
use Rattle.maps.proofs.Found.{above, both_true}
use Rattle.maps.proofs.MapLaws.{same_nat_map}
use Rattle.maps.proofs.Maps.{get-insert_nat, get-remove_nat}

module _ {X Y : Type 0} (g : X → Option Y) where
  abbrev given : List (ℕ × X) → List (ℕ × Y)
  given es = filter_map (λ (e : ℕ × X). option_map (λ y. (e.0, y)) (g e.1)) es

  -- a key below all entries is none of theirs
  past : (q k : ℕ) (es : List (ℕ × X)) → T (below_all nat_cmp k es) → q ≡ k → (o : Option X) → find nat_cmp q es ≡ o
      → o ≡ None
  past q k es low same None e = refl
  past q k es low same (Some x) e = absurd (let l = above k q x es low e in omega arith)

  find-given : (q : ℕ) (es : List (ℕ × X)) → T (is_sorted nat_cmp es)
      → find nat_cmp q (given es) ≡ option_and_then g (find nat_cmp q es)
  find-given q [] h = refl
  find-given q (e ∷ es) h =
      let parts : T (below_all nat_cmp e.0 es) × T (is_sorted nat_cmp es) = both_true _ _ h in
      first (find-given q es parts.1) (g e.1) refl (eqb q e.0) refl
      (past q e.0 es parts.0) ∙ ap (λ b. option_and_then g (cond b (Some e.1) (find nat_cmp q es)))
      (sym (unsigned_tied q e.0))
    where
      front : {o : Option Y} → g e.1 ≡ o → find nat_cmp q (given (e ∷ es))
          ≡ find nat_cmp q (cons_option (option_map (λ y. (e.0, y)) o) (given es))
      front n = ap (λ o. find nat_cmp q (cons_option (option_map (λ y. (e.0, y)) o) (given es))) n

      first : find nat_cmp q (given es) ≡ option_and_then g (find nat_cmp q es) → (o : Option Y) → g e.1 ≡ o
          → (b : Bool)
          → eqb q e.0 ≡ b → (q ≡ e.0 → (o : Option X) → find nat_cmp q es ≡ o → o ≡ None)
          → find nat_cmp q (given (e ∷ es)) ≡ option_and_then g (cond b (Some e.1) (find nat_cmp q es))
      first rest None n true t low = front n ∙ rest
          ∙ ap (option_and_then g) (low (eqb-true q e.0 t) (find nat_cmp q es) refl) ∙ sym n
      first rest None n false t low = front n ∙ rest
      first rest (Some y) n true t low =
          front n ∙ ap (λ b. cond b (Some y) (find nat_cmp q (given es))) (unsigned_tied q e.0 ∙ t) ∙ sym n
      first rest (Some y) n false t low =
          front n ∙ ap (λ b. cond b (Some y) (find nat_cmp q (given es))) (unsigned_tied q e.0 ∙ t) ∙ rest

  pub get-filter_map_values : (m : FinMap nat_cmp X) (q : ℕ)
      → finmap.get (filter_map_values g m) q ≡ option_and_then g (finmap.get m q)
  get-filter_map_values m q = get-from_entries nat_cmp_total (given (finmap.entries m)) q
      ∙ find-given q (finmap.entries m) (entries_sorted m) ∙ ap (option_and_then g) (sym (get-entries m q))

  pub filter_map_values-empty : filter_map_values g (finmap.empty {X = X} {R = nat_cmp}) ≡ finmap.empty
  filter_map_values-empty = same_nat_map _ _ (λ q. get-filter_map_values finmap.empty q
      ∙ ap (option_and_then g) (get-empty nat_cmp q) ∙ sym (get-empty nat_cmp q))

  pub filter_map_values-remove : (m : FinMap nat_cmp X) (k : ℕ)
      → filter_map_values g (finmap.remove m k) ≡ finmap.remove (filter_map_values g m) k
  filter_map_values-remove m k = same_nat_map _ _ (λ q. get-filter_map_values (finmap.remove m k) q
      ∙ ap (option_and_then g) (get-remove_nat m k q) ∙ cut (eqb q k) (finmap.get m q)
      ∙ ap (cond (eqb q k) None) (sym (get-filter_map_values m q)) ∙ sym (get-remove_nat (filter_map_values g m) k q))
    where
      cut : (b : Bool) (o : Option X) → option_and_then g (cond b None o) ≡ cond b None (option_and_then g o)
      cut true o = refl
      cut false o = refl

  pub filter_map_values-insert : (m : FinMap nat_cmp X) (k : ℕ) (x : X) (y : Y) → g x ≡ Some y
      → filter_map_values g (finmap.insert m k x) ≡ finmap.insert (filter_map_values g m) k y
  filter_map_values-insert m k x y e = same_nat_map _ _ (λ q. get-filter_map_values (finmap.insert m k x) q
      ∙ ap (option_and_then g) (get-insert_nat m k x q) ∙ put (eqb q k) (finmap.get m q)
      ∙ ap (cond (eqb q k) (Some y)) (sym (get-filter_map_values m q))
      ∙ sym (get-insert_nat (filter_map_values g m) k y q))
    where
      put : (b : Bool) (o : Option X) → option_and_then g (cond b (Some x) o) ≡ cond b (Some y) (option_and_then g o)
      put true o = e
      put false o = refl

  -- a value of which the function gives what it gave there before
  pub filter_map_values-same : (m : FinMap nat_cmp X) (k : ℕ) (x : X) → g x ≡ option_and_then g (finmap.get m k)
      → filter_map_values g (finmap.insert m k x) ≡ filter_map_values g m
  filter_map_values-same m k x e = same_nat_map _ _ (λ q. get-filter_map_values (finmap.insert m k x) q
      ∙ ap (option_and_then g) (get-insert_nat m k x q) ∙ put q (eqb q k) refl ∙ sym (get-filter_map_values m q))
    where
      put : (q : ℕ) (b : Bool) → eqb q k ≡ b
          → option_and_then g (cond b (Some x) (finmap.get m q)) ≡ option_and_then g (finmap.get m q)
      put q true t = e ∙ ap (λ j. option_and_then g (finmap.get m j)) (sym (eqb-true q k t))
      put q false t = refl

  -- a value where none was
  pub filter_map_values-put : (m : FinMap nat_cmp X) (k : ℕ) (x : X) → finmap.get m k ≡ None
      → filter_map_values g (finmap.insert m k x) ≡ put_some k (g x) (filter_map_values g m)
  filter_map_values-put m k x none = put (g x) refl
    where
      put : (o : Option Y) → g x ≡ o → filter_map_values g (finmap.insert m k x) ≡ put_some k o (filter_map_values g m)
      put None e = filter_map_values-same m k x (e ∙ ap (option_and_then g) (sym none))
      put (Some y) e = filter_map_values-insert m k x y e
