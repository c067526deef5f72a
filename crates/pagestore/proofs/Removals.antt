-- The pages of a file from one on leave the store, one by one.
use Rattle.std.proofs.Common.{◌≡◌, ℕ, ◌+◌, ◌<◌, ◌≤◌, ◌⊎◌, Bool, true, false, cond, not, eqb, eqb-true, eq-eqb, length}
use Rattle.std.proofs.Common.{refl, ap, sym, subst, ◌∙◌, arith, inl, inr}
use Rattle.std.specs.Prelude.{◌&&◌, ◌||◌, Option, Some, None, is_some, nat_le, nat_lt}
use Rattle.std.specs.FinMap as finmap
use Rattle.std.specs.FinMap.{FinMap}
use Rattle.std.specs.Ordering.{nat_cmp}
use Rattle.std.specs.FinSet as set
use Rattle.std.specs.FinSet.{contains-insert, contains-remove, len-insert, same_set}
use Rattle.std.proofs.lemmas.Bool.Decides.{nat_tests}
use Rattle.pc_types.specs.Spots.{place_cmp}
use Rattle.machine.specs.State.{Page}
use Rattle.pagestore.specs.Cuts.{RemovesFrom, pages_below}
use Rattle.machine.specs.PageLists as lists
use Rattle.machine.specs.PageLists.{cut_off}
use Rattle.pagestore.specs.Store.{Store, stored_at, stored_page, is_awaited, with_pages, with_lists}
use Rattle.machine.proofs.steps.Choices.{none_of}
use Rattle.mapping.proofs.MapLemmas.{len_remove_old}
use Rattle.pagestore.proofs.ListedFrames.{cut_left}
use Rattle.maps.proofs.Maps.{get-remove_nat}
use Rattle.maps.proofs.MapLaws.{get-retain_nat, same_nat_map, places_antisymmetric, places_total, same_place}
use Rattle.pagestore.proofs.RangeLemmas.{length-with, pages-with, with-itself, with-with}

-- a map with an entry less
len_at : {X : Type 0} (m : FinMap nat_cmp X) (k : ℕ) (o : Option X) → finmap.get m k ≡ o → is_some o ≡ true
    → finmap.len m ≡ finmap.len (finmap.remove m k) + 1
len_at m k None at h = absurd cc
len_at m k (Some x) at h = len_remove_old m k x at

len_one_less : {X : Type 0} (m : FinMap nat_cmp X) (k : ℕ) → is_some (finmap.get m k) ≡ true
    → finmap.len m ≡ finmap.len (finmap.remove m k) + 1
len_one_less m k h = len_at m k (finmap.get m k) refl h

-- a set with a place less
one_fewer : (s : set.FinSet place_cmp) (f p : ℕ) → set.contains s (f, p) ≡ true
    → set.len s ≡ set.len (set.remove s (f, p)) + 1
one_fewer s f p there =
    ap set.len (sym back) ∙ len-insert places_total (set.remove s (f, p)) (f, p)
    ∙ ap (λ b. cond b (set.len (set.remove s (f, p))) (set.len (set.remove s (f, p)) + 1))
    (without f p ∙ (λ i. not (eq-eqb f f refl i && eq-eqb p p refl i) && set.contains s (f, p)))
  where
    without : (g q : ℕ) → set.contains (set.remove s (f, p)) (g, q)
        ≡ (not (eqb g f && eqb q p) && set.contains s (g, q))
    without g q = contains-remove places_total s (f, p) (g, q)
        ∙ ap (λ b. not b && set.contains s (g, q)) (same_place g q f p)

    either : (g q : ℕ) (a b : Bool) → eqb g f ≡ a → eqb q p ≡ b → ((a && b) || (not (a && b) && set.contains s (g, q)))
        ≡ set.contains s (g, q)
    either g q true true d e = sym ((λ i. set.contains s (eqb-true g f d i, eqb-true q p e i)) ∙ there)
    either g q true false d e = refl
    either g q false b d e = refl

    back : set.insert (set.remove s (f, p)) (f, p) ≡ s
    back = same_set places_total places_antisymmetric (set.insert (set.remove s (f, p)) (f, p)) s
        (λ place. contains-insert places_total (set.remove s (f, p)) (f, p) place
        ∙ (λ i. same_place place.0 place.1 f p i || without place.0 place.1 i)
        ∙ either place.0 place.1 (eqb place.0 f) (eqb place.1 p) refl refl)

-- some of the pages of file f from n on are neither cached nor filling any more
pub record IsRemoving (f n : ℕ) (old now : Store) : Type 0 where
  pub rest : now ≡ record (with_pages old f (stored_at now f).pages now.free)
      { filling = now.filling; lists = now.lists }
  pub pages : (q : ℕ) → (stored_page now f q ≡ stored_page old f q) ⊎ ((n ≤ q) × (stored_page now f q ≡ None))
  pub filling : (g q : ℕ) → (is_awaited now g q ≡ is_awaited old g q)
      ⊎ ((g ≡ f) × (n ≤ q) × (is_awaited now g q ≡ false))
  pub freed : now.free + finmap.len (stored_at now f).pages + set.len now.filling ≡ old.free
      + finmap.len (stored_at old f).pages + set.len old.filling
  -- those that left are among those that are cut off
  pub lists : cut_off f n now.lists ≡ cut_off f n old.lists

pub removing_begins : (f n : ℕ) (old : Store) → IsRemoving f n old old
removing_begins f n old =
    record {
      rest = sym (with-itself old f);
      pages = λ q. inl refl;
      filling = λ g q. inl refl;
      freed = refl;
      lists = refl;
    }

module _ (f n : ℕ) (old now : Store) (w : IsRemoving f n old now) where
  none_there : (o : Option Page) (b : Bool) → (is_some o || b) ≡ false → (o ≡ None) × (b ≡ false)
  none_there o b e = elim (is_some o) as (λ k. is_some o ≡ k → (k || b) ≡ false → (o ≡ None) × (b ≡ false)) [
    | true ↦ λ _ k. absurd cc
    | false ↦ λ none k. (none_of o none, k)
  ] refl e

  -- none is left
  pub removing_ends : ((q : ℕ) → n ≤ q → (is_some (stored_page now f q) || is_awaited now f q) ≡ false)
      → cut_off f n now.lists ≡ now.lists → RemovesFrom old now f n
  removing_ends none unlisted =
      let kept : (stored_at now f).pages ≡ pages_below old f n =
      same_nat_map (stored_at now f).pages (pages_below old f n)
      (λ q. one q (nat_lt q n) refl ∙ sym (get-retain_nat (stored_at old f).pages (λ p. nat_lt p n) q)) in
      record {
        pages = w.rest ∙ (λ i. record (with_pages old f (kept i) now.free)
            { filling = now.filling; lists = (sym unlisted ∙ w.lists) i });
        filling = λ g q. place g q (eqb g f && nat_le n q) refl;
        freed = (let same = ap (λ (m : FinMap nat_cmp Page). finmap.len m) kept in omega (arith, w.freed, same));
      }
    where
      low : (q : ℕ) → nat_lt q n ≡ true → n ≤ q → ⊥
      low q e h = absurd (let k : nat_lt q n ≡ false = grind (arith, nat_tests) in cc)

      high : (q : ℕ) → nat_lt q n ≡ false → n ≤ q
      high q e = grind (arith, nat_tests)

      one : (q : ℕ) (b : Bool) → nat_lt q n ≡ b → stored_page now f q ≡ cond b (stored_page old f q) None
      one q true e = elim (w.pages q) [ inl h ↦ h | inr h ↦ absurd (low q e h.0) ]
      one q false e = (none_there (stored_page now f q) (is_awaited now f q) (none q (high q e))).0

      yes : (a b : Bool) → (a && b) ≡ true → (a ≡ true) × (b ≡ true)
      yes true b e = (refl, e)
      yes false b e = absurd cc

      reach : (q : ℕ) → nat_le n q ≡ true → n ≤ q
      reach q e = grind (arith, nat_tests)

      place : (g q : ℕ) (b : Bool) → (eqb g f && nat_le n q) ≡ b → is_awaited now g q ≡ (is_awaited old g q && not b)
      place g q true e =
          let both = yes (eqb g f) (nat_le n q) e in
          let same = eqb-true g f both.0 in
          ap (λ k. is_awaited now k q) same
          ∙ (none_there (stored_page now f q) (is_awaited now f q) (none q (reach q both.1))).1
          ∙ never (is_awaited old g q)
        where
          never : (b : Bool) → false ≡ (b && false)
          never true = refl
          never false = refl
      place g q false e = elim (w.filling g q) [
        | inl h ↦ h ∙ always (is_awaited old g q)
        | inr h ↦ absurd (let a = eq-eqb g f h.0 in let b : nat_le n q ≡ true = within q h.1 in
            let both : (eqb g f && nat_le n q) ≡ true = (λ i. a i && b i) in cc)
      ]
        where
          within : (q : ℕ) → n ≤ q → nat_le n q ≡ true
          within q h = grind (arith, nat_tests)

          always : (b : Bool) → b ≡ (b && true)
          always true = refl
          always false = refl

  -- ---- one page more

  module _ (here : f < length old.files) (p : ℕ) (high : n ≤ p) (next : Store) where
    here_now : f < length now.files
    here_now =
        omega (
          arith,
          here,
          ap (λ (s : Store). length s.files) w.rest,
          length-with old f (stored_at now f).pages now.free,
        )

    -- it was cached
    module _ (there : is_some (stored_page now f p) ≡ true)
        (is : next ≡ with_lists (with_pages now f (finmap.remove (stored_at now f).pages p) (now.free + 1))
        (lists.left f p now.lists)) where
      abbrev left : FinMap nat_cmp Page
      left = finmap.remove (stored_at now f).pages p

      pages_now : (stored_at next f).pages ≡ left
      pages_now = ap (λ (s : Store). (stored_at s f).pages) is ∙ pages-with now f here_now left (now.free + 1)

      free_now : next.free ≡ now.free + 1
      free_now = ap (λ (s : Store). s.free) is

      lists_now : next.lists ≡ lists.left f p now.lists
      lists_now = ap (λ (s : Store). s.lists) is

      fills_now : next.filling ≡ now.filling
      fills_now = ap (λ (s : Store). s.filling) is

      fewer : finmap.len (stored_at now f).pages ≡ finmap.len (stored_at next f).pages + 1
      fewer = len_one_less (stored_at now f).pages p there
          ∙ ap (λ (m : FinMap nat_cmp Page). finmap.len m + 1) (sym pages_now)

      pub removed_page : IsRemoving f n old next
      removed_page = record {
        rest =
            is
            ∙ (λ i. with_lists (with_pages (w.rest i) f left (now.free + 1)) (lists.left f p now.lists))
            ∙ ap (λ (s : Store). with_lists s (lists.left f p now.lists))
            (with-with (record old { filling = now.filling; lists = now.lists }) f here (stored_at now f).pages left
            now.free (now.free + 1))
            ∙ (λ i. record (with_pages old f (sym pages_now i) (sym free_now i))
            { filling = sym fills_now i; lists = sym lists_now i });
        pages = λ q. each q (eqb q p) refl (ap (λ (m : FinMap nat_cmp Page). finmap.get m q) pages_now
            ∙ get-remove_nat (stored_at now f).pages p q);
        filling =
            λ g q. subst (λ (s : set.FinSet place_cmp). (set.contains s (g, q) ≡ is_awaited old g q)
            ⊎ ((g ≡ f) × (n ≤ q) × (set.contains s (g, q) ≡ false))) (sym fills_now) (w.filling g q);
        freed = (let same = ap (λ (s : set.FinSet place_cmp). set.len s) fills_now in
            omega (arith, w.freed, fewer, free_now, same));
        lists = ap (cut_off f n) lists_now ∙ cut_left f n p high now.lists ∙ w.lists;
      }
        where
          each : (q : ℕ) (b : Bool) → eqb q p ≡ b → stored_page next f q ≡ cond b None (stored_page now f q)
              → (stored_page next f q ≡ stored_page old f q) ⊎ ((n ≤ q) × (stored_page next f q ≡ None))
          each q true e k = inr ((let same = eqb-true q p e in omega (arith, high, same)), k)
          each q false e k = elim (w.pages q) [ inl h ↦ inl (k ∙ h) | inr h ↦ inr (h.0, k ∙ h.1) ]

      pub fewer_page : finmap.len (stored_at next f).pages + set.len next.filling < finmap.len (stored_at now f).pages
          + set.len now.filling
      fewer_page = let same = ap (λ (s : set.FinSet place_cmp). set.len s) fills_now in omega (arith, fewer, same)

    -- it was filling
    module _ (there : is_awaited now f p ≡ true)
        (is : next ≡ record now {
          filling = set.remove now.filling (f, p);
          free = now.free + 1;
          lists = lists.left f p now.lists;
        }) where
      free_after : next.free ≡ now.free + 1
      free_after = ap (λ (s : Store). s.free) is

      lists_after : next.lists ≡ lists.left f p now.lists
      lists_after = ap (λ (s : Store). s.lists) is

      fills_after : next.filling ≡ set.remove now.filling (f, p)
      fills_after = ap (λ (s : Store). s.filling) is

      fewer_fills : set.len now.filling ≡ set.len next.filling + 1
      fewer_fills = one_fewer now.filling f p there ∙ ap (λ (s : set.FinSet place_cmp). set.len s + 1) (sym fills_after)

      pages_after : (stored_at next f).pages ≡ (stored_at now f).pages
      pages_after = ap (λ (s : Store). (stored_at s f).pages) is

      pub removed_fill : IsRemoving f n old next
      removed_fill = record {
        rest =
            is
            ∙ (λ i. record (w.rest i) {
              filling = set.remove now.filling (f, p);
              free = now.free + 1;
              lists = lists.left f p now.lists;
            })
            ∙ (λ i. record (with_pages old f (sym pages_after i) (sym free_after i))
            { filling = sym fills_after i; lists = sym lists_after i });
        pages = λ q. subst (λ (m : FinMap nat_cmp Page). (finmap.get m q ≡ stored_page old f q)
            ⊎ ((n ≤ q) × (finmap.get m q ≡ None))) (sym pages_after) (w.pages q);
        filling =
            λ g q. each g q (eqb g f) (eqb q p) refl refl
            (ap (λ (s : set.FinSet place_cmp). set.contains s (g, q)) fills_after
            ∙ contains-remove places_total now.filling (f, p) (g, q)
            ∙ ap (λ b. not b && is_awaited now g q) (same_place g q f p));
        freed = (let same = ap (λ (m : FinMap nat_cmp Page). finmap.len m) pages_after in
            omega (arith, w.freed, fewer_fills, free_after, same));
        lists = ap (cut_off f n) lists_after ∙ cut_left f n p high now.lists ∙ w.lists;
      }
        where
          each : (g q : ℕ) (a b : Bool) → eqb g f ≡ a → eqb q p ≡ b
              → is_awaited next g q ≡ (not (a && b) && is_awaited now g q) → (is_awaited next g q ≡ is_awaited old g q)
              ⊎ ((g ≡ f) × (n ≤ q) × (is_awaited next g q ≡ false))
          each g q true true e d k = inr (eqb-true g f e, (let same = eqb-true q p d in omega (arith, high, same)), k)
          each g q true false e d k = elim (w.filling g q) [ inl h ↦ inl (k ∙ h) | inr h ↦ inr (h.0, h.1, k ∙ h.2) ]
          each g q false b e d k = elim (w.filling g q) [ inl h ↦ inl (k ∙ h) | inr h ↦ inr (h.0, h.1, k ∙ h.2) ]

      pub fewer_fill : finmap.len (stored_at next f).pages + set.len next.filling < finmap.len (stored_at now f).pages
          + set.len now.filling
      fewer_fill = let same = ap (λ (m : FinMap nat_cmp Page). finmap.len m) pages_after in
          omega (arith, fewer_fills, same)

-- the file is there, and the page was cached or filling
module _ (f n : ℕ) (old now : Store) (w : IsRemoving f n old now) (here : f < length old.files) (p : ℕ) (high : n ≤ p)
    (there : (is_some (stored_page now f p) || is_awaited now f p) ≡ true) (next : Store)
    (page : is_some (stored_page now f p) ≡ true
    → next ≡ with_lists (with_pages now f (finmap.remove (stored_at now f).pages p) (now.free + 1))
    (lists.left f p now.lists))
    (fill : is_awaited now f p ≡ true
    → next ≡ record now {
      filling = set.remove now.filling (f, p);
      free = now.free + 1;
      lists = lists.left f p now.lists;
    }) where
  other : (a b : Bool) → (a || b) ≡ true → a ≡ false → b ≡ true
  other true b e k = absurd cc
  other false b e k = e

  pub removing_goes_on : IsRemoving f n old next
      × (finmap.len (stored_at next f).pages + set.len next.filling < finmap.len (stored_at now f).pages
      + set.len now.filling)
  removing_goes_on =
      elim (is_some (stored_page now f p)) as (λ b. is_some (stored_page now f p) ≡ b
      → IsRemoving f n old next × (finmap.len (stored_at next f).pages + set.len next.filling
      < finmap.len (stored_at now f).pages + set.len now.filling)) [
        | true ↦ λ e. (
          removed_page f n old now w here p high next e (page e),
          fewer_page f n old now w here p high next e (page e),
        )
        | false ↦ λ e. (let waits = other _ _ there e in (
          removed_fill f n old now w here p high next waits (fill waits),
          fewer_fill f n old now w here p high next waits (fill waits),
        ))
      ] refl

pub removing_here : (f n : ℕ) (old now : Store) → IsRemoving f n old now → f < length old.files → f < length now.files
removing_here f n old now w here =
    omega (arith, here, ap (λ (s : Store). length s.files) w.rest, length-with old f (stored_at now f).pages now.free)
