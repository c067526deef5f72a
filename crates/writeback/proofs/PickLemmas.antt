-- The picks: a search by a tag between two numbers finds what the definitions name, and skips what they skip.
use Rattle.std.proofs.Common.{◌≡◌, ℕ, ◌+◌, ◌<◌, ◌≤◌, Bool, true, false, cond, not, eqb, eqb-true, T, List, [], ◌∷◌}
use Rattle.std.proofs.Common.{refl, ap, sym, subst, ◌∙◌, arith, map, ◌&&◌, ◌||◌, Option, Some, None, option_map, find}
use Rattle.std.proofs.Common.{nat_le, nat_lt, nat_cmp}
use Rattle.std.specs.Prelude.{unwrap_or}
use Rattle.std.specs.FinMap as finmap
use Rattle.std.specs.FinMap.{FinMap, entries_sorted}
use Rattle.std.specs.FinMap.Entries.{below_all, is_sorted}
use Rattle.std.proofs.lemmas.Bool.Decides.{nat_tests}
use Rattle.pc_types.specs.Tags.{TagSet}
use Rattle.pc_types.specs.declared.tags.Tag.TheVariants.{Dirty, Writeback, Towrite}
use Rattle.mapping.specs.declared.mapping.TheConstants.{MAX_PAGES}
use Rattle.mapping.specs.declared.page.FoundPage.{FoundPage}
use Rattle.mapping.specs.Pages.{FilePages, IsNumbered, Mapped, Pages, found, has_at, is_tagged, lowest}
use Rattle.mapping.specs.Pages.{tag_each, tag_if, with_tag, with_tags_after, within}
use Rattle.mapping.proofs.MapLemmas.{find_same, both_true}
use Rattle.mapping.proofs.PageLemmas.{tag_of}
use Rattle.writeback.specs.declared.picks.SyncStep.TheVariants.{Held, Start}
use Rattle.maps.specs.Maps.{change_at, each_value}
use Rattle.machine.specs.State.{Sync, in_range}
use Rattle.writeback.specs.Flights.{Flights}
use Rattle.writeback.specs.Picks.{after_write, flush_pick, is_flushable, is_left, picked, sync_pick, to_write, written_through}
use Rattle.writeback.proofs.MapLaws.{lookup, get_is}
use Rattle.writeback.proofs.Each.{Each, each_on, each_entry, more, is_true}

-- ---- searches by a test

module _ {A : Type 0} where
  find_passes : (g : A → Bool) (es : List A) (e : A) → find g es ≡ Some e → g e ≡ true
  find_passes g [] e k = absurd cc
  find_passes g (y ∷ ys) e k = elim (g y) as (λ b. g y ≡ b → cond b (Some y) (find g ys) ≡ Some e → g e ≡ true) [
    | true ↦ λ t j. ap g (sym (ap (λ o. unwrap_or o y) j)) ∙ t
    | false ↦ λ t j. find_passes g ys e j
  ] refl k

  find_each : (P : A → Type 0) (g : A → Bool) (es : List A) (e : A) → Each P es → find g es ≡ Some e → P e
  find_each P g [] e a k = absurd cc
  find_each P g (y ∷ ys) e a k = elim (g y) as (λ b. cond b (Some y) (find g ys) ≡ Some e → P e) [
    | true ↦ λ j. subst P (ap (λ o. unwrap_or o y) j) a.0
    | false ↦ λ j. find_each P g ys e a.1 j
  ] k

  -- h passes only what g does, and the first that g passes
  stronger : (g h : A → Bool) (es : List A) (e : A) → Each (λ x. g x ≡ false → h x ≡ false) es → find g es ≡ Some e
      → h e ≡ true → find h es ≡ Some e
  stronger g h [] e a k t = absurd cc
  stronger g h (y ∷ ys) e a k t =
      elim (g y) as (λ b. g y ≡ b → cond b (Some y) (find g ys) ≡ Some e → find h (y ∷ ys) ≡ Some e) [
        | true ↦ λ u j. (let same : y ≡ e = ap (λ o. unwrap_or o y) j in
            ap (λ b. cond b (Some y) (find h ys)) (ap h same ∙ t) ∙ ap Some same)
        | false ↦ λ u j. ap (λ b. cond b (Some y) (find h ys)) (a.0 u) ∙ stronger g h ys e a.1 j t
      ] refl k

  stronger_none : (g h : A → Bool) (es : List A) → Each (λ x. g x ≡ false → h x ≡ false) es → find g es ≡ None
      → find h es ≡ None
  stronger_none g h [] a k = refl
  stronger_none g h (y ∷ ys) a k =
      elim (g y) as (λ b. g y ≡ b → cond b (Some y) (find g ys) ≡ None → find h (y ∷ ys) ≡ None) [
        | true ↦ λ u j. absurd cc
        | false ↦ λ u j. ap (λ b. cond b (Some y) (find h ys)) (a.0 u) ∙ stronger_none g h ys a.1 j
      ] refl k

module _ {X : Type 0} where
  -- what is found stands before all that pass
  first_below : (k : ℕ) (g : ℕ × X → Bool) (es : List (ℕ × X)) → T (below_all nat_cmp k es)
      → Each (λ (x : ℕ × X). g x ≡ true → k ≤ x.0) es
  first_below k g [] b = tt
  first_below k g (y ∷ ys) b = let parts = both_true _ _ b in
      (λ t. let l = more k y.0 (is_true _ parts.0) in omega arith, first_below k g ys parts.1)

  lowest_each : (g : ℕ × X → Bool) (es : List (ℕ × X)) (e : ℕ × X) → T (is_sorted nat_cmp es) → find g es ≡ Some e
      → Each (λ (x : ℕ × X). g x ≡ true → e.0 ≤ x.0) es
  lowest_each g [] e s k = absurd cc
  lowest_each g (y ∷ ys) e s k =
      let parts : T (below_all nat_cmp y.0 ys) × T (is_sorted nat_cmp ys) = both_true _ _ s in
      elim (g y) as (λ b. g y ≡ b → cond b (Some y) (find g ys) ≡ Some e
      → Each (λ (x : ℕ × X). g x ≡ true → e.0 ≤ x.0) (y ∷ ys)) [
        | true ↦ λ t j. (let same : y ≡ e = ap (λ o. unwrap_or o y) j in
            subst (λ (z : ℕ × X). Each (λ (x : ℕ × X). g x ≡ true → z.0 ≤ x.0) (y ∷ ys)) same
            (λ u. omega arith, first_below y.0 g ys parts.0))
        | false ↦ λ t j. (λ u. absurd cc, lowest_each g ys e parts.1 j)
      ] refl k

  -- what holds of each entry holds of what a look-up finds
  lookup_each : (P : ℕ × X → Type 0) (es : List (ℕ × X)) (q : ℕ) (x : X) → Each P es → lookup q es ≡ Some x → P (q, x)
  lookup_each P [] q x a k = absurd cc
  lookup_each P (y ∷ ys) q x a k =
      elim (eqb q y.0) as (λ b. eqb q y.0 ≡ b → cond b (Some y.1) (lookup q ys) ≡ Some x → P (q, x)) [
        | true ↦ λ t j. (let key : y.0 ≡ q = sym (eqb-true q y.0 t) in
            let value : y.1 ≡ x = ap (λ o. unwrap_or o y.1) j in
            subst P (λ i. (key i, value i)) a.0)
        | false ↦ λ t j. lookup_each P ys q x a.1 j
      ] refl k

  get_each : (P : ℕ × X → Type 0) (m : FinMap nat_cmp X) (q : ℕ) (x : X) → Each P (finmap.entries m)
      → finmap.get m q ≡ Some x → P (q, x)
  get_each P m q x a k = lookup_each P (finmap.entries m) q x a (sym (get_is m q) ∙ k)

-- ---- a flush

-- the pages from `from` on that may be flushed
abbrev pub flushable_from : ℕ → ℕ × Mapped → Bool
flushable_from from e = nat_le from e.0 && is_flushable e

and_false : (a b c : Bool) → c ≡ false → (a && c) ≡ (b && c)
and_false a b true e = absurd cc
and_false true true false e = refl
and_false true false false e = refl
and_false false true false e = refl
and_false false false false e = refl

and_left : (a b c : Bool) → a ≡ b → (a && c) ≡ (b && c)
and_left a b c e = ap (λ x. x && c) e

-- a page that is DIRTY and under WRITEBACK is passed
skip_one : (from e x m : ℕ) (d w : Bool) → from ≤ e → x < m → ((nat_le from x && nat_le x m && d) ≡ true → e ≤ x)
    → (x ≡ e → w ≡ true) → (nat_le from x && (d && not w)) ≡ (nat_le (e + 1) x && (d && not w))
skip_one from e x m false w l h low same = and_false (nat_le from x) (nat_le (e + 1) x) false refl
skip_one from e x m true true l h low same = and_false (nat_le from x) (nat_le (e + 1) x) false refl
skip_one from e x m true false l h low same = and_left (nat_le from x) (nat_le (e + 1) x) true (go (nat_le from x) refl)
  where
    apart : x ≡ e → ⊥
    apart k = absurd (let t = same k in cc)

    inside : nat_le x m ≡ true
    inside = grind (arith, nat_tests)

    all : (a b : Bool) → a ≡ true → b ≡ true → (a && b && true) ≡ true
    all true b s t = t2 b t
      where
        t2 : (b : Bool) → b ≡ true → (true && b && true) ≡ true
        t2 true t = refl
        t2 false t = absurd cc
    all false b s t = absurd cc

    go : (b : Bool) → nat_le from x ≡ b → nat_le from x ≡ nat_le (e + 1) x
    go true t = let above : e ≤ x = low (all (nat_le from x) (nat_le x m) t inside) in reach t above apart
      where
        reach : nat_le from x ≡ true → e ≤ x → (x ≡ e → ⊥) → nat_le from x ≡ nat_le (e + 1) x
        reach t a n = grind (arith, nat_tests)
    go false t = below_it t l
      where
        below_it : nat_le from x ≡ false → from ≤ e → nat_le from x ≡ nat_le (e + 1) x
        below_it t l = grind (arith, nat_tests)

split : (o : Option (ℕ × Mapped)) (f : FoundPage) → Some f ≡ option_map found o
    → (e : ℕ × Mapped) × (o ≡ Some e) × (f ≡ found e)
split None f h = absurd cc
split (Some e) f h = (e, refl, ap (λ (p : Option FoundPage). unwrap_or p f) h)

-- a search by tag passes no page that may be flushed
only_tagged : (pages : Pages) (from : ℕ) → IsNumbered pages
    → Each (λ (x : ℕ × Mapped). is_tagged Dirty from MAX_PAGES x ≡ false → flushable_from from x ≡ false)
    (finmap.entries pages)
only_tagged pages from numbered =
    each_on (λ x there t. go (nat_le from x.0) (nat_le x.0 MAX_PAGES) x.1.tags.dirty x.1.tags.writeback
    (inside x.0 (numbered.each x.0 x.1 there)) t) (finmap.entries pages) (each_entry pages)
  where
    inside : (p : ℕ) → p < MAX_PAGES → nat_le p MAX_PAGES ≡ true
    inside p h = grind (arith, nat_tests)

    go : (a b d w : Bool) → b ≡ true → (a && b && d) ≡ false → (a && (d && not w)) ≡ false
    go true true true w s t = absurd cc
    go true true false w s t = refl
    go true false d w s t = absurd cc
    go false b d w s t = refl

pub flush_starts : (pages : Pages) → find (flushable_from 0) (finmap.entries pages)
    ≡ find is_flushable (finmap.entries pages)
flush_starts pages = find_same (flushable_from 0) is_flushable pages
    (λ k x there. let low : nat_le 0 k ≡ true = grind (arith, nat_tests) in ap (λ b. b && is_flushable (k, x)) low)

module _ (pages : Pages) (from : ℕ) (numbered : IsNumbered pages)
    (so_far : find (flushable_from from) (finmap.entries pages) ≡ find is_flushable (finmap.entries pages)) where
  pub flush_ends : None ≡ lowest (is_tagged Dirty from MAX_PAGES) pages → None ≡ option_map found (flush_pick pages)
  flush_ends h =
      ap (option_map found) (sym (sym so_far
      ∙ stronger_none (is_tagged Dirty from MAX_PAGES) (flushable_from from) (finmap.entries pages)
      (only_tagged pages from numbered) (none_of (find (is_tagged Dirty from MAX_PAGES) (finmap.entries pages)) h)))
    where
      none_of : (o : Option (ℕ × Mapped)) → None ≡ option_map found o → o ≡ None
      none_of None k = refl
      none_of (Some e) k = absurd cc

  module _ (f : FoundPage) (is : Some f ≡ lowest (is_tagged Dirty from MAX_PAGES) pages) where
    the_entry : (e : ℕ × Mapped) × (find (is_tagged Dirty from MAX_PAGES) (finmap.entries pages) ≡ Some e)
        × (f ≡ found e)
    the_entry = split (find (is_tagged Dirty from MAX_PAGES) (finmap.entries pages)) f is

    there : (e : ℕ × Mapped) → find (is_tagged Dirty from MAX_PAGES) (finmap.entries pages) ≡ Some e
        → finmap.get pages e.0 ≡ Some e.1
    there e k = find_each (λ (x : ℕ × Mapped). finmap.get pages x.0 ≡ Some x.1) (is_tagged Dirty from MAX_PAGES)
        (finmap.entries pages) e (each_entry pages) k

    parts : (a b d : Bool) → (a && b && d) ≡ true → (a ≡ true) × (d ≡ true)
    parts true true d e = (refl, e)
    parts true false d e = absurd cc
    parts false b d e = absurd cc

    tests : (e : ℕ × Mapped) → find (is_tagged Dirty from MAX_PAGES) (finmap.entries pages) ≡ Some e
        → (nat_le from e.0 ≡ true) × (e.1.tags.dirty ≡ true)
    tests e k = parts (nat_le from e.0) (nat_le e.0 MAX_PAGES) e.1.tags.dirty
        (find_passes (is_tagged Dirty from MAX_PAGES) (finmap.entries pages) e k)

    reached : (p : ℕ) → nat_le from p ≡ true → from ≤ p
    reached p e = grind (arith, nat_tests)

    pub flush_reaches : from ≤ f.page.0
    flush_reaches = let s = the_entry in
        subst (λ n. from ≤ n) (sym (ap (λ (g : FoundPage). g.page.0) s.2)) (reached s.0.0 (tests s.0 s.1).0)

    writes : (e : ℕ × Mapped) (b : Bool) → f ≡ found e → finmap.get pages e.0 ≡ Some e.1
        → has_at pages f.page.0 Writeback ≡ b → e.1.tags.writeback ≡ b
    writes e b same at h = sym (tag_of e.0 Writeback pages e.1 at)
        ∙ ap (λ (g : FoundPage). has_at pages g.page.0 Writeback) (sym same) ∙ h

    pub flush_found : has_at pages f.page.0 Writeback ≡ false → Some f ≡ option_map found (flush_pick pages)
    flush_found h =
        let s = the_entry in
        let idle = writes s.0 false s.2 (there s.0 s.1) h in
        let passes : flushable_from from s.0 ≡ true = both (nat_le from s.0.0) s.0.1.tags.dirty s.0.1.tags.writeback
        (tests s.0 s.1).0 (tests s.0 s.1).1 idle in
        ap Some s.2 ∙ ap (option_map found)
        (sym (sym so_far ∙ stronger (is_tagged Dirty from MAX_PAGES) (flushable_from from) (finmap.entries pages)
        s.0 (only_tagged pages from numbered) s.1 passes))
      where
        both : (a d w : Bool) → a ≡ true → d ≡ true → w ≡ false → (a && (d && not w)) ≡ true
        both true true true k l m = absurd cc
        both true true false k l m = refl
        both true false w k l m = absurd cc
        both false d w k l m = absurd cc

    pub flush_skips : has_at pages f.page.0 Writeback ≡ true
        → find (flushable_from (f.page.0 + 1)) (finmap.entries pages) ≡ find is_flushable (finmap.entries pages)
    flush_skips h =
        let s = the_entry in
        let busy = writes s.0 true s.2 (there s.0 s.1) h in
        let at = there s.0 s.1 in
        let low = lowest_each (is_tagged Dirty from MAX_PAGES) (finmap.entries pages) s.0 (entries_sorted pages) s.1 in
        ap (λ (g : FoundPage). find (flushable_from (g.page.0 + 1)) (finmap.entries pages)) s.2
        ∙ find_same (flushable_from (s.0.0 + 1)) (flushable_from from) pages
        (λ k x here. sym (skip_one from s.0.0 k MAX_PAGES x.tags.dirty x.tags.writeback
        (reached s.0.0 (tests s.0 s.1).0) (numbered.each k x here)
        (get_each (λ (y : ℕ × Mapped). is_tagged Dirty from MAX_PAGES y ≡ true → s.0.0 ≤ y.0) pages k x low here)
        (λ same. ap (λ (o : Option Mapped). unwrap_or (option_map (λ (y : Mapped). y.tags.writeback) o) false)
        (sym here ∙ ap (finmap.get pages) same ∙ at) ∙ busy)))
        ∙ so_far

-- ---- a sync

pub sync_picks : (pages : Pages) (y : Sync) (cursor : ℕ)
    → ((p : ℕ) → p < MAX_PAGES → within cursor y.last p
    ≡ (in_range y p && unwrap_or (option_map (λ q. nat_lt q p) y.started) true)) → IsNumbered pages
    → lowest (is_tagged Towrite cursor y.last) pages ≡ option_map found (sync_pick pages y)
sync_picks pages y cursor same numbered =
    ap (option_map found) (find_same (is_tagged Towrite cursor y.last) (is_left y) pages
    (λ k x here. ap (λ b. b && x.tags.towrite) (same k (numbered.each k x here))
    ∙ turned (in_range y k) (unwrap_or (option_map (λ q. nat_lt q k) y.started) true) x.tags.towrite))
  where
    turned : (a b t : Bool) → (a && b && t) ≡ (t && a && b)
    turned true true true = refl
    turned true true false = refl
    turned true false true = refl
    turned true false false = refl
    turned false b true = refl
    turned false b false = refl

pub tags_each : (pages : Pages) (first last : ℕ) → tag_each (is_tagged Dirty first last) Towrite pages
    ≡ each_value (to_write first last) pages
tags_each pages first last = ap finmap.from_entries (alike (finmap.entries pages))
  where
    set : (t : Bool) → true ≡ (t || true)
    set true = refl
    set false = refl

    unset : (t d : Bool) → t ≡ (t || d && false)
    unset true d = refl
    unset false true = refl
    unset false false = refl

    clean : (t a : Bool) → t ≡ (t || false && a)
    clean true a = refl
    clean false a = refl

    here : (page : Mapped) (a d : Bool) → cond (a && d) (with_tag Towrite true page) page
        ≡ record page { tags = record page.tags { towrite = page.tags.towrite || d && a } }
    here page true true = λ i. record page { tags = record page.tags { towrite = set page.tags.towrite i } }
    here page true false = λ i. record page { tags = record page.tags { towrite = clean page.tags.towrite true i } }
    here page false d = λ i. record page { tags = record page.tags { towrite = unset page.tags.towrite d i } }

    alike : (es : List (ℕ × Mapped))
        → map {B = ℕ × Mapped} (λ (e : ℕ × Mapped). (e.0, tag_if (is_tagged Dirty first last) Towrite e)) es
        ≡ map {B = ℕ × Mapped} (λ (e : ℕ × Mapped). (e.0, to_write first last e.0 e.1)) es
    alike [] = refl
    alike (e ∷ es) = λ i. (e.0, here e.1 (within first last e.0) e.1.tags.dirty i) ∷ alike es i

-- the page that is picked, by whether a write of it is in flight
module _ (pages : Pages) (y : Sync) (f : FoundPage) (is : Some f ≡ option_map found (sync_pick pages y)) where
  its_write : (e : ℕ × Mapped) (b : Bool) → sync_pick pages y ≡ Some e → f ≡ found e
      → has_at pages f.page.0 Writeback ≡ b → e.1.tags.writeback ≡ b
  its_write e b k same h =
      sym (tag_of e.0 Writeback pages e.1
      (find_each (λ (x : ℕ × Mapped). finmap.get pages x.0 ≡ Some x.1) (is_left y) (finmap.entries pages) e
      (each_entry pages) k))
      ∙ ap (λ (g : FoundPage). has_at pages g.page.0 Writeback) (sym same) ∙ h

  pub pick_held : (file : ℕ) (t : Flights) → has_at pages f.page.0 Writeback ≡ true
      → Held f.page ≡ picked file y t (sync_pick pages y)
  pick_held file t h =
      let s = split (sync_pick pages y) f is in
      ap (λ (g : FoundPage). Held g.page) s.2
      ∙ sym (ap (picked file y t) s.1
      ∙ ap (λ b. cond b (Held (record { 0 = s.0.0 })) (Start (found s.0))) (its_write s.0 true s.1 s.2 h))

  pub pick_starts : (file : ℕ) (t : Flights) → has_at pages f.page.0 Writeback ≡ false
      → Start f ≡ picked file y t (sync_pick pages y)
  pick_starts file t h =
      let s = split (sync_pick pages y) f is in
      ap Start s.2 ∙ sym (ap (picked file y t) s.1
      ∙ ap (λ b. cond b (Held (record { 0 = s.0.0 })) (Start (found s.0))) (its_write s.0 false s.1 s.2 h))

-- ---- a write ends

pub ended_tags : (file : FilePages) (page : ℕ) (failed : Bool) (clear set : TagSet)
    → clear ≡ record { dirty = false; writeback = true; towrite = false }
    → set ≡ record { dirty = failed; writeback = false; towrite = false }
    → record file { pages = change_at page (with_tags_after clear set) file.pages }
    ≡ record file { pages = change_at page (after_write failed) file.pages }
ended_tags file page failed clear set a b =
    (λ i. record file { pages = change_at page (with_tags_after (a i) (b i)) file.pages })
    ∙ ap (λ (f : Mapped → Mapped). record file { pages = change_at page f file.pages })
    (λ i m. record m {
      tags = record m.tags { dirty = m.tags.dirty || failed; writeback = false; towrite = or_false m.tags.towrite i };
    })
  where
    or_false : (b : Bool) → (b || false) ≡ b
    or_false true = refl
    or_false false = refl

-- ---- one that began and ended in one

pub through_tags : (file : FilePages) (page : ℕ) (failed : Bool) (clear set : TagSet)
    → clear ≡ record { dirty = true; writeback = true; towrite = true }
    → set ≡ record { dirty = failed; writeback = false; towrite = false }
    → record file { pages = change_at page (with_tags_after clear set) file.pages }
    ≡ record file { pages = change_at page (written_through failed) file.pages }
through_tags file page failed clear set a b =
    (λ i. record file { pages = change_at page (with_tags_after (a i) (b i)) file.pages })
