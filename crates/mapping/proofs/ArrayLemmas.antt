-- The marked array whose entries are pages, and the pages that it stands for.
use Rattle.std.proofs.Common.{◌≡◌, ℕ, ◌+◌, ◌-◌, ◌^◌, ◌<◌, ◌≤◌, Bool, true, false, leb, ltb, refl, ap, sym, subst, ◌∙◌, inl, inr, arith}
use Rattle.std.specs.Prelude.{◌&&◌, Option, Some, None, option_map, unwrap_or, find, is_some, IsSome, Result, Ok, Err, IsErrAnd}
use Rattle.std.specs.Ordering.{nat_cmp}
use Rattle.std.specs.FinMap as finmap
use Rattle.std.specs.FinMap.{get-empty}
use Rattle.std.proofs.lemmas.Bool.{cases_eq, le-leb}
use Rattle.std.proofs.lemmas.Bool.Decides.{nat_tests}
use Rattle.std.proofs.lemmas.Option.{none-some, same_Some}
use Rattle.pc_types.specs.declared.ids.FrameId.{FrameId}
use Rattle.pc_types.specs.declared.tags.Tag.{Tag}
use Rattle.pc_types.specs.declared.tags.Tag.TheVariants.{Dirty, Writeback, Towrite}
use Rattle.pc_types.specs.Tags.{has}
use Rattle.xarray.specs.declared.entry.Found.{Found}
use Rattle.xarray.specs.declared.entry.Mark.{Mark}
use Rattle.xarray.specs.declared.entry.Marked.{Marked}
use Rattle.xarray.specs.declared.entry.Marks.{Marks}
use Rattle.xarray.specs.MarkedArray.{Range, Ranges, changed, marks_after, has_mark, with_mark, with_marks, marks_of, marked_of, meets, entry_at, lowest, erased, given, remarked, is_any, is_marked, found_of}
use Rattle.xarray.proofs.Singles.{AllSingle, changed-given, changed-none, entry_at-get, erased-remove, given-some, given-none, remarked-some, remarked-none}
use Rattle.maps.specs.Maps.{change_at, put_some}
use Rattle.mapping.specs.declared.mapping.TheConstants.{MAX_PAGES}
use Rattle.mapping.specs.declared.page.FoundPage.{FoundPage}
use Rattle.mapping.specs.Pages.{IsNumbered, Mapped, Pages, frame_of, with_tag, with_tags, with_tags_after, within, is_tagged, found, untagged}
use Rattle.mapping.specs.Pages as pages
use Rattle.mapping.specs.View.{tag_mark, tags_of, page_from, page_of, pages_of, IsPage}
use Rattle.mapping.proofs.MapLemmas.{same_nat_map, get-insert_here, get-insert_there, get-remove_here, get-remove_there, remove_absent, find_same, find_key, get-each, find_each, len-le}
use Rattle.mapping.proofs.MapLemmas as maps
use Rattle.mapping.proofs.PageLemmas.{change_none, change_some}

-- ---- an entry of one index

meets_one : (from to q : ℕ) → (leb from to && (leb q to && ltb from (q + 1))) ≡ (leb from q && leb q to)
meets_one from to q = grind (arith, nat_tests)

swap_and : (a b : Bool) → (a && b) ≡ (b && a)
swap_and a b = grind (arith, nat_tests)

meets_order : (from to q k : ℕ) → k ≡ 0 → (leb from to && (leb q to && ltb from (q + 2 ^ k))) ≡ (leb from q && leb q to)
meets_order from to q k e = ap (λ n. leb from to && (leb q to && ltb from (q + 2 ^ n))) e ∙ meets_one from to q

-- ---- a page and its entry

pub mark_tag : (tag : Tag) (r : Range) → has_mark (tag_mark tag) r ≡ has (page_of r).tags tag
mark_tag Dirty r = refl
mark_tag Writeback r = refl
mark_tag Towrite r = refl

pub with_mark_tag : (tag : Tag) (is : Bool) (r : Range) → page_of (with_mark (tag_mark tag) is r) ≡ with_tag tag is (page_of r)
with_mark_tag Dirty is r = refl
with_mark_tag Writeback is r = refl
with_mark_tag Towrite is r = refl

same_order : (tag : Tag) (is : Bool) (r : Range) → (with_mark (tag_mark tag) is r).order ≡ r.order
same_order Dirty is r = refl
same_order Writeback is r = refl
same_order Towrite is r = refl

same_value : (tag : Tag) (is : Bool) (r : Range) → (with_mark (tag_mark tag) is r).value ≡ r.value
same_value Dirty is r = refl
same_value Writeback is r = refl
same_value Towrite is r = refl

-- ---- the pages of an array

pub get-pages_of : (m : Ranges) (q : ℕ) → finmap.get (pages_of m) q ≡ option_map page_of (finmap.get m q)
get-pages_of m q = get-each (λ (e : ℕ × Range). page_of e.1) m q

pub pages_of-empty : pages_of finmap.empty ≡ finmap.empty
pages_of-empty = same_nat_map _ _ (λ q. get-pages_of finmap.empty q ∙ ap (option_map page_of) (get-empty nat_cmp q) ∙ sym (get-empty nat_cmp q))

pub pages_of-insert : (m : Ranges) (k : ℕ) (r : Range) → pages_of (finmap.insert m k r) ≡ finmap.insert (pages_of m) k (page_of r)
pages_of-insert m k r = same_nat_map _ _ (λ q. get-pages_of (finmap.insert m k r) q ∙ elim (cases_eq q k) [
  | inl e ↦ ap (option_map page_of) (get-insert_here m k r q e) ∙ sym (get-insert_here (pages_of m) k (page_of r) q e)
  | inr n ↦ ap (option_map page_of) (get-insert_there m k r q n) ∙ sym (get-pages_of m q) ∙ sym (get-insert_there (pages_of m) k (page_of r) q n)
])

pub pages_of-remove : (m : Ranges) (k : ℕ) → pages_of (finmap.remove m k) ≡ finmap.remove (pages_of m) k
pages_of-remove m k = same_nat_map _ _ (λ q. get-pages_of (finmap.remove m k) q ∙ elim (cases_eq q k) [
  | inl e ↦ ap (option_map page_of) (get-remove_here m k q e) ∙ sym (get-remove_here (pages_of m) k q e)
  | inr n ↦ ap (option_map page_of) (get-remove_there m k q n) ∙ sym (get-pages_of m q) ∙ sym (get-remove_there (pages_of m) k q n)
])

some_page : {A B : Type 0} (f : A → B) (o : Option A) (y : B) → option_map f o ≡ Some y → (x : A) × ((o ≡ Some x) × (f x ≡ y))
some_page f None y e = absurd (none-some y e)
some_page f (Some x) y e = (x, (refl, same_Some (f x) y e))

-- the entry of a page
pub entry_of : (m : Ranges) (q : ℕ) (page : Mapped) → finmap.get (pages_of m) q ≡ Some page → (r : Range) × ((finmap.get m q ≡ Some r) × (page_of r ≡ page))
entry_of m q page at = some_page page_of (finmap.get m q) page (sym (get-pages_of m q) ∙ at)

-- a frame by its number
abbrev pub frame_id : ℕ → FrameId
frame_id n = record { 0 = n }

abbrev pub found_from : Found → FoundPage
found_from f = record { page = record { 0 = f.first }; frame = record { 0 = f.value } }

-- ---- where each entry is a page

pub kept_insert : (m : Ranges) → ((q : ℕ) (r : Range) → finmap.get m q ≡ Some r → IsPage q r) → (k : ℕ) (new : Range) → IsPage k new → (q : ℕ) (r : Range) → finmap.get (finmap.insert m k new) q ≡ Some r → IsPage q r
kept_insert m each k new is q r at = elim (cases_eq q k) [
  | inl e ↦ (let same : new ≡ r = same_Some new r (sym (get-insert_here m k new q e) ∙ at) in subst (λ z. IsPage q z) same (subst (λ z. IsPage z new) (sym e) is))
  | inr n ↦ each q r (sym (get-insert_there m k new q n) ∙ at)
]

pub kept_remove : (m : Ranges) → ((q : ℕ) (r : Range) → finmap.get m q ≡ Some r → IsPage q r) → (k : ℕ) (q : ℕ) (r : Range) → finmap.get (finmap.remove m k) q ≡ Some r → IsPage q r
kept_remove m each k q r at = elim (cases_eq q k) [
  | inl e ↦ absurd (none-some r (sym (get-remove_here m k q e) ∙ at))
  | inr n ↦ each q r (sym (get-remove_there m k q n) ∙ at)
]

module _ (m : Ranges) (each : (q : ℕ) (r : Range) → finmap.get m q ≡ Some r → IsPage q r) where
  singles : AllSingle m
  singles = record { order = λ q r at. (each q r at).single }

  abbrev at_key : ℕ → Option Range → Option (ℕ × Range)
  at_key i o = option_map (λ r. (i, r)) o

  pub pages_of-erased : (i : ℕ) → pages_of (erased m i) ≡ finmap.remove (pages_of m) i
  pages_of-erased i = ap pages_of (erased-remove m singles i) ∙ pages_of-remove m i

  pub kept_erased : (i : ℕ) (q : ℕ) (r : Range) → finmap.get (erased m i) q ≡ Some r → IsPage q r
  kept_erased i q r at = kept_remove m each i q r (ap (λ z. finmap.get z q) (sym (erased-remove m singles i)) ∙ at)

  pub pages_of-remarked : (i : ℕ) (tag : Tag) (is : Bool) → pages_of (remarked m i (tag_mark tag) is) ≡ change_at i (with_tag tag is) (pages_of m)
  pages_of-remarked i tag is = go (finmap.get m i) refl
    where
      go : (o : Option Range) → finmap.get m i ≡ o → pages_of (remarked m i (tag_mark tag) is) ≡ change_at i (with_tag tag is) (pages_of m)
      go None e = ap pages_of (remarked-none m singles i (tag_mark tag) is e) ∙ sym (change_none i (with_tag tag is) (pages_of m) (get-pages_of m i ∙ ap (option_map page_of) e))
      go (Some r) e =
          ap pages_of (remarked-some m singles i (tag_mark tag) is r e) ∙ pages_of-insert m i (with_mark (tag_mark tag) is r) ∙ ap (finmap.insert (pages_of m) i) (with_mark_tag tag is r)
          ∙ sym (change_some i (with_tag tag is) (pages_of m) (page_of r) (get-pages_of m i ∙ ap (option_map page_of) e))

  pub kept_remarked : (i : ℕ) (tag : Tag) (is : Bool) (q : ℕ) (r : Range) → finmap.get (remarked m i (tag_mark tag) is) q ≡ Some r → IsPage q r
  kept_remarked i tag is q r at = go (finmap.get m i) refl
    where
      go : (o : Option Range) → finmap.get m i ≡ o → IsPage q r
      go None e = each q r (ap (λ z. finmap.get z q) (sym (remarked-none m singles i (tag_mark tag) is e)) ∙ at)
      go (Some old) e =
          let was = each i old e in
          kept_insert m each i (with_mark (tag_mark tag) is old) (record { single = same_order tag is old ∙ was.single; framed = subst (λ n. n < 2 ^ 32) (sym (same_value tag is old)) was.framed; numbered = was.numbered }) q r (ap (λ z. finmap.get z q) (sym (remarked-some m singles i (tag_mark tag) is old e)) ∙ at)

  pub pages_of-given : (i : ℕ) (marks : Marks) → pages_of (given m i marks) ≡ change_at i (with_tags (tags_of marks)) (pages_of m)
  pages_of-given i marks = go (finmap.get m i) refl
    where
      go : (o : Option Range) → finmap.get m i ≡ o → pages_of (given m i marks) ≡ change_at i (with_tags (tags_of marks)) (pages_of m)
      go None e = ap pages_of (given-none m singles i marks e) ∙ sym (change_none i (with_tags (tags_of marks)) (pages_of m) (get-pages_of m i ∙ ap (option_map page_of) e))
      go (Some r) e =
          ap pages_of (given-some m singles i marks r e) ∙ pages_of-insert m i (with_marks marks r)
          ∙ sym (change_some i (with_tags (tags_of marks)) (pages_of m) (page_of r) (get-pages_of m i ∙ ap (option_map page_of) e))

  pub kept_given : (i : ℕ) (marks : Marks) (q : ℕ) (r : Range) → finmap.get (given m i marks) q ≡ Some r → IsPage q r
  kept_given i marks q r at = go (finmap.get m i) refl
    where
      go : (o : Option Range) → finmap.get m i ≡ o → IsPage q r
      go None e = each q r (ap (λ z. finmap.get z q) (sym (given-none m singles i marks e)) ∙ at)
      go (Some old) e =
          let was = each i old e in
          kept_insert m each i (with_marks marks old) (record { single = was.single; framed = was.framed; numbered = was.numbered }) q r (ap (λ z. finmap.get z q) (sym (given-some m singles i marks old e)) ∙ at)

  pub pages_of-changed : (i : ℕ) (clear set : Marks) → pages_of (changed m i clear set) ≡ change_at i (with_tags_after (tags_of clear) (tags_of set)) (pages_of m)
  pages_of-changed i clear set = go (finmap.get m i) refl
    where
      go : (o : Option Range) → finmap.get m i ≡ o → pages_of (changed m i clear set) ≡ change_at i (with_tags_after (tags_of clear) (tags_of set)) (pages_of m)
      go None e = ap pages_of (changed-none m singles i clear set e) ∙ sym (change_none i (with_tags_after (tags_of clear) (tags_of set)) (pages_of m) (get-pages_of m i ∙ ap (option_map page_of) e))
      go (Some r) e =
          let marks = marks_after clear set (marks_of r) in
          let there = get-pages_of m i ∙ ap (option_map page_of) e in
          ap pages_of (changed-given m singles i clear set r e) ∙ pages_of-given i marks ∙ change_some i (with_tags (tags_of marks)) (pages_of m) (page_of r) there
          ∙ sym (change_some i (with_tags_after (tags_of clear) (tags_of set)) (pages_of m) (page_of r) there)

  pub kept_changed : (i : ℕ) (clear set : Marks) (q : ℕ) (r : Range) → finmap.get (changed m i clear set) q ≡ Some r → IsPage q r
  kept_changed i clear set q r at = go (finmap.get m i) refl
    where
      go : (o : Option Range) → finmap.get m i ≡ o → IsPage q r
      go None e = each q r (ap (λ z. finmap.get z q) (sym (changed-none m singles i clear set e)) ∙ at)
      go (Some old) e = kept_given i (marks_after clear set (marks_of old)) q r (ap (λ z. finmap.get z q) (sym (changed-given m singles i clear set old e)) ∙ at)

  -- what the array tells of an entry is the page
  pub marked_page : (i : ℕ) → option_map page_from (option_map marked_of (entry_at m i)) ≡ finmap.get (pages_of m) i
  marked_page i = ap (λ o. option_map page_from (option_map marked_of o)) (entry_at-get m singles i) ∙ go (finmap.get m i) ∙ sym (get-pages_of m i)
    where
      go : (o : Option Range) → option_map page_from (option_map marked_of (at_key i o)) ≡ option_map page_of o
      go None = refl
      go (Some r) = refl

  pub marked_there : (i : ℕ) (entry : Marked) → Some entry ≡ option_map marked_of (entry_at m i) → finmap.get (pages_of m) i ≡ Some (page_from entry)
  marked_there i entry is = sym (ap (option_map page_from) is ∙ marked_page i)

  pub marked_none : (i : ℕ) → None ≡ option_map marked_of (entry_at m i) → finmap.get (pages_of m) i ≡ None
  marked_none i is = sym (ap (option_map page_from) is ∙ marked_page i)

  pub marked_frame : (i : ℕ) (entry : Marked) → Some entry ≡ option_map marked_of (entry_at m i) → entry.value < 2 ^ 32
  marked_frame i entry is =
      let entry_is = entry_of m i (page_from entry) (marked_there i entry is) in
      subst (λ n. n < 2 ^ 32) (ap (λ (p : Mapped). p.frame) entry_is.1.1) (each i entry_is.0 entry_is.1.0).framed

  -- the marks, or one of them, that an entry had
  pub marks_there : (i : ℕ) (marks : Marks) → Some marks ≡ option_map (λ (e : ℕ × Range). marks_of e.1) (entry_at m i) → (page : Mapped) × ((finmap.get (pages_of m) i ≡ Some page) × (page.tags ≡ tags_of marks))
  marks_there i marks is = go (finmap.get m i) refl
    where
      go : (o : Option Range) → finmap.get m i ≡ o → (page : Mapped) × ((finmap.get (pages_of m) i ≡ Some page) × (page.tags ≡ tags_of marks))
      go None e = absurd (none-some marks (sym (is ∙ ap (option_map (λ (e : ℕ × Range). marks_of e.1)) (entry_at-get m singles i ∙ ap (at_key i) e))))
      go (Some r) e =
          let same = same_Some marks (marks_of r) (is ∙ ap (option_map (λ (e : ℕ × Range). marks_of e.1)) (entry_at-get m singles i ∙ ap (at_key i) e)) in
          (page_of r, (get-pages_of m i ∙ ap (option_map page_of) e, ap tags_of (sym same)))

  pub mark_there : (i : ℕ) (tag : Tag) (mark : Mark) (was : Bool) → mark ≡ tag_mark tag → Some was ≡ option_map (λ (e : ℕ × Range). has_mark mark e.1) (entry_at m i) → (page : Mapped) × ((finmap.get (pages_of m) i ≡ Some page) × (has page.tags tag ≡ was))
  mark_there i tag mark was same is = go (finmap.get m i) refl
    where
      go : (o : Option Range) → finmap.get m i ≡ o → (page : Mapped) × ((finmap.get (pages_of m) i ≡ Some page) × (has page.tags tag ≡ was))
      go None e = absurd (none-some was (sym (is ∙ ap (option_map (λ (e : ℕ × Range). has_mark mark e.1)) (entry_at-get m singles i ∙ ap (at_key i) e))))
      go (Some r) e =
          let had = same_Some was (has_mark mark r) (is ∙ ap (option_map (λ (e : ℕ × Range). has_mark mark e.1)) (entry_at-get m singles i ∙ ap (at_key i) e)) in
          (page_of r, (get-pages_of m i ∙ ap (option_map page_of) e, sym (had ∙ ap (λ n. has_mark n r) same ∙ mark_tag tag r)))

  -- an entry that tells nothing is none
  pub told_none : {X : Type 0} (f : ℕ × Range → X) (i : ℕ) → None ≡ option_map f (entry_at m i) → finmap.get (pages_of m) i ≡ None
  told_none f i is = go (finmap.get m i) refl
    where
      go : (o : Option Range) → finmap.get m i ≡ o → finmap.get (pages_of m) i ≡ None
      go None e = get-pages_of m i ∙ ap (option_map page_of) e
      go (Some r) e = absurd (none-some (f (i, r)) (is ∙ ap (option_map f) (entry_at-get m singles i ∙ ap (at_key i) e)))

  pub is_marked-pages_of : (i : ℕ) (tag : Tag) → is_marked (tag_mark tag) (entry_at m i) ≡ pages.has_at (pages_of m) i tag
  is_marked-pages_of i tag =
      ap (is_marked (tag_mark tag)) (entry_at-get m singles i) ∙ go (finmap.get m i) ∙ ap (λ o. unwrap_or (option_map (λ (page : Mapped). has page.tags tag) o) false) (sym (get-pages_of m i))
    where
      go : (o : Option Range) → is_marked (tag_mark tag) (at_key i o) ≡ unwrap_or (option_map (λ (page : Mapped). has page.tags tag) (option_map page_of o)) false
      go None = refl
      go (Some r) = mark_tag tag r

  -- whether the entry had the mark, where there is one
  pub had_mark : (i : ℕ) (tag : Tag) (mark : Mark) (was : Option Bool) → mark ≡ tag_mark tag → was ≡ option_map (λ (e : ℕ × Range). has_mark mark e.1) (entry_at m i) → unwrap_or was false ≡ pages.has_at (pages_of m) i tag
  had_mark i tag mark was same is = ap (λ o. unwrap_or o false) is ∙ go (entry_at m i) ∙ ap (λ mark. is_marked mark (entry_at m i)) same ∙ is_marked-pages_of i tag
    where
      go : (o : Option (ℕ × Range)) → unwrap_or (option_map (λ (e : ℕ × Range). has_mark mark e.1) o) false ≡ is_marked mark o
      go None = refl
      go (Some e) = refl

  -- whether an entry stands at an index
  pub stands : (i : ℕ) → is_some (entry_at m i) ≡ is_some (finmap.get (pages_of m) i)
  stands i = ap (λ o. is_some o) (entry_at-get m singles i) ∙ go (finmap.get m i) ∙ ap (λ o. is_some o) (sym (get-pages_of m i))
    where
      go : (o : Option Range) → is_some (at_key i o) ≡ is_some (option_map page_of o)
      go None = refl
      go (Some r) = refl

  pub entry_value : (i : ℕ) → option_map (λ (e : ℕ × Range). e.1.value) (entry_at m i) ≡ option_map (λ (page : Mapped). page.frame) (finmap.get (pages_of m) i)
  entry_value i = ap (option_map (λ (e : ℕ × Range). e.1.value)) (entry_at-get m singles i) ∙ go (finmap.get m i) ∙ ap (option_map (λ (page : Mapped). page.frame)) (sym (get-pages_of m i))
    where
      go : (o : Option Range) → option_map (λ (e : ℕ × Range). e.1.value) (at_key i o) ≡ option_map (λ (page : Mapped). page.frame) (option_map page_of o)
      go None = refl
      go (Some r) = refl

  -- a value that is loaded is a frame
  pub loads_frame : (i value : ℕ) → option_map (λ (e : ℕ × Range). e.1.value) (entry_at m i) ≡ Some value → value < 2 ^ 32
  loads_frame i value is =
      let page = some_page (λ (page : Mapped). page.frame) (finmap.get (pages_of m) i) value (sym (entry_value i) ∙ is) in
      let entry = entry_of m i page.0 page.1.0 in
      let fits : entry.0.value < 2 ^ 32 = (each i entry.0 entry.1.0).framed in
      subst (λ n. n < 2 ^ 32) (ap (λ (p : Mapped). p.frame) entry.1.1 ∙ page.1.1) fits

  pub loads_none : (i : ℕ) → None ≡ option_map (λ (e : ℕ × Range). e.1.value) (entry_at m i) → finmap.get (pages_of m) i ≡ None
  loads_none i is = go (finmap.get (pages_of m) i) refl (is ∙ entry_value i)
    where
      go : (o : Option Mapped) → finmap.get (pages_of m) i ≡ o → None ≡ option_map (λ (page : Mapped). page.frame) (finmap.get (pages_of m) i) → finmap.get (pages_of m) i ≡ None
      go None e h = e
      go (Some page) e h = absurd (none-some page.frame (h ∙ ap (option_map (λ (page : Mapped). page.frame)) e))

  -- the frame of a page is the value that is loaded
  pub loads_some : (i value : ℕ) → Some value ≡ option_map (λ (e : ℕ × Range). e.1.value) (entry_at m i) → Some (frame_id value) ≡ option_map frame_of (finmap.get (pages_of m) i)
  loads_some i value is = ap (option_map frame_id) (is ∙ entry_value i) ∙ go (finmap.get (pages_of m) i)
    where
      go : (o : Option Mapped) → option_map frame_id (option_map (λ (page : Mapped). page.frame) o) ≡ option_map frame_of o
      go None = refl
      go (Some page) = refl

  -- where no entry stands no page is
  pub not_there : (i : ℕ) → (IsSome (entry_at m i) → ⊥) → finmap.get (pages_of m) i ≡ None
  not_there i never = go (finmap.get (pages_of m) i) refl
    where
      go : (o : Option Mapped) → finmap.get (pages_of m) i ≡ o → finmap.get (pages_of m) i ≡ None
      go None e = e
      go (Some page) e = absurd (never (stands i ∙ ap (λ o. is_some o) e))

  pub no_entry : (i : ℕ) → finmap.get (pages_of m) i ≡ None → entry_at m i ≡ None
  no_entry i none = go (entry_at m i) refl
    where
      go : (o : Option (ℕ × Range)) → entry_at m i ≡ o → entry_at m i ≡ None
      go None e = e
      go (Some x) e = absurd (let t : true ≡ false = sym (ap (λ o. is_some o) e) ∙ stands i ∙ ap (λ o. is_some o) none in cc)

  pub numbered_pages : IsNumbered (pages_of m)
  numbered_pages = record { each = λ q page at. let entry = entry_of m q page at in (each q entry.0 entry.1.0).numbered }

  pub few_pages : finmap.len (pages_of m) ≤ MAX_PAGES
  few_pages = len-le MAX_PAGES (pages_of m) numbered_pages.each

  -- ---- searches

  module _ (kind : Range → Bool) (from to : ℕ) where
    -- what a search of the array finds is a page
    pub finds_page : (f : Found) → option_map found_of (lowest kind m from to) ≡ Some f → (f.value < 2 ^ 32) × (f.first < MAX_PAGES)
    unfolding lowest
    finds_page f is =
        let e = some_page found_of (lowest kind m from to) f is in
        let there = (maps.found m (λ (e : ℕ × Range). kind e.1 && meets from to e) e.0 e.1.0).1 in
        let page = each e.0.0 e.0.1 there in
        (subst (λ (f : Found). f.value < 2 ^ 32) e.1.1 page.framed, subst (λ (f : Found). f.first < MAX_PAGES) e.1.1 page.numbered)

    module _ (test : ℕ × Mapped → Bool) (alike : (q : ℕ) (r : Range) → finmap.get m q ≡ Some r → (kind r && meets from to (q, r)) ≡ test (q, page_of r)) where
      pub finds : (r : Option Found) → r ≡ option_map found_of (lowest kind m from to) → option_map found_from r ≡ pages.lowest test (pages_of m)
      unfolding lowest
      finds r is =
          ap (option_map found_from) is ∙ ap (λ o. option_map found_from (option_map found_of o)) (find_same (λ (e : ℕ × Range). kind e.1 && meets from to e) (λ (e : ℕ × Range). test (e.0, page_of e.1)) m alike)
          ∙ go (find (λ (e : ℕ × Range). test (e.0, page_of e.1)) (finmap.entries m)) ∙ ap (option_map found) (sym (find_each (λ (e : ℕ × Range). page_of e.1) test m))
        where
          go : (o : Option (ℕ × Range)) → option_map found_from (option_map found_of o) ≡ option_map found (option_map (λ (e : ℕ × Range). (e.0, page_of e.1)) o)
          go None = refl
          go (Some e) = refl

  pub finds_tagged : (tag : Tag) (mark : Mark) (from to : ℕ) → mark ≡ tag_mark tag → (r : Option Found) → r ≡ option_map found_of (lowest (has_mark mark) m from to) → option_map found_from r ≡ pages.lowest (is_tagged tag from to) (pages_of m)
  finds_tagged tag mark from to same =
      finds (has_mark mark) from to (is_tagged tag from to) (λ q r at.
      (λ i. (ap (λ n. has_mark n r) same ∙ mark_tag tag r) i && meets_order from to q r.order (each q r at).single i) ∙ swap_and (has (page_of r).tags tag) (within from to q))

  -- a search of all pages from one on: no page stands past the largest number
  pub finds_any : (from : ℕ) (r : Option Found) → r ≡ option_map found_of (lowest is_any m from (2 ^ 64 - 1)) → option_map found_from r ≡ pages.lowest (λ e. leb from e.0) (pages_of m)
  finds_any from =
      finds is_any from (2 ^ 64 - 1) (λ (e : ℕ × Mapped). leb from e.0) (λ q r at.
      let page = each q r at in
      let small : q ≤ 2 ^ 64 - 1 = below_max q page.numbered in
      meets_order from (2 ^ 64 - 1) q r.order page.single ∙ ap (λ b. leb from q && b) (le-leb q (2 ^ 64 - 1) small) ∙ and_true (leb from q))
    where
      below_max : (q : ℕ) → q < MAX_PAGES → q ≤ 2 ^ 64 - 1
      below_max q h = omega (arith, h)

      and_true : (b : Bool) → (b && true) ≡ b
      and_true b = grind (arith, nat_tests)

-- ---- a refusal that is handed on

pub err_is : {A E : Type 0} (r : Result A E) (e : E) → IsErrAnd r (λ x. x ≡ e) → r ≡ Err e
err_is (Ok x) e h = absurd h
err_is (Err x) e h = ap Err h
