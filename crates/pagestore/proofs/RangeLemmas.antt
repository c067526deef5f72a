-- Pages of a store changed one after the other.
use Rattle.std.proofs.Common.{◌≡◌, ℕ, zero, suc, ◌+◌, ◌-◌, ◌*◌, ◌/◌, ◌%◌, ◌<◌, ◌≤◌, Bool, true, false, cond, not, ◌&&◌}
use Rattle.std.proofs.Common.{eqb, eqb-true, eq-eqb, List, [], ◌∷◌, length, refl, ap, sym, subst, ◌∙◌, arith}
use Rattle.std.specs.Prelude.{Option, Some, None, is_some, unwrap_or, if◌then◌else◌, nat_le, nat_lt, count_by, filter}
use Rattle.std.specs.Prelude.{slice_set, Result, Ok, Err, OnOk, OnErr}
use Rattle.std.specs.List.{range_with_len}
use Rattle.std.specs.Ordering.{nat_cmp}
use Rattle.std.specs.FinMap as finmap
use Rattle.std.specs.FinMap.{FinMap}
use Rattle.std.proofs.Math.Nat.{div-mul-le_self}
use Rattle.std.proofs.lemmas.Nat.{mod_below}
use Rattle.std.proofs.lemmas.Bool.{false≢true}
use Rattle.std.proofs.lemmas.Bool.Decides.{nat_tests}
use Rattle.std.proofs.lemmas.List.{length-set, set-get_or, set-set}
use Rattle.std.proofs.lemmas.List.Sums.{sum_by-cons}
use Rattle.pc_types.specs.Tags.{no_tags}
use Rattle.machine.specs.State.{File, Page, no_file}
use Rattle.pagestore.specs.Store.{the_page, Store, stored_at, stored_page, is_awaited, with_pages, with_lists}
use Rattle.pagestore.specs.Store.{absent_pages}
use Rattle.machine.specs.Changes.{written_page}
use Rattle.pagestore.specs.Ranges.{AreRead, AreSized, AreWritten, IsLaid}
use Rattle.machine.specs.PageLists.{is_listed, entered, left, each_entered}
use Rattle.machine.proofs.changes.StateLaws.{get_or-set}
use Rattle.pagestore.proofs.ListedFrames.{left_entered}
use Rattle.maps.proofs.Maps.{get-insert_nat}
use Rattle.pagestore.proofs.StoreEntries.{taken_back}

-- ---- a store with other pages of one file

module _ (s : Store) (f : ℕ) (here : f < length s.files) where
  pub stored-with : (pages : FinMap nat_cmp Page) (free : ℕ)
      → stored_at (with_pages s f pages free) f ≡ record (stored_at s f) { pages = pages }
  stored-with pages free =
      let file : File = record (stored_at s f) { pages = pages } in
      get_or-set s.files f f file no_file here ∙ ap (λ b. cond b file (stored_at s f)) (eq-eqb f f refl)

  pub pages-with : (pages : FinMap nat_cmp Page) (free : ℕ) → (stored_at (with_pages s f pages free) f).pages ≡ pages
  pages-with pages free = ap (λ (e : File). e.pages) (stored-with pages free)

  pub with-with : (pages more : FinMap nat_cmp Page) (free now : ℕ) → with_pages (with_pages s f pages free) f more now
      ≡ with_pages s f more now
  with-with pages more free now =
      let all : slice_set (slice_set s.files f (record (stored_at s f) { pages = pages })) f
      (record (stored_at (with_pages s f pages free) f) { pages = more })
      ≡ slice_set s.files f (record (stored_at s f) { pages = more }) =
      ap (λ (e : File). slice_set (slice_set s.files f (record (stored_at s f) { pages = pages })) f
      (record e { pages = more })) (stored-with pages free)
      ∙ set-set s.files f (record (stored_at s f) { pages = pages }) (record (stored_at s f) { pages = more }) in
      λ i. record { page = s.page; files = all i; filling = s.filling; free = now; lists = s.lists }

pub length-with : (s : Store) (f : ℕ) (pages : FinMap nat_cmp Page) (free : ℕ)
    → length (with_pages s f pages free).files ≡ length s.files
length-with s f pages free = length-set s.files f (record (stored_at s f) { pages = pages })

pub with-itself : (s : Store) (f : ℕ) → with_pages s f (stored_at s f).pages s.free ≡ s
with-itself s f = let all = set-get_or s.files f no_file in
    λ i. record { page = s.page; files = all i; filling = s.filling; free = s.free; lists = s.lists }

-- ---- counts

pub count-within : (p q : ℕ → Bool) (a n : ℕ) → ((k : ℕ) → a ≤ k → k < a + n → p k ≡ q k)
    → count_by p (range_with_len a n) ≡ count_by q (range_with_len a n)
count-within p q a zero h = refl
count-within p q a (suc n) h =
    let rest = count-within p q (a + 1) n (λ k l b. h k (omega arith) (omega arith)) in
    sum_by-cons (λ x. cond (p x) 1 0) a (range_with_len (a + 1) n) ∙ (λ i. cond (h a (omega arith) (omega arith) i) 1 0 + rest i)
    ∙ sym (sum_by-cons (λ x. cond (q x) 1 0) a (range_with_len (a + 1) n))

pub count-first : (p : ℕ → Bool) (first end : ℕ) → first < end → count_by p (range_with_len first (end - first))
    ≡ cond (p first) 1 0 + count_by p (range_with_len (first + 1) (end - (first + 1)))
count-first p first end h =
    let one : end - first ≡ suc (end - (first + 1)) = omega arith in
    ap (λ n. count_by p (range_with_len first n)) one
    ∙ sum_by-cons (λ x. cond (p x) 1 0) first (range_with_len (first + 1) (end - (first + 1)))

filter-alike : (p q : ℕ → Bool) (a n : ℕ) → ((k : ℕ) → a ≤ k → p k ≡ q k)
    → filter p (range_with_len a n) ≡ filter q (range_with_len a n)
filter-alike p q a zero h = refl
filter-alike p q a (suc n) h =
    let rest = filter-alike p q (a + 1) n (λ k l. h k (omega arith)) in
    λ i. cond (h a (omega arith) i) (a ∷ rest i) (rest i)

-- the numbers that pass, the first one apart
absent_after : (p : ℕ → Bool) (first end : ℕ) → first < end
    → filter p (range_with_len first (end - first))
    ≡ cond (p first) (first ∷ filter p (range_with_len (first + 1) (end - (first + 1))))
    (filter p (range_with_len (first + 1) (end - (first + 1))))
absent_after p first end h = let one : end - first ≡ suc (end - (first + 1)) = omega arith in
    ap (λ n. filter p (range_with_len first n)) one

none_between : (p : ℕ → Bool) (k : ℕ) → filter p (range_with_len k (k - k)) ≡ []
none_between p k = let none : k - k ≡ 0 = omega arith in ap (λ n. filter p (range_with_len k n)) none

-- ---- absent pages are made

le_next : (first q : ℕ) → eqb q first ≡ false → nat_le (first + 1) q ≡ nat_le first q
le_next first q e = grind (arith, nat_tests)

nothing_between : (first q : ℕ) → (nat_le first q && nat_lt q first) ≡ false
nothing_between first q = grind (arith, nat_tests)

not_yet : (first : ℕ) → nat_le (first + 1) first ≡ false
not_yet first = grind (arith, nat_tests)

in_turn : (first end : ℕ) → first < end → (nat_le first first && nat_lt first end) ≡ true
in_turn first end h = grind (arith, nat_tests)

abbrev absent : Store → ℕ → ℕ → Bool
absent s f p = not (is_some (stored_page s f p))

pub laid_none : (P o : ℕ) (b : List ℕ) (first : ℕ) (old : FinMap nat_cmp Page) → IsLaid P o b first first old old
laid_none P o b first old =
    record {
      each = λ q. ap (λ t. if t then Some (written_page P o b q (finmap.get old q)) else finmap.get old q)
          (sym (nothing_between first q));
    }

pub written_none : (P f o p : ℕ) (b : List ℕ) (s : Store) → AreWritten P f o b p p s s
written_none P f o p b s = record {
  pages = laid_none P o b p (stored_at s f).pages;
  rest = sym (with-itself s f) ∙ ap
      (λ ps. with_lists (with_pages s f (stored_at s f).pages s.free) (each_entered f ps s.lists))
      (sym (none_between (absent s f) p));
  fewer = let none : p - p ≡ 0 = omega arith in let count : count_by (absent s f) (range_with_len p (p - p)) ≡ 0 =
      ap (λ n. count_by (absent s f) (range_with_len p n)) none in omega (arith, count);
}

-- the first page takes what it has after the write, and those after it are written
laid_first : (P o : ℕ) (b : List ℕ) (first end : ℕ) (old rest new : FinMap nat_cmp Page) (page : Option Page)
    → first < end → Some (written_page P o b first (finmap.get old first)) ≡ page
    → ((q : ℕ) → finmap.get new q ≡ cond (eqb q first) page (finmap.get rest q))
    → ((q : ℕ) → eqb q first ≡ false → finmap.get rest q
    ≡ (if nat_le (first + 1) q && nat_lt q end then Some (written_page P o b q (finmap.get old q)) else finmap.get old q))
    → IsLaid P o b first end old new
laid_first P o b first end old rest new page less is here after = record {
  each = λ q. here q ∙ elim (eqb q first) as (λ t. eqb q first ≡ t → cond t page (finmap.get rest q)
      ≡ (if nat_le first q && nat_lt q end then Some (written_page P o b q (finmap.get old q)) else finmap.get old q)) [
        | true ↦ λ e. sym is ∙ sym
            (ap (λ n. if nat_le first n && nat_lt n end then Some (written_page P o b n (finmap.get old n)) else
            finmap.get old n) (eqb-true q first e)
            ∙ ap (λ t. if t then Some (written_page P o b first (finmap.get old first)) else finmap.get old first)
            (in_turn first end less))
        | false ↦ λ e. after q e ∙ ap (λ t. if t && nat_lt q end then Some (written_page P o b q (finmap.get old q)) else
            finmap.get old q) (le_next first q e)
      ] refl;
}

-- a page of P bytes, where there is one
abbrev Sized : ℕ → Option Page → Type 0
Sized P o = is_some o ≡ true → length (unwrap_or {T = Page} o (record { bytes = []; tags = no_tags })).bytes ≡ P

module _ (P f o : ℕ) (b : List ℕ) (first end : ℕ) (old : Store) (less : first < end) (here : f < length old.files) where
  abbrev were : FinMap nat_cmp Page
  were = (stored_at old f).pages

  -- a page that is there is written once the pages after it are
  module _ (there : is_some (stored_page old f first) ≡ true) where
    none_here : ◌≡◌ {A = ℕ} (cond (absent old f first) 1 0) 0
    none_here = ap (λ b. cond (not b) 1 0) there

    pub room_past : count_by (absent old f) (range_with_len first (end - first)) ≡ count_by (absent old f)
        (range_with_len (first + 1) (end - (first + 1)))
    room_past = omega (arith, count-first (absent old f) first end less, none_here)

    same_absent_past : absent_pages old f first end ≡ absent_pages old f (first + 1) end
    same_absent_past = absent_after (absent old f) first end less
        ∙ ap (λ b. cond (not b) (first ∷ absent_pages old f (first + 1) end) (absent_pages old f (first + 1) end)) there

    module _ (mid : Store) (h : AreWritten P f o b (first + 1) end old mid) where
      mid_first : finmap.get (stored_at mid f).pages first ≡ finmap.get were first
      mid_first = h.pages.each first
          ∙ ap (λ t. if t && nat_lt first end then Some (written_page P o b first (finmap.get were first)) else
          finmap.get were first) (not_yet first)

      rest_here : f < length mid.files
      rest_here = omega (
        arith,
        here,
        ap (λ (s : Store). length s.files) h.rest,
        length-with old f (stored_at mid f).pages mid.free,
      )

      pub rest_page : the_page (stored_at mid f).pages first ≡ the_page were first
      rest_page = ap (λ (o : Option Page). unwrap_or o (record { bytes = []; tags = no_tags })) mid_first

      pub written_past : (page : Page) (new : Store) → page ≡ written_page P o b first (finmap.get were first)
          → new ≡ with_pages mid f (finmap.insert (stored_at mid f).pages first page) mid.free
          → AreWritten P f o b first end old new
      written_past page new is new_is =
          let now = finmap.insert (stored_at mid f).pages first page in
          let pages_now : (stored_at new f).pages ≡ now = ap (λ (s : Store). (stored_at s f).pages) new_is
          ∙ pages-with mid f rest_here now mid.free in
          let free : new.free ≡ mid.free = ap (λ (s : Store). s.free) new_is in
          record {
            pages = laid_first P o b first end were (stored_at mid f).pages (stored_at new f).pages (Some page) less
                (ap Some (sym is))
                (λ q. ap (λ (m : FinMap nat_cmp Page). finmap.get m q) pages_now
                ∙ get-insert_nat (stored_at mid f).pages first page q)
                (λ q e. h.pages.each q);
            rest =
                new_is
                ∙ ap (λ (s : Store). with_pages s f now mid.free) h.rest
                ∙ ap (λ (s : Store). with_lists s (each_entered f (absent_pages old f (first + 1) end) old.lists))
                (with-with old f here (stored_at mid f).pages now mid.free mid.free)
                ∙ (λ i. with_lists (with_pages old f (sym pages_now i) (sym free i))
                (each_entered f (sym same_absent_past i) old.lists));
            fewer = free ∙ h.fewer ∙ ap (λ n. old.free - n) (sym room_past);
          }

  -- one that is absent is made
  module _ (gone : stored_page old f first ≡ None) (room : 0 < old.free) (page : Page) (mid : Store)
      (is : mid ≡ with_lists (with_pages old f (finmap.insert (stored_at old f).pages first page) (old.free - 1))
      (entered f first old.lists)) where
    mid_page : (q : ℕ) → stored_page mid f q ≡ cond (eqb q first) (Some page) (stored_page old f q)
    mid_page q =
        ap (λ (s : Store). stored_page s f q) is
        ∙ ap (λ (m : FinMap nat_cmp Page). finmap.get m q)
        (pages-with old f here (finmap.insert (stored_at old f).pages first page) (old.free - 1))
        ∙ get-insert_nat (stored_at old f).pages first page q

    mid_other : (q : ℕ) → eqb q first ≡ false → stored_page mid f q ≡ stored_page old f q
    mid_other q e = mid_page q ∙ ap (λ b. cond b (Some page) (stored_page old f q)) e

    made_first : stored_page mid f first ≡ Some page
    made_first = mid_page first ∙ ap (λ b. cond b (Some page) (stored_page old f first)) (eq-eqb first first refl)

    pub mid_here : f < length mid.files
    mid_here =
        omega (
          arith,
          here,
          ap (λ (s : Store). length s.files) is,
          length-with old f (finmap.insert (stored_at old f).pages first page) (old.free - 1),
        )

    pub mid_size : mid.page ≡ old.page
    mid_size = ap (λ (s : Store). s.page) is

    pub mid_cached : is_some (stored_page mid f first) ≡ true
    mid_cached = ap is_some made_first

    pub mid_idle : (q : ℕ) → is_awaited mid f q ≡ is_awaited old f q
    mid_idle q = ap (λ (s : Store). is_awaited s f q) is

    pub mid_sized : length page.bytes ≡ P → AreSized P (stored_at old f).pages → AreSized P (stored_at mid f).pages
    mid_sized long s = record {
      each = λ q. subst (Sized P) (sym (mid_page q)) (elim (eqb q first) as (λ b. Sized P (cond b (Some page) (stored_page old f q)))
          [ true ↦ λ _. long | false ↦ s.each q ]);
    }

    past_first : (q : ℕ) → first + 1 ≤ q → eqb q first ≡ false
    past_first q h = grind (arith, nat_tests)

    pub mid_later : (q : ℕ) → first + 1 ≤ q → stored_page mid f q ≡ stored_page old f q
    mid_later q h = mid_other q (past_first q h)

    one_here : ◌≡◌ {A = ℕ} (cond (absent old f first) 1 0) 1
    one_here = ap (λ (o : Option Page). cond (not (is_some o)) 1 0) gone

    same_count : count_by (absent mid f) (range_with_len (first + 1) (end - (first + 1))) ≡ count_by (absent old f)
        (range_with_len (first + 1) (end - (first + 1)))
    same_count = count-within (absent mid f) (absent old f) (first + 1) (end - (first + 1))
        (λ q h _. ap (λ (o : Option Page). not (is_some o)) (mid_later q h))

    same_absent : filter (absent mid f) (range_with_len (first + 1) (end - (first + 1)))
        ≡ filter (absent old f) (range_with_len (first + 1) (end - (first + 1)))
    same_absent = filter-alike (absent mid f) (absent old f) (first + 1) (end - (first + 1))
        (λ q h. ap (λ (o : Option Page). not (is_some o)) (mid_later q h))

    first_absent : filter (absent old f) (range_with_len first (end - first)) ≡ first
        ∷ filter (absent old f) (range_with_len (first + 1) (end - (first + 1)))
    first_absent = absent_after (absent old f) first end less
        ∙ ap (λ (o : Option Page). cond (not (is_some o))
        (first ∷ filter (absent old f) (range_with_len (first + 1) (end - (first + 1))))
        (filter (absent old f) (range_with_len (first + 1) (end - (first + 1))))) gone

    mid_free : mid.free ≡ old.free - 1
    mid_free = ap (λ (s : Store). s.free) is

    pub mid_room : count_by (absent old f) (range_with_len first (end - first)) ≤ old.free
        → count_by (absent mid f) (range_with_len (first + 1) (end - (first + 1))) ≤ mid.free
    mid_room h = omega (arith, h, count-first (absent old f) first end less, one_here, same_count, mid_free)

    pub written_more : page ≡ written_page P o b first None → (new : Store) → AreWritten P f o b (first + 1) end mid new
        → AreWritten P f o b first end old new
    written_more page_is new h = record {
      pages = laid_first P o b first end were (stored_at new f).pages (stored_at new f).pages
          (finmap.get (stored_at new f).pages first) less
          (ap (λ (x : Option Page). Some (written_page P o b first x)) gone ∙ ap Some (sym page_is) ∙ sym made_first
          ∙ sym (h.pages.each first ∙ ap (λ t. if t && nat_lt first end then Some (written_page P o b first
          (stored_page mid f first)) else stored_page mid f first) (not_yet first)))
          (λ q. same_at q (eqb q first) refl)
          (λ q e. h.pages.each q ∙ ap (λ x. if nat_le (first + 1) q && nat_lt q end then Some (written_page P o b q x) else
          x) (mid_other q e));
      rest =
          h.rest
          ∙ (λ i. with_lists (with_pages (is i) f (stored_at new f).pages new.free)
          (each_entered f (same_absent i) (is i).lists))
          ∙ ap (λ (s : Store). with_lists s
          (each_entered f (filter (absent old f) (range_with_len (first + 1) (end - (first + 1))))
          (entered f first old.lists))) (with-with old f here
          (finmap.insert (stored_at old f).pages first page) (stored_at new f).pages (old.free - 1)
          new.free)
          ∙ ap (λ ps. with_lists (with_pages old f (stored_at new f).pages new.free) (each_entered f ps old.lists))
          (sym first_absent);
      fewer = omega (arith, h.fewer, mid_free, same_count, count-first (absent old f) first end less, one_here);
    }
      where
        same_at : (q : ℕ) (t : Bool) → eqb q first ≡ t → finmap.get (stored_at new f).pages q
            ≡ cond t (finmap.get (stored_at new f).pages first) (finmap.get (stored_at new f).pages q)
        same_at q true e = ap (finmap.get (stored_at new f).pages) (eqb-true q first e)
        same_at q false e = refl

    -- and taken away again
    pub unmade : is_listed f first old.lists ≡ false → (new : Store)
        → new ≡ with_lists (with_pages mid f (finmap.remove (stored_at mid f).pages first) (mid.free + 1))
        (left f first mid.lists) → new ≡ old
    unmade unlisted new e =
        let made = finmap.insert (stored_at old f).pages first page in
        let mid_pages : (stored_at mid f).pages ≡ made = ap (λ (s : Store). (stored_at s f).pages) is
        ∙ pages-with old f here made (old.free - 1) in
        let back : finmap.remove (stored_at mid f).pages first ≡ (stored_at old f).pages =
        ap (λ (m : FinMap nat_cmp Page). finmap.remove m first) mid_pages
        ∙ taken_back (stored_at old f).pages first page gone in
        let free : mid.free + 1 ≡ old.free = omega (arith, mid_free, room) in
        e ∙ (λ i. with_lists (with_pages (is i) f (back i) (free i)) (left f first (is i).lists))
        ∙ (λ i. with_lists (with-with old f here made (stored_at old f).pages (old.free - 1) old.free i)
        (left_entered f first old.lists unlisted i)) ∙ with-itself old f

-- ---- a range is written or read

pub some_page : (m : FinMap nat_cmp Page) (p : ℕ) → is_some (finmap.get m p) ≡ true
    → Some (the_page m p) ≡ finmap.get m p
some_page m p h =
    elim (finmap.get m p) as (λ o. is_some o ≡ true
    → Some (unwrap_or {T = Page} o (record { bytes = []; tags = no_tags })) ≡ o)
    [ None ↦ λ e. absurd (false≢true e) | Some page ↦ λ e. refl ] h

pub read_none : (P o : ℕ) (pages : FinMap nat_cmp Page) (out : List ℕ) → AreRead P o pages (o / P * P - o) out
read_none P o pages out = record { each = λ i h k. absurd (omega (arith, h, div-mul-le_self o P)) }

-- the pages that were read hold all the bytes
pub read_whole : (P o n p : ℕ) → 0 < P → p ≡ (o + n - 1) / P + 1 → n ≤ p * P - o
read_whole P o n p positive e =
    let whole : (o + n - 1) / P * P + (o + n - 1) % P ≡ o + n - 1 = omega arith in
    let product : p * P ≡ (o + n - 1) / P * P + P = ap (λ k. k * P) e ∙ omega arith in
    omega (arith, whole, mod_below (o + n - 1) P positive, product)

-- ---- tests

pub ne_less : (a b : ℕ) → a ≤ b → (a ≡ b → ⊥) → a < b
ne_less a b h n = elim (eqb a b) as (λ t. eqb a b ≡ t → a < b) [
  | true ↦ λ e. absurd (n (eqb-true a b e))
  | false ↦ λ e. grind (arith, nat_tests)
] refl

pub none_of : {X : Type 0} (o : Option X) → false ≡ is_some o → o ≡ None
none_of None e = refl
none_of (Some x) e = absurd (false≢true e)

pub room_some : (old : Store) (f first end : ℕ) → first < end → stored_page old f first ≡ None
    → count_by (λ p. not (is_some (stored_page old f p))) (range_with_len first (end - first)) ≤ old.free → 0 < old.free
room_some old f first end less gone h =
    let one : ◌≡◌ {A = ℕ} (cond (absent old f first) 1 0) 1 = ap (λ (o : Option Page). cond (not (is_some o)) 1 0)
    gone in
    omega (arith, h, count-first (absent old f) first end less, one)

pub on_err_of : {A E : Type 0} (r : Result A E) (P : Type 0) → P → OnErr r P
on_err_of (Ok x) P h = tt
on_err_of (Err x) P h = h

pub err_map : {A E : Type 0} (r : Result A E) (P Q : Type 0) → OnErr r P → (P → Q) → OnErr r Q
err_map (Ok x) P Q h g = tt
err_map (Err x) P Q h g = g h

pub ok_map : {A E : Type 0} (r : Result A E) (P Q : Type 0) → OnOk r P → (P → Q) → OnOk r Q
ok_map (Ok x) P Q h g = g h
ok_map (Err x) P Q h g = tt

-- what holds of the store as it was, and of the changed one, holds after a call that may be refused
pub either_result : {A E : Type 0} (r : Result A E) (old changed now : Store) (Q : Store → Type 0)
    → OnOk r (now ≡ changed) → OnErr r (now ≡ old) → Q changed → Q old → Q now
either_result (Ok x) old changed now Q e d a b = subst Q (sym e) a
either_result (Err x) old changed now Q e d a b = subst Q (sym d) b
