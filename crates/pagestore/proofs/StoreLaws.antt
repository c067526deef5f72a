-- The files as they are seen, while frames and mappings change.
use Rattle.std.proofs.Common.{◌≡◌, ℕ, zero, suc, ◌+◌, ◌<◌, Bool, true, false, cond, not, eqb, eqb-true, eq-eqb, List}
use Rattle.std.proofs.Common.{[], ◌∷◌, ◌++◌, length, refl, ap, sym, ◌∙◌, arith, map}
use Rattle.std.specs.Prelude.{◌&&◌, ◌||◌, Option, Some, None, option_map, is_some, slice_set, slice_index_or, unwrap_or}
use Rattle.std.specs.Prelude.{filter}
use Rattle.std.specs.Option.{option_and_then}
use Rattle.std.specs.List.{list_any}
use Rattle.std.specs.Ordering.{nat_cmp, eq_by_cmp}
use Rattle.std.specs.Cmp.{unsigned_tied}
use Rattle.std.specs.FinMap as finmap
use Rattle.std.specs.FinMap.{FinMap, get-empty, contains_key-keys}
use Rattle.std.specs.FinSet.{contains-from_list}
use Rattle.std.proofs.lemmas.Bool.{false≢true}
use Rattle.std.proofs.lemmas.Bool.Decides.{nat_tests}
use Rattle.std.proofs.lemmas.List.{length-set, length-map, map-append, ext_get_or, set-get_or}
use Rattle.std.proofs.lemmas.List.Folds.{list_any-append}
use Rattle.std.proofs.lemmas.Map.Views.{any-filter_same}
use Rattle.pc_types.specs.Spots.{place_cmp}
use Rattle.pc_types.specs.Tags.{TagSet, has, no_tags}
use Rattle.pc_types.specs.declared.tags.Tag.TheVariants.{Dirty}
use Rattle.frames.specs.Table.{Table, free_frames}
use Rattle.frames.specs.Rows.{row_at}
use Rattle.mapping.specs.Pages.{Mapped, has_at}
use Rattle.pagestore.specs.declared.kept.KeptFile.{KeptFile}
use Rattle.machine.specs.State.{File, Page, no_file, tags_of}
use Rattle.pagestore.specs.Store.{none_kept, is_uptodate, has_page, awaits, page_of, file_of, kept_at, entry_at}
use Rattle.pagestore.specs.Store.{filling_from, lists_of, Store, store_of, stored_at, stored_page, is_awaited}
use Rattle.pagestore.specs.Store.{with_pages, with_lists, with_entry, put_at, put_in}
use Rattle.machine.proofs.changes.StateLaws.{get_or-set}
use Rattle.maps.proofs.MapLaws.{places_total, same_place}
use Rattle.pagestore.proofs.StoreEntries.{get-each_seen, each_seen-same, each_seen-empty, each_seen-put, get-put_at}
use Rattle.pagestore.proofs.StoreEntries.{put_at-same, contains-put_in, put_in-same, same_places}

pub not_same : (a b : ℕ) → eqb a b ≡ false → a ≡ b → ⊥
not_same a b e s = false≢true (sym e ∙ eq-eqb a b s)

-- two places that are not the same one
pub apart : (g q f p : ℕ) → (eqb g f && eqb q p) ≡ false → g ≡ f → q ≡ p → ⊥
apart g q f p e a b = false≢true (sym e ∙ (λ i. eq-eqb g f a i && eq-eqb q p b i))

-- ---- the files of a list

pub no_kept_file : (t : Table) (up : List Bool) → file_of t up none_kept ≡ no_file
no_kept_file t up = ap (λ (m : FinMap nat_cmp Page). record no_file { pages = m }) (each_seen-empty (page_of t up))

-- file f of the files as they are seen
pub stored-kept : (t : Table) (up : List Bool) (files : List KeptFile) (f : ℕ)
    → slice_index_or (map (file_of t up) files) f no_file ≡ file_of t up (kept_at files f)
stored-kept t up [] f = sym (no_kept_file t up)
stored-kept t up (k ∷ files) zero = refl
stored-kept t up (k ∷ files) (suc f) = stored-kept t up files f

pub seen_at : (t : Table) (up : List Bool) (files : List KeptFile) (f p : ℕ)
    → stored_page (store_of t up files) f p ≡ option_and_then (page_of t up) (entry_at files f p)
seen_at t up files f p = ap (λ (file : File). finmap.get file.pages p) (stored-kept t up files f)
    ∙ get-each_seen (page_of t up) (kept_at files f).mapping.pages p

pub kept-set : (files : List KeptFile) (f g : ℕ) (k : KeptFile) → f < length files
    → kept_at (slice_set files f k) g ≡ cond (eqb g f) k (kept_at files g)
kept-set files f g k h = get_or-set files f g k none_kept h

-- ---- the pages that are filling

any-in_file : (g q n : ℕ) (ps : List ℕ) → list_any (eq_by_cmp place_cmp (g, q)) (map (λ p. (n, p)) ps)
    ≡ (eqb g n && list_any (eq_by_cmp nat_cmp q) ps)
any-in_file g q n [] = elim (eqb g n) as (λ b. false ≡ (b && false)) [ true ↦ refl | false ↦ refl ]
any-in_file g q n (p ∷ ps) =
    (λ i. same_place g q n p i || any-in_file g q n ps i)
    ∙ elim (eqb g n) as (λ b. ((b && eqb q p) || (b && list_any (eq_by_cmp nat_cmp q) ps))
    ≡ (b && (eq_by_cmp nat_cmp q p || list_any (eq_by_cmp nat_cmp q) ps))) [
      | true ↦ ap (λ b. b || list_any (eq_by_cmp nat_cmp q) ps) (sym (unsigned_tied q p))
      | false ↦ refl
    ]

awaits_some : (up : List Bool) (o : Option Mapped) → (awaits up o && is_some o) ≡ awaits up o
awaits_some up None = refl
awaits_some up (Some x) = elim (is_uptodate up x) as (λ b. (not b && true) ≡ not b) [ true ↦ refl | false ↦ refl ]

any-awaiting : (up : List Bool) (m : FinMap nat_cmp Mapped) (q : ℕ)
    → list_any (eq_by_cmp nat_cmp q) (filter (λ p. awaits up (finmap.get m p)) (finmap.keys m))
    ≡ awaits up (finmap.get m q)
any-awaiting up m q =
    any-filter_same (eq_by_cmp nat_cmp q) (λ p. awaits up (finmap.get m p)) (awaits up (finmap.get m q))
    (λ k e. ap (λ n. awaits up (finmap.get m n)) (sym (eqb-true q k (sym (unsigned_tied q k) ∙ e)))) (finmap.keys m)
    ∙ ap (λ b. awaits up (finmap.get m q) && b) (sym (contains_key-keys m q))
    ∙ awaits_some up (finmap.get m q)

less_apart : (a b : ℕ) → a < b → eqb a b ≡ false
less_apart a b h = grind (arith, nat_tests)

none_later : (up : List Bool) (g q n : ℕ) (files : List KeptFile) → g < n
    → list_any (eq_by_cmp place_cmp (g, q)) (filling_from up n files) ≡ false
none_later up g q n [] h = refl
none_later up g q n (k ∷ files) h =
    list_any-append (eq_by_cmp place_cmp (g, q)) _ _
    ∙ (λ i. any-in_file g q n (filter (λ p. awaits up (finmap.get k.mapping.pages p)) (finmap.keys k.mapping.pages))
    i || none_later up g q (n + 1) files (omega (arith, h)) i)
    ∙ ap (λ b. (b && list_any (eq_by_cmp nat_cmp q)
    (filter (λ p. awaits up (finmap.get k.mapping.pages p)) (finmap.keys k.mapping.pages))) || false)
    (less_apart g n h)

none_there : (up : List Bool) (q : ℕ) → false ≡ awaits up (finmap.get (finmap.empty {R = nat_cmp}) q)
none_there up q = sym (ap (awaits up) (get-empty nat_cmp q))

or_false : (b : Bool) → (b || false) ≡ b
or_false true = refl
or_false false = refl

any-filling : (up : List Bool) (n g q : ℕ) (files : List KeptFile)
    → list_any (eq_by_cmp place_cmp (n + g, q)) (filling_from up n files) ≡ awaits up (entry_at files g q)
any-filling up n g q [] = none_there up q
any-filling up n zero q (k ∷ files) =
    let ps = filter (λ p. awaits up (finmap.get k.mapping.pages p)) (finmap.keys k.mapping.pages) in
    list_any-append (eq_by_cmp place_cmp (n + 0, q)) _ _
    ∙ (λ i. any-in_file (n + 0) q n ps i || none_later up (n + 0) q (n + 1) files (omega arith) i)
    ∙ or_false (eqb (n + 0) n && list_any (eq_by_cmp nat_cmp q) ps)
    ∙ ap (λ b. b && list_any (eq_by_cmp nat_cmp q) ps) (eq-eqb (n + 0) n (omega arith))
    ∙ any-awaiting up k.mapping.pages q
any-filling up n (suc g) q (k ∷ files) =
    let ps = filter (λ p. awaits up (finmap.get k.mapping.pages p)) (finmap.keys k.mapping.pages) in
    let next : n + suc g ≡ n + 1 + g = omega arith in
    let other : eqb (n + suc g) n ≡ false = grind (arith, nat_tests) in
    list_any-append (eq_by_cmp place_cmp (n + suc g, q)) _ _
    ∙ (λ i. any-in_file (n + suc g) q n ps i || list_any (eq_by_cmp place_cmp (next i, q))
    (filling_from up (n + 1) files))
    ∙ (λ i. (other i && list_any (eq_by_cmp nat_cmp q) ps) || any-filling up (n + 1) g q files i)

pub waits_at : (t : Table) (up : List Bool) (files : List KeptFile) (f p : ℕ)
    → is_awaited (store_of t up files) f p ≡ awaits up (entry_at files f p)
waits_at t up files f p =
    let start : f ≡ 0 + f = omega arith in
    contains-from_list places_total (filling_from up 0 files) (f, p)
    ∙ ap (λ n. list_any (eq_by_cmp place_cmp (n, p)) (filling_from up 0 files)) start ∙ any-filling up 0 f p files

-- ---- a store, from what each of its places has

pub store_is : (u : Table) (vp : List Bool) (files : List KeptFile) (s : Store) → u.size ≡ s.page
    → length files ≡ length s.files → ((g : ℕ) → file_of u vp (kept_at files g) ≡ stored_at s g)
    → ((g q : ℕ) → awaits vp (entry_at files g q) ≡ is_awaited s g q) → free_frames u ≡ s.free → lists_of u ≡ s.lists
    → store_of u vp files ≡ s
store_is u vp files s size count file waits free lists =
    let all : map (file_of u vp) files ≡ s.files = ext_get_or no_file (map (file_of u vp) files) s.files
    (length-map files (file_of u vp) ∙ count) (λ g _. stored-kept u vp files g ∙ file g) in
    let filling = same_places (store_of u vp files).filling s.filling (λ g q. waits_at u vp files g q ∙ waits g q) in
    λ i. record { page = size i; files = all i; filling = filling i; free = free i; lists = lists i }

-- u and vp show every entry as t and up do, but that of page p of file f
pub record Alike (t u : Table) (up vp : List Bool) (files : List KeptFile) (f p : ℕ) : Type 0 where
  pub rows : (g q : ℕ) (x : Mapped) → (g ≡ f → q ≡ p → ⊥) → entry_at files g q ≡ Some x
      → row_at u.bytes x.frame ≡ row_at t.bytes x.frame
  pub flags : (g q : ℕ) (x : Mapped) → (g ≡ f → q ≡ p → ⊥) → entry_at files g q ≡ Some x
      → is_uptodate vp x ≡ is_uptodate up x

same_page : (t u : Table) (up vp : List Bool) (x : Mapped) → row_at u.bytes x.frame ≡ row_at t.bytes x.frame
    → is_uptodate vp x ≡ is_uptodate up x → page_of u vp x ≡ page_of t up x
same_page t u up vp x e d = λ i. let page : Page = record { bytes = e i; tags = x.tags } in cond (d i) (Some page) None

same_waits : (up vp : List Bool) (o : Option Mapped) → ((x : Mapped) → o ≡ Some x → is_uptodate vp x ≡ is_uptodate up x)
    → awaits vp o ≡ awaits up o
same_waits up vp None h = refl
same_waits up vp (Some x) h = ap not (h x refl)

-- ---- the frames change, and no entry

pub seen-same : (t u : Table) (up vp : List Bool) (files : List KeptFile) → u.size ≡ t.size
    → free_frames u ≡ free_frames t
    → ((g q : ℕ) (x : Mapped) → entry_at files g q ≡ Some x → row_at u.bytes x.frame ≡ row_at t.bytes x.frame)
    → ((g q : ℕ) (x : Mapped) → entry_at files g q ≡ Some x → is_uptodate vp x ≡ is_uptodate up x)
    → store_of u vp files ≡ with_lists (store_of t up files) (lists_of u)
seen-same t u up vp files size free rows flags =
    store_is u vp files (with_lists (store_of t up files) (lists_of u)) size (sym (length-map files (file_of t up)))
    (λ g. ap (λ (m : FinMap nat_cmp Page). let y : File = record (file_of t up (kept_at files g)) { pages = m } in y)
    (each_seen-same (page_of t up) (page_of u vp) (kept_at files g).mapping.pages
    (λ q x e. same_page t u up vp x (rows g q x e) (flags g q x e))) ∙ sym (stored-kept t up files g))
    (λ g q. same_waits up vp (entry_at files g q) (flags g q) ∙ sym (waits_at t up files g q))
    free refl

-- ---- one entry changes

abbrev pub with_kept : KeptFile → ℕ → Option Mapped → KeptFile
with_kept k p o = record k { mapping = record k.mapping { pages = put_at p o k.mapping.pages } }

entry_in : (files : List KeptFile) (f p : ℕ) (o : Option Mapped) (g q : ℕ) (b : Bool) → eqb g f ≡ b
    → finmap.get (cond b (with_kept (kept_at files f) p o) (kept_at files g)).mapping.pages q
    ≡ cond (b && eqb q p) o (entry_at files g q)
entry_in files f p o g q true e = get-put_at (kept_at files f).mapping.pages p o q
    ∙ ap (λ n. cond (eqb q p) o (entry_at files n q)) (sym (eqb-true g f e))
entry_in files f p o g q false e = refl

-- the entries afterwards
pub entry-set : (files : List KeptFile) (f p : ℕ) (o : Option Mapped) → f < length files → (g q : ℕ)
    → entry_at (slice_set files f (with_kept (kept_at files f) p o)) g q ≡ cond (eqb g f && eqb q p) o
    (entry_at files g q)
entry-set files f p o here g q = ap (λ (k : KeptFile). finmap.get k.mapping.pages q)
    (kept-set files f g (with_kept (kept_at files f) p o) here) ∙ entry_in files f p o g q (eqb g f) refl

module _ (t u : Table) (up vp : List Bool) (files : List KeptFile) (f p : ℕ) (size : u.size ≡ t.size)
    (here : f < length files) (alike : Alike t u up vp files f p) (o : Option Mapped) where
  abbrev k : KeptFile
  k = with_kept (kept_at files f) p o

  abbrev page : Option Page
  page = option_and_then (page_of u vp) o

  abbrev new : File
  new = record (stored_at (store_of t up files) f) { pages = put_at p page (stored_at (store_of t up files) f).pages }

  new_is : file_of u vp k ≡ new
  new_is =
      let pages = each_seen-put (page_of t up) (page_of u vp) (kept_at files f).mapping.pages p o
      (λ q y n e. let other : f ≡ f → q ≡ p → ⊥ = λ _ s. not_same q p n s in
      same_page t u up vp y (alike.rows f q y other e) (alike.flags f q y other e)) in
      ap (λ (m : FinMap nat_cmp Page). let y : File = record (file_of t up (kept_at files f)) { pages = m } in y) pages
      ∙ ap (λ (e : File). let y : File = record e { pages = put_at p page e.pages } in y)
      (sym (stored-kept t up files f))

  other_is : (g : ℕ) → eqb g f ≡ false → file_of u vp (kept_at files g) ≡ stored_at (store_of t up files) g
  other_is g n =
      let same = each_seen-same (page_of t up) (page_of u vp) (kept_at files g).mapping.pages
      (λ q x e. let other : g ≡ f → q ≡ p → ⊥ = λ s _. not_same g f n s in
      same_page t u up vp x (alike.rows g q x other e) (alike.flags g q x other e)) in
      ap (λ (m : FinMap nat_cmp Page). let y : File = record (file_of t up (kept_at files g)) { pages = m } in y) same
      ∙ sym (stored-kept t up files g)

  file_is : (g : ℕ) (b : Bool) → eqb g f ≡ b
      → file_of u vp (cond b k (kept_at files g)) ≡ cond b new (stored_at (store_of t up files) g)
  file_is g true e = new_is
  file_is g false e = other_is g e

  wait_is : (g q : ℕ) (b : Bool) → (eqb g f && eqb q p) ≡ b
      → awaits vp (cond b o (entry_at files g q)) ≡ cond b (awaits vp o) (is_awaited (store_of t up files) g q)
  wait_is g q true e = refl
  wait_is g q false e = same_waits up vp (entry_at files g q) (λ x s. alike.flags g q x (apart g q f p e) s)
      ∙ sym (waits_at t up files g q)

  pub seen-entry : store_of u vp (slice_set files f k)
      ≡ with_lists (with_entry (store_of t up files) f p page (awaits vp o) (free_frames u)) (lists_of u)
  seen-entry =
      let s = store_of t up files in
      let count : f < length s.files = omega (arith, here, length-map files (file_of t up)) in
      store_is u vp (slice_set files f k)
      (with_lists (with_entry s f p page (awaits vp o) (free_frames u)) (lists_of u)) size
      (length-set files f k ∙ sym (length-map files (file_of t up)) ∙ sym (length-set s.files f new))
      (λ g. ap (file_of u vp) (kept-set files f g k here) ∙ file_is g (eqb g f) refl
      ∙ sym (get_or-set s.files f g new no_file count))
      (λ g q. ap (awaits vp) (entry-set files f p o here g q) ∙ wait_is g q (eqb g f && eqb q p) refl
      ∙ sym (contains-put_in s.filling f p (awaits vp o) g q))
      refl refl

-- an entry that stays
pub kept_same : (files : List KeptFile) (f p : ℕ) (x : Mapped) → entry_at files f p ≡ Some x
    → slice_set files f (with_kept (kept_at files f) p (Some x)) ≡ files
kept_same files f p x there =
    ap (λ (m : FinMap nat_cmp Mapped). slice_set files f
    (record (kept_at files f) { mapping = record (kept_at files f).mapping { pages = m } }))
    (put_at-same (kept_at files f).mapping.pages p (Some x) there) ∙ set-get_or files f none_kept

-- no entry, taken away
pub none_same : (files : List KeptFile) (f p : ℕ) → entry_at files f p ≡ None
    → slice_set files f (with_kept (kept_at files f) p None) ≡ files
none_same files f p none =
    ap (λ (m : FinMap nat_cmp Mapped). slice_set files f
    (record (kept_at files f) { mapping = record (kept_at files f).mapping { pages = m } }))
    (put_at-same (kept_at files f).mapping.pages p None none) ∙ set-get_or files f none_kept

-- ---- one file changes, and no entry

same_entries : (files : List KeptFile) (f g : ℕ) (k : KeptFile) (b : Bool) → eqb g f ≡ b
    → k.mapping.pages ≡ (kept_at files f).mapping.pages
    → (cond b k (kept_at files g)).mapping.pages ≡ (kept_at files g).mapping.pages
same_entries files f g k true e is = is ∙ ap (λ n. (kept_at files n).mapping.pages) (sym (eqb-true g f e))
same_entries files f g k false e is = refl

pub entry-kept : (files : List KeptFile) (f : ℕ) (k : KeptFile) → f < length files
    → k.mapping.pages ≡ (kept_at files f).mapping.pages → (g q : ℕ)
    → entry_at (slice_set files f k) g q ≡ entry_at files g q
entry-kept files f k here is g q = ap (λ (m : FinMap nat_cmp Mapped). finmap.get m q)
    (ap (λ (y : KeptFile). y.mapping.pages) (kept-set files f g k here) ∙ same_entries files f g k (eqb g f) refl is)

pub seen-file : (t : Table) (up : List Bool) (files : List KeptFile) (f : ℕ) (k : KeptFile) (e : File)
    → f < length files → k.mapping.pages ≡ (kept_at files f).mapping.pages → file_of t up k ≡ e
    → store_of t up (slice_set files f k) ≡ record (store_of t up files)
    { files = slice_set (map (file_of t up) files) f e }
seen-file t up files f k e here pages is =
    let s = store_of t up files in
    store_is t up (slice_set files f k) (record s { files = slice_set s.files f e }) refl
    (length-set files f k ∙ sym (length-map files (file_of t up)) ∙ sym (length-set s.files f e))
    (λ g. ap (file_of t up) (kept-set files f g k here) ∙ either g (eqb g f)
    ∙ sym (get_or-set s.files f g e no_file (omega (arith, here, length-map files (file_of t up)))))
    (λ g q. ap (awaits up) (entry-kept files f k here pages g q) ∙ sym (waits_at t up files g q))
    refl refl
  where
    either : (g : ℕ) (b : Bool) → file_of t up (cond b k (kept_at files g))
        ≡ cond b e (stored_at (store_of t up files) g)
    either g true = is
    either g false = sym (stored-kept t up files g)

-- ---- a new file

get_or-pushed : {A : Type 0} (xs : List A) (d : A) (i : ℕ) → slice_index_or (xs ++ d ∷ []) i d ≡ slice_index_or xs i d
get_or-pushed [] d zero = refl
get_or-pushed [] d (suc i) = refl
get_or-pushed (x ∷ xs) d zero = refl
get_or-pushed (x ∷ xs) d (suc i) = get_or-pushed xs d i

pub entry-push : (files : List KeptFile) (f p : ℕ) → entry_at (files ++ none_kept ∷ []) f p ≡ entry_at files f p
entry-push files f p = ap (λ (k : KeptFile). finmap.get k.mapping.pages p) (get_or-pushed files none_kept f)

pub seen-push : (t : Table) (up : List Bool) (files : List KeptFile)
    → store_of t up (files ++ none_kept ∷ []) ≡ record (store_of t up files)
    { files = map (file_of t up) files ++ no_file ∷ [] }
seen-push t up files =
    let all : map (file_of t up) (files ++ none_kept ∷ []) ≡ map (file_of t up) files ++ no_file ∷ [] =
    map-append (file_of t up) files (none_kept ∷ [])
    ∙ ap (λ (e : File). map (file_of t up) files ++ e ∷ []) (no_kept_file t up) in
    let filling = same_places (store_of t up (files ++ none_kept ∷ [])).filling (store_of t up files).filling
    (λ g q. waits_at t up (files ++ none_kept ∷ []) g q ∙ ap (awaits up) (entry-push files g q)
    ∙ sym (waits_at t up files g q)) in
    λ i. record { page = t.size; files = all i; filling = filling i; free = free_frames t; lists = lists_of t }

-- ---- what is seen of one entry

some_seen : (t : Table) (up : List Bool) (o : Option Mapped)
    → has_page up o ≡ is_some (option_and_then (page_of t up) o)
some_seen t up None = refl
some_seen t up (Some x) =
    elim (is_uptodate up x) as (λ b. b
    ≡ is_some (cond b (Some (let page : Page = record { bytes = row_at t.bytes x.frame; tags = x.tags } in page)) None))
    [ true ↦ refl | false ↦ refl ]

pub cached_at : (t : Table) (up : List Bool) (files : List KeptFile) (f p : ℕ)
    → has_page up (entry_at files f p) ≡ is_some (stored_page (store_of t up files) f p)
cached_at t up files f p = some_seen t up (entry_at files f p) ∙ ap is_some (sym (seen_at t up files f p))

-- a cached page has an entry whose frame is up to date
pub cached_entry : (up : List Bool) (o : Option Mapped) → has_page up o ≡ true → (x : Mapped) → o ≡ Some x
    → is_uptodate up x ≡ true
cached_entry up o h x e = ap (has_page up) (sym e) ∙ h

pub some_entry : (up : List Bool) (o : Option Mapped) → has_page up o ≡ true → is_some o ≡ true
some_entry up None h = absurd (false≢true h)
some_entry up (Some x) h = refl

pub waiting_entry : (up : List Bool) (o : Option Mapped) → awaits up o ≡ true → is_some o ≡ true
waiting_entry up None h = absurd (false≢true h)
waiting_entry up (Some x) h = refl

pub waiting_flag : (up : List Bool) (o : Option Mapped) → awaits up o ≡ true → (x : Mapped) → o ≡ Some x
    → is_uptodate up x ≡ false
waiting_flag up o h x e = other (is_uptodate up x) (ap (awaits up) (sym e) ∙ h)
  where
    other : (b : Bool) → not b ≡ true → b ≡ false
    other true n = absurd (false≢true n)
    other false n = refl

-- no page is cached and filling at once
pub cached_no_wait : (up : List Bool) (o : Option Mapped) → has_page up o ≡ true → awaits up o ≡ false
cached_no_wait up None h = refl
cached_no_wait up (Some x) h = ap not h

pub some_mapped : {X Y : Type 0} (f : X → Y) (o : Option X) → is_some (option_map f o) ≡ is_some o
some_mapped f None = refl
some_mapped f (Some x) = refl

seen_no_wait : (t : Table) (up : List Bool) (o : Option Mapped) → awaits up o ≡ true
    → option_and_then (page_of t up) o ≡ None
seen_no_wait t up None h = refl
seen_no_wait t up (Some x) h =
    elim (is_uptodate up x) as (λ b. not b ≡ true
    → cond b (Some (let page : Page = record { bytes = row_at t.bytes x.frame; tags = x.tags } in page)) None ≡ None)
    [ true ↦ λ e. absurd (false≢true e) | false ↦ λ e. refl ] h

pub cached_idle : (t : Table) (up : List Bool) (files : List KeptFile) (f p : ℕ)
    → is_some (stored_page (store_of t up files) f p) ≡ true → is_awaited (store_of t up files) f p ≡ false
cached_idle t up files f p h = waits_at t up files f p
    ∙ cached_no_wait up (entry_at files f p) (cached_at t up files f p ∙ h)

pub waiting_absent : (t : Table) (up : List Bool) (files : List KeptFile) (f p : ℕ)
    → is_awaited (store_of t up files) f p ≡ true → stored_page (store_of t up files) f p ≡ None
waiting_absent t up files f p h = seen_at t up files f p
    ∙ seen_no_wait t up (entry_at files f p) (sym (waits_at t up files f p) ∙ h)

either_entry : (t : Table) (up : List Bool) (o : Option Mapped) → option_and_then (page_of t up) o ≡ None
    → awaits up o ≡ false → o ≡ None
either_entry t up None e d = refl
either_entry t up (Some x) e d =
    elim (is_uptodate up x) as (λ b. cond b
    (Some (let page : Page = record { bytes = row_at t.bytes x.frame; tags = x.tags } in page)) None ≡ None
    → not b ≡ false → ◌≡◌ {A = Option Mapped} (Some x) None) [
      | true ↦ λ e d. absurd (false≢true (sym (ap (λ (o : Option Page). is_some o) e)))
      | false ↦ λ e d. absurd (false≢true (sym d))
    ] e d

-- a page that is neither cached nor filling has no entry, and one that is has one
pub no_entry : (t : Table) (up : List Bool) (files : List KeptFile) (f p : ℕ)
    → stored_page (store_of t up files) f p ≡ None → is_awaited (store_of t up files) f p ≡ false
    → entry_at files f p ≡ None
no_entry t up files f p absent idle = either_entry t up (entry_at files f p) (sym (seen_at t up files f p) ∙ absent)
    (sym (waits_at t up files f p) ∙ idle)

-- what a cached page is, and that a page that is not cached has none
pub page_seen : (t : Table) (up : List Bool) (files : List KeptFile) (f p : ℕ) (x : Mapped)
    → entry_at files f p ≡ Some x → is_uptodate up x ≡ true
    → stored_page (store_of t up files) f p ≡ Some (record { bytes = row_at t.bytes x.frame; tags = x.tags })
page_seen t up files f p x there ready = seen_at t up files f p ∙ ap (option_and_then (page_of t up)) there
    ∙ ap (λ b. cond b (Some (let page : Page = record { bytes = row_at t.bytes x.frame; tags = x.tags } in page)) None)
    ready

pub none_seen : (t : Table) (up : List Bool) (files : List KeptFile) (f p : ℕ) (x : Mapped)
    → entry_at files f p ≡ Some x → is_uptodate up x ≡ false → stored_page (store_of t up files) f p ≡ None
none_seen t up files f p x there waits = seen_at t up files f p ∙ ap (option_and_then (page_of t up)) there
    ∙ ap (λ b. cond b (Some (let page : Page = record { bytes = row_at t.bytes x.frame; tags = x.tags } in page)) None)
    waits

dirty_seen : (t : Table) (up : List Bool) (o : Option Mapped)
    → ((x : Mapped) → o ≡ Some x → is_uptodate up x ≡ false → x.tags ≡ no_tags)
    → unwrap_or (option_map (λ (x : Mapped). has x.tags Dirty) o) false
    ≡ (tags_of (option_and_then (page_of t up) o)).dirty
dirty_seen t up None bare = refl
dirty_seen t up (Some x) bare =
    elim (is_uptodate up x) as (λ b. is_uptodate up x ≡ b
    → x.tags.dirty ≡ (tags_of (cond b
    (Some (let page : Page = record { bytes = row_at t.bytes x.frame; tags = x.tags } in page)) None)).dirty) [
      | true ↦ λ e. refl
      | false ↦ λ e. ap (λ (s : TagSet). s.dirty) (bare x refl e)
    ] refl

pub dirty_at : (t : Table) (up : List Bool) (files : List KeptFile) (f p : ℕ)
    → ((x : Mapped) → entry_at files f p ≡ Some x → is_uptodate up x ≡ false → x.tags ≡ no_tags)
    → has_at (kept_at files f).mapping.pages p Dirty ≡ (tags_of (stored_page (store_of t up files) f p)).dirty
dirty_at t up files f p bare = dirty_seen t up (entry_at files f p) bare
    ∙ ap (λ o. (tags_of o).dirty) (sym (seen_at t up files f p))

-- a change of a page that is neither filling before nor after, and of one that is cached neither before nor after
pub entry_page : (s : Store) (f p : ℕ) (page : Option Page) (free : ℕ) → is_awaited s f p ≡ false
    → with_entry s f p page false free ≡ with_pages s f (put_at p page (stored_at s f).pages) free
entry_page s f p page free idle = let same = put_in-same s.filling f p false idle in
    λ i. record (with_pages s f (put_at p page (stored_at s f).pages) free) { filling = same i }

pub entry_wait : (s : Store) (f p : ℕ) (waits : Bool) (free : ℕ) → stored_page s f p ≡ None
    → with_entry s f p None waits free ≡ record s { filling = put_in (f, p) waits s.filling; free = free }
entry_wait s f p waits free absent =
    let pages = put_at-same (stored_at s f).pages p None absent in
    let all = ap (λ (m : FinMap nat_cmp Page). slice_set s.files f (record (stored_at s f) { pages = m })) pages
    ∙ set-get_or s.files f no_file in
    λ i. record s { files = all i; filling = put_in (f, p) waits s.filling; free = free }
