-- The lowest page of a file that is to be flushed, as the file's mapping finds it: a page that is filling has no tags,
-- so it is
-- none.
use Rattle.std.proofs.Common.{◌≡◌, ℕ, ◌<◌, ◌≤◌, Bool, true, false, cond, not, List, length, refl, ap, sym, ◌∙◌, arith}
use Rattle.std.specs.Prelude.{◌&&◌, Option, Some, None, option_map, find, slice_index_or}
use Rattle.std.specs.Option.{option_and_then}
use Rattle.std.specs.Ordering.{nat_cmp}
use Rattle.std.specs.FinMap as finmap
use Rattle.std.specs.FinMap.{FinMap}
use Rattle.std.proofs.lemmas.List.{get_or_read}
use Rattle.pc_types.specs.Tags.{TagSet}
use Rattle.frames.specs.Table.{Table}
use Rattle.frames.specs.Rows.{row_at}
use Rattle.mapping.specs.Pages as mapping
use Rattle.mapping.specs.Pages.{Mapped}
use Rattle.mapping.specs.declared.page.FoundPage.{FoundPage}
use Rattle.writeback.specs.Picks as picks
use Rattle.pagestore.specs.declared.kept.KeptFile.{KeptFile}
use Rattle.machine.specs.State.{Page}
use Rattle.pagestore.specs.Store.{Store, IsStore, store_of, none_kept, is_uptodate, page_of, each_seen, kept_at}
use Rattle.pagestore.specs.Store.{entry_at, stored_at}
use Rattle.machine.specs.Changes.{flush_pick}
use Rattle.maps.proofs.Found.{found, found_lowest, found_none}
use Rattle.pagestore.proofs.StoreEntries.{get-each_seen}
use Rattle.pagestore.proofs.StoreFacts.{here_kept}
use Rattle.pagestore.proofs.StoreLaws.{stored-kept}

-- ---- among the values that are seen

abbrev pub passes : {Y : Type 0} → (ℕ × Y → Bool) → ℕ → Option Y → Bool
passes b q None = false
passes b q (Some y) = b (q, y)

-- a value passes the one test where it is seen and then passes the other: both find the same key
module _ {X Y : Type 0} (g : X → Option Y) (m : FinMap nat_cmp X) (a : ℕ × X → Bool) (b : ℕ × Y → Bool)
    (same : (q : ℕ) (x : X) → finmap.get m q ≡ Some x → passes b q (g x) ≡ a (q, x)) where
  before : (d : ℕ × Y) (o : Option X) → finmap.get m d.0 ≡ o → option_and_then g o ≡ Some d.1 → b d ≡ true
      → (x : X) × (finmap.get m d.0 ≡ Some x) × (a (d.0, x) ≡ true)
  before d None at e pass = absurd cc
  before d (Some x) at e pass = (x, at, sym (same d.0 x at) ∙ ap (passes b d.0) e ∙ pass)

  after : (e : ℕ × X) → finmap.get m e.0 ≡ Some e.1 → (o : Option Y) → g e.1 ≡ o → passes b e.0 o ≡ true
      → (y : Y) × (finmap.get (each_seen g m) e.0 ≡ Some y) × (b (e.0, y) ≡ true)
  after e at None is pass = absurd cc
  after e at (Some y) is pass = (y, get-each_seen g m e.0 ∙ ap (option_and_then g) at ∙ is, pass)

  at_seen : (d : ℕ × Y) → find b (finmap.entries (each_seen g m)) ≡ Some d
      → (x : X) × (finmap.get m d.0 ≡ Some x) × (a (d.0, x) ≡ true)
  at_seen d is = let w = found (each_seen g m) b d is in
      before d (finmap.get m d.0) refl (sym (get-each_seen g m d.0) ∙ w.1) w.0

  at_kept : (e : ℕ × X) → find a (finmap.entries m) ≡ Some e → (y : Y) × (finmap.get (each_seen g m) e.0 ≡ Some y)
      × (b (e.0, y) ≡ true)
  at_kept e is = let w = found m a e is in after e w.1 (g e.1) refl (same e.0 e.1 w.1 ∙ w.0)

  either : (o : Option (ℕ × X)) (r : Option (ℕ × Y)) → find a (finmap.entries m) ≡ o
      → find b (finmap.entries (each_seen g m)) ≡ r
      → option_map (λ (d : ℕ × Y). d.0) r ≡ option_map (λ (e : ℕ × X). e.0) o
  either None None i j = refl
  either None (Some d) i j = absurd (let w = at_seen d j in let no = found_none m a i d.0 w.0 w.1 in cc)
  either (Some e) None i j = absurd (let w = at_kept e i in let no = found_none (each_seen g m) b j e.0 w.0 w.1 in cc)
  either (Some e) (Some d) i j =
      let v = at_seen d j in
      let w = at_kept e i in
      let low : e.0 ≤ d.0 = found_lowest m a e i d.0 v.0 v.1 v.2 in
      let high : d.0 ≤ e.0 = found_lowest (each_seen g m) b d j e.0 w.0 w.1 w.2 in
      let key : d.0 ≡ e.0 = omega arith in
      ap Some key

  pub same_pick : option_map (λ (d : ℕ × Y). d.0) (find b (finmap.entries (each_seen g m)))
      ≡ option_map (λ (e : ℕ × X). e.0) (find a (finmap.entries m))
  same_pick = either (find a (finmap.entries m)) (find b (finmap.entries (each_seen g m))) refl refl

-- ---- among the pages of a file

number_found : (o : Option (ℕ × Mapped)) → option_map (λ (r : FoundPage). r.page.0) (option_map mapping.found o)
    ≡ option_map (λ (e : ℕ × Mapped). e.0) o
number_found None = refl
number_found (Some e) = refl

module _ (t : Table) (up : List Bool) (files : List KeptFile) (dirty : ℕ) (s : IsStore t up files dirty) (f : ℕ) where
  flushed_alike : (q : ℕ) (x : Mapped) → entry_at files f q ≡ Some x
      → passes (λ (e : ℕ × Page). e.1.tags.dirty && not e.1.tags.writeback) q (page_of t up x)
      ≡ picks.is_flushable (q, x)
  flushed_alike q x at =
      elim (is_uptodate up x) as (λ b. is_uptodate up x ≡ b
      → passes (λ (e : ℕ × Page). e.1.tags.dirty && not e.1.tags.writeback) q
      (cond b (Some (let page : Page = record { bytes = row_at t.bytes x.frame; tags = x.tags } in page)) None)
      ≡ (x.tags.dirty && not x.tags.writeback)) [
        | true ↦ λ _. refl
        | false ↦ λ waits. sym (ap (λ (g : TagSet). g.dirty && not g.writeback) (s.bare f q x at waits))
      ] refl

  pub flush_picked : (store : Store) → store_of t up files ≡ store → f < length store.files → (k : KeptFile)
      → k ≡ slice_index_or files f k → (r : Option FoundPage)
      → r ≡ option_map mapping.found (picks.flush_pick k.mapping.pages)
      → option_map (λ (r : FoundPage). r.page.0) r ≡ flush_pick (stored_at store f)
  flush_picked store is within k value r pick =
      let entry : k ≡ kept_at files f = get_or_read files f k (here_kept t up files f store is within) value
      none_kept in
      ap (option_map (λ (r : FoundPage). r.page.0)) pick
      ∙ number_found (picks.flush_pick k.mapping.pages)
      ∙ ap (λ (k : KeptFile). option_map (λ (e : ℕ × Mapped). e.0) (picks.flush_pick k.mapping.pages)) entry
      ∙ sym (same_pick (page_of t up) (kept_at files f).mapping.pages picks.is_flushable
      (λ e. e.1.tags.dirty && not e.1.tags.writeback) flushed_alike)
      ∙ ap flush_pick (sym (stored-kept t up files f))
      ∙ ap (λ (s : Store). flush_pick (stored_at s f)) is
