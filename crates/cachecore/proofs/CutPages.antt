-- The page that a truncation cuts into, as the code cuts it.
use Rattle.std.proofs.Common.{◌≡◌, ℕ, zero, suc, ◌%◌, ◌≤◌, Bool, true, false, cond, eqb, refl, ap, sym, ◌∙◌, arith}
use Rattle.std.specs.Prelude.{Option, Some, None, is_some, option_map, if◌then◌else◌, slice_index_or, take}
use Rattle.std.specs.Ordering.{nat_cmp}
use Rattle.std.specs.FinMap as finmap
use Rattle.std.specs.FinMap.{FinMap}
use Rattle.std.proofs.Math.Nat.{mod-mod}
use Rattle.pc_types.specs.Files as bytes
use Rattle.pc_types.specs.Spots.{Spot}
use Rattle.blockmap.specs.declared.spots.Placed.{Placed}
use Rattle.blockmap.specs.Told.{told}
use Rattle.pc_types.specs.declared.limits.TheConstants.{MAX_FILE_SIZE, MIN_PAGE_SIZE}
use Rattle.mapping.specs.declared.mapping.TheConstants.{MAX_PAGES}
use Rattle.machine.specs.State.{State, Page, has_block, no_file, page_count}
use Rattle.pagestore.specs.Store.{Store, stored_at, stored_page, with_pages}
use Rattle.machine.specs.Changes.{boundary, cut_boundary, cut_page}
use Rattle.maps.specs.Maps.{change_at, put_some}
use Rattle.maps.proofs.MapLaws.{get-change_at, same_nat_map}
use Rattle.pagestore.proofs.RangeLemmas.{with-itself}
use Rattle.pagestore.proofs.Spans.{page_below}

-- a file has no more pages than a mapping
pub count_below : (P z : ℕ) → MIN_PAGE_SIZE ≤ P → z ≤ MAX_FILE_SIZE → page_count P z ≤ MAX_PAGES
count_below P z least small = go (page_count P z) refl
  where
    go : (k : ℕ) → page_count P z ≡ k → k ≤ MAX_PAGES
    go zero e = omega arith
    go (suc k) e = let last = page_below P z k least small (omega (arith, e)) in omega (arith, last)

change_absent : (m : FinMap nat_cmp Page) (p : ℕ) (g : Page → Page) → is_some (finmap.get m p) ≡ false
    → change_at p g m ≡ m
change_absent m p g none = go (finmap.get m p) refl none
  where
    go : (o : Option Page) → finmap.get m p ≡ o → is_some o ≡ false → change_at p g m ≡ m
    go None e t = ap (λ (o : Option Page). put_some p (option_map g o) m) e
    go (Some x) e t = absurd cc

change_same : (m : FinMap nat_cmp Page) (p P z : ℕ) → change_at p (cut_page P z false) m ≡ m
change_same m p P z = same_nat_map (change_at p (cut_page P z false) m) m
    (λ q. get-change_at p (cut_page P z false) m q ∙ either (eqb q p) (finmap.get m q))
  where
    same : (o : Option Page) → option_map (cut_page P z false) o ≡ o
    same None = refl
    same (Some x) = refl

    either : (b : Bool) (o : Option Page) → cond b (option_map (cut_page P z false) o) o ≡ o
    either true o = same o
    either false o = refl

module _ (old : Store) (f p from : ℕ) (has : Bool) where
  abbrev cut : Store
  cut = with_pages old f (change_at p (cut_page old.page from has) (stored_at old f).pages) old.free

  stays : change_at p (cut_page old.page from has) (stored_at old f).pages ≡ (stored_at old f).pages → old ≡ cut
  stays e = sym (with-itself old f) ∙ ap (λ (m : FinMap nat_cmp Page). with_pages old f m old.free) (sym e)

  -- it is not cached, or has no block
  pub cut_absent : is_some (stored_page old f p) ≡ false → old ≡ cut
  cut_absent none = stays (change_absent (stored_at old f).pages p (cut_page old.page from has) none)

  pub cut_bare : has ≡ false → old ≡ cut
  cut_bare e =
      stays (ap (λ (b : Bool). change_at p (cut_page old.page from b) (stored_at old f).pages) e
      ∙ change_same (stored_at old f).pages p old.page from)

-- ---- the boundary page of a truncation to z

module _ (s : State) (f z : ℕ) (old : Store) (files : s.files ≡ old.files) where
  -- nothing is cut into
  pub tail_whole : None ≡ boundary s f z → old ≡ with_pages old f (cut_boundary s f z (boundary s f z)) old.free
  tail_whole none = sym (with-itself old f)
      ∙ (λ i. with_pages old f (slice_index_or (sym files i) f no_file).pages old.free)
      ∙ ap (λ (o : Option ℕ). with_pages old f (cut_boundary s f z o) old.free) none

  pub tail_into : (q from P : ℕ) (tail : Store) → Some q ≡ boundary s f z → old.page ≡ s.sizes.page → P ≡ s.sizes.page
      → from ≡ z % P → tail ≡ with_pages old f
      (change_at q (cut_page old.page from (has_block s f q)) (stored_at old f).pages) old.free
      → tail ≡ with_pages old f (cut_boundary s f z (boundary s f z)) old.free
  tail_into q from P tail at page size from_is is =
      let place : from % old.page ≡ z % s.sizes.page = (λ i. from_is i % (page ∙ sym size) i) ∙ mod-mod z P
      ∙ ap (λ n. z % n) size in
      is
      ∙ (λ i. with_pages old f (change_at q
      (λ (x : Page). if has_block s f q then record {
        bytes = bytes.cut (take (place i) x.bytes) (page i);
        tags = record x.tags { dirty = true };
      } else x) (slice_index_or (sym files i) f no_file).pages) old.free)
      ∙ ap (λ (o : Option ℕ). with_pages old f (cut_boundary s f z o) old.free) at

-- a page without a told block has none
pub mapped_not : (o : Option Spot) (r : Option Placed) → r ≡ option_map told o → is_some r ≡ false → is_some o ≡ false
mapped_not None r e none = refl
mapped_not (Some x) r e none = absurd (let k = ap is_some e in cc)
