-- Words of the contracts: pages read and written one after the other.
use Rattle.std.specs.Prelude.{◌≡◌, ◌+◌, ◌-◌, ◌/◌, ◌%◌, ◌<◌, ◌≤◌, slice_index, slice_index_or, Bool, true, false, length, take, drop, ◌++◌, ℕ, List, []}
use Rattle.std.specs.Prelude.{Option, Some, option_map, unwrap_or, if◌then◌else◌, nat_le, nat_lt, ◌&&◌, is_some, not, count_by}
use Rattle.std.specs.List.{range_with_len}
use Rattle.std.specs.Ordering.{nat_cmp}
use Rattle.std.specs.FinMap.{FinMap, get}
use Rattle.machine.specs.State.{File, Page, no_file}
use Rattle.machine.specs.PageLists.{each_entered}
use Rattle.pagestore.specs.Store.{Store, absent_pages, stored_at, stored_page, the_page, with_lists, with_pages}
use Rattle.machine.specs.Changes.{written_page}

-- byte k of a page, where it is cached
abbrev pub page_byte : Option Page → ℕ → ℕ
page_byte page k = slice_index (unwrap_or (option_map (λ page. page.bytes) page) []) k

-- each page from `first` up to `end` is cached
pub record AreCached (first end : ℕ) (pages : FinMap nat_cmp Page) : Type 0 where
  pub each : (q : ℕ) → first ≤ q → q < end → is_some (get pages q) ≡ true

-- a page from `first` up to `end` is absent
pub record HasAbsent (f first end : ℕ) (s : Store) : Type 0 where
  pub page : ℕ
  pub from : first ≤ page
  pub before : page < end
  pub absent : is_some (stored_page s f page) ≡ false

-- the flags that are set are those of the cached pages of file f from `first` up to `end`, and all of these have one
pub record AreFlags (flags : List Bool) (files : List File) (f first end : ℕ) : Type 0 where
  pub long : end - first ≤ length flags
  pub each : (k : ℕ) → slice_index_or flags k false
      ≡ (nat_lt k (end - first) && is_some (get (slice_index_or files f no_file).pages (first + k)))

-- each cached page has P bytes
pub record AreSized (P : ℕ) (pages : FinMap nat_cmp Page) : Type 0 where
  pub each : (q : ℕ) → is_some (get pages q) ≡ true → length (the_page pages q).bytes ≡ P

-- b is written at o into the pages from `first` up to `end`
pub record IsLaid (P o : ℕ) (b : List ℕ) (first end : ℕ) (old new : FinMap nat_cmp Page) : Type 0 where
  pub each : (q : ℕ) → get new q
      ≡ (if nat_le first q && nat_lt q end then Some (written_page P o b q (get old q)) else get old q)

-- b is written at o into the pages of file f from `first` up to `end`; those that were absent are made
pub record AreWritten (P f o : ℕ) (b : List ℕ) (first end : ℕ) (old new : Store) : Type 0 where
  pub pages : IsLaid P o b first end (stored_at old f).pages (stored_at new f).pages
  pub rest : new ≡ with_lists (with_pages old f (stored_at new f).pages new.free)
      (each_entered f (absent_pages old f first end) old.lists)
  pub fewer : new.free ≡ old.free - count_by (λ p. not (is_some (stored_page old f p)))
      (range_with_len first (end - first))

-- the first n places of `out` have the bytes from o on of the cached pages
pub record AreRead (P o : ℕ) (pages : FinMap nat_cmp Page) (n : ℕ) (out : List ℕ) : Type 0 where
  pub each : (i : ℕ) → i < n → i < length out → slice_index out i ≡ page_byte (get pages ((o + i) / P)) ((o + i) % P)

-- the page, DIRTY
abbrev pub dirtied : Page → Page
dirtied page = record page { tags = record page.tags { dirty = true } }

-- the page with these bytes put in place from k on, and DIRTY
abbrev pub with_part : Page → ℕ → List ℕ → Page
with_part page k b = dirtied (record page { bytes = take k page.bytes ++ b ++ drop (k + length b) page.bytes })
