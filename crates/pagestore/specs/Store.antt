-- The pages of all files as the frames and the files' mappings keep them. A page that is filling has its
-- entry and its frame, so that the end of the fill takes no memory; a flag of the frame says whether it has the page's
-- bytes.
use Rattle.std.specs.Prelude.{◌≡◌, ◌+◌, ◌-◌, ◌<◌, ◌≤◌, ℕ, Bool, true, false, List, [], ◌∷◌, ◌++◌, map, filter}
use Rattle.std.specs.Prelude.{filter_map, length, not, ◌&&◌, if◌then◌else◌, Option, Some, None, is_some}
use Rattle.std.specs.Prelude.{option_map, sum_by, slice_index_or, slice_set, unwrap_or, All, refl}
use Rattle.std.specs.List.{range_with_len}
use Rattle.std.specs.Ordering.{nat_cmp}
use Rattle.std.specs.FinMap as finmap
use Rattle.std.specs.FinSet as set
use Rattle.std.specs.Coded.{Coded, code_by, coded×, coded_ℕ, coded_list}
use Rattle.pc_types.specs.declared.ids.FileId.{FileId}
use Rattle.pc_types.specs.declared.ids.PageIndex.{PageIndex}
use Rattle.pc_types.specs.declared.limits.TheConstants.{MAX_FRAMES}
use Rattle.pc_types.specs.Spots.{place_cmp}
use Rattle.pc_types.specs.Tags.{TagSet, no_tags}
use Rattle.frames.specs.Table.{Table, IsSound, owner_of, is_referenced, is_aside, free_frames}
use Rattle.frames.specs.Rows.{row_at}
use Rattle.mapping.specs.Pages.{Mapped}
use Rattle.pagestore.specs.declared.kept.KeptFile.{KeptFile}
use Rattle.machine.specs.inside.Codes.{file_code, lists_code}
use Rattle.machine.specs.PageLists.{Listed, PageLists}
use Rattle.machine.specs.State.{File, Page, no_file, dirty_in}
use Rattle.pc_types.specs.Files.{cut}

-- a file without bytes
abbrev pub none_kept : KeptFile
none_kept = record { mapping = record { size = 0; pages = finmap.empty }; failures = 0; last_code = 0 }

-- whether the frame has its page's bytes (PG_uptodate)
abbrev pub is_uptodate : List Bool → Mapped → Bool
is_uptodate up x = slice_index_or up x.frame false

-- whether there is an entry and its page is cached; whether there is one and its page is filling
abbrev pub has_page : List Bool → Option Mapped → Bool
has_page up None = false
has_page up (Some x) = is_uptodate up x

abbrev pub awaits : List Bool → Option Mapped → Bool
awaits up None = false
awaits up (Some x) = not (is_uptodate up x)

-- whether a page has no tag
abbrev pub is_untagged : TagSet → Bool
is_untagged t = not t.dirty && not t.writeback && not t.towrite

-- whether there is an entry whose page is idle: cached, and without tags
abbrev pub is_idle_entry : List Bool → Option Mapped → Bool
is_idle_entry up None = false
is_idle_entry up (Some x) = is_uptodate up x && is_untagged x.tags

-- a cached page: the bytes of its frame, and its tags
abbrev pub page_of : Table → List Bool → Mapped → Option Page
page_of t up x = if is_uptodate up x then Some (record { bytes = row_at t.bytes x.frame; tags = x.tags }) else None

-- the values that the function gives, each at its key. A key at which it gives none is left out
abbrev pub each_seen : {X Y : Type 0} → (X → Option Y) → finmap.FinMap nat_cmp X → finmap.FinMap nat_cmp Y
each_seen f m = finmap.from_entries (filter_map (λ e. option_map (λ y. (e.0, y)) (f e.1)) (finmap.entries m))

abbrev pub file_of : Table → List Bool → KeptFile → File
file_of t up k =
    record {
      size = k.mapping.size;
      failures = k.failures;
      last_code = k.last_code;
      pages = each_seen (page_of t up) k.mapping.pages;
    }

-- a file by its number, and one without bytes past the last
abbrev pub kept_at : List KeptFile → ℕ → KeptFile
kept_at files f = slice_index_or files f none_kept

-- the entry of page p of file f
abbrev pub entry_at : List KeptFile → ℕ → ℕ → Option Mapped
entry_at files f p = finmap.get (kept_at files f).mapping.pages p

-- the pages that are filling, the first file being f
abbrev pub filling_from : List Bool → ℕ → List KeptFile → List (ℕ × ℕ)
filling_from up f [] = []
filling_from up f (k ∷ ks) =
    map (λ p. (f, p)) (filter (λ p. awaits up (finmap.get k.mapping.pages p)) (finmap.keys k.mapping.pages))
    ++ filling_from up (f + 1) ks

-- the page that a frame in a list was taken for. Each frame in a list is taken, so it has an owner
abbrev pub owner_in : Option (FileId × PageIndex) → FileId × PageIndex
owner_in owner = unwrap_or owner (record { 0 = 0 }, record { 0 = 0 })

abbrev pub listed_at : Table → ℕ → Listed
listed_at t frame =
    record {
      file = (owner_in (owner_of t frame)).0.0;
      page = (owner_in (owner_of t frame)).1.0;
      referenced = is_referenced t frame;
    }

-- the page lists, by the frames' lists
abbrev pub lists_of : Table → PageLists
lists_of t = record { active = map (listed_at t) t.active; inactive = map (listed_at t) t.inactive }

-- bytes of a page, the files with their cached pages, the files and numbers of the pages that are filling, how many
-- frames are
-- free, and the page lists
pub record Store : Type 0 where
  pub page : ℕ
  pub files : List File
  pub filling : set.FinSet place_cmp
  pub free : ℕ
  pub lists : PageLists

abbrev pub store_code : Coded Store
store_code =
    code_by (ℕ × (List File × (set.FinSet place_cmp × (ℕ × PageLists))))
    (coded× coded_ℕ (coded× (coded_list file_code)
    (coded× (set.code (coded× coded_ℕ coded_ℕ)) (coded× coded_ℕ lists_code))))
    (λ s. (s.page, (s.files, (s.filling, (s.free, s.lists)))))
    (λ c. record { page = c.0; files = c.1.0; filling = c.1.1.0; free = c.1.1.1.0; lists = c.1.1.1.1 }) (λ _. refl)

abbrev pub store_of : Table → List Bool → List KeptFile → Store
store_of t up files =
    record {
      page = t.size;
      files = map (file_of t up) files;
      filling = set.from_list (filling_from up 0 files);
      free = free_frames t;
      lists = lists_of t;
    }

-- a cached page, and an empty one where it is not cached
abbrev pub the_page : finmap.FinMap nat_cmp Page → ℕ → Page
the_page pages p = unwrap_or (finmap.get pages p) (record { bytes = []; tags = no_tags })

-- a page of zeros
abbrev pub blank : ℕ → Page
blank P = record { bytes = cut [] P; tags = no_tags }

abbrev pub stored_at : Store → ℕ → File
stored_at s f = slice_index_or s.files f no_file

-- page p of file f, and whether it is filling
abbrev pub stored_page : Store → ℕ → ℕ → Option Page
stored_page s f p = finmap.get (stored_at s f).pages p

abbrev pub is_awaited : Store → ℕ → ℕ → Bool
is_awaited s f p = set.contains s.filling (f, p)

-- the store with these pages of file f, and so many free frames
abbrev pub with_pages : Store → ℕ → finmap.FinMap nat_cmp Page → ℕ → Store
with_pages s f pages free =
    record s { files = slice_set s.files f (record (stored_at s f) { pages = pages }); free = free }

-- the value at a key, or none there
abbrev pub put_at : {X : Type 0} → ℕ → Option X → finmap.FinMap nat_cmp X → finmap.FinMap nat_cmp X
put_at k None m = finmap.remove m k
put_at k (Some x) m = finmap.insert m k x

abbrev pub put_in : ℕ × ℕ → Bool → set.FinSet place_cmp → set.FinSet place_cmp
put_in place false s = set.remove s place
put_in place true s = set.insert s place

-- the store with other page lists
abbrev pub with_lists : Store → PageLists → Store
with_lists s lists = record s { lists = lists }

-- the store after page p of file f became this one, or is filling, or neither, with so many free frames
abbrev pub with_entry : Store → ℕ → ℕ → Option Page → Bool → ℕ → Store
with_entry s f p page waits free = record (with_pages s f (put_at p page (stored_at s f).pages) free)
    { filling = put_in (f, p) waits s.filling }

-- no page of file f from `first` up to `end` is filling
pub record NoneAwaited (f first end : ℕ) (s : Store) : Type 0 where
  pub each : (q : ℕ) → first ≤ q → q < end → is_awaited s f q ≡ false

-- the pages of file f from `first` up to `end` that are not cached, in rising order
abbrev pub absent_pages : Store → ℕ → ℕ → ℕ → List ℕ
absent_pages s f first end = filter (λ p. not (is_some (stored_page s f p))) (range_with_len first (end - first))

-- each entry has a frame of its own, which was taken for its page, and every taken frame is an entry's. A page that is
-- filling has no tags. A frame that is set aside has no idle page. `dirty` counts the DIRTY pages
pub record IsStore (t : Table) (up : List Bool) (files : List KeptFile) (dirty : ℕ) : Type 0 where
  pub sound : IsSound t
  pub owned : (f p : ℕ) (x : Mapped) → entry_at files f p ≡ Some x
      → owner_of t x.frame ≡ Some (record { 0 = f }, record { 0 = p })
  pub bare : (f p : ℕ) (x : Mapped) → entry_at files f p ≡ Some x → is_uptodate up x ≡ false → x.tags ≡ no_tags
  pub busy : (f p : ℕ) (x : Mapped) → entry_at files f p ≡ Some x → is_aside t x.frame ≡ true
      → is_idle_entry up (Some x) ≡ false
  pub counted : sum_by (λ k. finmap.len k.mapping.pages) files + free_frames t ≡ length t.owners
  pub sized : All (λ row. length row ≡ t.size) t.bytes
  pub rows : length t.bytes ≡ length t.owners
  pub flags : length up ≡ length t.owners
  pub few : length t.owners ≤ MAX_FRAMES
  pub dirty_is : dirty ≡ sum_by dirty_in (map (file_of t up) files)
