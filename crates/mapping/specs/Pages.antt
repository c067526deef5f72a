-- A file's cached pages: a finite map from page numbers to frames and tags. A page's frame holds its bytes. The tags are
-- those of Linux's page cache (PAGECACHE_TAG_DIRTY, _WRITEBACK, _TOWRITE).
use Rattle.std.specs.Prelude.{◌≡◌, ℕ, ◌<◌, Bool, true, false, not, unwrap_or, ◌&&◌, ◌||◌, nat_le, if◌then◌else◌, map, find, count_by, Option, Some, option_map, refl}
use Rattle.std.specs.Ordering.{nat_cmp}
use Rattle.std.specs.Coded.{Coded, coded_ℕ, coded_bool, coded×, code_by}
use Rattle.std.specs.FinMap as map
use Rattle.pc_types.specs.declared.tags.Tag.{Tag}
use Rattle.pc_types.specs.declared.tags.Tag.TheVariants.{Dirty, Writeback, Towrite}
use Rattle.pc_types.specs.Tags.{TagSet, no_tags, has, put}
use Rattle.pc_types.specs.TagBits.{tag_set}
use Rattle.pc_types.specs.declared.ids.FrameId.{FrameId}
use Rattle.mapping.specs.declared.mapping.TheConstants.{MAX_PAGES}
use Rattle.mapping.specs.declared.page.MappedPage.{MappedPage}
use Rattle.mapping.specs.declared.page.FoundPage.{FoundPage}
use Rattle.mapping.specs.declared.totals.Totals.{Totals}

-- a cached page
pub record Mapped : Type 0 where
  pub frame : ℕ
  pub tags : TagSet

-- the cached pages by their numbers
abbrev pub Pages : Type 0
Pages = map.FinMap nat_cmp Mapped

-- a file: its size in bytes, and its cached pages
pub record FilePages : Type 0 where
  pub size : ℕ
  pub pages : Pages

-- the number of each page is below the most pages of a file
pub record IsNumbered (pages : Pages) : Type 0 where
  pub each : (p : ℕ) (page : Mapped) → map.get pages p ≡ Some page → p < MAX_PAGES

abbrev pub tags_code : Coded TagSet
tags_code = code_by (Bool × (Bool × Bool)) (coded× coded_bool (coded× coded_bool coded_bool)) (λ t. (t.dirty, (t.writeback, t.towrite))) (λ p. record { dirty = p.0; writeback = p.1.0; towrite = p.1.1 }) (λ _. refl)

abbrev pub page_code : Coded Mapped
page_code = code_by (ℕ × TagSet) (coded× coded_ℕ tags_code) (λ p. (p.frame, p.tags)) (λ p. record { frame = p.0; tags = p.1 }) (λ _. refl)

abbrev pub file_code : Coded FilePages
file_code = code_by (ℕ × Pages) (coded× coded_ℕ (map.code coded_ℕ page_code)) (λ f. (f.size, f.pages)) (λ p. record { size = p.0; pages = p.1 }) (λ _. refl)

-- a page as the program has it
abbrev pub seen : MappedPage → Mapped
seen p = record { frame = p.frame.0; tags = tag_set p.tags }

-- a page that was just cached
abbrev pub untagged : ℕ → Mapped
untagged frame = record { frame = frame; tags = no_tags }

-- the page with a tag set or cleared, and with other tags
abbrev pub with_tag : Tag → Bool → Mapped → Mapped
with_tag tag is page = record page { tags = put page.tags tag is }

abbrev pub with_tags : TagSet → Mapped → Mapped
with_tags tags page = record page { tags = tags }

-- the tags without those of `clear`, and with those of `set`
abbrev pub tags_after : TagSet → TagSet → TagSet → TagSet
tags_after clear set tags = record {
  dirty = not clear.dirty && tags.dirty || set.dirty;
  writeback = not clear.writeback && tags.writeback || set.writeback;
  towrite = not clear.towrite && tags.towrite || set.towrite;
}

abbrev pub with_tags_after : TagSet → TagSet → Mapped → Mapped
with_tags_after clear set page = with_tags (tags_after clear set page.tags) page

abbrev pub frame_of : Mapped → FrameId
frame_of page = record { 0 = page.frame }

-- whether a page is cached at an index and has the tag
abbrev pub has_at : Pages → ℕ → Tag → Bool
has_at pages index tag = unwrap_or (option_map (λ page. has page.tags tag) (map.get pages index)) false

abbrev pub within : ℕ → ℕ → ℕ → Bool
within from to index = nat_le from index && nat_le index to

-- whether a page is from `from` to `to` and has the tag
abbrev pub is_tagged : Tag → ℕ → ℕ → ℕ × Mapped → Bool
is_tagged tag from to e = within from to e.0 && has e.1.tags tag

abbrev pub found : ℕ × Mapped → FoundPage
found e = record { page = record { 0 = e.0 }; frame = frame_of e.1 }

-- the lowest page that passes a test
abbrev pub lowest : (ℕ × Mapped → Bool) → Pages → Option FoundPage
lowest test pages = option_map found (find test (map.entries pages))

-- how many pages pass a test
abbrev pub count : (ℕ × Mapped → Bool) → Pages → ℕ
count test pages = count_by test (map.entries pages)

-- how many pages have the tag
abbrev pub tagged_count : Tag → Pages → ℕ
tagged_count tag pages = count (λ e. has e.1.tags tag) pages

abbrev pub totals_of : Pages → Totals
totals_of pages = record { dirty = tagged_count Dirty pages; writeback = tagged_count Writeback pages; towrite = tagged_count Towrite pages }

-- each page that passes a test gets the tag
abbrev pub tag_if : (ℕ × Mapped → Bool) → Tag → ℕ × Mapped → Mapped
tag_if test tag e = if test e then with_tag tag true e.1 else e.1

abbrev pub tag_each : (ℕ × Mapped → Bool) → Tag → Pages → Pages
tag_each test tag pages = map.from_entries (map (λ e. (e.0, tag_if test tag e)) (map.entries pages))
