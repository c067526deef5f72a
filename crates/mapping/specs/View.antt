-- The pages that a marked array stands for, and what a mapping keeps of its counters. Nothing outside this crate speaks of it.
use Rattle.std.specs.Prelude.{◌≡◌, ℕ, ◌<◌, ◌^◌, map, Some}
use Rattle.std.specs.FinMap as map
use Rattle.pc_types.specs.declared.tags.Tag.{Tag}
use Rattle.pc_types.specs.declared.tags.Tag.TheVariants.{Dirty, Writeback, Towrite}
use Rattle.pc_types.specs.Tags.{TagSet}
use Rattle.xarray.specs.declared.entry.Mark.{Mark}
use Rattle.xarray.specs.declared.entry.Marked.{Marked}
use Rattle.xarray.specs.declared.entry.Marks.{Marks}
use Rattle.xarray.specs.declared.entry.Mark.TheVariants.{M0, M1, M2}
use Rattle.xarray.specs.MarkedArray.{Range, Ranges}
use Rattle.mapping.specs.declared.mapping.TheConstants.{MAX_PAGES}
use Rattle.mapping.specs.declared.totals.Totals.{Totals}
use Rattle.mapping.specs.Pages.{Mapped, Pages, tagged_count}
use Rattle.mapping.specs.Totals.{total}

-- DIRTY is mark 0, WRITEBACK mark 1 and TOWRITE mark 2, as in Linux
abbrev pub tag_mark : Tag → Mark
tag_mark Dirty = M0
tag_mark Writeback = M1
tag_mark Towrite = M2

abbrev pub tags_of : Marks → TagSet
tags_of marks = record { dirty = marks.m0; writeback = marks.m1; towrite = marks.m2 }

-- a page by the value of its entry and the marks
abbrev pub page_from : Marked → Mapped
page_from entry = record { frame = entry.value; tags = tags_of entry.marks }

-- an entry's value is the frame
abbrev pub page_of : Range → Mapped
page_of r = record { frame = r.value; tags = record { dirty = r.first_mark; writeback = r.second_mark; towrite = r.third_mark } }

abbrev pub pages_of : Ranges → Pages
pages_of ranges = map.from_entries (map (λ e. (e.0, page_of e.1)) (map.entries ranges))

-- an entry is one page, of a file of at most the largest size, and names a frame
pub record IsPage (index : ℕ) (r : Range) : Type 0 where
  pub single : r.order ≡ 0
  pub framed : r.value < 2 ^ 32
  pub numbered : index < MAX_PAGES

-- the counters are exact
pub record IsCounted (ranges : Ranges) (page_count : ℕ) (totals : Totals) : Type 0 where
  pub each : (index : ℕ) (r : Range) → map.get ranges index ≡ Some r → IsPage index r
  pub pages : page_count ≡ map.len (pages_of ranges)
  pub tags : (tag : Tag) → total totals tag ≡ tagged_count tag (pages_of ranges)
