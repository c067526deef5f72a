-- Counters of pages, one a tag.
use Rattle.std.specs.Prelude.{ℕ, ◌+◌, ◌-◌, Bool, cond}
use Rattle.pc_types.specs.declared.tags.Tag.{Tag}
use Rattle.pc_types.specs.declared.tags.Tag.TheVariants.{Dirty, Writeback, Towrite}
use Rattle.pc_types.specs.Tags.{TagSet}
use Rattle.mapping.specs.declared.totals.Totals.{Totals}

-- the counter of a tag
abbrev pub total : Totals → Tag → ℕ
total t Dirty = t.dirty
total t Writeback = t.writeback
total t Towrite = t.towrite

-- the counters with another number at a tag
abbrev pub with_total : Totals → Tag → ℕ → Totals
with_total t Dirty n = record t { dirty = n }
with_total t Writeback n = record t { writeback = n }
with_total t Towrite n = record t { towrite = n }

abbrev pub one : Bool → ℕ
one b = cond b 1 0

-- the counters without a page that has these tags
abbrev pub without_page : Totals → TagSet → Totals
without_page t tags = record { dirty = t.dirty - one tags.dirty; writeback = t.writeback - one tags.writeback; towrite = t.towrite - one tags.towrite }

-- the counters where a page had these tags and has others now
abbrev pub with_page : Totals → TagSet → TagSet → Totals
with_page t before now = record {
  dirty = t.dirty - one before.dirty + one now.dirty;
  writeback = t.writeback - one before.writeback + one now.writeback;
  towrite = t.towrite - one before.towrite + one now.towrite;
}
