-- A page's tags, as a set of three.
use Rattle.std.specs.Prelude.{Bool, false}
use Rattle.pc_types.specs.declared.tags.Tag.{Tag}
use Rattle.pc_types.specs.declared.tags.Tag.TheVariants.{Dirty, Writeback, Towrite}

-- which tags a page has
pub record TagSet : Type 0 where
  pub dirty : Bool
  pub writeback : Bool
  pub towrite : Bool

abbrev pub no_tags : TagSet
no_tags = record { dirty = false; writeback = false; towrite = false }

-- whether the set has the tag
abbrev pub has : TagSet → Tag → Bool
has t Dirty = t.dirty
has t Writeback = t.writeback
has t Towrite = t.towrite

-- the set, with the tag in it or not as `b` says
abbrev pub put : TagSet → Tag → Bool → TagSet
put t Dirty b = record t { dirty = b }
put t Writeback b = record t { writeback = b }
put t Towrite b = record t { towrite = b }
