use Rattle.std.proofs.Common.{sym, ◌∙◌}
use Rattle.std.specs.Prelude.{None}
use Rattle.mapping.specs.Pages.{FilePages}
use Rattle.maps.specs.Maps.{each_value}
use Rattle.machine.specs.State.{Sync}
use Rattle.writeback.specs.Picks as picks
use Rattle.pagestore.proofs.SyncTags.{marked_seen, marked_store}
use Rattle.pagestore.proofs.pages.Pages.sync_begin.Goals as goal

pub invariant_of-self : goal.invariant_of-self
invariant_of-self c = marked_store c.self.inside.frames c.self.inside.uptodate.items c.self.inside.files.items
    c.self.inside.dirty c.self.invariant c.args.self.now c.self.view_is c.args.file c.requires c.index_mut.result.now
    c.index_mut.ensures.value c.sync_begin.new.mapping
    (let y : Sync = record {
      handle = 0;
      first = c.args.first.0;
      last = c.args.last.0;
      started = None;
      failures = 0;
      bound = None;
    } in y) c.sync_begin.ensures

pub returns : goal.returns
returns c = λ y first last.
    marked_seen c.self.inside.frames c.self.inside.uptodate.items c.self.inside.files.items c.self.inside.dirty
    c.self.invariant c.args.self.now c.self.view_is c.args.file c.requires c.index_mut.result.now
    c.index_mut.ensures.value c.sync_begin.new.mapping y
    (c.sync_begin.ensures ∙ (λ i. let k : FilePages =
    record c.index_mut.result.now.mapping
    { pages = each_value (picks.to_write (sym first i) (sym last i)) c.index_mut.result.now.mapping.pages } in k))
