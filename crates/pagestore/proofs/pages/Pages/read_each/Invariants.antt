use Rattle.std.proofs.Common.{◌≡◌, ◌*◌, ◌-◌, ◌/◌}
use Rattle.std.specs.List.{range_with_len}
use Rattle.machine.specs.PageLists.{each_accessed}
use Rattle.pagestore.specs.Ranges.{AreRead}
use Rattle.pagestore.specs.Store.{stored_at, with_lists}
use Rattle.pagestore.proofs.pages.Pages.read_each.Given as goal

abbrev pub invariant-loop-p : goal.invariant-loop-p
invariant-loop-p l = record {
  read : AreRead l.page_size l.offset (stored_at l.fn.self l.file).pages (l.p * l.page_size - l.offset) l.out;
  moved : l.self ≡ with_lists l.fn.self
      (each_accessed l.file (range_with_len (l.offset / l.page_size) (l.p - l.offset / l.page_size)) l.fn.self.lists);
}
