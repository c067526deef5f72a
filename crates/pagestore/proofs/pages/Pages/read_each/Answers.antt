use Rattle.std.proofs.Common.{arith, ap, sym, ◌∙◌, ◌≡◌, ◌+◌, ◌-◌, ◌*◌, ◌/◌, ◌<◌, ◌≤◌, ◌++◌, length, take, drop, true}
use Rattle.std.specs.Prelude.{is_some, slice_range}
use Rattle.std.specs.FinMap as map
use Rattle.pagestore.specs.Store.{the_page, Store, stored_at, stored_page, with_lists}
use Rattle.std.specs.List.{range_with_len}
use Rattle.machine.specs.PageLists.{accessed, each_accessed}
use Rattle.pagestore.proofs.Accesses.{accessed_next, accessed_none}
use Rattle.pagestore.proofs.Spans.{in_order}
use Rattle.pagestore.proofs.Overlay.{touched_above, touched_below}
use Rattle.pagestore.proofs.ReadLemmas.{read_step}
use Rattle.pagestore.proofs.RangeLemmas.{some_page, read_none, read_whole}
use Rattle.pagestore.proofs.pages.Pages.read_each.Goals as goal

pub read_part-requires-clause-here : goal.read_part-requires-clause-here
read_part-requires-clause-here c =
    omega (arith, c.requires.here, ap (λ (s : Store). length s.files) c.loop-p.invariant.moved)

pub read_part-requires-clause-cached : goal.read_part-requires-clause-cached
read_part-requires-clause-cached c = ap (λ (s : Store). is_some (stored_page s c.args.file c.loop-p.p))
    c.loop-p.invariant.moved ∙ c.requires.cached.each c.loop-p.p (omega arith) (omega arith)

pub loop-p-preserved : goal.loop-p-preserved
loop-p-preserved c =
    let P = c.args.page_size in
    let o = c.args.offset in
    let p = c.loop-p.p in
    let f = c.args.file in
    let n = length c.args.out.now in
    let pages = (stored_at c.args.self.now f).pages in
    let same : length c.loop-p.out ≡ length c.args.out.now = c.loop-p.auto.out in
    let above : o < p * P + P = touched_above P o p c.requires.positive (omega arith) in
    let below : p * P ≤ o + n - 1 = touched_below P (o + n - 1) p c.requires.positive (omega arith) in
    let under : p * P < o + length c.loop-p.out = omega (arith, same, c.requires.some) in
    let cached : is_some (map.get pages p) ≡ true = c.requires.cached.each p (omega arith) (omega arith) in
    record {
      read = read_step P o p c.saturating_sub-at.result c.saturating_sub-from.result c.min-to.result pages
          (the_page pages p) c.loop-p.out c.read_part.new.out
          c.saturating_sub-at.ensures c.saturating_sub-from.ensures c.min-to.ensures above under
          (c.requires.sized.each p cached) (some_page pages p cached)
          (c.read_part.ensures.after ∙ ap
          (λ (s : Store). take c.saturating_sub-from.result c.loop-p.out
          ++ slice_range (the_page (stored_at s f).pages p).bytes c.saturating_sub-at.result
          (c.saturating_sub-at.result + (c.min-to.result - c.saturating_sub-from.result))
          ++ drop c.min-to.result c.loop-p.out) c.loop-p.invariant.moved)
          c.loop-p.invariant.read;
      moved = c.read_part.ensures.moved
          ∙ ap (λ (s : Store). with_lists s (accessed f p s.lists)) c.loop-p.invariant.moved
          ∙ ap (with_lists c.args.self.now) (accessed_next f (o / P) p c.args.self.now.lists (omega arith));
    }

pub loop-p-init : goal.loop-p-init
loop-p-init c =
    record {
      read = read_none c.args.page_size c.args.offset (stored_at c.args.self.now c.args.file).pages
          c.args.out.now;
      moved =
          sym (ap (with_lists c.args.self.now)
          (accessed_none c.args.file (c.args.offset / c.args.page_size) c.args.self.now.lists));
    }

pub read_part-requires-clause-there : goal.read_part-requires-clause-there
read_part-requires-clause-there c =
    let above = touched_above c.args.page_size c.args.offset c.loop-p.p c.requires.positive (omega arith) in
    omega (
      arith,
      above,
      c.saturating_sub-at.ensures,
      c.saturating_sub-from.ensures,
      c.min-to.ensures,
      c.requires.page,
      ap (λ (s : Store). s.page) c.loop-p.invariant.moved,
    )

pub returns-clause-read : goal.returns-clause-read
returns-clause-read c =
    let n = length c.args.out.now in
    let same : length c.loop-p.out ≡ n = c.loop-p.auto.out in
    let order = in_order c.args.page_size c.args.offset n c.requires.positive c.requires.some in
    let end : c.loop-p.p ≡ (c.args.offset + n - 1) / c.args.page_size + 1 = grind (arith, order, c.loop-p.auto.p) in
    let whole = read_whole c.args.page_size c.args.offset n c.loop-p.p c.requires.positive end in
    record { each = λ i h k. c.loop-p.invariant.read.each i (omega (arith, whole, same, h)) k }

pub returns-clause-moved : goal.returns-clause-moved
returns-clause-moved c =
    let n = length c.args.out.now in
    let order = in_order c.args.page_size c.args.offset n c.requires.positive c.requires.some in
    let end : c.loop-p.p ≡ (c.args.offset + n - 1) / c.args.page_size + 1 = grind (arith, order, c.loop-p.auto.p) in
    c.loop-p.invariant.moved ∙ ap (λ p. with_lists c.args.self.now
    (each_accessed c.args.file (range_with_len (c.args.offset / c.args.page_size)
    (p - c.args.offset / c.args.page_size)) c.args.self.now.lists)) end
