use Rattle.std.proofs.Common.{arith}
use Rattle.pagestore.proofs.StoreFacts.{store_start}
use Rattle.pagestore.proofs.pages.Pages.new.Goals as goal

pub invariant_of-result : goal.invariant_of-result
invariant_of-result c =
    rw (c.in_ok-new.ensures.new, c.in_ok-with_capacity.ensures.items)
    (store_start c.args.geometry.now.page c.args.geometry.now.frames c.in_ok-vec.field-0.items
    (omega (arith, c.frames.ensures.value, c.frames.ensures.most))
    (omega (arith, c.in_ok-vec.ensures.len, c.frames-2.ensures.value)))
