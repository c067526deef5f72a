use Rattle.std.proofs.Common.{None, ◌≡◌, false, replicate, rules}
use Rattle.frames.proofs.TiedLemmas.{tied_new}
use Rattle.frames.proofs.LinedLemmas.{in_order_new}
use Rattle.frames.proofs.frames.Frames.new.Goals as goal

pub invariant_of-result : goal.invariant_of-result
invariant_of-result c =
    let count = c.frames-count.result in
    let referenced : c.in_ok-referenced.referenced.items ≡ replicate count false = search rules in
    let owners : c.in_ok-owners.owners.items ≡ replicate count None = search rules in
    let none : c.in_ok-aside.aside.items ≡ replicate count false = search rules in (
      tied_new count _ c.in_ok-lists.lists c.in_ok-free.free c.in_ok-referenced.referenced.items c.in_ok-owners.owners.items c.in_ok-bytes.bytes c.in_ok-lists.ensures.empty c.in_ok-free.ensures.all referenced owners c.in_ok-bytes.ensures.zeros c.frames-count.ensures.most,
      in_order_new count c.in_ok-lists.lists c.in_ok-aside.aside.items c.in_ok-order.order c.in_ok-lists.ensures.empty none c.in_ok-order.ensures.new,
    )
