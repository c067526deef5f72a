use Rattle.std.proofs.Common.{◌∙◌, ap}
use Rattle.frames.specs.Table.{Table, is_taken}
use Rattle.frames.proofs.TiedLemmas.{tied_given, within}
use Rattle.frames.proofs.LinedLemmas.{in_order_left}
use Rattle.frames.proofs.frames.Frames.give.Goals as goal

pub invariant_of-self : goal.invariant_of-self
invariant_of-self c =
    let i = c.self.inside in
    let here = ap (λ (t : Table). is_taken t c.args.frame.0) c.self.view_is ∙ c.requires in
    let below = within i.lists i.free i.referenced.items i.owners.items i.bytes c.self.invariant.0 c.args.frame.0 here in (
      tied_given i.lists i.free i.referenced.items i.owners.items i.bytes c.self.invariant.0 c.args.frame.0 c.remove.new.self c.put.new.self below c.remove.ensures c.put.ensures,
      in_order_left i.lists i.aside.items i.order c.self.invariant.1 c.args.frame.0 c.remove.new.self c.clear.new.self c.remove.ensures c.clear.ensures,
    )
