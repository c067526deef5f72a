use Rattle.std.proofs.Common.{sym, ap, subst, not, false, true, slice_set, arith}
use Rattle.frames.specs.Lists.{Lists}
use Rattle.frames.specs.Order.{IsInOrder}
use Rattle.frames.specs.Table.{Table, IsLowestFree}
use Rattle.frames.proofs.TiedLemmas.{tied_taken, lowest_untaken, absent_active, absent_inactive, active_below, inactive_below}
use Rattle.frames.proofs.LinedLemmas.{cleared_same, idle, in_order_cleared, in_order_inactive}
use Rattle.frames.proofs.frames.Frames.take.Goals as goal

pub append-requires-clause-active : goal.append-requires-clause-active
append-requires-clause-active c =
    let i = c.self.inside in
    let t = c.self.invariant.0 in
    let f = c.in-Some.frame in
    let low = lowest_untaken i.lists i.free i.referenced.items i.owners.items i.bytes t f c.in-Some.ensures in
    idle i.order.turns i.order.active i.aside.items i.lists.active c.self.invariant.1.actives f
    (absent_active i.lists i.free i.referenced.items i.owners.items i.bytes t f low.1)

pub append-requires-clause-inactive : goal.append-requires-clause-inactive
append-requires-clause-inactive c =
    let i = c.self.inside in
    let t = c.self.invariant.0 in
    let f = c.in-Some.frame in
    let low = lowest_untaken i.lists i.free i.referenced.items i.owners.items i.bytes t f c.in-Some.ensures in
    idle i.order.turns i.order.inactive i.aside.items i.lists.inactive c.self.invariant.1.inactives f
    (absent_inactive i.lists i.free i.referenced.items i.owners.items i.bytes t f low.1)

pub invariant_of-self : goal.invariant_of-self
invariant_of-self c =
    let i = c.self.inside in
    let f = c.in-Some.frame in
    let t = c.self.invariant.0 in
    let low = lowest_untaken i.lists i.free i.referenced.items i.owners.items i.bytes t f c.in-Some.ensures in
    let no_active = absent_active i.lists i.free i.referenced.items i.owners.items i.bytes t f low.1 in
    let no_inactive = absent_inactive i.lists i.free i.referenced.items i.owners.items i.bytes t f low.1 in
    let P : Lists → Type 0 = λ (l : Lists). IsInOrder l (slice_set i.aside.items f false) c.mark_inactive.new.self in (
      tied_taken i.lists i.free i.referenced.items i.owners.items i.bytes t f (c.args.file, c.args.page) c.push_inactive.new.self c.put.new.self low.0 low.1 c.push_inactive.ensures c.put.ensures,
      subst P (sym c.push_inactive.ensures) (in_order_inactive i.lists (slice_set i.aside.items f false) i.order
          (in_order_cleared i.lists i.aside.items i.order c.self.invariant.1 f no_active no_inactive) f (omega (arith, low.0, t.count))
          c.append.new.self c.append.ensures.last c.append.ensures.active c.append.ensures.inactive true (sym (ap not (cleared_same i.aside.items f)))
          no_active no_inactive
          (active_below i.lists i.free i.referenced.items i.owners.items i.bytes t)
          (inactive_below i.lists i.free i.referenced.items i.owners.items i.bytes t)
          c.mark_inactive.new.self c.mark_inactive.ensures),
    )

pub returns-clause-lowest : goal.returns-clause-lowest
returns-clause-lowest c =
    let i = c.self.inside in
    let low = lowest_untaken i.lists i.free i.referenced.items i.owners.items i.bytes c.self.invariant.0 c.in-Some.frame c.in-Some.ensures in
    let P : Table → Type 0 = λ (t : Table). IsLowestFree t c.in-Some.frame in
    subst P c.self.view_is (record { within = low.0; here = low.1; lower = low.2 })
