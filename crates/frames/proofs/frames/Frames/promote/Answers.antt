use Rattle.std.proofs.Common.{◌≡◌, ◌∙◌, ap, not, false, ◌∷◌}
use Rattle.std.specs.Prelude.{slice_index_or}
use Rattle.frames.specs.Lists.{Lists, has, without}
use Rattle.frames.specs.Order.{Turns}
use Rattle.frames.specs.Sets.{is_in}
use Rattle.frames.specs.Table.{Table}
use Rattle.frames.proofs.ListLemmas.{has-without_same}
use Rattle.frames.proofs.TiedLemmas.{tied_activated, active_below, inactive_below}
use Rattle.frames.proofs.LinedLemmas.{cleared_same, idle, in_order_activated, left_inactive, waits_if}
use Rattle.frames.proofs.frames.Frames.promote.Goals as goal

pub push_active-requires-clause-not_inactive : goal.push_active-requires-clause-not_inactive
push_active-requires-clause-not_inactive c =
    ap (λ (l : Lists). has c.args.frame l.inactive) c.remove_inactive.ensures.lists ∙ has-without_same c.args.frame c.self.inside.lists.inactive

pub append-requires-clause-active : goal.append-requires-clause-active
append-requires-clause-active c =
    let i = c.self.inside in
    ap (λ (o : Turns). is_in o.active c.args.frame) c.leave_inactive-waits.ensures.left
    ∙ idle i.order.turns i.order.active i.aside.items i.lists.active c.self.invariant.1.actives c.args.frame c.remove_inactive.ensures.alone

pub append-requires-clause-inactive : goal.append-requires-clause-inactive
append-requires-clause-inactive c =
    ap (λ (o : Turns). is_in o.inactive c.args.frame) c.leave_inactive-waits.ensures.left ∙ cleared_same c.self.inside.order.inactive c.args.frame

pub invariant_of-self : goal.invariant_of-self
invariant_of-self c =
    let i = c.self.inside in
    let f = c.args.frame in
    let t = c.self.invariant.0 in
    let absent = c.remove_inactive.ensures.alone in
    let there = ap (λ (t : Table). has f t.inactive) c.self.view_is ∙ c.requires in
    let both : c.push_active.new.self ≡ record i.lists { active = f ∷ i.lists.active; inactive = without f i.lists.inactive } =
    c.push_active.ensures ∙ ap (λ (l : Lists). let m : Lists = record l { active = f ∷ l.active } in m) c.remove_inactive.ensures.lists in
    let below = inactive_below i.lists i.free i.referenced.items i.owners.items i.bytes t f there in
    let flag : c.leave_inactive-waits.result ≡ not (slice_index_or i.aside.items f false) = c.leave_inactive-waits.ensures.waited ∙ waits_if i.order.turns i.order.inactive i.aside.items i.lists.inactive c.self.invariant.1.inactives f there in (
      tied_activated i.lists i.free i.referenced.items i.owners.items i.bytes t f false c.push_active.new.self there absent both,
      in_order_activated i.lists i.aside.items i.order c.self.invariant.1 f below
          (active_below i.lists i.free i.referenced.items i.owners.items i.bytes t)
          (inactive_below i.lists i.free i.referenced.items i.owners.items i.bytes t)
          c.leave_inactive-waits.new.self (left_inactive i.lists i.aside.items i.order c.self.invariant.1 f c.leave_inactive-waits.new.self c.leave_inactive-waits.ensures.left absent)
          c.append.new.self c.append.ensures.last c.append.ensures.active c.append.ensures.inactive
          _ flag c.push_active.new.self c.mark_active.new.self absent both c.mark_active.ensures,
    )
