use Rattle.std.proofs.Common.{◌≡◌, ◌∙◌, sym, ap, ◌-◌, ◌∷◌, length, not, false, arith}
use Rattle.std.specs.Prelude.{slice_index_or}
use Rattle.frames.specs.Lists.{Lists, has}
use Rattle.frames.specs.Order.{Turns}
use Rattle.frames.specs.Sets.{is_in}
use Rattle.frames.proofs.ListLemmas.{has-without_same}
use Rattle.frames.proofs.ListedLemmas.{last_has}
use Rattle.frames.proofs.TiedLemmas.{tied_deactivated, active_below, inactive_below}
use Rattle.frames.proofs.LinedLemmas.{cleared_same, idle, in_order_deactivated, left_active, waits_if}
use Rattle.frames.proofs.AgeLemmas.{aged_more}
use Rattle.frames.proofs.SoundLemmas.{sound_by}
use Rattle.frames.proofs.frames.Frames.age.Goals as goal

pub remove_active-requires : goal.remove_active-requires
remove_active-requires c =
    let active = c.loop-self.self-inside.lists.active in
    last_has c.last_active-frame.result (length active - 1) active (omega (arith, c.loop-self-test.true, c.active_len.ensures)) (sym c.last_active-frame.ensures.last)

pub push_inactive-requires-clause-not_active : goal.push_inactive-requires-clause-not_active
push_inactive-requires-clause-not_active c =
    ap (λ (l : Lists). has c.last_active-frame.result l.active) c.remove_active.ensures.lists ∙ has-without_same c.last_active-frame.result c.loop-self.self-inside.lists.active

pub append-requires-clause-active : goal.append-requires-clause-active
append-requires-clause-active c =
    ap (λ (o : Turns). is_in o.active c.last_active-frame.result) c.leave_active-waits.ensures.left ∙ cleared_same c.loop-self.self-inside.order.active c.last_active-frame.result

pub append-requires-clause-inactive : goal.append-requires-clause-inactive
append-requires-clause-inactive c =
    let i = c.loop-self.self-inside in
    ap (λ (o : Turns). is_in o.inactive c.last_active-frame.result) c.leave_active-waits.ensures.left
    ∙ idle i.order.turns i.order.inactive i.aside.items i.lists.inactive c.loop-self.invariant.order.inactives c.last_active-frame.result c.last_active-frame.ensures.alone

pub loop-self-preserved : goal.loop-self-preserved
loop-self-preserved c =
    let i = c.loop-self.self-inside in
    let f = c.last_active-frame.result in
    let there = last_has f (length i.lists.active - 1) i.lists.active (omega (arith, c.loop-self-test.true, c.active_len.ensures)) (sym c.last_active-frame.ensures.last) in
    let lists = c.push_inactive.ensures ∙ ap (λ (l : Lists). let m : Lists = record l { inactive = f ∷ l.inactive } in m) c.remove_active.ensures.lists in
    let inv = c.loop-self.invariant in
    let below = c.last_active-frame.ensures.within in
    let flag : c.leave_active-waits.result ≡ not (slice_index_or i.aside.items f false) = c.leave_active-waits.ensures.waited ∙ waits_if i.order.turns i.order.active i.aside.items i.lists.active inv.order.actives f there in
    let aged = aged_more c.args.self.now.active c.args.self.now.inactive c.args.self.now.referenced c.loop-self.moved i.lists.active i.lists.inactive i.referenced.items f c.push_inactive.new.self.active c.push_inactive.new.self.inactive
    (record { counted = inv.moved; border = inv.border; front = inv.active; back = inv.inactive; flags = inv.referenced })
    (omega (arith, c.loop-self-test.true, c.active_len.ensures, c.inactive_len.ensures))
    c.last_active-frame.ensures.last
    (ap (λ (l : Lists). l.active) lists ∙ c.last_active-frame.ensures.front)
    (ap (λ (l : Lists). l.inactive) lists)
    in
    record {
      order = in_order_deactivated i.lists i.aside.items i.order inv.order f (omega arith)
          (active_below i.lists i.free i.referenced.items i.owners.items i.bytes inv.tied)
          (inactive_below i.lists i.free i.referenced.items i.owners.items i.bytes inv.tied)
          c.leave_active-waits.new.self (left_active i.lists i.aside.items i.order inv.order f c.leave_active-waits.new.self c.leave_active-waits.ensures.left c.last_active-frame.ensures.alone)
          c.append.new.self c.append.ensures.last c.append.ensures.active c.append.ensures.inactive
          _ flag c.push_inactive.new.self c.mark_inactive.new.self c.last_active-frame.ensures.alone lists c.mark_inactive.ensures;
      flags = inv.flags;
      tied = tied_deactivated i.lists i.free i.referenced.items i.owners.items i.bytes inv.tied f _ c.push_inactive.new.self there lists;
      moved = aged.counted;
      border = aged.border;
      active = aged.front;
      inactive = aged.back;
      referenced = aged.flags;
      owners = inv.owners;
      size = inv.size;
      bytes = inv.bytes;
    }

pub returns-clause-sound : goal.returns-clause-sound
returns-clause-sound c =
    let i = c.loop-self.self-inside in
    let tied = c.loop-self.invariant.tied in
    sound_by _ i.lists.count i.free tied (c.loop-self.invariant.order.asides ∙ tied.count)
