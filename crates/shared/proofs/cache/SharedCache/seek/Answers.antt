use Rattle.std.proofs.Common.{rules, ◌≡◌, Err, Some, ap, inl, inr, subst, sym, ◌∙◌}
use Rattle.cursor.specs.declared.seek.Seek.{Seek}
use Rattle.cursor.specs.Places.{placed, target}
use Rattle.machine.specs.declared.event.Event.TheVariants as event
use Rattle.machine.specs.declared.event.Reply.TheVariants as reply
use Rattle.pc_types.specs.declared.ids.HandleId.{HandleId}
use Rattle.held.specs.Called.{Only}
use Rattle.shared.specs.Called.{Makes}
use Rattle.shared.specs.Denials.{IsDenied}
use Rattle.shared.specs.Seeks.{Seeks, with_slip}
use Rattle.shared.specs.Seen.{HandleSeen}
use Rattle.shared.proofs.Making.{denied_event, denied_one, full_by, made_one, makes_by}
use Rattle.shared.proofs.Owning.{only_event}
use Rattle.shared.proofs.cache.SharedCache.seek.Goals as goal

pub returns-in-End-clause-sought : goal.returns-in-End-clause-sought
returns-in-End-clause-sought g c own here =
    subst (λ (p : Seek). Seeks g.B.Naming.files g.B.Naming.sizes g.B.Naming.name g.B.Naming.whole p c.args.handle.now c.args.seat.now c.size.new.seat (Err c.in-Err-size.denied))
    (sym c.in-End.is) (inr (
      subst (λ (n : HandleId). IsDenied g.B.Naming.files g.B.Naming.sizes g.B.Naming.name g.B.Naming.whole (λ e. e ≡ event.Size n) c.args.seat.now c.size.new.seat c.in-Err-size.denied)
          (ap (λ (h : HandleSeen). h.number) c.handle.view_is)
          (denied_event g.B.Naming.files g.B.Naming.sizes g.B.Naming.name g.B.Naming.whole (event.Size c.handle.inside.number) c.deref_mut.result.now c.size.new.self c.args.seat.now
          c.size.new.seat c.in-Err-size.denied tt c.in-Err-size.ensures.denied),
      full_by g.B.Naming.files g.B.Naming.sizes g.B.Naming.name g.B.Naming.whole (event.Size c.handle.inside.number) c.deref_mut.result.now c.size.new.self c.args.seat.now
          c.size.new.seat c.in-Err-size.denied c.in-Err-size.ensures.denied,
      denied_one g.B.Naming.files g.B.Naming.sizes g.B.Naming.name g.B.Naming.whole (event.Size c.handle.inside.number) c.deref_mut.result.now c.size.new.self c.args.seat.now
          c.size.new.seat c.in-Err-size.denied c.in-Err-size.ensures.denied,
    ))

pub returns-in-Ok-clause-only : goal.returns-in-Ok-clause-only
returns-in-Ok-clause-only g c =
    subst (λ (n : HandleId). Only (λ x. x.event ≡ event.Size n) c.args.seat.now c.size.new.seat)
    (ap (λ (h : HandleSeen). h.number) c.handle.view_is) (only_event _ _ _ _ _ _ _ c.in-Ok.ensures.made tt)

pub returns-in-Ok-clause-sought : goal.returns-in-Ok-clause-sought
returns-in-Ok-clause-sought g c own here =
    let makes : Makes c.args.seat.now c.size.new.seat c.in-Ok.slip (event.Size c.args.handle.now.number)
    (reply.Size c.in-Ok.size) =
    subst (λ (n : HandleId). Makes c.args.seat.now c.size.new.seat c.in-Ok.slip (event.Size n) (reply.Size c.in-Ok.size))
    (ap (λ (h : HandleSeen). h.number) c.handle.view_is) (makes_by _ _ _ _ _ _ _ c.in-Ok.ensures.made) in
    let at : c.put.result ≡ with_slip (Some c.in-Ok.slip)
    (placed (target c.args.place c.args.handle.now.cursor c.in-Ok.size)) = search rules in
    subst (λ (p : Seek). Seeks g.B.Naming.files g.B.Naming.sizes g.B.Naming.name g.B.Naming.whole p c.args.handle.now c.args.seat.now c.size.new.seat c.put.result) (sym c.in-End.is) (inl (
      c.in-Ok.size,
      c.in-Ok.slip,
      makes,
      made_one _ _ _ _ _ _ _ c.in-Ok.ensures.made,
      at
          ∙ ap (λ (p : Seek). with_slip (Some c.in-Ok.slip) (placed (target p c.args.handle.now.cursor c.in-Ok.size)))
          c.in-End.is,
    ))
