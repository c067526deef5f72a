use Rattle.std.proofs.Common.{ap, refl, subst, sym, ◌∙◌, inl}
use Rattle.pc_types.specs.Limits.{Sizes}
use Rattle.machine.specs.declared.event.Event.TheVariants as event
use Rattle.cachecore.specs.Replies.{end_of, fill_ended}
use Rattle.deeds.specs.Shown.{Settles}
use Rattle.pc_types.specs.declared.kind.Kind.TheVariants.{Fill}
use Rattle.held.proofs.FillEnds.{fill_end_went, fill_small}
use Rattle.held.proofs.Holds.{end_room, entry_fits}
use Rattle.held.proofs.InFlight.{goes_well, needs_none}
use Rattle.held.proofs.Tying.{on_ended}
use Rattle.held.proofs.state.Held.end_fill.Goals as goal

pub enter-slip-requires-clause-room : goal.enter-slip-requires-clause-room
enter-slip-requires-clause-room g c =
    let s = c.self.inside.core.state in
    let settled = subst (λ f. Settles g.B.NamesDeeds.told c.self.inside.desk f c.take_back.new.self) c.requires.stub
    c.take_back.ensures.settled in
    entry_fits c.self.inside.log s c.fill_end-answer.new.self.state (event.End Fill (end_of c.args.finished))
    (fill_ended c.fill_end-answer.result) _
    (end_room c.self.inside.log s (event.End Fill (end_of c.args.finished)) c.self.invariant.0.0 refl
    (inl (needs_none s _ _ _ c.args.finished c.self.invariant.1.covered settled Fill c.requires.kind)))
    c.fill_end-answer.ensures.step
    (fill_small s c.args.finished c.fill_end-answer.result _ c.is_well-is_read.result c.bytes_of-bytes.result.now
    c.fill_end-answer.ensures.step c.bytes_of-bytes.ensures c.fill_end-answer.ensures.back
    (c.requires.size ∙ ap (λ (z : Sizes). z.page) (sym c.self.invariant.0.1.sized)))

pub gone_through-requires : goal.gone_through-requires
gone_through-requires g c =
    let s = c.self.inside.core.state in
    let settled = subst (λ f. Settles g.B.NamesDeeds.told c.self.inside.desk f c.take_back.new.self) c.requires.stub
    c.take_back.ensures.settled in
    goes_well s _ _ _ c.args.finished c.self.invariant.1.covered settled Fill c.requires.kind c.fill_end-answer.result
    c.fill_end-answer.new.self.state c.fill_end-answer.ensures.step

pub invariant_of-self : goal.invariant_of-self
invariant_of-self g c =
    let s = c.self.inside.core.state in
    let settled = subst (λ f. Settles g.B.NamesDeeds.told c.self.inside.desk f c.take_back.new.self) c.requires.stub
    c.take_back.ensures.settled in
    let m =
    (fill_end_went _ _ _ _ _ _ _
    (record { log = c.self.inside.log; core = c.self.inside.core; errors = c.self.inside.recorder })
    (record { log = c.enter-slip.new.self; core = c.fill_end-answer.new.self; errors = c.self.inside.recorder })
    c.args.seat.now c.enter-slip.new.seat c.enter-slip.result c.self.invariant.0
    c.args.finished c.end_without-end.result c.fill_end-answer.result c.of_fill_end-reply.result c.is_well-is_read.result
    c.bytes_of-bytes.result.now c.bytes_of-bytes.ensures c.is_well-is_read.ensures c.fill_end-answer.ensures.back
    (c.requires.size ∙ ap (λ (z : Sizes). z.page) (sym c.self.invariant.0.1.sized))
    (end_room c.self.inside.log s (event.End Fill (end_of c.args.finished)) c.self.invariant.0.0 refl
    (inl (needs_none s _ _ _ c.args.finished c.self.invariant.1.covered settled Fill c.requires.kind)))
    c.end_without-end.ensures
    c.fill_end-answer.ensures.step c.fill_end-answer.ensures.lists c.of_fill_end-reply.ensures
    c.enter-slip.ensures.entered c.enter-slip.ensures.room refl) in (
      m.1,
      on_ended Fill c.fill_end-answer.result c.args.finished c.args.stub c.take_back.new.self m.0 c.self.invariant.0.0
          c.self.invariant.1 c.requires.kind c.requires.stub c.take_back.ensures.settled,
    )
