use Rattle.std.proofs.Common.{Ok, Err, sym, subst, ◌∙◌}
use mathlib.Core.List.{IsPrefix}
use Rattle.errboard.specs.Views.{recorded_of}
use Rattle.pc_types.specs.declared.refusal.Refusal.TheVariants.{BadHandle}
use Rattle.script.specs.Sessions.{Polls}
use Rattle.script.proofs.SessionLemmas.{all_done, polled, polled_session, seen, taken_apart, told_all, unpolled, unpolled_session}
use Rattle.script.proofs.session.Session.poll.Goals as goal

pub invariant_of-self : goal.invariant_of-self
invariant_of-self c =
    let i = c.self.inside in
    unpolled_session i.world i.board i.recorder i.passes c.take.new.self c.self.invariant c.args.handle.0 c.in_default.ensures.rest (sym c.in_default.ensures.pass)

pub returns-in_default : goal.returns-in_default
returns-in_default c =
    let i = c.self.inside in
    subst (λ old. Polls old c.args.handle.0 (Err BadHandle) (seen i.world i.recorder c.take.new.self)) c.self.view_is
    (unpolled i.world i.board i.recorder i.passes c.take.new.self c.self.invariant c.args.handle.0 c.in_default.ensures.rest (sym c.in_default.ensures.pass))

pub put-requires-clause-apart : goal.put-requires-clause-apart
put-requires-clause-apart c =
    let i = c.self.inside in
    taken_apart i.world i.board i.recorder i.passes c.take.new.self c.self.invariant c.args.handle.0 c.in-Some.ensures.rest

pub invariant_of-self-2 : goal.invariant_of-self-2
invariant_of-self-2 c =
    let i = c.self.inside in
    let p = c.in-Some.pass in
    let there = sym c.in-Some.ensures.pass in
    let mine = c.level-2.ensures.pass.0 ∙ c.poll-code.ensures.same.0 ∙ c.level.ensures.pass.0 ∙ c.self.invariant.of_board c.args.handle.0 p there in
    let file = c.level-2.ensures.pass.1 ∙ c.poll-code.ensures.same.1 ∙ c.level.ensures.pass.1 in
    polled_session i.world i.board i.recorder i.passes c.take.new.self c.self.invariant c.args.handle.0 c.in-Some.ensures.rest p there c.level-2.new.self (c.level-2.ensures.same ∙ c.level.ensures.same) c.level-2.new.pass c.put.new.self c.put.ensures mine file

pub returns : goal.returns
returns c =
    let i = c.self.inside in
    let p = c.in-Some.pass in
    let there = sym c.in-Some.ensures.pass in
    let log = recorded_of i.recorder.all p.file in
    let first = c.level.new.pass in
    let next = c.poll-code.new.pass in
    let same_file = c.poll-code.ensures.same.1 ∙ c.level.ensures.pass.1 in
    let begins : IsPrefix next.known log = subst (IsPrefix next.known) (λ j. recorded_of (c.level.ensures.same j).all (same_file j)) c.level-2.ensures.begins in
    let tells = told_all log first next c.level-2.new.pass c.level.ensures.known c.poll-code.ensures.grows begins c.poll-code.ensures.done p.done c.level.ensures.pass.3 c.poll-code.result c.poll-code.ensures.code c.poll-code.ensures.none in
    let done = all_done log first next c.level-2.new.pass c.level.ensures.known c.poll-code.ensures.grows begins c.poll-code.ensures.done c.level-2.ensures.pass.3 in
    subst (λ old. Polls old c.args.handle.0 (Ok c.poll-code.result) (seen i.world c.level-2.new.self c.put.new.self)) c.self.view_is
    (polled i.world i.board i.recorder i.passes c.take.new.self c.self.invariant c.args.handle.0 c.in-Some.ensures.rest p there c.level-2.new.self (c.level-2.ensures.same ∙ c.level.ensures.same) c.level-2.new.pass c.put.new.self c.put.ensures c.poll-code.result tells done)
