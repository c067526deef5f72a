use Rattle.std.specs.FinMap as map
use Rattle.std.proofs.Common.{arith, ap, refl, subst, sym, ◌∙◌}
use Rattle.std.specs.Prelude.{is_some, IsTrue}
use Rattle.pc_types.specs.declared.kind.Kind.TheVariants.{Flush}
use Rattle.blockdev.specs.declared.job.FinishedParts.{FinishedParts}
use Rattle.pc_types.specs.Limits.{is_err_code}
use Rattle.writeback.specs.Requests.{request_of}
use Rattle.blockmap.specs.Blocks.{Blocks, with_valid}
use Rattle.pc_types.specs.declared.refusal.Refusal.TheVariants.{Stranger}
use Rattle.machine.specs.declared.event.Event.TheVariants as event
use Rattle.machine.specs.declared.event.Reply.TheVariants as reply
use Rattle.machine.specs.declared.event.Reply.{Reply}
use Rattle.machine.specs.State.{State}
use Rattle.cachecore.specs.Replies.{end_of}
use Rattle.cachecore.proofs.CoreViews.{state_is}
use Rattle.cachecore.proofs.EndSteps.{Ends, known}
use Rattle.cachecore.proofs.Parts as parts
use Rattle.cachecore.proofs.Parts.{Parts, parts_of, state_by}
use Rattle.cachecore.proofs.EndCalls.{Seen, cached_here, few_failures, flush_done, flush_dropped, flush_fails, refused}
use Rattle.cachecore.proofs.SyncLaws.{err_code}
use Rattle.cachecore.proofs.cache.CacheCore.flush_end.Goals as goal
use Rattle.cachecore.proofs.cache.CacheCore.flush_end.Goals.{In-Some, In_default}

stranger : (c : In_default) → parts.Goes c.args.self.now.state (event.End Flush (end_of c.args.finished)) (reply.Refused Stranger)
    (record (parts_of c.self.inside) { flights = c.take_ended.new.requests })
stranger c = refused (parts_of c.self.inside) c.self.invariant c.args.self.now.state (state_is c.self.view_is) Flush c.args.finished
    c.in_default.ensures.request _ c.in_default.ensures.same

pub invariant_of-self : goal.invariant_of-self
invariant_of-self c = (stranger c).cache

pub returns-in_default-clause-step : goal.returns-in_default-clause-step
returns-in_default-clause-step c = (stranger c).step

ends : (c : In-Some)
    → Ends (state_by (parts_of c.self.inside)) Flush c.args.finished
    (request_of c.in-Some.request)
ends c = known _ Flush c.args.finished _ c.in-Some.ensures.request

-- its end, as callers see it
abbrev Goes : In-Some → Reply → Parts → Type 0
Goes c = Seen (parts_of c.self.inside) c.self.invariant c.args.finished (request_of c.in-Some.request) c.args.self.now.state (state_is c.self.view_is) Flush

pub release-requires : goal.release-requires
release-requires c =
    ap is_some (c.self.invariant.core.holds.held_is c.args.finished.serial (request_of c.in-Some.request)
    (ends (goal.at.release-requires c).In-Some).found)

dropped : (c : goal.Then-request) → Goes (goal.at.invariant_of-self-then-request c).In-Some reply.Dropped
    (record (parts_of c.self.inside) { blocks = c.release.new.self; flights = c.take_ended.new.requests })
dropped c =
    let b = (goal.at.invariant_of-self-then-request c).In-Some in
    flush_dropped (parts_of c.self.inside) c.self.invariant c.args.finished (request_of c.in-Some.request) c.args.self.now.state (state_is c.self.view_is) (ends b)
    c.if-request.true _ _ c.release.ensures
    c.in-Some.ensures.ended

pub invariant_of-self-then-request : goal.invariant_of-self-then-request
invariant_of-self-then-request c = (dropped c).cache

pub returns-then-request-clause-step : goal.returns-then-request-clause-step
returns-then-request-clause-step c = (dropped c).step

pub finish_write-requires-clause-cached : goal.finish_write-requires-clause-cached
finish_write-requires-clause-cached c =
    let b = (goal.at.finish_write-requires-clause-cached c).In-Some in
    cached_here (parts_of c.self.inside) c.self.invariant c.args.finished (request_of c.in-Some.request) c.args.self.now.state (state_is c.self.view_is) (ends b)
    c.if-request.false

pub finish_write-requires-in-Err-clause-cached : goal.finish_write-requires-in-Err-clause-cached
finish_write-requires-in-Err-clause-cached c =
    let b = (goal.at.finish_write-requires-in-Err-clause-cached c).In-Some in
    cached_here (parts_of c.self.inside) c.self.invariant c.args.finished (request_of c.in-Some.request) c.args.self.now.state (state_is c.self.view_is) (ends b)
    c.if-request.false

pub note_failure-requires-clause-few : goal.note_failure-requires-clause-few
note_failure-requires-clause-few c =
    let b = (goal.at.note_failure-requires-clause-few c).In-Some in
    few_failures (parts_of c.self.inside) c.self.invariant c.args.finished (request_of c.in-Some.request) c.args.self.now.state (state_is c.self.view_is) (ends b)
    c.if-request.false c.finish_write-in-Err.new.self c.finish_write-in-Err.ensures

done : (c : goal.After-set_valid) → Goes (goal.at.invariant_of-self-in-Ok c).In-Some reply.Written
    (record (parts_of c.self.inside) {
      store = c.finish_write.new.self;
      blocks = c.set_valid.new.self;
      flights = c.take_ended.new.requests;
    })
done c =
    let b = (goal.at.invariant_of-self-in-Ok c).In-Some in
    flush_done (parts_of c.self.inside) c.self.invariant c.args.finished (request_of c.in-Some.request) c.args.self.now.state (state_is c.self.view_is) (ends b)
    c.if-request.false (sym (ap (λ (k : FinishedParts). k.outcome) c.into_parts-buffer.ensures) ∙ c.in-Ok.is) _ _ _ _
    c.finish_write.ensures c.release.ensures
    (c.set_valid.ensures ∙ ap (λ n. let z : Blocks = record c.release.new.self {
      spots = with_valid n (map.get c.release.new.self.spots (c.in-Some.request.file.0, c.in-Some.request.page.0))
          (c.in-Some.request.file.0, c.in-Some.request.page.0) c.release.new.self.spots;
    } in z) c.page-page.ensures.value)
    c.in-Some.ensures.ended

pub invariant_of-self-in-Ok : goal.invariant_of-self-in-Ok
invariant_of-self-in-Ok c = (done c).cache

pub returns-in-Ok-clause-step : goal.returns-in-Ok-clause-step
returns-in-Ok-clause-step c = (done c).step

failed : (c : goal.After-note_failure) → Goes (goal.at.invariant_of-self-in-Err c).In-Some (reply.Failed c.in-Err.code)
    (record (parts_of c.self.inside) {
      store = c.note_failure.new.self;
      blocks = c.release.new.self;
      flights = c.take_ended.new.requests;
    })
failed c =
    let b = (goal.at.invariant_of-self-in-Err c).In-Some in
    let code = c.from.ensures ∙ c.code.ensures.value in
    let is_code : IsTrue (is_err_code c.in-Err.code) = subst (λ n. IsTrue (is_err_code n)) code
    (err_code c.from.result (omega (arith, c.from.ensures, c.code.ensures.least))
    (omega (arith, c.from.ensures, c.code.ensures.most))) in
    flush_fails (parts_of c.self.inside) c.self.invariant c.args.finished (request_of c.in-Some.request) c.args.self.now.state (state_is c.self.view_is) (ends b)
    c.if-request.false c.in-Err.code c.from.result code (sym (ap (λ (k : FinishedParts). k.outcome) c.into_parts-buffer.ensures) ∙ c.in-Err.is) is_code c.finish_write-in-Err.new.self
    _ _ _ c.finish_write-in-Err.ensures
    c.note_failure.ensures c.release.ensures
    c.in-Some.ensures.ended

pub invariant_of-self-in-Err : goal.invariant_of-self-in-Err
invariant_of-self-in-Err c = (failed c).cache

pub returns-in-Err-clause-step : goal.returns-in-Err-clause-step
returns-in-Err-clause-step c = (failed c).step

pub returns-in-Err-clause-file : goal.returns-in-Err-clause-file
returns-in-Err-clause-file c =
    let b = (goal.at.invariant_of-self-in-Err c).In-Some in
    let x = request_of c.in-Some.request in
    let found = ap (λ (s : State). map.get s.requests c.args.finished.serial) (sym (state_is c.self.view_is)) ∙ (ends b).found in
    let filed = c.self.invariant.core.filed c.args.finished.serial x (ends b).found in
    (x, found, (ends b).kind_is, refl, omega (arith, filed, c.self.invariant.core.few_files))
