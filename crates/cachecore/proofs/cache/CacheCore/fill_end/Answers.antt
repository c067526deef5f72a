use Rattle.std.proofs.Common.{ap, arith, length, refl, sym, ◌∙◌, ◌≡◌, ℕ}
use Rattle.std.proofs.lemmas.Bool.{or_right}
use Rattle.std.specs.Prelude.{Option, None, Some, is_some, option_map, unwrap_or}
use Rattle.std.specs.FinMap as map
use Rattle.pc_types.specs.Spots.{Spot, shown}
use Rattle.blockmap.specs.Blocks.{Blocks}
use Rattle.blockmap.specs.Told.{told}
use Rattle.blockmap.specs.declared.spots.Placed.{Placed}
use Rattle.pagestore.specs.Filling.{filled}
use Rattle.pc_types.specs.declared.kind.Kind.TheVariants.{Fill}
use Rattle.blockdev.specs.declared.job.FinishedParts.{FinishedParts}
use Rattle.pagestore.specs.Store.{Store, is_awaited, stored_page}
use Rattle.writeback.specs.Requests.{request_of}
use Rattle.pc_types.specs.declared.refusal.Refusal.TheVariants.{Stranger}
use Rattle.machine.specs.declared.event.Event.TheVariants as event
use Rattle.machine.specs.declared.event.Reply.TheVariants as reply
use Rattle.machine.specs.declared.event.Reply.{Reply}
use Rattle.machine.specs.ListChanges.{lists_unfilled}
use Rattle.machine.specs.PageLists.{left}
use Rattle.machine.specs.State.{State}
use Rattle.cachecore.specs.Replies.{end_of}
use Rattle.cachecore.proofs.CoreViews.{lists_are, state_is}
use Rattle.cachecore.proofs.EndSteps.{Ends, known}
use Rattle.cachecore.proofs.Parts as parts
use Rattle.cachecore.proofs.Parts.{Parts, parts_of, state_by}
use Rattle.cachecore.proofs.EndCalls.{Seen, awaited_here, fill_done, fill_dropped, fill_fails, refused}
use Rattle.cachecore.proofs.cache.CacheCore.fill_end.Goals as goal
use Rattle.cachecore.proofs.cache.CacheCore.fill_end.Goals.{In-Some, In_default}

stranger : (c : In_default) → parts.Goes c.args.self.now.state (event.End Fill (end_of c.args.finished)) (reply.Refused Stranger)
    (record (parts_of c.self.inside) { flights = c.take_ended.new.requests })
stranger c = refused (parts_of c.self.inside) c.self.invariant c.args.self.now.state (state_is c.self.view_is) Fill c.args.finished
    c.in_default.ensures.request _ c.in_default.ensures.same

pub invariant_of-self : goal.invariant_of-self
invariant_of-self c = (stranger c).cache

pub returns-in_default-clause-step : goal.returns-in_default-clause-step
returns-in_default-clause-step c = (stranger c).step

ends : (c : In-Some)
    → Ends (state_by (parts_of c.self.inside)) Fill c.args.finished
    (request_of c.in-Some.request)
ends c = known _ Fill c.args.finished _ c.in-Some.ensures.request

-- its end, as callers see it
abbrev Goes : In-Some → Reply → Parts → Type 0
Goes c = Seen (parts_of c.self.inside) c.self.invariant c.args.finished (request_of c.in-Some.request) c.args.self.now.state (state_is c.self.view_is) Fill

pub release-requires : goal.release-requires
release-requires c =
    ap is_some (c.self.invariant.core.holds.held_is c.args.finished.serial (request_of c.in-Some.request)
    (ends (goal.at.release-requires c).In-Some).found)

dropped : (c : goal.Then-request) → Goes (goal.at.invariant_of-self-then-request c).In-Some reply.Dropped
    (record (parts_of c.self.inside) { blocks = c.release.new.self; flights = c.take_ended.new.requests })
dropped c =
    let b = (goal.at.invariant_of-self-then-request c).In-Some in
    fill_dropped (parts_of c.self.inside) c.self.invariant c.args.finished (request_of c.in-Some.request) c.args.self.now.state (state_is c.self.view_is) (ends b)
    c.if-request.true _ _ c.release.ensures
    c.in-Some.ensures.ended

pub invariant_of-self-then-request : goal.invariant_of-self-then-request
invariant_of-self-then-request c = (dropped c).cache

pub returns-then-request-clause-step : goal.returns-then-request-clause-step
returns-then-request-clause-step c = (dropped c).step

pub finish_fill-requires-clause-filling : goal.finish_fill-requires-clause-filling
finish_fill-requires-clause-filling c =
    let b = (goal.at.finish_fill-requires-clause-filling c).In-Some in
    awaited_here (parts_of c.self.inside) c.self.invariant c.args.finished (request_of c.in-Some.request) c.args.self.now.state (state_is c.self.view_is) (ends b)
    c.if-request.false

pub leave-requires-clause-there : goal.leave-requires-clause-there
leave-requires-clause-there c =
    let b = (goal.at.leave-requires-clause-there c).In-Some in
    let x = request_of c.in-Some.request in
    or_right (is_some (stored_page c.self.inside.pages x.file x.page)) (is_awaited c.self.inside.pages x.file x.page)
    (awaited_here (parts_of c.self.inside) c.self.invariant c.args.finished x c.args.self.now.state (state_is c.self.view_is) (ends b)
    c.if-request.false)

-- as many bytes as a page
sized : (c : In-Some) → length c.args.finished.bytes ≡ c.self.inside.geometry.page
sized c = c.requires.size ((ends c).cache ∙ ap (λ (s : State). s.name) (state_is c.self.view_is))
    ∙ ap (λ (s : State). s.sizes.page) (sym (state_is c.self.view_is))

pub finish_fill-requires-clause-whole : goal.finish_fill-requires-clause-whole
finish_fill-requires-clause-whole c = ap length (c.as_slice.ensures ∙ ap (λ (k : FinishedParts). k.buffer)
    c.into_parts-buffer.ensures) ∙ sized (goal.at.finish_fill-requires-clause-whole c).In-Some ∙ sym c.self.invariant.core.page

abbrev told_valid : Option Placed → ℕ
told_valid o = unwrap_or (option_map (λ (y : Placed). y.valid) o) 0

valid_told : (o : Option Spot) → told_valid (option_map told o) ≡ unwrap_or (option_map (λ (y : Spot). y.valid) o) 0
valid_told None = refl
valid_told (Some y) = refl

done : (c : goal.After-finish_fill) → Goes (goal.at.invariant_of-self-in-Ok c).In-Some reply.Filled
    (record (parts_of c.self.inside) {
      store = c.finish_fill.new.self;
      blocks = c.release.new.self;
      flights = c.take_ended.new.requests;
    })
done c =
    let b = (goal.at.invariant_of-self-in-Ok c).In-Some in
    let pages = c.self.inside.pages in
    let x = request_of c.in-Some.request in
    let bytes = c.as_slice.ensures ∙ ap (λ (k : FinishedParts). k.buffer) c.into_parts-buffer.ensures in
    let spots = ap (λ (z : Blocks). map.get z.spots (x.file, x.page)) c.release.ensures in
    let valid = c.valid_of-valid.ensures ∙ ap told_valid (c.map.ensures ∙ ap (option_map told) spots)
    ∙ valid_told (map.get c.self.inside.blocks.spots (x.file, x.page)) in
    let filling = c.finish_fill.ensures
    ∙ (λ i. filled pages x.file x.page (shown (c.self.invariant.core.page i) (valid i) (bytes i))) in
    fill_done (parts_of c.self.inside) c.self.invariant c.args.finished (request_of c.in-Some.request) c.args.self.now.state (state_is c.self.view_is) (ends b)
    c.if-request.false (sym (ap (λ (k : FinishedParts). k.outcome) c.into_parts-buffer.ensures) ∙ c.in-Ok.is) _ _ _ filling
    c.release.ensures c.in-Some.ensures.ended

pub invariant_of-self-in-Ok : goal.invariant_of-self-in-Ok
invariant_of-self-in-Ok c = (done c).cache

pub returns-in-Ok-clause-step : goal.returns-in-Ok-clause-step
returns-in-Ok-clause-step c = (done c).step

failed : (c : goal.After-leave) → Goes (goal.at.invariant_of-self-in-Err c).In-Some (reply.Failed c.in-Err.code)
    (record (parts_of c.self.inside) {
      store = c.leave.new.self;
      blocks = c.release.new.self;
      flights = c.take_ended.new.requests;
    })
failed c =
    let b = (goal.at.invariant_of-self-in-Err c).In-Some in
    fill_fails (parts_of c.self.inside) c.self.invariant c.args.finished (request_of c.in-Some.request) c.args.self.now.state (state_is c.self.view_is) (ends b)
    c.if-request.false c.in-Err.code (sym (ap (λ (k : FinishedParts). k.outcome) c.into_parts-buffer.ensures) ∙ c.in-Err.is) _ _ _
    (c.leave.ensures.fill (awaited_here (parts_of c.self.inside) c.self.invariant c.args.finished (request_of c.in-Some.request)
    c.args.self.now.state (state_is c.self.view_is) (ends b) c.if-request.false)) c.release.ensures
    c.in-Some.ensures.ended

pub invariant_of-self-in-Err : goal.invariant_of-self-in-Err
invariant_of-self-in-Err c = (failed c).cache

pub returns-in-Err-clause-step : goal.returns-in-Err-clause-step
returns-in-Err-clause-step c = (failed c).step

-- the page that was filling leaves its list
lists_left : (c : goal.After-leave)
    → c.leave.new.self.lists ≡ lists_unfilled (map.get c.args.self.now.state.requests c.args.finished.serial) c.args.self.now.lists
lists_left c =
    let b = (goal.at.invariant_of-self-in-Err c).In-Some in
    let x = request_of c.in-Some.request in
    ap (λ (s : Store). s.lists)
    (c.leave.ensures.fill (awaited_here (parts_of c.self.inside) c.self.invariant c.args.finished x c.args.self.now.state
    (state_is c.self.view_is) (ends b) c.if-request.false)) ∙ ap (left x.file x.page) (lists_are c.self.view_is)
    ∙ ap (λ o. lists_unfilled o c.args.self.now.lists)
    (sym (ap (λ (s : State). map.get s.requests c.args.finished.serial) (sym (state_is c.self.view_is)) ∙ (ends b).found))

pub returns-in-Err-clause-lists : goal.returns-in-Err-clause-lists
returns-in-Err-clause-lists c = lists_left c

pub returns-in-Err-clause-file : goal.returns-in-Err-clause-file
returns-in-Err-clause-file c =
    let b = (goal.at.invariant_of-self-in-Err c).In-Some in
    let x = request_of c.in-Some.request in
    let found = ap (λ (s : State). map.get s.requests c.args.finished.serial) (sym (state_is c.self.view_is)) ∙ (ends b).found in
    let filed = c.self.invariant.core.filed c.args.finished.serial x (ends b).found in
    (x, found, (ends b).kind_is, refl, omega (arith, filed, c.self.invariant.core.few_files))
