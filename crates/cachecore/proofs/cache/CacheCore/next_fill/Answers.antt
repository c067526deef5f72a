use Rattle.std.proofs.Common.{arith, sym, ap, ◌≡◌, ◌<◌, ◌∙◌}
use Rattle.std.specs.Prelude.{Some}
use Rattle.std.specs.FinMap as map
use Rattle.machine.specs.State.{State, file_at, free_frames, is_cached, page_count}
use Rattle.cachecore.proofs.CoreLemmas.{free_frames_are}
use Rattle.cachecore.proofs.Parts.{parts_of, state_by}
use Rattle.cachecore.proofs.StepLemmas.{told_inside, fill_waits, fill_present, fill_no_frame}
use Rattle.pagestore.proofs.Spans.{page_below}
use Rattle.cachecore.proofs.CoreViews.{state_is}
use Rattle.cachecore.proofs.cache.CacheCore.next_fill.Goals as goal
use Rattle.cachecore.proofs.cache.CacheCore.next_fill.Goals.{After-is_cached, After-is_filling, In-Some}

found : (c : In-Some) → Some c.in-Some.file ≡ map.get c.args.self.now.state.handles c.args.handle.0
found c = c.in-Some.ensures ∙ ap (λ (s : State). map.get s.handles c.args.handle.0) (state_is c.self.view_is)

-- the page is one of the file's
inside : (c : After-is_filling) → (let s = c.args.self.now.state in
    c.args.page.0 < page_count s.sizes.page (file_at s c.in-Some.file).size)
inside c = told_inside (state_by (parts_of c.self.inside)) c.args.self.now.state (state_is c.self.view_is)
    c.args.page.0 c.in-Some.file c.page.result c.size.result c.page_count.result c.page.ensures.value c.size.ensures
    c.page_count.ensures (omega arith)

cached_is : (c : After-is_cached) → is_cached c.args.self.now.state c.in-Some.file c.args.page.0 ≡ c.is_cached.result
cached_is c = sym (c.is_cached.ensures
    ∙ ap (λ (s : State). is_cached s c.in-Some.file c.args.page.0) (state_is c.self.view_is))

pub returns-then-is_filling-clause-step : goal.returns-then-is_filling-clause-step
returns-then-is_filling-clause-step c = λ e.
    let at = goal.at.returns-then-is_filling-clause-step c in
    fill_waits c.args.self.now.state c.args.handle c.args.page c.in-Some.file (found at.In-Some)
    (inside at.After-is_filling) (sym c.is_filling.ensures ∙ c.if-is_filling.true)

pub returns-then-is_cached-clause-step : goal.returns-then-is_cached-clause-step
returns-then-is_cached-clause-step c = λ e.
    let at = goal.at.returns-then-is_cached-clause-step c in
    fill_present c.args.self.now.state c.args.handle c.args.page c.in-Some.file (found at.In-Some)
    (inside at.After-is_filling) (sym c.is_filling.ensures ∙ c.if-is_filling.false)
    (cached_is at.After-is_cached ∙ c.if-is_cached.true)

pub returns-then-free_frames-eq0-clause-step : goal.returns-then-free_frames-eq0-clause-step
returns-then-free_frames-eq0-clause-step c = λ e.
    let at = goal.at.returns-then-free_frames-eq0-clause-step c in
    let free = free_frames_are c.self.invariant.core in
    let frames = ap free_frames (state_is c.self.view_is) in
    fill_no_frame c.args.self.now.state c.args.handle c.args.page c.in-Some.file (found at.In-Some)
    (inside at.After-is_filling) (sym c.is_filling.ensures ∙ c.if-is_filling.false)
    (cached_is at.After-is_cached ∙ c.if-is_cached.false) (omega (arith, free, frames, c.free_frames.ensures))

pub next_absent-requires-clause-below : goal.next_absent-requires-clause-below
next_absent-requires-clause-below c =
    let small = c.self.invariant.core.bounded c.in-Some.file in
    page_below c.page.result c.size.result c.args.page.0 c.page.ensures.least (omega (arith, small, c.size.ensures))
    (omega (arith, c.page_count.ensures))

pub next_absent-requires-clause-absent : goal.next_absent-requires-clause-absent
next_absent-requires-clause-absent c =
    cached_is (goal.at.next_absent-requires-clause-absent c).After-is_cached ∙ c.if-is_cached.false

pub next_absent-requires-clause-room : goal.next_absent-requires-clause-room
next_absent-requires-clause-room c =
    let free = free_frames_are c.self.invariant.core in
    let frames = ap free_frames (state_is c.self.view_is) in
    omega (arith, free, frames, c.free_frames.ensures)

pub next_absent-requires-clause-inside : goal.next_absent-requires-clause-inside
next_absent-requires-clause-inside c = inside (goal.at.next_absent-requires-clause-inside c).After-is_filling

pub returns-clause-step : goal.returns-clause-step
returns-clause-step c = c.next_absent.ensures.step c.args.handle (sym (found (goal.at.returns-clause-step c).In-Some))
