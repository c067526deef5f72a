use Rattle.std.proofs.Common.{arith, sym, ap, subst, refl, max, ◌∙◌, ◌≡◌, ◌+◌, ◌-◌, ◌/◌, ◌<◌, ℕ, length, true}
use Rattle.std.specs.Prelude.{None}
use Rattle.blockmap.specs.Blocks.{Blocks}
use Rattle.machine.specs.State.{State, handle_file}
use Rattle.cachecore.specs.Core.{Core}
use Rattle.machine.specs.Changes.{put_file, written}
use Rattle.machine.specs.ListChanges.{lists_written}
use Rattle.machine.specs.Step.{wants_memory}
use Rattle.machine.specs.Tests.{write_tests}
use Rattle.pagestore.specs.Ranges.{AreSized, IsLaid}
use Rattle.pagestore.proofs.Flags.{flags_set}
use Rattle.pagestore.proofs.RangeLemmas.{on_err_of}
use Rattle.pagestore.specs.Store.{Store, stored_at, with_lists, with_pages}
use Rattle.pagestore.specs.Syncing.{failed_of}
use Rattle.cachecore.specs.Tables.{IsCache, IsCore, state_of}
use Rattle.cachecore.proofs.MemoryWants.{wants_of}
use Rattle.cachecore.proofs.WriteMoves.{written_lists}
use Rattle.cachecore.proofs.WriteSteps.{WriteSteps, laid_noted, parts, final_files, final_free, final_page, final_idle}
use Rattle.cachecore.proofs.CoreLemmas.{frames_enough, blocks_enough, none_awaited, write_state, core-written, taken}
use Rattle.cachecore.proofs.SyncLaws.{kept_failed, moved_syncs}
use Rattle.cachecore.proofs.CoreViews.{state_is}
use Rattle.cachecore.proofs.Parts.{parts_of, state_by}
use Rattle.cachecore.proofs.WriteFlags.{flags_by}
use Rattle.cachecore.proofs.cache.CacheCore.write_pages.Goals as goal

-- a write that is not refused, by a handle of the file
abbrev Passed : State → ℕ → ℕ → ℕ → Type 0
Passed s f o n = (h : ℕ) × (handle_file s h ≡ f) × (write_tests s h o n ≡ None)

pub place-requires-clause-frames : goal.place-requires-clause-frames
place-requires-clause-frames c =
    let a = c.self.inside in
    let n = length c.args.bytes.now in
    let passed = subst (λ s. Passed s c.args.file c.args.offset n) (sym (state_is c.self.view_is)) c.requires.passed in
    frames_enough
    c.self.invariant.core refl passed.0 c.args.file c.args.offset n c.page-page_size.result
    passed.1 c.page-page_size.ensures.value passed.2

pub place-requires-clause-room : goal.place-requires-clause-room
place-requires-clause-room c =
    let a = c.self.inside in
    let n = length c.args.bytes.now in
    let passed = subst (λ s. Passed s c.args.file c.args.offset n) (sym (state_is c.self.view_is)) c.requires.passed in
    blocks_enough
    c.self.invariant.core refl passed.0 c.args.file c.args.offset n c.page-page_size.result
    passed.1 c.page-page_size.ensures.value passed.2

pub place-requires-clause-idle : goal.place-requires-clause-idle
place-requires-clause-idle c =
    let a = c.self.inside in
    let n = length c.args.bytes.now in
    let passed = subst (λ s. Passed s c.args.file c.args.offset n) (sym (state_is c.self.view_is)) c.requires.passed in
    none_awaited
    c.self.invariant.core refl passed.0 c.args.file c.args.offset n c.page-page_size.result
    passed.1 c.page-page_size.ensures.value passed.2

pub place-requires-clause-sized : goal.place-requires-clause-sized
place-requires-clause-sized c =
    subst (λ (n : ℕ). AreSized n (stored_at c.self.inside.pages c.args.file).pages) (sym c.page-page_size.ensures.value)
    (c.self.invariant.core.sized c.args.file)

pub place-requires-clause-flags : goal.place-requires-clause-flags
place-requires-clause-flags c =
    flags_by c.args.cached.now (state_by (parts_of c.self.inside)) c.args.self.now.state c.args.file c.args.offset
    (length c.args.bytes.now) c.page-page_size.result (state_is c.self.view_is) c.page-page_size.ensures.value c.requires.flags

-- what the cache keeps, and its state
wrote : (c : goal.After-set_size) → (let a = c.self.inside in
    let now : State =
    state_of a.geometry a.name c.set_size.new.self.files a.handles c.place.new.blocks a.requests a.syncs in
    IsCache now c.set_size.new.self c.place.new.blocks
    × (now ≡ written (state_of a.geometry a.name a.pages.files a.handles a.blocks a.requests a.syncs) c.args.file
    c.args.offset c.args.bytes.now))
wrote c =
    let a = c.self.inside in
    let f = c.args.file in
    let o = c.args.offset in
    let b = c.args.bytes.now in
    let P = c.page-page_size.result in
    let old : State = state_of a.geometry a.name a.pages.files a.handles a.blocks a.requests a.syncs in
    let store = a.pages in
    let here : f < length store.files =
    omega (arith, c.requires.here, ap (λ s. length s.files) (state_is c.self.view_is)) in
    let written = c.in_ok-place.ensures.written in
    let noted = c.access_cached.ensures in
    let steps : WriteSteps P o b f c.max-size.result store c.access_cached.new.self c.set_size.new.self =
    record {
      here = here;
      pages = subst (λ (s : Store). IsLaid P o b (o / P) ((o + length b - 1) / P + 1) (stored_at store f).pages
          (stored_at s f).pages) (sym noted) written.pages;
      rest = laid_noted f store c.place.new.pages c.access_cached.new.self _
          (written.rest ∙ ap (with_lists (with_pages store f (stored_at c.place.new.pages f).pages c.place.new.pages.free))
          (sym (ap (λ (s : Store). s.lists) written.rest))) noted;
      fewer = ap (λ (s : Store). s.free) noted ∙ written.fewer;
      size = c.max-size.ensures ∙ ap (λ n. max n (o + length b)) c.size.ensures;
      grown = c.set_size.ensures;
    } in
    let e1 = stored_at c.access_cached.new.self f in
    let e2 = stored_at c.set_size.new.self f in
    let of_write = parts steps in
    let files = final_files
    steps in
    let passed = subst (λ s. Passed s f o (length b)) (sym (state_is c.self.view_is)) c.requires.passed in
    let state : state_of a.geometry a.name c.set_size.new.self.files a.handles c.place.new.blocks a.requests a.syncs
    ≡ record (put_file old f e2) {
      spots =
          (taken c.self.invariant.core refl passed.0 f o P b e1 e2 c.set_size.new.self passed.1
          c.page-page_size.ensures.value passed.2 here of_write (omega (arith, c.page-page_size.ensures.least))
          c.requires.bound P).spots;
    } =
    (λ i. state_of a.geometry a.name (files i) a.handles (c.in_ok-place.ensures.placed i) a.requests a.syncs) in
    let core =
    subst (λ (bs : Blocks). IsCore
    (state_of a.geometry a.name c.set_size.new.self.files a.handles c.place.new.blocks a.requests a.syncs)
    c.set_size.new.self bs) (sym c.in_ok-place.ensures.placed)
    (subst (λ (t : State). IsCore t c.set_size.new.self
    (taken c.self.invariant.core refl passed.0 f o P b e1 e2 c.set_size.new.self passed.1
    c.page-page_size.ensures.value passed.2 here of_write (omega (arith, c.page-page_size.ensures.least))
    c.requires.bound P)) (sym state)
    (core-written c.self.invariant.core refl passed.0 f o P b e1 e2 c.set_size.new.self passed.1
    c.page-page_size.ensures.value passed.2 here of_write (omega (arith, c.page-page_size.ensures.least))
    c.requires.bound
    (final_page steps)
    (final_free steps)
    (final_idle steps))) in
    let written_is = state ∙ write_state c.self.invariant.core refl passed.0 f o P b e1 e2
    c.set_size.new.self passed.1 c.page-page_size.ensures.value passed.2 here of_write
    (omega (arith, c.page-page_size.ensures.least)) c.requires.bound in (
      record {
        core = core;
        syncs = moved_syncs a.handles a.pages.files a.syncs c.self.invariant.syncs
            c.set_size.new.self.files (λ g. ap (λ (s : State). failed_of s.files g) written_is
            ∙ kept_failed store.files f _ refl refl g);
      },
      written_is,
    )

pub invariant_of-self-2 : goal.invariant_of-self-2
invariant_of-self-2 c = (wrote c).0

pub returns-clause-ok : goal.returns-clause-ok
returns-clause-ok c = (wrote c).1
    ∙ ap (λ s. written s c.args.file c.args.offset c.args.bytes.now) (state_is c.self.view_is)

pub returns-clause-lists : goal.returns-clause-lists
returns-clause-lists c =
    let a = c.self.inside in
    let f = c.args.file in
    let o = c.args.offset in
    let n = length c.args.bytes.now in
    let lists = λ (s : Store). s.lists in
    let P = c.page-page_size.result in
    let set = flags_set c.args.cached.now a.pages.files f (o / P) ((o + n - 1) / P + 1)
    (flags_by c.args.cached.now (state_by (parts_of a)) c.args.self.now.state f o n P (state_is c.self.view_is)
    c.page-page_size.ensures.value c.requires.flags) in
    written_lists (state_of a.geometry a.name a.pages.files a.handles a.blocks a.requests a.syncs) f o n a.pages.lists
    P _ c.place.new.pages.lists c.set_size.new.self.lists c.page-page_size.ensures.value
    c.requires.some
    set (ap lists c.in_ok-place.ensures.written.rest)
    (ap lists c.set_size.ensures ∙ ap lists c.access_cached.ensures)
    ∙ ap (λ (k : Core). lists_written k.state f o n k.lists) c.self.view_is

pub returns-in_err-place-clause-wanting : goal.returns-in_err-place-clause-wanting
returns-in_err-place-clause-wanting c =
    let a = c.self.inside in
    let f = c.args.file in
    let o = c.args.offset in
    let n = length c.args.bytes.now in
    on_err_of c.from_residual.result _ (subst (λ s. wants_memory s f o n ≡ true) (state_is c.self.view_is)
    (wants_of (state_of a.geometry a.name a.pages.files a.handles a.blocks a.requests a.syncs) f o n c.page-page_size.result
    c.page-page_size.ensures.value a.pages a.blocks refl refl c.in_err-place.ensures.wanting))
