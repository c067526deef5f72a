use Rattle.std.proofs.Common.{arith, sym, ap, subst, refl, max, ◌∙◌, ◌≡◌, ◌+◌, ◌-◌, ◌*◌, ◌/◌, ◌<◌, ◌≤◌, ℕ, [], ◌∷◌}
use Rattle.std.proofs.Common.{true, not, length}
use Rattle.std.specs.Prelude.{Some, unwrap_or}
use Rattle.std.specs.FinMap as map
use Rattle.pc_types.specs.declared.limits.TheConstants.{MAX_TOUCHED}
use Rattle.blockmap.specs.Blocks.{Blocks}
use Rattle.machine.specs.State.{tags_at, State, handle_file, touched, touched_count}
use Rattle.cachecore.specs.Core.{Core}
use Rattle.machine.specs.Changes.{put_file, written}
use Rattle.machine.specs.ListChanges.{lists_written}
use Rattle.machine.specs.Tests.{room_tests, write_stop}
use Rattle.pagestore.specs.Ranges.{AreSized}
use Rattle.pagestore.specs.Store.{Store, stored_at}
use Rattle.pagestore.specs.Syncing.{failed_of}
use Rattle.cachecore.specs.Tables.{IsCache, IsCore, state_of}
use Rattle.pagestore.proofs.OnePage.{one_touched, one_touched_count}
use Rattle.cachecore.proofs.DirtyPages.{dirty_cached, dirty_placed, dirty_room, dirty_unstopped}
use Rattle.cachecore.proofs.Overwrites.{placed_same, put_lists, put_steps}
use Rattle.cachecore.proofs.WriteSteps.{WriteSteps, parts, final_files, final_free, final_page, final_idle}
use Rattle.cachecore.proofs.CoreLemmas.{write_state, core-written, taken}
use Rattle.cachecore.proofs.SyncLaws.{kept_failed, moved_syncs}
use Rattle.cachecore.proofs.StepLemmas.{write_passed}
use Rattle.cachecore.proofs.CoreViews.{state_is}
use Rattle.cachecore.proofs.cache.CacheCore.overwrite.Goals as goal

abbrev before : goal.After-set_size → State
before c =
    let a = c.self.inside in
    state_of a.geometry a.name a.pages.files a.handles a.blocks a.requests a.syncs

-- the write touches one page
alone : (c : goal.After-set_size)
    → touched (before c).sizes.page c.args.offset (length c.args.bytes.now) ≡ c.args.offset / c.page-page_size.result ∷ []
alone c =
    let o = c.args.offset in
    let b = c.args.bytes.now in
    let P = c.page-page_size.result in
    let positive : 0 < P = omega (arith, c.page-page_size.ensures.least) in
    let fits : o - o / P * P + length b ≤ P = omega arith in
    sym (ap (λ k. touched k o (length b)) c.page-page_size.ensures.value)
    ∙ one_touched P o (length b) positive c.requires.some fits

pub returns-clause-unstopped : goal.returns-clause-unstopped
returns-clause-unstopped c _ =
    let f = c.args.file in
    let o = c.args.offset in
    let n = length c.args.bytes.now in
    ap (λ (s : State). write_stop s f o n) (sym (state_is c.self.view_is))
    ∙ dirty_unstopped (before c) c.self.invariant.core.sound f _ (sym c.if-not-put_again.ensures.dirty) o n (alone c)

pub returns-clause-room : goal.returns-clause-room
returns-clause-room c _ =
    let f = c.args.file in
    let o = c.args.offset in
    let n = length c.args.bytes.now in
    ap (λ (s : State). room_tests s f o n) (sym (state_is c.self.view_is))
    ∙ dirty_room (before c) c.self.invariant.core.sound f _ (sym c.if-not-put_again.ensures.dirty) o n (alone c)

-- what the cache keeps, and its state
wrote : (c : goal.After-set_size) → (let a = c.self.inside in
    let now : State = state_of a.geometry a.name c.set_size.new.self.files a.handles a.blocks a.requests a.syncs in
    IsCache now c.set_size.new.self a.blocks
    × (now ≡ written (before c) c.args.file c.args.offset c.args.bytes.now))
wrote c =
    let a = c.self.inside in
    let f = c.args.file in
    let o = c.args.offset in
    let b = c.args.bytes.now in
    let P = c.page-page_size.result in
    let p = o / P in
    let old : State = before c in
    let positive : 0 < P = omega (arith, c.page-page_size.ensures.least) in
    let fits : o - p * P + length b ≤ P = omega arith in
    let dirty : (tags_at old f p).dirty ≡ true = sym c.if-not-put_again.ensures.dirty in
    let store = a.pages in
    let core = c.self.invariant.core in
    let h = c.requires.open.0 in
    let found : Some f ≡ map.get old.handles h =
    sym (ap (λ (s : State). map.get s.handles h) (state_is c.self.view_is) ∙ c.requires.open.1) in
    let file : handle_file old h ≡ f = ap (λ o. unwrap_or o 0) (sym found) in
    let here : f < length store.files = core.known h f (sym found) in
    let few : touched_count old.sizes.page o (length b) ≤ MAX_TOUCHED =
    omega (
      arith,
      one_touched_count P o (length b) positive c.requires.some fits,
      ap (λ k. touched_count k o (length b)) c.page-page_size.ensures.value,
    ) in
    let passed = write_passed old (record { 0 = h }) o f b found c.requires.some few c.requires.bound
    (sym (dirty_unstopped old core.sound f p dirty o (length b) (alone c)))
    (sym (dirty_room old core.sound f p dirty o (length b) (alone c))) in
    let laid = c.put_again.new.self in
    let final = c.set_size.new.self in
    let n = c.max-size.result in
    let steps : WriteSteps P o b f n store laid final = put_steps P o b positive c.requires.some fits f store here
    (dirty_cached old core.sound f p dirty) n laid final
    (c.if-not-put_again.ensures.done refl) c.set_size.ensures
    (c.max-size.ensures ∙ ap (λ n. max n (o + length b)) c.size.ensures)
    (subst (λ (n : ℕ). AreSized n (stored_at store f).pages) (sym c.page-page_size.ensures.value) (core.sized f)) in
    let e1 = stored_at laid f in
    let e2 = stored_at final f in
    let of_write = parts steps in
    let files = final_files steps in
    let blocks : Blocks = taken core refl h f o P b e1 e2 final file
    c.page-page_size.ensures.value passed here of_write positive c.requires.bound P in
    let placed : blocks ≡ a.blocks = placed_same P o b positive c.requires.some fits a.blocks f
    (ap not (dirty_placed old core.sound f p dirty)) in
    let state : state_of a.geometry a.name final.files a.handles a.blocks a.requests a.syncs
    ≡ record (put_file old f e2) { spots = blocks.spots } =
    (λ i. state_of a.geometry a.name (files i) a.handles (sym placed i) a.requests a.syncs) in
    let written_is = state ∙ write_state core refl h f o P b e1 e2 final file
    c.page-page_size.ensures.value passed here of_write positive c.requires.bound in
    let kept =
    subst (λ (bs : Blocks). IsCore (state_of a.geometry a.name final.files a.handles a.blocks a.requests a.syncs)
    final bs) placed
    (subst (λ (t : State). IsCore t final blocks) (sym state)
    (core-written core refl h f o P b e1 e2 final file c.page-page_size.ensures.value passed here
    of_write positive c.requires.bound
    (final_page steps)
    (final_free steps)
    (final_idle steps))) in (
      record {
        core = kept;
        syncs = moved_syncs a.handles a.pages.files a.syncs c.self.invariant.syncs final.files
            (λ g. ap (λ (s : State). failed_of s.files g) written_is ∙ kept_failed store.files f _ refl refl g);
      },
      written_is,
    )

pub invariant_of-self-2 : goal.invariant_of-self-2
invariant_of-self-2 c = (wrote c).0

pub returns-clause-done : goal.returns-clause-done
returns-clause-done c _ = (wrote c).1
    ∙ ap (λ s. written s c.args.file c.args.offset c.args.bytes.now) (state_is c.self.view_is)

pub returns-clause-lists : goal.returns-clause-lists
returns-clause-lists c _ =
    let f = c.args.file in
    let o = c.args.offset in
    let b = c.args.bytes.now in
    let P = c.page-page_size.result in
    let positive : 0 < P = omega (arith, c.page-page_size.ensures.least) in
    let fits : o - o / P * P + length b ≤ P = omega arith in
    let dirty : (tags_at (before c) f (o / P)).dirty ≡ true = sym c.if-not-put_again.ensures.dirty in
    let lists = λ (s : Store). s.lists in
    put_lists (before c) f o (length b) P c.self.inside.pages.lists c.set_size.new.self.lists
    c.page-page_size.ensures.value positive c.requires.some fits
    (dirty_cached (before c) c.self.invariant.core.sound f (o / P) dirty)
    (ap lists c.set_size.ensures ∙ ap lists (c.if-not-put_again.ensures.done refl))
    ∙ ap (λ (k : Core). lists_written k.state f o (length b) k.lists) c.self.view_is
