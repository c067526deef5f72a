use Rattle.std.proofs.Common.{arith, ap, sym, subst, refl, ◌∙◌, ◌≡◌, ◌≤◌, ◌%◌, List, length, ℕ}
use Rattle.pc_types.specs.declared.limits.TheConstants.{MAX_FILE_SIZE}
use Rattle.blockmap.specs.Blocks.{CutsFrom}
use Rattle.writeback.specs.Flights.{Flights}
use Rattle.machine.specs.State.{File, State, file_at, page_count}
use Rattle.machine.specs.Changes.{boundary, cut_boundary, cut_request, shrunk}
use Rattle.maps.specs.Maps.{each_value}
use Rattle.pagestore.specs.Cuts.{RemovesFrom}
use Rattle.pagestore.specs.Store.{Store, with_pages}
use Rattle.cachecore.specs.Syncing.{AreSyncs}
use Rattle.pagestore.specs.Syncing.{failed_of}
use Rattle.cachecore.specs.Tables.{IsCore, state_of}
use Rattle.cachecore.proofs.CutPages.{tail_into, tail_whole}
use Rattle.cachecore.proofs.CutSteps.{ShrinkSteps, core-shrunk, shrunk_files, shrunk_state}
use Rattle.cachecore.proofs.SyncLaws.{kept_failed, moved_syncs}
use Rattle.cachecore.proofs.CoreViews.{state_is}
use Rattle.cachecore.specs.declared.cache.CacheCore.TheInside.{Inside}
use Rattle.cachecore.proofs.Parts.{parts_of, state_by}
use Rattle.cachecore.proofs.cache.CacheCore.shrink.Goals as goal
use Rattle.cachecore.proofs.cache.CacheCore.shrink.Goals.{in-Some, in_default}

pub cut_tail-requires-clause-place : goal.cut_tail-requires-clause-place
cut_tail-requires-clause-place c =
    let count = ap (λ (s : State). length s.files) (state_is c.self.view_is) in
    record {
      file = omega (arith, count, c.requires.here, c.self.invariant.core.few_files);
      page = omega (arith, c.in-Some.ensures.below);
    }

abbrev before : goal.After-set_size → State
before c = state_by (parts_of c.self.inside)

-- the last page was cut, and nothing else changed
cut : (c : goal.After-set_size) → (let f = c.args.file in let z = c.args.size in
    let now : Inside = record c.self.inside {
      pages = with_pages c.self.inside.pages f (cut_boundary (before c) f z (boundary (before c) f z))
          c.self.inside.pages.free;
    } in
    c.match-boundary.self-inside ≡ now)
cut c =
    let a = c.self.inside in
    let f = c.args.file in
    let z = c.args.size in
    let with = λ (k : Store). (let x : Inside = record a { pages = k } in x) in
    elim c.match-boundary.branch [
      | in-Some w ↦ w.self-inside-is
          ∙ ap with (tail_into (before c) f z a.pages refl w.in-Some.page (z % c.page-page_size.result)
          c.page-page_size.result w.cut_tail.new.pages
          (w.in-Some.ensures.page ∙ ap (λ x. boundary x f z) (sym (state_is c.self.view_is)))
          c.self.invariant.core.page c.page-page_size.ensures.value refl w.cut_tail.ensures)
      | in_default w ↦ w.self-inside-is
          ∙ ap with (tail_whole (before c) f z a.pages refl
          (w.in_default.ensures.page ∙ ap (λ x. boundary x f z) (sym (state_is c.self.view_is))))
    ]

pages_end : (c : goal.After-set_size) → c.page_count-end_page.result ≡ page_count c.self.inside.geometry.page c.args.size
pages_end c = c.page_count-end_page.ensures ∙ ap (λ P. page_count P c.args.size) c.page-page_size.ensures.value

steps : (c : goal.After-set_size) → ShrinkSteps (before c) c.args.file c.args.size c.self.inside.pages
    c.match-boundary.self-inside.pages c.remove_from.new.self c.set_size.new.self
steps c =
    let count = ap (λ (s : State). length s.files) (state_is c.self.view_is) in
    record {
      here = omega (arith, count, c.requires.here);
      files = refl;
      is_cut = ap (λ (x : Inside). x.pages) (cut c);
      is_freed = subst (λ n. RemovesFrom c.match-boundary.self-inside.pages c.remove_from.new.self c.args.file n)
          (pages_end c) c.remove_from.ensures;
      is_sized = c.set_size.ensures;
    }

cuts : (c : goal.After-set_size) → CutsFrom c.self.inside.blocks c.cut_from.new.self c.args.file
    (page_count c.self.inside.geometry.page c.args.size)
cuts c =
    subst (λ (x : Inside). CutsFrom x.blocks c.cut_from.new.self c.args.file
    (page_count c.self.inside.geometry.page c.args.size)) (cut c)
    (subst (λ n. CutsFrom c.match-boundary.self-inside.blocks c.cut_from.new.self c.args.file n) (pages_end c)
    c.cut_from.ensures)

drops : (c : goal.After-set_size) → c.drop_from.new.self
    ≡ record c.self.inside.requests {
      requests = each_value (λ _. cut_request c.args.file (page_count c.self.inside.geometry.page c.args.size))
          c.self.inside.requests.requests;
    }
drops c =
    c.drop_from.ensures ∙ (λ i. let t : Flights = (cut c i).requests in
    record t { requests = each_value (λ _. cut_request c.args.file (pages_end c i)) t.requests })

pub invariant_of-self : goal.invariant_of-self
invariant_of-self c =
    let a = c.self.inside in
    let f = c.args.file in
    let z = c.args.size in
    let size = ap (λ (s : State). (file_at s f).size) (state_is c.self.view_is) in
    let small : z ≤ MAX_FILE_SIZE = omega (arith, size, c.requires.fewer, c.self.invariant.core.bounded f) in
    let core = subst (λ x. IsCore x c.set_size.new.self c.cut_from.new.self)
    (λ i. let m : Inside = sym (cut c) i in
    state_of m.geometry m.name c.set_size.new.self.files m.handles c.cut_from.new.self c.drop_from.new.self m.syncs)
    (core-shrunk a.geometry a.name f z a.handles a.pages c.match-boundary.self-inside.pages c.remove_from.new.self
    c.set_size.new.self a.blocks c.cut_from.new.self a.requests c.drop_from.new.self a.syncs (steps c) (cuts c) (drops c)
    c.self.invariant.core small) in
    let failed : (g : ℕ) → failed_of c.set_size.new.self.files g ≡ failed_of a.pages.files g =
    λ g. ap (λ (fs : List File). failed_of fs g)
    (shrunk_files
    (steps c)) ∙ kept_failed a.pages.files f _ refl refl g in
    let moved = moved_syncs a.handles a.pages.files a.syncs c.self.invariant.syncs c.set_size.new.self.files failed in
    record {
      core = core;
      syncs = subst (λ (x : Inside). AreSyncs x.handles c.set_size.new.self.files x.syncs) (sym (cut c)) moved;
    }

pub returns-clause-state : goal.returns-clause-state
returns-clause-state c =
    let a = c.self.inside in
    (λ i. let m : Inside = cut c i in
    state_of m.geometry m.name c.set_size.new.self.files m.handles c.cut_from.new.self c.drop_from.new.self m.syncs)
    ∙ shrunk_state a.geometry a.name c.args.file c.args.size a.handles a.pages c.match-boundary.self-inside.pages
    c.remove_from.new.self c.set_size.new.self a.blocks c.cut_from.new.self a.requests c.drop_from.new.self a.syncs
    (steps c) (cuts c) (drops c)
    ∙ ap (λ x. shrunk x c.args.file c.args.size) (state_is c.self.view_is)
