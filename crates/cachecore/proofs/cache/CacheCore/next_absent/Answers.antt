use Rattle.std.proofs.Common.{◌<◌, ◌-◌, length, ap, sym, refl, subst, ◌∙◌, arith}
use Rattle.std.specs.FinMap as map
use Rattle.machine.specs.State.{State, free_frames, is_cached, is_filling}
use Rattle.pagestore.specs.Store.{blank, Store, stored_at, with_pages, with_lists}
use Rattle.machine.specs.PageLists.{entered}
use Rattle.cachecore.specs.Tables.{IsCore, state_of}
use Rattle.cachecore.proofs.CoreLemmas.{core-zeros, free_frames_are, zeros_state}
use Rattle.pagestore.proofs.PairLemmas.{when_ok}
use Rattle.cachecore.proofs.SyncLaws.{files_failed, moved_syncs}
use Rattle.cachecore.proofs.CoreViews.{state_is}
use Rattle.cachecore.proofs.cache.CacheCore.next_absent.Goals as goal

pub invariant_of-self-in_default : goal.invariant_of-self-in_default
invariant_of-self-in_default c =
    let i = c.self.inside in
    let old = state_of i.geometry i.name i.pages.files i.handles i.blocks i.requests i.syncs in
    let f = c.args.file in
    let p = c.args.page.0 in
    let now : Store =
    with_lists (with_pages i.pages f (map.insert (stored_at i.pages f).pages p (blank i.pages.page))
    (i.pages.free - 1)) (entered f p i.pages.lists) in
    let zeros = zeros_state i.geometry i.name i.pages i.handles i.blocks i.requests i.syncs f p (i.pages.free - 1)
    c.self.invariant.core.page in
    let here : f < length i.pages.files = subst (λ (s : State). f < length s.files) (sym (state_is c.self.view_is))
    c.requires.here in
    let free = free_frames_are c.self.invariant.core in
    let frames = ap free_frames (state_is c.self.view_is) in
    let core : IsCore (state_of i.geometry i.name now.files i.handles i.blocks i.requests i.syncs) now i.blocks =
    subst (λ t. IsCore t now i.blocks) (sym zeros)
    (core-zeros c.self.invariant.core f p now
    (ap (λ (s : State). is_cached s f p) (state_is c.self.view_is) ∙ c.requires.absent)
    (ap (λ (s : State). is_filling s f p) (state_is c.self.view_is) ∙ c.requires.idle) here
    (omega (arith, free, frames, c.requires.room)) refl refl (λ g q. refl) refl) in
    let made : IsCore (state_of i.geometry i.name c.make.new.self.files i.handles i.blocks i.requests i.syncs)
    c.make.new.self i.blocks =
    subst (λ (x : Store). IsCore (state_of i.geometry i.name x.files i.handles i.blocks i.requests i.syncs) x i.blocks)
    (sym (when_ok c.make.result _ c.if-is_err.ensures.value c.make.ensures.ok)) core in
    record {
      core = made;
      syncs = moved_syncs i.handles i.pages.files i.syncs c.self.invariant.syncs
          c.make.new.self.files (files_failed c.make.new.self.files i.pages f _ 0
          (ap (λ (x : Store). x.files) (when_ok c.make.result _ c.if-is_err.ensures.value c.make.ensures.ok)));
    }
