use Rattle.std.proofs.Common.{◌≡◌, ap, rules, subst, ◌∙◌}
use Rattle.std.specs.Prelude.{IfOk}
use Rattle.cachecore.specs.Core.{Core}
use Rattle.cachecore.specs.Standing.{Tells}
use Rattle.held.specs.Shown.{HeldSeen}
use Rattle.shared.proofs.cache.SharedCache.catalog.Goals as goal

-- what is told is of the state after the history that the seat was shown
pub returns-clause-told : goal.returns-clause-told
returns-clause-told g c named =
    let held : c.deref.result.now ≡ c.deref_mut.result.now = search (rules, c.deref_mut.ensures.writes_back, c.show.ensures.same) in
    let core : c.core.result.now ≡ c.deref_mut.result.now.core = c.core.ensures.core ∙ ap (λ (h : HeldSeen). h.core) held in
    (_, c.show.ensures.legal, subst (λ (k : Core). IfOk c.catalog.result (Tells k.state)) core c.catalog.ensures.told)
