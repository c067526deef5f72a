use Rattle.std.proofs.Common.{◌≡◌, ap, rules, subst, ◌∙◌}
use Rattle.cachecore.specs.Core.{Core}
use Rattle.cachecore.specs.Standing.{SpotIs}
use Rattle.held.specs.Shown.{HeldSeen}
use Rattle.shared.proofs.cache.SharedCache.block_of.Goals as goal

-- what is told is of the state after the history that the seat was shown
pub returns-clause-stands : goal.returns-clause-stands
returns-clause-stands g c named =
    let held : c.deref.result.now ≡ c.deref_mut.result.now = search (rules, c.deref_mut.ensures.writes_back, c.show.ensures.same) in
    let core : c.core.result.now ≡ c.deref_mut.result.now.core = c.core.ensures.core ∙ ap (λ (h : HeldSeen). h.core) held in
    (_, c.show.ensures.legal, subst (λ (k : Core). SpotIs k.state c.args.file.0 c.args.page.0 c.block_of.result) core c.block_of.ensures)
