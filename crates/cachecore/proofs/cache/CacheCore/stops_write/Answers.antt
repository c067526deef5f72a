use Rattle.std.proofs.Common.{◌≡◌, ◌&&◌, ◌||◌, ◌∙◌, ap, not, sym, true}
use Rattle.machine.specs.State.{State, is_cached, is_filling, is_written}
use Rattle.machine.specs.Tests.{covers}
use Rattle.cachecore.proofs.CoreViews.{state_is}
use Rattle.cachecore.proofs.DirtyPages.{cached_unfilled}
use Rattle.cachecore.proofs.Parts.{parts_of, state_by}
use Rattle.cachecore.proofs.cache.CacheCore.stops_write.Goals as goal

pub returns-then-cached : goal.returns-then-cached
returns-then-cached c =
    let s = c.args.self.now.state in
    let f = c.args.file in
    let p = c.args.page in
    let same = state_is c.self.view_is in
    let there : is_cached s f p ≡ true = sym c.requires.told ∙ c.if-cached.true in
    let idle = ap (λ (t : State). is_filling t f p) (sym same)
    ∙ cached_unfilled (state_by (parts_of c.self.inside)) c.self.invariant.core.sound f p
    (ap (λ (t : State). is_cached t f p) same ∙ there) in
    sym (λ i. idle i || ((not (there i) && is_written s f p) && not (covers s.sizes.page c.args.offset c.args.count p)))
