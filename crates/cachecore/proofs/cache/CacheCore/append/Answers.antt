use Rattle.std.proofs.Common.{ap, sym, ◌∙◌}
use Rattle.std.specs.Prelude.{unwrap_or}
use Rattle.std.specs.FinMap as map
use Rattle.machine.specs.State.{file_at}
use Rattle.cachecore.specs.Replies.{wrote}
use Rattle.cachecore.proofs.StepLemmas.{append_step}
use Rattle.cachecore.proofs.CoreViews.{state_is}
use Rattle.cachecore.proofs.cache.CacheCore.append.Goals as goal

pub size-end-requires : goal.size-end-requires
size-end-requires c = c.self.invariant.core.known c.args.handle.0 c.in-Some.file (sym c.in-Some.ensures)

pub returns-clause-step : goal.returns-clause-step
returns-clause-step c =
    let file =
    ap (λ o. unwrap_or o 0) (c.in-Some.ensures
    ∙ ap (λ s. map.get s.handles c.args.handle.0) (state_is c.self.view_is)) in
    append_step c.args.self.now.state c.write.new.self.state c.args.handle c.size-end.result c.args.bytes.now
    (wrote c.write.result) (c.size-end.ensures ∙ ap (λ s. (file_at s c.in-Some.file).size) (state_is c.self.view_is)
    ∙ ap (λ f. (file_at c.args.self.now.state f).size) file) c.write.ensures.step
