use Rattle.std.proofs.Common.{subst}
use Rattle.std.specs.Prelude.{IfSome}
use Rattle.cachecore.specs.Starting.{IsToFlush}
use Rattle.cachecore.proofs.cache.CacheCore.flush_begin.Goals as goal

pub returns-in-Ok-Some-clause-step : goal.returns-in-Ok-Some-clause-step
returns-in-Ok-Some-clause-step c =
    let next = subst (λ o. IfSome o (λ page. IsToFlush c.args.self.now.state c.args.file page.0)) c.in-Ok-Some.field-0-is
    c.in-Ok-Some.ensures.some in
    next.begins c.begin_flush.result c.begin_flush.new.self.state c.begin_flush.ensures.begun

pub returns-in-Ok-Some-clause-job : goal.returns-in-Ok-Some-clause-job
returns-in-Ok-Some-clause-job c = c.begin_flush.ensures.begun.job_is
