use Rattle.std.proofs.Common.{refl, subst}
use Rattle.std.specs.Prelude.{IfSome}
use Rattle.machine.specs.declared.event.Event.TheVariants as event
use Rattle.cachecore.specs.Starting.{IsToFlush}
use Rattle.cachecore.proofs.AtOnceCalls.{carried}
use Rattle.cachecore.proofs.cache.CacheCore.flush_at_once.Goals as goal

pub returns-in-Ok-Some : goal.returns-in-Ok-Some
returns-in-Ok-Some g c =
    let next = subst (λ o. IfSome o (λ page. IsToFlush c.args.self.now.state c.args.file page.0)) c.in-Ok-Some.field-0-is
    c.in-Ok-Some.ensures.some in
    carried c.args.self.now c.args.self.now c.args.file.0 c.in-Ok-Some.page.0 c.args.device.now c.write_at_once-reply.result
    c.write_at_once-reply.new.self c.write_at_once-reply.new.device c.write_at_once-reply.ensures refl refl refl
    (event.FlushBegin c.args.file) next.begins (λ t. refl)
