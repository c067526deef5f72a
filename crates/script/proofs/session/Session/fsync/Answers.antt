use Rattle.std.proofs.Common.{subst, sym}
use Rattle.script.specs.Sessions.{GoesOn, Makes}
use Rattle.script.proofs.SyncLaws.{not_begun, sync_opened}
use Rattle.script.proofs.session.Session.fsync.Goals as goal

pub finish-requires : goal.finish-requires
finish-requires c = record {
  «open» = sync_opened c.args.self.now c.step.new.self c.args.handle c.args.range c.in-Sync.sync c.step.result
      c.in-Sync.is
      (subst (λ s. Makes c.args.self.now s c.step.result c.step.new.self) c.sync_begin.ensures c.step.ensures);
}

pub returns-in-Sync : goal.returns-in-Sync
returns-in-Sync c = (
  c.step.result,
  c.step.new.self,
  subst (λ s. Makes c.args.self.now s c.step.result c.step.new.self) c.sync_begin.ensures c.step.ensures,
  subst (λ r. GoesOn c.step.new.self c.args.handle r c.finish.result c.finish.new.self) (sym c.in-Sync.is)
      c.finish.ensures,
)

pub returns : goal.returns
returns c = (
  c.step.result,
  c.step.new.self,
  subst (λ s. Makes c.args.self.now s c.step.result c.step.new.self) c.sync_begin.ensures c.step.ensures,
  not_begun c.step.new.self c.args.handle c.step.result c.in_default.not-Sync,
)
