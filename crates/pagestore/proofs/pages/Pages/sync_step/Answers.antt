use Rattle.writeback.specs.Slots.{sync_of}
use Rattle.pagestore.proofs.SyncPicks.{sync_says}
use Rattle.pagestore.proofs.pages.Pages.sync_step.Goals as goal

pub returns-clause-step : goal.returns-clause-step
returns-clause-step c = sync_says c.self.inside.frames c.self.inside.uptodate.items c.self.inside.files.items
    c.self.inside.dirty c.self.invariant c.args.file c.args.self.now c.self.view_is c.requires c.index.result.now
    c.index.ensures c.args.requests.now (sync_of c.args.progress.now) c.sync_step.result c.sync_step.ensures.step
