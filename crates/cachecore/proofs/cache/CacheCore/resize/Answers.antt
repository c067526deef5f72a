use Rattle.std.proofs.Common.{arith, ap, refl, ◌∙◌, length}
use Rattle.machine.specs.State.{State}
use Rattle.pagestore.specs.Store.{Store, stored_at}
use Rattle.pagestore.specs.Syncing.{failed_of}
use Rattle.cachecore.proofs.CutSteps.{core-grown}
use Rattle.cachecore.proofs.SyncLaws.{kept_failed, moved_syncs}
use Rattle.cachecore.proofs.CoreViews.{state_is}
use Rattle.cachecore.proofs.cache.CacheCore.resize.Goals as goal

pub invariant_of-self : goal.invariant_of-self
invariant_of-self c =
    let a = c.self.inside in
    let count = ap (λ (s : State). length s.files) (state_is c.self.view_is) in
    record {
      core = core-grown a.geometry a.name c.args.file c.args.size a.handles a.pages c.set_size.new.self a.blocks
          a.requests a.syncs (omega (arith, count, c.requires.here)) c.set_size.ensures c.self.invariant.core
          c.requires.small;
      syncs = moved_syncs a.handles a.pages.files a.syncs c.self.invariant.syncs
          c.set_size.new.self.files (λ g. ap (λ (x : Store). failed_of x.files g) c.set_size.ensures
          ∙ kept_failed a.pages.files c.args.file (record (stored_at a.pages c.args.file) { size = c.args.size }) refl
          refl g);
    }
