use Rattle.std.proofs.Common.{arith, ap, refl, ◌++◌, ◌∷◌, [], ◌<◌, length}
use Rattle.pc_types.specs.declared.limits.TheConstants.{MAX_FILES}
use Rattle.machine.specs.State.{File, no_file}
use Rattle.pagestore.specs.Store.{Store}
use Rattle.pagestore.proofs.RangeLemmas.{either_result}
use Rattle.cachecore.specs.Tables.{IsCache, state_of}
use Rattle.cachecore.proofs.CoreLemmas.{core-create, get_or-push}
use Rattle.cachecore.proofs.SyncLaws.{moved_syncs}
use Rattle.cachecore.proofs.cache.CacheCore.create.Goals as goal

pub invariant_of-self : goal.invariant_of-self
invariant_of-self c =
    let a = c.self.inside in
    let old = a.pages in
    let few : length old.files < MAX_FILES = omega (arith, c.file_count-number.ensures) in
    let now : Store = record old { files = old.files ++ no_file ∷ [] } in
    either_result c.add_file.result old now c.add_file.new.self
    (λ (p : Store). IsCache (state_of a.geometry a.name p.files a.handles a.blocks a.requests a.syncs) p a.blocks)
    c.add_file.ensures.ok c.add_file.ensures.err
    (record {
      core = core-create
          c.self.invariant.core now refl refl refl few;
      syncs = moved_syncs a.handles a.pages.files a.syncs c.self.invariant.syncs now.files
          (λ g. ap (λ (x : File). (x.failures, x.last_code)) (get_or-push old.files no_file g));
    })
    c.self.invariant
