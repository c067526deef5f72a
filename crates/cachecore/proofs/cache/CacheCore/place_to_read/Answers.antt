use Rattle.std.proofs.Common.{ap, arith}
use Rattle.machine.specs.State.{State}
use Rattle.cachecore.specs.Tables.{state_of}
use Rattle.cachecore.proofs.PlacedBlocks.{told_within}
use Rattle.cachecore.proofs.CoreViews.{state_is}
use Rattle.cachecore.proofs.cache.CacheCore.place_to_read.Goals as goal

pub returns-then-placed-gt0-clause-within : goal.returns-then-placed-gt0-clause-within
returns-then-placed-gt0-clause-within c =
    let i = c.self.inside in
    let s = state_of i.geometry i.name i.pages.files i.handles i.blocks i.requests i.syncs in
    let within = told_within s i.pages i.blocks c.self.invariant.core c.free_count.ensures.always
    (c.args.file, c.args.page.0) c.in_ok-placed.placed c.in_ok-placed.ensures in
    omega (arith, ap (λ (t : State). t.sizes.blocks) (state_is c.self.view_is))
