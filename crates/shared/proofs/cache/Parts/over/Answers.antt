use Rattle.std.proofs.Common.{ap, refl, rules}
use Rattle.cachecore.specs.Core.{Core}
use Rattle.held.proofs.Failures.{none_told}
use Rattle.held.proofs.Rooms.{room_first}
use Rattle.shared.proofs.Serving.{begun_as, begun_first, idle_first}
use Rattle.shared.proofs.cache.Parts.over.Goals as goal

pub returns-in-Ok-over-clause-idle : goal.returns-in-Ok-over-clause-idle
returns-in-Ok-over-clause-idle g c =
    idle_first c.in-Ok-over.held.core c.args.catalog.files c.args.geometry.now c.args.name c.in-Ok-over.ensures.core

pub returns-in-Ok-over-clause-state : goal.returns-in-Ok-over-clause-state
returns-in-Ok-over-clause-state g c = record {
  named = search rules;
  seats = search rules;
  errors = search rules;
  sized = search rules;
  counted = search rules;
  told = none_told c.args.catalog.files c.args.geometry.now c.args.name c.in-Ok-over.held.core.state c.in-Ok-over.held.errors
      (ap (λ (x : Core). x.state) c.in-Ok-over.ensures.core) c.in-Ok-over.ensures.board.1;
  room = room_first _ c.in-Ok-over.held.log c.in-Ok-over.ensures.log.1 refl;
}

pub returns-in-Ok-over-clause-begun : goal.returns-in-Ok-over-clause-begun
returns-in-Ok-over-clause-begun g c =
    begun_first c.in-Ok-over.held.core c.args.catalog.files c.args.geometry.now c.args.name c.in-Ok-over.ensures.core (c.in-Ok-over.ensures.catalog)

pub returns-in-Ok-over-clause-catalog : goal.returns-in-Ok-over-clause-catalog
returns-in-Ok-over-clause-catalog g c =
    (c.in-Ok-over.ensures.catalog, begun_as c.in-Ok-over.held.core c.args.catalog.files c.args.geometry.now c.args.name c.in-Ok-over.ensures.core)
