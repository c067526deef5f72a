use Rattle.std.proofs.Common.{ap, refl, rules}
use Rattle.cachecore.specs.Core.{Core}
use Rattle.machine.specs.Catalogs.{no_catalog}
use Rattle.held.proofs.Failures.{none_told}
use Rattle.held.proofs.Rooms.{room_first}
use Rattle.machine.proofs.changes.Adopted.{no_catalog_is}
use Rattle.shared.proofs.Serving.{begun_first, idle_first}
use Rattle.shared.proofs.cache.Parts.make.Goals as goal

pub returns-in-Ok-new-clause-idle : goal.returns-in-Ok-new-clause-idle
returns-in-Ok-new-clause-idle g c =
    idle_first c.in-Ok-new.held.core no_catalog c.args.geometry.now c.args.name c.in-Ok-new.ensures.core

pub returns-in-Ok-new-clause-state : goal.returns-in-Ok-new-clause-state
returns-in-Ok-new-clause-state g c = record {
  named = search rules;
  seats = search rules;
  errors = search rules;
  sized = search rules;
  counted = search rules;
  told = none_told no_catalog c.args.geometry.now c.args.name c.in-Ok-new.held.core.state c.in-Ok-new.held.errors
      (ap (λ (x : Core). x.state) c.in-Ok-new.ensures.core) c.in-Ok-new.ensures.board.1;
  room = room_first _ c.in-Ok-new.held.log c.in-Ok-new.ensures.log.1 refl;
}

pub returns-in-Ok-new-clause-begun : goal.returns-in-Ok-new-clause-begun
returns-in-Ok-new-clause-begun g c =
    begun_first c.in-Ok-new.held.core no_catalog c.args.geometry.now c.args.name c.in-Ok-new.ensures.core (no_catalog_is c.args.geometry.now)
