use Rattle.std.proofs.Common.{ap, refl, sym, ◌∙◌}
use Rattle.cachecore.specs.Core.{Core}
use Rattle.pc_types.specs.Limits.{Sizes}
use Rattle.held.proofs.Failures.{none_told}
use Rattle.machine.specs.Catalogs.{no_catalog}
use Rattle.machine.proofs.changes.Adopted.{no_catalog_is}
use Rattle.held.proofs.Rooms.{room_first}
use Rattle.tests_held.proofs.Firsts.{first_zeros, fresh_as, sizes_of}
use Rattle.tests_held.proofs.tests.over_no_trail.Goals as goal

pub run_named-requires-clause-state : goal.run_named-requires-clause-state
run_named-requires-clause-state g c = record {
  named = refl;
  seats = refl;
  errors = refl;
  sized = refl;
  counted = refl;
  told = none_told no_catalog _ _ c.in-Ok.opened.core.state c.in-Ok.opened.errors (ap (λ (x : Core). x.state) c.in-Ok.ensures.core)
      c.in-Ok.ensures.board.1;
  room = room_first _ c.in-Ok.opened.log c.in-Ok.ensures.log.1 refl;
}

pub run_named-requires-clause-fresh : goal.run_named-requires-clause-fresh
run_named-requires-clause-fresh g c = (
  c.in-Ok.ensures.log.1,
  fresh_as _ _ _ _ (ap (λ (x : Core). x.state) c.in-Ok.ensures.core) c.in-Ok.ensures.log.0,
)

pub run_named-requires-clause-own : goal.run_named-requires-clause-own
run_named-requires-clause-own g c = (c.in-Ok.ensures.own.0, sym c.in-Ok.ensures.board.0)

pub run_named-requires-clause-first : goal.run_named-requires-clause-first
run_named-requires-clause-first g c = λ tells.
    let asked = sizes_of c.new.result c.expect-geometry.result _ c.expect-geometry.ensures c.new.ensures.sizes in
    let sizes = ap (λ (x : Core). x.state.sizes) c.in-Ok.ensures.core ∙ asked in
    first_zeros _ _ _ (ap (λ (z : Sizes). z.page) sizes) (ap (λ (z : Sizes). z.blocks) sizes)
    c.opened_deeds-deeds.ensures.zeros

pub run_named-requires-clause-files : goal.run_named-requires-clause-files
run_named-requires-clause-files g c = no_catalog_is _
