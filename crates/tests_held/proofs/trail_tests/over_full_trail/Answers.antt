use Rattle.std.proofs.Common.{ap, refl, sym, ◌∙◌}
use Rattle.cachecore.specs.Core.{Core}
use Rattle.pc_types.specs.Limits.{Sizes}
use Rattle.held.proofs.Failures.{none_told}
use Rattle.machine.specs.Catalogs.{no_catalog}
use Rattle.machine.proofs.changes.Adopted.{no_catalog_is}
use Rattle.held.proofs.Rooms.{room_first}
use Rattle.tests_held.proofs.Firsts.{first_zeros, fresh_as, sizes_of}
use Rattle.tests_held.proofs.trail_tests.over_full_trail.Goals as goal

pub by_two_seats-requires-clause-seats : goal.by_two_seats-requires-clause-seats
by_two_seats-requires-clause-seats g c = λ k d lt. (c.in-Ok.ensures.seats.1 k d lt).0

pub by_two_seats-requires-clause-state : goal.by_two_seats-requires-clause-state
by_two_seats-requires-clause-state g c = record {
  named = refl;
  seats = refl;
  errors = refl;
  sized = refl;
  counted = refl;
  told = none_told no_catalog _ _ c.in-Ok.opened.core.state c.in-Ok.opened.errors (ap (λ (x : Core). x.state) c.in-Ok.ensures.core)
      c.in-Ok.ensures.board.1;
  room = room_first _ c.in-Ok.opened.log c.in-Ok.ensures.log.1 refl;
}

pub by_two_seats-requires-clause-fresh : goal.by_two_seats-requires-clause-fresh
by_two_seats-requires-clause-fresh g c = (
  c.in-Ok.ensures.log.1,
  fresh_as _ _ _ _ (ap (λ (x : Core). x.state) c.in-Ok.ensures.core) c.in-Ok.ensures.log.0,
)

pub by_two_seats-requires-clause-first : goal.by_two_seats-requires-clause-first
by_two_seats-requires-clause-first g c = λ tells.
    let asked = sizes_of c.new.result c.expect-geometry.result _ c.expect-geometry.ensures c.new.ensures.sizes in
    let sizes = ap (λ (x : Core). x.state.sizes) c.in-Ok.ensures.core ∙ asked in
    first_zeros _ _ _ (ap (λ (z : Sizes). z.page) sizes) (ap (λ (z : Sizes). z.blocks) sizes)
    c.opened_deeds-deeds.ensures.zeros

pub by_two_seats-requires-clause-files : goal.by_two_seats-requires-clause-files
by_two_seats-requires-clause-files g c = no_catalog_is _
