use Rattle.std.proofs.Common.{◌≡◌, true, false, ℕ, List, [], length, ap, refl, sym, ◌∙◌}
use Rattle.std.proofs.lemmas.List.{length-replicate}
use Rattle.cachecore.specs.Core.{Core}
use Rattle.held.proofs.Failures.{none_told}
use Rattle.machine.specs.Catalogs.{no_catalog}
use Rattle.machine.proofs.changes.Adopted.{no_catalog_is}
use Rattle.held.proofs.Rooms.{room_first}
use Rattle.bench_threads.proofs.holds.time_held.Goals as goal

pub time_named-requires-clause-state : goal.time_named-requires-clause-state
time_named-requires-clause-state g c = record {
  named = refl;
  seats = refl;
  errors = refl;
  sized = refl;
  counted = refl;
  told = none_told no_catalog _ _ c.in-Ok.opened.core.state c.in-Ok.opened.errors (ap (λ (x : Core). x.state) c.in-Ok.ensures.core)
      c.in-Ok.ensures.board.1;
  room = room_first _ c.in-Ok.opened.log c.in-Ok.ensures.log.1 refl;
}

pub time_named-requires-clause-count : goal.time_named-requires-clause-count
time_named-requires-clause-count g c =
    let many = length-replicate {A = List ℕ} 1024 [] in
    ap length c.in_ok-deeds.ensures.1 ∙ many ∙ sym c.in_ok-geometry.ensures
    ∙ sym (ap (λ (x : Core). x.state.sizes.blocks) c.in-Ok.ensures.core)

pub time_named-requires-clause-first : goal.time_named-requires-clause-first
time_named-requires-clause-first g c tells = absurd (let k : false ≡ true = sym c.in_ok-deeds.ensures.0 ∙ tells in cc)

pub time_named-requires-clause-files : goal.time_named-requires-clause-files
time_named-requires-clause-files g c = no_catalog_is _
