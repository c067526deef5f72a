use Rattle.std.proofs.Common.{List, ap, subst, sym, vec_len, ◌∙◌}
use Rattle.atomic_table.specs.Seated.{TableId}
use Rattle.held.specs.Shown.{AreFresh, SeatSeen}
use Rattle.cachecore.specs.Core.{Core}
use Rattle.held.proofs.state.Opened.over.Goals as goal

pub open-requires-clause-fresh : goal.open-requires-clause-fresh
open-requires-clause-fresh g c =
    (c.args.geometry.now, c.args.catalog.files, c.in-Ok-over.ensures.catalog, ap (λ (x : Core). x.state) c.in-Ok-over.ensures.adopted)

pub returns-in-Ok-over-clause-seats : goal.returns-in-Ok-over-clause-seats
returns-in-Ok-over-clause-seats g c =
    let same = c.open.ensures.others.1 in (
      ap vec_len same ∙ c.in-Ok.ensures.seats.0,
      subst (λ (l : List SeatSeen). AreFresh c.open.result.0.log.table c.args.name l) (sym (ap (λ v. v.items) same))
          (subst (λ (t : TableId). AreFresh t c.args.name c.in-Ok.beside.all.items) (sym c.open.ensures.table) c.in-Ok.ensures.seats.1),
    )
