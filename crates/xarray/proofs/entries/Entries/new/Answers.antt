use Rattle.std.proofs.Common.{ap, sym, ◌∙◌, arith}
use Rattle.std.specs.Prelude.{map as map_list}
use Rattle.xarray.specs.MarkedArray.{found_of}
use Rattle.xarray.specs.View.{ranges_of}
use Rattle.xarray.specs.Walks.{kind_of, left}
use Rattle.xarray.proofs.WalkLemmas.{walk_from, walk_past}
use Rattle.xarray.proofs.entries.Entries.new.Goals.{then-from-to, else-from-to}
use Rattle.xarray.proofs.entries.Entries.new.Goals as goal

pub returns : goal.returns
returns c =
    let m = ranges_of c.args.ranged.now in
    elim c.if-from-to.branch [
      | then-from-to w ↦
          ap (λ next. left c.args.mark m next c.args.to) w.next-is ∙ sym (ap (map_list found_of) (walk_past (kind_of c.args.mark) m c.args.from c.args.to w.if-from-to.true))
      | else-from-to w ↦
          ap (λ next. left c.args.mark m next c.args.to) w.next-is
          ∙ ap (map_list found_of) (walk_from (kind_of c.args.mark) m c.args.from w.start.result c.args.to w.start.ensures.low (omega (arith, w.if-from-to.false)) w.start.ensures.reach)
    ]
