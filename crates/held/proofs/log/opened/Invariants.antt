use Rattle.std.proofs.Common.{◌≡◌, [], vec_len}
use Rattle.std.specs.Arc.{arc_value}
use Rattle.held.specs.declared.views.View.TheVariants.{Keeper}
use Rattle.held.specs.Shown.{AreFresh}
use Rattle.held.specs.Steps.{IsAt}
use Rattle.held.proofs.log.opened.Given as goal

abbrev pub invariant-loop-number : goal.invariant-loop-number
invariant-loop-number l = record {
  at : IsAt (arc_value l.count).shared.table_id l.keeper;
  keeper : l.keeper.me ≡ (Keeper [] l.number, []);
  seats : (vec_len l.all ≡ l.number) × AreFresh l.keeper.table_id l.fn.name l.all.items;
}
