use Rattle.std.proofs.Common.{◌≡◌, ◌+◌, ◌-◌, ◌<◌, ◌≤◌, ◌^◌, IfSome, None}
use Rattle.xarray.specs.Standing.{IsOutside}
use Rattle.xarray.specs.View.{ranges_of}
use Rattle.xarray.specs.Walks.{IsAbove, IsAfter}
use Rattle.xarray.proofs.RetagLoop.{Goes}
use Rattle.xarray.proofs.array.XArray.retag.Given as goal

abbrev pub invariant-entries : goal.invariant-entries
invariant-entries l = record {
  idle : l.self-inside.ready ≡ None;
  goes : Goes (ranges_of l.self-inside.ranged) l.next l.fn.self.ranges l.from l.to l.mark l.other l.count;
  within : l.next ≤ l.to;
  outside : IsOutside (ranges_of l.self-inside.ranged) l.next;
  small : l.count < 2 ^ 64;
  after : IfSome l.slot (λ p. IsAfter l.self-inside.ranged p l.next);
  above : IfSome l.slot (λ p. IsAbove l.self-inside.ranged p l.above);
}

abbrev pub decreases-entries : goal.decreases-entries
decreases-entries l = l.to + 1 - l.next
