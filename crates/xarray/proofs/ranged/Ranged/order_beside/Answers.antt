use Rattle.std.proofs.Common.{sym, ap, ◌+◌, ◌%◌}
use Rattle.xarray.proofs.CallLemmas.{beside_ends}
use Rattle.xarray.proofs.ranged.Ranged.order_beside.Goals as goal

pub returns-then-begins : goal.returns-then-begins
returns-then-begins c = λ r there. beside_ends c.self.inside.nodes c.self.invariant c.args.first c.args.level (rw (sym c.self.view_is) at c.requires.there) r (rw (sym c.self.view_is) at there) (c.place_at.result % 64 + 1) (ap (λ z. z % 64 + 1) c.place_at.ensures) c.if-at-lt64.true (c.begins.ensures c.if-begins.true)
