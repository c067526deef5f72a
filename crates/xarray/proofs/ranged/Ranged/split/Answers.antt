use Rattle.std.proofs.Common.{◌-◌, ◌^◌, sym, ap, ◌∙◌}
use Rattle.std.specs.FinMap as map
use Rattle.xarray.specs.MarkedArray.{parts}
use Rattle.xarray.specs.View.{ranges_of}
use Rattle.xarray.proofs.CallLemmas.{on_err, same_now, same_ranged}
use Rattle.xarray.proofs.SplitLemmas.{whole_again, whole_order}
use Rattle.xarray.proofs.ranged.Ranged.split.Goals as goal

pub invariant_of-self : goal.invariant_of-self
invariant_of-self c = same_ranged c.self.inside.nodes c.self.invariant c.reserve_nodes.new.self c.reserve_nodes.ensures.entries

pub invariant_of-self-2 : goal.invariant_of-self-2
invariant_of-self-2 c = same_ranged c.self.inside.nodes c.self.invariant c.reserve_nodes.new.self c.reserve_nodes.ensures.entries

pub returns-in_err-reserve_nodes-clause-same : goal.returns-in_err-reserve_nodes-clause-same
returns-in_err-reserve_nodes-clause-same c = on_err _ c.from_residual.result (rw (c.self.view_is) at (same_now c.self.inside.nodes c.self.invariant c.reserve_nodes.new.self c.reserve_nodes.ensures.entries))

pub split_down-requires-clause-whole : goal.split_down-requires-clause-whole
split_down-requires-clause-whole c =
    let same = rw (c.self.view_is) at (same_now c.self.inside.nodes c.self.invariant c.reserve_nodes.new.self c.reserve_nodes.ensures.entries) in
    whole_again (ranges_of c.args.self.now) (ranges_of c.reserve_nodes.new.self) c.args.whole.first c.args.whole.order c.args.whole.level same c.requires.whole

pub returns-clause-splits : goal.returns-clause-splits
returns-clause-splits c = λ r is.
    let same = rw (c.self.view_is) at (same_now c.self.inside.nodes c.self.invariant c.reserve_nodes.new.self c.reserve_nodes.ensures.entries) in
    let order = whole_order (ranges_of c.args.self.now) c.args.whole.first c.args.whole.order c.args.whole.level c.requires.whole r is in
    c.split_down.ensures r (ap (λ m. map.get m c.args.whole.first) same ∙ is)
    ∙ ap (λ m. parts m c.args.whole.first c.args.order r (2 ^ (c.args.whole.order - c.args.order))) same
    ∙ ap (λ k. parts (ranges_of c.args.self.now) c.args.whole.first c.args.order r (2 ^ (k - c.args.order))) (sym order)
