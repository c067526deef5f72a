use Rattle.xarray_trace.proofs.SplitLemmas.{ok_err, split_ok}
use Rattle.xarray_trace.proofs.array_call.split.Goals as goal

pub returns-in-Ok-clause-made : goal.returns-in-Ok-clause-made
returns-in-Ok-clause-made c = split_ok c.args.array.now c.nodes-nodes.ensures.shape c.args.index c.args.order c.min-order.result c.min-order.ensures c.split.new.self c.in-Ok.ensures.splits (λ none. ok_err _ _ (c.in-Ok.ensures.free none)) (λ first r is above. ok_err _ _ (c.in-Ok.ensures.order first r is above))
