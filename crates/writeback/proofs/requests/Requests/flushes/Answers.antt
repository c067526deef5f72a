use Rattle.std.proofs.Common.{◌≡◌, ap, ◌∙◌, arith, count_by, length}
use Rattle.std.specs.FinMap as map
use Rattle.std.proofs.lemmas.List.{length-map}
use Rattle.pc_types.specs.Kinds.{is_fill}
use Rattle.machine.specs.State.{Request}
use Rattle.writeback.specs.Flights.{Flights}
use Rattle.writeback.proofs.Counts.{fills_table, values_len, others}
use Rattle.writeback.proofs.requests.Requests.flushes.Goals as goal

fills_is : (c : goal.After-self) → c.self.inside.fills ≡ count_by (λ (x : Request). is_fill x.kind) (map.values c.args.self.now.requests)
fills_is c = c.self.invariant.1 ∙ fills_table c.self.inside.next c.self.inside.in_flight.items c.self.invariant.0
    ∙ ap (λ (t : Flights). count_by (λ (x : Request). is_fill x.kind) (map.values t.requests)) c.self.view_is

pub overflow_sub-result : goal.overflow_sub-result
overflow_sub-result c =
    omega (arith, fills_is c, c.len.ensures.value, others (map.values c.args.self.now.requests), values_len c.args.self.now.requests)

pub returns-clause-value : goal.returns-clause-value
returns-clause-value c =
    omega (arith, fills_is c, c.len.ensures.value, others (map.values c.args.self.now.requests), values_len c.args.self.now.requests)
