use Rattle.std.proofs.Common.{ap, ◌∙◌, count_by}
use Rattle.std.specs.FinMap as map
use Rattle.pc_types.specs.Kinds.{is_fill}
use Rattle.machine.specs.State.{Request}
use Rattle.writeback.specs.Flights.{Flights}
use Rattle.writeback.proofs.Counts.{fills_table}
use Rattle.writeback.proofs.requests.Requests.fills.Goals as goal

pub returns : goal.returns
returns c = c.self.invariant.1 ∙ fills_table c.self.inside.next c.self.inside.in_flight.items c.self.invariant.0
    ∙ ap (λ (t : Flights). count_by (λ (x : Request). is_fill x.kind) (map.values t.requests)) c.self.view_is
