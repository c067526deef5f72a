use Rattle.std.proofs.Common.{ap, ◌∙◌}
use Rattle.std.specs.FinMap as map
use Rattle.writeback.specs.Flights.{Flights}
use Rattle.writeback.proofs.TableLemmas.{len_table}
use Rattle.writeback.proofs.requests.Requests.len.Goals as goal

pub returns-clause-value : goal.returns-clause-value
returns-clause-value c = c.len.ensures.value ∙ len_table c.self.inside.next c.self.inside.in_flight.items c.self.invariant.0
    ∙ ap (λ (t : Flights). map.len t.requests) c.self.view_is
