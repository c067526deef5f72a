use Rattle.std.proofs.Common.{ap, sym, ◌∙◌}
use Rattle.std.specs.FinMap as map
use Rattle.writeback.specs.Flights.{Flights}
use Rattle.writeback.proofs.TableLemmas.{none_above}
use Rattle.writeback.proofs.requests.Requests.next_serial.Goals as goal

pub returns-clause-above : goal.returns-clause-above
returns-clause-above c = λ t h. ap (λ (s : Flights). map.get s.requests t) (sym c.self.view_is)
    ∙ none_above c.self.inside.next c.self.inside.in_flight.items t
    (let e = ap (λ (s : Flights). s.next) c.self.view_is in rw e h) c.self.invariant.0
