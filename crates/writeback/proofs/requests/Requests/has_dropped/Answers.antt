use Rattle.std.proofs.Common.{ap, ◌∙◌}
use Rattle.std.specs.List.{list_any}
use Rattle.std.specs.FinMap as map
use Rattle.machine.specs.State.{Request}
use Rattle.writeback.specs.declared.requests.Entry.{Entry}
use Rattle.writeback.specs.Flights.{Flights}
use Rattle.writeback.specs.Requests.{request_of}
use Rattle.writeback.proofs.TableLemmas.{any_table}
use Rattle.writeback.proofs.requests.Requests.has_dropped.Goals as goal

pub returns : goal.returns
returns c =
    c.dropped_in.ensures ∙ ap (list_any (λ (e : Entry). (request_of e.request).dropped)) c.deref.ensures.0
    ∙ any_table (λ (x : Request). x.dropped) c.self.inside.next c.self.inside.in_flight.items c.self.invariant.0
    ∙ ap (λ (t : Flights). list_any (λ (x : Request). x.dropped) (map.values t.requests)) c.self.view_is
