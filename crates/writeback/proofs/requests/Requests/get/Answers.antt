use Rattle.std.proofs.Common.{ap, ◌∙◌, eqb, List, option_map, find}
use Rattle.std.specs.FinMap as map
use Rattle.writeback.specs.declared.requests.Entry.{Entry}
use Rattle.writeback.specs.Flights.{Flights}
use Rattle.writeback.specs.Requests.{request_of}
use Rattle.writeback.proofs.TableLemmas.{get_table}
use Rattle.writeback.proofs.requests.Requests.get.Goals as goal

pub returns : goal.returns
returns c =
    ap (option_map request_of) (c.request_in.ensures
    ∙ ap (λ (l : List Entry). option_map (λ (e : Entry). e.request)
    (find (λ (e : Entry). eqb e.serial.0 c.args.serial.0) l)) c.deref.ensures.0)
    ∙ get_table c.self.inside.next c.self.inside.in_flight.items c.args.serial.0
    ∙ ap (λ (t : Flights). map.get t.requests c.args.serial.0) c.self.view_is
