use Rattle.std.proofs.Common.{ap, ◌∙◌}
use Rattle.std.specs.List.{list_any}
use Rattle.std.specs.FinMap as map
use Rattle.writeback.specs.declared.requests.Entry.{Entry}
use Rattle.writeback.specs.Flights.{Flights}
use Rattle.machine.specs.State.{fills}
use Rattle.writeback.specs.Requests.{request_of}
use Rattle.writeback.proofs.TableLemmas.{any_table}
use Rattle.writeback.proofs.requests.Requests.is_filling.Goals as goal

pub returns : goal.returns
returns c =
    c.fills_in.ensures ∙ ap (list_any (λ (e : Entry). fills c.args.file.0 c.args.page.0 (request_of e.request)))
    c.deref.ensures.0
    ∙ any_table (fills c.args.file.0 c.args.page.0) c.self.inside.next c.self.inside.in_flight.items c.self.invariant.0
    ∙ ap (λ (t : Flights). list_any (fills c.args.file.0 c.args.page.0) (map.values t.requests)) c.self.view_is
