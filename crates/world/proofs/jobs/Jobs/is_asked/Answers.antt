use Rattle.std.proofs.Common.{ap, ◌∙◌, eqb, Some}
use Rattle.std.specs.Prelude.{◌&&◌}
use Rattle.std.specs.List.{list_any}
use Rattle.std.specs.FinMap as map
use Rattle.world.specs.declared.jobs.Flight.{Flight}
use Rattle.world.specs.Flights.{Jobs, is_asked, serial_of}
use Rattle.world.proofs.JobTable.{asked_table}
use Rattle.world.proofs.jobs.Jobs.is_asked.Goals as goal

pub returns : goal.returns
returns c =
    c.asked_in.ensures ∙ ap (list_any (λ (x : Flight). is_asked (Some x) && eqb (serial_of x) c.args.serial.0))
    c.deref.ensures.value
    ∙ asked_table c.self.inside.flights.items c.args.serial.0 c.self.invariant.0
    ∙ ap (λ (t : Jobs). is_asked (map.get t c.args.serial.0)) c.self.view_is
