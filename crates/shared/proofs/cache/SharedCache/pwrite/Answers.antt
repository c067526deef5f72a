use Rattle.std.proofs.Common.{◌∙◌, sym}
use Rattle.machine.specs.declared.event.Event.TheVariants as event
use Rattle.shared.proofs.Wanting.{short_admitted}
use Rattle.shared.proofs.cache.SharedCache.pwrite.Goals as goal

pub returns-in-Err-clause-wanting : goal.returns-in-Err-clause-wanting
returns-in-Err-clause-wanting g c =
    short_admitted (event.Write c.args.handle.now.number c.args.offset c.args.bytes.now) c.args.seat.now c.args.seat.now
    c.args.self.now.name c.args.seat.now.name c.args.handle.now.cache c.in-Err.refusal c.without_slip.result
    (sym c.admits.ensures ∙ c.in-Err.is) c.without_slip.ensures
