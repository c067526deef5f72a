use Rattle.std.proofs.Common.{◌≡◌, refl, subst, sym}
use Rattle.machine.specs.declared.event.Event.TheVariants as event
use Rattle.shared.specs.Polls.{IsSampled}
use Rattle.shared.proofs.Hearing.{just_by, level_new}
use Rattle.shared.proofs.files.open_heard.Goals as goal

pub returns-clause-hears : goal.returns-clause-hears
returns-clause-hears g c =
    just_by g.B.Naming.files g.B.Naming.sizes g.B.Naming.name (event.Open c.args.file) _ c.args.state.now c.open.new.self c.open.new.self
    c.args.seat.now c.open.new.seat _ c.level.new.pass c.in-Ok.ensures.made refl c.level.ensures.legal c.level.ensures.known

-- the pass is levelled as it was made
pub returns-clause-sampled : goal.returns-clause-sampled
returns-clause-sampled g c =
    let same : c.level.new.pass ≡ c.in-Ok.opened.1 =
    level_new c.args.state.now.errors c.open.new.self.errors c.args.file.0 c.in-Ok.opened.1 c.level.new.pass
    c.in-Ok.ensures.made.recorded c.in-Ok.ensures.pass.1 c.in-Ok.ensures.pass.2 c.level.ensures.pass c.level.ensures.recorded in
    subst IsSampled (sym same) c.in-Ok.ensures.sampled
