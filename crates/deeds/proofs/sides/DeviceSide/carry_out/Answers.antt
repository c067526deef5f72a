use Rattle.deeds.specs.Views.{given_in}
use Rattle.deeds.proofs.Carrying.{side_after}
use Rattle.deeds.proofs.sides.DeviceSide.carry_out.Goals as goal

pub returns-clause-contents : goal.returns-clause-contents
returns-clause-contents g c =
    (side_after g.B.NamesDeeds.told _ c.self.inside.pass.me c.note-deed.new.side.me c.args.self.now
    (given_in c.errand.inside.deed.me.0) c.errand.inside.job c.perform-finished.result c.args.device.now
    c.perform-finished.new.self c.self.view_is c.errand.invariant.2 c.note-deed.ensures.agreed c.perform-finished.ensures
    c.requires.contents c.note-deed.ensures.side).0

pub returns-clause-calls : goal.returns-clause-calls
returns-clause-calls g c =
    (side_after g.B.NamesDeeds.told _ c.self.inside.pass.me c.note-deed.new.side.me c.args.self.now
    (given_in c.errand.inside.deed.me.0) c.errand.inside.job c.perform-finished.result c.args.device.now
    c.perform-finished.new.self c.self.view_is c.errand.invariant.2 c.note-deed.ensures.agreed c.perform-finished.ensures
    c.requires.contents c.note-deed.ensures.side).1
