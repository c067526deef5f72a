use Rattle.std.proofs.Common.{Some, ap, subst, ◌∙◌}
use Rattle.script.specs.Runs.{CommandGives, session_of_sizes}
use Rattle.script.proofs.CommandGiven.{configured, first_given, geometry_made}
use Rattle.script.proofs.run.begin.Goals as goal

pub returns-in-Config : goal.returns-in-Config
returns-in-Config g c =
    let sizes = geometry_made c.new-sizes.result c.in-Config.page c.in-Config.frames c.in-Config.dirty_limit c.in-Config.blocks (c.new-sizes.ensures.sizes, c.new-sizes.ensures.within, c.new-sizes.ensures.refused) in
    rw c.in-Config.is
    (configured c.args.number c.in-Config.page c.in-Config.frames c.in-Config.dirty_limit c.in-Config.blocks _ _ c.configure.result c.configure.new.session c.new-sizes.result sizes c.configure.ensures)

pub returns : goal.returns
returns g c =
    let before = g.W.Write.contents c.args.out.now.writer in
    let after = g.W.Write.contents c.obey-done.new.out.writer in
    first_given c.args.number c.args.command.now c.obey-done.result (Some c.obey-done.new.session) before after c.in_default.not-Config
    (subst (λ w. CommandGives (Some w) c.args.number c.args.command.now c.obey-done.result (Some c.obey-done.new.session) before after) (c.in_ok-first.ensures.fresh ∙ ap session_of_sizes c.default_geometry.ensures) c.obey-done.ensures)
