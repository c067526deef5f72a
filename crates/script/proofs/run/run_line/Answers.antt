use Rattle.std.proofs.Common.{sym, ◌∙◌}
use Rattle.script.proofs.CommandGiven.{line_given}
use Rattle.script.proofs.run.run_line.Goals as goal

pub returns-in-Ok : goal.returns-in-Ok
returns-in-Ok g c =
    line_given c.args.session.now c.args.number c.args.line.now c.in-Ok.command c.run_command.result c.run_command.new.session (g.W.Write.contents c.args.out.now.writer) (g.W.Write.contents c.run_command.new.out.writer)
    (sym c.is_blank.ensures ∙ c.if-is_blank.false) c.in-Ok.ensures.ok c.run_command.ensures
