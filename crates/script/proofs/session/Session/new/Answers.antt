use Rattle.std.proofs.Common.{ap, ◌∙◌}
use Rattle.script.specs.Telling.{told_of}
use Rattle.script.proofs.SessionLemmas.{session_begins, told_empty}
use Rattle.script.proofs.session.Session.new.Goals as goal

pub invariant_of-result : goal.invariant_of-result
invariant_of-result c = session_begins c.args.geometry.now c.in_ok-world.world c.in-Ok.board c.in-Ok.recorder c.in_ok-passes.passes c.in_ok-world.ensures.fresh c.in-Ok.ensures.board c.in_ok-passes.ensures

pub returns-clause-fresh : goal.returns-clause-fresh
returns-clause-fresh c = λ i. record { world = c.in_ok-world.ensures.fresh i; recorded = c.in-Ok.ensures.nothing i; told = (ap told_of c.in_ok-passes.ensures ∙ told_empty) i }
