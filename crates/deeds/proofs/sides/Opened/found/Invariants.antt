use Rattle.deeds.proofs.sides.Opened.found.Given as goal

abbrev pub ghost-new : goal.ghost-new
ghost-new g a = g.found
