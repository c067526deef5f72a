use Rattle.deeds.proofs.steps.carry.Given as goal

-- what came of the call
abbrev pub ghosts-mark_done : goal.ghosts-mark_done
ghosts-mark_done g a = record { done = record { finished = a.finished.now; left = g.left } }
