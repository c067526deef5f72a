use Rattle.deeds.proofs.steps.open.Given as goal

-- the device as it is found
abbrev pub ghosts-learn : goal.ghosts-learn
ghosts-learn g a = record { told = g.found.0; blocks = g.found.1 }
