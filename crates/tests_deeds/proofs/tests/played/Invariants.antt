use Rattle.tests_deeds.proofs.tests.played.Given as goal

-- the deeds that were just opened
abbrev pub ghosts-plays : goal.ghosts-plays
ghosts-plays g a = record { deeds = a.opened.table; told = a.opened.told }
