use Rattle.tests_ring.proofs.tests.between_two_threads.Given as goal

-- the deeds that were just opened
abbrev pub ghosts-filled : goal.ghosts-filled
ghosts-filled g a = record { deeds = a.opened.table; told = a.opened.told }
