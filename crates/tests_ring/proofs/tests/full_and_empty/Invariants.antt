use Rattle.tests_ring.proofs.tests.full_and_empty.Given as goal

-- the deeds that were just opened
abbrev pub ghosts-filled : goal.ghosts-filled
ghosts-filled g a = record { deeds = a.opened.table; told = a.opened.told }
