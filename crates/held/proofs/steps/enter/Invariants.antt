use Rattle.trail.specs.Entries.{entry_with}
use Rattle.held.proofs.steps.enter.Given as goal

-- the entry that is added
abbrev pub ghosts-add : goal.ghosts-add
ghosts-add a = record { entry = entry_with a.entry.now a.bytes.now }
