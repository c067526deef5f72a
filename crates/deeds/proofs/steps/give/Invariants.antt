use Rattle.deeds.specs.Views.{desk_in, home_in}
use Rattle.deeds.proofs.steps.give.Given as goal

-- what the deed is given for
abbrev pub ghosts-mark_out : goal.ghosts-mark_out
ghosts-mark_out a = record {
  given = record { task = a.job.now; before = home_in (desk_in a.desk.now.me.0).1 a.job.now.block };
}
