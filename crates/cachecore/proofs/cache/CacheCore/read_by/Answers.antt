use Rattle.std.proofs.Common.{ap, subst, sym, option_map, ◌∙◌}
use Rattle.pc_types.specs.Spots.{Spot}
use Rattle.blockdev.specs.Jobs.{Task}
use Rattle.machine.specs.State.{State}
use Rattle.cachecore.specs.Replies.{IsFillJob}
use Rattle.cachecore.proofs.FillCalls.{fill_job}
use Rattle.cachecore.proofs.CoreViews.{state_is}
use Rattle.cachecore.proofs.cache.CacheCore.read_by.Goals as goal
use Rattle.cachecore.proofs.cache.CacheCore.read_by.Goals.{in-Ok, in-Err}

pub returns-clause-job : goal.returns-clause-job
returns-clause-job c = elim c.match-begin_read.branch [
  | in-Ok w ↦
      let begun = w.in-Ok.ensures.begun in
      let job : Task = w.new-job.result in
      subst (IsFillJob c.begin_read.new.self.state) (sym w.result-is)
      (fill_job c.args.self.now.state c.begin_read.new.self.state c.args.file.0 c.args.page.0 c.args.placed.block.0
      (ap (option_map (λ (x : Spot). x.block)) c.requires.reads.placed) begun.2 job
      (ap (λ (t : Task). t.serial) w.new-job.ensures ∙ begun.1)
      (ap (λ (t : Task). t.cache) w.new-job.ensures ∙ ap (λ (s : State). s.name) (state_is c.self.view_is))
      (ap (λ (t : Task). t.kind) w.new-job.ensures) (ap (λ (t : Task). t.block) w.new-job.ensures))
  | in-Err w ↦ subst (IsFillJob c.begin_read.new.self.state) (sym w.result-is) tt
]
