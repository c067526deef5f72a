use Rattle.std.proofs.Common.{◌∙◌, rules}
use Rattle.held.proofs.Seats.{goes_on}
use Rattle.shared.proofs.Closing.{one_more_over}
use Rattle.shared.proofs.Ending.{one_more_ended}
use Rattle.shared.proofs.Owning.{only_job_on}
use Rattle.shared.proofs.close.drain.Goals as goal

pub jobs-preserved : goal.jobs-preserved
jobs-preserved g c = record {
  worker = search (rules, c.take.ensures.pass, c.jobs.invariant.worker.named, c.jobs.invariant.worker.seated);
  goes = goes_on c.args.own.now.seat c.jobs.own.seat c.finish.new.seat c.jobs.invariant.goes c.finish.ensures.goes;
  only = only_job_on c.in-Some-take.job c.args.own.now.seat c.jobs.own.seat c.finish.new.seat c.jobs.invariant.only
      c.finish.ensures.only;
  ended = one_more_ended c.args.own.now c.jobs.own (record { seat = c.finish.new.seat; pass = c.take.new.pass })
      c.in-Some-take.job c.finish.ensures.ended.0 c.finish.ensures.ended.1 c.jobs.invariant.ended
      c.in-Some-take.ensures.answer.0 c.jobs.invariant.goes c.finish.ensures.goes c.finish.ensures.ended.2;
  over = one_more_over c.args.own.now c.jobs.own (record { seat = c.finish.new.seat; pass = c.take.new.pass })
      c.in-Some-take.job c.jobs.state.core.state c.finish.new.state.core.state c.jobs.invariant.over
      c.in-Some-take.ensures.answer.0 c.finish.ensures.others c.finish.ensures.over;
  pushed = c.take.ensures.pushed ∙ c.jobs.invariant.pushed;
  alone = c.take.ensures.alone ∙ c.jobs.invariant.alone;
}
