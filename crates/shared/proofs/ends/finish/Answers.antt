use Rattle.std.specs.Prelude.{is_some}
use Rattle.shared.proofs.Ending.{ends_by}
use Rattle.shared.proofs.ends.finish.Goals as goal

pub returns-clause-only : goal.returns-clause-only
returns-clause-only g c = c.end.ensures.only c.args.job c.carry_out-report.ensures.same.1 c.carry_out-report.ensures.same.0
    c.carry_out-report.ensures.same.2 c.carry_out-report.ensures.block

pub returns-clause-ended : goal.returns-clause-ended
returns-clause-ended g c = (
  c.end.result.0,
  is_some c.end.result.1,
  ends_by c.args.job c.carry_out-report.result c.args.seat.now c.end.new.seat c.end.result.0 (is_some c.end.result.1)
      c.carry_out-report.ensures.same.0 c.carry_out-report.ensures.same.1 c.carry_out-report.ensures.same.2
      c.carry_out-report.ensures.block c.end.ensures.made,
)
