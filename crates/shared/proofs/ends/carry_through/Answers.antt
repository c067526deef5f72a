use Rattle.std.proofs.Common.{rules}
use Rattle.shared.proofs.Ending.{failed_of_request}
use Rattle.shared.proofs.Settling.{job_ended}
use Rattle.shared.proofs.ends.carry_through.Goals as goal

pub returns-clause-only : goal.returns-clause-only
returns-clause-only g c = c.end-receipt.ensures.only c.args.job c.carry_out-report.ensures.same.1 c.carry_out-report.ensures.same.0
    c.carry_out-report.ensures.same.2 c.carry_out-report.ensures.block

pub returns-clause-ends : goal.returns-clause-ends
returns-clause-ends g c =
    job_ended g.B.Naming.name c.args.job c.carry_out-report.result c.args.seat.now c.end-receipt.new.seat
    c.carry_out-report.ensures.same c.end-receipt.ensures.ends

pub returns-clause-file : goal.returns-clause-file
returns-clause-file g c =
    failed_of_request g.B.Naming.files g.B.Naming.sizes g.B.Naming.name c.args.name c.carry_out-report.result.serial c.serial-serial.result.0
    c.end-receipt.new.seat c.end-receipt.result.0 c.end-receipt.result.1 c.failure.result c.failure.ensures.is
    (search rules) c.end-receipt.ensures.file
