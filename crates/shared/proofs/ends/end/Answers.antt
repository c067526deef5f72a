use Rattle.std.specs.Prelude.{Ok}
use Rattle.cachecore.specs.Replies.{end_of}
use Rattle.held.specs.Ends.{ended_as}
use Rattle.held.proofs.Seats.{goes_by}
use Rattle.shared.proofs.Closing.{others_made, over_made}
use Rattle.shared.proofs.Ending.{ends_told, of_request, replies}
use Rattle.shared.proofs.Making.{makes_by}
use Rattle.shared.proofs.Owning.{only_end}
use Rattle.shared.proofs.Settling.{only_ended}
use Rattle.shared.proofs.ends.end.Goals as goal

pub returns-clause-goes : goal.returns-clause-goes
returns-clause-goes g c = goes_by _ _ _ _ _ _ _ c.end-receipt.ensures.made

pub returns-clause-made : goal.returns-clause-made
returns-clause-made g c = (
  ended_as c.args.report.kind (Ok c.end-receipt.result.0),
  makes_by _ _ _ _ _ _ _ c.end-receipt.ensures.made,
  replies c.args.report.kind c.end-receipt.result.0,
  ends_told c.args.report.kind _ _ c.end-receipt.result.0 c.end-receipt.result.1 c.end-receipt.ensures.receipt,
)

-- the event is the end of whatever job was finished
pub returns-clause-only : goal.returns-clause-only
returns-clause-only g c job kind serial cache block =
    only_end job c.args.report.kind (end_of c.args.report) _ _ _ _ _ _ kind serial cache block c.end-receipt.ensures.made

-- and of the request that was
pub returns-clause-ends : goal.returns-clause-ends
returns-clause-ends g c = only_ended g.B.Naming.name c.args.report _ _ _ _ _ _ c.requires.cache c.end-receipt.ensures.made

-- no request of whatever job was finished is left, and none came back
pub returns-clause-over : goal.returns-clause-over
returns-clause-over g c job serial =
    over_made job c.args.report.kind (end_of c.args.report) _ _ _ _ _ _ (replies c.args.report.kind c.end-receipt.result.0) serial
    c.end-receipt.ensures.made

pub returns-clause-others : goal.returns-clause-others
returns-clause-others g c job over =
    others_made job c.args.report.kind (end_of c.args.report) _ _ _ _ _ _ c.end-receipt.ensures.made over

-- the receipt is of the request that was in flight
pub returns-clause-file : goal.returns-clause-file
returns-clause-file g c =
    of_request g.B.Naming.files g.B.Naming.sizes g.B.Naming.name c.args.report.serial _ _ _ _ _ _ c.core.ensures.named c.args.report.kind
    c.end-receipt.result.0 c.end-receipt.result.1 c.end-receipt.ensures.made c.end-receipt.ensures.receipt c.end-receipt.ensures.file
    c.end-receipt.ensures.failure
