-- Inside this crate: the end of a request, of either kind.
use Rattle.std.specs.Prelude.{Result}
use Rattle.pc_types.specs.declared.kind.Kind.{Kind}
use Rattle.pc_types.specs.declared.kind.Kind.TheVariants.{Fill, Flush}
use Rattle.cachecore.specs.declared.answers.Ended.{Ended}
use Rattle.cachecore.specs.declared.answers.Ended.TheVariants as end
use Rattle.cachecore.specs.declared.answers.RefusedEnd.{RefusedEnd}
use Rattle.machine.specs.declared.event.Reply.{Reply}
use Rattle.cachecore.specs.Replies.{fill_ended, flush_ended}
use Rattle.world.specs.declared.answers.EndAnswer.{EndAnswer}
use Rattle.world.specs.declared.answers.EndAnswer.TheVariants as answer

-- the reply of an end
abbrev pub ended : Kind → Result Ended RefusedEnd → Reply
ended Fill e = fill_ended e
ended Flush e = flush_ended e

-- what it comes to
abbrev pub end_as : Kind → Ended → EndAnswer
end_as kind (end.Dropped b) = answer.Dropped
end_as Fill (end.Failed file code b) = answer.FillFailed code
end_as Flush (end.Failed file code b) = answer.FlushFailed file code
end_as Fill (end.Done b) = answer.Filled
end_as Flush (end.Done b) = answer.Written
