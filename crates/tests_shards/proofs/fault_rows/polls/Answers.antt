use Rattle.tests_shards.proofs.Told.{polled_came}
use Rattle.tests_shards.proofs.fault_rows.polls.Goals as goal

pub invariant_of-file : goal.invariant_of-file
invariant_of-file g c =
    let poll = c.poll_error.ensures in
    let named = g.B.ShardNaming in record {
      came = polled_came named.names named.shards c.args.file.now.handle c.poll_error.new.handle c.poll_error.result poll.absent poll.foreign
          poll.answers poll.same poll.polled c.args.file.now.came;
    }
