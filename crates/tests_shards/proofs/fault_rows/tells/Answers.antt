use Rattle.tests_shards.proofs.Told.{told_came}
use Rattle.tests_shards.proofs.fault_rows.tells.Goals as goal

pub invariant_of-file : goal.invariant_of-file
invariant_of-file g c =
    let tell = c.tell_error.ensures in
    let named = g.B.ShardNaming in record {
      came = told_came named.names named.shards c.args.file.now.handle c.tell_error.new.handle c.args.failed.now _ c.tell_error.result
          tell.absent tell.foreign tell.other tell.told c.args.file.now.came;
    }
