use Rattle.filesvc.proofs.Laws.{serves_trans}
use Rattle.filesvc.proofs.solo.Solo.sync_all.Goals as goal

pub returns-clause-serves : goal.returns-clause-serves
returns-clause-serves g c =
    serves_trans c.args.self.now c.write_all.new.self c.flush.new.self c.write_all.ensures.serves c.flush.ensures.serves
