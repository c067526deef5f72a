use Rattle.filesvc.proofs.Laws.{helps_refl}
use Rattle.filesvc.proofs.solo.Solo.flush_one.Goals as goal

pub returns-in_default-clause-helps : goal.returns-in_default-clause-helps
returns-in_default-clause-helps g c = λ k page. helps_refl c.args.self.now
