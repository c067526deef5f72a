use Rattle.errseq.proofs.Runs as runs
use Rattle.errseq.proofs.law.answers_as_recorded.Goals as goal

pub returns : goal.returns
returns c = runs.answers_as_recorded
