use Rattle.bench_files.proofs.open_file.open_first.Goals as goal
use Rattle.bench_files.proofs.Opening.{opens}

pub returns : goal.returns
returns g c = opens _ _ _ _ _ (λ past. (c.open.ensures.none past).0) c.open.ensures.opened c.open.ensures.errors
