use Rattle.radix.proofs.RunLemmas.{run_kept, run_put}
use Rattle.tests_radix.proofs.tests.cut_in_two.Goals as goal

pub cut_run-requires-clause-run : goal.cut_run-requires-clause-run
cut_run-requires-clause-run g c = run_kept c.put_run.new.self c.set_bit.new.self 1 4 4 (λ other at. c.set_bit.ensures.puts.entries other at) (run_put _ c.put_run.new.self 1 4 4 9 c.put_run.ensures.puts)
