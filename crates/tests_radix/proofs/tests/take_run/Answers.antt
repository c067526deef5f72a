use Rattle.std.proofs.Common.{◌/◌, ◌^◌, ◌∙◌}
use Rattle.radix.proofs.RunLemmas.{run_kept}
use Rattle.tests_radix.proofs.tests.take_run.Goals as goal

pub clear_run-requires-clause-run : goal.clear_run-requires-clause-run
clear_run-requires-clause-run c = run_kept c.args.nodes.now c.clear_bit-3.new.self 1 (c.args.index / 64 ^ 1) c.args.span (λ other at. c.clear_bit-3.ensures.puts.entries other at ∙ c.clear_bit-2.ensures.puts.entries other at ∙ c.clear_bit.ensures.puts.entries other at) c.requires.run
