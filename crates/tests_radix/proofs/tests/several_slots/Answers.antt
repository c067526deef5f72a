use Rattle.std.proofs.Common.{◌≡◌, Some, ◌∙◌}
use Rattle.radix.specs.declared.entry.Entry.TheVariants.{Leaf}
use Rattle.radix.specs.Entries.{entry_at}
use Rattle.radix.proofs.RunLemmas.{run_kept}
use Rattle.tests_radix.proofs.tests.several_slots.Goals as goal

pub get_bit-requires-clause-leaf : goal.get_bit-requires-clause-leaf
get_bit-requires-clause-leaf g c = let e : entry_at c.set_bit.new.self 1 4 ≡ Some (Leaf 9) = c.set_bit.ensures.puts.entries 1 4 ∙ c.put_run.ensures.puts.first in rw e tt

pub take_run-requires-clause-run : goal.take_run-requires-clause-run
take_run-requires-clause-run g c =
    let e : entry_at c.put_run.new.self 1 4 ≡ Some (Leaf 9) = c.put_run.ensures.puts.first in
    run_kept c.put_run.new.self c.set_bit.new.self 1 4 4 (λ other at. c.set_bit.ensures.puts.entries other at) (record { first = rw e tt; rest = c.put_run.ensures.puts.rest })
