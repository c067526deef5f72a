use Rattle.std.proofs.Common.{◌/◌, ◌*◌, ◌%◌, ◌^◌, sym}
use Rattle.xarray.specs.View.{ranges_of}
use Rattle.xarray.proofs.RangeLemmas.{erased-none}
use Rattle.xarray.proofs.CallLemmas.{as_cleared, erased_now, erased_ranged, spot_within}
use Rattle.xarray.proofs.ranged.Ranged.take.Goals as goal

pub returns-in_default-clause-takes : goal.returns-in_default-clause-takes
returns-in_default-clause-takes c = sym (erased-none (ranges_of c.args.self.now) c.args.index c.in_default.ensures.spot)

pub clear_run-requires-clause-within : goal.clear_run-requires-clause-within
clear_run-requires-clause-within c = spot_within c.self.inside.nodes c.self.invariant c.args.index c.in-Some.spot.first c.in-Some.spot.level c.in-Some.spot.value (rw (sym c.self.view_is) at c.in-Some.ensures.spot) c.order_of.result (c.order_of.ensures c.in-Some.ensures.spot.range c.in-Some.ensures.spot.there)

pub invariant_of-self : goal.invariant_of-self
invariant_of-self c = erased_ranged c.self.inside.nodes c.self.invariant c.args.index c.in-Some.spot.first c.in-Some.spot.level c.in-Some.spot.value (rw (sym c.self.view_is) at c.in-Some.ensures.spot) c.clear_bit.new.self c.clear_bit-2.new.self c.clear_bit-3.new.self c.clear.new.self c.order_of.result (c.order_of.ensures c.in-Some.ensures.spot.range c.in-Some.ensures.spot.there) c.clear_bit.ensures.puts c.clear_bit-2.ensures.puts c.clear_bit-3.ensures.puts (as_cleared c.clear_bit-3.new.self c.clear.new.self c.in-Some.spot.level (c.in-Some.spot.first / 64 ^ c.in-Some.spot.level) (1 * 2 ^ (c.order_of.result % 6) % 2 ^ 64) c.if-span-eq1.true c.clear.ensures)

pub invariant_of-self-else-span-eq1 : goal.invariant_of-self-else-span-eq1
invariant_of-self-else-span-eq1 c = erased_ranged c.self.inside.nodes c.self.invariant c.args.index c.in-Some.spot.first c.in-Some.spot.level c.in-Some.spot.value (rw (sym c.self.view_is) at c.in-Some.ensures.spot) c.clear_bit.new.self c.clear_bit-2.new.self c.clear_bit-3.new.self c.clear_run.new.self c.order_of.result (c.order_of.ensures c.in-Some.ensures.spot.range c.in-Some.ensures.spot.there) c.clear_bit.ensures.puts c.clear_bit-2.ensures.puts c.clear_bit-3.ensures.puts c.clear_run.ensures

pub returns-then-span-eq1-clause-takes : goal.returns-then-span-eq1-clause-takes
returns-then-span-eq1-clause-takes c = rw (c.self.view_is) at (erased_now c.self.inside.nodes c.self.invariant c.args.index c.in-Some.spot.first c.in-Some.spot.level c.in-Some.spot.value (rw (sym c.self.view_is) at c.in-Some.ensures.spot) c.clear_bit.new.self c.clear_bit-2.new.self c.clear_bit-3.new.self c.clear.new.self c.order_of.result (c.order_of.ensures c.in-Some.ensures.spot.range c.in-Some.ensures.spot.there) c.clear_bit.ensures.puts c.clear_bit-2.ensures.puts c.clear_bit-3.ensures.puts (as_cleared c.clear_bit-3.new.self c.clear.new.self c.in-Some.spot.level (c.in-Some.spot.first / 64 ^ c.in-Some.spot.level) (1 * 2 ^ (c.order_of.result % 6) % 2 ^ 64) c.if-span-eq1.true c.clear.ensures))

pub returns-else-span-eq1-clause-takes : goal.returns-else-span-eq1-clause-takes
returns-else-span-eq1-clause-takes c = rw (c.self.view_is) at (erased_now c.self.inside.nodes c.self.invariant c.args.index c.in-Some.spot.first c.in-Some.spot.level c.in-Some.spot.value (rw (sym c.self.view_is) at c.in-Some.ensures.spot) c.clear_bit.new.self c.clear_bit-2.new.self c.clear_bit-3.new.self c.clear_run.new.self c.order_of.result (c.order_of.ensures c.in-Some.ensures.spot.range c.in-Some.ensures.spot.there) c.clear_bit.ensures.puts c.clear_bit-2.ensures.puts c.clear_bit-3.ensures.puts c.clear_run.ensures)
