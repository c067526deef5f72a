use Rattle.std.proofs.Common.{◌*◌, ◌/◌, ◌%◌, ◌^◌, refl, sym, arith}
use Rattle.xarray.proofs.CallLemmas.{on_err, one_span, put_clear, put_free, put_now, put_ranged, same_now, same_ranged}
use Rattle.xarray.proofs.SpanLemmas.{within}
use Rattle.xarray.proofs.ranged.Ranged.put.Goals as goal

pub invariant_of-self : goal.invariant_of-self
invariant_of-self c = same_ranged c.self.inside.nodes c.self.invariant c.reserve_path.new.self c.reserve_path.ensures.entries

pub returns-in_err-reserve_path-clause-same : goal.returns-in_err-reserve_path-clause-same
returns-in_err-reserve_path-clause-same c = on_err _ c.from_residual.result (rw (c.self.view_is) at (same_now c.self.inside.nodes c.self.invariant c.reserve_path.new.self c.reserve_path.ensures.entries))

pub put_run-requires-clause-within : goal.put_run-requires-clause-within
put_run-requires-clause-within c = omega (arith, one_span c.args.order, within c.args.index c.args.order c.requires.aligned)

pub put_run-requires-clause-clear : goal.put_run-requires-clause-clear
put_run-requires-clause-clear c = put_clear c.self.inside.nodes c.self.invariant c.reserve_path.new.self c.reserve_path.new.self c.args.index c.args.order c.args.value (c.args.order / 6) (1 * 2 ^ (c.args.order % 6) % 2 ^ 64) c.reserve_path.ensures.entries c.requires.order c.requires.aligned c.requires.value (omega (arith, c.ranges.index.fits)) (rw (sym c.self.view_is) at c.requires.free)

pub put_run-requires-clause-free : goal.put_run-requires-clause-free
put_run-requires-clause-free c = put_free c.self.inside.nodes c.self.invariant c.reserve_path.new.self c.reserve_path.new.self c.args.index c.args.order c.args.value (c.args.order / 6) (1 * 2 ^ (c.args.order % 6) % 2 ^ 64) c.reserve_path.ensures.entries c.requires.order c.requires.aligned c.requires.value (omega (arith, c.ranges.index.fits)) (rw (sym c.self.view_is) at c.requires.free)

pub invariant_of-self-2 : goal.invariant_of-self-2
invariant_of-self-2 c = put_ranged c.self.inside.nodes c.self.invariant c.reserve_path.new.self c.put_run.new.self c.args.index c.args.order c.args.value (c.args.order / 6) (1 * 2 ^ (c.args.order % 6) % 2 ^ 64) c.reserve_path.ensures.entries c.requires.order c.requires.aligned c.requires.value (omega (arith, c.ranges.index.fits)) (rw (sym c.self.view_is) at c.requires.free) refl (one_span c.args.order) c.put_run.ensures.puts c.put_run.ensures.unmarked

pub returns-clause-puts : goal.returns-clause-puts
returns-clause-puts c = rw (c.self.view_is) at (put_now c.self.inside.nodes c.self.invariant c.reserve_path.new.self c.put_run.new.self c.args.index c.args.order c.args.value (c.args.order / 6) (1 * 2 ^ (c.args.order % 6) % 2 ^ 64) c.reserve_path.ensures.entries c.requires.order c.requires.aligned c.requires.value (omega (arith, c.ranges.index.fits)) (rw (sym c.self.view_is) at c.requires.free) refl (one_span c.args.order) c.put_run.ensures.puts c.put_run.ensures.unmarked)
