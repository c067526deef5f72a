use Rattle.std.proofs.Common.{◌*◌, ◌/◌, ◌%◌, ◌^◌, sym}
use Rattle.xarray.proofs.CallLemmas.{one_span}
use Rattle.xarray.proofs.SplitLemmas.{cut_now, cut_ranged, whole_within}
use Rattle.xarray.proofs.ranged.Ranged.cut.Goals as goal

pub cut_run-requires-clause-within : goal.cut_run-requires-clause-within
cut_run-requires-clause-within c = whole_within c.self.inside.nodes c.self.invariant c.args.first c.args.from (c.args.from / 6) (rw (sym c.self.view_is) at c.requires.whole)

pub invariant_of-self : goal.invariant_of-self
invariant_of-self c = cut_ranged c.self.inside.nodes c.self.invariant c.args.first c.args.from (c.args.from / 6) (rw (sym c.self.view_is) at c.requires.whole) c.cut_run.new.self c.args.step (1 * 2 ^ (c.args.from % 6) % 2 ^ 64) c.requires.step (one_span c.args.from) c.cut_run.ensures.parts

pub returns-clause-parts : goal.returns-clause-parts
returns-clause-parts c = rw (c.self.view_is) at (cut_now c.self.inside.nodes c.self.invariant c.args.first c.args.from (c.args.from / 6) (rw (sym c.self.view_is) at c.requires.whole) c.cut_run.new.self c.args.step (1 * 2 ^ (c.args.from % 6) % 2 ^ 64) c.requires.step (one_span c.args.from) c.cut_run.ensures.parts)

pub returns-clause-room : goal.returns-clause-room
returns-clause-room c = rw (c.self.view_is) at c.cut_run.ensures.room
