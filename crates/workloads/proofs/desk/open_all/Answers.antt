use Rattle.std.proofs.Common.{subst, sym}
use Rattle.std.specs.Prelude.{All}
use Rattle.std.proofs.lemmas.List.Elements.{All-nil}
use Rattle.filesvc.specs.Service.{IsOpen}
use Rattle.workloads.proofs.desk.open_all.Goals as goal

pub loop-file-init : goal.loop-file-init
loop-file-init g c = subst (All (IsOpen c.loop.solo)) (sym c.new-handles.ensures.items) (All-nil (IsOpen c.loop.solo))

pub loop-2-init : goal.loop-2-init
loop-2-init g c = c.loop-file.invariant

pub open_one-requires-clause-before : goal.open_one-requires-clause-before
open_one-requires-clause-before g c = c.loop-2.invariant

pub loop-2-preserved : goal.loop-2-preserved
loop-2-preserved g c = c.open_one.ensures

pub loop-file-preserved : goal.loop-file-preserved
loop-file-preserved g c = c.loop-2.invariant

pub returns : goal.returns
returns g c = c.loop-file.invariant
