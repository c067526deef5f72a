use Rattle.std.specs.Prelude.{All}
use Rattle.filesvc.specs.Service.{IsOpen}
use Rattle.workloads.proofs.desk.open_all.Given as goal

abbrev pub invariant-loop-2 : goal.invariant-loop-2
invariant-loop-2 g l = All (IsOpen l.solo) l.handles.items

abbrev pub invariant-loop-file : goal.invariant-loop-file
invariant-loop-file g l = All (IsOpen l.solo) l.handles.items
