use Rattle.std.proofs.Common.{◌≡◌, ◌++◌, take, drop, map}
use Rattle.writeback.specs.Requests.{cut_entry}
use Rattle.writeback.proofs.requests.drop_in.Given as goal

abbrev pub invariant-loop-entry : goal.invariant-loop-entry
invariant-loop-entry l = l.in_flight ≡ map (cut_entry l.file.0 l.page.0) (take l.entry-index l.initial.in_flight)
    ++ drop l.entry-index l.initial.in_flight
