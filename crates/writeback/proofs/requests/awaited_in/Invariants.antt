use Rattle.std.proofs.Common.{◌≡◌, drop, find}
use Rattle.writeback.specs.declared.requests.Entry.{Entry}
use Rattle.machine.specs.State.{awaits}
use Rattle.writeback.specs.Requests.{entry_of}
use Rattle.writeback.specs.Slots.{sync_of}
use Rattle.writeback.proofs.requests.awaited_in.Given as goal

abbrev pub invariant-loop-entry : goal.invariant-loop-entry
invariant-loop-entry l = find (λ (e : Entry). awaits l.file.0 (sync_of l.progress) l.bound.0 (entry_of e))
    (drop l.entry-index l.in_flight) ≡ find (λ (e : Entry). awaits l.file.0 (sync_of l.progress) l.bound.0 (entry_of e))
    l.in_flight
