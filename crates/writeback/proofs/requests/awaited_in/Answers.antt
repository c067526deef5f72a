use Rattle.std.proofs.Common.{sym, ◌∙◌, refl}
use Rattle.writeback.specs.declared.requests.Entry.{Entry}
use Rattle.machine.specs.State.{awaits}
use Rattle.writeback.specs.Requests.{entry_of}
use Rattle.writeback.specs.Slots.{sync_of}
use Rattle.writeback.proofs.Finds.{find_here, find_next, find_end}
use Rattle.writeback.proofs.requests.awaited_in.Goals as goal

pub loop-entry-preserved : goal.loop-entry-preserved
loop-entry-preserved c =
    find_next (λ (e : Entry). awaits c.args.file.0 (sync_of c.args.progress.now) c.args.bound.0 (entry_of e))
    c.args.in_flight.now c.loop-entry.entry-index _ _ c.loop-entry-test.true refl
    (sym c.is_awaited.ensures ∙ c.if-is_awaited.false) c.loop-entry.invariant

pub returns-then-is_awaited : goal.returns-then-is_awaited
returns-then-is_awaited c =
    find_here (λ (e : Entry). awaits c.args.file.0 (sync_of c.args.progress.now) c.args.bound.0 (entry_of e))
    c.args.in_flight.now c.loop-entry.entry-index _ _ c.loop-entry-test.true refl
    (sym c.is_awaited.ensures ∙ c.if-is_awaited.true) c.loop-entry.invariant

pub returns : goal.returns
returns c =
    sym (find_end (λ (e : Entry). awaits c.args.file.0 (sync_of c.args.progress.now) c.args.bound.0 (entry_of e))
    c.args.in_flight.now c.loop-entry.entry-index c.loop-entry-test.false) ∙ c.loop-entry.invariant
