use Rattle.std.proofs.Common.{refl, sym, subst}
use Rattle.cachecore.specs.Core.{Core}
use Rattle.machine.specs.declared.event.Event.TheVariants as event
use Rattle.cachecore.specs.Replies.{sync_dropped}
use Rattle.held.specs.Shown.{LogSeen}
use Rattle.held.proofs.Drops.{drop_back, drop_fits, drop_is_full}
use Rattle.held.proofs.Ends.{refused_by}
use Rattle.held.proofs.Holds.{Whole, bare, entry_fits, full_denied, none_needed}
use Rattle.held.proofs.Replies.{bare_drop, quiet_drop}
use Rattle.held.proofs.Tying.{on_quiet}
use Rattle.tied.specs.Tied.{IsTied}
use Rattle.held.proofs.state.Held.sync_drop.Goals as goal

pub invariant_of-self : goal.invariant_of-self
invariant_of-self g c =
    let x = refused_by c.sync_drop-answer.result c.is_err.result c.is_err.ensures.value c.if-lacks_entry.ensures.yes.0 in
    subst (λ (log : LogSeen). Whole _ _ _ _ _ _ _ (record { log = log; core = c.sync_drop-answer.new.self; errors = c.self.inside.recorder })
    × IsTied g.B.NamesDeeds.told g.B.Naming.files g.B.Naming.sizes g.B.Naming.name g.B.Naming.blocks log.history c.sync_drop-answer.new.self.state
    c.self.inside.desk) (sym c.full.ensures.same)
    (subst (λ (core : Core). Whole _ _ _ _ _ _ _ (record { log = c.self.inside.log; core = core; errors = c.self.inside.recorder })
    × IsTied g.B.NamesDeeds.told g.B.Naming.files g.B.Naming.sizes g.B.Naming.name g.B.Naming.blocks c.self.inside.log.history core.state
    c.self.inside.desk)
    (sym (drop_back c.self.inside.core c.sync_drop-answer.new.self c.args.sync c.sync_drop-answer.result
    c.sync_drop-answer.ensures.step c.sync_drop-answer.ensures.lists x.0 x.1)) c.self.invariant)

pub enter-slip-requires-clause-room : goal.enter-slip-requires-clause-room
enter-slip-requires-clause-room g c =
    entry_fits c.self.inside.log c.self.inside.core.state c.sync_drop-answer.new.self.state (event.SyncDrop c.args.sync)
    (sync_dropped c.sync_drop-answer.result) 0
    (drop_fits c.self.inside.log c.self.inside.core.state c.self.invariant.0.0 c.args.sync c.sync_drop-answer.result
    c.sync_drop-answer.new.self.state c.sync_drop-answer.ensures.step c.is_err.result c.has_room-is_room.result
    c.has_room-is_room.ensures c.is_err.ensures.value c.if-lacks_entry.ensures.no) c.sync_drop-answer.ensures.step
    (none_needed _)

pub invariant_of-self-in_err-slip : goal.invariant_of-self-in_err-slip
invariant_of-self-in_err-slip g c =
    let m =
    (bare _ _ _ _ _ _ _
    (record { log = c.self.inside.log; core = c.self.inside.core; errors = c.self.inside.recorder })
    (record { log = c.enter-slip.new.self; core = c.sync_drop-answer.new.self; errors = c.self.inside.recorder })
    c.args.seat.now c.enter-slip.new.seat c.enter-slip.result c.self.invariant.0
    (event.SyncDrop c.args.sync) (sync_dropped c.sync_drop-answer.result) c.of_sync_drop.result refl
    (bare_drop c.sync_drop-answer.result) (drop_fits c.self.inside.log c.self.inside.core.state c.self.invariant.0.0 c.args.sync c.sync_drop-answer.result
    c.sync_drop-answer.new.self.state c.sync_drop-answer.ensures.step c.is_err.result c.has_room-is_room.result
    c.has_room-is_room.ensures c.is_err.ensures.value c.if-lacks_entry.ensures.no)
    c.sync_drop-answer.ensures.step c.sync_drop-answer.ensures.lists c.of_sync_drop.ensures c.enter-slip.ensures.entered
    c.enter-slip.ensures.room refl) in
    (m.1, on_quiet m.0 c.self.invariant.0.0 c.self.invariant.1 (λ kind end same. absurd cc) (quiet_drop c.sync_drop-answer.result))

pub invariant_of-self-2 : goal.invariant_of-self-2
invariant_of-self-2 g c =
    let m =
    (bare _ _ _ _ _ _ _
    (record { log = c.self.inside.log; core = c.self.inside.core; errors = c.self.inside.recorder })
    (record { log = c.enter-slip.new.self; core = c.sync_drop-answer.new.self; errors = c.self.inside.recorder })
    c.args.seat.now c.enter-slip.new.seat c.enter-slip.result c.self.invariant.0
    (event.SyncDrop c.args.sync) (sync_dropped c.sync_drop-answer.result) c.of_sync_drop.result refl
    (bare_drop c.sync_drop-answer.result) (drop_fits c.self.inside.log c.self.inside.core.state c.self.invariant.0.0 c.args.sync c.sync_drop-answer.result
    c.sync_drop-answer.new.self.state c.sync_drop-answer.ensures.step c.is_err.result c.has_room-is_room.result
    c.has_room-is_room.ensures c.is_err.ensures.value c.if-lacks_entry.ensures.no)
    c.sync_drop-answer.ensures.step c.sync_drop-answer.ensures.lists c.of_sync_drop.ensures c.enter-slip.ensures.entered
    c.enter-slip.ensures.room refl) in
    (m.1, on_quiet m.0 c.self.invariant.0.0 c.self.invariant.1 (λ kind end same. absurd cc) (quiet_drop c.sync_drop-answer.result))

pub returns-then-lacks_entry-clause-denied : goal.returns-then-lacks_entry-clause-denied
returns-then-lacks_entry-clause-denied g c =
    let x = refused_by c.sync_drop-answer.result c.is_err.result c.is_err.ensures.value c.if-lacks_entry.ensures.yes.0 in
    let back = drop_back c.self.inside.core c.sync_drop-answer.new.self c.args.sync c.sync_drop-answer.result
    c.sync_drop-answer.ensures.step c.sync_drop-answer.ensures.lists x.0 x.1 in
    full_denied _ _ _ _ _ _ _ (event.SyncDrop c.args.sync)
    (record { log = c.self.inside.log; core = c.self.inside.core; errors = c.self.inside.recorder }) c.args.self.now
    (record { log = c.full.new.self; core = c.sync_drop-answer.new.self; errors = c.self.inside.recorder })
    c.args.seat.now c.full.new.seat c.full.result c.self.invariant.0 c.self.view_is
    (λ i. record { log = c.full.ensures.same i; core = back i; errors = c.self.inside.recorder })
    c.full.ensures.denied c.full.ensures.seen c.full.ensures.only
    (drop_is_full c.self.inside.log c.self.inside.core.state c.sync_drop-answer.new.self.state c.self.invariant.0.0
    c.args.sync c.sync_drop-answer.result c.sync_drop-answer.ensures.step c.has_room-is_room.result
    c.has_room-is_room.ensures x.0 x.1 c.if-lacks_entry.ensures.yes.1)
