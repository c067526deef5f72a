use Rattle.std.proofs.Common.{◌≡◌, false, inr, rules, true}
use Rattle.std.specs.Prelude.{is_some}
use Rattle.shared.proofs.Owning.{only_event}
use Rattle.shared.proofs.Syncing.{dropped_by, dropped_refused, gone_by}
use Rattle.shared.proofs.cache.SharedCache.give_up.Goals as goal

pub returns-in_default-clause-dropped : goal.returns-in_default-clause-dropped
returns-in_default-clause-dropped g c =
    dropped_by g.B.Naming.files g.B.Naming.sizes g.B.Naming.name c.args.sync _ _ _ _ _ c.args.denied c.in_default.ensures.made

pub returns-then-is_some-clause-dropped : goal.returns-then-is_some-clause-dropped
returns-then-is_some-clause-dropped g c =
    let is : is_some c.in-Err.other.slip ≡ true = search rules in
    dropped_refused g.B.Naming.whole g.B.Naming.files g.B.Naming.sizes g.B.Naming.name c.args.sync c.deref_mut.result.now c.sync_drop.new.self c.args.seat.now
    c.sync_drop.new.seat c.in-Err.other c.args.denied c.in-Err.ensures.denied is

-- the seat saw that the sync is in progress no longer
pub returns-clause-dropped : goal.returns-clause-dropped
returns-clause-dropped g c =
    let none : is_some c.in-Err.other.slip ≡ false = search rules in
    inr (
      c.without_slip.ensures,
      gone_by g.B.Naming.files g.B.Naming.sizes g.B.Naming.name g.B.Naming.whole c.args.sync c.deref_mut.result.now c.sync_drop.new.self c.args.seat.now c.sync_drop.new.seat
          c.in-Err.other c.in-Err.ensures.denied none c.in-Err.ensures.in_progress,
    )

pub returns-in_default-clause-only : goal.returns-in_default-clause-only
returns-in_default-clause-only g c = only_event _ _ _ _ _ _ _ c.in_default.ensures.made tt
