use Rattle.std.proofs.Common.{rules, ◌≢◌, subst}
use Rattle.std.specs.Prelude.{ℕ}
use Rattle.atomic_table.specs.Table.{Me}
use Rattle.errboard.specs.declared.views.View.{View}
use Rattle.errboard.specs.Rules.{LookedFrom}
use Rattle.errboard.proofs.Polls.{polled_seen, polled_marked, tries}
use Rattle.errboard.proofs.steps.compare.Goals as goal

pub returns-then-is_seen-clause-polled : goal.returns-then-is_seen-clause-polled
returns-then-is_seen-clause-polled c =
    let differs : c.look-found.result ≢ c.args.since = search rules in
    let told = subst (λ (m : Me ℕ View). LookedFrom m.0 c.look-found.result c.look-found.new.seat.me.0) c.requires.pass c.look-found.ensures.looked.1 in
    polled_seen _ _ _ _ _ _ _ differs (search rules) c.look-found.ensures.looked.0 told

pub mark-next-requires-clause-found : goal.mark-next-requires-clause-found
mark-next-requires-clause-found c =
    let differs : c.look-found.result ≢ c.args.since = search rules in
    let told = subst (λ (m : Me ℕ View). LookedFrom m.0 c.look-found.result c.look-found.new.seat.me.0) c.requires.pass c.look-found.ensures.looked.1 in
    let t = tries _ _ _ _ _ _ _ differs (search rules) c.look-found.ensures.looked.0 told in
    (t.1, t.2)

pub returns-clause-polled : goal.returns-clause-polled
returns-clause-polled c =
    let differs : c.look-found.result ≢ c.args.since = search rules in
    let told = subst (λ (m : Me ℕ View). LookedFrom m.0 c.look-found.result c.look-found.new.seat.me.0) c.requires.pass c.look-found.ensures.looked.1 in
    let t = tries _ _ _ _ _ _ _ differs (search rules) c.look-found.ensures.looked.0 told in
    polled_marked _ _ _ _ _ _ _ _ _ _ differs t.3 t.4 t.5 c.mark-next.ensures.marked
