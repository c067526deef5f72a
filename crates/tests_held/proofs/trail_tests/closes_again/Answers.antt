use Rattle.std.proofs.Common.{◌≡◌}
use Rattle.std.specs.Prelude.{All}
use Rattle.std.proofs.lemmas.List.Elements.{All-push, All-same}
use Rattle.held.specs.Shown.{SeatSeen}
use Rattle.tests_held.proofs.trail_tests.closes_again.Goals as goal

pub closes-requires-clause-seats : goal.closes-requires-clause-seats
closes-requires-clause-seats g c =
    let P : SeatSeen → Type 0 = λ s. s.table ≡ g.B.Naming.table in
    let e = c.in-Err.ensures.err in
    let all : All P c.in-Err.seats.items =
    All-same P c.in-Err.seats.items c.args.none.items (λ i. (e.2 i).items) c.requires.none in
    All-same P _ _ c.in-Ok.ensures.items (All-push P _ c.args.seat all c.requires.seats.0)

pub closes-requires-in-Err-push-clause-seats : goal.closes-requires-in-Err-push-clause-seats
closes-requires-in-Err-push-clause-seats g c =
    let P : SeatSeen → Type 0 = λ s. s.table ≡ g.B.Naming.table in
    let e = c.in-Err.ensures.err in
    let all : All P c.in-Err.seats.items =
    All-same P c.in-Err.seats.items c.args.none.items (λ i. (e.2 i).items) c.requires.none in
    All-same P _ _ c.in-Err-push.ensures.items all
