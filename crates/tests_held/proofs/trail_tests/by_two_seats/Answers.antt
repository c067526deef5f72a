use Rattle.std.proofs.Common.{◌≡◌, ◌∙◌}
use Rattle.std.specs.Prelude.{Some}
use Rattle.std.proofs.lemmas.List.Elements.{All-pop}
use Rattle.held.specs.Shown.{SeatSeen}
use Rattle.tests_held.proofs.trail_tests.by_two_seats.Goals as goal

pub closes_again-requires-clause-none : goal.closes_again-requires-clause-none
closes_again-requires-clause-none g c =
    let P : SeatSeen → Type 0 = λ s. s.table ≡ g.B.Naming.table in
    (All-pop P _ _ (Some c.in-Some.seat) c.in-Some.ensures.items c.requires.seats).0

pub closes_again-requires-clause-seats : goal.closes_again-requires-clause-seats
closes_again-requires-clause-seats g c =
    let P : SeatSeen → Type 0 = λ s. s.table ≡ g.B.Naming.table in
    let seat : P c.in-Some.seat = (All-pop P _ _ (Some c.in-Some.seat) c.in-Some.ensures.items c.requires.seats).1 in
    let kept = c.run-slips.ensures in
    (kept.1 ∙ seat, kept.0 ∙ c.requires.own)
