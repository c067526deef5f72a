use Rattle.std.proofs.Common.{◌≡◌, List, subst, ap, ◌∙◌}
use Rattle.std.specs.Prelude.{All}
use mathlib.Core.List.{IsPrefix}
use Rattle.trail.specs.declared.entry.Entry.{Entry}
use Rattle.held.specs.Views.{AreOfSeats, count_of}
use Rattle.held.specs.Shown.{LogSeen, SeatSeen, all_of, made_of}
use Rattle.held.proofs.log.Log.close.Goals as goal

pub returns-clause-seats : goal.returns-clause-seats
returns-clause-seats g c =
    let all = ap (λ m. all_of m.0) c.settle_one.ensures.keeper.1 ∙ ap (λ (h : LogSeen). h.history) c.self.view_is in
    subst (λ (l : List Entry). All (λ (s : SeatSeen). IsPrefix s.list l × (s.count ≡ count_of s.number l))
    c.args.seats.items) all c.settle_all.ensures

pub returns-clause-own : goal.returns-clause-own
returns-clause-own g c =
    let all = ap (λ (h : LogSeen). h.history) c.self.view_is in
    subst (λ (l : List Entry). IsPrefix c.args.own.list l × (c.args.own.count ≡ count_of c.args.own.number l)) all
    c.settle_one.ensures.settled

pub returns-clause-others : goal.returns-clause-others
returns-clause-others g c =
    subst (λ (h : LogSeen). AreOfSeats h.made h.history) c.self.view_is
    (subst (λ m. AreOfSeats m (all_of c.self.inside.keeper.me.0)) (ap (λ m. made_of m.0) c.self.invariant.2)
    c.settle_one.ensures.seats)
