use Rattle.std.proofs.Common.{rules, vec_len, true≢false, ◌≡◌, ◌+◌, subst, sym, ◌∙◌}
use Rattle.std.specs.Prelude.{All}
use mathlib.Core.List.{IsPrefix}
use Rattle.held.specs.Views.{AreOfSeats, count_of}
use Rattle.held.specs.Shown.{HeldSeen, SeatSeen}
use Rattle.held.proofs.Closes.{not_refused}
use Rattle.deeds.specs.Shown.{calls_of, known}
use Rattle.tied.specs.Tied.{Tied, ended_count}
use Rattle.held.proofs.state.Held.close.Goals as goal

pub close-trail-requires-clause-came : goal.close-trail-requires-clause-came
close-trail-requires-clause-came g c = λ k d less.
    let i = c.self.invariant.0.1 in
    c.requires.came k d less (c.if-not-are_named.ensures.yes k d less ∙ c.name-name.ensures ∙ i.named) ∙ sym i.seats

pub returns-clause-refused : goal.returns-clause-refused
returns-clause-refused g c =
    let i = c.self.invariant.0.1 in
    let own : c.args.own.name ≡ c.self.inside.log.name = search rules in
    let count : vec_len c.args.seats + 1 ≡ c.made.result = search rules in (
      λ e. absurd (true≢false (sym e)),
      λ y. absurd (not_refused g.B.Naming.name g.B.Naming.seats c.args.seats.items c.args.own (vec_len c.args.seats + 1)
          (λ k d less. c.if-not-are_named.ensures.yes k d less ∙ c.name-name.ensures ∙ i.named) (own ∙ i.named)
          (count ∙ c.made.ensures ∙ i.counted) y),
    )

pub returns-clause-seats : goal.returns-clause-seats
returns-clause-seats g c =
    subst (λ (h : HeldSeen). All (λ (s : SeatSeen). IsPrefix s.list h.log.history
    × (s.count ≡ count_of s.number h.log.history)) c.args.seats.items) c.self.view_is c.close-trail.ensures.seats

pub returns-clause-tied : goal.returns-clause-tied
returns-clause-tied g c = λ tells.
    subst (λ (h : HeldSeen). Tied g.B.Naming.files g.B.Naming.sizes g.B.Naming.name g.B.Naming.blocks h.log.history c.self.inside.core.state
    c.self.inside.desk) c.self.view_is (c.self.invariant.1.tied tells)

pub returns-clause-counted : goal.returns-clause-counted
returns-clause-counted g c =
    subst (λ (h : HeldSeen). calls_of (known c.self.inside.desk) ≡ ended_count h.log.history) c.self.view_is
    c.self.invariant.1.counted

pub returns-clause-others : goal.returns-clause-others
returns-clause-others g c =
    subst (λ (h : HeldSeen). AreOfSeats g.B.Naming.seats h.log.history) c.self.view_is
    (subst (λ m. AreOfSeats m c.self.inside.log.history) c.self.invariant.0.1.counted c.close-trail.ensures.others)
