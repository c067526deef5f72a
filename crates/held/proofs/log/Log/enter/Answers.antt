use Rattle.std.proofs.Common.{rules, refl, length, List, subst, sym, ap, ◌∙◌}
use Rattle.trail.specs.Room.{fits}
use Rattle.held.specs.Shown.{LogSeen}
use Rattle.trail.specs.declared.entry.Entry.{Entry}
use Rattle.held.proofs.Keeps.{counted_on, keeper_again}
use Rattle.held.proofs.Rooms.{fits_entry}
use Rattle.held.proofs.log.Log.enter.Goals as goal

pub enter-requires-clause-len : goal.enter-requires-clause-len
enter-requires-clause-len g c = (
  c.count-place.ensures.length _ c.self.invariant.3,
  c.count-place.ensures.small (fits_entry (g.T.Trail.room c.self.inside.trail) (length c.args.bytes.now)
      (ap (λ (x : LogSeen). fits x.room 1 (length c.args.bytes.now)) c.self.view_is ∙ c.requires.room)),
)

pub invariant_of-self : goal.invariant_of-self
invariant_of-self g c =
    let i = c.self.invariant in
    let k = keeper_again _ _ _ _ i.2 c.enter.ensures.keeper.1 in (
      search rules,
      search rules,
      k.0,
      subst (λ (l : List Entry). g.T.Trail.records c.append.new.self l) (sym k.1) (c.append.ensures.records _ i.3),
      c.append.ensures.cache ∙ i.4,
    )

pub invariant_of-seat : goal.invariant_of-seat
invariant_of-seat g c = (
  search rules,
  search rules,
  search rules,
  counted_on _ _ _ _ _ c.seat.invariant.2 c.enter.ensures.seat.1 refl c.enter.ensures.counted,
)
