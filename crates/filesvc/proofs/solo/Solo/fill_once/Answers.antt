use Rattle.std.proofs.Common.{◌≡◌, ◌&&◌, ◌<◌, Some, None, eq-eqb, refl, sym, subst}
use Rattle.cachecore.specs.Wants.{demanded}
use Rattle.filesvc.specs.Attempts.{Helps}
use Rattle.filesvc.specs.Rooms.{Misses, need, needed, wanted}
use Rattle.filesvc.specs.Seen.{SoloSeen}
use Rattle.filesvc.proofs.Demands.{demanded_same}
use Rattle.filesvc.proofs.Fills.{fill_gains, frame_free}
use Rattle.filesvc.proofs.RoomLaws.{fill_faulted, fill_stopped}
use Rattle.filesvc.proofs.WorldLaws.{at_once_helps, at_once_service, fill_begins, reboarded, service_sound}
use Rattle.filesvc.proofs.solo.Solo.fill_once.Goals as goal
use Rattle.filesvc.proofs.solo.Solo.fill_once.Goals.{in-Failed, in-Refused}

pub invariant_of-self : goal.invariant_of-self
invariant_of-self g c =
    let s : SoloSeen = record { world = c.self.inside.world; errors = c.self.inside.recorder; attempts = 0 } in
    reboarded _ _ _ _ (at_once_service _ s _ _ _ _ _ _ (fill_begins c.args.demand.handle c.args.page) refl (c.fill_page.ensures.made c.self.inside.recorder) c.self.invariant)

pub invariant_of-self-2 : goal.invariant_of-self-2
invariant_of-self-2 g c =
    let s : SoloSeen = record { world = c.self.inside.world; errors = c.self.inside.recorder; attempts = 0 } in
    reboarded _ _ _ _ (at_once_service _ s _ _ _ _ _ _ (fill_begins c.args.demand.handle c.args.page) refl (c.fill_page.ensures.made c.self.inside.recorder) c.self.invariant)

pub returns-in_default : goal.returns-in_default
returns-in_default g c =
    let s : SoloSeen = record { world = c.self.inside.world; errors = c.self.inside.recorder; attempts = c.self.inside.attempts } in
    let new : SoloSeen = record { world = c.fill_page.new.world; errors = c.self.inside.recorder; attempts = c.self.inside.attempts } in
    let d = c.args.demand in
    let n = demanded s.world.core d in
    let m : Misses s d c.args.page = subst (λ x. Misses x d c.args.page) (sym c.self.view_is) c.requires.missed in
    let room : wanted s.world.core d ≡ None = subst (λ (x : SoloSeen). wanted x.world.core d ≡ None) (sym c.self.view_is) c.requires.room in
    let helps : Helps d.handle.0 (Some c.args.page) s new = at_once_helps d.handle.0 (Some c.args.page) _ _ _ _ _ _ _ _ (fill_begins d.handle c.args.page) (λ i. eq-eqb d.handle.0 d.handle.0 refl i && eq-eqb c.args.page.0 c.args.page.0 refl i) (c.fill_page.ensures.made c.self.inside.recorder) c.self.invariant.serving in
    rw (← c.self.view_is) (record {
      helps = helps;
      attempts = refl;
      refused = tt;
      gains = subst (λ k. need d.dirties new.world.core d.handle.0 d.offset k < needed s.world.core d)
          (sym (demanded_same s new d helps.serves))
          (fill_gains _ s _ c.self.invariant.serving d.dirties d.handle d.offset n c.args.page m room _ _ _ c.fill_page.ensures.rests.requests (c.fill_page.ensures.made c.self.inside.recorder) c.in_default.not-Refused c.in_default.not-Failed);
    })

pub returns-clause-helps : goal.returns-clause-helps
returns-clause-helps g c = rw (← c.self.view_is) (at_once_helps c.args.demand.handle.0 (Some c.args.page) _ _ _ _ _ _ _ _ (fill_begins c.args.demand.handle c.args.page) (λ i. eq-eqb c.args.demand.handle.0 c.args.demand.handle.0 refl i && eq-eqb c.args.page.0 c.args.page.0 refl i) (c.fill_page.ensures.made c.self.inside.recorder) c.self.invariant.serving)

pub returns-clause-refused : goal.returns-clause-refused
returns-clause-refused g c =
    let s : SoloSeen = record { world = c.self.inside.world; errors = c.self.inside.recorder; attempts = c.self.inside.attempts } in
    let d = c.args.demand in
    let m : Misses s d c.args.page = subst (λ x. Misses x d c.args.page) (sym c.self.view_is) c.requires.missed in
    let room : wanted s.world.core d ≡ None = subst (λ (x : SoloSeen). wanted x.world.core d ≡ None) (sym c.self.view_is) c.requires.room in
    elim c.match-fill_page.branch [
      | in-Failed w ↦ rw (w.why-is, ← c.self.view_is) (fill_faulted s _ _ d.handle c.args.page None w.in-Failed.code (w.in-Failed.ensures.made c.self.inside.recorder) (service_sound _ _ _ _ c.self.invariant.serving))
      | in-Refused w ↦ rw (w.why-is, ← c.self.view_is) (fill_stopped _ s _ _ _ d.handle c.args.page _ w.in-Refused.refusal c.self.invariant.serving (w.in-Refused.ensures.made c.self.inside.recorder) (frame_free _ s _ c.self.invariant.serving d.dirties d.handle d.offset (demanded s.world.core d) c.args.page m room))
    ]
