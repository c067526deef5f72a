use Rattle.std.proofs.Common.{refl}
use Rattle.filesvc.specs.Seen.{SoloSeen}
use Rattle.filesvc.proofs.RoomLaws.{at_once_flush}
use Rattle.filesvc.proofs.WorldLaws.{at_once_helps, at_once_service, flush_begins, reboarded}
use Rattle.filesvc.proofs.solo.Solo.flush_file.Goals as goal

pub invariant_of-self : goal.invariant_of-self
invariant_of-self g c =
    let s : SoloSeen = record { world = c.self.inside.world; errors = c.self.inside.recorder; attempts = 0 } in
    reboarded _ _ _ _ (at_once_service _ s _ _ _ _ _ _ (flush_begins c.args.file) refl c.flush_page.ensures.made c.self.invariant)

pub returns-clause-helps : goal.returns-clause-helps
returns-clause-helps g c = rw (← c.self.view_is) (λ k page. at_once_helps k page _ _ _ _ _ _ _ _ (flush_begins c.args.file) refl c.flush_page.ensures.made c.self.invariant.serving)

pub returns-clause-flush : goal.returns-clause-flush
returns-clause-flush g c = rw (← c.self.view_is) (at_once_flush _ (record { world = c.self.inside.world; errors = c.self.inside.recorder; attempts = c.self.inside.attempts }) _ _ _ c.args.file _ c.flush_page.ensures.made c.self.invariant.serving)
