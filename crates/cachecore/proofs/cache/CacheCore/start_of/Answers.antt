use Rattle.std.proofs.Common.{ap, refl, sym, subst, ◌∙◌}
use Rattle.cachecore.proofs.CoreViews.{state_is}
use Rattle.machine.specs.Sound.{Sound}
use Rattle.machine.specs.Tests.{is_full}
use Rattle.cachecore.proofs.FileKeeps.{page_here}
use Rattle.cachecore.proofs.SyncCalls.{next_full, next_startable, next_started}
use Rattle.cachecore.proofs.cache.CacheCore.start_of.Goals as goal

pub returns-then-is_full-clause-refused : goal.returns-then-is_full-clause-refused
returns-then-is_full-clause-refused c =
    let sound = subst Sound (state_is c.self.view_is) c.self.invariant.core.sound in (
      refl,
      next_full c.args.self.now.state sound c.args.sync c.args.file c.args.page c.requires.next
          (ap is_full (sym (state_is c.self.view_is)) ∙ sym c.is_full.ensures ∙ c.if-is_full.true),
    )

pub returns-clause-starts : goal.returns-clause-starts
returns-clause-starts c =
    let s = c.args.self.now.state in
    let sound = subst Sound (state_is c.self.view_is) c.self.invariant.core.sound in
    let room = ap is_full (sym (state_is c.self.view_is)) ∙ sym c.is_full.ensures ∙ c.if-is_full.false in
    let n = c.requires.next in (
      refl,
      record {
        can = record {
          here = page_here s c.args.file c.args.page.0 n.page n.cached;
          startable = next_startable s sound c.args.sync c.args.file c.args.page n room;
          below = c.requires.below;
          room = room;
        };
        sync = n.sync;
        there = n.is;
        begins = λ job mid started. next_started s sound c.args.sync c.args.file c.args.page n room job mid started _ refl;
      },
    )
