use Rattle.std.proofs.Common.{true, false, sym, ap, ◌∙◌, ◌+◌}
use Rattle.machine.specs.PageLists.{accessed}
use Rattle.pagestore.specs.Store.{Store, with_lists}
use Rattle.pagestore.proofs.Accesses.{flagged_next}
use Rattle.pagestore.proofs.pages.Pages.access_cached.Goals as goal
use Rattle.pagestore.proofs.pages.Pages.access_cached.Goals.{then-cached-at, else-cached-at}

pub loop-at-preserved : goal.loop-at-preserved
loop-at-preserved c =
    let old = c.args.self.now in
    let f = c.args.file in
    let at = c.loop-at.at in
    elim c.if-cached-at.branch [
      | then-cached-at w ↦
          w.self-is ∙ w.access.ensures
          ∙ ap (λ (s : Store). with_lists s (accessed f (c.args.first + at) s.lists)) c.loop-at.invariant
          ∙ ap (with_lists old) (sym (flagged_next f c.args.first at c.args.cached.now old.lists c.loop-at-test.true
          true w.if-cached-at.true))
      | else-cached-at w ↦
          w.self-is ∙ c.loop-at.invariant
          ∙ ap (with_lists old) (sym (flagged_next f c.args.first at c.args.cached.now old.lists c.loop-at-test.true
          false w.if-cached-at.false))
    ]
