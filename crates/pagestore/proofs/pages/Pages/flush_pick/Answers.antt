use Rattle.std.proofs.Common.{◌∙◌}
use Rattle.std.specs.Prelude.{Some, None}
use Rattle.pagestore.proofs.FlushPicks.{flush_picked}
use Rattle.pagestore.proofs.pages.Pages.flush_pick.Goals as goal

pub returns-in_err-found-clause-pick : goal.returns-in_err-found-clause-pick
returns-in_err-found-clause-pick c =
    c.from_residual.ensures
    ∙ flush_picked c.self.inside.frames c.self.inside.uptodate.items c.self.inside.files.items c.self.inside.dirty
    c.self.invariant c.args.file c.args.self.now c.self.view_is c.requires c.index.result.now c.index.ensures None
    c.in_err-found.ensures.pick

pub returns-clause-pick : goal.returns-clause-pick
returns-clause-pick c = flush_picked c.self.inside.frames c.self.inside.uptodate.items c.self.inside.files.items
    c.self.inside.dirty c.self.invariant c.args.file c.args.self.now c.self.view_is c.requires c.index.result.now
    c.index.ensures (Some c.in_ok-found.found) c.in_ok-found.ensures.pick
