use Rattle.std.proofs.Common.{sym, subst}
use Rattle.pagestore.specs.Cuts.{RemovesFrom}
use Rattle.pagestore.specs.Store.{Store}
use Rattle.pagestore.proofs.Removals.{removing_begins, removing_ends, removing_goes_on, removing_here}
use Rattle.pagestore.proofs.pages.Pages.remove_from.Goals as goal

pub loop-found-init : goal.loop-found-init
loop-found-init c = removing_begins c.args.file c.args.page c.args.self.now

pub leave_one-requires : goal.leave_one-requires
leave_one-requires c = removing_here c.args.file c.args.page c.args.self.now c.loop-found.self c.loop-found.invariant
    c.requires

pub loop-found-preserved : goal.loop-found-preserved
loop-found-preserved c =
    (removing_goes_on c.args.file c.args.page c.args.self.now c.loop-found.self c.loop-found.invariant c.requires
    c.in-Some.found c.in-Some.ensures.found.0 c.in-Some.ensures.found.1 c.leave_one.new.self c.in-Some.ensures.page
    c.in-Some.ensures.fill).0

pub loop-found-smaller : goal.loop-found-smaller
loop-found-smaller c =
    (removing_goes_on c.args.file c.args.page c.args.self.now c.loop-found.self c.loop-found.invariant c.requires
    c.in-Some.found c.in-Some.ensures.found.0 c.in-Some.ensures.found.1 c.leave_one.new.self c.in-Some.ensures.page
    c.in-Some.ensures.fill).1

pub returns : goal.returns
returns c =
    subst (λ (s : Store). RemovesFrom c.args.self.now s c.args.file c.args.page) (sym c.in_default.ensures.same)
    (removing_ends c.args.file c.args.page c.args.self.now c.loop-found.self c.loop-found.invariant
    c.in_default.ensures.none c.in_default.ensures.unlisted)
