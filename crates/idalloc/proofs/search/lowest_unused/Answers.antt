use Rattle.idalloc.proofs.SearchLemmas.{lowest_from_clear, used_below, used_up_to}
use Rattle.idalloc.proofs.search.lowest_unused.Goals as goal

pub returns-in_err-unused : goal.returns-in_err-unused
returns-in_err-unused c = rw c.from_residual.ensures (used_up_to c.args.bitmaps.now c.args.min c.args.max c.in_err-unused.ensures)

pub returns-then-unused-max : goal.returns-then-unused-max
returns-then-unused-max c = used_below c.args.bitmaps.now c.args.min c.args.max c.in_ok-unused.unused.number c.in_ok-unused.ensures.0 c.if-unused-max.true

pub returns : goal.returns
returns c = (lowest_from_clear c.args.bitmaps.now c.args.min c.args.max c.in_ok-unused.unused.number c.in_ok-unused.ensures.0 c.if-unused-max.false, c.in_ok-unused.ensures.1)
