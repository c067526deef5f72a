use Rattle.std.proofs.Common.{subst}
use Rattle.textline.specs.Lines.{Goes}
use Rattle.textline.proofs.LineLemmas.{map_some, keeps_on}
use Rattle.textline.proofs.lines.fetch_line.Goals as goal

pub returns-in-Ended-clause-fetched : goal.returns-in-Ended-clause-fetched
returns-in-Ended-clause-fetched g c = map_some _ _ _ c.looks.invariant.begun (λ bytes begun.
    subst (λ look. Goes c.args.most bytes look c.take_part.new.line.items (g.R.Read.remaining c.take_part.new.reader)) c.in-Ended.is (c.in_ok-look.ensures.goes bytes begun))

pub looks-preserved : goal.looks-preserved
looks-preserved g c = record {
  within = c.in_ok-look.ensures.within;
  begun = map_some _ _ _ c.looks.invariant.begun (λ bytes begun.
      subst (λ look. Goes c.args.most bytes look c.take_part.new.line.items (g.R.Read.remaining c.take_part.new.reader)) c.in-Part.is (c.in_ok-look.ensures.goes bytes begun));
  out = keeps_on _ _ _ c.looks.invariant.out c.flush_if.ensures.kept;
}
