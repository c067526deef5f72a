use Rattle.std.proofs.Common.{sym, ap, subst, ◌∙◌, None}
use Rattle.idalloc.specs.Bitmaps.{Bitmaps, IsTidy, has_number}
use Rattle.idalloc.proofs.TidyLemmas.{removed, number_removed}
use Rattle.idalloc.proofs.changes.drop_idle.Goals as goal

pub returns-then-is_idle-clause-tidy : goal.returns-then-is_idle-clause-tidy
returns-then-is_idle-clause-tidy c = subst (λ (m : Bitmaps). IsTidy m None) (sym c.remove.ensures) (removed c.args.bitmaps.now c.args.index c.requires c.if-is_idle.ensures.0 c.if-is_idle.ensures.1)

pub returns-then-is_idle-clause-same : goal.returns-then-is_idle-clause-same
returns-then-is_idle-clause-same c = λ q. ap (λ (m : Bitmaps). has_number m q) c.remove.ensures ∙ number_removed c.args.bitmaps.now c.args.index c.if-is_idle.ensures.0 q
