use Rattle.std.proofs.Common.{Err, sym, ap, ◌∙◌}
use Rattle.std.specs.FinSet as set
use Rattle.std.proofs.lemmas.Result.{err_from_is_err_and}
use Rattle.idalloc.specs.Ids.{Ids}
use Rattle.idalloc.proofs.NumberLemmas.{contains-numbers}
use Rattle.idalloc.proofs.id_alloc.IdAlloc.free.Goals as goal

pub returns-in_err-give_back-clause-unused : goal.returns-in_err-give_back-clause-unused
returns-in_err-give_back-clause-unused c =
    let same = sym (contains-numbers c.self.inside.bitmaps c.args.number) ∙ ap (λ (i : Ids). set.contains i.used c.args.number) c.self.view_is in
    let told = c.in_err-give_back.ensures.unused in
    let p = err_from_is_err_and c.from_residual.result c.from_residual.ensures.1 in
    let is = p.1 ∙ ap Err p.2 in
    (λ refused. sym same ∙ told.0 (sym is ∙ refused), λ free. is ∙ told.1 (same ∙ free))

pub returns-clause-unused : goal.returns-clause-unused
returns-clause-unused c =
    let same = sym (contains-numbers c.self.inside.bitmaps c.args.number) ∙ ap (λ (i : Ids). set.contains i.used c.args.number) c.self.view_is in
    let told = c.in_ok-give_back.ensures.unused in
    (λ refused. sym same ∙ told.0 refused, λ free. told.1 (same ∙ free))
