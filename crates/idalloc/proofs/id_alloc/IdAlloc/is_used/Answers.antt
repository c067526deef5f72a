use Rattle.std.proofs.Common.{sym, ap, ◌∙◌}
use Rattle.std.specs.FinSet as set
use Rattle.idalloc.specs.Ids.{Ids}
use Rattle.idalloc.proofs.NumberLemmas.{contains-numbers}
use Rattle.idalloc.proofs.id_alloc.IdAlloc.is_used.Goals as goal

pub returns : goal.returns
returns c = c.is_set.ensures ∙ sym (contains-numbers c.self.inside.bitmaps c.args.number) ∙ ap (λ (i : Ids). set.contains i.used c.args.number) c.self.view_is
