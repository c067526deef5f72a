use Rattle.std.proofs.Common.{sym, ◌∙◌}
use Rattle.idalloc.proofs.NumberLemmas.{contains-numbers}
use Rattle.idalloc.proofs.id_alloc.IdAlloc.alloc.Goals as goal

pub take-requires-clause-clear : goal.take-requires-clause-clear
take-requires-clause-clear c = sym (contains-numbers c.self.inside.bitmaps c.in-Some.unused.number) ∙ c.in-Some.ensures.0.unused
