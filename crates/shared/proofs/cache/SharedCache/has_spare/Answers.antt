use Rattle.std.proofs.Common.{rules}
use Rattle.shared.proofs.Finding.{finds_spare}
use Rattle.shared.proofs.cache.SharedCache.has_spare.Goals as goal

pub returns-clause-enough : goal.returns-clause-enough
returns-clause-enough g c =
    finds_spare g.B.Naming.files g.B.Naming.sizes g.B.Naming.name c.show.new.seat _ c.show.ensures.legal (search rules)
