use Rattle.std.proofs.Common.{subst}
use Rattle.catalog.specs.Cataloged.{Cataloged, IsFor}
use Rattle.catalog.proofs.catalog.Catalog.is_for.Goals as goal

pub returns-then-self-page-clause-always : goal.returns-then-self-page-clause-always
returns-then-self-page-clause-always c = subst (λ (x : Cataloged). IsFor x c.args.geometry.now) c.self.view_is (c.self.invariant.files c.args.geometry.now)
