use Rattle.std.proofs.Common.{sym, ap, ◌∙◌, arith}
use Rattle.std.specs.FinMap as map
use Rattle.catalog.specs.Cataloged.{Cataloged}
use Rattle.catalog.specs.Rows.{valid_on}
use Rattle.catalog.proofs.Keeping.{none_past}
use Rattle.catalog.proofs.catalog.Catalog.valid_on.Goals as goal

pub returns-then-page-gt-LAST_PAGE : goal.returns-then-page-gt-LAST_PAGE
returns-then-page-gt-LAST_PAGE c =
    let s = c.self.inside in
    let none = none_past s.page s.count s.sizes.items s.blocks c.self.invariant c.args.file.0 c.args.page (omega arith) in
    sym (ap (valid_on c.args.block) (sym (ap (λ (x : Cataloged). map.get x.files.spots (c.args.file.0, c.args.page)) c.self.view_is) ∙ none))
