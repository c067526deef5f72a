use Rattle.std.proofs.Common.{List, ℕ, ◌<◌, sym, subst, length, is_ok, arith}
use Rattle.catalog.specs.Kept.{IsKept}
use Rattle.catalog.proofs.Keeping.{kept_pushed}
use Rattle.catalog.proofs.catalog.Catalog.add_file.Goals as goal

pub invariant_of-self : goal.invariant_of-self
invariant_of-self c =
    let s = c.self.inside in
    let room : length s.sizes.items < 64 = omega arith in
    subst (λ (xs : List ℕ). IsKept s.page s.count xs s.blocks) (sym c.push.ensures.items)
    (kept_pushed (is_ok c.push.result) s.page s.count s.sizes.items s.blocks c.args.size c.self.invariant room c.if-size-gt-MAX_FILE_SIZE.false)
