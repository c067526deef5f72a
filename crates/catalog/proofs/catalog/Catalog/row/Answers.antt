use Rattle.std.proofs.Common.{sym, ap, subst, ◌≡◌, ◌<◌, ◌≤◌, ◌+◌, ◌^◌, arith, w64}
use Rattle.std.proofs.Math.Facts.{Fits-of_lt}
use Rattle.catalog.specs.Cataloged.{Cataloged}
use Rattle.catalog.specs.Rows.{IsRow}
use Rattle.catalog.proofs.RowLemmas.{rest_most, row_block, row_page}
use Rattle.catalog.proofs.catalog.Catalog.row.Goals as goal

pub overflow_add-whole : goal.overflow_add-whole
overflow_add-whole c =
    let s = c.self.inside in
    let row = subst (λ (x : Cataloged). IsRow x.page x.files.spots c.args.file.0 c.args.first.0 c.from-block.result c.loop-rest.whole c.loop-rest.rest) (sym c.self.view_is) c.loop-rest.invariant in
    let low : c.args.first.0 + c.loop-rest.whole < 2 ^ 36 = row_page s.page s.count s.sizes.items s.blocks c.self.invariant c.args.file.0 c.args.first.0 c.from-block.result c.loop-rest.whole c.loop-rest.rest row c.loop-rest-test.true in
    Fits-of_lt {w = w64} (omega arith)

pub overflow_add-first : goal.overflow_add-first
overflow_add-first c =
    let s = c.self.inside in
    let row = subst (λ (x : Cataloged). IsRow x.page x.files.spots c.args.file.0 c.args.first.0 c.from-block.result c.loop-rest.whole c.loop-rest.rest) (sym c.self.view_is) c.loop-rest.invariant in
    let low : c.args.first.0 + c.loop-rest.whole < 2 ^ 36 = row_page s.page s.count s.sizes.items s.blocks c.self.invariant c.args.file.0 c.args.first.0 c.from-block.result c.loop-rest.whole c.loop-rest.rest row c.loop-rest-test.true in
    Fits-of_lt {w = w64} (omega arith)

pub overflow_add-block : goal.overflow_add-block
overflow_add-block c =
    let s = c.self.inside in
    let row = subst (λ (x : Cataloged). IsRow x.page x.files.spots c.args.file.0 c.args.first.0 c.from-block.result c.loop-rest.whole c.loop-rest.rest) (sym c.self.view_is) c.loop-rest.invariant in
    let low : c.from-block.result + c.loop-rest.whole < 2 ^ 32 = row_block s.page s.count s.sizes.items s.blocks c.self.invariant c.args.file.0 c.args.first.0 c.from-block.result c.loop-rest.whole c.loop-rest.rest row c.loop-rest-test.true in
    Fits-of_lt {w = w64} (omega arith)

pub loop-rest-smaller : goal.loop-rest-smaller
loop-rest-smaller c =
    let s = c.self.inside in
    let row = subst (λ (x : Cataloged). IsRow x.page x.files.spots c.args.file.0 c.args.first.0 c.from-block.result c.loop-rest.whole c.loop-rest.rest) (sym c.self.view_is) c.loop-rest.invariant in
    let low : c.args.first.0 + c.loop-rest.whole < 2 ^ 36 = row_page s.page s.count s.sizes.items s.blocks c.self.invariant c.args.file.0 c.args.first.0 c.from-block.result c.loop-rest.whole c.loop-rest.rest row c.loop-rest-test.true in
    omega arith

pub returns-clause-ends : goal.returns-clause-ends
returns-clause-ends c =
    let s = c.self.inside in
    let row = subst (λ (x : Cataloged). IsRow x.page x.files.spots c.args.file.0 c.args.first.0 c.from-block.result c.loop-rest.whole c.loop-rest.rest) (sym c.self.view_is) c.loop-rest.invariant in
    let most : c.loop-rest.rest ≤ s.page = rest_most s.page s.count s.sizes.items s.blocks c.self.invariant c.args.file.0 c.args.first.0 c.from-block.result c.loop-rest.whole c.loop-rest.rest row in
    let page : s.page ≡ c.args.self.now.page = ap (λ (x : Cataloged). x.page) c.self.view_is in
    omega arith
