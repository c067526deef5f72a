use Rattle.std.proofs.Common.{sym, ap, subst, ◌≡◌, ◌<◌, ◌≤◌, ◌*◌, ◌+◌, ◌^◌, length, arith, w64, refl}
use Rattle.std.proofs.Math.Facts.{Fits-of_lt}
use Rattle.catalog.specs.Cataloged.{Cataloged}
use Rattle.blockmap.specs.Keys.{NoneFrom}
use Rattle.catalog.specs.Extents.{IsNext}
use Rattle.catalog.specs.Rows.{IsRow}
use Rattle.catalog.proofs.Keeping.{few_files, none_of_file, none_past}
use Rattle.catalog.proofs.RowLemmas.{row_next, row_small}
use Rattle.catalog.proofs.catalog.Catalog.next_extent.Goals as goal
use Rattle.catalog.proofs.catalog.Catalog.next_extent.Goals.{then-file-ge-MAX_FILES-via-then-file-ge-MAX_FILES, then-file-ge-MAX_FILES-via-else-file-ge-MAX_FILES+then-from-gt-LAST_PAGE}

pub returns-then-file-ge-MAX_FILES-clause-none : goal.returns-then-file-ge-MAX_FILES-clause-none
returns-then-file-ge-MAX_FILES-clause-none c =
    let s = c.self.inside in
    subst (λ (x : Cataloged). NoneFrom x.files.spots c.args.file.0 c.args.from.0) c.self.view_is
    (elim c.then-file-ge-MAX_FILES.branch [
      | then-file-ge-MAX_FILES-via-then-file-ge-MAX_FILES w ↦
          (let few : length s.sizes.items ≤ 64 = few_files s.page s.count s.sizes.items s.blocks c.self.invariant in
          none_of_file s.page s.count s.sizes.items s.blocks c.self.invariant c.args.file.0 c.args.from.0 (omega arith))
      | then-file-ge-MAX_FILES-via-else-file-ge-MAX_FILES+then-from-gt-LAST_PAGE w ↦
          record { each = λ q low. none_past s.page s.count s.sizes.items s.blocks c.self.invariant c.args.file.0 q (omega arith) }
    ])

pub overflow_mul-result : goal.overflow_mul-result
overflow_mul-result c =
    let s = c.self.inside in
    let row = subst (λ (x : Cataloged). IsRow x.page x.files.spots c.args.file.0 c.in-Some.first.0 c.in-Some.placed.block.0 c.row-whole.result.0 c.row-whole.result.1) (sym c.self.view_is) c.row-whole.ensures.row in
    let small : c.row-whole.result.0 * s.page ≤ 2 ^ 40 = row_small s.page s.count s.sizes.items s.blocks c.self.invariant c.args.file.0 c.in-Some.first.0 c.in-Some.placed.block.0 c.row-whole.result.0 c.row-whole.result.1 row in
    Fits-of_lt {w = w64} (omega arith)

pub overflow_add-result : goal.overflow_add-result
overflow_add-result c =
    let s = c.self.inside in
    let row = subst (λ (x : Cataloged). IsRow x.page x.files.spots c.args.file.0 c.in-Some.first.0 c.in-Some.placed.block.0 c.row-whole.result.0 c.row-whole.result.1) (sym c.self.view_is) c.row-whole.ensures.row in
    let small : c.row-whole.result.0 * s.page ≤ 2 ^ 40 = row_small s.page s.count s.sizes.items s.blocks c.self.invariant c.args.file.0 c.in-Some.first.0 c.in-Some.placed.block.0 c.row-whole.result.0 c.row-whole.result.1 row in
    let page : s.page ≡ c.args.self.now.page = ap (λ (x : Cataloged). x.page) c.self.view_is in
    let most : s.page ≤ 4096 = c.self.invariant.most in
    Fits-of_lt {w = w64} (omega arith)

pub returns-clause-found : goal.returns-clause-found
returns-clause-found c =
    let s = c.self.inside in
    let row = subst (λ (x : Cataloged). IsRow x.page x.files.spots c.args.file.0 c.in-Some.first.0 c.in-Some.placed.block.0 c.row-whole.result.0 c.row-whole.result.1) (sym c.self.view_is) c.row-whole.ensures.row in
    let page : s.page ≡ c.args.self.now.page = ap (λ (x : Cataloged). x.page) c.self.view_is in
    let low : c.row-whole.result.1 < s.page = omega arith in
    subst (λ (x : Cataloged). IsNext x c.args.file.0 c.args.from.0 (record { first = c.in-Some.first; block = c.in-Some.placed.block; bytes = c.row-whole.result.0 * s.page + c.row-whole.result.1 })) c.self.view_is
    (row_next s.page s.count s.sizes.items s.blocks c.self.invariant c.args.file.0 c.in-Some.first.0 c.in-Some.placed.block.0 c.row-whole.result.0 c.row-whole.result.1 row low c.in-Some.placed c.in-Some.ensures.spot refl c.args.from.0 c.in-Some.ensures.found)
