use Rattle.std.proofs.Common.{◌≡◌, ◌∙◌, sym, ap, ℕ, ◌+◌, ◌-◌, ◌*◌, ◌<◌, List, length, take, drop, arith}
use Rattle.frames.specs.Rows.{Grid, row_at}
use Rattle.frames.proofs.RowLemmas.{row_end, row_at-rows_of, length-rows_of}
use Rattle.frames.proofs.rows.Rows.get.Goals as goal

pub overflow_mul-start : goal.overflow_mul-start
overflow_mul-start c =
    let same = ap (λ (g : Grid). length g.rows) c.self.view_is in
    let ends = row_end c.self.inside.size c.self.inside.count c.args.row c.self.inside.bytes.items (omega arith) c.self.invariant in
    omega (arith, c.self.inside.bytes.ok.0)

pub overflow_add-result : goal.overflow_add-result
overflow_add-result c =
    let same = ap (λ (g : Grid). length g.rows) c.self.view_is in
    let ends = row_end c.self.inside.size c.self.inside.count c.args.row c.self.inside.bytes.items (omega arith) c.self.invariant in
    omega (arith, c.self.inside.bytes.ok.0)

pub slice_bounds-result-end : goal.slice_bounds-result-end
slice_bounds-result-end c =
    let same = ap (λ (g : Grid). length g.rows) c.self.view_is in
    let ends = row_end c.self.inside.size c.self.inside.count c.args.row c.self.inside.bytes.items (omega arith) c.self.invariant in
    omega (arith, c.deref.ensures.len)

pub returns-clause-bytes : goal.returns-clause-bytes
returns-clause-bytes c =
    let i = c.self.inside in
    let below : c.args.row < i.count = omega (arith, ap (λ (g : Grid). length g.rows) c.self.view_is, length-rows_of i.size i.count i.bytes.items) in
    let start = c.args.row * i.size in
    let size : start + i.size - start ≡ i.size = omega arith in
    ap (λ (k : ℕ). take k (drop start c.deref.result.now)) size
    ∙ ap (λ (xs : List ℕ). take i.size (drop start xs)) c.deref.ensures.value
    ∙ sym (row_at-rows_of i.size i.count i.bytes.items c.args.row below)
    ∙ ap (λ (g : Grid). row_at g.rows c.args.row) c.self.view_is
