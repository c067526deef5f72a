use Rattle.std.proofs.Common.{◌≡◌, ◌∙◌, refl, sym, ap, subst, ℕ, ◌+◌, ◌-◌, ◌*◌, ◌<◌, List, length, All, take, drop, arith}
use Rattle.frames.specs.Rows.{Grid, row_at, with_row}
use Rattle.frames.proofs.RowLemmas.{row_end, row_at-rows_of, length-rows_of, rows_of-lent, All-rows_of}
use Rattle.frames.proofs.rows.Rows.get_mut.Goals as goal

pub overflow_mul-start : goal.overflow_mul-start
overflow_mul-start c =
    let same = ap (λ (g : Grid). length g.rows) c.self.view_is in
    let ends = row_end c.self.inside.size c.self.inside.count c.args.row c.self.inside.bytes.items (omega arith) c.self.invariant in
    omega (arith, c.self.inside.bytes.ok.0)

pub overflow_add-end : goal.overflow_add-end
overflow_add-end c =
    let same = ap (λ (g : Grid). length g.rows) c.self.view_is in
    let ends = row_end c.self.inside.size c.self.inside.count c.args.row c.self.inside.bytes.items (omega arith) c.self.invariant in
    omega (arith, c.self.inside.bytes.ok.0)

pub slice_mut-requires-clause-in_bounds : goal.slice_mut-requires-clause-in_bounds
slice_mut-requires-clause-in_bounds c =
    let same = ap (λ (g : Grid). length g.rows) c.self.view_is in
    let ends = row_end c.self.inside.size c.self.inside.count c.args.row c.self.inside.bytes.items (omega arith) c.self.invariant in
    omega (arith, c.self.inside.bytes.ok.0)

pub returns : goal.returns
returns c =
    let i = c.self.inside in
    let below : c.args.row < i.count = omega (arith, ap (λ (g : Grid). length g.rows) c.self.view_is, length-rows_of i.size i.count i.bytes.items) in
    let start = c.args.row * i.size in
    let size : start + i.size - start ≡ i.size = omega arith in
    let row =
    c.slice_mut.ensures.value
    ∙ ap (λ (k : ℕ). take k (drop start i.bytes.items)) size
    ∙ sym (row_at-rows_of i.size i.count i.bytes.items c.args.row below)
    ∙ ap (λ (g : Grid). row_at g.rows c.args.row) c.self.view_is
    in (
      (
        refl,
        λ (w : List ℕ).
            ap (λ (rows : List (List ℕ)). let g : Grid = record { size = i.size; rows = rows } in g) (rows_of-lent i.size i.count c.args.row i.bytes.len i.bytes.items w below c.self.invariant i.bytes.ok.0)
            ∙ ap (λ (g : Grid). let h : Grid = record { size = g.size; rows = with_row g.size g.rows c.args.row w } in h) c.self.view_is,
      ),
      record {
        writes_back = tt;
        bytes = row;
        sized =
            let P : Grid → Type 0 = λ (g : Grid). All (λ bytes. length bytes ≡ g.size) g.rows in
            subst P c.self.view_is (All-rows_of i.size i.count i.bytes.items c.self.invariant);
        size = c.slice_mut.ensures.len ∙ size ∙ ap (λ (g : Grid). g.size) c.self.view_is;
      },
    )
