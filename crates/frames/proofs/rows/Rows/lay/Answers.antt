use Rattle.std.proofs.Common.{◌∙◌, ap, ℕ, List, length, slice_set}
use Rattle.frames.specs.Rows.{Grid, laid}
use Rattle.frames.proofs.RowLemmas.{with_row-whole, length-laid}
use Rattle.frames.proofs.rows.Rows.lay.Goals as goal

pub returns : goal.returns
returns c =
    let g = c.args.self.now in
    let row = laid g.size c.args.at c.args.bytes.now in
    let whole = c.lay.ensures ∙ ap (λ n. laid n c.args.at c.args.bytes.now) c.get_mut.ensures.size in
    let size = ap (λ (bytes : List ℕ). length bytes) whole ∙ length-laid g.size c.args.at c.args.bytes.now c.requires.inside in
    ap (λ (rows : List (List ℕ)). let h : Grid = record { size = g.size; rows = rows } in h)
    (with_row-whole g.size g.rows c.args.row c.lay.new.out c.get_mut.ensures.sized c.requires.within size
    ∙ ap (slice_set g.rows c.args.row) whole)
