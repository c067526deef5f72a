use Rattle.std.proofs.Common.{◌∙◌, ap, ℕ, List, length, slice_set}
use Rattle.frames.specs.Table.{Table}
use Rattle.frames.proofs.RowLemmas.{with_row-whole}
use Rattle.tests_structures.proofs.frame_tests.put.Goals as goal

pub returns : goal.returns
returns c =
    let t = c.args.frames.now in
    let same = c.copy_from_slice.ensures.after in
    let size = ap (λ (bytes : List ℕ). length bytes) same ∙ c.requires.size in
    ap (λ (rows : List (List ℕ)). let u : Table = record t { bytes = rows } in u)
    (with_row-whole t.size t.bytes c.args.frame.0 c.copy_from_slice.new.self c.bytes_mut.ensures.sized c.bytes_mut.ensures.within size
    ∙ ap (λ (bytes : List ℕ). slice_set t.bytes c.args.frame.0 bytes) same)
