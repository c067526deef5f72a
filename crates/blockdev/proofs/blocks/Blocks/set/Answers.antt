use Rattle.std.proofs.Common.{◌≡◌, ◌∙◌, sym, ap, ℕ, ◌<◌, List, length, slice_set, arith}
use Rattle.blockdev.specs.Blocks.{Grid, blocks_of}
use Rattle.blockdev.proofs.BlockLemmas.{block_end, blocks_of-put, length-blocks_of}
use Rattle.blockdev.proofs.blocks.Blocks.set.Goals as goal

pub overflow_mul-start : goal.overflow_mul-start
overflow_mul-start c =
    let same = ap (λ (g : Grid). length g.blocks) c.self.view_is in
    let ends = block_end c.self.inside.size c.self.inside.count c.args.block c.self.inside.bytes.items (omega arith) c.self.invariant in
    omega (arith, c.self.inside.bytes.ok.0)

pub overflow_add-start : goal.overflow_add-start
overflow_add-start c =
    let same = ap (λ (g : Grid). length g.blocks) c.self.view_is in
    let ends = block_end c.self.inside.size c.self.inside.count c.args.block c.self.inside.bytes.items (omega arith) c.self.invariant in
    omega (arith, c.self.inside.bytes.ok.0)

pub slice_bounds-copy_from_slice-end : goal.slice_bounds-copy_from_slice-end
slice_bounds-copy_from_slice-end c =
    let same = ap (λ (g : Grid). length g.blocks) c.self.view_is in
    let ends = block_end c.self.inside.size c.self.inside.count c.args.block c.self.inside.bytes.items (omega arith) c.self.invariant in
    omega (arith, c.deref_mut.ensures.len)

pub returns : goal.returns
returns c =
    let i = c.self.inside in
    let below : c.args.block < i.count = omega (arith, ap (λ (g : Grid). length g.blocks) c.self.view_is, length-blocks_of i.size i.count i.bytes.items) in
    let size : length c.args.bytes.now ≡ i.size = c.requires.size ∙ sym (ap (λ (g : Grid). g.size) c.self.view_is) in
    let copied = c.copy_from_slice.ensures.after in
    ap (λ (bs : List (List ℕ)). let g : Grid = record { size = i.size; blocks = bs } in g)
    (blocks_of-put i.size i.count c.args.block _ i.bytes.len i.bytes.items c.deref_mut.result.now c.copy_from_slice.new.self below c.self.invariant (ap (λ (xs : List ℕ). length xs) copied ∙ size) c.deref_mut.ensures.value (omega arith) i.bytes.ok.0)
    ∙ ap (λ (xs : List ℕ). let g : Grid = record { size = i.size; blocks = slice_set (blocks_of i.size i.count i.bytes.items) c.args.block xs } in g) copied
    ∙ ap (λ (g : Grid). let h : Grid = record { size = g.size; blocks = slice_set g.blocks c.args.block c.args.bytes.now } in h) c.self.view_is
