use Rattle.std.proofs.Common.{◌≡◌, ◌∙◌, sym, ap, ℕ, ◌+◌, ◌-◌, ◌*◌, ◌<◌, List, length, take, drop, arith}
use Rattle.blockdev.specs.Blocks.{Grid, block_at}
use Rattle.blockdev.proofs.BlockLemmas.{block_end, block_at-blocks_of, length-blocks_of}
use Rattle.blockdev.proofs.blocks.Blocks.get.Goals as goal

pub overflow_mul-start : goal.overflow_mul-start
overflow_mul-start c =
    let same = ap (λ (g : Grid). length g.blocks) c.self.view_is in
    let ends = block_end c.self.inside.size c.self.inside.count c.args.block c.self.inside.bytes.items (omega arith) c.self.invariant in
    omega (arith, c.self.inside.bytes.ok.0)

pub overflow_add-result : goal.overflow_add-result
overflow_add-result c =
    let same = ap (λ (g : Grid). length g.blocks) c.self.view_is in
    let ends = block_end c.self.inside.size c.self.inside.count c.args.block c.self.inside.bytes.items (omega arith) c.self.invariant in
    omega (arith, c.self.inside.bytes.ok.0)

pub slice_bounds-result-end : goal.slice_bounds-result-end
slice_bounds-result-end c =
    let same = ap (λ (g : Grid). length g.blocks) c.self.view_is in
    let ends = block_end c.self.inside.size c.self.inside.count c.args.block c.self.inside.bytes.items (omega arith) c.self.invariant in
    omega (arith, c.deref.ensures.len)

pub returns-clause-bytes : goal.returns-clause-bytes
returns-clause-bytes c =
    let i = c.self.inside in
    let below : c.args.block < i.count = omega (arith, ap (λ (g : Grid). length g.blocks) c.self.view_is, length-blocks_of i.size i.count i.bytes.items) in
    let start = c.args.block * i.size in
    let size : start + i.size - start ≡ i.size = omega arith in
    ap (λ (k : ℕ). take k (drop start c.deref.result.now)) size
    ∙ ap (λ (xs : List ℕ). take i.size (drop start xs)) c.deref.ensures.value
    ∙ sym (block_at-blocks_of i.size i.count i.bytes.items c.args.block below)
    ∙ ap (λ (g : Grid). block_at g.blocks c.args.block) c.self.view_is
