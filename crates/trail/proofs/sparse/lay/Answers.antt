use Rattle.std.proofs.Common.{rules, ◌≡◌, ◌∙◌, length, take, drop, ◌+◌, ◌<◌, ◌++◌}
use Rattle.std.proofs.Math.Seq.{take-append_seam}
use Rattle.pc_types.specs.Files.{padded}
use Rattle.trail.proofs.SparseLaws.{put_is}
use Rattle.trail.proofs.sparse.lay.Goals as goal

pub returns-clause-laid : goal.returns-clause-laid
returns-clause-laid c =
    let f = c.args.chunk.now.items in
    let o = c.args.start in
    let b = c.args.bytes.now in
    let full = padded f (o + length b) in
    let some : 0 < length b = search rules in
    let inside : c.reach.new.chunk.items ≡ full = c.in_ok-reach.ensures.padded in
    let lent : c.as_mut_slice.result.now ≡ full = c.as_mut_slice.ensures.value ∙ inside in
    let put : c.place.new.buffer ≡ take o full ++ b ++ drop (o + length b) full = c.place.ensures.placed
    ∙ (λ i. take o (lent i) ++ b ++ drop (o + length b) (lent i)) in
    let len : c.reach.new.chunk.len ≡ length c.place.new.buffer =
    (let a = c.place.ensures.len in let b = c.as_mut_slice.ensures.len in search rules) in
    (λ i. take (len i) (c.place.new.buffer ++ drop (length c.place.new.buffer) c.reach.new.chunk.items))
    ∙ take-append_seam c.place.new.buffer (drop (length c.place.new.buffer) c.reach.new.chunk.items) ∙ put
    ∙ put_is f o b some
