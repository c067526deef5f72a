use Rattle.std.proofs.Common.{◌≤◌, arith, length}
use Rattle.trail.specs.Sparse.{byte_at}
use Rattle.trail.proofs.SparseLaws.{put_on}
use Rattle.trail.proofs.sparse.put.Goals as goal

pub loop-done-preserved : goal.loop-done-preserved
loop-done-preserved c =
    let d = c.loop-done.done in
    let e = c.min-end.result in
    let b = c.args.bytes.now in
    let below : e ≤ length b = omega (arith, c.min-end.ensures) in
    let rises : d ≤ e = omega (arith, c.min-end.ensures, c.loop-done.invariant.0) in (
      below,
      put_on b c.args.offset d e below rises (byte_at c.args.chunks.now) (byte_at c.loop-done.chunks)
          (byte_at c.put_in_chunk.new.chunks) c.loop-done.invariant.1 c.in_ok-put_in_chunk.ensures.put,
    )
