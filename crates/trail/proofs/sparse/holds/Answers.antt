use Rattle.std.proofs.Common.{◌≤◌, arith, length}
use Rattle.trail.specs.Sparse.{byte_at}
use Rattle.trail.proofs.SparseLaws.{stands_on}
use Rattle.trail.proofs.sparse.holds.Goals as goal

pub loop-done-preserved : goal.loop-done-preserved
loop-done-preserved c =
    let d = c.loop-done.done in
    let e = c.min-end.result in
    let b = c.args.bytes.now in
    let below : e ≤ length b = omega (arith, c.min-end.ensures) in
    let rises : d ≤ e = omega (arith, c.min-end.ensures, c.loop-done.invariant.0) in (
      below,
      stands_on b c.args.offset d e below rises (byte_at c.args.chunks.now) c.loop-done.invariant.1
          (c.chunk_holds.ensures.0 c.if-not-chunk_holds.false),
    )
