use Rattle.std.proofs.Common.{rules, sym, ◌∙◌, ◌≡◌, length, take, drop, ◌-◌}
use Rattle.std.proofs.lemmas.Bool.{false≢true}
use Rattle.trail.proofs.SparseLaws.{stands, front_same, rest_zeros}
use Rattle.trail.proofs.sparse.has.Goals as goal

pub returns-then-are_same : goal.returns-then-are_same
returns-then-are_same c =
    let chunk = c.args.chunk.now in
    let m = c.min.result in
    let n = c.min-len.result in
    let same : take n c.args.bytes.now ≡ take n (take (length chunk - m) (drop m chunk)) = search rules in (
      λ t. stands chunk c.args.start c.args.bytes.now m n c.min.ensures c.min-len.ensures same
          (c.are_zeros.ensures.0 t),
      λ is. c.are_zeros.ensures.1 (rest_zeros chunk c.args.start c.args.bytes.now m n c.min.ensures c.min-len.ensures
          is),
    )

pub returns-else-are_same : goal.returns-else-are_same
returns-else-are_same c = (
  λ t. absurd (false≢true (sym c.if-are_same.false ∙ t)),
  λ is. c.are_same.ensures.1 (front_same c.args.chunk.now c.args.start c.args.bytes.now c.min.result c.min-len.result
      c.min.ensures c.min-len.ensures is),
)
