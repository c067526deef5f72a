use Rattle.std.proofs.Common.{◌≡◌, ◌∙◌, ap, ℕ, ◌*◌, List, replicate, rules, arith}
use Rattle.frames.specs.Rows.{Grid, rows_of}
use Rattle.frames.proofs.RowLemmas.{rows_of-zeros}
use Rattle.frames.proofs.rows.Rows.zeros.Goals as goal

pub returns-clause-zeros : goal.returns-clause-zeros
returns-clause-zeros c =
    let made : c.in_ok-bytes.bytes.items ≡ replicate c.in-Some.len 0 = search rules in
    let total : c.in-Some.len ≡ c.args.count * c.args.size = omega (arith, c.in-Some.ensures) in
    ap (λ (bs : List (List ℕ)). let g : Grid = record { size = c.args.size; rows = bs } in g)
    (ap (rows_of c.args.size c.args.count) (made ∙ ap (λ (k : ℕ). replicate k 0) total) ∙ rows_of-zeros c.args.size c.args.count)
