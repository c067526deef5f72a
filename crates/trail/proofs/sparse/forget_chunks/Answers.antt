use Rattle.std.proofs.Common.{rules, ◌≡◌, ap, ◌∙◌}
use Rattle.std.specs.Prelude.{is_some}
use Rattle.std.specs.BTreeMap.{btree_map_len}
use Rattle.trail.proofs.SparseLaws.{pop_keeps, kept_up_to, none_past, none_in_empty}
use Rattle.trail.proofs.sparse.forget_chunks.Goals as goal

pub chunks-preserved-else-index-last : goal.chunks-preserved-else-index-last
chunks-preserved-else-index-last c = λ q low.
    let pop = c.pop_last.ensures in
    pop_keeps c.chunks.chunks c.pop_last.new.self c.pop_last.result c.in-Some.index.now c.args.last
    c.if-index-last.false (ap is_some c.in-Some.ensures.value) pop.greatest pop.updates pop.unchanged q low
    ∙ c.chunks.invariant q low

pub chunks-preserved : goal.chunks-preserved
chunks-preserved c = λ q low.
    let pop = c.pop_last.ensures in
    pop_keeps c.chunks.chunks c.pop_last.new.self c.pop_last.result c.in-Some.index.now c.args.last
    c.if-index-last.false (ap is_some c.in-Some.ensures.value) pop.greatest pop.updates pop.unchanged q low
    ∙ c.chunks.invariant q low

pub returns-then-index-last : goal.returns-then-index-last
returns-then-index-last c =
    kept_up_to c.args.chunks.now c.chunks.chunks c.args.last c.chunks.invariant
    (none_past c.chunks.chunks c.in-Some.index.now c.args.last c.if-index-last.true c.in-Some.ensures.greatest)

pub returns-in_default : goal.returns-in_default
returns-in_default c =
    let empty : btree_map_len c.chunks.chunks ≡ 0 = search rules in
    kept_up_to c.args.chunks.now c.chunks.chunks c.args.last c.chunks.invariant
    (λ q past. none_in_empty c.chunks.chunks empty q)
