use Rattle.std.proofs.Common.{rules, arith, refl, sym, ap, ◌∙◌, ◌++◌, ◌∷◌, [], ◌≡◌, ◌<◌, length, ◌+◌, slice_set, slice_index_or, take}
use Rattle.shared.specs.ShardSeats.{no_seat, part}
use Rattle.shared.proofs.ShardHalves.{front_all, front_step, half_all, half_step, last_is, next_is, rest_is}
use Rattle.shared.proofs.shards.rows.take_last.Goals as goal

pub loop-row-init : goal.loop-row-init
loop-row-init c = (refl, c.requires.desk.0, search (rules, arith), c.requires.desk.1, c.len-row-end.ensures, sym c.len-row-end.ensures)

pub unreachable-requires : goal.unreachable-requires
unreachable-requires c =
    let inv = c.loop-row.invariant in
    let t = c.loop-row-test.true in
    let at = next_is (take c.args.shard) c.loop-row.row c.args.rows.now.items c.loop-row.rows.items c.index_mut.result.now inv.0 c.index_mut.ensures.value in
    let within : c.loop-row.row < length c.args.rows.now.items = search (rules, arith) in
    let long : length c.index_mut.result.now ≡ c.args.shard + 1 = ap length at ∙ c.requires.long c.loop-row.row c.index_mut.result.now within in
    omega (arith, long, c.in_default.ensures.none)

pub loop-row-preserved : goal.loop-row-preserved
loop-row-preserved c =
    let inv = c.loop-row.invariant in
    let t = c.loop-row-test.true in
    let at = next_is (take c.args.shard) c.loop-row.row c.args.rows.now.items c.loop-row.rows.items c.index_mut.result.now inv.0 c.index_mut.ensures.value in
    let within : c.loop-row.row < length c.args.rows.now.items = search (rules, arith) in
    let long : length c.index_mut.result.now ≡ c.args.shard + 1 = ap length at ∙ c.requires.long c.loop-row.row c.index_mut.result.now within in
    let rest = rest_is c.args.shard c.index_mut.result.now c.take_last.new.self c.in-Some.seat long c.in-Some.ensures.items in
    let last = last_is c.args.shard c.index_mut.result.now c.take_last.new.self c.in-Some.seat no_seat long c.in-Some.ensures.items in
    let now = c.index_mut.result.now in (
      ap (λ row. slice_set c.loop-row.rows.items c.loop-row.row row) (sym rest ∙ ap (take c.args.shard) at)
          ∙ ap (λ rows. slice_set rows c.loop-row.row (take c.args.shard (slice_index_or c.args.rows.now.items c.loop-row.row now))) inv.0
          ∙ half_step (take c.args.shard) c.loop-row.row c.args.rows.now.items now within,
      c.push_reserved.ensures.items
          ∙ ap (λ seat. c.loop-row.desk.items ++ seat ∷ []) (sym last ∙ ap (λ row. part row c.args.shard) at)
          ∙ ap (λ desk. desk ++ part (slice_index_or c.args.rows.now.items c.loop-row.row now) c.args.shard ∷ []) inv.1
          ∙ front_step (λ row. part row c.args.shard) c.loop-row.row c.args.rows.now.items now within,
      search (rules, arith),
      search (rules, arith),
      inv.4,
      inv.5,
    )

pub returns-clause-taken : goal.returns-clause-taken
returns-clause-taken c = c.loop-row.invariant.1 ∙ front_all (λ row. part row c.args.shard) c.loop-row.row c.args.rows.now.items (search (rules, arith))

pub returns-clause-left : goal.returns-clause-left
returns-clause-left c = c.loop-row.invariant.0 ∙ half_all (take c.args.shard) c.loop-row.row c.args.rows.now.items (search (rules, arith))
