use Rattle.std.proofs.Common.{arith, ap, refl, ◌∙◌, ◌≡◌, ◌<◌, ◌≤◌, ◌+◌, ◌-◌, Some, length, vec_len}
use Rattle.std.specs.Prelude.{map, take}
use Rattle.std.proofs.lemmas.List.Elements.{All-pop}
use Rattle.std.proofs.lemmas.List.{length-map}
use Rattle.shared.specs.ShardEnds.{IsRoomOf}
use Rattle.shared.specs.ShardSeats.{part}
use Rattle.shared.proofs.ShardEnding.{closed_as, column_came, column_whole, no_such_shard, one_more_ended, own_worker, parts_of_taken, taken_long}
use Rattle.shared.proofs.ShardStaffing.{no_shard, some_shard}
use Rattle.shared.proofs.shards.place.Place.close.Goals as goal

pub returns-in_default : goal.returns-in_default
returns-in_default g c =
    let past : g.B.ShardNaming.shards ≤ g.row.K =
    no_shard g.row.K g.B.ShardNaming.shards (vec_len c.args.self.caches) c.args.self.there (omega (arith, c.in_default.ensures.cases.0)) in
    record {
      ended = λ own rows all ended.
          no_such_shard g.row.K g.B.ShardNaming.shards g.B.ShardNaming.names g.T.Trail.records g.T.Trail.cache g.D.BlockDevice.told own rows
          c.args.workers.now.items c.args.seats.now.items c.args.ends.now past all ended;
    }

pub unreachable-requires-in_default-pop-2 : goal.unreachable-requires-in_default-pop-2
unreachable-requires-in_default-pop-2 g c =
    let here : g.row.K < g.B.ShardNaming.shards =
    some_shard g.row.K g.B.ShardNaming.shards (vec_len c.args.self.caches) c.args.self.there (omega (arith, c.in-Some.ensures.cases)) in
    omega (arith, here, c.requires.ended.3.columns.0, c.in_default-pop-2.ensures.cases.0)

pub take_last-column-requires-clause-long : goal.take_last-column-requires-clause-long
take_last-column-requires-clause-long g c =
    let here : g.row.K < g.B.ShardNaming.shards =
    some_shard g.row.K g.B.ShardNaming.shards (vec_len c.args.self.caches) c.args.self.there (omega (arith, c.in-Some.ensures.cases)) in
    let rows = c.requires.ended.1 in
    taken_long g.row.K g.B.ShardNaming.shards g.B.ShardNaming.names rows c.args.seats.now.items here c.requires.ended.2.came c.requires.ended.3.rows

pub take_last-column-requires-clause-desk : goal.take_last-column-requires-clause-desk
take_last-column-requires-clause-desk g c =
    let rows = c.requires.ended.1 in
    let room : IsRoomOf (length rows) c.in-Some-pop-2.desk =
    (All-pop (IsRoomOf (length rows)) c.args.ends.now.columns.items c.pop-3.new.self.items (Some c.in-Some-pop-2.desk) c.in-Some-pop-2.ensures.items c.requires.ended.3.columns.1).1 in
    let long = ap length c.requires.ended.3.rows ∙ length-map rows (take (g.row.K + 1)) in
    (room.0, omega (arith, room.1, long, c.args.seats.now.ok.0))

pub close-requires : goal.close-requires
close-requires g c =
    let here : g.row.K < g.B.ShardNaming.shards =
    some_shard g.row.K g.B.ShardNaming.shards (vec_len c.args.self.caches) c.args.self.there (omega (arith, c.in-Some.ensures.cases)) in
    let own = c.requires.ended.0 in
    let rows = c.requires.ended.1 in
    let all = c.requires.ended.2 in
    let ended = c.requires.ended.3 in
    let filled : 0 < vec_len c.args.self.caches = omega (arith, c.in-Some.ensures.cases) in
    let ringed = c.args.self.ringed (vec_len c.args.self.caches - 1) c.in-Some.cache (omega (arith, filled, c.args.self.caches.ok.0)) in
    let last = c.in-Some.ensures.value c.in-Some.cache filled in
    let ring : (g.B.ShardNaming.names g.row.K).ring ≡ Some c.in-Some.cache.ring = cc in
    record {
      own = own_worker g.row.K g.B.ShardNaming.names own c.args.workers.now.items c.pop-2.new.self.items c.in-Some-pop.own c.in-Some.cache.ring
          (omega (arith, here, all.workers.0)) all.workers.1 ended.workers c.in-Some-pop.ensures.items ring;
      came = column_came g.row.K g.B.ShardNaming.shards c.in-Some.cache.name g.B.ShardNaming.names own rows c.take_last-column.result.items here all c.in-Some.cache.named
          (c.take_last-column.ensures.taken ∙ (ap (map (λ row. part row g.row.K)) ended.rows ∙ parts_of_taken g.row.K rows));
    }

pub unreachable-requires-in_default-close : goal.unreachable-requires-in_default-close
unreachable-requires-in_default-close g c =
    let here : g.row.K < g.B.ShardNaming.shards =
    some_shard g.row.K g.B.ShardNaming.shards (vec_len c.args.self.caches) c.args.self.there (omega (arith, c.in-Some.ensures.cases)) in
    let rows = c.requires.ended.1 in
    column_whole g.row.K g.B.ShardNaming.shards c.in-Some.cache.name (vec_len c.take_last-column.result) g.B.ShardNaming.names c.requires.ended.0 rows c.take_last-column.result.items here
    c.requires.ended.2 c.in-Some.cache.named
    (c.take_last-column.ensures.taken ∙ (ap (map (λ row. part row g.row.K)) c.requires.ended.3.rows ∙ parts_of_taken g.row.K rows))
    c.take_last-column.result.ok.0 (c.in_default-close.ensures.refused.0 refl)

pub returns : goal.returns
returns g c =
    let here : g.row.K < g.B.ShardNaming.shards =
    some_shard g.row.K g.B.ShardNaming.shards (vec_len c.args.self.caches) c.args.self.there (omega (arith, c.in-Some.ensures.cases)) in
    record {
      ended = λ own rows all ended.
          one_more_ended g.row.K g.B.ShardNaming.shards g.B.ShardNaming.names g.T.Trail.records g.T.Trail.cache g.D.BlockDevice.told own rows
          c.args.workers.now.items c.pop-2.new.self.items c.args.seats.now.items c.take_last-column.new.rows.items c.in-Some-pop.own
          (record { trail = c.in-Ok.trail; core = c.in-Ok.core; device = c.in-Ok.device }) c.args.ends.now
          (record { columns = c.pop-3.new.self; closed = c.insert.new.self }) here all ended c.in-Some-pop.ensures.items (
            c.in-Some-pop-2.ensures.cases,
            (All-pop (IsRoomOf (length rows)) c.args.ends.now.columns.items c.pop-3.new.self.items (Some c.in-Some-pop-2.desk) c.in-Some-pop-2.ensures.items ended.columns.1).0,
          )
          c.take_last-column.ensures.left c.in-Ok-insert.ensures.items c.in-Ok-insert.ensures.capacity
          (closed_as (g.B.ShardNaming.names g.row.K) c.in-Some-pop.own c.take_last-column.result.items (map (λ row. part row g.row.K) c.args.seats.now.items)
          (g.T.Trail.records c.in-Ok.trail) (g.T.Trail.cache c.in-Ok.trail) c.in-Ok.core.state (g.D.BlockDevice.told c.in-Ok.device) c.in-Some.cache.name
          c.in-Some.cache.named c.take_last-column.ensures.taken c.in-Ok.ensures.device c.in-Ok.ensures.core c.in-Ok.ensures.closed);
    }
