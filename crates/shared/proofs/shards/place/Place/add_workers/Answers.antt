use Rattle.std.proofs.Common.{arith, ap, lit<, subst, sym, ◌∙◌, ◌≡◌, ◌<◌, ◌≤◌, ◌+◌, [], Some, length, vec_len}
use Rattle.std.proofs.lemmas.List.{nil_from_length}
use Rattle.shared.specs.ShardSeats.{no_seat}
use Rattle.shared.specs.ShardWorkers.{AllFrom, IsWorkerAt}
use Rattle.shared.proofs.ShardHalves.{last_is}
use Rattle.shared.proofs.ShardStaffing.{no_shard, none_made_past, one_more_made, part_left, seats_same, some_shard, workers_after}
use Rattle.shared.proofs.ShardWorking.{lent}
use Rattle.shared.proofs.shards.place.Place.add_workers.Goals as goal

-- there is no such shard
pub returns-in_default-clause-left : goal.returns-in_default-clause-left
returns-in_default-clause-left g c =
    let past : g.B.ShardNaming.shards ≤ g.row.K =
    no_shard g.row.K g.B.ShardNaming.shards (vec_len c.args.self.now.caches) c.args.self.now.there (omega (arith, c.deref.ensures.len, c.in_default.ensures.item.3)) in
    omega (arith, past, c.requires.left)

pub returns-in_default-clause-count : goal.returns-in_default-clause-count
returns-in_default-clause-count g c =
    let past : g.B.ShardNaming.shards ≤ g.row.K =
    no_shard g.row.K g.B.ShardNaming.shards (vec_len c.args.self.now.caches) c.args.self.now.there (omega (arith, c.deref.ensures.len, c.in_default.ensures.item.3)) in
    omega (arith, past, c.requires.count)

pub returns-in_default-clause-workers : goal.returns-in_default-clause-workers
returns-in_default-clause-workers g c =
    let past : g.B.ShardNaming.shards ≤ g.row.K =
    no_shard g.row.K g.B.ShardNaming.shards (vec_len c.args.self.now.caches) c.args.self.now.there (omega (arith, c.deref.ensures.len, c.in_default.ensures.item.3)) in
    let none : c.args.workers.now.items ≡ [] = nil_from_length c.args.workers.now.items (omega (arith, past, c.requires.count, c.args.workers.now.ok.0)) in
    subst (AllFrom (λ k w. IsWorkerAt (g.B.ShardNaming.names k) w) g.row.K) (sym none) tt

pub returns-in_default-clause-made : goal.returns-in_default-clause-made
returns-in_default-clause-made g c = λ first so_far.
    let past : g.B.ShardNaming.shards ≤ g.row.K =
    no_shard g.row.K g.B.ShardNaming.shards (vec_len c.args.self.now.caches) c.args.self.now.there (omega (arith, c.deref.ensures.len, c.in_default.ensures.item.3)) in
    none_made_past g.row.K first c.args.own.now c.args.workers.now.items (omega (arith, past, c.requires.own.0)) so_far

pub unreachable-requires : goal.unreachable-requires
unreachable-requires g c =
    let here : g.row.K < g.B.ShardNaming.shards =
    some_shard g.row.K g.B.ShardNaming.shards (vec_len c.args.self.now.caches) c.args.self.now.there (omega (arith, c.deref.ensures.len, c.in-Some.ensures.item.3.0)) in
    omega (arith, here, c.requires.left, c.in_default-pop.ensures.cases.0)

pub worker_in-worker-requires : goal.worker_in-worker-requires
worker_in-worker-requires g c =
    let here : g.row.K < g.B.ShardNaming.shards =
    some_shard g.row.K g.B.ShardNaming.shards (vec_len c.args.self.now.caches) c.args.self.now.there (omega (arith, c.deref.ensures.len, c.in-Some.ensures.item.3.0)) in
    let within : 0 < length c.args.self.now.caches.items = omega (arith, c.deref.ensures.len, c.in-Some.ensures.item.3.0, c.args.self.now.caches.ok.0) in
    let ringed = c.args.self.now.ringed 0 c.in-Some.cache.now within in
    let first = c.in-Some.ensures.item.3.1 c.in-Some.cache.now in
    let value = c.deref.ensures.value in
    let ring : (g.B.ShardNaming.names g.row.K).ring ≡ Some c.in-Some.cache.now.ring = cc in
    let long : length c.args.seats.now.items ≡ g.row.K + 1 = omega (arith, here, c.requires.left, c.args.seats.now.ok.0) in
    let last = last_is g.row.K c.args.seats.now.items c.pop.new.self.items c.in-Some-pop.seat no_seat long c.in-Some-pop.ensures.items in
    let was = c.requires.seated g.row.K (omega (arith, long, c.args.seats.now.ok.0)) in
    let less : g.row.K < length c.own.inside.workers.items = omega (arith, here, c.requires.own.0, ap length c.own.view_is) in (
      lit< tt,
      (
        ring,
        (
          lent g.B.ShardNaming.names c.args.own.now c.own.inside.workers.items g.row.K c.in-Some-get_mut.own.now c.own.view_is less
              c.in-Some-get_mut.ensures.value c.requires.own.1,
          (ap (λ s. s.name) (sym last) ∙ was.0, ap (λ s. s.table) (sym last) ∙ was.1),
        ),
      ),
    )

pub returns : goal.returns
returns g c =
    let here : g.row.K < g.B.ShardNaming.shards =
    some_shard g.row.K g.B.ShardNaming.shards (vec_len c.args.self.now.caches) c.args.self.now.there (omega (arith, c.deref.ensures.len, c.in-Some.ensures.item.3.0)) in
    record {
      own = workers_after g.row.K g.B.ShardNaming.shards g.B.ShardNaming.names c.args.own.now c.own.inside.workers.items c.worker_in-worker.new.own c.own.view_is here c.requires.own
          c.worker_in-worker.ensures.own;
      left = omega (arith, here, c.requires.left, c.in-Some-pop.ensures.cases);
      seated = λ k less.
          let left = part_left k c.args.seats.now.items c.pop.new.self.items c.in-Some-pop.seat c.in-Some-pop.ensures.items (omega (arith, less, c.pop.new.self.ok.0)) in
          let was = c.requires.seated k (omega (arith, less, c.in-Some-pop.ensures.cases)) in
          (ap (λ s. s.name) left ∙ was.0, ap (λ s. s.table) left ∙ was.1);
      count = omega (arith, here, c.requires.count, c.in-Ok.ensures.len);
      spare = omega (arith, c.requires.spare, c.in-Ok.ensures.capacity);
      workers = subst (AllFrom (λ k w. IsWorkerAt (g.B.ShardNaming.names k) w) g.row.K) (sym c.in-Ok.ensures.items)
          (c.worker_in-worker.ensures.worker, c.requires.workers);
      same = seats_same c.args.seats.now.items c.pop.new.self.items c.in-Some-pop.seat c.args.workers.now.items c.insert.new.self.items c.worker_in-worker.result c.in-Some-pop.ensures.items c.in-Ok.ensures.items c.worker_in-worker.ensures.seat;
      room = c.in-Some-pop.ensures.capacity;
      made = λ first so_far.
          one_more_made g.row.K first c.args.own.now c.own.inside.workers.items c.args.workers.now.items c.insert.new.self.items c.in-Some-get_mut.own.now c.worker_in-worker.new.own c.worker_in-worker.result
          c.own.view_is (omega (arith, here, c.requires.own.0)) c.in-Some-get_mut.ensures.value c.in-Ok.ensures.items c.worker_in-worker.ensures.made c.worker_in-worker.ensures.new so_far;
    }
