use Rattle.std.proofs.Common.{rules, arith, ap, sym, subst, ◌∙◌, ◌≡◌, ◌<◌, [], Some, length, vec_len}
use Rattle.held.specs.Keeps.{IsLocked}
use Rattle.machine.specs.Catalogs.{IsCatalog, adopted}
use Rattle.shared.specs.Keeps.{AreBlocksOf, IsDisk}
use Rattle.shared.specs.ShardNames.{CacheNames, no_names}
use Rattle.shared.specs.ShardWorkers.{AllFrom, IsFirstOf, IsWorkerAt}
use Rattle.shared.specs.Workers.{IsWorkerOf}
use Rattle.shared.proofs.ShardPlacing.{named_before, named_last, none_from, all_of_one, none_is, one_is, worker_at}
use Rattle.shared.proofs.shards.cache.PlaceMadeVecSharedCacheShard.of.Goals as goal

pub invariant_of-result : goal.invariant_of-result
invariant_of-result g c = record {
  there = none_is g.row.K g.B.ShardNaming.shards (vec_len c.args.room) (vec_len c.args.parts.now) c.args.room.items c.args.room.ok.0
      c.requires.room.0 c.requires.left (search rules);
  ringed = λ k d less. absurd (omega (arith, ap length c.requires.room.0, less));
}

pub returns-then-len-clause-own : goal.returns-then-len-clause-own
returns-then-len-clause-own g c =
    none_from (λ k w. IsWorkerAt (g.B.ShardNaming.names k) w) g.row.K c.args.own.now.items
    (omega (arith, c.args.own.now.ok.0, c.requires.count, c.requires.left, c.if-len.true, c.len.ensures))

pub returns-then-len-clause-first : goal.returns-then-len-clause-first
returns-then-len-clause-first g c =
    none_from (λ k w. IsFirstOf (g.B.ShardNaming.names k) w) g.row.K c.args.own.now.items
    (omega (arith, c.args.own.now.ok.0, c.requires.count, c.requires.left, c.if-len.true, c.len.ensures))

pub of-cache-requires-clause-named : goal.of-cache-requires-clause-named
of-cache-requires-clause-named g c =
    let e : g.B.ShardNaming.names g.row.K ≡ c.in-Some.one =
    named_last g.B.ShardNaming.names g.row.K (vec_len c.args.parts.now) c.args.parts.now.items c.in-Some.one (omega (arith, c.requires.left, c.if-len.false, c.len.ensures))
    (c.in-Some.ensures.value no_names (omega (arith, c.if-len.false, c.len.ensures))) c.requires.named in
    subst (λ (n : CacheNames). c.into_parts.result.name ≡ n.name) (sym e) c.into_parts.ensures.named.0

pub of-cache-requires-clause-sized : goal.of-cache-requires-clause-sized
of-cache-requires-clause-sized g c =
    let e : g.B.ShardNaming.names g.row.K ≡ c.in-Some.one =
    named_last g.B.ShardNaming.names g.row.K (vec_len c.args.parts.now) c.args.parts.now.items c.in-Some.one (omega (arith, c.requires.left, c.if-len.false, c.len.ensures))
    (c.in-Some.ensures.value no_names (omega (arith, c.if-len.false, c.len.ensures))) c.requires.named in
    subst (λ (n : CacheNames). c.into_parts.result.geometry ≡ n.sizes) (sym e) c.into_parts.ensures.named.1

pub of-cache-requires-clause-board : goal.of-cache-requires-clause-board
of-cache-requires-clause-board g c =
    let e : g.B.ShardNaming.names g.row.K ≡ c.in-Some.one =
    named_last g.B.ShardNaming.names g.row.K (vec_len c.args.parts.now) c.args.parts.now.items c.in-Some.one (omega (arith, c.requires.left, c.if-len.false, c.len.ensures))
    (c.in-Some.ensures.value no_names (omega (arith, c.if-len.false, c.len.ensures))) c.requires.named in
    subst (λ (n : CacheNames). c.into_parts.result.board ≡ n.board) (sym e) c.into_parts.ensures.named.2

pub of-cache-requires-clause-state : goal.of-cache-requires-clause-state
of-cache-requires-clause-state g c =
    let e : g.B.ShardNaming.names g.row.K ≡ c.in-Some.one =
    named_last g.B.ShardNaming.names g.row.K (vec_len c.args.parts.now) c.args.parts.now.items c.in-Some.one (omega (arith, c.requires.left, c.if-len.false, c.len.ensures))
    (c.in-Some.ensures.value no_names (omega (arith, c.if-len.false, c.len.ensures))) c.requires.named in
    subst (λ (n : CacheNames). IsLocked n.name n.table n.board n.sizes n.seats n.whole c.into_parts.result.held) (sym e) c.into_parts.ensures.state

pub of-cache-requires-clause-fresh : goal.of-cache-requires-clause-fresh
of-cache-requires-clause-fresh g c =
    let e : g.B.ShardNaming.names g.row.K ≡ c.in-Some.one =
    named_last g.B.ShardNaming.names g.row.K (vec_len c.args.parts.now) c.args.parts.now.items c.in-Some.one (omega (arith, c.requires.left, c.if-len.false, c.len.ensures))
    (c.in-Some.ensures.value no_names (omega (arith, c.if-len.false, c.len.ensures))) c.requires.named in
    subst (λ (n : CacheNames). (c.into_parts.result.held.log.history ≡ []) × (c.into_parts.result.held.core.state ≡ adopted n.sizes n.name n.files)) (sym e) c.into_parts.ensures.fresh

pub of-cache-requires-clause-files : goal.of-cache-requires-clause-files
of-cache-requires-clause-files g c =
    let e : g.B.ShardNaming.names g.row.K ≡ c.in-Some.one =
    named_last g.B.ShardNaming.names g.row.K (vec_len c.args.parts.now) c.args.parts.now.items c.in-Some.one (omega (arith, c.requires.left, c.if-len.false, c.len.ensures))
    (c.in-Some.ensures.value no_names (omega (arith, c.if-len.false, c.len.ensures))) c.requires.named in
    subst (λ (n : CacheNames). IsCatalog n.sizes n.files) (sym e) c.into_parts.ensures.files

pub of-cache-requires-clause-own : goal.of-cache-requires-clause-own
of-cache-requires-clause-own g c =
    let e : g.B.ShardNaming.names g.row.K ≡ c.in-Some.one =
    named_last g.B.ShardNaming.names g.row.K (vec_len c.args.parts.now) c.args.parts.now.items c.in-Some.one (omega (arith, c.requires.left, c.if-len.false, c.len.ensures))
    (c.in-Some.ensures.value no_names (omega (arith, c.if-len.false, c.len.ensures))) c.requires.named in
    subst (λ (n : CacheNames). IsWorkerOf c.into_parts.result.ring n.name n.table n.deeds n.sizes c.into_parts.result.own) (sym e) c.into_parts.ensures.own

pub of-cache-requires-clause-device : goal.of-cache-requires-clause-device
of-cache-requires-clause-device g c =
    let e : g.B.ShardNaming.names g.row.K ≡ c.in-Some.one =
    named_last g.B.ShardNaming.names g.row.K (vec_len c.args.parts.now) c.args.parts.now.items c.in-Some.one (omega (arith, c.requires.left, c.if-len.false, c.len.ensures))
    (c.in-Some.ensures.value no_names (omega (arith, c.if-len.false, c.len.ensures))) c.requires.named in
    subst (λ (n : CacheNames). IsDisk n.sizes (g.D.BlockDevice.told c.into_parts.result.device)) (sym e) c.into_parts.ensures.device

pub of-cache-requires-clause-deeds : goal.of-cache-requires-clause-deeds
of-cache-requires-clause-deeds g c =
    let e : g.B.ShardNaming.names g.row.K ≡ c.in-Some.one =
    named_last g.B.ShardNaming.names g.row.K (vec_len c.args.parts.now) c.args.parts.now.items c.in-Some.one (omega (arith, c.requires.left, c.if-len.false, c.len.ensures))
    (c.in-Some.ensures.value no_names (omega (arith, c.if-len.false, c.len.ensures))) c.requires.named in
    subst (λ (n : CacheNames). (c.into_parts.result.deeds.table ≡ n.deeds) × (c.into_parts.result.deeds.told ≡ n.told) × (c.into_parts.result.deeds.blocks ≡ n.blocks)) (sym e) c.into_parts.ensures.deeds

pub of-cache-requires-clause-blocks : goal.of-cache-requires-clause-blocks
of-cache-requires-clause-blocks g c =
    let e : g.B.ShardNaming.names g.row.K ≡ c.in-Some.one =
    named_last g.B.ShardNaming.names g.row.K (vec_len c.args.parts.now) c.args.parts.now.items c.in-Some.one (omega (arith, c.requires.left, c.if-len.false, c.len.ensures))
    (c.in-Some.ensures.value no_names (omega (arith, c.if-len.false, c.len.ensures))) c.requires.named in
    subst (λ (n : CacheNames). AreBlocksOf n.told n.blocks (g.D.BlockDevice.told c.into_parts.result.device)) (sym e) c.into_parts.ensures.blocks

pub of-cache-requires-clause-calls : goal.of-cache-requires-clause-calls
of-cache-requires-clause-calls g c =
    let e : g.B.ShardNaming.names g.row.K ≡ c.in-Some.one =
    named_last g.B.ShardNaming.names g.row.K (vec_len c.args.parts.now) c.args.parts.now.items c.in-Some.one (omega (arith, c.requires.left, c.if-len.false, c.len.ensures))
    (c.in-Some.ensures.value no_names (omega (arith, c.if-len.false, c.len.ensures))) c.requires.named in
    subst (λ (n : CacheNames). (g.D.BlockDevice.told c.into_parts.result.device).calls ≡ n.calls) (sym e) c.into_parts.ensures.calls

pub push_reserved-requires : goal.push_reserved-requires
push_reserved-requires g c =
    let none : length c.args.room.items ≡ 0 = ap length c.requires.room.0 in
    let less : g.row.K < g.B.ShardNaming.shards = omega (arith, c.requires.left, c.if-len.false, c.len.ensures) in
    omega (arith, c.args.room.ok.0, c.requires.room.1 less)

pub invariant_of-result-2 : goal.invariant_of-result-2
invariant_of-result-2 g c =
    let less : g.row.K < g.B.ShardNaming.shards = omega (arith, c.requires.left, c.if-len.false, c.len.ensures) in
    let e : g.B.ShardNaming.names g.row.K ≡ c.in-Some.one =
    named_last g.B.ShardNaming.names g.row.K (vec_len c.args.parts.now) c.args.parts.now.items c.in-Some.one (omega (arith, c.requires.left, c.if-len.false, c.len.ensures))
    (c.in-Some.ensures.value no_names (omega (arith, c.if-len.false, c.len.ensures))) c.requires.named in
    let none : length c.args.room.items ≡ 0 = ap length c.requires.room.0 in
    record {
      there = one_is g.row.K g.B.ShardNaming.shards (vec_len c.push_reserved.new.self)
          (omega (arith, c.push_reserved.ensures.len, c.args.room.ok.0, none)) less;
      ringed = all_of_one c.args.room.items c.push_reserved.new.self.items c.of-cache.result.0 c.push_reserved.ensures.items c.requires.room.0
          (λ x. (g.B.ShardNaming.names g.row.K).ring ≡ Some x.ring)
          (ap (λ (n : CacheNames). n.ring) e ∙ c.into_parts.ensures.ring ∙ ap Some (sym c.of-cache.ensures.ring));
    }

pub returns-clause-named : goal.returns-clause-named
returns-clause-named g c =
    named_before g.B.ShardNaming.names (vec_len c.args.parts.now) (vec_len c.pop.new.self) c.args.parts.now.items c.pop.new.self.items
    c.in-Some.ensures.rest c.in-Some.ensures.cases c.requires.named

pub returns-clause-own : goal.returns-clause-own
returns-clause-own g c =
    let e : g.B.ShardNaming.names g.row.K ≡ c.in-Some.one =
    named_last g.B.ShardNaming.names g.row.K (vec_len c.args.parts.now) c.args.parts.now.items c.in-Some.one (omega (arith, c.requires.left, c.if-len.false, c.len.ensures))
    (c.in-Some.ensures.value no_names (omega (arith, c.if-len.false, c.len.ensures))) c.requires.named in
    let one : IsWorkerAt (g.B.ShardNaming.names g.row.K) c.of-cache.result.1 =
    worker_at (g.B.ShardNaming.names g.row.K) c.into_parts.result.ring c.of-cache.result.0.ring c.of-cache.result.1
    (ap (λ (n : CacheNames). n.ring) e ∙ c.into_parts.ensures.ring) c.of-cache.ensures.ring c.of-cache.ensures.own in
    subst (AllFrom (λ k w. IsWorkerAt (g.B.ShardNaming.names k) w) g.row.K) (sym c.in-Ok.ensures.items) (one, c.requires.own)

pub returns-clause-first : goal.returns-clause-first
returns-clause-first g c =
    let e : g.B.ShardNaming.names g.row.K ≡ c.in-Some.one =
    named_last g.B.ShardNaming.names g.row.K (vec_len c.args.parts.now) c.args.parts.now.items c.in-Some.one (omega (arith, c.requires.left, c.if-len.false, c.len.ensures))
    (c.in-Some.ensures.value no_names (omega (arith, c.if-len.false, c.len.ensures))) c.requires.named in
    let one : IsFirstOf (g.B.ShardNaming.names g.row.K) c.of-cache.result.1 =
    subst (λ (n : CacheNames). IsFirstOf n c.of-cache.result.1) (sym e)
    (subst (IsFirstOf c.in-Some.one) (sym c.of-cache.ensures.untouched) c.into_parts.ensures.first) in
    subst (AllFrom (λ k w. IsFirstOf (g.B.ShardNaming.names k) w) g.row.K) (sym c.in-Ok.ensures.items) (one, c.requires.first)
