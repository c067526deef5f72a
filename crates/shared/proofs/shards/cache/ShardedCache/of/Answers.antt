use Rattle.std.proofs.Common.{rules, arith, ap, sym, subst, ◌∙◌, ◌≡◌, ◌<◌, ◌≤◌, [], length, vec_len}
use Rattle.std.specs.Prelude.{vec_capacity}
use Rattle.shared.specs.ShardWorkers.{IsFirstOf, IsWorkerAt}
use Rattle.shared.proofs.ShardPlacing.{left_first, named_first, none_first, none_from, seats_each}
use Rattle.shared.proofs.shards.cache.ShardedCache.of.Goals as goal

pub of-caches-requires : goal.of-caches-requires
of-caches-requires g c = record {
  whole = search rules;
  room = rw (c.requires.shards ∙ sym c.count.ensures) c.in-Ok.ensures.caches;
  left = left_first g.B.ShardNaming.shards (vec_len c.parts.inside.parts) c.args.parts c.parts.inside.parts.items c.requires.shards c.parts.view_is c.parts.inside.parts.ok.0 c.parts.invariant.1;
  named = named_first g.B.ShardNaming.names (vec_len c.parts.inside.parts) c.args.parts c.parts.inside.parts.items c.parts.view_is c.parts.inside.parts.ok.0 c.requires.named;
  count = none_first g.B.ShardNaming.shards (vec_len c.parts.inside.parts) (vec_len c.in-Ok.rooms.workers) c.args.parts c.parts.inside.parts.items c.in-Ok.rooms.workers.items c.requires.shards
      c.parts.view_is c.parts.inside.parts.ok.0 c.parts.invariant.1 c.in-Ok.ensures.workers.0 c.in-Ok.rooms.workers.ok.0;
  spare = subst (λ n. n ≤ vec_capacity c.in-Ok.rooms.workers) (c.count.ensures ∙ sym c.requires.shards) c.in-Ok.ensures.workers.1;
  own = none_from (λ k w. IsWorkerAt (g.B.ShardNaming.names k) w) 16 c.in-Ok.rooms.workers.items (ap length c.in-Ok.ensures.workers.0);
  first = none_from (λ k w. IsFirstOf (g.B.ShardNaming.names k) w) 16 c.in-Ok.rooms.workers.items (ap length c.in-Ok.ensures.workers.0);
}

pub invariant_of-cache : goal.invariant_of-cache
invariant_of-cache g c =
    let counted : c.len-shards.result ≡ g.B.ShardNaming.shards =
    c.len-shards.ensures ∙ c.parts.inside.parts.ok.0 ∙ ap length c.parts.view_is ∙ sym c.requires.shards in
    record {
      counted = counted;
      some = subst (λ n. 0 < n) (sym c.len-shards.ensures) c.parts.invariant.0;
      few = subst (λ n. n ≤ 16) (sym c.len-shards.ensures) c.parts.invariant.1;
      seated = seats_each g.B.ShardNaming.names c.len-shards.result c.parts.inside.callers c.args.parts c.parts.inside.parts.items (counted ∙ c.requires.shards) c.parts.view_is
          c.requires.named c.parts.invariant.2;
    }

pub invariant_of-own-inside : goal.invariant_of-own-inside
invariant_of-own-inside g c =
    let empty : c.in-Ok.rooms.desk.items ≡ [] = c.in-Ok.ensures.desk.0 in
    let spare : vec_len c.of-caches.new.own ≤ vec_capacity c.in-Ok.rooms.desk =
    omega (arith, c.of-caches.ensures.count, c.in-Ok.ensures.desk.1, c.count.ensures, c.requires.shards) in
    search (rules, empty, spare)
