use Rattle.std.proofs.Common.{arith, lit<, subst, ◌≡◌, ◌+◌, vec_len}
use Rattle.std.specs.Prelude.{min}
use Rattle.shared.specs.ShardWorkers.{AllFrom, IsFirstOf, IsWorkerAt}
use Rattle.shared.proofs.shards.cache.FourMadeFourRooms.of.Goals as goal

pub of-part_2-requires : goal.of-part_2-requires
of-part_2-requires g c =
    let next : g.row.L ≡ g.row.K + 1 = c.requires.whole.2 in (
      lit< tt,
      (
        lit< tt,
        (
          tt,
          (
            c.requires.room.2,
            (
              subst (λ n. vec_len c.of-part_3.new.parts ≡ min g.B.ShardNaming.shards n) next c.of-part_3.ensures.left,
              (
                c.of-part_3.ensures.named,
                (
                  omega (arith, next, c.of-part_3.ensures.count),
                  (
                    c.of-part_3.ensures.spare,
                    (
                      subst (λ n. AllFrom (λ k w. IsWorkerAt (g.B.ShardNaming.names k) w) n c.of-part_3.new.own.items) next c.of-part_3.ensures.own,
                      subst (λ n. AllFrom (λ k w. IsFirstOf (g.B.ShardNaming.names k) w) n c.of-part_3.new.own.items) next c.of-part_3.ensures.first,
                    ),
                  ),
                ),
              ),
            ),
          ),
        ),
      ),
    )

pub of-part_1-requires : goal.of-part_1-requires
of-part_1-requires g c =
    let next : g.row.K ≡ g.row.J + 1 = c.requires.whole.1 in (
      lit< tt,
      (
        lit< tt,
        (
          tt,
          (
            c.requires.room.1,
            (
              subst (λ n. vec_len c.of-part_2.new.parts ≡ min g.B.ShardNaming.shards n) next c.of-part_2.ensures.left,
              (
                c.of-part_2.ensures.named,
                (
                  omega (arith, next, c.of-part_2.ensures.count),
                  (
                    c.of-part_2.ensures.spare,
                    (
                      subst (λ n. AllFrom (λ k w. IsWorkerAt (g.B.ShardNaming.names k) w) n c.of-part_2.new.own.items) next c.of-part_2.ensures.own,
                      subst (λ n. AllFrom (λ k w. IsFirstOf (g.B.ShardNaming.names k) w) n c.of-part_2.new.own.items) next c.of-part_2.ensures.first,
                    ),
                  ),
                ),
              ),
            ),
          ),
        ),
      ),
    )

pub of-part_0-requires : goal.of-part_0-requires
of-part_0-requires g c =
    let next : g.row.J ≡ g.row.I + 1 = c.requires.whole.0 in (
      lit< tt,
      (
        lit< tt,
        (
          tt,
          (
            c.requires.room.0,
            (
              subst (λ n. vec_len c.of-part_1.new.parts ≡ min g.B.ShardNaming.shards n) next c.of-part_1.ensures.left,
              (
                c.of-part_1.ensures.named,
                (
                  omega (arith, next, c.of-part_1.ensures.count),
                  (
                    c.of-part_1.ensures.spare,
                    (
                      subst (λ n. AllFrom (λ k w. IsWorkerAt (g.B.ShardNaming.names k) w) n c.of-part_1.new.own.items) next c.of-part_1.ensures.own,
                      subst (λ n. AllFrom (λ k w. IsFirstOf (g.B.ShardNaming.names k) w) n c.of-part_1.new.own.items) next c.of-part_1.ensures.first,
                    ),
                  ),
                ),
              ),
            ),
          ),
        ),
      ),
    )
