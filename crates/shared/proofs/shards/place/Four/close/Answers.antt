use Rattle.std.proofs.Common.{lit<, subst}
use Rattle.shared.specs.ShardEnds.{HasEndedFrom}
use Rattle.shared.proofs.shards.place.Four.close.Goals as goal

pub close-requires-2 : goal.close-requires-2
close-requires-2 g c =
    let own = c.requires.ended.0 in
    let rows = c.requires.ended.1 in
    let all = c.requires.ended.2 in
    let ended = c.requires.ended.3 in
    let shards = g.B.ShardNaming.shards in
    let names = g.B.ShardNaming.names in
    let after_1 = subst (λ n. HasEndedFrom n shards names g.T.Trail.records g.T.Trail.cache g.D.BlockDevice.told own rows c.close.new.workers.items c.close.new.seats.items c.close.new.ends) c.requires.whole.2 (c.close.ensures.ended own rows all ended) in
    (lit< tt, (own, rows, all, after_1))

pub close-requires-3 : goal.close-requires-3
close-requires-3 g c =
    let own = c.requires.ended.0 in
    let rows = c.requires.ended.1 in
    let all = c.requires.ended.2 in
    let ended = c.requires.ended.3 in
    let shards = g.B.ShardNaming.shards in
    let names = g.B.ShardNaming.names in
    let after_1 = subst (λ n. HasEndedFrom n shards names g.T.Trail.records g.T.Trail.cache g.D.BlockDevice.told own rows c.close.new.workers.items c.close.new.seats.items c.close.new.ends) c.requires.whole.2 (c.close.ensures.ended own rows all ended) in
    let after_2 = subst (λ n. HasEndedFrom n shards names g.T.Trail.records g.T.Trail.cache g.D.BlockDevice.told own rows c.close-2.new.workers.items c.close-2.new.seats.items c.close-2.new.ends) c.requires.whole.1 (c.close-2.ensures.ended own rows all after_1) in
    (lit< tt, (own, rows, all, after_2))

pub close-requires-4 : goal.close-requires-4
close-requires-4 g c =
    let own = c.requires.ended.0 in
    let rows = c.requires.ended.1 in
    let all = c.requires.ended.2 in
    let ended = c.requires.ended.3 in
    let shards = g.B.ShardNaming.shards in
    let names = g.B.ShardNaming.names in
    let after_1 = subst (λ n. HasEndedFrom n shards names g.T.Trail.records g.T.Trail.cache g.D.BlockDevice.told own rows c.close.new.workers.items c.close.new.seats.items c.close.new.ends) c.requires.whole.2 (c.close.ensures.ended own rows all ended) in
    let after_2 = subst (λ n. HasEndedFrom n shards names g.T.Trail.records g.T.Trail.cache g.D.BlockDevice.told own rows c.close-2.new.workers.items c.close-2.new.seats.items c.close-2.new.ends) c.requires.whole.1 (c.close-2.ensures.ended own rows all after_1) in
    let after_3 = subst (λ n. HasEndedFrom n shards names g.T.Trail.records g.T.Trail.cache g.D.BlockDevice.told own rows c.close-3.new.workers.items c.close-3.new.seats.items c.close-3.new.ends) c.requires.whole.0 (c.close-3.ensures.ended own rows all after_2) in
    (lit< tt, (own, rows, all, after_3))

pub returns : goal.returns
returns g c =
    let shards = g.B.ShardNaming.shards in
    let names = g.B.ShardNaming.names in
    record {
      ended = λ own rows all ended.
          let after_1 = subst (λ n. HasEndedFrom n shards names g.T.Trail.records g.T.Trail.cache g.D.BlockDevice.told own rows c.close.new.workers.items c.close.new.seats.items c.close.new.ends) c.requires.whole.2 (c.close.ensures.ended own rows all ended) in
          let after_2 = subst (λ n. HasEndedFrom n shards names g.T.Trail.records g.T.Trail.cache g.D.BlockDevice.told own rows c.close-2.new.workers.items c.close-2.new.seats.items c.close-2.new.ends) c.requires.whole.1 (c.close-2.ensures.ended own rows all after_1) in
          let after_3 = subst (λ n. HasEndedFrom n shards names g.T.Trail.records g.T.Trail.cache g.D.BlockDevice.told own rows c.close-3.new.workers.items c.close-3.new.seats.items c.close-3.new.ends) c.requires.whole.0 (c.close-3.ensures.ended own rows all after_2) in
          let after_4 = c.close-4.ensures.ended own rows all after_3 in
          after_4;
    }
