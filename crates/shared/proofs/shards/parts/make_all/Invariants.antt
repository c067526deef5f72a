use Rattle.std.proofs.Common.{◌≡◌, ◌≤◌, ◌+◌, drop, true, vec_len}
use Rattle.std.specs.Prelude.{All, vec_capacity}
use Rattle.catalog.specs.Cataloged.{fits}
use Rattle.shared.specs.Keeps.{IsDisk}
use Rattle.shared.specs.ShardParts.{AllFirst}
use Rattle.shared.specs.ShardSeats.{AreCallers}
use Rattle.shared.proofs.ShardMaking.{Made}
use Rattle.shared.proofs.shards.parts.make_all.Given as goal

abbrev pub invariant-loop-alloc : goal.invariant-loop-alloc
invariant-loop-alloc g l =
    AllFirst (Made g.D.BlockDevice.told g.T.Trail.whole l.geometry (vec_len l.fn.seats)) l.made.items l.fn.left.items
    × (l.left.items ≡ drop (vec_len l.made) l.fn.left.items)
    × (vec_len l.made + vec_len l.left ≤ vec_capacity l.made)
    × (vec_len l.seats ≡ vec_len l.fn.seats)
    × AreCallers l.made.items l.seats.items
    × All (λ s. IsDisk l.geometry (g.D.BlockDevice.told s.device)) l.left.items
    × All (λ s. fits l.geometry s.files ≡ true) l.left.items

abbrev pub decreases-loop-alloc : goal.decreases-loop-alloc
decreases-loop-alloc g l = vec_len l.left
