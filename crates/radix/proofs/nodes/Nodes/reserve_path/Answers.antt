use Rattle.std.proofs.Common.{◌≡◌, false, true, arith}
use Rattle.radix.proofs.VoidLemmas.{whole_at}
use Rattle.radix.proofs.RoomLemmas.{roomy_need, room_enough, keys_at}
use Rattle.radix.proofs.nodes.Nodes.reserve_path.Goals as goal

pub invariant_of-self : goal.invariant_of-self
invariant_of-self c = whole_at c.self.inside.slab c.reserve.new.self c.self.inside.head c.reserve.ensures.rest_kept c.self.invariant

pub returns-in_err-reserve-clause-succeeds : goal.returns-in_err-reserve-clause-succeeds
returns-in_err-reserve-clause-succeeds c = λ room.
    let e : false ≡ true = c.in_err-reserve.ensures.succeeds (room_enough c.self.inside.slab c.args.self.now c.args.level c.args.index c.path_need-need.result c.self.view_is c.path_need-need.ensures.least room) in
    absurd (cc)

pub invariant_of-self-then-capacity-ge4611686018427387904 : goal.invariant_of-self-then-capacity-ge4611686018427387904
invariant_of-self-then-capacity-ge4611686018427387904 c = whole_at c.self.inside.slab c.reserve.new.self c.self.inside.head c.reserve.ensures.rest_kept c.self.invariant

pub returns-then-capacity-ge4611686018427387904-clause-succeeds : goal.returns-then-capacity-ge4611686018427387904-clause-succeeds
returns-then-capacity-ge4611686018427387904-clause-succeeds c = λ room.
    let same = c.reserve.ensures.had_room (room_enough c.self.inside.slab c.args.self.now c.args.level c.args.index c.path_need-need.result c.self.view_is c.path_need-need.ensures.least room) in
    let keys = keys_at c.self.inside.slab c.args.self.now c.reserve.new.self c.args.level c.args.index c.self.view_is same room in
    absurd (omega (arith, c.capacity.ensures.value, keys, c.if-capacity-ge4611686018427387904.true))

pub invariant_of-self-2 : goal.invariant_of-self-2
invariant_of-self-2 c = whole_at c.self.inside.slab c.reserve.new.self c.self.inside.head c.reserve.ensures.rest_kept c.self.invariant

pub returns-clause-room : goal.returns-clause-room
returns-clause-room c = record {
  need = c.path_need-need.result;
  enough = roomy_need c.self.inside.slab c.reserve.new.self c.args.level c.args.index c.path_need-need.result c.reserve.ensures.rest_kept c.path_need-need.ensures.need;
  room = c.in_ok-reserve.ensures.room;
  keys = omega (arith, c.capacity.ensures.value, c.if-capacity-ge4611686018427387904.false);
}
