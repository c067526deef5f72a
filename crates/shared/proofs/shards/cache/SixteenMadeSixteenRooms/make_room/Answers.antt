use Rattle.shared.proofs.shards.cache.SixteenMadeSixteenRooms.make_room.Goals as goal

pub returns : goal.returns
returns g c = (c.in_ok-make_room.ensures, c.in_ok-make_room-2.ensures, c.in_ok-make_room-3.ensures, c.in_ok-make_room-4.ensures)
