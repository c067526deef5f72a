-- What is told of a page's block.
use Rattle.pc_types.specs.Spots.{Spot}
use Rattle.blockmap.specs.declared.spots.Placed.{Placed}

abbrev pub told : Spot → Placed
told spot = record { block = record { 0 = spot.block }; valid = spot.valid }
