use Rattle.std.proofs.Common.{false, [], replicate}
use Rattle.tests_ring.proofs.tests.ring_of.Given as goal

-- the sides of 128 blocks, of which no bytes are told
abbrev pub ghost-new : goal.ghost-new
ghost-new g a = (false, replicate 128 [])
