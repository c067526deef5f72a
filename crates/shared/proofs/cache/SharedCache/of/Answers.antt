use Rattle.std.proofs.Common.{arith, rules}
use Rattle.shared.proofs.CallCounts.{made_first}
use Rattle.shared.proofs.Serving.{first_over}
use Rattle.shared.proofs.cache.SharedCache.of.Goals as goal

pub of-state-requires-clause-first : goal.of-state-requires-clause-first
of-state-requires-clause-first g c = λ tells.
    first_over g.B.Naming.files g.B.Naming.sizes g.B.Naming.name g.B.Naming.blocks (g.D.BlockDevice.told c.args.parts.device)
    c.requires.files (search rules) c.requires.device c.blocks-2.ensures.sized (c.requires.blocks.0 tells)

-- no call was made yet by a deed
pub of-disk-requires-clause-made : goal.of-disk-requires-clause-made
of-disk-requires-clause-made g c =
    made_first g.B.Naming.calls c.args.parts.deeds.blocks c.named-desk.result.1 (g.D.BlockDevice.told c.args.parts.device)
    c.named-desk.ensures.device c.requires.calls (omega (arith, c.calls.ensures, c.calls.type_inv))
