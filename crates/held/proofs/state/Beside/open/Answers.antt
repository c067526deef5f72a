use Rattle.std.proofs.Common.{rules}
use Rattle.held.proofs.Openings.{opens}
use Rattle.held.proofs.state.Beside.open.Goals as goal

pub invariant_of-opened : goal.invariant_of-opened
invariant_of-opened g c =
    let f = c.requires.fresh in (f.1, opens _ _ f.1 f.0 c.args.name f.2 (search rules) f.3 (search rules))
