use Rattle.frames.proofs.TiedLemmas.{tied_lent}
use Rattle.frames.proofs.frames.Frames.bytes_mut.Goals as goal

pub invariant_of-self-lent : goal.invariant_of-self-lent
invariant_of-self-lent c = λ w. (tied_lent c.self.inside.lists c.self.inside.free c.self.inside.referenced.items c.self.inside.owners.items c.self.inside.bytes c.self.invariant.0 c.args.frame.0 w, c.self.invariant.1)
