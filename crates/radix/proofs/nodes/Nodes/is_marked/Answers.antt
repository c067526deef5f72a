use Rattle.std.proofs.Common.{arith}
use Rattle.radix.proofs.TrailLemmas.{none_held}
use Rattle.radix.proofs.VoidLemmas.{void_at, void_no_found, void_no_next}
use Rattle.radix.proofs.nodes.Nodes.is_marked.Goals as goal

pub returns-in-None : goal.returns-in-None
returns-in-None c =
    let void = void_at c.self.inside.slab c.args.self.now c.self.inside.head c.self.invariant.sound c.in-None.is c.self.view_is in
    record {
      here = λ level. (void_no_next c.args.self.now void c.args.mark c.args.index).each level c.args.index (omega arith);
      held = none_held c.args.self.now c.args.mark c.args.index (void_no_found c.args.self.now void c.args.index);
    }
