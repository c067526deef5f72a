use Rattle.radix.proofs.TrailLemmas.{none_held}
use Rattle.radix.proofs.VoidLemmas.{void_at, void_no_found, void_no_next}
use Rattle.radix.proofs.nodes.Nodes.next_held.Goals as goal

pub returns-in-None-clause-next : goal.returns-in-None-clause-next
returns-in-None-clause-next c =
    let void = void_at c.self.inside.slab c.args.self.now c.self.inside.head c.self.invariant.sound c.in-None.is c.self.view_is in
    (void_no_next c.args.self.now void c.args.mark c.args.index, none_held c.args.self.now c.args.mark c.args.index (void_no_found c.args.self.now void c.args.index))
