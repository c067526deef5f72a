use Rattle.std.proofs.Common.{IfSome, ◌≡◌, subst}
use Rattle.radix.specs.Entries.{IsNextAt}
use Rattle.radix.specs.Twigs.{mark_of}
use Rattle.radix.proofs.twig.next_on.Goals as goal

pub returns-clause-next : goal.returns-clause-next
returns-clause-next c = subst (λ m. IfSome c.taken.result (λ r. IsNextAt c.args.nodes.now m c.args.from r.place r.value)) c.in-Some.ensures.mark c.taken.ensures.next

pub returns-clause-mark : goal.returns-clause-mark
returns-clause-mark c = subst (λ m. IfSome c.taken.result (λ r. mark_of r.twig ≡ m)) c.in-Some.ensures.mark c.taken.ensures.mark
