use Rattle.std.proofs.Common.{sym, ◌∙◌}
use Rattle.radix.proofs.VoidLemmas.{bare_len, len_bare}
use Rattle.radix.proofs.nodes.Nodes.count.Goals as goal

pub returns-clause-bare : goal.returns-clause-bare
returns-clause-bare c = (λ bare. c.len.ensures ∙ bare_len c.self.inside.slab c.args.self.now c.self.inside.head c.self.invariant.sound c.self.view_is bare, λ none. rw (c.self.view_is) at (len_bare c.self.inside.slab (sym c.len.ensures ∙ none)))
