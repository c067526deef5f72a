use Rattle.std.proofs.Common.{sym, ap, ◌∙◌}
use Rattle.radix.specs.Entries.{content}
use Rattle.radix.proofs.FindLemmas.{low_stands, low_walked}
use Rattle.radix.proofs.tree.walk_in.Goals as goal

pub returns-clause-found : goal.returns-clause-found
returns-clause-found c =
    low_walked c.args.nodes.now c.args.head c.requires c.args.index c.args.key c.in-Some.node.now (sym c.in-Some.ensures) c.if-node-ne0.false c.if-node-index.false
    c.entry_of.result (ap content (sym c.read-slot.ensures) ∙ sym c.entry_of.ensures)

pub returns-clause-stands : goal.returns-clause-stands
returns-clause-stands c =
    rw (c.at.ensures) (low_stands c.args.nodes.now c.args.head c.requires c.args.index c.args.key c.in-Some.node.now (sym c.in-Some.ensures) c.if-node-ne0.false c.if-node-index.false)
