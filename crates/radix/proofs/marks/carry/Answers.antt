use Rattle.std.proofs.Common.{◌≡◌, ℕ, ◌<◌, ◌-◌, ◌%◌, Some, None, sym, ◌∙◌, refl, min}
use Rattle.slab.specs.Slab.{Slab, get, with_value}
use Rattle.radix.specs.declared.node.Node.{Node}
use Rattle.radix.specs.Entries.{bits}
use Rattle.radix.specs.Tree.{with_bits, IsTree, MarkIsExactBut, Remarks, level_of}
use Rattle.radix.specs.Bitmap.{ChangesBit}
use Rattle.radix.proofs.TreeLemmas.{is_under, contains_key}
use Rattle.radix.proofs.MarkLemmas.{ChangesBit-at, some_test, same_test, step_above, step_all, step_remarks, step_tree, step_there, step_nearer, Remarks-trans, exact_at_head}
use Rattle.radix.proofs.marks.carry.Goals as goal
use Rattle.radix.proofs.marks.carry.Goals.{After-put_bit-now}

pub returns-in_default-clause-exact : goal.returns-in_default-clause-exact
returns-in_default-clause-exact c = exact_at_head c.up.nodes c.args.head c.up.invariant.tree c.args.mark c.up.child c.index-below.result.now c.index-below.ensures (sym c.key.ensures ∙ c.in_default.is) c.up.invariant.exact

pub index_mut-node-requires : goal.index_mut-node-requires
index_mut-node-requires c =
    let under = is_under c.up.nodes c.args.head c.up.invariant.tree c.up.child c.index-below.result.now c.in-Some.parent c.index-below.ensures (sym c.key.ensures ∙ c.in-Some.is) in
    contains_key c.up.nodes c.in-Some.parent under.above under.there

module _ (c : After-put_bit-now) where
  abbrev s : Slab Node
  s = c.up.nodes

  abbrev child : Node
  child = c.index-below.result.now

  abbrev n : Node
  n = c.index_mut-node.result.now

  abbrev b : ℕ
  b = c.put_bit-now.result

  abbrev new : Slab Node
  new = with_value s c.in-Some.parent (with_bits n c.args.mark b)

  changes : ChangesBit (bits n c.args.mark) b (child.prefix % 64) (min (bits child c.args.mark) 1)
  changes = ChangesBit-at (bits n c.args.mark) b (child.prefix % 64) (child.prefix % 64) (min (bits child c.args.mark) 1) _ refl (sym (some_test (bits child c.args.mark))) c.put_bit-now.ensures

  exact : MarkIsExactBut new c.args.mark (Some c.in-Some.parent)
  exact = step_above s c.args.head c.up.invariant.tree c.args.mark c.up.child child c.in-Some.parent n b c.index-below.ensures (sym c.key.ensures ∙ c.in-Some.is) c.index_mut-node.ensures.value c.requires.mark c.put_bit-now.type_inv changes c.up.invariant.exact

  all : min b 1 ≡ min (bits n c.args.mark) 1 → MarkIsExactBut new c.args.mark None
  all = step_all s c.args.head c.up.invariant.tree c.args.mark c.up.child child c.in-Some.parent n b c.index-below.ensures (sym c.key.ensures ∙ c.in-Some.is) c.index_mut-node.ensures.value c.requires.mark c.put_bit-now.type_inv changes c.up.invariant.exact

  tree : IsTree new c.args.head
  tree = step_tree s c.args.head c.up.invariant.tree c.args.mark c.up.child child c.in-Some.parent n b c.index-below.ensures (sym c.key.ensures ∙ c.in-Some.is) c.index_mut-node.ensures.value c.requires.mark c.put_bit-now.type_inv changes c.up.invariant.exact

  remarked : Remarks c.args.mark c.args.nodes.now new
  remarked = Remarks-trans c.args.mark c.args.nodes.now s new c.up.invariant.remarks
      (step_remarks s c.args.head c.up.invariant.tree c.args.mark c.up.child child c.in-Some.parent n b c.index-below.ensures (sym c.key.ensures ∙ c.in-Some.is) c.index_mut-node.ensures.value c.requires.mark c.put_bit-now.type_inv changes c.up.invariant.exact)

  nearer : 10 - level_of (get new c.in-Some.parent) < 10 - level_of (get s c.up.child)
  nearer = step_nearer s c.args.head c.up.invariant.tree c.args.mark c.up.child child c.in-Some.parent n b c.index-below.ensures (sym c.key.ensures ∙ c.in-Some.is) c.index_mut-node.ensures.value c.requires.mark c.put_bit-now.type_inv changes c.up.invariant.exact

  now_there : get new c.in-Some.parent ≡ Some (with_bits n c.args.mark b)
  now_there = step_there s c.args.head c.up.invariant.tree c.args.mark c.up.child child c.in-Some.parent n b c.index-below.ensures (sym c.key.ensures ∙ c.in-Some.is) c.index_mut-node.ensures.value c.requires.mark c.put_bit-now.type_inv changes c.up.invariant.exact

pub returns-then-bits-now : goal.returns-then-bits-now
returns-then-bits-now c =
    let w = (goal.at.returns-then-bits-now c).After-put_bit-now in
    record { tree = tree w; exact = all w (same_test (bits (n w) c.args.mark) (b w) c.if-bits-now.true); remarks = remarked w }

pub up-smaller : goal.up-smaller
up-smaller c = nearer (goal.at.up-smaller c).After-put_bit-now

pub up-preserved : goal.up-preserved
up-preserved c =
    let w = (goal.at.up-preserved c).After-put_bit-now in
    record {
      there = contains_key (new w) c.in-Some.parent (with_bits (n w) c.args.mark (b w)) (now_there w);
      tree = tree w;
      exact = exact w;
      remarks = remarked w;
    }
