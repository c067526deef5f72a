-- Lemmas on another value for an entry.
use Rattle.std.proofs.Common.{◌≡◌, ℕ, ◌+◌, ◌/◌, ◌%◌, ◌^◌, true, cond, Some, None, refl, sym, ap, ◌∙◌, arith}
use Rattle.std.proofs.lemmas.Option.{same_Some}
use Rattle.slab.specs.Slab.{Slab, get, Updates, with_value}
use Rattle.slab.proofs.SlabLemmas.{Updates-with_value}
use Rattle.radix.specs.declared.node.Node.{Node}
use Rattle.radix.specs.declared.slot.Slot.{Slot}
use Rattle.radix.specs.declared.slot.Slot.TheVariants.{Empty, Leaf, Child, Sibling}
use Rattle.radix.specs.declared.entry.Entry.TheVariants as entry
use Rattle.radix.specs.Entries.{slot, StandsAt, content, entry_at, IsLeaf}
use Rattle.radix.specs.Tree.{is_used, IsPlain, IsLeafSlot, IsSound, with_slot, WritesSlot}
use Rattle.radix.proofs.TreeLemmas.{contains_key}
use Rattle.radix.proofs.SeeLemmas.{see-is}
use Rattle.radix.proofs.WriteLemmas.{put_tree, put_exact, put_filled, put_entries}
use Rattle.radix.proofs.PutLemmas.{WritesSlot-at}

module _ (old : Slab Node) (head level index key o : ℕ) (n : Node) (value : ℕ) (sound : IsSound old head None) (leaf : IsLeaf (entry_at old level (index / 64 ^ level))) (stands : StandsAt old key level (index / 64 ^ level / 64)) (was : get old key ≡ Some n) (is_offset : o ≡ index / 64 ^ level % 64) where
  abbrev place : ℕ
  place = index / 64 ^ level

  abbrev new : Slab Node
  new = with_value old key (with_slot n (place % 64) (Leaf value) n.count)

  same : stands.node ≡ n
  same = same_Some stands.node n (sym stands.there ∙ was)

  level_is : n.level ≡ level
  level_is = sym (ap (λ (z : Node). z.level) same) ∙ stands.level_is

  on_path : n.prefix ≡ place / 64
  on_path = sym (ap (λ (z : Node). z.prefix) same) ∙ stands.prefix_is

  leaf_of : (x : Slot) → IsLeaf (content x) → IsLeafSlot x
  leaf_of Empty e = e
  leaf_of (Leaf v) e = e
  leaf_of (Child c) e = absurd e
  leaf_of (Sibling f) e = e

  is_leaf : IsLeafSlot (slot n (place % 64))
  is_leaf =
      let e = see-is (λ z i. content (slot z i)) None old head sound.tree level place key n was level_is on_path in
      leaf_of (slot n (place % 64)) (rw (sym e) leaf)

  plain_of : (x : Slot) → IsLeafSlot x → IsPlain x
  plain_of Empty e = tt
  plain_of (Leaf v) e = tt
  plain_of (Child c) e = e
  plain_of (Sibling f) e = tt

  used_of : (x : Slot) → IsLeafSlot x → is_used x ≡ true
  used_of Empty e = absurd e
  used_of (Leaf v) e = refl
  used_of (Child c) e = absurd e
  used_of (Sibling f) e = refl

  counts : n.count + cond (is_used (slot n (place % 64))) 1 0 ≡ n.count + cond (is_used (Leaf value)) 1 0
  counts = let e : cond (is_used (slot n (place % 64))) 1 0 ≡ 1 = ap {B = ℕ} (λ b. cond b 1 0) (used_of (slot n (place % 64)) is_leaf) in omega (arith, e)

  weak : IsSound old head (Some key)
  weak = record { tree = sound.tree; exact = sound.exact; filled = record { each = λ x y at but. sound.filled.each x y at (λ e. cc) } }

  updates : Updates old new key (Some (with_slot n (place % 64) (Leaf value) n.count))
  updates = Updates-with_value old key (with_slot n (place % 64) (Leaf value) n.count) (contains_key old key n was)

  plain : IsPlain (slot n (place % 64))
  plain = plain_of (slot n (place % 64)) is_leaf

  new_sound : IsSound new head None
  new_sound = record {
    tree = put_tree old new head key n place (Leaf value) n.count weak was on_path plain (λ mark low. tt) counts updates;
    exact = put_exact old new head key n place (Leaf value) n.count weak was on_path plain (λ mark low. tt) counts updates;
    filled = put_filled old new head key n place (Leaf value) n.count weak was on_path plain (λ mark low. tt) counts updates None (λ e. sound.filled.each key n was e) sound.filled;
  }

  pub replace_sound : IsSound (with_value old key (with_slot n o (Leaf value) n.count)) head None
  replace_sound = rw is_offset new_sound

  pub replace_writes : WritesSlot old (with_value old key (with_slot n o (Leaf value) n.count)) level place (Some (entry.Leaf value))
  replace_writes = rw is_offset (WritesSlot-at old new n.level level place (Some (entry.Leaf value)) level_is (put_entries old new head key n place (Leaf value) n.count weak was on_path plain (λ mark low. tt) counts updates))

  pub replace_stands : StandsAt (with_value old key (with_slot n o (Leaf value) n.count)) key level (place / 64)
  replace_stands = rw is_offset (record { node = with_slot n (place % 64) (Leaf value) n.count; there = updates.changed; level_is = level_is; prefix_is = on_path })
