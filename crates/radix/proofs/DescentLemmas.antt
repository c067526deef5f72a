-- Lemmas on a walk that makes nodes on its way.
use Rattle.std.proofs.Common.{◌≡◌, ◌≢◌, ℕ, ◌+◌, ◌-◌, ◌/◌, ◌%◌, ◌^◌, ◌<◌, true, cond, Option, Some, None, refl, sym, ap, ◌∙◌, inl, inr, arith}
use Rattle.std.proofs.lemmas.Bool.{cases_eq}
use Rattle.std.proofs.lemmas.Option.{none-some}
use Rattle.slab.specs.Slab.{Slab, get, HasRoomFor, slab_len}
use Rattle.radix.specs.declared.node.Node.{Node}
use Rattle.radix.specs.declared.slot.Slot.{Slot}
use Rattle.radix.specs.declared.slot.Slot.TheVariants.{Empty, Leaf, Child, Sibling}
use Rattle.radix.specs.Entries.{slot, IsClear, StandsAt, content}
use Rattle.radix.specs.Tree.{is_used, IsPlain, IsNode, NoneEmptyBut, IsSound, SameSlots, HasCome, HasGap, level_of}
use Rattle.radix.proofs.Places.{place-up}
use Rattle.radix.proofs.TreeLemmas.{same_node}
use Rattle.radix.proofs.SeeLemmas.{see-is}
use Rattle.radix.proofs.GrowthLemmas.{count_by-set}
use Rattle.radix.proofs.WalkLemmas.{on_path, above, step, lower}

-- a node with a used slot is not empty
pub used_counts : (n : Node) (offset : ℕ) → IsNode n → offset < 64 → is_used (slot n offset) ≡ true → 0 < n.count
used_counts n offset node within used =
    let e = count_by-set is_used n.slots offset Empty Empty (omega (arith, node.slots)) in
    let f : cond (is_used (slot n offset)) 1 0 ≡ 1 = ap {B = ℕ} (λ b. cond b 1 0) used in
    omega (arith, e, f, node.count)

pub filled_but : (s : Slab Node) (key : ℕ) (n : Node) (but : Option ℕ) → get s key ≡ Some n → 0 < n.count → NoneEmptyBut s (Some key) → NoneEmptyBut s but
filled_but s key n but there some filled = record {
  each = λ x y at apart. elim (cases_eq x key) [
    | inl same ↦ let e = ap (λ (z : Node). z.count) (same_node s x key y n same at there) in omega (arith, some, e)
    | inr differs ↦ filled.each x y at (λ e. differs (let f : x ≡ key = cc in f))
  ];
}

pub SameSlots-refl : (s : Slab Node) → SameSlots s s
SameSlots-refl s = record { entries = λ level place. refl; marks = λ mark level place low. refl }

pub SameSlots-trans : (a b c : Slab Node) → SameSlots a b → SameSlots b c → SameSlots a c
SameSlots-trans a b c p q = record {
  entries = λ level place. q.entries level place ∙ p.entries level place;
  marks = λ mark level place low. q.marks mark level place low ∙ p.marks mark level place low;
}

pub empty_from : (x : Slot) → IsPlain x → content x ≡ None → x ≡ Empty
empty_from Empty plain e = refl
empty_from (Leaf value) plain e = absurd (none-some _ (sym e))
empty_from (Child key) plain e = absurd plain
empty_from (Sibling offset) plain e = absurd (none-some _ (sym e))

module _ (old s : Slab Node) (head level index key : ℕ) (n : Node) (sound : IsSound s head (Some key)) (come : HasCome s key level index) (entries : SameSlots old s) (there : get s key ≡ Some n) (differs : n.level ≢ level) where
  node_is : IsNode n
  node_is = sound.tree.nodes key n there

  pub down_smaller : (child : ℕ) → slot n (index / 64 ^ n.level % 64) ≡ Child child → level_of (get s child) < level_of (get s key)
  down_smaller child names = lower s head sound.tree level index key n there come child names

  pub down_sound : (child : ℕ) → slot n (index / 64 ^ n.level % 64) ≡ Child child → IsSound s head (Some child)
  down_sound child names =
      let some = used_counts n (index / 64 ^ n.level % 64) node_is (omega arith) (ap is_used names) in
      record { tree = sound.tree; exact = sound.exact; filled = filled_but s key n (Some child) there some sound.filled }

  pub down_come : (child : ℕ) → slot n (index / 64 ^ n.level % 64) ≡ Child child → HasCome s child level index
  down_come child names = step s head sound.tree level index key n there come child differs names

  pub down_room : (child : ℕ) → slot n (index / 64 ^ n.level % 64) ≡ Child child → HasRoomFor s (level_of (get s key) - level) → HasRoomFor s (level_of (get s child) - level)
  down_room child names room = omega (arith, room, down_smaller child names)

  higher : level < n.level
  higher = omega (arith, above s head sound.tree level index key n there come, differs)

  pub gap : IsClear old level index → IsPlain (slot n (index / 64 ^ n.level % 64)) → HasGap s key index
  gap clear plain =
      let path = on_path s head sound.tree level index key n there come in
      let e = see-is (λ m o. content (slot m o)) None s head sound.tree n.level (index / 64 ^ n.level) key n there refl path in
      let f : content (slot n (index / 64 ^ n.level % 64)) ≡ None = sym e ∙ entries.entries n.level (index / 64 ^ n.level) ∙ clear.each n.level higher in
      record { node = n; there = there; inner = omega (arith, higher); on_path = path; empty = empty_from _ plain f }

  pub gap_room : HasRoomFor s (level_of (get s key) - level) → HasRoomFor s 1
  gap_room room = let e : level_of (get s key) ≡ n.level = ap level_of there in omega (arith, room, higher, e)

  -- after a node was made
  module _ (new : Slab Node) (child : ℕ) (stands : StandsAt new child (level_of (get s key) - 1) (index / 64 ^ level_of (get s key))) where
    level_is : stands.node.level + 1 ≡ n.level
    level_is = let e : level_of (get s key) ≡ n.level = ap level_of there in omega (arith, stands.level_is, higher, e)

    pub made_come : HasCome new child level index
    made_come =
        let e : level_of (get s key) ≡ n.level = ap level_of there in
        let f : index / 64 ^ (stands.node.level + 1) ≡ index / 64 ^ level_of (get s key) = ap (λ l. index / 64 ^ l) (level_is ∙ sym e) in
        record { node = stands.node; there = stands.there; above = omega (arith, level_is, higher); on_path = stands.prefix_is ∙ sym f ∙ sym (place-up index stands.node.level) }

    pub made_room : slab_len new ≡ slab_len s + 1 → new.capacity ≡ s.capacity → HasRoomFor s (level_of (get s key) - level) → HasRoomFor new (level_of (get new child) - level)
    made_room len capacity room =
        let e : level_of (get s key) ≡ n.level = ap level_of there in
        let f : level_of (get new child) ≡ stands.node.level = ap level_of stands.there in
        omega (arith, room, len, capacity, e, f, level_is, higher)

    pub made_entries : SameSlots s new → SameSlots old new
    made_entries more = SameSlots-trans old s new entries more
