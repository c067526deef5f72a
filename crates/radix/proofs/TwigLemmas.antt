-- Lemmas on a walk that goes on from a node of the lowest level and the node above it.
use Rattle.std.proofs.Common.{◌≡◌, ◌≢◌, ℕ, ◌+◌, ◌-◌, ◌*◌, ◌/◌, ◌%◌, ◌^◌, ◌<◌, ◌≤◌, Option, Some, None, IfSome, refl, sym, ap, ◌∙◌, subst, inl, inr, arith}
use Rattle.std.specs.Int.{bit_at}
use denote.Ref.{Bor}
use Rattle.std.proofs.lemmas.Bool.{cases_eq}
use Rattle.std.proofs.lemmas.Nat.Bits.{bit_at-zero}
use Rattle.std.proofs.lemmas.Option.{none-some, same_Some}
use Rattle.slab.specs.Slab.{Slab, get, ContainsKey}
use Rattle.radix.specs.declared.node.Node.{Node}
use Rattle.radix.specs.declared.slot.Slot.{Slot}
use Rattle.radix.specs.declared.slot.Slot.TheVariants.{Empty, Leaf, Child, Sibling}
use Rattle.radix.specs.declared.entry.Entry.TheVariants as entry
use Rattle.radix.specs.declared.entry.Rest.{Rest}
use Rattle.radix.specs.declared.entry.Twig.{Twig}
use Rattle.radix.specs.declared.entry.Onward.{Onward}
use Rattle.radix.specs.Bitmap.{AreFrom, ChangesBit, IsLowestFrom, NoneFrom}
use Rattle.radix.specs.Entries.{IsNext, IsNextAt, IsNextEntryAt, IsSingle, StandsAt, bits, entry_at, slot}
use Rattle.radix.specs.Tree.{HasClimbed, IsLeafSlot, IsRooted, IsSound, IsSoundOrVoid, TellsEntries}
use Rattle.radix.specs.Twigs.{IsAimed, IsLeftAbove, IsRest, IsTwig}
use Rattle.radix.proofs.AheadLemmas.{at_leaf, near_next, near_up, under_lowest, under_place, under_some, under_there}
use Rattle.radix.proofs.EntryBitLemmas.{next_entry}
use Rattle.radix.proofs.RunLemmas.{beside_is, sibling_of}
use Rattle.radix.proofs.TreeLemmas.{lowest_plain}

-- ---- the bits that are left

module _ (all from rest : ℕ) (are : AreFrom all from rest) where
  pub left_lowest : (o : ℕ) → IsLowestFrom rest 0 o → IsLowestFrom all from o
  left_lowest o is = record {
    within = is.within;
    above = reached;
    set = sym (are.same o reached is.within) ∙ is.set;
    lowest = λ other low high. sym (are.same other low (let w = is.within in omega (arith, high, w))) ∙ is.lowest other (omega arith) high;
  }
    where
      not_below : o < from → ⊥
      not_below less = let z = are.none o less in let e = is.set in omega (arith, z, e)

      reached : from ≤ o
      reached = omega (arith, not_below)

  pub left_none : rest ≡ 0 → NoneFrom all from
  left_none zero = λ other low high. sym (are.same other low high) ∙ ap (λ z. bit_at z other) zero ∙ bit_at-zero other

  pub left_after : (o : ℕ) → IsLowestFrom rest 0 o → (more : ℕ) → ChangesBit rest more o 0 → AreFrom all (o + 1) more
  left_after o is more changes = record {
    same = λ other low high. changes.others other high (omega (arith, low)) ∙ are.same other (let a = (left_lowest o is).above in omega (arith, a, low)) high;
    none = λ other less. elim (cases_eq other o) [
      | inl same ↦ ap (bit_at more) same ∙ changes.changed
      | inr differs ↦ changes.others other (let w = is.within in omega (arith, less, w)) differs ∙ is.lowest other (omega arith) (omega (arith, less, differs))
    ];
  }

pub left_all : (all : ℕ) → AreFrom all 0 all
left_all all = record { same = λ other low high. refl; none = λ other less. absurd (omega (arith, less)) }

-- ---- a twig

module _ (s : Slab Node) (head : ℕ) (sound : IsSound s head None) (from : ℕ) (t : Twig) (on : IsTwig s from t) where
  -- the slot before the index
  abbrev place : ℕ
  place = on.prefix * 64 + on.offset

  up : place / 64 ≡ on.prefix
  up = let w = on.within in omega (arith, w)

  at : place % 64 ≡ on.offset
  at = let w = on.within in omega (arith, w)

  after : from ≡ place + 1
  after = on.after

  pub twig_stands : StandsAt s t.key 0 (place / 64)
  twig_stands = record { node = t.leaf.node.now; there = on.leaf.there; level_is = on.leaf.level_is; prefix_is = on.leaf.prefix_is ∙ sym up }

  -- where something is left of the node, the first of it is next
  pub twig_aimed : 0 < t.leaf.bits → IsAimed s from t
  twig_aimed some = record {
    prefix = on.prefix;
    start = on.offset + 1;
    base_is = on.base_is;
    known = on.known;
    some = some;
    leaf = on.leaf;
    next = λ o is.
        subst (λ p. IsNext s t.mark from 0 (p * 64 + o)) up
        (near_next s head sound t.key place t.leaf.node.now twig_stands on.leaf.there t.mark on.known from after o
        (subst (λ z. IsLowestFrom (bits t.leaf.node.now t.mark) (z + 1) o) (sym at) (left_lowest (bits t.leaf.node.now t.mark) (on.offset + 1) t.leaf.bits on.leaf.bits_are o is)));
    above = on.above;
  }

  -- where nothing is left of it, but something of the node above
  module _ (over : t.leaf.bits ≡ 0) (some : 0 < t.above.bits) (o : ℕ) (is : IsLowestFrom t.above.bits 0 o) (child : ℕ) (names : slot t.above.node.now o ≡ Child child) where
    abbrev key : ℕ
    key = (on.above some).0

    rest : IsRest s t.mark key 1 (on.prefix / 64) (on.prefix % 64 + 1) t.above
    rest = (on.above some).1

    stands : StandsAt s key 1 (on.prefix / 64)
    stands = record { node = t.above.node.now; there = rest.there; level_is = rest.level_is; prefix_is = rest.prefix_is }

    none : NoneFrom (bits t.leaf.node.now t.mark) (place % 64 + 1)
    none = subst (λ z. NoneFrom (bits t.leaf.node.now t.mark) (z + 1)) (sym at) (left_none (bits t.leaf.node.now t.mark) (on.offset + 1) t.leaf.bits on.leaf.bits_are over)

    climbed : HasClimbed s t.mark from key (on.prefix % 64)
    climbed = subst (λ p. HasClimbed s t.mark from key (p % 64)) up
        (near_up s head sound t.key place t.leaf.node.now twig_stands on.leaf.there t.mark on.known from after none key (subst (λ p. StandsAt s key 1 (p / 64)) (sym up) stands))

    first : IsLowestFrom (bits t.above.node.now t.mark) (on.prefix % 64 + 1) o
    first = left_lowest (bits t.above.node.now t.mark) (on.prefix % 64 + 1) t.above.bits rest.bits_are o is

    pub turned_there : ContainsKey s child
    turned_there = under_there s head sound t.mark on.known from key on.prefix t.above.node.now stands rest.there climbed o first child names

    abbrev prefix : ℕ
    prefix = on.prefix / 64 * 64 + o

    prefix_up : prefix / 64 ≡ on.prefix / 64
    prefix_up = let w = is.within in omega (arith, w)

    prefix_at : prefix % 64 ≡ o
    prefix_at = let w = is.within in omega (arith, w)

    module _ (b : Bor Node) (below : get s child ≡ Some b.now) where
      under : StandsAt s child 0 ((prefix * 64 + 0) / 64)
      under = under_place s head sound t.mark on.known from key on.prefix t.above.node.now stands rest.there climbed o first child names b.now below 0 (omega arith)

      same : under.node ≡ b.now
      same = same_Some under.node b.now (sym under.there ∙ below)

      pub turned_aimed : (more : ℕ) → ChangesBit t.above.bits more o 0 → IsAimed s from (record { key = child; leaf = record { node = b; bits = bits b.now t.mark }; above = record { node = t.above.node; bits = more }; base = t.base / 4096 * 4096 + o * 64; mark = t.mark })
      turned_aimed more changes = record {
        prefix = prefix;
        start = 0;
        base_is = let e = on.base_is in omega (arith, e);
        known = on.known;
        some = under_some s head sound t.mark on.known from key on.prefix t.above.node.now stands rest.there climbed o first child names b.now below;
        leaf = record {
          there = below;
          level_is = sym (ap (λ (z : Node). z.level) same) ∙ under.level_is;
          prefix_is = sym (ap (λ (z : Node). z.prefix) same) ∙ under.prefix_is ∙ (let e : (prefix * 64 + 0) / 64 ≡ prefix = omega arith in e);
          bits_are = left_all (bits b.now t.mark);
        };
        next = λ l is. under_lowest s head sound t.mark on.known from key on.prefix t.above.node.now stands rest.there climbed o first child names b.now below l is;
        above = λ some. (
          key,
          record {
            there = rest.there;
            level_is = rest.level_is;
            prefix_is = rest.prefix_is ∙ sym prefix_up;
            bits_are = subst (λ z. AreFrom (bits t.above.node.now t.mark) (z + 1) more) (sym prefix_at) (left_after (bits t.above.node.now t.mark) (on.prefix % 64 + 1) t.above.bits rest.bits_are o is more changes);
          },
        );
      }

-- ---- a twig at the node of the next entry

module _ (s : Slab Node) (head : ℕ) (sound : IsSound s head None) (from : ℕ) (t : Twig) (aim : IsAimed s from t) (o : ℕ) (is : IsLowestFrom t.leaf.bits 0 o) where
  abbrev found : ℕ
  found = t.base + o

  whole : aim.prefix * 64 + o ≡ found
  whole = let e = aim.base_is in omega (arith, e)

  found_up : found / 64 ≡ aim.prefix
  found_up = let e = aim.base_is in let w = is.within in omega (arith, e, w)

  found_at : found % 64 ≡ o
  found_at = let e = aim.base_is in let w = is.within in omega (arith, e, w)

  node_stands : StandsAt s t.key 0 (found / 64)
  node_stands = record { node = t.leaf.node.now; there = aim.leaf.there; level_is = aim.leaf.level_is; prefix_is = aim.leaf.prefix_is ∙ sym found_up }

  -- a slot with a bit is the first of an entry
  pub taken_leaf : IsLeafSlot (slot t.leaf.node.now o)
  taken_leaf = by_slot (slot t.leaf.node.now o) refl
    where
      set : bit_at (bits t.leaf.node.now t.mark) o ≡ 1
      set = (left_lowest (bits t.leaf.node.now t.mark) aim.start t.leaf.bits aim.leaf.bits_are o is).set

      by_slot : (x : Slot) → slot t.leaf.node.now o ≡ x → IsLeafSlot x
      by_slot Empty e = absurd (let f = ((sound.exact t.mark aim.known).each t.key t.leaf.node.now aim.leaf.there).empty o is.within e in omega (arith, f, set))
      by_slot (Leaf value) e = tt
      by_slot (Child c) e = absurd (lowest_plain s head sound.tree t.key t.leaf.node.now aim.leaf.there aim.leaf.level_is o c e)
      by_slot (Sibling first) e = absurd (let f = ((sound.exact t.mark aim.known).each t.key t.leaf.node.now aim.leaf.there).sibling o first is.within e in omega (arith, f, set))

  pub taken_next : (value : ℕ) → slot t.leaf.node.now o ≡ Leaf value → IsNextAt s t.mark from (t.base + o) value
  taken_next value leaf =
      at_leaf s head sound t.key found t.leaf.node.now node_stands aim.leaf.there t.mark from value
      (subst (λ p. IsNext s t.mark from 0 p) whole (aim.next o is))
      (ap (slot t.leaf.node.now) found_at ∙ leaf)

  pub taken_single : (o < 63 → slot t.leaf.node.now (o + 1) ≢ Sibling o) → IsSingle s (t.base + o)
  taken_single ends = record {
    ends = λ inner has.
        let small : o < 63 = let e = found_at in omega (arith, inner, e) in
        let beside : found / 64 * 64 + (o + 1) ≡ found + 1 = let e = found_at in omega (arith, e) in
        ends small (sibling_of _ o
        (beside_is s head sound.tree 0 found t.key (o + 1) t.leaf.node.now node_stands aim.leaf.there (omega (arith, small))
        ∙ ap (entry_at s 0) beside ∙ has ∙ ap (λ z. Some (entry.Sibling z)) found_at));
  }

  pub taken_on : (more : ℕ) → ChangesBit t.leaf.bits more o 0 → IsTwig s (t.base + o + 1) (record { key = t.key; leaf = record { node = t.leaf.node; bits = more }; above = t.above; base = t.base; mark = t.mark })
  taken_on more changes = record {
    prefix = aim.prefix;
    offset = o;
    within = is.within;
    after = let e = whole in omega (arith, e);
    base_is = aim.base_is;
    known = aim.known;
    leaf = record {
      there = aim.leaf.there;
      level_is = aim.leaf.level_is;
      prefix_is = aim.leaf.prefix_is;
      bits_are = left_after (bits t.leaf.node.now t.mark) aim.start t.leaf.bits aim.leaf.bits_are o is more changes;
    };
    above = aim.above;
  }

  pub taken_fits : t.base + o < 2 ^ 64
  taken_fits = let low = (sound.tree.nodes t.key t.leaf.node.now aim.leaf.there).prefix in let p = aim.leaf.prefix_is in let e = aim.base_is in let w = is.within in omega (arith, low, p, e, w)

-- a walk over all entries goes by the mark that each of them has
pub next_entry_if : (s : Slab Node) (from mark : ℕ) → TellsEntries s → mark ≡ 3 → (o : Option Onward) → IfSome o (λ r. IsNextAt s mark from r.place r.value) → IfSome o (λ r. IsNextEntryAt s from r.place r.value)
next_entry_if s from mark tells all None is = tt
next_entry_if s from mark tells all (Some r) is = record { next = next_entry s from 0 r.place tells (subst (λ m. IsNext s m from 0 r.place) all is.next); entry = is.entry }

pub before_stands : (s : Slab Node) (from : ℕ) (t : Twig) → IsTwig s from t → StandsAt s t.key 0 ((from - 1) / 64)
before_stands s from t on = record {
  node = t.leaf.node.now;
  there = on.leaf.there;
  level_is = on.leaf.level_is;
  prefix_is = let p = on.leaf.prefix_is in let a = on.after in let w = on.within in omega (arith, p, a, w);
}

pub rooted : (s : Slab Node) (head : Option ℕ) → IsSoundOrVoid s head → (from : ℕ) (t : Twig) → IsTwig s from t → IsRooted s
rooted s None void from t on = absurd (none-some t.leaf.node.now (sym (void.each t.key) ∙ on.leaf.there))
rooted s (Some head) sound from t on = record { head = head; sound = sound }
