-- Lemmas on the search for the next entry with a mark within one node of the lowest level.
use Rattle.std.proofs.Common.{◌≡◌, ℕ, ◌+◌, ◌*◌, ◌/◌, ◌%◌, ◌^◌, ◌<◌, Some, None, refl, sym, ap, ◌∙◌, inl, inr, arith, eqb, eq-eqb}
use Rattle.std.specs.Int.{bit_at}
use Rattle.std.proofs.lemmas.Bool.{cases_eq}
use Rattle.std.proofs.lemmas.Option.{same_Some}
use Rattle.slab.specs.Slab.{Slab, get}
use Rattle.radix.specs.declared.node.Node.{Node}
use Rattle.radix.specs.declared.slot.Slot.{Slot}
use Rattle.radix.specs.declared.slot.Slot.TheVariants.{Empty, Leaf, Child, Sibling}
use Rattle.radix.specs.Bitmap.{IsLowestFrom, NoneFrom}
use Rattle.radix.specs.Entries.{StandsAt, IsAlone, IsNextLeaf, HasNoneBeside, IsNextEntryLeaf, HasNoEntryBeside, slot, bits, content, entry_at, mark_at}
use Rattle.radix.specs.Tree.{IsSound, TellsEntries}
use Rattle.radix.proofs.EntryBitLemmas.{bit_from, next_entry}
use Rattle.radix.proofs.NextLemmas.{in_node, marked_here}
use Rattle.radix.proofs.RunLemmas.{not_further}
use Rattle.radix.proofs.SeeLemmas.{see-is}

at_zero : (x l : ℕ) → l ≡ 0 → x / 64 ^ l ≡ x
at_zero x l none = rw none (omega arith)

module _ (s : Slab Node) (head : ℕ) (sound : IsSound s head None) (mark : ℕ) (low : mark < 4) (from key : ℕ) (n : Node) (stands : StandsAt s key 0 (from / 64 ^ 0 / 64)) (there : get s key ≡ Some n) where
  is_node : stands.node ≡ n
  is_node = same_Some stands.node n (sym stands.there ∙ there)

  is_low : n.level ≡ 0
  is_low = sym (ap (λ (z : Node). z.level) is_node) ∙ stands.level_is

  on_path : n.prefix ≡ from / 64
  on_path = let e = sym (ap (λ (z : Node). z.prefix) is_node) ∙ stands.prefix_is in omega (arith, e)

  -- an entry with the mark in the node shows in the node's bits
  bit_of_marked : (other index : ℕ) → mark_at mark s other (index / 64 ^ other) ≡ 1 → index / 64 ≡ from / 64 → bit_at (bits n mark) (index % 64) ≡ 1
  bit_of_marked other index marked same =
      let e = at_zero index n.level is_low in
      ap (λ z. bit_at (bits n mark) (z % 64)) (sym e)
      ∙ in_node s head sound mark low key n other index there (omega (arith, on_path, same, e)) marked

  no_child : (o c : ℕ) → slot n o ≡ Child c → ⊥
  no_child o c names = let h = sound.tree.children key n o c there names in omega (arith, h.link.level, is_low)

  -- a slot with the mark is the first of an entry
  pub only_leaf : (o : ℕ) → o < 64 → bit_at (bits n mark) o ≡ 1 → ((value : ℕ) → slot n o ≡ Leaf value → ⊥) → ⊥
  only_leaf o within set never = by_slot (slot n o) refl
    where
      by_slot : (x : Slot) → slot n o ≡ x → ⊥
      by_slot Empty is = let f = ((sound.exact mark low).each key n there).empty o within is in omega (arith, f, set)
      by_slot (Leaf value) is = never value is
      by_slot (Child c) is = no_child o c is
      by_slot (Sibling first) is = let f = ((sound.exact mark low).each key n there).sibling o first within is in omega (arith, f, set)

  pub next_beside : (o value : ℕ) → IsLowestFrom (bits n mark) (from % 64) o → slot n o ≡ Leaf value → IsNextLeaf s mark from (from / 64 * 64 + o) value
  next_beside o value is leaf = record {
    beside = let w = is.within in omega (arith, w);
    next = record {
      marked = ap (λ l. mark_at mark s l (from / 64 * 64 + o)) (sym is_low) ∙ marked_here s head sound mark low n key (from / 64 * 64 + o) there path (ap (bit_at (bits n mark)) offset ∙ is.set) (λ c names. no_child ((from / 64 * 64 + o) % 64) c names);
      after = let a = is.above in omega (arith, a);
      lowest = λ other index le marked. elim (cases_eq (index / 64) (from / 64)) [
        | inl same ↦
            let set = bit_of_marked other index marked same in
            let not_lower : index % 64 < o → ⊥ = λ less. let z = is.lowest (index % 64) (omega (arith, le, same)) less in omega (arith, z, set) in
            omega (arith, not_lower, same)
        | inr differs ↦ let w = is.within in omega (arith, le, differs, w)
      ];
    };
    entry =
        see-is (λ z i. content (slot z i)) None s head sound.tree 0 (from / 64 * 64 + o) key n there is_low path
        ∙ ap (λ i. content (slot n i)) offset ∙ ap content leaf;
  }
    where
      offset : (from / 64 * 64 + o) % 64 ≡ o
      offset = let w = is.within in omega (arith, w)

      path : n.prefix ≡ (from / 64 * 64 + o) / 64
      path = let w = is.within in omega (arith, w, on_path)

  -- where an entry or a node begins at the next slot
  pub alone_beside : (o : ℕ) → o < 64 → (o < 63 → bit_at (bits n 3) (o + 1) ≡ 1) → IsAlone s (from / 64 * 64 + o)
  alone_beside o within begins = record {
    each = λ first inner has.
        let small : o < 63 = omega (arith, inner, within) in
        let at : from / 64 * 64 + o + 1 ≡ (from / 64 * 64) / 64 * 64 + (o + 1) = omega arith in
        not_further s head sound 0 (from / 64 * 64) key (o + 1) n (record { node = n; there = there; level_is = is_low; prefix_is = omega (arith, on_path) }) there (omega (arith, small)) (eqb (bit_at (bits n 3) (o + 1)) 1) refl (eq-eqb _ 1 (begins small)) first (ap (entry_at s 0) (sym at) ∙ has);
  }

  pub none_beside : NoneFrom (bits n mark) (from % 64) → HasNoneBeside s mark from
  none_beside none = record {
    each = λ at le same marked.
        let whole : at / 64 ^ 0 ≡ at = omega arith in
        let set = bit_of_marked 0 at (ap (mark_at mark s 0) whole ∙ marked) same in
        let unset = none (at % 64) (omega (arith, le, same)) (omega arith) in
        omega (arith, set, unset);
  }

pub entry_beside : (s : Slab Node) (from place value : ℕ) → TellsEntries s → IsNextLeaf s 3 from place value → IsNextEntryLeaf s from place value
entry_beside s from place value tells is = record { beside = is.beside; next = next_entry s from 0 place tells is.next; entry = is.entry }

pub no_entry_beside : (s : Slab Node) (from : ℕ) → TellsEntries s → HasNoneBeside s 3 from → HasNoEntryBeside s from
no_entry_beside s from tells none = record { each = λ at le same leaf. none.each at le same (tells.each 0 at ∙ bit_from (entry_at s 0 at) leaf) }
