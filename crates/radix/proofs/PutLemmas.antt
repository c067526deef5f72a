-- Lemmas on an entry that is put where none was.
use Rattle.std.proofs.Common.{◌≡◌, ◌≢◌, ℕ, zero, suc, ◌+◌, ◌*◌, ◌/◌, ◌%◌, ◌^◌, ◌<◌, ◌≤◌, true, cond, List, [], ◌∷◌, length, get_or, Option, Some, None, count_by, refl, sym, ap, ◌∙◌, inl, inr, arith}
use Rattle.std.specs.Int.{bit_at}
use Rattle.std.proofs.lemmas.Bool.{cases_Bool}
use Rattle.std.proofs.lemmas.Option.{same_Some, none-some}
use Rattle.std.proofs.lemmas.List.Sums.{sum_by-cons}
use Rattle.slab.specs.Slab.{Slab, get, Updates, with_value}
use Rattle.slab.proofs.SlabLemmas.{Updates-with_value}
use Rattle.radix.specs.declared.node.Node.{Node}
use Rattle.radix.specs.declared.slot.Slot.{Slot}
use Rattle.radix.specs.declared.slot.Slot.TheVariants.{Empty, Leaf, Child, Sibling}
use Rattle.radix.specs.declared.entry.Entry.{Entry}
use Rattle.radix.specs.Entries.{slot, bits, IsFree, StandsAt, content, entry_at}
use Rattle.radix.specs.Tree.{is_used, IsPlain, IsQuiet, IsEntrySlot, IsTree, IsSound, SameSlots, with_slot, WritesSlot}
use Rattle.radix.proofs.Places.{place-up, place-down}
use Rattle.radix.proofs.TreeLemmas.{contains_key, same_node}
use Rattle.radix.proofs.SeeLemmas.{see-is}
use Rattle.radix.proofs.DescentLemmas.{filled_but}
use Rattle.radix.proofs.WriteLemmas.{put_tree, put_exact, put_filled, put_entries}

pub record Used (xs : List Slot) : Type 0 where
  pub offset : ℕ
  pub within : offset < length xs
  pub is : is_used (get_or xs offset Empty) ≡ true

pub first_used : (xs : List Slot) → 0 < count_by is_used xs → Used xs
first_used [] some = absurd (omega (arith, some))
first_used (x ∷ xs) some = elim (cases_Bool (is_used x)) [
  | inl used ↦ record { offset = 0; within = omega arith; is = used }
  | inr unused ↦
      let e = sum_by-cons (λ y. cond (is_used y) 1 0) x xs in
      let f : cond (is_used x) 1 0 ≡ 0 = ap {B = ℕ} (λ b. cond b 1 0) unused in
      let u = first_used xs (omega (arith, some, e, f)) in
      record { offset = suc u.offset; within = omega (arith, u.within); is = u.is }
]

-- an entry at a node or below it
pub record EntryUnder (s : Slab Node) (n : Node) : Type 0 where
  pub levels : ℕ
  pub level : ℕ
  pub place : ℕ
  pub sum : n.level ≡ level + levels
  pub under : place / 64 / 64 ^ levels ≡ n.prefix
  pub entry : entry_at s level place ≢ None

module _ (s : Slab Node) (head : ℕ) (tree : IsTree s head) (top : ℕ) (some : (x : ℕ) (y : Node) → get s x ≡ Some y → y.level < top → 0 < y.count) where
  entry_here : (key : ℕ) (n : Node) (o : ℕ) (x : Slot) → get s key ≡ Some n → o < 64 → slot n o ≡ x → content x ≢ None → EntryUnder s n
  entry_here key n o x there within is used =
      let offset : (n.prefix * 64 + o) % 64 ≡ o = omega arith in
      record {
        levels = 0;
        level = n.level;
        place = n.prefix * 64 + o;
        sum = omega arith;
        under = omega arith;
        entry = λ e. used (sym (ap content (ap (slot n) offset ∙ is)) ∙ sym (see-is (λ z i. content (slot z i)) None s head tree n.level (n.prefix * 64 + o) key n there refl (omega arith)) ∙ e);
      }

  under_parent : (n b : Node) (o : ℕ) → o < 64 → n.level ≡ b.level + 1 → b.prefix ≡ n.prefix * 64 + o → EntryUnder s b → EntryUnder s n
  under_parent n b o within levels prefix e = record {
    levels = e.levels + 1;
    level = e.level;
    place = e.place;
    sum = omega (arith, levels, e.sum);
    under = let up : e.place / 64 / 64 ^ e.levels / 64 ≡ e.place / 64 / 64 ^ (e.levels + 1) = place-up (e.place / 64) e.levels in omega (arith, up, e.under, prefix, within);
    entry = e.entry;
  }

  at_slot : (key : ℕ) (n : Node) (o : ℕ) → get s key ≡ Some n → o < 64 → (x : Slot) → slot n o ≡ x → is_used x ≡ true → ((c : ℕ) (b : Node) → get s c ≡ Some b → n.level ≡ b.level + 1 → EntryUnder s b) → EntryUnder s n
  at_slot key n o there within Empty is used descend = absurd (cc)
  at_slot key n o there within (Leaf value) is used descend = entry_here key n o (Leaf value) there within is (λ e. cc)
  at_slot key n o there within (Child c) is used descend =
      let h = tree.children key n o c there is in
      under_parent n h.below o within h.link.level h.link.prefix (descend c h.below h.there h.link.level)
  at_slot key n o there within (Sibling first) is used descend = entry_here key n o (Sibling first) there within is (λ e. cc)

  used_at : (key : ℕ) (n : Node) → get s key ≡ Some n → n.level < top → Used n.slots
  used_at key n there low = let e = (tree.nodes key n there).count in first_used n.slots (omega (arith, e, some key n there low))

  used_within : (key : ℕ) (n : Node) (there : get s key ≡ Some n) (low : n.level < top) → (used_at key n there low).offset < 64
  used_within key n there low = let e = (tree.nodes key n there).slots in omega (arith, e, (used_at key n there low).within)

  -- a node that is not empty has an entry at it or below it
  pub entry_under : (fuel key : ℕ) (n : Node) → get s key ≡ Some n → n.level ≤ fuel → n.level < top → EntryUnder s n
  entry_under zero key n there deep low =
      let u = used_at key n there low in
      at_slot key n u.offset there (used_within key n there low) (slot n u.offset) refl u.is (λ c b at e. absurd (omega (arith, deep, e)))
  entry_under (suc fuel) key n there deep low =
      let u = used_at key n there low in
      at_slot key n u.offset there (used_within key n there low) (slot n u.offset) refl u.is (λ c b at e. entry_under fuel c b at (omega (arith, deep, e)) (omega (arith, low, e)))

-- a slot that is free has no child
module _ (s : Slab Node) (head key : ℕ) (n : Node) (place : ℕ) (sound : IsSound s head (Some key)) (there : get s key ≡ Some n) (on_path : n.prefix ≡ place / 64) (free : IsFree s n.level place) where
  below_some : (x : ℕ) (y : Node) → get s x ≡ Some y → y.level < n.level → 0 < y.count
  below_some x y at low = sound.filled.each x y at (λ e. let f : x ≡ key = cc in let g = ap (λ (z : Node). z.level) (same_node s x key y n f at there) in omega (arith, low, g))

  no_child : (c : ℕ) → slot n (place % 64) ≡ Child c → ⊥
  no_child c is =
      let h = sound.tree.children key n (place % 64) c there is in
      let e = entry_under s head sound.tree n.level below_some h.below.level c h.below h.there (omega arith) (omega (arith, h.link.level)) in
      let at : e.place / 64 ^ (e.levels + 1) ≡ place =
      let down : e.place / 64 / 64 ^ e.levels ≡ e.place / 64 ^ (e.levels + 1) = place-down e.place e.levels in
      omega (arith, down, e.under, h.link.prefix, on_path) in
      e.entry (free.each (e.levels + 1) e.level e.place (omega (arith, e.sum, h.link.level)) at)

  pub free_slot : slot n (place % 64) ≡ Empty
  free_slot = by_slot (slot n (place % 64)) refl
    where
      none : None ≡ content (slot n (place % 64))
      none = sym (free.each 0 n.level place (omega arith) (omega arith)) ∙ see-is (λ z i. content (slot z i)) None s head sound.tree n.level place key n there refl on_path

      by_slot : (x : Slot) → slot n (place % 64) ≡ x → x ≡ Empty
      by_slot Empty e = refl
      by_slot (Child c) e = absurd (no_child c e)
      by_slot (Leaf value) e = absurd (none-some _ (none ∙ ap content e))
      by_slot (Sibling first) e = absurd (none-some _ (none ∙ ap content e))

pub WritesSlot-at : (old new : Slab Node) (l level place : ℕ) (x : Option Entry) → l ≡ level → WritesSlot old new l place x → WritesSlot old new level place x
WritesSlot-at old new l level place x e puts = rw (sym e) puts

pub WritesSlot-after : (old s new : Slab Node) (level place : ℕ) (x : Option Entry) → SameSlots old s → WritesSlot s new level place x → WritesSlot old new level place x
WritesSlot-after old s new level place x entries p = record {
  entry = p.entry;
  bits_stay = λ mark low. p.bits_stay mark low ∙ entries.marks mark level place low;
  others = λ other at apart. p.others other at apart ∙ entries.entries other at;
  other_marks = λ mark other at low apart. p.other_marks mark other at low apart ∙ entries.marks mark other at low;
}

pub WritesSlot-then : (old s new : Slab Node) (level place : ℕ) (x : Option Entry) → WritesSlot old s level place x → SameSlots s new → WritesSlot old new level place x
WritesSlot-then old s new level place x p entries = record {
  entry = entries.entries level place ∙ p.entry;
  bits_stay = λ mark low. entries.marks mark level place low ∙ p.bits_stay mark low;
  others = λ other at apart. entries.entries other at ∙ p.others other at apart;
  other_marks = λ mark other at low apart. entries.marks mark other at low ∙ p.other_marks mark other at low apart;
}

-- the write of an entry
module _ (s : Slab Node) (head key : ℕ) (n : Node) (level place : ℕ) (x : Slot) (entry : IsEntrySlot x) (sound : IsSound s head (Some key)) (stands : StandsAt s key level (place / 64)) (there : get s key ≡ Some n) (free : IsFree s level place) where
  abbrev m : Node
  m = with_slot n (place % 64) x (n.count + 1)

  same : stands.node ≡ n
  same = same_Some stands.node n (sym stands.there ∙ there)

  level_is : n.level ≡ level
  level_is = sym (ap (λ (z : Node). z.level) same) ∙ stands.level_is

  on_path : n.prefix ≡ place / 64
  on_path = sym (ap (λ (z : Node). z.prefix) same) ∙ stands.prefix_is

  free_now : IsFree s n.level place
  free_now = record { each = λ d below at sum under. free.each d below at (sym level_is ∙ sum) under }

  empty : slot n (place % 64) ≡ Empty
  empty = free_slot s head key n place sound there on_path free_now

  plain : IsPlain (slot n (place % 64))
  plain = rw empty tt

  quiet_from : (y : Slot) → IsEntrySlot y → (b : ℕ) → b ≡ 0 → IsQuiet y b
  quiet_from Empty e b z = absurd e
  quiet_from (Leaf value) e b z = tt
  quiet_from (Child c) e b z = absurd e
  quiet_from (Sibling first) e b z = z

  used_from : (y : Slot) → IsEntrySlot y → is_used y ≡ true
  used_from Empty e = absurd e
  used_from (Leaf value) e = refl
  used_from (Child c) e = absurd e
  used_from (Sibling first) e = refl

  quiet : (mark : ℕ) → mark < 4 → IsQuiet x (bit_at (bits n mark) (place % 64))
  quiet mark low = quiet_from x entry (bit_at (bits n mark) (place % 64)) (((sound.exact mark low).each key n there).empty (place % 64) (omega arith) empty)

  counts : n.count + 1 + cond (is_used (slot n (place % 64))) 1 0 ≡ n.count + cond (is_used x) 1 0
  counts =
      let e : cond (is_used (slot n (place % 64))) 1 0 ≡ 0 = ap {B = ℕ} (λ y. cond (is_used y) 1 0) empty in
      let f : cond (is_used x) 1 0 ≡ 1 = ap {B = ℕ} (λ b. cond b 1 0) (used_from x entry) in
      omega (arith, e, f)

  updates : Updates s (with_value s key m) key (Some m)
  updates = Updates-with_value s key m (contains_key s key n there)

  pub fill_sound : IsSound (with_value s key m) head None
  fill_sound = record {
    tree = put_tree s (with_value s key m) head key n place x (n.count + 1) sound there on_path plain quiet counts updates;
    exact = put_exact s (with_value s key m) head key n place x (n.count + 1) sound there on_path plain quiet counts updates;
    filled = filled_but (with_value s key m) key m None updates.changed (omega arith) (put_filled s (with_value s key m) head key n place x (n.count + 1) sound there on_path plain quiet counts updates (Some key) (λ e. omega arith) sound.filled);
  }

  pub fill_puts : WritesSlot s (with_value s key m) level place (content x)
  fill_puts = WritesSlot-at s (with_value s key m) n.level level place (content x) level_is (put_entries s (with_value s key m) head key n place x (n.count + 1) sound there on_path plain quiet counts updates)

  pub fill_stands : StandsAt (with_value s key m) key level (place / 64)
  fill_stands = record { node = m; there = updates.changed; level_is = level_is; prefix_is = on_path }
