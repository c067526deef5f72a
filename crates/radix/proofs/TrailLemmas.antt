-- Lemmas on where a search leaves the path of its index.
use Rattle.std.proofs.Common.{◌≡◌, ◌≢◌, ℕ, ◌+◌, ◌-◌, ◌*◌, ◌/◌, ◌%◌, ◌^◌, ◌<◌, ◌≤◌, Bool, true, false, MatchOption, Option, Some, None, refl, sym, ap, ◌∙◌, inl, inr, arith, subst}
use Rattle.std.specs.Int.{bit_at}
use Rattle.std.proofs.lemmas.Bool.{cases_eq, cases_lt, true≢false}
use Rattle.std.proofs.lemmas.Option.{none-some, same_Some}
use Rattle.std.proofs.Math.Nat.{mul-div_cancel, one-le-pow}
use Rattle.slab.specs.Slab.{Slab, get}
use Rattle.radix.specs.declared.node.Node.{Node}
use Rattle.radix.specs.declared.slot.Slot.{Slot}
use Rattle.radix.specs.declared.slot.Slot.TheVariants.{Empty, Leaf, Child, Sibling}
use Rattle.radix.specs.declared.entry.Entry.TheVariants as entry
use Rattle.radix.specs.Bitmap.{IsLowestFrom, NoneFrom}
use Rattle.radix.specs.Entries.{slot, bits, bit_of, content, entry_at, mark_at, HasNoEntry, HasNoHeld, HasNoNext, IsHeld, StandsAt}
use Rattle.radix.specs.Tree.{IsAhead, IsPlain, IsSound, IsTrail, HasLeft, better_of, level_of}
use Rattle.radix.proofs.Places.{place-levels, place-up}
use Rattle.radix.proofs.SeeLemmas.{see-is}
use Rattle.radix.proofs.FindLemmas.{above_none, elsewhere_empty, found_some}
use Rattle.radix.proofs.NextLemmas.{ends_none, ends_some, in_node, marked_here, path_child, path_leaf}
use Rattle.radix.proofs.RunLemmas.{sibling_of}

plain_slot : (x : Slot) (bit : ℕ) → bit_of x bit ≡ 1 → IsPlain x
plain_slot Empty bit e = tt
plain_slot (Leaf value) bit e = tt
plain_slot (Child c) bit e = absurd (omega (arith, e))
plain_slot (Sibling first) bit e = tt

bit_there : (x : Slot) (bit : ℕ) → bit_of x bit ≡ 1 → bit ≡ 1
bit_there Empty bit e = absurd (omega (arith, e))
bit_there (Leaf value) bit e = e
bit_there (Child c) bit e = absurd (omega (arith, e))
bit_there (Sibling first) bit e = e

-- where no entry is none is held
pub none_held : (s : Slab Node) (mark index : ℕ) → HasNoEntry s index → HasNoHeld s mark index
none_held s mark index none = record { each = λ level named small has marked. none-some _ (sym (none.each level) ∙ has) }

module _ (s : Slab Node) (head : ℕ) (sound : IsSound s head None) (mark : ℕ) (low : mark < 4) (index : ℕ) where
  -- as the code comes down the path, with the level that it counted
  module _ (key o level : ℕ) (n : Node) (there : get s key ≡ Some n) (counted : level_of (get s key) ≡ level) (best : Option (ℕ × ℕ)) (left : HasLeft s mark index key best) where
    level_is : n.level ≡ level
    level_is = sym (ap level_of there) ∙ counted

    pub trail_low : level ≤ 10
    trail_low = let e = (sound.tree.nodes key n there).level in omega (arith, e, level_is)

    path : n.prefix ≡ index / 64 ^ level / 64
    path = let e = left.on_path in let same : left.node ≡ n = cc in rw same at e ∙ ap (λ l. index / 64 ^ l / 64) level_is

    pub trail_inner : (c : ℕ) → slot n o ≡ Child c → 0 < level
    trail_inner c is = let h = sound.tree.children key n o c there is in omega (arith, h.link.level, level_is)

    pub trail_down : (c : ℕ) → slot n o ≡ Child c → level_of (get s c) ≡ level - 1
    trail_down c is =
        let h = sound.tree.children key n o c there is in
        let e : level_of (get s c) ≡ h.below.level = ap level_of h.there in
        omega (arith, e, h.link.level, level_is)

    module _ (is_offset : o ≡ index / 64 ^ level % 64) (found : Option ℕ) (finds : MatchOption found (NoneFrom (bits n mark) (o + 1)) (IsLowestFrom (bits n mark) (o + 1))) (b : Option (ℕ × ℕ)) (is_best : b ≡ better_of best key found) where
      offset : o ≡ index / 64 ^ n.level % 64
      offset = is_offset ∙ ap (λ l. index / 64 ^ l % 64) (sym level_is)

      pub trail_child : (c : ℕ) → slot n o ≡ Child c → HasLeft s mark index c b
      trail_child c names = path_child s head sound mark low index key o n there best left offset found finds b is_best c names

      pub trail_set : bit_at (bits n mark) o ≡ 1 → ((c : ℕ) → slot n o ≡ Child c → ⊥) → IsTrail s mark index key level true b
      trail_set set never = record {
        node = n;
        there = there;
        level_is = level_is;
        on_path = path;
        here = λ e. rw level_is at (path_leaf s head sound mark low index key o n there best left offset found finds (index / 64 ^ n.level) refl set never);
        unset = λ e. absurd (true≢false e);
        rest = λ e. absurd (true≢false e);
      }

      pub trail_unset : (bit_at (bits n mark) o ≡ 1 → ⊥) → IsTrail s mark index key level false b
      trail_unset unset = record {
        node = n;
        there = there;
        level_is = level_is;
        on_path = path;
        here = λ e. absurd (true≢false (sym e));
        unset = λ e set. unset (ap (bit_at (bits n mark)) is_offset ∙ set);
        rest = λ e. by_best b refl;
      }
        where
          by_best : (x : Option (ℕ × ℕ)) → b ≡ x → MatchOption x (HasNoNext s mark index) (λ p. IsAhead s mark index p.0 p.1)
          by_best None is = ends_none s head sound mark low index key o n there best left offset found finds b is_best unset is
          by_best (Some p) is = ends_some s head sound mark low index key o n there best left offset found finds b is_best unset p.0 p.1 is

  -- the entry that the end of the path is a further slot of
  module _ (key level : ℕ) (is_set : Bool) (best : Option (ℕ × ℕ)) (trail : IsTrail s mark index key level is_set best) (n : Node) (there : get s key ≡ Some n) where
    same_node : trail.node ≡ n
    same_node = same_Some trail.node n (sym trail.there ∙ there)

    end_level : n.level ≡ level
    end_level = ap (λ (z : Node). z.level) (sym same_node) ∙ trail.level_is

    end_prefix : n.prefix ≡ index / 64 ^ level / 64
    end_prefix = ap (λ (z : Node). z.prefix) (sym same_node) ∙ trail.on_path

    end_unset : is_set ≡ false → bit_at (bits n mark) (index / 64 ^ level % 64) ≢ 1
    end_unset e set = trail.unset e (ap (λ (z : Node). bit_at (bits z mark) (index / 64 ^ level % 64)) same_node ∙ set)

    on_path : n.prefix ≡ index / 64 ^ n.level / 64
    on_path = end_prefix ∙ ap (λ l. index / 64 ^ l / 64) (sym end_level)

    pub end_stands : (first : ℕ) → first < 64 → StandsAt s key level ((n.prefix * 64 + first) / 64)
    end_stands first small = record { node = n; there = there; level_is = end_level; prefix_is = omega (arith, small) }

    end_is : content (slot n (index / 64 ^ level % 64)) ≡ entry_at s level (index / 64 ^ level)
    end_is = sym (see-is (λ z i. content (slot z i)) None s head sound.tree level (index / 64 ^ level) key n there end_level end_prefix)

    pub held_is : (first value : ℕ) → first < 64 → slot n (index / 64 ^ level % 64) ≡ Sibling first → bit_at (bits n mark) first ≡ 1 → slot n first ≡ Leaf value → IsHeld s mark index level (n.prefix * 64 + first)
    held_is first value small names set leaf =
        let place = n.prefix * 64 + first in
        let offset : place % 64 ≡ first = omega (arith, small) in
        let here : slot n (index / 64 ^ n.level % 64) ≡ Sibling first = ap (λ l. slot n (index / 64 ^ l % 64)) end_level ∙ names in
        record {
          named = first;
          small = small;
          found = rw end_level at (found_some s head sound.tree index key n there on_path (entry.Sibling first) (ap content here));
          place_is = ap (λ z. z * 64 + first) end_prefix;
          marked = rw end_level at (marked_here s head sound mark low n key place there (omega (arith, small)) (ap (bit_at (bits n mark)) offset ∙ set) (λ c e. leaf_child (sym leaf ∙ ap (slot n) (sym offset) ∙ e)));
        }
      where
        leaf_child : {c : ℕ} → ◌≡◌ {A = Slot} (Leaf value) (Child c) → ⊥
        leaf_child e = cc

    end_mark : mark_at mark s level (index / 64 ^ level) ≡ bit_of (slot n (index / 64 ^ level % 64)) (bit_at (bits n mark) (index / 64 ^ level % 64))
    end_mark = see-is (λ z i. bit_of (slot z i) (bit_at (bits z mark) i)) 0 s head sound.tree level (index / 64 ^ level) key n there end_level end_prefix

    -- the mark of a first slot beside the end of the path
    first_mark : (first : ℕ) → first < 64 → mark_at mark s level (index / 64 ^ level / 64 * 64 + first) ≡ bit_of (slot n first) (bit_at (bits n mark) first)
    first_mark first small =
        let offset : (index / 64 ^ level / 64 * 64 + first) % 64 ≡ first = omega (arith, small) in
        see-is (λ z i. bit_of (slot z i) (bit_at (bits z mark) i)) 0 s head sound.tree level (index / 64 ^ level / 64 * 64 + first) key n there end_level (omega (arith, end_prefix, small))
        ∙ ap (λ i. bit_of (slot n i) (bit_at (bits n mark) i)) offset

    none_by : ((first : ℕ) → first < 64 → slot n (index / 64 ^ level % 64) ≡ Sibling first → bit_of (slot n first) (bit_at (bits n mark) first) ≢ 1) → HasNoHeld s mark index
    none_by never = record { each = λ other named small has marked. by_set other named small has marked is_set refl }
      where
        same : (other named : ℕ) → named < 64 → entry_at s other (index / 64 ^ other) ≡ Some (entry.Sibling named) → mark_at mark s other (index / 64 ^ other / 64 * 64 + named) ≡ 1 → other ≡ level → ⊥
        same other named small has marked e =
            let has_here : entry_at s level (index / 64 ^ level) ≡ Some (entry.Sibling named) = rw e at has in
            let marked_there : mark_at mark s level (index / 64 ^ level / 64 * 64 + named) ≡ 1 = rw e at marked in
            never named small (sibling_of _ named (end_is ∙ has_here)) (sym (first_mark named small) ∙ marked_there)

        lower : (other named : ℕ) → named < 64 → mark_at mark s other (index / 64 ^ other / 64 * 64 + named) ≡ 1 → other < level → bit_at (bits n mark) (index / 64 ^ level % 64) ≡ 1
        lower other named small marked less =
            let place = index / 64 ^ other / 64 * 64 + named in
            let first = place * 64 ^ other in
            let here : first / 64 ^ other ≡ place = mul-div_cancel place (one-le-pow other 64 (omega arith)) in
            let d = level - other - 1 in
            let sum : other + 1 + d ≡ level = omega (arith, less) in
            let beside : first / 64 ^ other / 64 ≡ index / 64 ^ other / 64 = omega (arith, here, small) in
            let up : (z : ℕ) → z / 64 ^ other / 64 / 64 ^ d ≡ z / 64 ^ level = λ z. ap (λ x. x / 64 ^ d) (place-up z other) ∙ place-levels z (other + 1) d ∙ ap (λ l. z / 64 ^ l) sum in
            let at : first / 64 ^ level ≡ index / 64 ^ level = sym (up first) ∙ ap (λ x. x / 64 ^ d) beside ∙ up index in
            let at_n : first / 64 ^ n.level ≡ index / 64 ^ level = ap (λ l. first / 64 ^ l) end_level ∙ at in
            ap (λ x. bit_at (bits n mark) (x % 64)) (sym at_n)
            ∙ in_node s head sound mark low key n other first there (end_prefix ∙ ap (λ x. x / 64) (sym at_n)) (ap (mark_at mark s other) here ∙ marked)

        by_set : (other named : ℕ) → named < 64 → entry_at s other (index / 64 ^ other) ≡ Some (entry.Sibling named) → mark_at mark s other (index / 64 ^ other / 64 * 64 + named) ≡ 1 → (b : Bool) → is_set ≡ b → ⊥
        by_set other named small has marked false e = elim (cases_lt other level) [
          | inl less ↦ end_unset e (lower other named small marked less)
          | inr more ↦ elim (cases_eq other level) [
            | inl is ↦ same other named small has marked is
            | inr differs ↦ none-some _ (sym (above_none s head sound.tree index key n there on_path other (omega (arith, more, differs, end_level))) ∙ has)
          ]
        ]
        by_set other named small has marked true e = elim (cases_eq other level) [
          | inl is ↦ same other named small has marked is
          | inr differs ↦
              let plain = subst (λ l. IsPlain (slot n (index / 64 ^ l % 64))) (sym end_level) (plain_slot _ _ (sym end_mark ∙ (trail.here e).marked)) in
              none-some _ (sym (elsewhere_empty s head sound.tree index key n there on_path plain other (λ q. differs (q ∙ end_level))) ∙ has)
        ]

    -- where it is no further slot
    pub none_plain : ((first : ℕ) → slot n (index / 64 ^ level % 64) ≡ Sibling first → ⊥) → HasNoHeld s mark index
    none_plain never = none_by (λ first small is marked. never first is)

    same_sibling : (a b : ℕ) → ◌≡◌ {A = Slot} (Sibling a) (Sibling b) → a ≡ b
    same_sibling a b e = cc

    none_named : (first : ℕ) → slot n (index / 64 ^ level % 64) ≡ Sibling first → (first < 64 → bit_of (slot n first) (bit_at (bits n mark) first) ≢ 1) → HasNoHeld s mark index
    none_named first names never = none_by (λ other small is marked. let same = same_sibling first other (sym names ∙ is) in never (omega (arith, same, small)) (ap (λ i. bit_of (slot n i) (bit_at (bits n mark) i)) same ∙ marked))

    -- where the first slot that it names has no mark
    pub none_bit : (first : ℕ) → slot n (index / 64 ^ level % 64) ≡ Sibling first → (first < 64 → bit_at (bits n mark) first ≢ 1) → HasNoHeld s mark index
    none_bit first names never = none_named first names (λ small marked. never small (bit_there (slot n first) _ marked))

    -- where it names no first slot
    pub none_leaf : (first : ℕ) → slot n (index / 64 ^ level % 64) ≡ Sibling first → ((value : ℕ) → slot n first ≡ Leaf value → ⊥) → HasNoHeld s mark index
    none_leaf first names never = none_named first names (λ small marked. by_slot small (slot n first) refl marked)
      where
        by_slot : first < 64 → (x : Slot) → slot n first ≡ x → bit_of x (bit_at (bits n mark) first) ≡ 1 → ⊥
        by_slot small Empty is e = absurd (omega (arith, e))
        by_slot small (Leaf value) is e = never value is
        by_slot small (Child c) is e = absurd (omega (arith, e))
        by_slot small (Sibling f) is e = let z = ((sound.exact mark low).each key n there).sibling first f small is in omega (arith, z, e)

    pub end_low : level ≤ 10
    end_low = let e = (sound.tree.nodes key n there).level in omega (arith, e, end_level)
