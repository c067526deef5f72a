-- Lemmas on a slab with no node, and on one whose capacity changes.
use Rattle.std.proofs.Common.{◌≡◌, ℕ, zero, ◌/◌, ◌^◌, suc, cond, List, [], ◌∷◌, get_or, count_by, is_some, Option, Some, None, refl, sym, ap, ◌∙◌, arith, subst}
use Rattle.std.proofs.lemmas.Option.{none-some}
use Rattle.slab.specs.Slab.{Slab, get, slab_len}
use Rattle.std.proofs.lemmas.List.Sums.{sum_by-cons}
use Rattle.radix.proofs.PutLemmas.{entry_under}
use Rattle.radix.specs.declared.node.Node.{Node}
use Rattle.radix.specs.Entries.{slot, content, see, entry_at, mark_at, IsVoid, HasNoNext, HasNoEntry, HasNoNextEntry, IsBare, StandsAt, IsLeaf, IsEntry}
use Rattle.radix.specs.Tree.{IsSound, IsSoundOrVoid, IsWhole, TellsEntries}
use Rattle.radix.proofs.TreeLemmas.{node_at-none}

pub void_at : (s v : Slab Node) (head : Option ℕ) → IsSoundOrVoid s head → head ≡ None → s ≡ v → IsVoid v
void_at s v head sound none same =
    let e : IsVoid s = rw none at sound in
    record { each = λ key. ap (λ (z : Slab Node). get z key) (sym same) ∙ e.each key }

module _ (s : Slab Node) (void : IsVoid s) where
  pub void_see : {X : Type 0} (f : Node → ℕ → X) (value : X) (level place : ℕ) → see f value s level place ≡ value
  void_see f value level place = rw (node_at-none s.slots level (place / 64) (λ m found. none-some m (sym (void.each found.key) ∙ found.there))) refl

  pub void_entry : (level place : ℕ) → entry_at s level place ≡ None
  void_entry level place = void_see (λ n o. content (slot n o)) None level place

  pub void_no_node : (key level prefix : ℕ) → StandsAt s key level prefix → ⊥
  void_no_node key level prefix stands = none-some stands.node (sym (void.each key) ∙ stands.there)

  pub void_no_entry : (level place : ℕ) → IsEntry (entry_at s level place) → ⊥
  void_no_entry level place e = rw (void_entry level place) at e

  pub void_no_leaf : (level place : ℕ) → IsLeaf (entry_at s level place) → ⊥
  void_no_leaf level place e = rw (void_entry level place) at e

  pub void_no_next : (mark from : ℕ) → HasNoNext s mark from
  void_no_next mark from = record {
    each = λ level index le e.
        let z : mark_at mark s level (index / 64 ^ level) ≡ 0 = void_see _ 0 level (index / 64 ^ level) in
        omega (arith, z, e);
  }

pub void_no_next_entry : (s : Slab Node) → IsVoid s → (from : ℕ) → HasNoNextEntry s from
void_no_next_entry s void from = record { each = λ level index le is. void_no_leaf s void level (index / 64 ^ level) is }

-- ---- the capacity is no part of the tree

module _ (s : Slab Node) (capacity : ℕ) where
  abbrev roomy : Slab Node
  roomy = record s { capacity = capacity }

  sound_roomy : (head : ℕ) (but : Option ℕ) → IsSound s head but → IsSound roomy head but
  sound_roomy head but sound = record {
    tree = record {
      top = sound.tree.top;
      is_head = record { there = sound.tree.is_head.there; parent = sound.tree.is_head.parent; prefix = sound.tree.is_head.prefix };
      nodes = sound.tree.nodes;
      children = λ key n o c at is. let h = sound.tree.children key n o c at is in record { below = h.below; there = h.there; link = h.link };
      parents = λ key n at differs. let p = sound.tree.parents key n at differs in record { key = p.key; above = p.above; offset = p.offset; there = p.there; names = p.names; link = p.link };
      small = sound.tree.small;
    };
    exact = λ mark low. record {
      each = λ key n at. let e = (sound.exact mark low).each key n at in record { empty = e.empty; sibling = e.sibling; child = e.child };
    };
    filled = record { each = sound.filled.each };
  }

  pub roomy_sound : (head : Option ℕ) → IsSoundOrVoid s head → IsSoundOrVoid roomy head
  roomy_sound None void = record { each = void.each }
  roomy_sound (Some head) sound = sound_roomy head None sound

pub roomy_at : (s t : Slab Node) (head : Option ℕ) → t ≡ record s { capacity = t.capacity } → IsSoundOrVoid s head → IsSoundOrVoid t head
roomy_at s t head kept sound = let P : Slab Node → Type 0 = λ z. IsSoundOrVoid z head in subst P (sym kept) (roomy_sound s t.capacity head sound)

pub whole_at : (s t : Slab Node) (head : Option ℕ) → t ≡ record s { capacity = t.capacity } → IsWhole s head → IsWhole t head
whole_at s t head kept whole = record {
  sound = roomy_at s t head kept whole.sound;
  tells = let P : Slab Node → Type 0 = λ z. TellsEntries z in subst P (sym kept) (record { each = whole.tells.each });
}

pub void_no_found : (s : Slab Node) → IsVoid s → (index : ℕ) → HasNoEntry s index
void_no_found s void index = record { each = λ level. void_entry s void level (index / 64 ^ level) }

no_values : (xs : List (Option Node)) → ((key : ℕ) → get_or xs key None ≡ None) → count_by is_some xs ≡ 0
no_values [] never = refl
no_values (None ∷ xs) never =
    let e = sum_by-cons (λ o. cond (is_some o) 1 0) None xs in
    omega (arith, e, no_values xs (λ key. never (suc key)))
no_values (Some n ∷ xs) never = absurd (none-some n (sym (never 0)))

sound_has : (s : Slab Node) (head : ℕ) → IsSound s head None → IsBare s → ⊥
sound_has s head sound bare =
    let top = sound.tree.top in
    let low = (sound.tree.nodes head top sound.tree.is_head.there).level in
    let e = entry_under s head sound.tree 11 (λ x y at small. sound.filled.each x y at (λ q. cc)) 10 head top sound.tree.is_head.there low (omega (arith, low)) in
    e.entry (bare.each e.level e.place)

pub bare_len : (s v : Slab Node) (head : Option ℕ) → IsSoundOrVoid s head → s ≡ v → IsBare v → slab_len s ≡ 0
bare_len s v None void same bare = no_values s.slots void.each
bare_len s v (Some head) sound same bare = absurd (sound_has s head sound (rw same bare))

no_some : (xs : List (Option Node)) → count_by is_some xs ≡ 0 → (key : ℕ) → get_or xs key None ≡ None
no_some [] e key = refl
no_some (None ∷ xs) e zero = refl
no_some (None ∷ xs) e (suc key) =
    let f = sum_by-cons (λ (o : Option Node). cond (is_some o) 1 0) None xs in
    no_some xs (omega (arith, e, f)) key
no_some (Some n ∷ xs) e key =
    let f = sum_by-cons (λ (o : Option Node). cond (is_some o) 1 0) (Some n) xs in
    absurd (omega (arith, e, f))

pub len_bare : (s : Slab Node) → slab_len s ≡ 0 → IsBare s
len_bare s none = record { each = λ level place. void_entry s (record { each = λ key. no_some s.slots none key }) level place }
