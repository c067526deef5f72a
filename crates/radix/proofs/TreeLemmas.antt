-- Lemmas on nodes that make a tree.
use Rattle.std.proofs.Common.{◌≡◌, ◌≢◌, ℕ, zero, suc, ◌+◌, ◌-◌, ◌*◌, ◌/◌, ◌%◌, ◌^◌, ◌<◌, ◌≤◌, true, List, [], ◌∷◌, get_or, Option, Some, None, refl, sym, ap, ◌∙◌, inl, inr, arith, eqb, eq-eqb, eqb-true}
use Rattle.std.proofs.lemmas.Bool.{cases_eq, cases_Bool, cond-true, cond-false, and_parts, and_from}
use Rattle.std.proofs.lemmas.Option.{none-some, same_Some}
use Rattle.slab.specs.Slab.{Slab, get, ContainsKey}
use Rattle.radix.specs.declared.node.Node.{Node}
use Rattle.radix.specs.declared.slot.Slot.TheVariants.{Empty, Child}
use Rattle.radix.specs.Entries.{slot, stands_at, node_at}
use Rattle.radix.specs.Tree.{IsPlain, IsLink, HasParent, IsTree, slot_at}
use Rattle.radix.proofs.Places.{place-down}

-- ---- the search for a node by its place

pub record Found (xs : List (Option Node)) (level prefix : ℕ) (n : Node) : Type 0 where
  pub key : ℕ
  pub there : get_or xs key None ≡ Some n
  pub at_level : n.level ≡ level
  pub at_prefix : n.prefix ≡ prefix

stands_parts : (level prefix : ℕ) (n : Node) → stands_at level prefix n ≡ true → (n.level ≡ level) × (n.prefix ≡ prefix)
stands_parts level prefix n e =
    let parts = and_parts (eqb n.level level) (eqb n.prefix prefix) e in
    (eqb-true n.level level parts.0, eqb-true n.prefix prefix parts.1)

stands_from : (n : Node) → stands_at n.level n.prefix n ≡ true
stands_from n = and_from (eqb n.level n.level) (eqb n.prefix n.prefix) (eq-eqb n.level n.level refl) (eq-eqb n.prefix n.prefix refl)

pub node_at-found : (xs : List (Option Node)) (level prefix : ℕ) (n : Node) → node_at xs level prefix ≡ Some n → Found xs level prefix n
node_at-found [] level prefix n e = absurd (none-some n e)
node_at-found (None ∷ rest) level prefix n e =
    let later = node_at-found rest level prefix n e in
    record { key = suc later.key; there = later.there; at_level = later.at_level; at_prefix = later.at_prefix }
node_at-found (Some m ∷ rest) level prefix n e =
    elim (cases_Bool (stands_at level prefix m)) [
      | inl hit ↦
          let same : m ≡ n = same_Some m n (sym (cond-true (stands_at level prefix m) (Some m) (node_at rest level prefix) hit) ∙ e) in
          let parts = stands_parts level prefix m hit in
          record { key = 0; there = ap Some same; at_level = sym (ap (λ (x : Node). x.level) same) ∙ parts.0; at_prefix = sym (ap (λ (x : Node). x.prefix) same) ∙ parts.1 }
      | inr miss ↦
          let later = node_at-found rest level prefix n (sym (cond-false (stands_at level prefix m) (Some m) (node_at rest level prefix) miss) ∙ e) in
          record { key = suc later.key; there = later.there; at_level = later.at_level; at_prefix = later.at_prefix }
    ]

-- a node with this place makes the search find one
pub node_at-some : (xs : List (Option Node)) (key : ℕ) (n : Node) → get_or xs key None ≡ Some n → (m : Node) × (node_at xs n.level n.prefix ≡ Some m)
node_at-some [] key n e = absurd (none-some n e)
node_at-some (None ∷ rest) zero n e = absurd (none-some n e)
node_at-some (None ∷ rest) (suc key) n e = node_at-some rest key n e
node_at-some (Some m ∷ rest) zero n e =
    let same : m ≡ n = same_Some m n e in
    let hit : stands_at n.level n.prefix m ≡ true = rw same (stands_from n) in
    (m, cond-true (stands_at n.level n.prefix m) (Some m) (node_at rest n.level n.prefix) hit)
node_at-some (Some m ∷ rest) (suc key) n e =
    elim (cases_Bool (stands_at n.level n.prefix m)) [
      | inl hit ↦ (m, cond-true (stands_at n.level n.prefix m) (Some m) (node_at rest n.level n.prefix) hit)
      | inr miss ↦
          let later = node_at-some rest key n e in
          (later.0, cond-false (stands_at n.level n.prefix m) (Some m) (node_at rest n.level n.prefix) miss ∙ later.1)
    ]

pub node_at-none : (xs : List (Option Node)) (level prefix : ℕ) → ((n : Node) → Found xs level prefix n → ⊥) → node_at xs level prefix ≡ None
node_at-none xs level prefix never = by_cases (node_at xs level prefix) refl
  where
    by_cases : (o : Option Node) → node_at xs level prefix ≡ o → o ≡ None
    by_cases None e = refl
    by_cases (Some n) e = absurd (never n (node_at-found xs level prefix n e))

-- ---- a tree

pub same_node : (s : Slab Node) (j k : ℕ) (m n : Node) → j ≡ k → get s j ≡ Some m → get s k ≡ Some n → m ≡ n
same_node s j k m n same there here = same_Some m n (sym there ∙ ap (get s) same ∙ here)

module _ (s : Slab Node) (head : ℕ) (tree : IsTree s head) where
  -- a node is not above the head
  level_by : (d key : ℕ) (n : Node) → get s key ≡ Some n → 10 ≤ n.level + d → n.level ≤ tree.top.level
  level_by zero key n there deep =
      elim (cases_eq key head) [
        | inl is ↦ let same : n ≡ tree.top = same_node s key head n tree.top is there tree.is_head.there in rw same (omega arith)
        | inr not ↦
            let p = tree.parents key n there not in
            let high = (tree.nodes p.key p.above p.there).level in
            omega (arith, p.link.level, high)
      ]
  level_by (suc d) key n there deep =
      elim (cases_eq key head) [
        | inl is ↦ let same : n ≡ tree.top = same_node s key head n tree.top is there tree.is_head.there in rw same (omega arith)
        | inr not ↦
            let p = tree.parents key n there not in
            let high : p.above.level ≤ tree.top.level = level_by d p.key p.above p.there (omega (arith, p.link.level)) in
            omega (arith, p.link.level, high)
      ]

  pub level_below : (key : ℕ) (n : Node) → get s key ≡ Some n → n.level ≤ tree.top.level
  level_below key n there = level_by 10 key n there (omega arith)

  -- a node below the head's level is a child
  pub parent_of : (key : ℕ) (n : Node) → get s key ≡ Some n → n.level < tree.top.level → HasParent s key n
  parent_of key n there low =
      tree.parents key n there
      (λ is. let same : n ≡ tree.top = same_node s key head n tree.top is there tree.is_head.there in let e = ap (λ (x : Node). x.level) same in omega (arith, e))

  -- a node at the head's level is the head
  pub head_is : (key : ℕ) (n : Node) → get s key ≡ Some n → tree.top.level ≤ n.level → key ≡ head
  head_is key n there high =
      elim (cases_eq key head) [
        | inl is ↦ is
        | inr not ↦
            let p = tree.parents key n there not in
            absurd (omega (arith, p.link.level, level_below p.key p.above p.there))
      ]

  -- no two nodes have one place
  unique_by : (d j k : ℕ) (m n : Node) → get s j ≡ Some m → get s k ≡ Some n → m.level ≡ n.level → m.prefix ≡ n.prefix → tree.top.level ≡ n.level + d → j ≡ k
  unique_by zero j k m n there here levels prefixes up =
      head_is j m there (omega arith) ∙ sym (head_is k n here (omega arith))
  unique_by (suc d) j k m n there here levels prefixes up =
      let p = parent_of j m there (omega arith) in
      let q = parent_of k n here (omega arith) in
      let prefix : p.above.prefix ≡ q.above.prefix = omega (arith, p.link.prefix, q.link.prefix, p.link.within, q.link.within) in
      let offset : p.offset ≡ q.offset = omega (arith, p.link.prefix, q.link.prefix, prefix) in
      let keys : p.key ≡ q.key = unique_by d p.key q.key p.above q.above p.there q.there (omega (arith, p.link.level, q.link.level)) prefix (omega (arith, q.link.level)) in
      let nodes : p.above ≡ q.above = same_node s p.key q.key p.above q.above keys p.there q.there in
      let a = p.names in
      let b = q.names in
      let c : slot p.above p.offset ≡ slot q.above q.offset = rw (nodes, offset) refl in
      cc

  pub unique : (j k : ℕ) (m n : Node) → get s j ≡ Some m → get s k ≡ Some n → m.level ≡ n.level → m.prefix ≡ n.prefix → j ≡ k
  unique j k m n there here levels prefixes =
      unique_by (tree.top.level - n.level) j k m n there here levels prefixes (omega (arith, level_below k n here))

  -- the search finds each node
  pub node_at-is : (key : ℕ) (n : Node) → get s key ≡ Some n → node_at s.slots n.level n.prefix ≡ Some n
  node_at-is key n there =
      let some = node_at-some s.slots key n there in
      let found = node_at-found s.slots n.level n.prefix some.0 some.1 in
      some.1 ∙ ap Some (same_node s found.key key some.0 n (unique found.key key some.0 n found.there there found.at_level found.at_prefix) found.there there)

  -- a slot of a node is the slot at its place
  pub slot_at-is : (key : ℕ) (n : Node) (place : ℕ) → get s key ≡ Some n → place / 64 ≡ n.prefix → slot_at s n.level place ≡ slot n (place % 64)
  slot_at-is key n place there e = rw (e, node_at-is key n there) refl

  -- under a slot with no child there is no node
  pub no_node : (d key : ℕ) (n : Node) (offset j : ℕ) (m : Node) → get s key ≡ Some n → offset < 64 → IsPlain (slot n offset) → get s j ≡ Some m → n.level ≡ m.level + 1 + d → m.prefix / 64 ^ d ≡ n.prefix * 64 + offset → ⊥
  no_node zero key n offset j m here within plain there levels place =
      let p = parent_of j m there (omega (arith, level_below key n here)) in
      let whole : m.prefix / 64 ^ 0 ≡ m.prefix = omega arith in
      let prefix : p.above.prefix ≡ n.prefix = omega (arith, p.link.prefix, p.link.within, whole) in
      let same : p.offset ≡ offset = omega (arith, p.link.prefix, p.link.within, whole, prefix) in
      let keys = unique p.key key p.above n p.there here (omega (arith, p.link.level)) prefix in
      let nodes : p.above ≡ n = same_node s p.key key p.above n keys p.there here in
      let names : slot n offset ≡ Child j = rw (sym nodes, sym same) p.names in
      rw names at plain
  no_node (suc d) key n offset j m here within plain there levels place =
      let p = parent_of j m there (omega (arith, level_below key n here)) in
      let one : suc d ≡ d + 1 = omega arith in
      let up : m.prefix / 64 ≡ p.above.prefix = omega (arith, p.link.prefix, p.link.within) in
      let down : p.above.prefix / 64 ^ d ≡ n.prefix * 64 + offset = rw (sym up, place-down m.prefix d, sym one) place in
      no_node d key n offset p.key p.above here within plain p.there (omega (arith, p.link.level)) down

  -- under a slot with no child each slot is empty
  pub slot_at-under : (key : ℕ) (n : Node) (offset d level place : ℕ) → get s key ≡ Some n → offset < 64 → IsPlain (slot n offset) → n.level ≡ level + 1 + d → place / 64 / 64 ^ d ≡ n.prefix * 64 + offset → slot_at s level place ≡ Empty
  slot_at-under key n offset d level place here within plain levels under =
      rw (node_at-none s.slots level (place / 64) (λ m found. no_node d key n offset found.key m here within plain found.there (omega (arith, found.at_level)) (rw (found.at_prefix) under))) refl

  -- all nodes are under the head
  pub under_head : (d j : ℕ) (m : Node) → get s j ≡ Some m → tree.top.level ≡ m.level + d → m.prefix / 64 ^ d ≡ 0
  under_head zero j m there levels =
      let is = head_is j m there (omega arith) in
      let same : m ≡ tree.top = same_node s j head m tree.top is there tree.is_head.there in
      let e = ap (λ (x : Node). x.prefix) same in
      let whole : m.prefix / 64 ^ 0 ≡ m.prefix = omega arith in
      omega (arith, e, whole, tree.is_head.prefix)
  under_head (suc d) j m there levels =
      let p = parent_of j m there (omega arith) in
      let one : suc d ≡ d + 1 = omega arith in
      let up : m.prefix / 64 ≡ p.above.prefix = omega (arith, p.link.prefix, p.link.within) in
      rw (one, sym (place-down m.prefix d), up) (under_head d p.key p.above p.there (omega (arith, p.link.level)))

  -- past the head each slot is empty
  pub slot_at-past : (level place d : ℕ) → (level ≤ tree.top.level → tree.top.level ≡ level + d) → (level ≤ tree.top.level → place / 64 / 64 ^ d ≢ 0) → slot_at s level place ≡ Empty
  slot_at-past level place d levels past =
      rw (node_at-none s.slots level (place / 64) (λ m found.
      let low : level ≤ tree.top.level = omega (arith, found.at_level, level_below found.key m found.there) in
      past low (rw (sym found.at_prefix) (under_head d found.key m found.there (omega (arith, levels low, found.at_level)))))) refl

-- the node above, by the key that the node below has
pub record IsUnder (s : Slab Node) (child : ℕ) (c : Node) (parent : ℕ) : Type 0 where
  pub above : Node
  pub there : get s parent ≡ Some above
  pub names : slot above (c.prefix % 64) ≡ Child child
  pub link : IsLink parent above (c.prefix % 64) c

pub is_under : (s : Slab Node) (head : ℕ) → IsTree s head → (child : ℕ) (c : Node) (parent : ℕ) → get s child ≡ Some c → c.parent ≡ Some parent → IsUnder s child c parent
is_under s head tree child c parent there is =
    let below : child ≢ head = λ same.
    let e : c ≡ tree.top = same_node s child head c tree.top same there tree.is_head.there in
    let f : Some parent ≡ None = sym is ∙ ap (λ (x : Node). x.parent) e ∙ tree.is_head.parent in
    cc in
    let p = tree.parents child c there below in
    let keys : Some p.key ≡ Some parent = sym p.link.parent ∙ is in
    let key : p.key ≡ parent = cc in
    let offset : p.offset ≡ c.prefix % 64 = omega (arith, p.link.prefix, p.link.within) in
    record {
      above = p.above;
      there = ap (get s) (sym key) ∙ p.there;
      names = ap (slot p.above) (sym offset) ∙ p.names;
      link = record { parent = is; level = p.link.level; prefix = omega (arith, p.link.prefix, p.link.within); within = omega arith };
    }

pub contains_key : (s : Slab Node) (key : ℕ) (n : Node) → get s key ≡ Some n → ContainsKey s key
contains_key s key n there = rw there refl

-- no child is below the lowest level
pub lowest_plain : (s : Slab Node) (head : ℕ) → IsTree s head → (key : ℕ) (n : Node) → get s key ≡ Some n → n.level ≡ 0 → (o c : ℕ) → slot n o ≡ Child c → ⊥
lowest_plain s head tree key n here low o c names = let h = tree.children key n o c here names in omega (arith, h.link.level, low)
