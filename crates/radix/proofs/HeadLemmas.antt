-- Lemmas on a node that is made over the head.
use Rattle.std.proofs.Common.{◌≡◌, ◌≢◌, ℕ, zero, suc, ◌/◌, ◌%◌, ◌^◌, ◌<◌, ◌≤◌, ◌⊎◌, min, get_or, Option, Some, None, refl, sym, ap, ◌∙◌, inl, inr, arith, lit<, get_or-set_other}
use Rattle.std.proofs.Math.ListN.{replicate}
use Rattle.std.specs.Int.{bit_at}
use Rattle.std.proofs.lemmas.Nat.Bits.{bit_at_lowest, bit_at_above, bit_at-zero}
use Rattle.std.proofs.lemmas.Bool.{cases_eq}
use Rattle.std.proofs.lemmas.Option.{same_Some, none-some}
use Rattle.slab.specs.Slab.{Slab, get, Updates, with_value}
use Rattle.slab.proofs.SlabLemmas.{Updates-with_value}
use Rattle.radix.specs.declared.node.Node.{Node}
use Rattle.radix.specs.declared.slot.Slot.{Slot}
use Rattle.radix.specs.declared.slot.Slot.TheVariants.{Empty, Child, Sibling}
use Rattle.radix.specs.Entries.{slot, bits, content, bit_of, see, node_at, by_node, IsVoid}
use Rattle.radix.specs.Tree.{IsLink, HasChild, HasParent, IsNode, IsTree, IsMarked, IsSound, SameSlots, HasBy, blank, node_over, level_of}
use Rattle.radix.proofs.TreeLemmas.{node_at-found, node_at-none, same_node, contains_key}
use Rattle.radix.proofs.SeeLemmas.{see-same}
use Rattle.radix.proofs.GrowthLemmas.{slot-blank, bits-blank, IsNode-blank}

bits-over : (top : Node) (head mark : ℕ) → mark < 4 → bits (node_over top head) mark ≡ min (bits top mark) 1
bits-over top head zero low = refl
bits-over top head (suc zero) low = refl
bits-over top head (suc (suc zero)) low = refl
bits-over top head (suc (suc (suc zero))) low = refl
bits-over top head (suc (suc (suc (suc mark)))) low = absurd (omega arith)

fits-over : (top : Node) (head mark : ℕ) → bits (node_over top head) mark < 2 ^ 64
fits-over top head zero = omega arith
fits-over top head (suc zero) = omega arith
fits-over top head (suc (suc zero)) = omega arith
fits-over top head (suc (suc (suc zero))) = omega arith
fits-over top head (suc (suc (suc (suc mark)))) = lit< tt

slot-first : (top : Node) (head : ℕ) → slot (node_over top head) 0 ≡ Child head
slot-first top head = refl

slot-rest : (top : Node) (head o : ℕ) → o ≢ 0 → slot (node_over top head) o ≡ Empty
slot-rest top head o differs = get_or-set_other (replicate 64 Empty) 0 o (Child head) Empty differs ∙ slot-blank 0 0 None o

IsNode-over : (top : Node) (head : ℕ) → top.level < 10 → IsNode (node_over top head)
IsNode-over top head low = record { slots = refl; marks = refl; level = omega arith; prefix = lit< tt; fits = fits-over top head; count = refl }

-- the node keeps all but its parent
pub record Moves (old new : Node) : Type 0 where
  pub level : new.level ≡ old.level
  pub prefix : new.prefix ≡ old.prefix
  pub count : new.count ≡ old.count
  pub marks : new.marks ≡ old.marks
  pub slots : new.slots ≡ old.slots

abbrev pub with_parent : Node → ℕ → Node
with_parent n parent = record n { parent = Some parent }

module _ (old new : Slab Node) (head : ℕ) (n : Node) (top : ℕ) (sound : IsSound old head None) (was : get old head ≡ Some n) (small : n.level < 10) (vacant : get old top ≡ None) (tiny : top < 2 ^ 62) (now : get new head ≡ Some (with_parent n top)) (made : get new top ≡ Some (node_over n head)) (others : (x : ℕ) → x ≢ head → x ≢ top → get new x ≡ get old x) where
  abbrev m : Node
  m = with_parent n top

  abbrev a : Node
  a = node_over n head

  is_top : n ≡ sound.tree.top
  is_top = same_Some n sound.tree.top (sym was ∙ sound.tree.is_head.there)

  prefix_zero : n.prefix ≡ 0
  prefix_zero = ap (λ (z : Node). z.prefix) is_top ∙ sound.tree.is_head.prefix

  no_parent : n.parent ≡ None
  no_parent = ap (λ (z : Node). z.parent) is_top ∙ sound.tree.is_head.parent

  not_new : (x : ℕ) (y : Node) → get old x ≡ Some y → x ≢ top
  not_new x y at same = none-some y (sym vacant ∙ ap (get old) (sym same) ∙ at)

  Moves-n : Moves n m
  Moves-n = record { level = refl; prefix = refl; count = refl; marks = refl; slots = refl }

  Moves-refl : (x : Node) → Moves x x
  Moves-refl x = record { level = refl; prefix = refl; count = refl; marks = refl; slots = refl }

  kept : (x : ℕ) (y : Node) → get old x ≡ Some y → HasBy Moves new x y
  kept x y at = elim (cases_eq x head) [
    | inl same ↦
        let e : y ≡ n = same_Some y n (sym at ∙ ap (get old) same ∙ was) in
        record { node = m; there = ap (get new) same ∙ now; is = rw e Moves-n }
    | inr differs ↦ record { node = y; there = others x differs (not_new x y at) ∙ at; is = Moves-refl y }
  ]

  cases_new : (x : ℕ) (y : Node) → get new x ≡ Some y → ((x ≡ top) × (y ≡ a)) ⊎ (((x ≡ head) × (y ≡ m)) ⊎ ((x ≢ head) × (get old x ≡ Some y)))
  cases_new x y at = elim (cases_eq x top) [
    | inl same ↦ inl (same, same_Some y a (sym at ∙ ap (get new) same ∙ made))
    | inr apart ↦ elim (cases_eq x head) [
      | inl same ↦ inr (inl (same, same_Some y m (sym at ∙ ap (get new) same ∙ now)))
      | inr differs ↦ inr (inr (differs, sym (others x differs apart) ∙ at))
    ]
  ]

  -- a child of an old node is as it was
  child_kept : (x : ℕ) (z : Node) (o c : ℕ) (b : Node) → get old c ≡ Some b → IsLink x z o b → get new c ≡ Some b
  child_kept x z o c b there link =
      let apart : c ≢ head = λ same.
      let e : b ≡ n = same_node old c head b n same there was in
      none-some x (sym no_parent ∙ sym (ap (λ (w : Node). w.parent) e) ∙ link.parent) in
      others c apart (not_new c b there) ∙ there

  link_new : IsLink top a 0 m
  link_new = record { parent = refl; level = refl; prefix = omega (arith, prefix_zero); within = omega arith }

  link_at : (x z : ℕ) (u v : Node) (o p : ℕ) (b : Node) → x ≡ z → u ≡ v → o ≡ p → IsLink z v p b → IsLink x u o b
  link_at x z u v o p b keys nodes offsets link = rw (keys, nodes, offsets) link

  children_new : (x : ℕ) (y : Node) (o c : ℕ) → get new x ≡ Some y → slot y o ≡ Child c → HasChild new x y o c
  children_new x y o c at is = elim (cases_new x y at) [
    | inl p ↦
        let is_a : slot a o ≡ Child c = ap (λ z. slot z o) (sym p.1) ∙ is in
        elim (cases_eq o 0) [
          | inl zero_offset ↦
              let e : Child head ≡ Child c = sym (ap (slot a) zero_offset) ∙ is_a in
              let f : c ≡ head = cc in
              record { below = m; there = ap (get new) f ∙ now; link = link_at x top y a o 0 m p.0 p.1 zero_offset link_new }
          | inr differs ↦ absurd (let e : Empty ≡ Child c = sym (slot-rest n head o differs) ∙ is_a in cc)
        ]
    | inr q ↦ elim q [
      | inl p ↦
          let is_n : slot n o ≡ Child c = ap (λ z. slot z o) (sym p.1) ∙ is in
          let h = sound.tree.children head n o c was is_n in
          record { below = h.below; there = child_kept head n o c h.below h.there h.link; link = link_at x head y m o o h.below p.0 p.1 refl (record { parent = h.link.parent; level = h.link.level; prefix = h.link.prefix; within = h.link.within }) }
      | inr p ↦
          let h = sound.tree.children x y o c p.1 is in
          record { below = h.below; there = child_kept x y o c h.below h.there h.link; link = h.link }
    ]
  ]

  parents_new : (x : ℕ) (y : Node) → get new x ≡ Some y → x ≢ top → HasParent new x y
  parents_new x y at below = elim (cases_new x y at) [
    | inl p ↦ absurd (below p.0)
    | inr q ↦ elim q [
      | inl p ↦ rw (p.0, p.1) (record { key = top; above = a; offset = 0; there = made; names = refl; link = link_new })
      | inr p ↦
          let r = sound.tree.parents x y p.1 p.0 in
          let k = kept r.key r.above r.there in
          record {
            key = r.key;
            above = k.node;
            offset = r.offset;
            there = k.there;
            names = ap (λ zs. get_or zs r.offset Empty) k.is.slots ∙ r.names;
            link = record { parent = r.link.parent; level = k.is.level ∙ r.link.level; prefix = let e = k.is.prefix in omega (arith, e, r.link.prefix); within = r.link.within };
          }
    ]
  ]

  node_m : IsNode m
  node_m = let e = sound.tree.nodes head n was in record { slots = e.slots; marks = e.marks; level = e.level; prefix = e.prefix; fits = e.fits; count = e.count }

  over_tree : IsTree new top
  over_tree = record {
    top = a;
    is_head = record { there = made; parent = refl; prefix = refl };
    nodes = λ x y at. elim (cases_new x y at) [
      | inl p ↦ rw (p.1) (IsNode-over n head small)
      | inr q ↦ elim q [ inl p ↦ rw (p.1) node_m | inr p ↦ sound.tree.nodes x y p.1 ]
    ];
    children = children_new;
    parents = parents_new;
    small = λ x y at. elim (cases_new x y at) [
      | inl p ↦ rw (p.0) tiny
      | inr q ↦ elim q [ inl p ↦ rw (p.0) (sound.tree.small head n was) | inr p ↦ sound.tree.small x y p.1 ]
    ];
  }

  -- ---- the marks

  marked_a : (mark : ℕ) → mark < 4 → IsMarked new mark None a
  marked_a mark low =
      let same = bits-over n head mark low in
      record {
        empty = λ o within is.
            let differs : o ≢ 0 = λ e. let f : Child head ≡ Empty = sym (ap (slot a) e) ∙ is in cc in
            ap (λ z. bit_at z o) same ∙ bit_at_above (min (bits n mark) 1) 1 o (omega arith) (omega (arith, differs));
        sibling = λ o first within is.
            let differs : o ≢ 0 = λ e. let f : Child head ≡ Sibling first = sym (ap (slot a) e) ∙ is in cc in
            absurd (let f : Empty ≡ Sibling first = sym (slot-rest n head o differs) ∙ is in cc);
        child = λ o c below within is but at. elim (cases_eq o 0) [
          | inl zero_offset ↦
              let e : Child head ≡ Child c = sym (ap (slot a) zero_offset) ∙ is in
              let f : c ≡ head = cc in
              let g : below ≡ m = same_Some below m (sym at ∙ ap (get new) f ∙ now) in
              let h : bit_at (bits a mark) o ≡ bit_at (min (bits n mark) 1) 0 = ap (bit_at (bits a mark)) zero_offset ∙ ap (λ z. bit_at z 0) same in
              let i = bit_at_lowest (min (bits n mark) 1) in
              let j : bits below mark ≡ bits n mark = ap (λ z. bits z mark) g in
              omega (arith, h, i, j)
          | inr differs ↦ absurd (let e : Empty ≡ Child c = sym (slot-rest n head o differs) ∙ is in cc)
        ];
      }

  marked_old : (mark : ℕ) → mark < 4 → (x : ℕ) (y : Node) → get old x ≡ Some y → IsMarked new mark None y
  marked_old mark low x y at =
      let e = (sound.exact mark low).each x y at in
      record {
        empty = e.empty;
        sibling = e.sibling;
        child = λ o c below within is but there.
            let h = sound.tree.children x y o c at is in
            let f : below ≡ h.below = same_Some below h.below (sym there ∙ child_kept x y o c h.below h.there h.link) in
            e.child o c h.below within is but h.there ∙ ap (λ z. min (bits z mark) 1) (sym f);
      }

  marked_m : (mark : ℕ) → mark < 4 → IsMarked new mark None m
  marked_m mark low =
      let e = marked_old mark low head n was in
      record { empty = e.empty; sibling = e.sibling; child = e.child }

  pub over_sound : IsSound new top None
  over_sound = record {
    tree = over_tree;
    exact = λ mark low. record {
      each = λ x y at. elim (cases_new x y at) [
        | inl p ↦ rw (p.1) (marked_a mark low)
        | inr q ↦ elim q [ inl p ↦ rw (p.1) (marked_m mark low) | inr p ↦ marked_old mark low x y p.1 ]
      ];
    };
    filled = record {
      each = λ x y at but. elim (cases_new x y at) [
        | inl p ↦ rw (p.1) (omega arith)
        | inr q ↦ elim q [ inl p ↦ rw (p.1) (sound.filled.each head n was (λ e. cc)) | inr p ↦ sound.filled.each x y p.1 (λ e. cc) ]
      ];
    };
  }

  -- ---- what the nodes stand for

  module _ {X : Type 0} (f : Node → ℕ → X) (blank_value : X) (same : (o : ℕ) → f m o ≡ f n o) (nothing : (o : ℕ) → f a o ≡ blank_value) (level at : ℕ) where
    seen_over : see f blank_value new level at ≡ see f blank_value old level at
    seen_over = see-same f blank_value old new head top sound.tree over_tree level at
        (λ x y is at_level at_prefix. elim (cases_eq x head) [
          | inl e ↦
              let q : y ≡ n = same_node old x head y n e is was in
              record { key = head; node = m; there = now; at_level = ap (λ (z : Node). z.level) (sym q) ∙ at_level; at_prefix = ap (λ (z : Node). z.prefix) (sym q) ∙ at_prefix; sees = same (at % 64) ∙ ap (λ z. f z (at % 64)) (sym q) }
          | inr differs ↦ record { key = x; node = y; there = others x differs (not_new x y is) ∙ is; at_level = at_level; at_prefix = at_prefix; sees = refl }
        ])
        (λ x y is at_level at_prefix. elim (cases_new x y is) [
          | inl p ↦ inr (ap (λ z. f z (at % 64)) p.1 ∙ nothing (at % 64))
          | inr q ↦ inl (elim q [
            | inl p ↦ record { key = head; node = n; there = was; at_level = ap (λ (z : Node). z.level) (sym p.1) ∙ at_level; at_prefix = ap (λ (z : Node). z.prefix) (sym p.1) ∙ at_prefix; sees = sym (same (at % 64)) ∙ ap (λ z. f z (at % 64)) (sym p.1) }
            | inr p ↦ record { key = x; node = y; there = p.1; at_level = at_level; at_prefix = at_prefix; sees = refl }
          ])
        ])

  blank_over : {X : Type 0} (f : Slot → ℕ → X) (blank_value : X) → ((o : ℕ) → f Empty o ≡ blank_value) → ((o : ℕ) → f (Child head) o ≡ blank_value) → (o : ℕ) → f (slot a o) o ≡ blank_value
  blank_over f blank_value empty child o = elim (cases_eq o 0) [
    | inl e ↦ ap (λ z. f z o) (ap (slot a) e) ∙ child o
    | inr differs ↦ ap (λ z. f z o) (slot-rest n head o differs) ∙ empty o
  ]

  pub over_entries : SameSlots old new
  over_entries = record {
    entries = λ level at. seen_over (λ z o. content (slot z o)) None (λ o. refl) (blank_over (λ x o. content x) None (λ o. refl) (λ o. refl)) level at;
    marks = λ mark level at low. seen_over (λ z o. bit_of (slot z o) (bit_at (bits z mark) o)) 0 (λ o. refl) (blank_over (λ x o. bit_of x (bit_at (bits a mark) o)) 0 (λ o. refl) (λ o. refl)) level at;
  }

-- ---- the same as the code makes it

module _ (old mid : Slab Node) (head : ℕ) (n n' b : Node) (top : ℕ) (sound : IsSound old head None) (was : get old head ≡ Some n) (small : n.level < 10) (vacant : get old top ≡ None) (tiny : top < 2 ^ 62) (inserted : Updates old mid top (Some b)) (is_over : b ≡ node_over n head) (there : get mid head ≡ Some n') where
  apart : head ≢ top
  apart e = none-some n (sym vacant ∙ ap (get old) (sym e) ∙ was)

  is_n : n' ≡ n
  is_n = same_Some n' n (sym there ∙ inserted.others head apart ∙ was)

  updates : Updates mid (with_value mid head (with_parent n top)) head (Some (with_parent n top))
  updates = Updates-with_value mid head (with_parent n top) (contains_key mid head n' there)

  made : get (with_value mid head (with_parent n top)) top ≡ Some (node_over n head)
  made = updates.others top (λ e. apart (sym e)) ∙ inserted.changed ∙ ap Some is_over

  others : (x : ℕ) → x ≢ head → x ≢ top → get (with_value mid head (with_parent n top)) x ≡ get old x
  others x p q = updates.others x p ∙ inserted.others x q

  pub head_sound : IsSound (with_value mid head (with_parent n' top)) top None
  head_sound = rw is_n (over_sound old (with_value mid head (with_parent n top)) head n top sound was small vacant tiny updates.changed made others)

  pub head_entries : SameSlots old (with_value mid head (with_parent n' top))
  head_entries = rw is_n (over_entries old (with_value mid head (with_parent n top)) head n top sound was small vacant tiny updates.changed made others)

-- a level that is known of the node under a key
pub level_known : (s : Slab Node) (key : ℕ) (n : Node) → get s key ≡ Some n → level_of (get s key) < 10 → n.level < 10
level_known s key n there low = let e : level_of (get s key) ≡ n.level = ap level_of there in omega (arith, low, e)

top_level : (index l : ℕ) → index < 2 ^ 64 → l ≡ 10 → index / 64 ^ l / 64 ≡ 0
top_level index l fits is = rw is (omega arith)

-- a head that does not cover an index is not at the highest level
pub not_highest : (index l level : ℕ) → index < 2 ^ 64 → l ≤ 10 → level ≤ 10 → (l < level) ⊎ (index / 64 ^ l / 64 ≢ 0) → l < 10
not_highest index l level fits low small why = elim (cases_eq l 10) [
  | inl is ↦ absurd (elim why [ inl less ↦ let e : 10 < 10 = omega arith in omega arith | inr beyond ↦ beyond (top_level index l fits is) ])
  | inr differs ↦ omega arith
]

-- ---- the first node

module _ (old new : Slab Node) (key level : ℕ) (void : IsVoid old) (tiny : key < 2 ^ 62) (low : level ≤ 10) (planted : Updates old new key (Some (blank level 0 None))) where
  abbrev first : Node
  first = blank level 0 None

  only : (x : ℕ) (y : Node) → get new x ≡ Some y → (x ≡ key) × (y ≡ first)
  only x y at = elim (cases_eq x key) [
    | inl same ↦ (same, same_Some y first (sym at ∙ ap (get new) same ∙ planted.changed))
    | inr differs ↦ absurd (none-some y (sym (void.each x) ∙ sym (planted.others x differs) ∙ at))
  ]

  plant_tree : IsTree new key
  plant_tree = record {
    top = first;
    is_head = record { there = planted.changed; parent = refl; prefix = refl };
    nodes = λ x y at. rw ((only x y at).1) (IsNode-blank level 0 None low (lit< tt));
    children = λ x y o c at is. absurd (let e : Empty ≡ Child c = sym (slot-blank level 0 None o) ∙ ap (λ z. slot z o) (sym (only x y at).1) ∙ is in cc);
    parents = λ x y at below. absurd (below (only x y at).0);
    small = λ x y at. rw ((only x y at).0) tiny;
  }

  marked_first : (mark : ℕ) → mark < 4 → IsMarked new mark None first
  marked_first mark small =
      let none = bits-blank level 0 None mark small in
      record {
        empty = λ o within is. ap (λ z. bit_at z o) none ∙ bit_at-zero o;
        sibling = λ o first within is. ap (λ z. bit_at z o) none ∙ bit_at-zero o;
        child = λ o c below within is but at. absurd (let e : Empty ≡ Child c = sym (slot-blank level 0 None o) ∙ is in cc);
      }

  pub plant_sound : IsSound new key (Some key)
  plant_sound = record {
    tree = plant_tree;
    exact = λ mark small. record { each = λ x y at. rw ((only x y at).1) (marked_first mark small) };
    filled = record { each = λ x y at but. absurd (but (ap Some (only x y at).0)) };
  }

  module _ {X : Type 0} (f : Node → ℕ → X) (value : X) (same : (o : ℕ) → f first o ≡ value) (at_level place : ℕ) where
    by_node_new : (o : Option Node) → node_at new.slots at_level (place / 64) ≡ o → by_node f value o (place % 64) ≡ value
    by_node_new None e = refl
    by_node_new (Some n) e =
        let found = node_at-found new.slots at_level (place / 64) n e in
        ap (λ z. f z (place % 64)) (only found.key n found.there).1 ∙ same (place % 64)

    seen_first : see f value new at_level place ≡ see f value old at_level place
    seen_first =
        let gone : node_at old.slots at_level (place / 64) ≡ None = node_at-none old.slots at_level (place / 64) (λ m found. none-some m (sym (void.each found.key) ∙ found.there)) in
        by_node_new (node_at new.slots at_level (place / 64)) refl ∙ ap (λ o. by_node f value o (place % 64)) (sym gone)

  pub plant_entries : SameSlots old new
  plant_entries = record {
    entries = λ l at. seen_first (λ z o. content (slot z o)) None (λ o. ap content (slot-blank level 0 None o)) l at;
    marks = λ mark l at small. seen_first (λ z o. bit_of (slot z o) (bit_at (bits z mark) o)) 0 (λ o. ap (λ z. bit_of z (bit_at (bits first mark) o)) (slot-blank level 0 None o)) l at;
  }

pub updates_at : (old new : Slab Node) (key : ℕ) (b : Node) (level : ℕ) → b ≡ blank level 0 None → Updates old new key (Some b) → Updates old new key (Some (blank level 0 None))
updates_at old new key b level is updates = rw (sym is) updates
