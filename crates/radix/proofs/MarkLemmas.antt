-- Lemmas on the bits of a mark at each level.
use Rattle.std.proofs.Common.{◌≡◌, ◌≢◌, ℕ, ◌-◌, ◌%◌, ◌^◌, ◌<◌, min, true, false, not, cond, eqb, Some, None, length, set, refl, sym, ap, ◌∙◌, inl, inr, arith, get_or-set_same, get_or-set_other, length-set}
use Rattle.std.specs.Int.{bit_at}
use Rattle.std.specs.Bool.{beq}
use Rattle.std.proofs.lemmas.Bool.{cases_eq, not-false}
use Rattle.std.proofs.lemmas.Bool.Decides.{eqb_tells}
use Rattle.std.proofs.Math.Nat.{pos_of_ne-zero}
use Rattle.std.proofs.lemmas.Option.{same_Some}
use Rattle.slab.specs.Slab.{Slab, get, Updates, with_value}
use Rattle.slab.proofs.SlabLemmas.{Updates-with_value}
use Rattle.std.proofs.lemmas.Nat.Bits.{bit_at-zero}
use Rattle.radix.specs.declared.node.Node.{Node}
use Rattle.radix.specs.declared.slot.Slot.TheVariants.{Empty, Child, Sibling}
use Rattle.radix.specs.Bitmap.{ChangesBit}
use Rattle.radix.specs.Entries.{slot, bits}
use Rattle.radix.specs.Tree.{IsLink, IsNode, IsTree, KeepsPlace, IsRemarked, Remarks, IsMarked, MarkIsExactBut, with_bits, level_of}
use Rattle.radix.proofs.NodeLemmas.{EachNode-update, EachNode-map, EachNode-trans, IsTree-kept}
use Rattle.radix.proofs.TreeLemmas.{IsUnder, is_under, contains_key}

pub bits-same : (n : Node) (mark b : ℕ) → length n.marks ≡ 4 → mark < 4 → bits (with_bits n mark b) mark ≡ b
bits-same n mark b marks within = get_or-set_same n.marks mark b 0 (omega (arith, marks))

pub bits-other : (n : Node) (mark other b : ℕ) → other ≢ mark → bits (with_bits n mark b) other ≡ bits n other
bits-other n mark other b differs = get_or-set_other n.marks mark other b 0 differs

pub IsRemarked-refl : (mark : ℕ) (n : Node) → IsRemarked mark n n
IsRemarked-refl mark n = record { level = refl; prefix = refl; parent = refl; count = refl; slots = refl; length_kept = refl; fits = λ h. h; others = λ other differs. refl; plain = λ offset within is. refl }

pub IsRemarked-trans : (mark : ℕ) (a b c : Node) → IsRemarked mark a b → IsRemarked mark b c → IsRemarked mark a c
IsRemarked-trans mark a b c p q = record {
  level = q.level ∙ p.level;
  prefix = q.prefix ∙ p.prefix;
  parent = q.parent ∙ p.parent;
  count = q.count ∙ p.count;
  slots = q.slots ∙ p.slots;
  length_kept = q.length_kept ∙ p.length_kept;
  fits = λ h. q.fits (p.fits h);
  others = λ other differs. q.others other differs ∙ p.others other differs;
  plain = λ offset within is. q.plain offset within (rw (p.slots) is) ∙ p.plain offset within is;
}

pub IsRemarked-place : (mark : ℕ) (a b : Node) → IsRemarked mark a b → KeepsPlace a b
IsRemarked-place mark a b p = record {
  level = p.level;
  prefix = p.prefix;
  parent = p.parent;
  keeps = λ offset child names. rw (p.slots) names;
  kept = λ offset child names. rw (p.slots) at names;
}

IsRemarked-node : (mark : ℕ) (a b : Node) → IsRemarked mark a b → IsNode a → IsNode b
IsRemarked-node mark a b p node = record {
  slots = rw (p.slots) node.slots;
  marks = p.length_kept ∙ node.marks;
  level = omega (arith, p.level, node.level);
  prefix = omega (arith, p.prefix, node.prefix);
  fits = λ other. elim (cases_eq other mark) [ inl e ↦ rw e (p.fits (node.fits mark)) | inr differs ↦ rw (p.others other differs) (node.fits other) ];
  count = rw (p.slots, p.count) node.count;
}

pub IsTree-remarks : (mark : ℕ) (old new : Slab Node) (head : ℕ) → Remarks mark old new → IsTree old head → IsTree new head
IsTree-remarks mark old new head each tree =
    IsTree-kept old new head (EachNode-map old new (IsRemarked-place mark) each)
    (λ key n there. let a = each.had key n there in IsRemarked-node mark a.node n a.is (tree.nodes key a.node a.there))
    tree

-- the bit of a child changes
pub IsRemarked-bit : (mark : ℕ) (n : Node) (offset child b bit : ℕ) → length n.marks ≡ 4 → mark < 4 → b < 2 ^ 64 → slot n offset ≡ Child child → ChangesBit (bits n mark) b offset bit → IsRemarked mark n (with_bits n mark b)
IsRemarked-bit mark n offset child b bit marks within small names changes = record {
  level = refl;
  prefix = refl;
  parent = refl;
  count = refl;
  slots = refl;
  length_kept = length-set n.marks mark b;
  fits = λ h. rw (bits-same n mark b marks within) small;
  others = λ other differs. bits-other n mark other b differs;
  plain = λ other below is.
      let differs : other ≢ offset = λ same. rw (same, names) at is in
      rw (bits-same n mark b marks within) (changes.others other below differs);
}

-- ---- one step up: the bit of a child is made exact, and then the bit of its node may be wrong

module _ (old new : Slab Node) (head : ℕ) (tree : IsTree old head) (mark : ℕ) (child : ℕ) (c : Node) (key : ℕ) (n : Node) (offset b : ℕ) (there : get old child ≡ Some c) (here : get old key ≡ Some n) (names : slot n offset ≡ Child child) (within : mark < 4) (small : b < 2 ^ 64) (updates : Updates old new key (Some (with_bits n mark b))) (changes : ChangesBit (bits n mark) b offset (min (bits c mark) 1)) (exact : MarkIsExactBut old mark (Some child)) where
  link : IsLink key n offset c
  link = let h = tree.children key n offset child here names in rw (same_Some c h.below (sym there ∙ h.there)) h.link

  apart : child ≢ key
  apart same = let e : c ≡ n = same_Some c n (sym there ∙ ap (get old) same ∙ here) in let f = ap (λ (x : Node). x.level) e in omega (arith, link.level, f)

  below_was : (x : ℕ) (y : Node) → x ≢ key → get new x ≡ Some y → get old x ≡ Some y
  below_was x y differs is = sym (updates.others x differs) ∙ is

  -- at the node itself
  here_exact : IsMarked new mark (Some key) (with_bits n mark b)
  here_exact =
      let marks = (tree.nodes key n here).marks in
      let was = exact.each key n here in
      record {
        empty = λ other low is.
            let differs : other ≢ offset = λ same. let e : Child child ≡ Empty = sym names ∙ ap (slot n) (sym same) ∙ is in (cc) in
            rw (bits-same n mark b marks within) (changes.others other low differs ∙ was.empty other low is);
        sibling = λ other first low is.
            let differs : other ≢ offset = λ same. let e : Child child ≡ Sibling first = sym names ∙ ap (slot n) (sym same) ∙ is in (cc) in
            rw (bits-same n mark b marks within) (changes.others other low differs ∙ was.sibling other first low is);
        child = λ other grandchild below low is but at.
            let apart_from : grandchild ≢ key = λ same. but (ap Some same) in
            let at_old = below_was grandchild below apart_from at in
            rw (bits-same n mark b marks within) (elim (cases_eq other offset) [
              | inl same ↦
                  let e : Child grandchild ≡ Child child = sym is ∙ ap (slot n) same ∙ names in
                  let f : grandchild ≡ child = cc in
                  let g : below ≡ c = same_Some below c (sym at_old ∙ ap (get old) f ∙ there) in
                  rw (same, g) changes.changed
              | inr differs ↦
                  let not_child : Some grandchild ≢ Some child = λ e.
                  let f : grandchild ≡ child = cc in
                  let h = tree.children key n other grandchild here is in
                  let g : h.below ≡ c = same_Some h.below c (sym h.there ∙ ap (get old) f ∙ there) in
                  let p = ap (λ (x : Node). x.prefix) g in
                  differs (omega (arith, h.link.prefix, link.prefix, p)) in
                  changes.others other low differs ∙ was.child other grandchild below low is not_child at_old
            ]);
      }

  -- at another node
  there_exact : (x : ℕ) (y : Node) → x ≢ key → get old x ≡ Some y → IsMarked new mark (Some key) y
  there_exact x y differs at =
      let was = exact.each x y at in
      record {
        empty = was.empty;
        sibling = was.sibling;
        child = λ other grandchild below low is but is_there.
            let apart_from : grandchild ≢ key = λ same. but (ap Some same) in
            let at_old = below_was grandchild below apart_from is_there in
            let not_child : Some grandchild ≢ Some child = λ e.
            let f : grandchild ≡ child = cc in
            let h = tree.children x y other grandchild at is in
            let g : h.below ≡ c = same_Some h.below c (sym h.there ∙ ap (get old) f ∙ there) in
            let p : Some x ≡ Some key = sym h.link.parent ∙ ap (λ (z : Node). z.parent) g ∙ link.parent in
            differs (cc) in
            was.child other grandchild below low is not_child at_old;
      }

  pub exact_above : MarkIsExactBut new mark (Some key)
  exact_above = record {
    each = λ x y at. elim (cases_eq x key) [
      | inl same ↦ let e : y ≡ with_bits n mark b = same_Some y (with_bits n mark b) (sym at ∙ ap (get new) same ∙ updates.changed) in rw e here_exact
      | inr differs ↦ there_exact x y differs (below_was x y differs at)
    ];
  }

  -- where the node had a bit and has one, no bit above changes
  pub exact_all : min b 1 ≡ min (bits n mark) 1 → MarkIsExactBut new mark None
  exact_all same_bit = record {
    each = λ x y at.
        let now = exact_above.each x y at in
        record {
          empty = now.empty;
          sibling = now.sibling;
          child = λ other grandchild below low is but is_there. elim (cases_eq grandchild key) [
            | inl same ↦
                let marks = (tree.nodes key n here).marks in
                let e : below ≡ with_bits n mark b = same_Some below (with_bits n mark b) (sym is_there ∙ ap (get new) same ∙ updates.changed) in
                let f : bits below mark ≡ b = ap (λ (z : Node). bits z mark) e ∙ bits-same n mark b marks within in
                let is_key : slot y other ≡ Child key = rw (sym same) is in
                elim (cases_eq x key) [
                  | inl itself ↦
                      let g : y ≡ with_bits n mark b = same_Some y (with_bits n mark b) (sym at ∙ ap (get new) itself ∙ updates.changed) in
                      let names_itself : slot n other ≡ Child key = sym (ap (λ (z : Node). slot z other) g) ∙ is_key in
                      let h = tree.children key n other key here names_itself in
                      let k = ap (λ (z : Node). z.level) (same_Some h.below n (sym h.there ∙ here)) in
                      absurd (omega (arith, h.link.level, k))
                  | inr differs ↦
                      let at_old = below_was x y differs at in
                      let was = (exact.each x y at_old).child other key n low is_key (λ q. apart (let r : key ≡ child = cc in sym r)) here in
                      was ∙ sym same_bit ∙ ap (λ (z : ℕ). min z 1) (sym f)
                ]
            | inr differs ↦ now.child other grandchild below low is (λ e. differs (cc)) is_there
          ];
        };
  }

  pub remarks : Remarks mark old new
  remarks = EachNode-update old new key n (with_bits n mark b) (IsRemarked-refl mark) here updates (IsRemarked-bit mark n offset child b (min (bits c mark) 1) (tree.nodes key n here).marks within small names changes)

-- where the node that may be wrong is the head, no bit is
pub exact_at_head : (s : Slab Node) (head : ℕ) (tree : IsTree s head) (mark child : ℕ) (c : Node) → get s child ≡ Some c → c.parent ≡ None → MarkIsExactBut s mark (Some child) → MarkIsExactBut s mark None
exact_at_head s head tree mark child c there parent exact = record {
  each = λ x y at.
      let was = exact.each x y at in
      record {
        empty = was.empty;
        sibling = was.sibling;
        child = λ other grandchild below low is but is_there.
            was.child other grandchild below low is
            (λ e.
            let f : grandchild ≡ child = cc in
            let h = tree.children x y other grandchild at is in
            let g : h.below ≡ c = same_Some h.below c (sym h.there ∙ ap (get s) f ∙ there) in
            let p : Some x ≡ None = sym h.link.parent ∙ ap (λ (z : Node). z.parent) g ∙ parent in
            cc)
            is_there;
      };
}

pub some_bit : (b offset : ℕ) → bit_at b offset ≡ 1 → 0 < b
some_bit b offset set =
    let never : b ≡ 0 → ⊥ = λ e. let f : 0 ≡ 1 = sym (bit_at-zero offset) ∙ ap (λ n. bit_at n offset) (sym e) ∙ set in omega (arith, f) in
    pos_of_ne-zero never

-- ---- one step up, as the code makes it

module _ (s : Slab Node) (head : ℕ) (tree : IsTree s head) (mark : ℕ) (child : ℕ) (c : Node) (parent : ℕ) (n : Node) (b : ℕ) (there : get s child ≡ Some c) (is : c.parent ≡ Some parent) (here : get s parent ≡ Some n) (within : mark < 4) (small : b < 2 ^ 64) (changes : ChangesBit (bits n mark) b (c.prefix % 64) (min (bits c mark) 1)) (exact : MarkIsExactBut s mark (Some child)) where
  abbrev stepped : Slab Node
  stepped = with_value s parent (with_bits n mark b)

  under : IsUnder s child c parent
  under = is_under s head tree child c parent there is

  names : slot n (c.prefix % 64) ≡ Child child
  names = ap (λ (x : Node). slot x (c.prefix % 64)) (same_Some n under.above (sym here ∙ under.there)) ∙ under.names

  updates : Updates s stepped parent (Some (with_bits n mark b))
  updates = Updates-with_value s parent (with_bits n mark b) (contains_key s parent n here)

  pub step_above : MarkIsExactBut stepped mark (Some parent)
  step_above = exact_above s stepped head tree mark child c parent n (c.prefix % 64) b there here names within small updates changes exact

  pub step_all : min b 1 ≡ min (bits n mark) 1 → MarkIsExactBut stepped mark None
  step_all same = exact_all s stepped head tree mark child c parent n (c.prefix % 64) b there here names within small updates changes exact same

  pub step_remarks : Remarks mark s stepped
  step_remarks = remarks s stepped head tree mark child c parent n (c.prefix % 64) b there here names within small updates changes exact

  pub step_tree : IsTree stepped head
  step_tree = IsTree-remarks mark s stepped head step_remarks tree

  pub step_there : get stepped parent ≡ Some (with_bits n mark b)
  step_there = updates.changed

  pub step_bits : bits (with_bits n mark b) mark ≡ b
  step_bits = bits-same n mark b (tree.nodes parent n here).marks within

  pub step_nearer : 10 - level_of (get stepped parent) < 10 - level_of (get s child)
  step_nearer =
      let e : n ≡ under.above = same_Some n under.above (sym here ∙ under.there) in
      let f = ap (λ (x : Node). x.level) e in
      let low = (tree.nodes parent n here).level in
      rw (step_there, there) (omega (arith, under.link.level, f, low))

pub Remarks-trans : (mark : ℕ) (x y z : Slab Node) → Remarks mark x y → Remarks mark y z → Remarks mark x z
Remarks-trans mark x y z p q = EachNode-trans x y z (IsRemarked-trans mark) p q

pub ChangesBit-at : (old b o p x y : ℕ) → o ≡ p → x ≡ y → ChangesBit old b p y → ChangesBit old b o x
ChangesBit-at old b o p x y place bit changes = rw (place, bit) changes

-- the tests of the code, by number
pub some_test : (x : ℕ) → cond (not (eqb x 0)) 1 0 ≡ min x 1
some_test x = elim (eqb_tells x 0) [ inl here ↦ rw (here.0) (omega (arith, here.1)) | inr here ↦ rw (here.0) (omega (arith, here.1)) ]

pub same_test : (x y : ℕ) → beq (eqb x 0) (eqb y 0) ≡ true → min y 1 ≡ min x 1
same_test x y e =
    elim (eqb_tells x 0) [
      | inl a ↦ elim (eqb_tells y 0) [ inl b ↦ omega (arith, a.1, b.1) | inr b ↦ absurd (let f : beq true false ≡ true = rw (a.0, b.0) at e in cc) ]
      | inr a ↦ elim (eqb_tells y 0) [ inl b ↦ absurd (let f : beq false true ≡ true = rw (a.0, b.0) at e in cc) | inr b ↦ omega (arith, a.1, b.1) ]
    ]

pub same_test_not : (x y : ℕ) → not (beq (eqb x 0) (eqb y 0)) ≡ false → min y 1 ≡ min x 1
same_test_not x y e = same_test x y (not-false (beq (eqb x 0) (eqb y 0)) e)
