-- Lemmas on the bits of the head: a node has a bit exactly where an entry at it or below it has the mark.
use Rattle.std.proofs.Common.{◌≡◌, ℕ, zero, suc, ◌+◌, ◌*◌, ◌/◌, ◌%◌, ◌^◌, ◌<◌, ◌≤◌, not, eqb, MatchBool, Option, Some, None, refl, sym, ap, ◌∙◌, inl, inr, arith, w64}
use Rattle.std.specs.Int.{bit_at, trailing_zeros}
use Rattle.std.proofs.Math.Facts.{Fits-of_lt}
use Rattle.std.proofs.Math.Nat.{mul-div_cancel, one-le-pow}
use Rattle.std.proofs.lemmas.Bool.Decides.{eqb_tells}
use Rattle.std.proofs.lemmas.Option.{same_Some}
use Rattle.slab.specs.Slab.{Slab, get}
use Rattle.radix.specs.declared.node.Node.{Node}
use Rattle.radix.specs.declared.slot.Slot.{Slot}
use Rattle.radix.specs.declared.slot.Slot.TheVariants.{Child}
use Rattle.radix.specs.Entries.{slot, bits, IsVoid, mark_at, HasMarked, HasNoMarked, HasNoMarkedUnder}
use Rattle.radix.specs.Tree.{IsSound, IsSoundOrVoid}
use Rattle.radix.proofs.BitmapLemmas.{lowest_of}
use Rattle.radix.proofs.MarkLemmas.{some_bit}
use Rattle.radix.proofs.NextLemmas.{marked_here, in_node, within_head}
use Rattle.radix.proofs.VoidLemmas.{void_see}

module _ (s : Slab Node) (head : ℕ) (sound : IsSound s head None) (mark : ℕ) (low : mark < 4) where
  at_slot : (key : ℕ) (n : Node) (o : ℕ) → get s key ≡ Some n → o < 64 → bit_at (bits n mark) o ≡ 1 → (x : Slot) → slot n o ≡ x → ((c : ℕ) → x ≡ Child c → HasMarked s mark) → HasMarked s mark
  at_slot key n o there within set (Child c) is down = down c refl
  at_slot key n o there within set x is down = here x is (λ c e. cc)
    where
      here : (y : Slot) → slot n o ≡ y → ((c : ℕ) → y ≡ Child c → ⊥) → HasMarked s mark
      here y is never =
          let offset : (n.prefix * 64 + o) % 64 ≡ o = omega (arith, within) in
          record {
            level = n.level;
            place = n.prefix * 64 + o;
            is = marked_here s head sound mark low n key (n.prefix * 64 + o) there (omega (arith, within)) (ap (bit_at (bits n mark)) offset ∙ set) (λ c e. never c (sym is ∙ ap (slot n) (sym offset) ∙ e));
          }

  lowest_at : (key : ℕ) (n : Node) → get s key ≡ Some n → 0 < bits n mark → ℕ
  lowest_at key n there some = trailing_zeros w64 (bits n mark)

  pub some_marked : (fuel key : ℕ) (n : Node) → get s key ≡ Some n → n.level ≤ fuel → 0 < bits n mark → HasMarked s mark
  some_marked zero key n there deep some =
      let l = lowest_of (bits n mark) (Fits-of_lt {w = w64} ((sound.tree.nodes key n there).fits mark)) some in
      let o = trailing_zeros w64 (bits n mark) in
      at_slot key n o there l.within l.set (slot n o) refl
      (λ c e. let h = sound.tree.children key n o c there e in absurd (omega (arith, h.link.level, deep)))
  some_marked (suc fuel) key n there deep some =
      let l = lowest_of (bits n mark) (Fits-of_lt {w = w64} ((sound.tree.nodes key n there).fits mark)) some in
      let o = trailing_zeros w64 (bits n mark) in
      at_slot key n o there l.within l.set (slot n o) refl
      (λ c e.
      let h = sound.tree.children key n o c there e in
      let exact = ((sound.exact mark low).each key n there).child o c h.below l.within e (λ q. cc) h.there in
      some_marked fuel c h.below h.there (omega (arith, h.link.level, deep)) (omega (arith, exact, l.set)))

  pub none_marked : (top : Node) → get s head ≡ Some top → bits top mark ≡ 0 → HasNoMarked s mark
  none_marked top there none = record {
    each = λ level place is.
        let index = place * 64 ^ level in
        let e : index / 64 ^ level ≡ place = mul-div_cancel place (one-le-pow level 64 (omega arith)) in
        let is_there : mark_at mark s level (index / 64 ^ level) ≡ 1 = ap (mark_at mark s level) e ∙ is in
        let same : top ≡ sound.tree.top = same_Some top sound.tree.top (sym there ∙ sound.tree.is_head.there) in
        let l : top.level ≡ sound.tree.top.level = ap (λ (z : Node). z.level) same in
        let w = within_head s head sound mark low level index is_there in
        let p : top.prefix ≡ 0 = ap (λ (z : Node). z.prefix) same ∙ sound.tree.is_head.prefix in
        let set = in_node s head sound mark low head top level index there (p ∙ sym (ap (λ z. index / 64 ^ z / 64) l ∙ w)) is_there in
        let some = some_bit (bits top mark) (index / 64 ^ top.level % 64) set in
        omega (arith, some, none);
  }

  pub head_tells : (top : Node) → get s head ≡ Some top → MatchBool (not (eqb (bits top mark) 0)) (HasMarked s mark) (HasNoMarked s mark)
  head_tells top there = elim (eqb_tells (bits top mark) 0) [
    | inl e ↦ rw (e.0) (none_marked top there e.1)
    | inr e ↦ rw (e.0) (some_marked 10 head top there (sound.tree.nodes head top there).level (omega (arith, e.1)))
  ]

pub tells_at : (s v : Slab Node) (head : Option ℕ) (h mark : ℕ) (top : Node) → IsSoundOrVoid s head → head ≡ Some h → s ≡ v → mark < 4 → get s h ≡ Some top → MatchBool (not (eqb (bits top mark) 0)) (HasMarked v mark) (HasNoMarked v mark)
tells_at s v head h mark top sound is same low there =
    let e : IsSound s h None = rw is at sound in
    rw (sym same) (head_tells s h e mark low top there)

pub void_not_marked : (v : Slab Node) → IsVoid v → (mark : ℕ) → HasNoMarked v mark
void_not_marked v void mark = record { each = λ level place e. let z : mark_at mark v level place ≡ 0 = void_see v void _ 0 level place in omega (arith, z, e) }

pub void_not_under : (v : Slab Node) → IsVoid v → (mark level place : ℕ) → HasNoMarkedUnder v mark level place
void_not_under v void mark level place = record { each = λ down below at sum under is. (void_not_marked v void mark).each below at is }
