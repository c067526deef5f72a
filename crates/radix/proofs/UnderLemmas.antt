-- Lemmas on the marks at a slot or below it.
use Rattle.std.proofs.Common.{◌≡◌, ◌≢◌, ℕ, zero, suc, ◌+◌, ◌-◌, ◌*◌, ◌/◌, ◌%◌, ◌^◌, ◌<◌, ◌≤◌, Some, None, refl, sym, ap, ◌∙◌, inl, inr, arith, w64, eqb, MatchBool}
use Rattle.std.specs.Int.{bit_at, trailing_zeros}
use Rattle.std.proofs.Math.Facts.{Fits-of_lt}
use Rattle.std.proofs.Math.Nat.{mul-div_cancel, one-le-pow, div-le_self}
use Rattle.std.proofs.Math.Nat.{pos_of_ne-zero}
use Rattle.std.proofs.lemmas.Bool.Decides.{eqb_tells}
use Rattle.std.proofs.lemmas.Option.{same_Some}
use Rattle.slab.specs.Slab.{Slab, get}
use Rattle.radix.specs.declared.node.Node.{Node}
use Rattle.radix.specs.declared.slot.Slot.{Slot}
use Rattle.radix.specs.declared.slot.Slot.TheVariants.{Child}
use Rattle.radix.specs.Entries.{slot, bits, mark_at, HasMarkedUnder, HasNoMarkedUnder}
use Rattle.radix.specs.Tree.{IsPlain, IsSound, HasCome, level_of}
use Rattle.radix.proofs.Places.{place-up, place-down, place-levels}
use Rattle.radix.proofs.TreeLemmas.{no_node, level_below}
use Rattle.radix.proofs.BitmapLemmas.{lowest_of}
use Rattle.radix.proofs.NextLemmas.{marked_here, marked_is, in_node, within_head}
use Rattle.radix.proofs.MarkedLemmas.{some_marked, none_marked}
use Rattle.radix.proofs.WalkLemmas.{on_path, above, step, lower}

-- a slot below another one is under the same slots further up
same_above : (level down below at high index : ℕ) → level ≡ below + down → at / 64 ^ down ≡ index / 64 ^ level → level ≤ high → at / 64 ^ (high - below) ≡ index / 64 ^ high
same_above level down below at high index sum under le =
    let e = high - level in
    let p : high - below ≡ down + e = omega (arith, sum, le) in
    let q : level + e ≡ high = omega (arith, le) in
    ap (λ z. at / 64 ^ z) p ∙ sym (place-levels at down e) ∙ ap (λ z. z / 64 ^ e) under ∙ place-levels index level e ∙ ap (λ z. index / 64 ^ z) q

-- the first index of a slot
first_index : (below at : ℕ) → at * 64 ^ below / 64 ^ below ≡ at
first_index below at = mul-div_cancel at (one-le-pow below 64 (omega arith))

index_above : (below at high : ℕ) → below ≤ high → at * 64 ^ below / 64 ^ high ≡ at / 64 ^ (high - below)
index_above below at high le =
    let q : below + (high - below) ≡ high = omega (arith, le) in
    ap (λ z. at * 64 ^ below / 64 ^ z) (sym q) ∙ sym (place-levels (at * 64 ^ below) below (high - below)) ∙ ap (λ z. z / 64 ^ (high - below)) (first_index below at)

module _ (s : Slab Node) (head : ℕ) (sound : IsSound s head None) (mark : ℕ) (low : mark < 4) where
  -- ---- down from a slot with the mark

  pub deeper : (n b : Node) (o : ℕ) → o < 64 → n.level ≡ b.level + 1 → b.prefix ≡ n.prefix * 64 + o → (c : ℕ) → c < 64 → HasMarkedUnder s mark b.level (b.prefix * 64 + c) → HasMarkedUnder s mark n.level (n.prefix * 64 + o)
  deeper n b o within levels prefix c small h = record {
    down = h.down + 1;
    below = h.below;
    at = h.at;
    sum = omega (arith, levels, h.sum);
    under = let up : h.at / 64 ^ h.down / 64 ≡ h.at / 64 ^ (h.down + 1) = place-up h.at h.down in omega (arith, up, h.under, prefix, small);
    is = h.is;
  }

  under_slot : (key : ℕ) (n : Node) (o : ℕ) → get s key ≡ Some n → o < 64 → bit_at (bits n mark) o ≡ 1 → (x : Slot) → slot n o ≡ x → ((c : ℕ) → x ≡ Child c → HasMarkedUnder s mark n.level (n.prefix * 64 + o)) → HasMarkedUnder s mark n.level (n.prefix * 64 + o)
  under_slot key n o there within set (Child c) is down = down c refl
  under_slot key n o there within set x is down = here x is (λ c e. cc)
    where
      here : (y : Slot) → slot n o ≡ y → ((c : ℕ) → y ≡ Child c → ⊥) → HasMarkedUnder s mark n.level (n.prefix * 64 + o)
      here y is never =
          let offset : (n.prefix * 64 + o) % 64 ≡ o = omega (arith, within) in
          record {
            down = 0;
            below = n.level;
            at = n.prefix * 64 + o;
            sum = omega arith;
            under = omega arith;
            is = marked_here s head sound mark low n key (n.prefix * 64 + o) there (omega (arith, within)) (ap (bit_at (bits n mark)) offset ∙ set) (λ c e. never c (sym is ∙ ap (slot n) (sym offset) ∙ e));
          }

  pub set_under : (fuel key : ℕ) (n : Node) (o : ℕ) → get s key ≡ Some n → n.level ≤ fuel → o < 64 → bit_at (bits n mark) o ≡ 1 → HasMarkedUnder s mark n.level (n.prefix * 64 + o)
  set_under zero key n o there deep within set =
      under_slot key n o there within set (slot n o) refl
      (λ c e. let h = sound.tree.children key n o c there e in absurd (omega (arith, h.link.level, deep)))
  set_under (suc fuel) key n o there deep within set =
      under_slot key n o there within set (slot n o) refl
      (λ c e.
      let h = sound.tree.children key n o c there e in
      let exact = ((sound.exact mark low).each key n there).child o c h.below within e (λ q. cc) h.there in
      let l = lowest_of (bits h.below mark) (Fits-of_lt {w = w64} ((sound.tree.nodes c h.below h.there).fits mark)) (omega (arith, exact, set)) in
      let p = trailing_zeros w64 (bits h.below mark) in
      deeper n h.below o within h.link.level h.link.prefix p l.within (set_under fuel c h.below p h.there (omega (arith, h.link.level, deep)) l.within l.set))

  -- ---- on the path of an index

  module _ (level index key : ℕ) (n : Node) (there : get s key ≡ Some n) (come : HasCome s key level index) where
    path : n.prefix ≡ index / 64 ^ n.level / 64
    path = on_path s head sound.tree level index key n there come

    high : level ≤ n.level
    high = above s head sound.tree level index key n there come

    no_mark_under : bit_at (bits n mark) (index / 64 ^ n.level % 64) ≢ 1 → HasNoMarkedUnder s mark level (index / 64 ^ level)
    no_mark_under unset = record {
      each = λ down below at sum under is.
          let first = at * 64 ^ below in
          let same : first / 64 ^ n.level ≡ index / 64 ^ n.level = index_above below at n.level (omega (arith, sum, high)) ∙ same_above level down below at n.level index sum under high in
          let set = in_node s head sound mark low key n below first there (path ∙ ap (λ z. z / 64) (sym same)) (ap (mark_at mark s below) (first_index below at) ∙ is) in
          unset (ap (λ z. bit_at (bits n mark) (z % 64)) (sym same) ∙ set);
    }

    none_below : level < n.level → IsPlain (slot n (index / 64 ^ n.level % 64)) → HasNoMarkedUnder s mark level (index / 64 ^ level)
    none_below more plain = record {
      each = λ down below at sum under is.
          let h = marked_is s head sound mark low below at is in
          let d = n.level - below - 1 in
          let e : at / 64 / 64 ^ d ≡ index / 64 ^ n.level =
          place-down at d ∙ ap (λ z. at / 64 ^ z) (let q : d + 1 ≡ n.level - below = omega (arith, sum, more) in q) ∙ same_above level down below at n.level index sum under high in
          no_node s head sound.tree d key n (index / 64 ^ n.level % 64) h.key h.node there (omega arith) plain h.there (omega (arith, h.at_level, sum, more)) (ap (λ z. z / 64 ^ d) h.at_prefix ∙ omega (arith, e, path));
    }

    module _ (o : ℕ) (is_offset : o ≡ index / 64 ^ n.level % 64) where
      pub ends_unset : bit_at (bits n mark) o ≢ 1 → HasNoMarkedUnder s mark level (index / 64 ^ level)
      ends_unset unset = no_mark_under (λ e. unset (ap (bit_at (bits n mark)) is_offset ∙ e))

      pub ends_plain : n.level ≢ level → IsPlain (slot n o) → HasNoMarkedUnder s mark level (index / 64 ^ level)
      ends_plain differs plain = none_below (omega (arith, differs, high)) (rw is_offset at plain)

      pub ends_set : n.level ≡ level → bit_at (bits n mark) o ≡ 1 → HasMarkedUnder s mark level (index / 64 ^ level)
      ends_set same set =
          let h = set_under 10 key n o there ((sound.tree.nodes key n there).level) (omega (arith, is_offset)) set in
          under_at n.level level (n.prefix * 64 + o) (index / 64 ^ level) same (omega (arith, path, is_offset) ∙ ap (λ z. index / 64 ^ z) same) h
        where
          under_at : (k l p q : ℕ) → k ≡ l → p ≡ q → HasMarkedUnder s mark k p → HasMarkedUnder s mark l q
          under_at k l p q levels places h = rw (sym levels, sym places) h

      pub goes_down : n.level ≢ level → (c : ℕ) → slot n o ≡ Child c → HasCome s c level index
      goes_down differs c is = step s head sound.tree level index key n there come c differs (ap (slot n) (sym is_offset) ∙ is)

      pub goes_lower : (c : ℕ) → slot n o ≡ Child c → level_of (get s c) < level_of (get s key)
      goes_lower c is = lower s head sound.tree level index key n there come c (ap (slot n) (sym is_offset) ∙ is)

  -- past the head

  module _ (level index : ℕ) (top : Node) (is_top : get s head ≡ Some top) where
    top_level : top.level ≡ sound.tree.top.level
    top_level = ap (λ (z : Node). z.level) (same_Some top sound.tree.top (sym is_top ∙ sound.tree.is_head.there))

    pub past_under : level ≤ top.level → index / 64 ^ top.level / 64 ≢ 0 → HasNoMarkedUnder s mark level (index / 64 ^ level)
    past_under small beyond = record {
      each = λ down below at sum under is.
          let first = at * 64 ^ below in
          let same : first / 64 ^ top.level ≡ index / 64 ^ top.level = index_above below at top.level (omega (arith, sum, small)) ∙ same_above level down below at top.level index sum under small in
          let w = within_head s head sound mark low below first (ap (mark_at mark s below) (first_index below at) ∙ is) in
          beyond (ap (λ z. z / 64) (sym same) ∙ ap (λ z. first / 64 ^ z / 64) top_level ∙ w);
    }

    -- above the head every mark is under slot 0
    module _ (over : top.level < level) where
      under_zero : (down below at : ℕ) → level ≡ below + down → mark_at mark s below at ≡ 1 → at / 64 ^ down ≡ 0
      under_zero down below at sum is =
          let first = at * 64 ^ below in
          let h = marked_is s head sound mark low below at is in
          let small = level_below s head sound.tree h.key h.node h.there in
          let w = within_head s head sound mark low below first (ap (mark_at mark s below) (first_index below at) ∙ is) in
          let height = sound.tree.top.level in
          let e : first / 64 ^ height ≡ at / 64 ^ (height - below) = index_above below at height (omega (arith, small, h.at_level)) in
          let f : at / 64 ^ (height - below + 1) ≡ 0 = sym (place-up at (height - below)) ∙ ap (λ z. z / 64) (sym e) ∙ w in
          let d = down - (height - below + 1) in
          let q : height - below + 1 + d ≡ down = omega (arith, over, sum, small, h.at_level, top_level) in
          let g : at / 64 ^ down ≡ at / 64 ^ (height - below + 1) / 64 ^ d = ap (λ z. at / 64 ^ z) (sym q) ∙ sym (place-levels at (height - below + 1) d) in
          let k : at / 64 ^ (height - below + 1) / 64 ^ d ≤ at / 64 ^ (height - below + 1) = div-le_self (at / 64 ^ (height - below + 1)) (64 ^ d) in
          omega (arith, f, g, k)

      over_some : bits top mark ≢ 0 → index / 64 ^ level ≡ 0 → HasMarkedUnder s mark level (index / 64 ^ level)
      over_some some none =
          let m = some_marked s head sound mark low 10 head top is_top ((sound.tree.nodes head top is_top).level) (pos_of_ne-zero some) in
          let h = marked_is s head sound mark low m.level m.place m.is in
          let small = level_below s head sound.tree h.key h.node h.there in
          let sum : level ≡ m.level + (level - m.level) = omega (arith, over, small, h.at_level, top_level) in
          record { down = level - m.level; below = m.level; at = m.place; sum = sum; under = under_zero (level - m.level) m.level m.place sum m.is ∙ sym none; is = m.is }

      pub over_none : bits top mark ≡ 0 → HasNoMarkedUnder s mark level (index / 64 ^ level)
      over_none none = record { each = λ down below at sum under is. (none_marked s head sound mark low top is_top none).each below at is }

      over_else : index / 64 ^ level ≢ 0 → HasNoMarkedUnder s mark level (index / 64 ^ level)
      over_else beyond = record { each = λ down below at sum under is. beyond (sym under ∙ under_zero down below at sum is) }

      pub over_tells : (p : ℕ) → p ≡ index / 64 ^ level → bits top mark ≢ 0 → MatchBool (eqb p 0) (HasMarkedUnder s mark level (index / 64 ^ level)) (HasNoMarkedUnder s mark level (index / 64 ^ level))
      over_tells p same some = elim (eqb_tells p 0) [
        | inl e ↦ rw (e.0) (over_some some (sym same ∙ e.1))
        | inr e ↦ rw (e.0) (over_else (λ none. e.1 (same ∙ none)))
      ]
