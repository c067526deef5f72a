-- A write of bytes that leaves the file one extent is of the file, and leaves no page out.
use Rattle.std.proofs.Common.{◌≡◌, ℕ, ◌+◌, ◌-◌, ◌/◌, ◌<◌, ◌≤◌, Bool, true, false, cond, not, eqb, eqb-true, eq-eqb, leb}
use Rattle.std.proofs.Common.{List, length, get_or, refl, ap, sym, subst, ◌∙◌, arith, inl, inr, ◌&&◌, ◌⊎◌}
use Rattle.std.proofs.Common.{Some, None, is_some, option_map}
use Rattle.std.specs.Prelude.{nat_lt}
use Rattle.std.proofs.lemmas.Bool.Decides.{nat_tests}
use Rattle.std.proofs.lemmas.List.FromFn.{get_or-range_with_len}
use Rattle.pc_types.specs.Spots.{Spot}
use Rattle.machine.specs.State.{State, handle_file, block_at, spot_at, has_block, free_blocks, touched}
use Rattle.machine.specs.State.{without_block}
use Rattle.machine.specs.Changes.{written}
use Rattle.machine.proofs.changes.StateLaws.{touches}
use Rattle.machine.proofs.changes.ChangeLaws.{needs_block, new_spot, taken_by, takes_free}
use Rattle.maps.proofs.Kept.{kept, kept_below}
use Rattle.contiguous.specs.Contiguous.{IsContiguous, IsOneExtent}
use Rattle.contiguous.specs.Promises.{OnlySuchWrites}
use Rattle.contiguous.proofs.Pages.{div_grows}
use Rattle.contiguous.proofs.FreeBlocks.{free_from, free_list, has, is_some-mapped}
use Rattle.contiguous.proofs.Wrote.{out_of_none, wrote_some}
use Rattle.contiguous.proofs.Writes.{spot_now}

module _ (s : State) (f n : ℕ) (is : IsContiguous s f n) (g o m : ℕ) (b : List ℕ) (pos : 0 < s.sizes.page)
    (some : 0 < length b)
    (room : length (without_block s g (touched s.sizes.page o (length b))) ≤ length (free_blocks s))
    (still : IsOneExtent (written s g o b) f m) where
  abbrev first : ℕ
  first = o / s.sizes.page

  -- where the first page has no block it takes one
  needs_first : has_block s g first ≡ false → needs_block s g o (length b) first ≡ true
  needs_first none = (λ i. here i && not (none i))
    where
      here : touches s.sizes.page o (length b) first ≡ true
      here = let up = div_grows s.sizes.page o (o + length b - 1) pos (omega arith) in grind (arith, nat_tests)

  takes_first : has_block s g first ≡ false
      → block_at (written s g o b) g first ≡ Some (taken_by s g first first)
  takes_first none = ap (option_map (λ (x : Spot). x.block)) (spot_now s g o b room g first
      ∙ (λ i. cond (eq-eqb g g refl i && needs_first none i) (Some (new_spot (taken_by s g first first)))
      (spot_at s g first)))

  -- of another file no page has a block
  pub is_of : g ≡ f
  is_of = go (eqb g f) refl
    where
      go : (c : Bool) → eqb g f ≡ c → g ≡ f
      go true e = eqb-true g f e
      go false e =
          let none : has_block s g first ≡ false = sym (is_some-mapped (spot_at s g first))
          ∙ ap is_some (is.extent g first ∙ ap (λ c. cond (c && nat_lt first n) (Some first) None) e) in
          let now = takes_first none in
          let not_now : block_at (written s g o b) g first ≡ None = still g first
          ∙ ap (λ c. cond (c && nat_lt first m) (Some first) None) e in
          absurd cc

  -- a page past the one behind the last takes that one's block
  pub begins : first ≤ n
  begins = elim (either first n) [
    | inl l ↦ l
    | inr l ↦ absurd (let none : has_block s g first ≡ false = ap (λ k. has_block s k first) is_of ∙ has s f n is first
        ∙ below first n l in
        let free = takes_free s g o (length b) first room (needs_first none) in
        let past : leb n (taken_by s g first first) ≡ true = sym (free_from s f n is (taken_by s g first first)) ∙ free.free in
        let less = free.on_device in
        let low : n ≤ taken_by s g first first = grind (arith, nat_tests) in
        let fits : n < s.sizes.blocks = omega arith in
        let lowest : taken_by s g first first ≡ n =
        (λ i. get_or (free_list s f n is (let m : n ≤ s.sizes.blocks = omega arith in m) i)
        (nothing (λ q. not (has_block s g q)) i) 0)
        ∙ get_or-range_with_len n (s.sizes.blocks - n) 0 0 (omega arith)
        ∙ (let e : n + 0 ≡ n = omega arith in e) in
        lost (nat_lt first m) (sym (still g first) ∙ takes_first none ∙ ap Some lowest) l)
  ]
    where
      either : (a b : ℕ) → (a ≤ b) ⊎ (b < a)
      either a b = grind arith

      below : (a b : ℕ) → b < a → nat_lt a b ≡ false
      below a b l = grind (arith, nat_tests)

      nothing : (keep : ℕ → Bool) → kept_below keep first first ≡ 0
      nothing keep = ap (λ k. length (kept keep first k)) (let e : first - first ≡ 0 = omega arith in e)

      lost : (c : Bool) → cond (eqb g f && c) (Some first) None ≡ Some n → n < first → ⊥
      lost c e l = go (eqb g f) c e
        where
          go : (a c : Bool) → cond (a && c) (Some first) None ≡ Some n → ⊥
          go true true e = let same : first ≡ n = cc in absurd (omega arith)
          go true false e = absurd cc
          go false c e = absurd cc

pub only_such_writes : OnlySuchWrites
only_such_writes old new f n m count end e step some pos is still =
    let w = wrote_some old e count end new step some in
    let bytes : 0 < length w.bytes = w.may.some in
    let now = subst (λ x. IsOneExtent x f m) w.becomes still in
    out_of_none old f n e w.handle w.at w.bytes w.is
    (is_of old f n is (handle_file old w.handle.0) w.at m w.bytes pos bytes w.may.blocks now)
    (begins old f n is (handle_file old w.handle.0) w.at m w.bytes pos bytes w.may.blocks now)
