-- A write of a contiguous file that leaves no page out: each page that has no block takes the block of its own number.
use Rattle.std.proofs.Common.{◌≡◌, ℕ, ◌+◌, ◌-◌, ◌/◌, ◌<◌, ◌≤◌, Bool, true, false, cond, not, eqb, eqb-true, leb, ltb}
use Rattle.std.proofs.Common.{List, length, refl, ap, sym, subst, ◌∙◌, arith, inl, inr, max, ◌&&◌, ◌⊎◌}
use Rattle.std.proofs.Common.{Some, None, option_map}
use Rattle.std.specs.Prelude.{nat_lt, nat_le}
use Rattle.std.proofs.lemmas.Bool.Decides.{nat_tests}
use Rattle.pc_types.specs.Spots.{Spot}
use Rattle.machine.specs.declared.event.Reply.TheVariants as reply
use Rattle.machine.specs.State.{State, block_at, spot_at, has_block, free_blocks, touched}
use Rattle.machine.specs.State.{touched_count, without_block}
use Rattle.machine.specs.Changes.{written}
use Rattle.machine.specs.Step.{Step}
use Rattle.machine.proofs.changes.StateLaws.{is_free, touches}
use Rattle.machine.proofs.changes.ChangeLaws.{needs_block, new_spot, taken_by, placed_places, takes_free}
use Rattle.machine.proofs.steps.Choices.{and_true}
use Rattle.contiguous.specs.Contiguous.{IsContiguous}
use Rattle.contiguous.specs.Promises.{WritesStayContiguous, reached}
use Rattle.contiguous.proofs.FreeBlocks.{free_from, lacks, takes_own}
use Rattle.contiguous.proofs.Wrote.{WroteBytes, none_out, wrote_none, wrote_some}

-- a write's pages without a block take free ones
pub spot_now : (s : State) (f o : ℕ) (b : List ℕ)
    → length (without_block s f (touched s.sizes.page o (length b))) ≤ length (free_blocks s) → (g q : ℕ)
    → spot_at (written s f o b) g q ≡ cond (eqb g f && needs_block s f o (length b) q)
    (Some (new_spot (taken_by s f (o / s.sizes.page) q))) (spot_at s g q)
spot_now s f o b room g q = (placed_places s f (o / s.sizes.page) (touched_count s.sizes.page o (length b)) room).each g q
    ∙ ap (λ t. cond (eqb g f && (t && not (has_block s f q))) (Some (new_spot (taken_by s f (o / s.sizes.page) q)))
    (spot_at s g q)) (in_range s.sizes.page o (length b) q)
  where
    in_range : (P o n p : ℕ) → (leb (o / P) p && ltb p (o / P + touched_count P o n)) ≡ touches P o n p
    in_range P o n p = grind (arith, nat_tests)

module _ (s : State) (f n o : ℕ) (b : List ℕ) (is : IsContiguous s f n) (first : o / s.sizes.page ≤ n)
    (room : length (without_block s f (touched s.sizes.page o (length b))) ≤ length (free_blocks s)) where
  abbrev P : ℕ
  P = s.sizes.page

  abbrev new : State
  new = written s f o b

  abbrev last : ℕ
  last = (o + length b - 1) / P

  abbrev m : ℕ
  m = max n (last + 1)

  abbrev needs : ℕ → Bool
  needs q = needs_block s f o (length b) q

  -- a page that takes a block is one from n on
  needs_is : (q : ℕ) → needs q ≡ true → (n ≤ q) × (q < o / P + touched_count P o (length b)) × (q ≤ last)
  needs_is q e =
      let parts = and_true (touches P o (length b) q) (not (has_block s f q)) e in
      let past : leb n q ≡ true = sym (lacks s f n is q) ∙ parts.1 in
      let ends = ends P o (length b) q parts.0 in
      (grind (arith, nat_tests), ends.0, ends.1)
    where
      ends : (P o n p : ℕ) → touches P o n p ≡ true → (p < o / P + touched_count P o n) × (p ≤ (o + n - 1) / P)
      ends P o n p e = grind (arith, nat_tests)

  takes : (q : ℕ) → needs q ≡ true → taken_by s f (o / P) q ≡ q
  takes q e =
      let i = needs_is q e in
      let one = takes_free s f o (length b) q room e in
      takes_own s f n is (o / P) (touched_count P o (length b)) first room q i.0 i.1 (on_device _ one.free one.on_device)
    where
      on_device : (k : ℕ) → is_free s k ≡ true → k < s.sizes.blocks → n ≤ s.sizes.blocks
      on_device k free less = let past : leb n k ≡ true = sym (free_from s f n is k) ∙ free in
          let l : n ≤ k = grind (arith, nat_tests) in omega arith

  -- the first m pages have blocks now
  now_has : (q : ℕ) → needs q ≡ true → nat_lt q m ≡ true
  now_has q e = let i = needs_is q e in let l : q ≤ last = i.2 in grind (arith, nat_tests)

  as_before : (q : ℕ) → needs q ≡ false → nat_lt q n ≡ nat_lt q m
  as_before q e = go (o / P) last (has_block s f q) (lacks s f n is q) first e
    where
      go : (a z : ℕ) (h : Bool) → not h ≡ leb n q → a ≤ n → (nat_le a q && nat_le q z && not h) ≡ false
          → nat_lt q n ≡ nat_lt q (max n (z + 1))
      go a z true k l e = grind (arith, nat_tests)
      go a z false k l e = grind (arith, nat_tests)

  pub extent_now : (g q : ℕ) → block_at new g q ≡ cond (eqb g f && nat_lt q m) (Some q) None
  extent_now g q = ap (option_map (λ (x : Spot). x.block)) (spot_now s f o b room g q)
      ∙ go (eqb g f) (needs q) refl refl
    where
      go : (a c : Bool) → eqb g f ≡ a → needs q ≡ c
          → option_map (λ (x : Spot). x.block)
          (cond (a && c) (Some (new_spot (taken_by s f (o / P) q))) (spot_at s g q))
          ≡ cond (a && nat_lt q m) (Some q) None
      go true true e k = ap Some (takes q k) ∙ sym (ap (λ t. cond t (Some q) None) (now_has q k))
      go true false e k = is.extent g q ∙ (λ i. cond (e i && as_before q k i) (Some q) None)
      go false c e k = is.extent g q ∙ (λ i. cond (e i && nat_lt q n) (Some q) None)

  pub written_contiguous : IsContiguous new f m
  written_contiguous = record { extent = extent_now; held = λ k h. let l = is.held k h in omega arith }

pub is_zero_or_more : (n : ℕ) → (n ≡ 0) ⊎ (0 < n)
is_zero_or_more n = grind arith

pub reached_some : (P n count end : ℕ) → 0 < count → reached P n count end ≡ max n ((end - 1) / P + 1)
reached_some P n count end some = go (eqb count 0) refl
  where
    go : (c : Bool) → eqb count 0 ≡ c → cond c n (max n ((end - 1) / P + 1)) ≡ max n ((end - 1) / P + 1)
    go true z = absurd (let none : count ≡ 0 = eqb-true count 0 z in omega arith)
    go false z = refl

pub writes_stay_contiguous : WritesStayContiguous
writes_stay_contiguous old new f n count end e step fits is = elim (is_zero_or_more count) [
  | inl z ↦ subst (λ k. IsContiguous new f (reached old.sizes.page n k end)) (sym z)
      (subst (λ x. IsContiguous x f n)
      (sym (wrote_none old e end new (subst (λ k. Step old e (reply.Wrote k end) new) z step))) is)
  | inr l ↦ some (wrote_some old e count end new step l) l
]
  where
    some : WroteBytes old e count end new → 0 < count → IsContiguous new f (reached old.sizes.page n count end)
    some w l =
        let at = none_out old f n e w.handle w.at w.bytes w.is fits in
        subst (IsContiguous new f) (sym (reached_some old.sizes.page n count end l
        ∙ ap (λ k. max n ((k - 1) / old.sizes.page + 1)) w.ends))
        (subst (λ x. IsContiguous x f (max n ((w.at + length w.bytes - 1) / old.sizes.page + 1)))
        (sym (w.becomes ∙ ap (λ g. written old g w.at w.bytes) at.0))
        (written_contiguous old f n w.at w.bytes is at.1
        (subst (λ g. length (without_block old g (touched old.sizes.page w.at (length w.bytes))) ≤ length (free_blocks old))
        at.0 w.may.blocks)))
