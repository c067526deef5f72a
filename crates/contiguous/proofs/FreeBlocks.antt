-- Which blocks are free beside a contiguous file, and which its next pages take.
use Rattle.std.proofs.Common.{◌≡◌, ℕ, ◌+◌, ◌-◌, ◌<◌, ◌≤◌, Bool, true, false, cond, not, eqb, eq-eqb, leb}
use Rattle.std.proofs.Common.{length, get_or, refl, ap, sym, ◌∙◌, arith, ◌&&◌, ◌||◌}
use Rattle.std.proofs.Common.{Option, Some, None, is_some, option_map, nat_cmp}
use Rattle.std.specs.Prelude.{nat_lt}
use Rattle.std.specs.Cmp.{nat_cmp_total}
use Rattle.std.specs.List.{list_any, range_with_len}
use Rattle.std.specs.FinMap as finmap
use Rattle.std.specs.FinMap.{nat_cmp-IsAntisymmetric}
use Rattle.std.proofs.lemmas.Bool.Decides.{nat_tests}
use Rattle.std.proofs.lemmas.List.Folds.{list_any-append}
use Rattle.std.proofs.lemmas.List.FromFn.{length-range_with_len, get_or-range_with_len}
use Rattle.pc_types.specs.Spots.{Spot, place_cmp}
use Rattle.machine.specs.State.{State, Request, block_at, spot_at, has_block, free_blocks}
use Rattle.machine.specs.State.{without_block}
use Rattle.machine.proofs.changes.StateLaws.{is_free, any_block, free_of_spots}
use Rattle.machine.proofs.changes.ChangeLaws.{taken_by}
use Rattle.machine.proofs.steps.Choices.{mapped_some}
use Rattle.maps.proofs.Kept.{kept_below, kept_from, kept_within}
use Rattle.maps.proofs.MapLaws.{places_total, places_antisymmetric}
use Rattle.contiguous.specs.Contiguous.{IsContiguous, IsOneExtent}
use Rattle.contiguous.proofs.Values.{no_value}

pub is_some-mapped : (o : Option Spot) → is_some (option_map (λ (x : Spot). x.block) o) ≡ is_some o
is_some-mapped None = refl
is_some-mapped (Some x) = refl

is_some-cond : (b : Bool) (p : ℕ) → is_some (cond b (Some p) None) ≡ b
is_some-cond true p = refl
is_some-cond false p = refl

-- a page that has a block has one below n
pub below : (s : State) (f n : ℕ) → IsOneExtent s f n → (g p k : ℕ) → block_at s g p ≡ Some k → k < n
below s f n is g p k e = go (eqb g f) (nat_lt p n) refl (sym (is g p) ∙ e)
  where
    go : (a b : Bool) → nat_lt p n ≡ b → cond (a && b) (Some p) None ≡ Some k → k < n
    go true true l j = let same : p ≡ k = cc in let less : p < n = grind (arith, nat_tests) in omega arith
    go true false l j = absurd cc
    go false b l j = absurd cc

module _ (s : State) (f n : ℕ) (is : IsContiguous s f n) where
  -- the pages of f that have a block
  pub has : (q : ℕ) → has_block s f q ≡ nat_lt q n
  has q = sym (is_some-mapped (spot_at s f q)) ∙ ap is_some (is.extent f q)
      ∙ is_some-cond (eqb f f && nat_lt q n) q ∙ ap (λ b. b && nat_lt q n) (eq-eqb f f refl)

  own : (k : ℕ) → k < n → block_at s f k ≡ Some k
  own k h = is.extent f k
      ∙ ap (λ b. cond b (Some k) None) (let e : eqb f f ≡ true = eq-eqb f f refl in
      let l : nat_lt k n ≡ true = grind (arith, nat_tests) in let both : (eqb f f && nat_lt k n) ≡ true =
      (λ i. e i && l i) in both)

  taken : (k : ℕ) → k < n → is_free s k ≡ false
  taken k h = elim (is_free s k) as (λ b. is_free s k ≡ b → b ≡ false) [
    | true ↦ λ free. absurd (let x = mapped_some (λ (y : Spot). y.block) (spot_at s f k) k (own k h) in
        free_of_spots s k free f k x.0 x.1 x.2)
    | false ↦ λ _. refl
  ] refl

  differs : (a b : ℕ) → a < n → n ≤ b → eqb a b ≡ false
  differs a b l m = grind (arith, nat_tests)

  free : (k : ℕ) → n ≤ k → is_free s k ≡ true
  free k h = ap not (list_any-append (λ used. eqb used k) _ _
      ∙ (λ i. any_block (λ (x : Spot). x.block) k (finmap.values s.spots) i
      || any_block (λ (r : Request). r.block) k (finmap.values s.requests) i)
      ∙ (λ i. spots i || requests i))
    where
      spots : list_any (λ (x : Spot). eqb x.block k) (finmap.values s.spots) ≡ false
      spots = no_value place_cmp places_total places_antisymmetric (λ (x : Spot). eqb x.block k) s.spots
          (λ q x e. differs x.block k (below s f n is.extent q.0 q.1 x.block (ap (option_map (λ (y : Spot). y.block)) e)) h)

      requests : list_any (λ (r : Request). eqb r.block k) (finmap.values s.requests) ≡ false
      requests = no_value nat_cmp nat_cmp_total nat_cmp-IsAntisymmetric (λ (r : Request). eqb r.block k) s.requests
          (λ t r e. differs r.block k (is.held r.block (t, r, e, refl)) h)

  -- a block is free from n on
  pub free_from : (k : ℕ) → is_free s k ≡ leb n k
  free_from k = elim (leb n k) as (λ b. leb n k ≡ b → is_free s k ≡ b) [
    | true ↦ λ l. free k (grind (arith, nat_tests))
    | false ↦ λ l. taken k (grind (arith, nat_tests))
  ] refl

  pub free_list : n ≤ s.sizes.blocks → free_blocks s ≡ range_with_len n (s.sizes.blocks - n)
  free_list h = kept_from (is_free s) n 0 s.sizes.blocks s.sizes.blocks (omega arith) (omega arith) h
      (λ k l. free_from k)

  pub lacks : (q : ℕ) → not (has_block s f q) ≡ leb n q
  lacks q = ap not (has q) ∙ (let e : not (nat_lt q n) ≡ leb n q = grind (arith, nat_tests) in e)

  module _ (first count : ℕ) (l : first ≤ n)
      (room : length (without_block s f (range_with_len first count)) ≤ length (free_blocks s)) where
    -- how many pages before page p took one
    before : (p : ℕ) → n ≤ p → kept_below (λ q. not (has_block s f q)) first p ≡ p - n
    before p h = ap length (kept_from (λ q. not (has_block s f q)) n first (p - first) p (omega arith) l h
        (λ q m. lacks q)) ∙ length-range_with_len n (p - n)

    pub takes_own : (p : ℕ) → n ≤ p → p < first + count → n ≤ s.sizes.blocks → taken_by s f first p ≡ p
    takes_own p h m fits =
        let within = kept_within (λ q. not (has_block s f q)) first count p (omega arith) m
        (lacks p ∙ (let e : leb n p ≡ true = grind (arith, nat_tests) in e)) in
        let all : length (free_blocks s) ≡ s.sizes.blocks - n = ap length (free_list fits)
        ∙ length-range_with_len n (s.sizes.blocks - n) in
        let short = before p h in
        let inside : p - n < s.sizes.blocks - n = omega arith in
        (λ i. get_or (free_list fits i) (before p h i) 0)
        ∙ get_or-range_with_len n (s.sizes.blocks - n) (p - n) 0 inside
        ∙ (let e : n + (p - n) ≡ p = omega arith in e)
