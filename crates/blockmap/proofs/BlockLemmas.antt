-- The balance of a block map is kept by each change.
use Rattle.std.proofs.Common.{subst, ◌≡◌, ◌≢◌, ℕ, ◌+◌, ◌-◌, ◌<◌, ◌≤◌, ◌^◌, ◌||◌, Bool, true, false, not, eqb, length, Option, Some, None, is_some, option_map, refl, sym, ap, ◌∙◌, arith, inl, inr}
use Rattle.std.specs.List.{range_with_len}
use Rattle.std.specs.Prelude.{Result, Ok, Err, IsOk, IsOkUnless}
use Rattle.pc_types.specs.declared.refusal.Refusal.{Refusal}
use Rattle.pc_types.specs.declared.refusal.Refusal.TheVariants.{NoEntry}
use Rattle.std.specs.Ordering.{nat_cmp, eq_by_cmp}
use Rattle.std.specs.Cmp.{nat_cmp_total, unsigned_tied}
use Rattle.std.specs.FinMap as map
use Rattle.std.specs.FinSet as set
use Rattle.std.proofs.lemmas.Bool.{cases_eq, cond-false, cond-true, eq-eqb, eqb-true, false≢true, ne_eqb, or_left, or_right, true≢false}
use Rattle.std.proofs.lemmas.Option.{none-some, same_Some}
use Rattle.pc_types.specs.Spots.{Spot, place_cmp}
use Rattle.blockmap.specs.declared.spots.Placed.{Placed}
use Rattle.blockmap.specs.Told.{told}
use Rattle.blockmap.proofs.PlaceLemmas.{places_total}
use Rattle.blockmap.specs.Balance.{IsBalanced, unused}
use Rattle.blockmap.specs.Blocks.{IsBlockMap, Spots, free_blocks, has_block, is_free, is_mapped}
use Rattle.blockmap.proofs.CountLemmas.{filter_alike, freed_now, freed_other, unused-empty, unused-insert, unused-le, unused-remove, used_now, used_other}
use Rattle.blockmap.proofs.MapLemmas.{AreAlone, cases_place, has-changed, has-removed, has_here, mapped-added, mapped-changed, mapped-others, mapped_at, none_mapped, put_here, put_there, unmapped}

abbrev pub Held : Type 0
Held = map.FinMap nat_cmp Bool

-- ---- held blocks

pub hold_here : (h : Held) (b : ℕ) (c : Bool) → map.get (map.insert h b c) b ≡ Some c
hold_here h b c = map.get-insert nat_cmp_total h b c b ∙ cond-true (eq_by_cmp nat_cmp b b) (Some c) (map.get h b) (unsigned_tied b b ∙ eq-eqb b b refl)

pub hold_there : (h : Held) (b : ℕ) (c : Bool) (k : ℕ) → k ≢ b → map.get (map.insert h b c) k ≡ map.get h k
hold_there h b c k differs = map.get-insert nat_cmp_total h b c k ∙ cond-false (eq_by_cmp nat_cmp k b) (Some c) (map.get h k) (unsigned_tied k b ∙ ne_eqb k b differs)

pub free_here : (h : Held) (b : ℕ) → map.get (map.remove h b) b ≡ None
free_here h b = map.get-remove nat_cmp_total h b b ∙ cond-true (eq_by_cmp nat_cmp b b) None (map.get h b) (unsigned_tied b b ∙ eq-eqb b b refl)

pub free_there : (h : Held) (b k : ℕ) → k ≢ b → map.get (map.remove h b) k ≡ map.get h k
free_there h b k differs = map.get-remove nat_cmp_total h b k ∙ cond-false (eq_by_cmp nat_cmp k b) None (map.get h k) (unsigned_tied k b ∙ ne_eqb k b differs)

-- ---- what is free

pub always_so : (count free : ℕ) (spots : Spots) (used : set.FinSet nat_cmp) (held : Held) → IsBalanced count free spots used held → IsBlockMap (record { count = count; spots = spots; held = held })
always_so count free spots used held is = record {
  within = λ k taken. is.within k (is.used_is k ∙ turned (is_mapped spots k || map.contains_key held k) taken);
  alone = is.alone;
  cut = is.cut;
}
  where
    turned : (b : Bool) → not b ≡ false → b ≡ true
    turned true e = refl
    turned false e = absurd (true≢false e)

pub counted : (count free : ℕ) (spots : Spots) (used : set.FinSet nat_cmp) (held : Held) → IsBalanced count free spots used held → free ≡ length (free_blocks (record { count = count; spots = spots; held = held }))
counted count free spots used held is = is.free_is ∙ ap length (filter_alike (λ b. not (set.contains used b)) (is_free (record { count = count; spots = spots; held = held })) (λ b. ap not (is.used_is b)) (range_with_len 0 count))

-- ---- the changes

pub balanced-new : (count : ℕ) → 0 < count → count ≤ 2 ^ 32 → IsBalanced count count map.empty set.empty map.empty
balanced-new count some small = record {
  some = some;
  small = small;
  free_is = sym (unused-empty count);
  used_is = λ b. set.contains-empty nat_cmp b ∙ sym ((λ i. none_mapped b i || ap (λ (o : Option Bool). is_some o) (map.get-empty nat_cmp b) i));
  within = λ b h. absurd (false≢true (sym (set.contains-empty nat_cmp b) ∙ h));
  alone = λ p q b hp hq. absurd (false≢true (sym (ap (λ o. has_block o b) (map.get-empty place_cmp p)) ∙ hp));
  cut = λ b c h. absurd (none-some c (sym (map.get-empty nat_cmp b) ∙ h));
}

module _ (count free : ℕ) (spots : Spots) (used : set.FinSet nat_cmp) (held : Held) (is : IsBalanced count free spots used held) where
  alone : AreAlone spots
  alone = record { each = is.alone }

  held_used : (b : ℕ) (c : Bool) → map.get held b ≡ Some c → set.contains used b ≡ true
  held_used b c h = is.used_is b ∙ or_right (is_mapped spots b) (map.contains_key held b) (ap is_some h)

  mapped_used : (b : ℕ) → is_mapped spots b ≡ true → set.contains used b ≡ true
  mapped_used b h = is.used_is b ∙ or_left (is_mapped spots b) (map.contains_key held b) h

  pub spot_used : (p : ℕ × ℕ) (s : Spot) → map.get spots p ≡ Some s → set.contains used s.block ≡ true
  spot_used p s there = mapped_used s.block (mapped_at spots p s.block (has_here spots p s there))

  -- an unused block goes to a page without one
  pub balanced-assign : (p : ℕ × ℕ) (b valid : ℕ) → map.get spots p ≡ None → b < count → set.contains used b ≡ false → IsBalanced count (free - 1) (map.insert spots p (record { block = b; valid = valid })) (set.insert used b) held
  balanced-assign p b valid none within idle =
      let s : Spot = record { block = b; valid = valid } in
      let one : unused (set.insert used b) count + 1 ≡ unused used count = unused-insert used b count within idle in
      let was : free ≡ unused used count = is.free_is in
      record {
        some = is.some;
        small = is.small;
        free_is = omega arith;
        used_is = λ k. elim (cases_eq k b) [
          | inl e ↦
              ap (set.contains (set.insert used b)) e ∙ used_now used b
              ∙ sym (or_left (is_mapped (map.insert spots p s) k) (map.contains_key held k) (mapped-added spots p s k none ∙ or_left (eqb b k) (is_mapped spots k) (eq-eqb b k (sym e))))
          | inr differs ↦
              used_other used b k differs ∙ is.used_is k
              ∙ ap (λ m. m || map.contains_key held k) (sym (mapped-added spots p s k none ∙ ap (λ t. t || is_mapped spots k) (ne_eqb b k (λ e. differs (sym e)))))
        ];
        within = λ k h. elim (cases_eq k b) [
          | inl e ↦ omega arith
          | inr differs ↦ is.within k (sym (used_other used b k differs) ∙ h)
        ];
        alone = λ x y k hx hy. elim (cases_place x p) [
          | inl ex ↦ elim (cases_place y p) [
            | inl ey ↦ ex ∙ sym ey
            | inr dy ↦
                let same : b ≡ k = eqb-true b k (sym (ap (λ o. has_block o k) (ap (map.get (map.insert spots p s)) ex ∙ put_here spots p s)) ∙ hx) in
                let old : has_block (map.get spots y) k ≡ true = sym (ap (λ o. has_block o k) (put_there spots p s y dy)) ∙ hy in
                absurd (false≢true (sym idle ∙ ap (set.contains used) same ∙ mapped_used k (mapped_at spots y k old)))
          ]
          | inr dx ↦
              let oldx : has_block (map.get spots x) k ≡ true = sym (ap (λ o. has_block o k) (put_there spots p s x dx)) ∙ hx in
              elim (cases_place y p) [
                | inl ey ↦
                    let same : b ≡ k = eqb-true b k (sym (ap (λ o. has_block o k) (ap (map.get (map.insert spots p s)) ey ∙ put_here spots p s)) ∙ hy) in
                    absurd (false≢true (sym idle ∙ ap (set.contains used) same ∙ mapped_used k (mapped_at spots x k oldx)))
                | inr dy ↦ is.alone x y k oldx (sym (ap (λ o. has_block o k) (put_there spots p s y dy)) ∙ hy)
              ]
        ];
        cut = λ k c h.
            let differs : b ≢ k = λ e. false≢true (sym idle ∙ ap (set.contains used) e ∙ held_used k c h) in
            is.cut k c h ∙ ap not (sym (mapped-added spots p s k none ∙ ap (λ t. t || is_mapped spots k) (ne_eqb b k differs)));
      }

  -- a page's block that is not held is free again
  pub balanced-free : (p : ℕ × ℕ) (s : Spot) → map.get spots p ≡ Some s → map.get held s.block ≡ None → IsBalanced count (free + 1) (map.remove spots p) (set.remove used s.block) held
  balanced-free p s there idle =
      let in_use : set.contains used s.block ≡ true = spot_used p s there in
      let one : unused (set.remove used s.block) count ≡ unused used count + 1 = unused-remove used s.block count (is.within s.block in_use) in_use in
      let was : free ≡ unused used count = is.free_is in
      record {
        some = is.some;
        small = is.small;
        free_is = omega arith;
        used_is = λ k. elim (cases_eq k s.block) [
          | inl e ↦
              ap (set.contains (set.remove used s.block)) e ∙ freed_now used s.block
              ∙ sym ((λ i. (ap (is_mapped (map.remove spots p)) e ∙ unmapped spots p s alone there) i || ap (λ (o : Option Bool). is_some o) (ap (map.get held) e ∙ idle) i))
          | inr differs ↦
              freed_other used s.block k differs ∙ is.used_is k
              ∙ ap (λ m. m || map.contains_key held k) (sym (mapped-others spots p s k there (λ e. differs (sym e))))
        ];
        within = λ k h. elim (cases_eq k s.block) [
          | inl e ↦ absurd (false≢true (sym (freed_now used s.block) ∙ sym (ap (set.contains (set.remove used s.block)) e) ∙ h))
          | inr differs ↦ is.within k (sym (freed_other used s.block k differs) ∙ h)
        ];
        alone = λ x y k hx hy. is.alone x y k (has-removed spots p x k hx).1 (has-removed spots p y k hy).1;
        cut = λ k c h.
            let differs : s.block ≢ k = λ e. none-some c (sym (ap (map.get held) (sym e) ∙ idle) ∙ h) in
            is.cut k c h ∙ ap not (sym (mapped-others spots p s k there differs));
      }

  -- a page's block that is held is cut
  pub balanced-cut : (p : ℕ × ℕ) (s : Spot) (was_cut : Bool) → map.get spots p ≡ Some s → map.get held s.block ≡ Some was_cut → IsBalanced count free (map.remove spots p) used (map.insert held s.block true)
  balanced-cut p s was_cut there on_table =
      record {
        some = is.some;
        small = is.small;
        free_is = is.free_is;
        used_is = λ k. elim (cases_eq k s.block) [
          | inl e ↦
              ap (set.contains used) e ∙ held_used s.block was_cut on_table
              ∙ sym (or_right (is_mapped (map.remove spots p) k) (map.contains_key (map.insert held s.block true) k) (ap is_some (ap (map.get (map.insert held s.block true)) e ∙ hold_here held s.block true)))
          | inr differs ↦
              is.used_is k
              ∙ (λ i. sym (mapped-others spots p s k there (λ e. differs (sym e))) i || ap (λ (o : Option Bool). is_some o) (sym (hold_there held s.block true k differs)) i)
        ];
        within = is.within;
        alone = λ x y k hx hy. is.alone x y k (has-removed spots p x k hx).1 (has-removed spots p y k hy).1;
        cut = λ k c h. elim (cases_eq k s.block) [
          | inl e ↦
              same_Some c true (sym h ∙ ap (map.get (map.insert held s.block true)) e ∙ hold_here held s.block true)
              ∙ sym (ap not (ap (is_mapped (map.remove spots p)) e ∙ unmapped spots p s alone there))
          | inr differs ↦
              is.cut k c (sym (hold_there held s.block true k differs) ∙ h)
              ∙ ap not (sym (mapped-others spots p s k there (λ e. differs (sym e))))
        ];
      }

  -- other bytes of a page's block are the page's
  pub balanced-valid : (p : ℕ × ℕ) (s t : Spot) → map.get spots p ≡ Some s → t.block ≡ s.block → IsBalanced count free (map.insert spots p t) used held
  balanced-valid p s t there same = record {
    some = is.some;
    small = is.small;
    free_is = is.free_is;
    used_is = λ k. is.used_is k ∙ ap (λ m. m || map.contains_key held k) (sym (mapped-changed spots p s t k there same));
    within = is.within;
    alone = λ x y k hx hy. is.alone x y k (sym (has-changed spots p s t x k there same) ∙ hx) (sym (has-changed spots p s t y k there same) ∙ hy);
    cut = λ k c h. is.cut k c h ∙ ap not (sym (mapped-changed spots p s t k there same));
  }

  -- a page's block is held
  pub balanced-hold : (b : ℕ) → is_mapped spots b ≡ true → map.get held b ≡ None → IsBalanced count free spots used (map.insert held b false)
  balanced-hold b mapped idle = record {
    some = is.some;
    small = is.small;
    free_is = is.free_is;
    used_is = λ k. elim (cases_eq k b) [
      | inl e ↦
          ap (set.contains used) e ∙ mapped_used b mapped
          ∙ sym (or_left (is_mapped spots k) (map.contains_key (map.insert held b false) k) (ap (is_mapped spots) e ∙ mapped))
      | inr differs ↦ is.used_is k ∙ ap (λ o. is_mapped spots k || is_some o) (sym (hold_there held b false k differs))
    ];
    within = is.within;
    alone = is.alone;
    cut = λ k c h. elim (cases_eq k b) [
      | inl e ↦
          same_Some c false (sym h ∙ ap (map.get (map.insert held b false)) e ∙ hold_here held b false)
          ∙ sym (ap not (ap (is_mapped spots) e ∙ mapped))
      | inr differs ↦ is.cut k c (sym (hold_there held b false k differs) ∙ h)
    ];
  }

  mapped_of : (b : ℕ) → map.get held b ≡ Some false → is_mapped spots b ≡ true
  mapped_of b h = turned (is_mapped spots b) (is.cut b false h)
    where
      turned : (m : Bool) → false ≡ not m → m ≡ true
      turned true e = refl
      turned false e = absurd (false≢true e)

  unmapped_of : (b : ℕ) → map.get held b ≡ Some true → is_mapped spots b ≡ false
  unmapped_of b h = turned (is_mapped spots b) (is.cut b true h)
    where
      turned : (m : Bool) → true ≡ not m → m ≡ false
      turned true e = absurd (true≢false e)
      turned false e = refl

  -- a block that was not cut is held no longer
  pub balanced-keep : (b : ℕ) → map.get held b ≡ Some false → IsBalanced count free spots used (map.remove held b)
  balanced-keep b on_table = record {
    some = is.some;
    small = is.small;
    free_is = is.free_is;
    used_is = λ k. elim (cases_eq k b) [
      | inl e ↦
          let mapped : is_mapped spots k ≡ true = ap (is_mapped spots) e ∙ mapped_of b on_table in
          mapped_used k mapped ∙ sym (or_left (is_mapped spots k) (map.contains_key (map.remove held b) k) mapped)
      | inr differs ↦ is.used_is k ∙ ap (λ o. is_mapped spots k || is_some o) (sym (free_there held b k differs))
    ];
    within = is.within;
    alone = is.alone;
    cut = λ k c h. elim (cases_eq k b) [
      | inl e ↦ absurd (none-some c (sym (ap (map.get (map.remove held b)) e ∙ free_here held b) ∙ h))
      | inr differs ↦ is.cut k c (sym (free_there held b k differs) ∙ h)
    ];
  }

  -- a block that was cut is held no longer, and is free
  pub balanced-release : (b : ℕ) → map.get held b ≡ Some true → IsBalanced count (free + 1) spots (set.remove used b) (map.remove held b)
  balanced-release b on_table =
      let in_use : set.contains used b ≡ true = held_used b true on_table in
      let one : unused (set.remove used b) count ≡ unused used count + 1 = unused-remove used b count (is.within b in_use) in_use in
      let was : free ≡ unused used count = is.free_is in
      record {
        some = is.some;
        small = is.small;
        free_is = omega arith;
        used_is = λ k. elim (cases_eq k b) [
          | inl e ↦
              ap (set.contains (set.remove used b)) e ∙ freed_now used b
              ∙ sym ((λ i. (ap (is_mapped spots) e ∙ unmapped_of b on_table) i || ap (λ (o : Option Bool). is_some o) (ap (map.get (map.remove held b)) e ∙ free_here held b) i))
          | inr differs ↦ freed_other used b k differs ∙ is.used_is k ∙ ap (λ o. is_mapped spots k || is_some o) (sym (free_there held b k differs))
        ];
        within = λ k h. elim (cases_eq k b) [
          | inl e ↦ absurd (false≢true (sym (freed_now used b) ∙ sym (ap (set.contains (set.remove used b)) e) ∙ h))
          | inr differs ↦ is.within k (sym (freed_other used b k differs) ∙ h)
        ];
        alone = is.alone;
        cut = λ k c h. elim (cases_eq k b) [
          | inl e ↦ absurd (none-some c (sym (ap (map.get (map.remove held b)) e ∙ free_here held b) ∙ h))
          | inr differs ↦ is.cut k c (sym (free_there held b k differs) ∙ h)
        ];
      }

  pub free_some : (b : ℕ) → b < count → set.contains used b ≡ false → 0 < free
  free_some b within idle =
      let one : unused (set.insert used b) count + 1 ≡ unused used count = unused-insert used b count within idle in
      let was : free ≡ unused used count = is.free_is in
      omega arith

  pub free_small : free ≤ 2 ^ 32
  free_small =
      let most : unused used count ≤ count = unused-le used count in
      let was : free ≡ unused used count = is.free_is in
      let small : count ≤ 2 ^ 32 = is.small in
      omega arith

-- a call with one refusal succeeds where that doesn't hold
pub ok_since : (r : Result (Unit {0}) Refusal) → IsOkUnless r NoEntry → (r ≡ Err NoEntry → ⊥) → IsOk r
ok_since (Ok u) only never = refl
ok_since (Err e) only never = absurd (never (ap Err only))

-- what is told of a page's block, and the block
pub told_spot : (o : Option Spot) (x : Placed) → Some x ≡ option_map told o → (s : Spot) × (o ≡ Some s) × (told s ≡ x)
told_spot None x h = absurd (none-some x (sym h))
told_spot (Some s) x h = (s, refl, sym (same_Some x (told s) h))

pub told_some : (o : Option Spot) → is_some (option_map told o) ≡ is_some o
told_some None = refl
told_some (Some s) = refl

pub told_none : (o : Option Spot) → None ≡ option_map told o → o ≡ None
told_none None h = refl
told_none (Some s) h = absurd (none-some (told s) h)

-- a page fewer
pub fewer : (m : Spots) (p : ℕ × ℕ) → is_some (map.get m p) ≡ true → map.len (map.remove m p) < map.len m
fewer m p there =
    let less = map.len-remove places_total m p ∙ cond-true (map.contains_key m p) (map.len m - 1) (map.len m) there in
    let some : map.len m ≢ 0 = λ e. false≢true (sym (ap is_some (ap (λ (n : Spots). map.get n p) (map.empty_of_len m e) ∙ map.get-empty place_cmp p)) ∙ there) in
    omega (arith, less, some)

pub some_held : (o : Option Bool) → is_some o ≡ true → (c : Bool) × (o ≡ Some c)
some_held None h = absurd (false≢true h)
some_held (Some c) h = (c, refl)

pub none_held : (o : Option Bool) → is_some o ≡ false → o ≡ None
none_held None h = refl
none_held (Some c) h = absurd (true≢false h)

-- a block that is told of a page is a page's
pub mapped_told : (m : Spots) (p : ℕ × ℕ) (x : Placed) → Some x ≡ option_map told (map.get m p) → is_mapped m x.block.0 ≡ true
mapped_told m p x h =
    let t = told_spot (map.get m p) x h in
    subst (λ b. is_mapped m b ≡ true) (ap (λ (y : Placed). y.block.0) t.2) (mapped_at m p t.0.block (has_here m p t.0 t.1))
