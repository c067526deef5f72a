-- The free blocks of a state are those of its block map, whatever requests are in flight.
use Rattle.std.proofs.Common.{◌≡◌, ℕ, Bool, true, false, not, eqb, eq-eqb, eqb-true, filter, refl, ap, sym, ◌∙◌}
use Rattle.std.specs.Prelude.{◌||◌, Option, Some, None, is_some}
use Rattle.std.specs.List.{list_any, range_with_len}
use Rattle.std.specs.Ordering.{nat_cmp}
use Rattle.std.specs.Cmp.{nat_cmp_total, both_ways}
use Rattle.std.specs.FinMap as finmap
use Rattle.std.specs.FinMap.{FinMap, nat_cmp-IsAntisymmetric, get-entries, get-empty, len-empty}
use Rattle.std.proofs.lemmas.Bool.{false≢true, false_from_ne_true}
use Rattle.std.proofs.lemmas.List.Elements.{filter_agree}
use Rattle.std.proofs.lemmas.List.Folds.{list_any-append}
use Rattle.pc_types.specs.Spots.{Spot, place_cmp}
use Rattle.blockmap.specs.Blocks as device
use Rattle.blockmap.specs.Blocks.{Blocks, Spots, is_mapped}
use Rattle.blockmap.proofs.MapLemmas.{at_mapped, not_mapped}
use Rattle.machine.specs.State.{State, Request, free_blocks}
use Rattle.machine.proofs.changes.StateLaws.{is_free, any_block}
use Rattle.cachecore.specs.Holding.{Holds}
use Rattle.maps.proofs.MapLaws.{places_total, places_antisymmetric, any_value}
use Rattle.cachecore.proofs.Values.{no_value}

-- the spot that has the block
spot_with : (o : Option Spot) (b : ℕ) → device.has_block o b ≡ true → (s : Spot) × (o ≡ Some s) × (eqb s.block b ≡ true)
spot_with None b h = absurd (false≢true h)
spot_with (Some s) b h = (s, refl, h)

-- some page has the block where a spot is there
any_spot : (m : Spots) (b : ℕ) → list_any (λ (s : Spot). eqb s.block b) (finmap.values m) ≡ is_mapped m b
any_spot m b = both_ways (list_any test (finmap.values m)) (is_mapped m b) found shows
  where
    test : Spot → Bool
    test s = eqb s.block b

    none : is_mapped m b ≡ false → list_any test (finmap.values m) ≡ false
    none n = no_value place_cmp places_total places_antisymmetric test m
        (λ k x e. sym (ap (λ o. device.has_block o b) e) ∙ not_mapped m k b n)

    found : list_any test (finmap.values m) ≡ true → is_mapped m b ≡ true
    found t = go (is_mapped m b) refl
      where
        go : (c : Bool) → is_mapped m b ≡ c → c ≡ true
        go true e = refl
        go false e = absurd (false≢true (sym (none e) ∙ t))

    shows : is_mapped m b ≡ true → list_any test (finmap.values m) ≡ true
    shows t =
        let p = at_mapped m b t in
        let s = spot_with (finmap.get m p.0) b p.1 in
        any_value place_cmp test p.0 s.0 (finmap.entries m) (sym (get-entries m p.0) ∙ s.1) s.2

any_request : (held : FinMap nat_cmp Bool) (requests : FinMap nat_cmp Request) → Holds held requests → (b : ℕ)
    → list_any (λ (r : Request). eqb r.block b) (finmap.values requests) ≡ finmap.contains_key held b
any_request held requests h b = both_ways (list_any test (finmap.values requests)) (finmap.contains_key held b) found
    shows
  where
    test : Request → Bool
    test r = eqb r.block b

    none : finmap.contains_key held b ≡ false → list_any test (finmap.values requests) ≡ false
    none n = no_value nat_cmp nat_cmp_total nat_cmp-IsAntisymmetric test requests
        (λ t r e. false_from_ne_true (eqb r.block b) (λ same.
        let at : finmap.get held r.block ≡ Some r.dropped = h.held_is t r e in
        let here : finmap.contains_key held b ≡ true =
        ap is_some (ap (finmap.get held) (sym (eqb-true r.block b same)) ∙ at) in
        false≢true (sym n ∙ here)))

    found : list_any test (finmap.values requests) ≡ true → finmap.contains_key held b ≡ true
    found t = go (finmap.contains_key held b) refl
      where
        go : (c : Bool) → finmap.contains_key held b ≡ c → c ≡ true
        go true e = refl
        go false e = absurd (false≢true (sym (none e) ∙ t))

    shows : finmap.contains_key held b ≡ true → list_any test (finmap.values requests) ≡ true
    shows t = go (finmap.get held b) refl t
      where
        go : (o : Option Bool) → finmap.get held b ≡ o → is_some o ≡ true
            → list_any test (finmap.values requests) ≡ true
        go None e k = absurd (false≢true k)
        go (Some c) e k =
            let w = h.holder b c e in
            any_value nat_cmp test w.0 w.1 (finmap.entries requests) (sym (get-entries requests w.0) ∙ w.2)
            (eq-eqb w.1.block b w.3)

module _ (s : State) (blocks : Blocks) (spots : s.spots ≡ blocks.spots) (count : s.sizes.blocks ≡ blocks.count)
    (holds : Holds blocks.held s.requests) where
  pub is_free-same : (b : ℕ) → is_free s b ≡ device.is_free blocks b
  is_free-same b =
      ap not (list_any-append (λ used. eqb used b) _ _
      ∙ (λ i. any_block (λ (x : Spot). x.block) b (finmap.values s.spots) i || any_block (λ (r : Request). r.block) b
      (finmap.values s.requests) i)
      ∙ (λ i. (any_spot s.spots b ∙ ap (λ (m : Spots). is_mapped m b) spots) i || any_request blocks.held s.requests
      holds b i))

  pub free_blocks-same : free_blocks s ≡ device.free_blocks blocks
  free_blocks-same = filter_agree (is_free s) (device.is_free blocks) is_free-same (range_with_len 0 s.sizes.blocks)
      ∙ ap (λ n. filter (device.is_free blocks) (range_with_len 0 n)) count

-- ---- no request is in flight

some_none : {A : Type 0} (x : A) (o : Option A) → o ≡ None → o ≡ Some x → ⊥
some_none x o a b = cc

pub Holds-none : Holds finmap.empty finmap.empty
Holds-none = record {
  held_is =
      λ t r e. absurd (some_none r (finmap.get (finmap.empty {X = Request} {R = nat_cmp}) t) (get-empty nat_cmp t) e);
  holder = λ b c e. absurd (some_none c (finmap.get (finmap.empty {X = Bool} {R = nat_cmp}) b) (get-empty nat_cmp b) e);
  alone = λ t u r q e f s. absurd (some_none r (finmap.get (finmap.empty {X = Request} {R = nat_cmp}) t)
      (get-empty nat_cmp t) e);
  counted = len-empty nat_cmp Bool ∙ sym (len-empty nat_cmp Request);
}
