-- Which pages are filling as a request begins or ends, and how many.
use Rattle.std.proofs.Common.{◌≡◌, ℕ, Bool, true, false, eqb, eqb-true, refl, ap, sym, ◌∙◌, inl, inr}
use Rattle.std.specs.Prelude.{◌&&◌, Option, Some, None, not}
use Rattle.std.specs.List.{list_any}
use Rattle.std.specs.Ordering.{nat_cmp}
use Rattle.std.specs.Cmp.{nat_cmp_total, both_ways}
use Rattle.std.specs.FinMap as finmap
use Rattle.std.specs.FinMap.{FinMap, nat_cmp-IsAntisymmetric, get-entries}
use Rattle.std.specs.FinSet as set
use Rattle.std.proofs.lemmas.Bool.{false≢true, false_from_ne_true, true_from_ne_false}
use Rattle.pc_types.specs.Kinds.{is_fill}
use Rattle.pc_types.specs.Spots.{place_cmp}
use Rattle.pc_types.specs.declared.kind.Kind.{Kind}
use Rattle.pc_types.specs.declared.kind.Kind.TheVariants.{Flush}
use Rattle.mapping.proofs.MapLemmas.{get-insert_here, get-insert_there, get-remove_there}
use Rattle.machine.specs.State.{State, Request, fills, is_filling, filling_total}
use Rattle.machine.specs.Sound.{Sound}
use Rattle.machine.proofs.sound.Changes.{lookups, one_request}
use Rattle.machine.proofs.steps.Choices.{and_true, not_true}
use Rattle.maps.proofs.MapLaws.{any_value}
use Rattle.cachecore.proofs.Values.{no_value}
use Rattle.cachecore.proofs.FillPlaces.{is_live_fill, len-filling}
use Rattle.maps.proofs.Maps.{get_inserted, get_left}

some_is : {A : Type 0} (x y : A) (o : Option A) → o ≡ Some x → o ≡ Some y → x ≡ y
some_is x y o a b = cc

some_none : {A : Type 0} (x : A) (o : Option A) → o ≡ None → o ≡ Some x → ⊥
some_none x o a b = cc

-- ---- whether a request passes a test

shows : (test : Request → Bool) (m : FinMap nat_cmp Request) (t : ℕ) (r : Request) → finmap.get m t ≡ Some r
    → test r ≡ true → list_any test (finmap.values m) ≡ true
shows test m t r is passes = any_value nat_cmp test t r (finmap.entries m) (sym (get-entries m t) ∙ is) passes

-- what each that passes leads to, holds where some passes
by_each : (test : Request → Bool) (m : FinMap nat_cmp Request) (goal : Bool)
    → ((t : ℕ) (r : Request) → finmap.get m t ≡ Some r → test r ≡ true → goal ≡ true)
    → list_any test (finmap.values m) ≡ true → goal ≡ true
by_each test m goal each some =
    true_from_ne_false goal (λ fails. false≢true
    (sym (no_value nat_cmp nat_cmp_total nat_cmp-IsAntisymmetric test m
    (λ t r is. false_from_ne_true (test r) (λ passes. false≢true (sym fails ∙ each t r is passes)))) ∙ some))

module _ (test : Request → Bool) (m : FinMap nat_cmp Request) (t : ℕ) (r : Request) where
  -- one begins that doesn't pass
  pub any-begun : finmap.get m t ≡ None → test r ≡ false → list_any test (finmap.values (finmap.insert m t r))
      ≡ list_any test (finmap.values m)
  any-begun fresh fails = both_ways _ _
      (by_each test (finmap.insert m t r) _ (λ u q is passes. elim (get_inserted m t r u) [
        | inl k ↦ absurd (false≢true (sym fails ∙ ap test (some_is r q _ k.1 is) ∙ passes))
        | inr k ↦ shows test m u q (sym k.1 ∙ is) passes
      ]))
      (by_each test m _ (λ u q is passes. shows test (finmap.insert m t r) u q
      (get-insert_there m t r u (λ same. some_none q (finmap.get m t) fresh (ap (finmap.get m) (sym same) ∙ is))
      ∙ is) passes))

  -- one begins that passes
  pub shown-begun : test r ≡ true → list_any test (finmap.values (finmap.insert m t r)) ≡ true
  shown-begun passes = shows test (finmap.insert m t r) t r (get-insert_here m t r t refl) passes

  -- one ends that doesn't pass
  pub any-ended : finmap.get m t ≡ Some r → test r ≡ false → list_any test (finmap.values (finmap.remove m t))
      ≡ list_any test (finmap.values m)
  any-ended there fails = both_ways _ _
      (by_each test (finmap.remove m t) _ (λ u q is passes. shows test m u q (get_left m t u q is).1 passes))
      (by_each test m _ (λ u q is passes. shows test (finmap.remove m t) u q
      (get-remove_there m t u (λ same. false≢true
      (sym fails ∙ ap test (some_is r q (finmap.get m t) there (ap (finmap.get m) (sym same) ∙ is)) ∙ passes)) ∙ is)
      passes))

  -- the only one that passes ends
  pub none-ended : ((u : ℕ) (q : Request) → finmap.get m u ≡ Some q → test q ≡ true → u ≡ t)
      → list_any test (finmap.values (finmap.remove m t)) ≡ false
  none-ended only =
      false_from_ne_true _ (λ some. false≢true
      (by_each test (finmap.remove m t) false
      (λ u q is passes. absurd (let k = get_left m t u q is in k.0 (only u q k.1 passes))) some))

-- ---- fills

pub fills_of : (f p : ℕ) (r : Request) → fills f p r ≡ true
    → (is_live_fill r ≡ true) × (r.dropped ≡ false) × (r.file ≡ f) × (r.page ≡ p)
fills_of f p r h =
    let a = and_true (is_fill r.kind && not r.dropped) (eqb r.file f && eqb r.page p) h in
    let b = and_true (is_fill r.kind) (not r.dropped) a.0 in
    let c = and_true (eqb r.file f) (eqb r.page p) a.1 in
    (a.0, not_true r.dropped b.1, eqb-true r.file f c.0, eqb-true r.page p c.1)

-- a request that is dropped, or that is a flush, fills no page
pub not_fill : (r : Request) → is_live_fill r ≡ false → (f p : ℕ) → fills f p r ≡ false
not_fill r fails f p = ap (λ b. b && (eqb r.file f && eqb r.page p)) fails

pub dropped_fills_none : (r : Request) → r.dropped ≡ true → is_live_fill r ≡ false
dropped_fills_none r d = ap (λ b. is_fill r.kind && not b) d ∙ go (is_fill r.kind)
  where
    go : (b : Bool) → (b && false) ≡ false
    go true = refl
    go false = refl

pub flush_fills_none : (r : Request) → r.kind ≡ Flush → is_live_fill r ≡ false
flush_fills_none r k = ap (λ (x : Kind). is_fill x && not r.dropped) k

-- a set of the filling pages has as many as there are live fills
pub filling_is : (s : State) → Sound s → (places : set.FinSet place_cmp)
    → ((f p : ℕ) → set.contains places (f, p) ≡ is_filling s f p) → set.len places ≡ filling_total s
filling_is s ok places is =
    len-filling s.requests places is
    (λ t u r q a b x y f p. one_request (lookups s) ok t u r q a b (live r x) (live q y) f p)
  where
    live : (r : Request) → is_live_fill r ≡ true → r.dropped ≡ false
    live r h = not_true r.dropped (and_true (is_fill r.kind) (not r.dropped) h).1
