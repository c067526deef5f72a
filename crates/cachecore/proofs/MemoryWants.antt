-- A write that was refused memory touches a page that is absent or has no block.
use Rattle.std.proofs.Common.{◌≡◌, ℕ, zero, suc, ◌+◌, ◌-◌, ◌/◌, ◌<◌, ◌≤◌, Bool, true, false, not, eqb, eqb-true}
use Rattle.std.proofs.Common.{refl, ap, sym, ◌∙◌, inl, inr, arith, ◌&&◌, ◌||◌, ◌⊎◌}
use Rattle.std.specs.Prelude.{is_some, slice_index_or}
use Rattle.std.specs.FinMap as map
use Rattle.std.specs.List.{list_any, range_with_len}
use Rattle.std.proofs.lemmas.Bool.Decides.{nat_tests}
use Rattle.blockmap.specs.Blocks.{Blocks}
use Rattle.machine.specs.State.{State, has_block, is_cached, no_file, touched}
use Rattle.machine.specs.Step.{wants_memory}
use Rattle.machine.proofs.steps.Choices.{not_true}
use Rattle.pagestore.specs.Ranges.{HasAbsent}
use Rattle.pagestore.specs.Store.{Store}
use Rattle.cachecore.specs.Placing.{HasBare}

or_later : (a b : Bool) → b ≡ true → (a || b) ≡ true
or_later true b e = refl
or_later false b e = e

and_second : (a b : Bool) → b ≡ false → (a && b) ≡ false
and_second true b e = e
and_second false b e = refl

further : (a x : ℕ) → a ≤ x → eqb a x ≡ false → a + 1 ≤ x
further a x l e = grind (arith, nat_tests)

-- a number of the range passes the test
any_in : (test : ℕ → Bool) (a n q : ℕ) → a ≤ q → q < a + n → test q ≡ true → list_any test (range_with_len a n) ≡ true
any_in test a zero q l h t = absurd (omega arith)
any_in test a (suc n) q l h t =
    elim (eqb a q) as (λ b. eqb a q ≡ b → (test a || list_any test (range_with_len (a + 1) n)) ≡ true) [
      | true ↦ λ e. ap (λ b. b || list_any test (range_with_len (a + 1) n)) (ap test (eqb-true a q e) ∙ t)
      | false ↦ λ e. or_later (test a) _ (any_in test (a + 1) n q (further a q l e) (omega arith) t)
    ] refl

module _ (s : State) (f o n P : ℕ) (page : P ≡ s.sizes.page) where
  wants_for : (q : ℕ) → o / P ≤ q → q < (o + n - 1) / P + 1 → (is_cached s f q && has_block s f q) ≡ false
      → wants_memory s f o n ≡ true
  wants_for q from before missing =
      let test : ℕ → Bool = λ p. not (is_cached s f p && has_block s f p) in
      ap (λ k. list_any test (touched k o n)) (sym page)
      ∙ any_in test (o / P) ((o + n - 1) / P + 1 - o / P) q from (omega (arith, from, before)) (ap not missing)

  pub wants_of : (store : Store) (blocks : Blocks) → s.files ≡ store.files → s.spots ≡ blocks.spots
      → HasAbsent f (o / P) ((o + n - 1) / P + 1) store ⊎ HasBare f (o / P) ((o + n - 1) / P + 1) blocks
      → wants_memory s f o n ≡ true
  wants_of store blocks files spots h = elim h [
    | inl a ↦ wants_for a.page a.from a.before (ap (λ b. b && has_block s f a.page)
        (ap (λ x. is_some (map.get (slice_index_or x f no_file).pages a.page)) files ∙ a.absent))
    | inr a ↦ wants_for a.page a.from a.before (and_second (is_cached s f a.page) _
        (ap (λ x. is_some (map.get x (f, a.page))) spots ∙ not_true _ a.bare))
  ]
