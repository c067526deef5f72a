-- How a write moves the page lists, as its parts tell it.
use Rattle.std.proofs.Common.{◌≡◌, ℕ, ◌+◌, ◌-◌, ◌/◌, ◌<◌, false, cond, not, eqb, List, ap, sym, ◌∙◌, arith}
use Rattle.std.specs.Prelude.{filter}
use Rattle.std.specs.List.{range_with_len}
use Rattle.std.proofs.lemmas.Bool.Decides.{nat_tests}
use Rattle.machine.specs.State.{State, is_cached, touched}
use Rattle.machine.specs.PageLists.{PageLists, each_entered, each_accessed}
use Rattle.machine.specs.ListChanges.{lists_written}

module _ (s : State) (f o n : ℕ) (old : PageLists) where
  abbrev all : ℕ → PageLists
  all P = each_accessed f (filter (is_cached s f) (touched P o n))
      (each_entered f (filter (λ p. not (is_cached s f p)) (touched P o n)) old)

  -- the pages that were cached, those that were made, and the lists after both
  pub written_lists : (P : ℕ) (cached : List ℕ) (made new : PageLists) → P ≡ s.sizes.page → 0 < n
      → cached ≡ filter (is_cached s f) (range_with_len (o / P) ((o + n - 1) / P + 1 - o / P))
      → made ≡ each_entered f (filter (λ p. not (is_cached s f p))
      (range_with_len (o / P) ((o + n - 1) / P + 1 - o / P))) old
      → new ≡ each_accessed f cached made → new ≡ lists_written s f o n old
  written_lists P cached made new page some cached_is made_is new_is =
      let none : eqb n 0 ≡ false = grind (arith, nat_tests) in
      new_is ∙ (λ i. each_accessed f (cached_is i) (made_is i)) ∙ ap all page
      ∙ ap (λ b. cond b old (all s.sizes.page)) (sym none)
