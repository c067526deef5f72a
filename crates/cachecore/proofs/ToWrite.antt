-- Files that have nothing to write.
use Rattle.std.proofs.Common.{◌≡◌, ℕ, ◌+◌, ◌<◌, ◌≤◌, true, false, eqb, eqb-true, not, List, [], ◌∷◌, length}
use Rattle.std.proofs.Common.{refl, ap, sym, ◌∙◌, arith}
use Rattle.std.specs.Prelude.{◌&&◌, Option, Some, None, is_some, find, nat_lt, option_map}
use Rattle.std.specs.Ordering.{nat_cmp}
use Rattle.std.specs.FinMap as map
use Rattle.std.proofs.lemmas.List.{get_or_past}
use Rattle.std.proofs.lemmas.Bool.Decides.{nat_tests}
use Rattle.machine.specs.Changes.{flush_pick}
use Rattle.machine.specs.State.{State, Page, file_at, no_file}

-- none of the files before n has a page to write
abbrev pub NoneBefore : State → ℕ → Type 0
NoneBefore s n = (g : ℕ) → g < n → flush_pick (file_at s g) ≡ None

pub none_yet : (s : State) → NoneBefore s 0
none_yet s g less = absurd (omega arith)

picks_nothing : (o : Option ℕ) → is_some o ≡ false → o ≡ None
picks_nothing None e = refl
picks_nothing (Some x) e = absurd cc

pub none_on : (s : State) (n : ℕ) → NoneBefore s n → is_some (flush_pick (file_at s n)) ≡ false → NoneBefore s (n + 1)
none_on s n before here g less =
    elim (eqb g n) as (λ b. eqb g n ≡ b → flush_pick (file_at s g) ≡ None) [
      | true ↦ λ e. ap (λ k. flush_pick (file_at s k)) (eqb-true g n e) ∙ picks_nothing (flush_pick (file_at s n)) here
      | false ↦ λ e. before g (grind (arith, nat_tests))
    ] refl

-- no file past the last has
pub nothing_past : (s : State) (f : ℕ) → length s.files ≤ f → flush_pick (file_at s f) ≡ None
nothing_past s f past = ap flush_pick (get_or_past s.files f no_file past) ∙ none
  where
    nil : (es : List (ℕ × Page)) → length es ≡ 0 → es ≡ []
    nil [] e = refl
    nil (x ∷ es) e = absurd (omega arith)

    is_nil : map.entries (map.empty {X = Page} {R = nat_cmp}) ≡ []
    is_nil = nil _ (sym (map.len-entries (map.empty {X = Page} {R = nat_cmp})) ∙ map.len-empty nat_cmp Page)

    none : flush_pick no_file ≡ None
    none = ap (λ (es : List (ℕ × Page)). option_map (λ (e : ℕ × Page). e.0)
        (find (λ (e : ℕ × Page). e.1.tags.dirty && not e.1.tags.writeback) es)) is_nil

pub none_at_all : (s : State) (n : ℕ) → NoneBefore s n → length s.files ≤ n → (f : ℕ) → flush_pick (file_at s f) ≡ None
none_at_all s n before all f =
    elim (nat_lt f n) as (λ b. nat_lt f n ≡ b → flush_pick (file_at s f) ≡ None) [
      | true ↦ λ e. before f (grind (arith, nat_tests))
      | false ↦ λ e. nothing_past s f (grind (arith, nat_tests))
    ] refl
