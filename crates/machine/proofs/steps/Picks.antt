-- Which page a sync starts next: the lowest that is left, where it has no bound yet.
use Rattle.std.proofs.Common.{◌≡◌, ℕ, ◌≤◌, Bool, true, false, cond, refl, ap, sym, ◌∙◌, arith}
use Rattle.std.specs.Prelude.{◌&&◌, Option, Some, None, is_some, option_map, unwrap_or, nat_lt, find}
use Rattle.std.specs.FinMap as map
use Rattle.machine.specs.State.{State, Page, Sync, file_at, handle_file, page_at, in_range}
use Rattle.machine.specs.Changes.{sync_pick, is_left}
use Rattle.machine.proofs.steps.Choices.{and_true, mapped_some}
use Rattle.maps.proofs.Found.{found, found_lowest, found_none}

-- whether a page is past the one that was started last
abbrev pub past : Option ℕ → ℕ → Bool
past started p = unwrap_or (option_map (λ q. nat_lt q p) started) true

pub pick_unbound : (s : State) (y : Sync) (p : ℕ) → sync_pick s y ≡ Some p → y.bound ≡ None
pick_unbound s y p pick = go y.bound refl pick
  where
    go : (o : Option ℕ) → y.bound ≡ o
        → cond (is_some o) None (option_map (λ (e : ℕ × Page). e.0)
        (find (is_left y) (map.entries (file_at s (handle_file s y.handle)).pages))) ≡ Some p → o ≡ None
    go (Some b) is k = absurd cc
    go None is k = refl

pub pick_lowest : (s : State) (y : Sync) (p : ℕ) → sync_pick s y ≡ Some p → (q : ℕ) (page : Page)
    → page_at s (handle_file s y.handle) q ≡ Some page → is_left y (q, page) ≡ true → p ≤ q
pick_lowest s y p pick q page is left = go y.bound pick
  where
    go : (o : Option ℕ) → cond (is_some o) None
        (option_map (λ (e : ℕ × Page). e.0) (find (is_left y) (map.entries (file_at s (handle_file s y.handle)).pages)))
        ≡ Some p → p ≤ q
    go (Some b) k = absurd cc
    go None k =
        let e = mapped_some (λ (e : ℕ × Page). e.0)
        (find (is_left y) (map.entries (file_at s (handle_file s y.handle)).pages)) p k in
        let low = found_lowest (file_at s (handle_file s y.handle)).pages (is_left y) e.0 e.1 q page is left in
        let same = e.2 in omega arith

pub pick_none : (s : State) (y : Sync) → sync_pick s y ≡ None → y.bound ≡ None → (q : ℕ) (page : Page)
    → page_at s (handle_file s y.handle) q ≡ Some page → is_left y (q, page) ≡ false
pick_none s y pick unbound q page is = found_none (file_at s (handle_file s y.handle)).pages (is_left y)
    (nothing (find (is_left y) (map.entries (file_at s (handle_file s y.handle)).pages))
    (sym (ap (λ o. cond (is_some o) None
    (option_map (λ (e : ℕ × Page). e.0) (find (is_left y) (map.entries (file_at s (handle_file s y.handle)).pages))))
    unbound) ∙ pick)) q page is
  where
    nothing : (o : Option (ℕ × Page)) → option_map (λ (e : ℕ × Page). e.0) o ≡ None → o ≡ None
    nothing None e = refl
    nothing (Some x) e = absurd cc

-- the page that is started is past the last one
pub pick_past : (s : State) (y : Sync) (p : ℕ) → sync_pick s y ≡ Some p → past y.started p ≡ true
pick_past s y p pick = go y.bound pick
  where
    go : (o : Option ℕ) → cond (is_some o) None
        (option_map (λ (e : ℕ × Page). e.0) (find (is_left y) (map.entries (file_at s (handle_file s y.handle)).pages)))
        ≡ Some p → past y.started p ≡ true
    go (Some b) k = absurd cc
    go None k =
        let e = mapped_some (λ (e : ℕ × Page). e.0)
        (find (is_left y) (map.entries (file_at s (handle_file s y.handle)).pages)) p k in
        let a = found (file_at s (handle_file s y.handle)).pages (is_left y) e.0 e.1 in
        ap (past y.started) (sym e.2) ∙ (and_true (e.0.1.tags.towrite && in_range y e.0.0) (past y.started e.0.0) a.0).1
