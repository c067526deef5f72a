-- A page of a file that is cached or filling, as the file's mapping finds it.
use Rattle.std.proofs.Common.{◌≡◌, ℕ, ◌≤◌, Bool, true, false, cond, not, List, refl, ap, sym, subst, ◌∙◌, arith}
use Rattle.std.specs.Prelude.{◌||◌, Option, Some, None, IfNone, find, is_some, nat_le, option_map}
use Rattle.std.specs.Option.{option_and_then}
use Rattle.std.specs.FinMap as finmap
use Rattle.std.proofs.lemmas.Bool.Decides.{nat_tests}
use Rattle.frames.specs.Table.{Table}
use Rattle.frames.specs.Rows.{row_at}
use Rattle.mapping.specs.Pages as mapping
use Rattle.mapping.specs.Pages.{Mapped, Pages}
use Rattle.mapping.specs.declared.page.FoundPage.{FoundPage}
use Rattle.pagestore.specs.declared.kept.KeptFile.{KeptFile}
use Rattle.machine.specs.State.{Page}
use Rattle.pagestore.specs.Store.{awaits, is_awaited, is_uptodate, kept_at, entry_at, page_of, store_of, stored_page}
use Rattle.maps.proofs.Found.{found, found_none}
use Rattle.machine.proofs.steps.Choices.{mapped_some}
use Rattle.pagestore.proofs.StoreLaws.{seen_at, waits_at}

pub if_none : {A : Type 0} (r : Option A) (P : Type 0) → P → IfNone r P
if_none None P h = h
if_none (Some x) P h = tt

none_mapped : {X Y : Type 0} (g : X → Y) (o : Option X) → None ≡ option_map g o → o ≡ None
none_mapped g None e = refl
none_mapped g (Some x) e = absurd cc

either : (page : Page) (b : Bool) → (is_some (cond b (Some page) None) || not b) ≡ true
either page true = refl
either page false = refl

module _ (t : Table) (up : List Bool) (files : List KeptFile) (f n : ℕ) where
  pub is_there : (o : Option Mapped) (q : ℕ) → entry_at files f q ≡ o
      → (is_some (stored_page (store_of t up files) f q) || is_awaited (store_of t up files) f q) ≡ is_some o
  is_there o q e = (λ i. is_some (seen_at t up files f q i) || waits_at t up files f q i)
      ∙ (λ i. is_some (option_and_then (page_of t up) (e i)) || awaits up (e i)) ∙ each o
    where
      each : (o : Option Mapped) → (is_some (option_and_then (page_of t up) o) || awaits up o) ≡ is_some o
      each None = refl
      each (Some x) = let page : Page = record { bytes = row_at t.bytes x.frame; tags = x.tags } in
          either page (is_uptodate up x)

  pub no_entry_from : (m : Pages) → m ≡ (kept_at files f).mapping.pages → None ≡ mapping.lowest (λ e. nat_le n e.0) m
      → (q : ℕ) → n ≤ q → entry_at files f q ≡ None
  no_entry_from m same none q low = go (finmap.get m q) refl
    where
      go : (o : Option Mapped) → finmap.get m q ≡ o → entry_at files f q ≡ None
      go None e = ap (λ (k : Pages). finmap.get k q) (sym same) ∙ e
      go (Some x) e =
          absurd (let off : nat_le n q ≡ false =
          found_none m (λ (e : ℕ × Mapped). nat_le n e.0) (none_mapped mapping.found _ none) q x e in
          let on : nat_le n q ≡ true = grind (arith, nat_tests) in cc)

  pub none_from : (m : Pages) → m ≡ (kept_at files f).mapping.pages → None ≡ mapping.lowest (λ e. nat_le n e.0) m
      → (q : ℕ) → n ≤ q → (is_some (stored_page (store_of t up files) f q) || is_awaited (store_of t up files) f q)
      ≡ false
  none_from m same none q low = is_there None q (no_entry_from m same none q low)

  pub some_from : (m : Pages) (r : FoundPage) → m ≡ (kept_at files f).mapping.pages
      → Some r ≡ mapping.lowest (λ e. nat_le n e.0) m
      → (n ≤ r.page.0) × ((is_some (stored_page (store_of t up files) f r.page.0) || is_awaited (store_of t up files) f
      r.page.0) ≡ true)
  some_from m r same is =
      let w = mapped_some mapping.found (find (λ (e : ℕ × Mapped). nat_le n e.0) (finmap.entries m)) r (sym is) in
      let a = found m (λ (e : ℕ × Mapped). nat_le n e.0) w.0 w.1 in
      let at : w.0.0 ≡ r.page.0 = ap (λ (k : FoundPage). k.page.0) w.2 in
      let low : n ≤ w.0.0 = reach w.0.0 a.0 in
      subst (λ q. (n ≤ q) × ((is_some (stored_page (store_of t up files) f q) || is_awaited (store_of t up files) f q)
      ≡ true)) at (low, is_there (Some w.0.1) w.0.0 (ap (λ (k : Pages). finmap.get k w.0.0) (sym same) ∙ a.1))
    where
      reach : (q : ℕ) → nat_le n q ≡ true → n ≤ q
      reach q e = grind (arith, nat_tests)
