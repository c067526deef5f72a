-- What is kept of the syncs in progress, as files change and handles open and close.
use Rattle.std.proofs.Common.{◌≡◌, ℕ, zero, suc, ◌≤◌, Bool, true, false, cond, eqb, eqb-true, List, [], ◌∷◌, get_or}
use Rattle.std.proofs.Common.{refl}
use Rattle.std.proofs.Common.{ap, sym, subst, ◌∙◌, arith}
use Rattle.std.specs.Prelude.{Option, Some, None, is_some, unwrap_or, slice_set, IsTrue}
use Rattle.std.specs.List.{list_any}
use Rattle.std.specs.Ordering.{nat_cmp}
use Rattle.std.specs.FinMap as finmap
use Rattle.std.specs.FinMap.{FinMap, get-empty, get-entries}
use Rattle.std.proofs.lemmas.Bool.Decides.{nat_tests}
use Rattle.pc_types.specs.Limits.{is_err_code}
use Rattle.pc_types.specs.declared.limits.TheConstants.{MAX_ERR_CODE}
use Rattle.machine.specs.State.{File, Page, Sync, no_file}
use Rattle.maps.proofs.Maps.{get-insert_nat, get-remove_nat}
use Rattle.maps.proofs.MapLaws.{any_value}
use Rattle.pagestore.specs.Store.{Store, stored_at, with_pages}
use Rattle.pagestore.specs.Syncing.{IsCoded, failed_of}
use Rattle.cachecore.specs.Syncing.{AreSyncs}

-- another entry of the same failures
pub kept_failed : (files : List File) (f : ℕ) (e : File) → e.failures ≡ (get_or files f no_file).failures
    → e.last_code ≡ (get_or files f no_file).last_code → (g : ℕ) → failed_of (slice_set files f e) g ≡ failed_of files g
kept_failed [] f e same code g = refl
kept_failed (x ∷ files) zero e same code zero = λ i. (same i, code i)
kept_failed (x ∷ files) zero e same code (suc g) = refl
kept_failed (x ∷ files) (suc f) e same code zero = refl
kept_failed (x ∷ files) (suc f) e same code (suc g) = kept_failed files f e same code g

either_failed : (files : List File) (f : ℕ) (e : File) (P : ℕ × ℕ → Type 0) → P (e.failures, e.last_code) → (g : ℕ)
    → P (failed_of files g) → P (failed_of (slice_set files f e) g)
either_failed [] f e P new g old = old
either_failed (x ∷ files) zero e P new zero old = new
either_failed (x ∷ files) zero e P new (suc g) old = old
either_failed (x ∷ files) (suc f) e P new zero old = old
either_failed (x ∷ files) (suc f) e P new (suc g) old = either_failed files f e P new g old

-- other pages of a file
pub files_failed : (x : List File) (store : Store) (f : ℕ) (pages : FinMap nat_cmp Page) (free : ℕ)
    → x ≡ (with_pages store f pages free).files → (g : ℕ) → failed_of x g ≡ failed_of store.files g
files_failed x store f pages free is g =
    let e : File = record (stored_at store f) { pages = pages } in
    ap (λ (files : List File). failed_of files g) is ∙ kept_failed store.files f e refl refl g

pub pages_failed : (x store : Store) (f : ℕ) (pages : FinMap nat_cmp Page) (free : ℕ)
    → x ≡ with_pages store f pages free → (g : ℕ) → failed_of x.files g ≡ failed_of store.files g
pages_failed x store f pages free is = files_failed x.files store f pages free (ap (λ (k : Store). k.files) is)

module _ (handles : FinMap nat_cmp ℕ) (files : List File) (m : FinMap nat_cmp Sync) (w : AreSyncs handles files m) where
  -- files change, but for their failures
  pub moved_syncs : (now : List File) → ((f : ℕ) → failed_of now f ≡ failed_of files f) → AreSyncs handles now m
  moved_syncs now same = record {
    opened = w.opened;
    coded = λ n y e. subst (λ x. IsCoded x y.failures) (sym (same (unwrap_or (finmap.get handles y.handle) 0)))
        (w.coded n y e);
  }

  -- each sync's handle has its file as before
  kept_syncs : (now : FinMap nat_cmp ℕ)
      → ((n : ℕ) (y : Sync) → finmap.get m n ≡ Some y → finmap.get now y.handle ≡ finmap.get handles y.handle)
      → AreSyncs now files m
  kept_syncs now same = record {
    opened = λ n y e. ap is_some (same n y e) ∙ w.opened n y e;
    coded = λ n y e. subst (λ o. IsCoded (failed_of files (unwrap_or o 0)) y.failures) (sym (same n y e))
        (w.coded n y e);
  }

  -- a handle opens that was not open
  pub opened_syncs : (h f : ℕ) → is_some (finmap.get handles h) ≡ false → AreSyncs (finmap.insert handles h f) files m
  opened_syncs h f free = kept_syncs (finmap.insert handles h f)
      (λ n y e. get-insert_nat handles h f y.handle ∙ go n y e (eqb y.handle h) refl)
    where
      go : (n : ℕ) (y : Sync) → finmap.get m n ≡ Some y → (b : Bool) → eqb y.handle h ≡ b
          → cond b (Some f) (finmap.get handles y.handle) ≡ finmap.get handles y.handle
      go n y e true k = absurd (
          let there = w.opened n y e in
          let same = ap (λ x. is_some (finmap.get handles x)) (eqb-true y.handle h k) in
          let clash : true ≡ false = sym there ∙ same ∙ free in
          cc)
      go n y e false k = refl

  -- a handle closes that no sync uses
  pub closed_syncs : (h : ℕ) → list_any (λ (y : Sync). eqb y.handle h) (finmap.values m) ≡ false
      → AreSyncs (finmap.remove handles h) files m
  closed_syncs h unused = kept_syncs (finmap.remove handles h)
      (λ n y e. get-remove_nat handles h y.handle
      ∙ ap (λ b. cond b None (finmap.get handles y.handle)) (other n y e (eqb y.handle h) refl))
    where
      other : (n : ℕ) (y : Sync) → finmap.get m n ≡ Some y → (b : Bool) → eqb y.handle h ≡ b → eqb y.handle h ≡ false
      other n y e true k = absurd (
          let used = any_value nat_cmp (λ (y : Sync). eqb y.handle h) n y (finmap.entries m)
          (sym (get-entries m n) ∙ e) k in
          let clash : true ≡ false = sym used ∙ unused in
          cc)
      other n y e false k = k

  -- one more write of f failed, with a code
  pub failed_syncs : (f : ℕ) (e : File) → IsTrue (is_err_code e.last_code) → AreSyncs handles (slice_set files f e) m
  failed_syncs f e is_code = record {
    opened = w.opened;
    coded = λ n y k. either_failed files f e (λ x. IsCoded x y.failures) (λ _. is_code)
        (unwrap_or (finmap.get handles y.handle) 0) (w.coded n y k);
  }

-- what the code of a fault is
pub err_code : (n : ℕ) → 1 ≤ n → n ≤ MAX_ERR_CODE → IsTrue (is_err_code n)
err_code n least most = grind (arith, nat_tests)

-- ---- at the start

no_sync : (n : ℕ) (y : Sync) → finmap.get (finmap.empty {X = Sync} {R = nat_cmp}) n ≡ Some y → ⊥
no_sync n y e =
    let none = get-empty {X = Sync} nat_cmp n in
    let clash : ◌≡◌ {A = Option Sync} None (Some y) = sym none ∙ e in
    cc

pub none_syncs : (handles : FinMap nat_cmp ℕ) (files : List File) → AreSyncs handles files finmap.empty
none_syncs handles files = record {
  opened = λ n y e. absurd (no_sync n y e);
  coded = λ n y e. absurd (no_sync n y e);
}
