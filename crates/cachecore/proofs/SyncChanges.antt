-- What is kept of the syncs in progress as one begins, goes on, and is over or dropped.
use Rattle.std.proofs.Common.{◌≡◌, ℕ, Bool, true, false, cond, eqb, List, ap, sym, subst, ◌∙◌}
use Rattle.std.specs.Prelude.{Some, None, is_some, option_map, unwrap_or}
use Rattle.std.specs.Ordering.{nat_cmp}
use Rattle.std.specs.FinMap as finmap
use Rattle.std.specs.FinMap.{FinMap}
use Rattle.maps.specs.Maps.{change_at, put_some}
use Rattle.maps.proofs.Maps.{get-insert_nat, get-remove_nat}
use Rattle.machine.specs.State.{File, Sync}
use Rattle.pagestore.specs.Syncing.{IsCoded, failed_of}
use Rattle.cachecore.specs.Syncing.{AreSyncs}

-- the value at a key that has one, changed
pub change_is : {X : Type 0} (m : FinMap nat_cmp X) (k : ℕ) (g : X → X) (x : X) → finmap.get m k ≡ Some x
    → change_at k g m ≡ finmap.insert m k (g x)
change_is m k g x at = ap (λ o. put_some k (option_map g o) m) at

module _ (handles : FinMap nat_cmp ℕ) (files : List File) (syncs : FinMap nat_cmp Sync)
    (w : AreSyncs handles files syncs) (m : ℕ) where
  module _ (y : Sync) where
    in_put : (P : Sync → Type 0) → P y → ((q : ℕ) (x : Sync) → finmap.get syncs q ≡ Some x → P x) → (q : ℕ) (x : Sync)
        → finmap.get (finmap.insert syncs m y) q ≡ Some x → P x
    in_put P new old q x e = go (eqb q m) (sym (get-insert_nat syncs m y q) ∙ e)
      where
        go : (b : Bool) → cond b (Some y) (finmap.get syncs q) ≡ Some x → P x
        go true h = subst P (let same : y ≡ x = cc in same) new
        go false h = old q x h

    pub put_syncs : is_some (finmap.get handles y.handle) ≡ true
        → IsCoded (failed_of files (unwrap_or (finmap.get handles y.handle) 0)) y.failures
        → AreSyncs handles files (finmap.insert syncs m y)
    put_syncs there code = record {
      opened = in_put (λ x. is_some (finmap.get handles x.handle) ≡ true) there w.opened;
      coded = in_put (λ x. IsCoded (failed_of files (unwrap_or (finmap.get handles x.handle) 0)) x.failures) code
          w.coded;
    }

  -- one sync goes on: its handle and failures stay
  pub changed_syncs : (y z : Sync) → finmap.get syncs m ≡ Some y → z.handle ≡ y.handle → z.failures ≡ y.failures
      → AreSyncs handles files (finmap.insert syncs m z)
  changed_syncs y z at handle failures = put_syncs z (ap (λ h. is_some (finmap.get handles h)) handle ∙ w.opened m y at)
      (subst (λ n. IsCoded (failed_of files (unwrap_or (finmap.get handles z.handle) 0)) n) (sym failures)
      (subst (λ h. IsCoded (failed_of files (unwrap_or (finmap.get handles h) 0)) y.failures) (sym handle)
      (w.coded m y at)))

  in_cut : (P : Sync → Type 0) → ((q : ℕ) (x : Sync) → finmap.get syncs q ≡ Some x → P x) → (q : ℕ) (x : Sync)
      → finmap.get (finmap.remove syncs m) q ≡ Some x → P x
  in_cut P old q x e = go (eqb q m) (sym (get-remove_nat syncs m q) ∙ e)
    where
      go : (b : Bool) → cond b None (finmap.get syncs q) ≡ Some x → P x
      go true h = absurd cc
      go false h = old q x h

  pub removed_syncs : AreSyncs handles files (finmap.remove syncs m)
  removed_syncs = record {
    opened = in_cut (λ x. is_some (finmap.get handles x.handle) ≡ true) w.opened;
    coded = in_cut (λ x. IsCoded (failed_of files (unwrap_or (finmap.get handles x.handle) 0)) x.failures) w.coded;
  }
