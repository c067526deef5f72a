-- What a sync does next, as the file's mapping finds it and in the words of the store. A page that is filling has no
-- tags, so no
-- sync has it left.
use Rattle.std.proofs.Common.{◌≡◌, ℕ, ◌<◌, Bool, true, false, cond, List, length, refl, ap, sym, subst, ◌∙◌}
use Rattle.std.specs.Prelude.{◌&&◌, Option, Some, None, find, is_some, nat_lt, option_map, slice_index_or, unwrap_or}
use Rattle.std.specs.Option.{option_and_then}
use Rattle.std.specs.FinMap as finmap
use Rattle.std.proofs.lemmas.List.{get_or_read}
use Rattle.pc_types.specs.Tags.{TagSet}
use Rattle.frames.specs.Table.{Table}
use Rattle.frames.specs.Rows.{row_at}
use Rattle.mapping.specs.Pages as mapping
use Rattle.mapping.specs.Pages.{Mapped, Pages}
use Rattle.writeback.specs.Flights.{Flights, first_awaited}
use Rattle.writeback.specs.Picks as picks
use Rattle.writeback.specs.declared.picks.SyncStep.{SyncStep}
use Rattle.writeback.specs.declared.picks.SyncStep.TheVariants.{Held, Start}
use Rattle.pagestore.specs.declared.kept.KeptFile.{KeptFile}
use Rattle.machine.specs.State.{File, Page, Request, Sync, in_range}
use Rattle.pagestore.specs.Store.{Store, IsStore, store_of, none_kept, is_uptodate, page_of, file_of, each_seen}
use Rattle.pagestore.specs.Store.{kept_at, entry_at, stored_at}
use Rattle.pagestore.specs.Syncing.{SyncSays, bound_now, left_of}
use Rattle.machine.specs.Changes as machine
use Rattle.pagestore.proofs.FlushPicks.{passes, same_pick}
use Rattle.maps.proofs.Found.{found}
use Rattle.pagestore.proofs.StoreEntries.{get-each_seen}
use Rattle.pagestore.proofs.StoreFacts.{here_kept}
use Rattle.pagestore.proofs.StoreLaws.{stored-kept}

module _ (t : Table) (up : List Bool) (files : List KeptFile) (dirty : ℕ) (s : IsStore t up files dirty) (f : ℕ) where
  abbrev pages : Pages
  pages = (kept_at files f).mapping.pages

  abbrev file : File
  file = file_of t up (kept_at files f)

  module _ (y : Sync) where
    abbrev lowest : Option (ℕ × Page)
    lowest = find (machine.is_left y) (finmap.entries file.pages)

    left_alike : (q : ℕ) (x : Mapped) → entry_at files f q ≡ Some x
        → passes (machine.is_left y) q (page_of t up x) ≡ picks.is_left y (q, x)
    left_alike q x at =
        elim (is_uptodate up x) as (λ b. is_uptodate up x ≡ b
        → passes (machine.is_left y) q
        (cond b (Some (let page : Page = record { bytes = row_at t.bytes x.frame; tags = x.tags } in page)) None)
        ≡ picks.is_left y (q, x)) [
          | true ↦ λ _. refl
          | false ↦ λ waits. sym (ap (λ (g : TagSet). g.towrite && in_range y q
              && unwrap_or (option_map (λ p. nat_lt p q) y.started) true) (s.bare f q x at waits))
        ] refl

    keys : option_map (λ (d : ℕ × Page). d.0) lowest ≡ option_map (λ (e : ℕ × Mapped). e.0) (picks.sync_pick pages y)
    keys = same_pick (page_of t up) pages (picks.is_left y) (machine.is_left y) left_alike

    seen_tags : (b : Bool) (x : Mapped) (page : Page)
        → cond b (Some (let page : Page = record { bytes = row_at t.bytes x.frame; tags = x.tags } in page)) None
        ≡ Some page → page.tags ≡ x.tags
    seen_tags true x page e =
        (let same : (let page : Page = record { bytes = row_at t.bytes x.frame; tags = x.tags } in page) ≡ page = cc in
        sym (ap (λ (p : Page). p.tags) same))
    seen_tags false x page e = absurd cc

    picked_some : (e : ℕ × Mapped) → picks.sync_pick pages y ≡ Some e
        → (page : Page) × (lowest ≡ Some (e.0, page)) × (page.tags ≡ e.1.tags)
    picked_some e is = go lowest refl (keys ∙ ap (option_map (λ (e : ℕ × Mapped). e.0)) is)
      where
        go : (o : Option (ℕ × Page)) → lowest ≡ o → option_map (λ (d : ℕ × Page). d.0) o ≡ Some e.0
            → (page : Page) × (lowest ≡ Some (e.0, page)) × (page.tags ≡ e.1.tags)
        go None j h = absurd cc
        go (Some d) j h =
            let key : d.0 ≡ e.0 = cc in
            let kept : finmap.get pages e.0 ≡ Some e.1 = (found pages (picks.is_left y) e is).1 in
            let shown : finmap.get (each_seen (page_of t up) pages) d.0 ≡ Some d.1 =
            (found (each_seen (page_of t up) pages) (machine.is_left y) d j).1 in
            let seen : page_of t up e.1 ≡ Some d.1 =
            sym (get-each_seen (page_of t up) pages e.0 ∙ ap (option_and_then (page_of t up)) kept)
            ∙ ap (finmap.get (each_seen (page_of t up) pages)) (sym key) ∙ shown in
            (d.1, j ∙ (λ i. Some (key i, d.1)), seen_tags (is_uptodate up e.1) e.1 d.1 seen)

    picked_none : picks.sync_pick pages y ≡ None → lowest ≡ None
    picked_none is = go lowest refl (keys ∙ ap (option_map (λ (e : ℕ × Mapped). e.0)) is)
      where
        go : (o : Option (ℕ × Page)) → lowest ≡ o → option_map (λ (d : ℕ × Page). d.0) o ≡ None → lowest ≡ None
        go None j h = j
        go (Some d) j h = absurd cc

    -- ---- the step

    module _ (flying : Flights) where
      waiting : (b : ℕ) → b ≡ bound_now flying y → left_of file y ≡ None
          → SyncSays f file flying y (picks.waits f y b flying)
      waiting b is none = go (first_awaited f y b flying.requests) refl
        where
          go : (o : Option (ℕ × Request)) → first_awaited f y b flying.requests ≡ o
              → SyncSays f file flying y (picks.settled b o)
          go None e = (none, ap (λ n. first_awaited f y n flying.requests) (sym is) ∙ e)
          go (Some x) e = (none, is, ap (option_map (λ (e : ℕ × Request). e.1.page)) e)

      starting : y.bound ≡ None → (o : Option (ℕ × Mapped)) → picks.sync_pick pages y ≡ o
          → SyncSays f file flying y (picks.picked f y flying o)
      starting unbound None e =
          waiting flying.next (sym (ap (λ o. unwrap_or o flying.next) unbound))
          (ap (λ (o : Option ℕ). cond (is_some o) None lowest) unbound ∙ picked_none e)
      starting unbound (Some x) e =
          let w = picked_some x e in
          let left : left_of file y ≡ Some (x.0, w.0) = ap (λ (o : Option ℕ). cond (is_some o) None lowest) unbound
          ∙ w.1 in
          elim x.1.tags.writeback as (λ b. x.1.tags.writeback ≡ b
          → SyncSays f file flying y (cond b (Held (record { 0 = x.0 })) (Start (mapping.found x)))) [
            | true ↦ λ d. (w.0, left, ap (λ (g : TagSet). g.writeback) w.2 ∙ d)
            | false ↦ λ d. (w.0, left, ap (λ (g : TagSet). g.writeback) w.2 ∙ d)
          ] refl

      says : SyncSays f file flying y (picks.sync_step f pages flying y)
      says = go y.bound refl
        where
          go : (o : Option ℕ) → y.bound ≡ o → SyncSays f file flying y (picks.bounded f y pages flying o)
          go None e = starting e (picks.sync_pick pages y) refl
          go (Some b) e = waiting b (sym (ap (λ o. unwrap_or o flying.next) e))
              (ap (λ (o : Option ℕ). cond (is_some o) None lowest) e)

  pub sync_says : (store : Store) → store_of t up files ≡ store → f < length store.files → (k : KeptFile)
      → k ≡ slice_index_or files f k → (flying : Flights) (y : Sync) (r : SyncStep)
      → r ≡ picks.sync_step f k.mapping.pages flying y → SyncSays f (stored_at store f) flying y r
  sync_says store is within k value flying y r step =
      let entry : k ≡ kept_at files f = get_or_read files f k (here_kept t up files f store is within) value
      none_kept in
      let found_is : r ≡ picks.sync_step f pages flying y = step
      ∙ ap (λ (k : KeptFile). picks.sync_step f k.mapping.pages flying y) entry in
      let says_kept : SyncSays f file flying y r = subst (SyncSays f file flying y) (sym found_is) (says y flying) in
      subst (λ (e : File). SyncSays f e flying y r)
      (sym (stored-kept t up files f) ∙ ap (λ (u : Store). stored_at u f) is) says_kept
