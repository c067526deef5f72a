-- The ends of requests, way by way: the step of the machine, and what the cache keeps.
use Rattle.std.proofs.Common.{◌≡◌, ℕ, ◌+◌, ◌^◌, ◌<◌, ◌≤◌, Bool, true, false, cond, get_or-set_same, refl}
use Rattle.std.proofs.Common.{List, ap, sym, ◌∙◌, arith}
use Rattle.std.specs.Prelude.{Option, Some, None, Ok, Err, IsTrue, is_some, option_map, slice_set}
use Rattle.std.specs.Ordering.{nat_cmp}
use Rattle.std.specs.FinMap as finmap
use Rattle.std.specs.FinMap.{FinMap}
use Rattle.std.specs.FinSet as set
use Rattle.std.proofs.lemmas.List.{set-set}
use Rattle.pc_types.specs.Kinds.{is_flush}
use Rattle.pc_types.specs.Limits.{is_err_code}
use Rattle.pc_types.specs.Spots.{Spot, place_cmp, shown}
use Rattle.pc_types.proofs.SpotLaws.{length-shown}
use Rattle.pc_types.specs.Tags.{no_tags}
use Rattle.pc_types.specs.declared.kind.Kind.{Kind}
use Rattle.pc_types.specs.declared.refusal.Refusal.TheVariants.{Stranger}
use Rattle.pc_types.specs.declared.kind.Kind.TheVariants.{Fill, Flush}
use Rattle.blockdev.specs.Jobs.{FinishedTask}
use Rattle.blockmap.specs.Blocks.{Blocks, with_valid}
use Rattle.mapping.proofs.MapLemmas.{len_remove_old}
use Rattle.writeback.specs.Flights as flights
use Rattle.writeback.specs.Flights.{Flights}
use Rattle.maps.specs.Maps.{change_at}
use Rattle.machine.specs.declared.event.Event.TheVariants as event
use Rattle.machine.specs.declared.event.Outcome.TheVariants as outcome
use Rattle.machine.specs.declared.event.Reply.{Reply}
use Rattle.machine.specs.declared.event.Reply.TheVariants as reply
use Rattle.machine.specs.PageLists as lists
use Rattle.machine.specs.State.{State, File, Page, Request, no_file, page_at, tags_of, valid_at}
use Rattle.machine.specs.Changes.{ended, after_write, flush_failed}
use Rattle.pagestore.specs.Store.{the_page, Store, is_awaited, stored_at, stored_page, with_pages}
use Rattle.cachecore.specs.Ending.{request_ended}
use Rattle.cachecore.specs.Replies.{end_of, outcome_of}
use Rattle.cachecore.proofs.EndKeeps.{failed_core, filled_core, fills_here, flushed_core, put_is, quiet_core}
use Rattle.cachecore.proofs.EndKeeps.{unfilled_core}
use Rattle.cachecore.proofs.EndSteps.{Ends, dropped_step, end_step, stranger_step}
use Rattle.cachecore.proofs.Parts.{Goes, IsKept, Parts, goes_to, state_by}
use Rattle.cachecore.proofs.RequestLaws.{dropped_fills_none, flush_fills_none}
use Rattle.cachecore.proofs.SyncLaws.{failed_syncs, moved_syncs, pages_failed}

-- a page that has a tag is cached
tagged_cached : (o : Option Page) → (tags_of o).writeback ≡ true → is_some o ≡ true
tagged_cached None e = absurd cc
tagged_cached (Some page) e = refl

-- so many bytes of the block of a page that has one are valid
valid_is : (o : Option Spot) (b n : ℕ) (place : ℕ × ℕ) (spots : finmap.FinMap place_cmp Spot)
    → option_map (λ (x : Spot). x.block) o ≡ Some b
    → with_valid n o place spots ≡ finmap.insert spots place (record { block = b; valid = n })
valid_is None b n place spots e = absurd cc
valid_is (Some x) b n place spots e =
    (let same : x.block ≡ b = cc in ap (λ k. finmap.insert spots place (record { block = k; valid = n })) same)

-- no request ends, and their table is as it was
pub refused : (p : Parts) → IsKept p → (seen : State) → state_by p ≡ seen → (kind : Kind) (f : FinishedTask)
    → None ≡ request_ended p.name p.flights.requests kind f → (t : Flights) → t ≡ p.flights
    → Goes seen (event.End kind (end_of f)) (reply.Refused Stranger) (record p { flights = t })
refused p w seen seen_is kind f none t same =
    goes_to (state_by p) seen seen_is (event.End kind (end_of f)) (reply.Refused Stranger) p _
    (λ i. let y : Parts = record p { flights = same i } in y)
    (record { step = stranger_step (state_by p) kind f none; cache = w })

module _ (p : Parts)
    (w : IsKept p) (f : FinishedTask) (x : Request)
    (seen : State) (seen_is : state_by p ≡ seen) where
  abbrev s : State
  s = state_by p

  -- the request ended, and its block was released
  abbrev left : Parts
  left = record p {
    blocks = record p.blocks { held = finmap.remove p.blocks.held x.block };
    flights = flights.ended p.flights f.serial;
  }

  abbrev Ended : Kind → Reply → Parts → Type 0
  Ended kind r new = Goes s (event.End kind (end_of f)) r new

  -- the same, from the state that callers see
  abbrev pub Seen : Kind → Reply → Parts → Type 0
  Seen kind r new = Goes seen (event.End kind (end_of f)) r new

  -- by what the calls of the parts ensure
  seen_to : (kind : Kind) (r : Reply) (new now : Parts) → now ≡ new → Ended kind r new → Seen kind r now
  seen_to kind r new now is g = goes_to s seen seen_is (event.End kind (end_of f)) r new now is g

  abbrev file : File
  file = stored_at p.store x.file

  -- with these pages of its file
  abbrev repaged : FinMap nat_cmp Page → Store
  repaged pages = with_pages p.store x.file pages p.store.free

  -- ---- fills

  module _ (e : Ends s Fill f x) where
    quiet_fill : x.dropped ≡ true → Ended Fill reply.Dropped left
    quiet_fill dropped = record {
      step = dropped_step s Fill f x e dropped (state_by left) refl;
      cache = record {
        core = quiet_core w.core f.serial x e.found (dropped_fills_none x dropped);
        syncs = w.syncs;
      };
    }

    pub fill_dropped : x.dropped ≡ true → (b : Blocks) (t : Flights) → b ≡ left.blocks → t ≡ left.flights
        → Seen Fill reply.Dropped (record p { blocks = b; flights = t })
    fill_dropped dropped b t blocks requests = seen_to Fill reply.Dropped left _
        (λ i. let y : Parts = record p { blocks = blocks i; flights = requests i } in y) (quiet_fill dropped)

    module _ (live : x.dropped ≡ false) where
      pub awaited_here : is_awaited p.store x.file x.page ≡ true
      awaited_here = fills_here w.core f.serial x e.found live e.kind_is

      abbrev absent_again : Store
      absent_again = record p.store {
        filling = set.remove p.store.filling (x.file, x.page);
        free = p.store.free + 1;
        lists = lists.left x.file x.page p.store.lists;
      }

      unfilled : (code : ℕ) → f.outcome ≡ Err code
          → Ended Fill (reply.Failed code) (record left { store = absent_again })
      unfilled code failed = record {
        step = end_step s Fill f x e (outcome.Fault code) (ap (λ o. outcome_of Fill o f.bytes) failed)
            (reply.Failed code) _ (live, refl)
            (sym (ap (λ k. cond (is_flush k) (flush_failed (ended s f.serial) x code) (ended s f.serial)) e.kind_is));
        cache = record {
          core = unfilled_core w.core f.serial x e.found live e.kind_is;
          syncs = w.syncs;
        };
      }

      pub fill_fails : (code : ℕ) → f.outcome ≡ Err code → (k : Store) (b : Blocks) (t : Flights) → k ≡ absent_again
          → b ≡ left.blocks → t ≡ left.flights
          → Seen Fill (reply.Failed code) (record p { store = k; blocks = b; flights = t })
      fill_fails code failed k b t store blocks requests = seen_to Fill (reply.Failed code) _ _
          (λ i. let y : Parts = record p { store = store i; blocks = blocks i; flights = requests i } in y)
          (unfilled code failed)

      -- what the page's block shows of it
      abbrev pub bytes : List ℕ
      bytes = shown p.sizes.page (valid_at s x.file x.page) f.bytes

      abbrev filled : Store
      filled = record (repaged (finmap.insert file.pages x.page (record { bytes = bytes; tags = no_tags })))
          { filling = set.remove p.store.filling (x.file, x.page) }

      is_filled : f.outcome ≡ Ok tt → Ended Fill reply.Filled (record left { store = filled })
      is_filled went = record {
        step = end_step s Fill f x e (outcome.Read f.bytes) (ap (λ o. outcome_of Fill o f.bytes) went) reply.Filled _
            live refl;
        cache = record {
          core = filled_core w.core f.serial x e.found live e.kind_is bytes
              (length-shown p.sizes.page (valid_at s x.file x.page) f.bytes) filled refl refl
              refl;
          syncs = moved_syncs p.handles p.store.files p.syncs w.syncs filled.files
              (pages_failed (repaged (finmap.insert file.pages x.page (record { bytes = bytes; tags = no_tags })))
              p.store x.file _ _ refl);
        };
      }

      pub fill_done : f.outcome ≡ Ok tt → (k : Store) (b : Blocks) (t : Flights)
          → k ≡ filled → b ≡ left.blocks → t ≡ left.flights
          → Seen Fill reply.Filled (record p { store = k; blocks = b; flights = t })
      fill_done went k b t store blocks requests = seen_to Fill reply.Filled _ _
          (λ i. let y : Parts = record p { store = store i; blocks = blocks i; flights = requests i } in y)
          (is_filled went)

  -- ---- flushes

  module _ (e : Ends s Flush f x) where
    quiet_flush : x.dropped ≡ true → Ended Flush reply.Dropped left
    quiet_flush dropped = record {
      step = dropped_step s Flush f x e dropped (state_by left) refl;
      cache = record {
        core = quiet_core w.core f.serial x e.found (flush_fills_none x e.kind_is);
        syncs = w.syncs;
      };
    }

    pub flush_dropped : x.dropped ≡ true → (b : Blocks) (t : Flights) → b ≡ left.blocks → t ≡ left.flights
        → Seen Flush reply.Dropped (record p { blocks = b; flights = t })
    flush_dropped dropped b t blocks requests = seen_to Flush reply.Dropped left _
        (λ i. let y : Parts = record p { blocks = blocks i; flights = requests i } in y) (quiet_flush dropped)

    module _ (live : x.dropped ≡ false) where
      pub cached_here : is_some (stored_page p.store x.file x.page) ≡ true
      cached_here = tagged_cached (page_at s x.file x.page) (w.core.sound.flush f.serial x e.found live e.kind_is)

      abbrev retagged : Bool → Store
      retagged failed = repaged (change_at x.page (after_write failed) file.pages)

      -- as the pages' call says it
      abbrev put_back : Bool → Store
      put_back failed = repaged (finmap.insert file.pages x.page (after_write failed (the_page file.pages x.page)))

      retagged_is : (failed : Bool) → put_back failed ≡ retagged failed
      retagged_is failed = ap repaged (put_is x.page (after_write failed) file.pages cached_here)

      abbrev block_written : Blocks
      block_written =
          record left.blocks {
            spots =
                finmap.insert p.blocks.spots (x.file, x.page) (record { block = x.block; valid = p.sizes.page });
          }

      -- as the blocks' call says it
      abbrev marked : Blocks → Blocks
      marked b = record b { spots = with_valid p.sizes.page (finmap.get b.spots (x.file, x.page)) (x.file, x.page) b.spots }

      written_here : marked left.blocks ≡ block_written
      written_here =
          let spots = valid_is (finmap.get p.blocks.spots (x.file, x.page)) x.block p.sizes.page (x.file, x.page) p.blocks.spots
          (w.core.sound.mapped f.serial x e.found live) in
          λ i. let b : Blocks = record left.blocks { spots = spots i } in b

      is_written : f.outcome ≡ Ok tt
          → Ended Flush reply.Written (record left { store = retagged false; blocks = block_written })
      is_written went = record {
        step = end_step s Flush f x e outcome.Written (ap (λ o. outcome_of Flush o f.bytes) went) reply.Written _ live
            refl;
        cache = record {
          core = flushed_core w.core f.serial x e.found live e.kind_is (retagged false) refl refl
              refl;
          syncs = moved_syncs p.handles p.store.files p.syncs w.syncs (retagged false).files
              (pages_failed (retagged false) p.store x.file _ _ refl);
        };
      }

      pub flush_done : f.outcome ≡ Ok tt → (k : Store) (b0 b : Blocks) (t : Flights) → k ≡ put_back false
          → b0 ≡ left.blocks → b ≡ marked b0 → t ≡ left.flights
          → Seen Flush reply.Written (record p { store = k; blocks = b; flights = t })
      flush_done went k b0 b t store released blocks requests =
          let kept = store ∙ retagged_is false in
          let block = blocks ∙ ap marked released ∙ written_here in
          seen_to Flush reply.Written _ _
          (λ i. let y : Parts = record p { store = kept i; blocks = block i; flights = requests i } in y)
          (is_written went)

      -- one more failure can be counted
      pub few_failures : (k : Store) → k ≡ put_back true
          → (stored_at k x.file).failures + 1 < 2 ^ 64
      few_failures k is =
          let there : stored_at (retagged true) x.file
          ≡ record file { pages = change_at x.page (after_write true) file.pages } =
          get_or-set_same p.store.files x.file _ no_file (w.core.filed f.serial x e.found) in
          let same : (stored_at k x.file).failures ≡ file.failures = ap (λ (k : Store). (stored_at k x.file).failures)
          (is ∙ retagged_is true) ∙ ap (λ (k : File). k.failures) there in
          let count = w.core.failed x.file in
          let some = len_remove_old s.requests f.serial x e.found in
          let top : p.flights.next ≤ 18446744073709551615 = w.core.serials in
          omega arith

      abbrev noted : ℕ → Store → Store
      noted code k =
          record k {
            files =
                slice_set k.files x.file (record (stored_at k x.file)
                { failures = (stored_at k x.file).failures + 1; last_code = code });
          }

      abbrev failed_file : ℕ → File
      failed_file code =
          record {
            size = file.size;
            failures = file.failures + 1;
            last_code = code;
            pages = change_at x.page (after_write true) file.pages;
          }

      abbrev failed_store : ℕ → Store
      failed_store code = record p.store { files = slice_set p.store.files x.file (failed_file code) }

      -- as the pages' two calls say it
      noted_is : (code : ℕ) → noted code (put_back true) ≡ failed_store code
      noted_is code =
          let e : File = record file { pages = change_at x.page (after_write true) file.pages } in
          let there : stored_at (retagged true) x.file ≡ e =
          get_or-set_same p.store.files x.file e no_file (w.core.filed f.serial x here) in
          let files =
          ap (λ (k : File). slice_set (slice_set p.store.files x.file e) x.file
          (record k { failures = k.failures + 1; last_code = code })) there
          ∙ set-set p.store.files x.file e (failed_file code) in
          ap (noted code) (retagged_is true) ∙ (λ i. let k : Store = record p.store { files = files i } in k)
        where
          here : finmap.get s.requests f.serial ≡ Some x
          here = e.found

      is_failed : (code : ℕ) → f.outcome ≡ Err code → IsTrue (is_err_code code)
          → Ended Flush (reply.Failed code) (record left { store = failed_store code })
      is_failed code failed is_code = record {
        step = end_step s Flush f x e (outcome.Fault code) (ap (λ o. outcome_of Flush o f.bytes) failed)
            (reply.Failed code) _ (live, refl)
            (sym (ap (λ k. cond (is_flush k) (flush_failed (ended s f.serial) x code) (ended s f.serial)) e.kind_is));
        cache = record {
          core = failed_core w.core f.serial x e.found live e.kind_is code (failed_store code) refl
              refl refl;
          syncs = failed_syncs p.handles p.store.files p.syncs w.syncs x.file (failed_file code) is_code;
        };
      }

      pub flush_fails : (code n : ℕ) → n ≡ code → f.outcome ≡ Err code → IsTrue (is_err_code code) → (k0 k : Store)
          (b : Blocks) (t : Flights) → k0 ≡ put_back true → k ≡ noted n k0 → b ≡ left.blocks → t ≡ left.flights
          → Seen Flush (reply.Failed code) (record p { store = k; blocks = b; flights = t })
      flush_fails code n same failed is_code k0 k b t retags notes blocks requests =
          let store = notes ∙ (λ i. noted (same i) (retags i)) ∙ noted_is code in
          seen_to Flush (reply.Failed code) _ _
          (λ i. let y : Parts = record p { store = store i; blocks = blocks i; flights = requests i } in y)
          (is_failed code failed is_code)
