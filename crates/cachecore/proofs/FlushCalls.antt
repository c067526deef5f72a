-- The begin of a flush, way by way: the step of the machine, its job, and what the cache keeps.
use Rattle.std.proofs.Common.{◌≡◌, ℕ, ◌<◌, ◌≤◌, true, false, not, eq-eqb, List, [], ◌++◌, length, take, drop}
use Rattle.std.proofs.Common.{refl, ap, sym, subst, ◌∙◌, arith}
use Rattle.std.specs.Prelude.{Option, Some, None, is_some, option_map, unwrap_or, nat_le}
use Rattle.std.specs.FinMap as finmap
use Rattle.std.proofs.lemmas.Bool.Decides.{nat_tests}
use Rattle.std.proofs.Math.Seq.{take-append_seam}
use Rattle.pc_types.specs.Spots.{Spot}
use Rattle.pc_types.specs.Tags.{no_tags}
use Rattle.pc_types.specs.declared.ids.FileId.{FileId}
use Rattle.pc_types.specs.declared.ids.Serial.{Serial}
use Rattle.pc_types.specs.declared.refusal.Refusal.TheVariants.{NoSuchFile, TooManyInFlight}
use Rattle.pc_types.specs.declared.kind.Kind.TheVariants.{Flush}
use Rattle.blockdev.specs.Buffer.{written_over}
use Rattle.blockdev.specs.Jobs.{Task}
use Rattle.blockmap.specs.Blocks.{Blocks, is_mapped, has_block}
use Rattle.blockmap.specs.Keys.{IsPage}
use Rattle.blockmap.specs.Told.{told}
use Rattle.blockmap.specs.declared.spots.Placed.{Placed}
use Rattle.blockmap.proofs.MapLemmas.{mapped_at}
use Rattle.mapping.proofs.MapLemmas.{get-insert_here}
use Rattle.writeback.specs.Flights as flights
use Rattle.writeback.specs.Flights.{Flights}
use Rattle.maps.specs.Maps.{change_at}
use Rattle.machine.specs.declared.event.Event.TheVariants as event
use Rattle.machine.specs.declared.event.Reply.TheVariants as reply
use Rattle.machine.specs.State.{State, Page, Request, file_at, page_bytes, block_at}
use Rattle.machine.specs.Changes.{started, flush_pick, under_write}
use Rattle.machine.specs.Tests.{is_full, tests}
use Rattle.machine.specs.Step.{Step}
use Rattle.machine.proofs.sound.Lookups.{change_here}
use Rattle.machine.proofs.steps.Choices.{at_false, at_true}
use Rattle.machine.proofs.steps.Passed.{may_flush}
use Rattle.pagestore.specs.Store.{the_page, Store, stored_at, stored_page, with_pages}
use Rattle.cachecore.specs.Starting.{IsStarted, MayStart}
use Rattle.cachecore.proofs.EndKeeps.{put_is}
use Rattle.cachecore.proofs.FlushKeeps.{flush_begun_core, has_block as page_block, held_room as room_left, serials_left}
use Rattle.cachecore.proofs.FlushKeeps.{unheld_here}
use Rattle.cachecore.proofs.Parts.{IsKept, Parts, state_by}
use Rattle.cachecore.proofs.StepLemmas.{by_change, by_test}
use Rattle.cachecore.proofs.SyncLaws.{moved_syncs, pages_failed}

-- ---- the tests

module _ (s : State) (f : FileId) where
  pub no_file_step : length s.files ≤ f.0 → Step s (event.FlushBegin f) (reply.Refused NoSuchFile) s
  no_file_step past = by_test s (event.FlushBegin f) (reply.Refused NoSuchFile)
      (at_true _ _ _ (let e : nat_le (length s.files) f.0 ≡ true = grind (arith, nat_tests) in e))

  module _ (here : f.0 < length s.files) where
    there : nat_le (length s.files) f.0 ≡ false
    there = grind (arith, nat_tests)

    pub nothing_step : None ≡ flush_pick (file_at s f.0) → Step s (event.FlushBegin f) reply.Nothing s
    nothing_step none =
        by_test s (event.FlushBegin f) reply.Nothing
        (at_false _ _ _ there ∙ at_true _ _ _ (ap (λ (o : Option ℕ). not (is_some o)) (sym none)))

    module _ (p : ℕ) (pick : Some p ≡ flush_pick (file_at s f.0)) where
      picked : not (is_some (flush_pick (file_at s f.0))) ≡ false
      picked = ap (λ (o : Option ℕ). not (is_some o)) (sym pick)

      pub full_step : is_full s ≡ true → Step s (event.FlushBegin f) (reply.Refused TooManyInFlight) s
      full_step full = by_test s (event.FlushBegin f) (reply.Refused TooManyInFlight)
          (at_false _ _ _ there ∙ at_false _ _ _ picked ∙ at_true _ _ _ full)

      module _ (room : is_full s ≡ false) where
        no_test : tests s (event.FlushBegin f) ≡ None
        no_test = at_false _ _ _ there ∙ at_false _ _ _ picked ∙ at_false _ _ _ room

        -- the page that is picked
        pub flush_startable : MayStart s f.0 p
        flush_startable =
            let it = may_flush s f no_test in
            let same : it.0 ≡ p =
            (let both : Some it.0 ≡ Some p = sym it.2.pick ∙ sym pick in let a : it.0 ≡ p = cc in a) in
            subst (MayStart s f.0) same (it.1, it.2.is, it.2.dirty, it.2.clean)

        -- its write was begun
        pub begun_step : (job : Task) (new : State) → IsStarted s f.0 p job new
            → Step s (event.FlushBegin f) (reply.Job (record { 0 = job.serial })) new
        begun_step job new h = by_change s (event.FlushBegin f) (reply.Job (record { 0 = job.serial })) new no_test
            h.next
            (h.state ∙ ap (λ (o : Option ℕ). started s f.0 (unwrap_or o 0)) pick)

-- ---- the begin of a write

-- a buffer that as many bytes are written over has these
pub written_whole : (old bytes : List ℕ) → length bytes ≡ length old → written_over old bytes ≡ bytes
written_whole old bytes same = ap (λ n. take n (bytes ++ drop (length bytes) old)) (sym same)
    ∙ take-append_seam bytes (drop (length bytes) old)

-- what is told of a page's block
told_block : (o : Option Spot) (placed : Placed) → Some placed ≡ option_map told o
    → unwrap_or (option_map (λ (x : Spot). x.block) o) 0 ≡ placed.block.0
told_block None placed e = absurd cc
told_block (Some x) placed e = (let a : placed ≡ told x = cc in ap (λ (k : Placed). k.block.0) (sym a))

no_told : (o : Option Spot) → None ≡ option_map told o → is_some (option_map (λ (x : Spot). x.block) o) ≡ true → ⊥
no_told None e h = cc
no_told (Some x) e h = cc

spot_has : (o : Option Spot) (b : ℕ) → option_map (λ (x : Spot). x.block) o ≡ Some b → has_block o b ≡ true
spot_has None b e = absurd cc
spot_has (Some x) b e = eq-eqb x.block b (let a : x.block ≡ b = cc in a)

module _ (p : Parts)
    (w : IsKept p) (f q : ℕ)
    (start : MayStart (state_by p) f q) where
  abbrev s : State
  s = state_by p

  abbrev page : Page
  page = start.0

  abbrev block : ℕ
  block = unwrap_or (block_at s f q) 0

  pub cached_start : is_some (stored_page p.store f q) ≡ true
  cached_start = ap is_some start.1

  block_is : block_at s f q ≡ Some block
  block_is = page_block w.core f q page start.1 start.2 start.3

  pub must_be_told : None ≡ option_map told (finmap.get p.blocks.spots (f, q)) → ⊥
  must_be_told none = no_told (finmap.get p.blocks.spots (f, q)) none (ap is_some block_is)

  abbrev request : ℕ → Request
  request b = record { kind = Flush; file = f; page = q; block = b; dropped = false }

  abbrev pub holding : ℕ → Blocks
  holding b = record p.blocks { held = finmap.insert p.blocks.held b false }

  -- the cache after the write of the page began
  abbrev pub begun : Parts
  begun = record p {
    store = with_pages p.store f (change_at q under_write (stored_at p.store f).pages) p.store.free;
    blocks = holding block;
    flights = flights.begun p.flights (request block);
  }

  module _ (place : IsPage f q) (room : is_full s ≡ false) where
    pub begun_cache : IsKept begun
    begun_cache = record {
      core = flush_begun_core w.core f q page start.1 start.2 start.3 place
          (serials_left w.core room) begun.store refl refl refl;
      syncs = moved_syncs p.handles p.store.files p.syncs w.syncs begun.store.files
          (pages_failed begun.store p.store f _ _ refl);
    }

  module _ (placed : Placed) (placed_is : Some placed ≡ option_map told (finmap.get p.blocks.spots (f, q))) where
    pub same_block : placed.block.0 ≡ block
    same_block = sym (told_block (finmap.get p.blocks.spots (f, q)) placed placed_is)

    pub mapped_block : is_mapped p.blocks.spots placed.block.0 ≡ true
    mapped_block =
        mapped_at p.blocks.spots (f, q) placed.block.0
        (spot_has (finmap.get p.blocks.spots (f, q)) placed.block.0 (block_is ∙ ap Some (sym same_block)))

    pub unheld_block : finmap.get p.blocks.held placed.block.0 ≡ None
    unheld_block = ap (finmap.get p.blocks.held) same_block
        ∙ unheld_here w.core f q page start.1 start.2 start.3

    pub held_room : is_full s ≡ false → finmap.len p.blocks.held < 64
    held_room room = room_left w.core room

    -- as the calls of the parts say it
    pub begun_is : (k : Store) (b : Blocks) (t : Flights)
        → k ≡ with_pages p.store f (finmap.insert (stored_at p.store f).pages q
        (under_write (the_page (stored_at p.store f).pages q))) p.store.free
        → b ≡ holding placed.block.0 → t ≡ flights.begun p.flights (request placed.block.0)
        → (let now : Parts = record p { store = k; blocks = b; flights = t } in now) ≡ begun
    begun_is k b t store blocks fly =
        let put = store ∙ ap (λ m. with_pages p.store f m p.store.free)
        (put_is q under_write (stored_at p.store f).pages cached_start) in
        let held = blocks ∙ ap holding same_block in
        let flight = fly ∙ ap (λ b. flights.begun p.flights (request b)) same_block in
        λ i. let k : Parts = record p { store = put i; blocks = held i; flights = flight i } in k

    the_bytes : (the_page (stored_at p.store f).pages q).bytes ≡ page_bytes (started s f q) f q
    the_bytes =
        ap (λ (o : Option Page). (unwrap_or o (record { bytes = []; tags = no_tags })).bytes) start.1
        ∙ sym (ap (λ (o : Option Page). unwrap_or (option_map (λ (page : Page). page.bytes) o) [])
        (change_here s f q under_write page start.1))

    pub started_call : (t : Serial) → t.0 ≡ p.flights.next → (job : Task)
        → job ≡ record {
          cache = p.name;
          serial = t.0;
          kind = Flush;
          block = placed.block.0;
          bytes = (the_page (stored_at p.store f).pages q).bytes;
        }
        → IsStarted s f q job (state_by begun)
    started_call t next job job_is =
        let serial : job.serial ≡ p.flights.next = ap (λ (k : Task). k.serial) job_is ∙ next in
        let whole : job ≡ record {
          cache = p.name;
          serial = job.serial;
          kind = Flush;
          block = block;
          bytes = page_bytes (started s f q) f q;
        } =
        job_is ∙ (λ i. let k : Task =
        record {
          cache = p.name;
          serial = (next ∙ sym serial) i;
          kind = Flush;
          block = same_block i;
          bytes = the_bytes i;
        } in k) in
        record {
          next = serial;
          state = refl;
          job_is = (request block, get-insert_here s.requests s.next (request block) job.serial serial, whole);
        }
