-- What is left of the begin of a fill after its first tests: its job, and what the cache keeps.
use Rattle.std.proofs.Common.{◌≡◌, ℕ, ◌-◌, ◌<◌, false, length, refl, ap, sym, ◌∙◌}
use Rattle.std.specs.Prelude.{Some, option_map, unwrap_or}
use Rattle.std.specs.FinMap as finmap
use Rattle.std.specs.FinSet as set
use Rattle.pc_types.specs.Spots.{Spot}
use Rattle.pc_types.specs.declared.kind.Kind.TheVariants.{Fill}
use Rattle.pc_types.specs.declared.limits.TheConstants.{SERIAL_END}
use Rattle.blockdev.specs.Jobs.{Task}
use Rattle.mapping.proofs.MapLemmas.{get-insert_here}
use Rattle.blockmap.specs.Blocks.{Blocks}
use Rattle.blockmap.specs.Keys.{IsPage}
use Rattle.writeback.specs.Flights as flights
use Rattle.writeback.specs.Flights.{Flights}
use Rattle.machine.specs.State.{State, Request, block_at, is_cached, is_filling, spot_at}
use Rattle.machine.specs.Changes.{requested}
use Rattle.machine.specs.PageLists.{entered}
use Rattle.pagestore.specs.Store.{Store}
use Rattle.cachecore.specs.Replies.{IsJobOf}
use Rattle.cachecore.proofs.FillKeeps.{block_is, filling_store, fill_begun_core}
use Rattle.cachecore.proofs.Parts.{IsKept, Parts, state_by}
use Rattle.cachecore.proofs.SyncLaws.{moved_syncs}

-- the job of the request that began
pub fill_job : (old new : State) (f p b : ℕ) → option_map (λ (x : Spot). x.block) (spot_at old f p) ≡ Some b
    → new ≡ requested old Fill f p → (job : Task) → job.serial ≡ old.next → job.cache ≡ new.name → job.kind ≡ Fill
    → job.block ≡ b → IsJobOf new job (λ x. job.bytes)
fill_job old new f p b at is job next name kind block =
    let taken : ℕ = unwrap_or (block_at old f p) 0 in
    let request : Request = record { kind = Fill; file = f; page = p; block = taken; dropped = false } in
    let taken_is : taken ≡ b = ap (λ o. unwrap_or o 0) at in (
      request,
      ap (λ (s : State). finmap.get s.requests job.serial) is
          ∙ get-insert_here old.requests old.next request job.serial next,
      (λ i. let task : Task = record {
        cache = name i;
        serial = job.serial;
        kind = kind i;
        block = (block ∙ sym taken_is) i;
        bytes = job.bytes;
      } in task),
    )

module _ (p : Parts)
    (w : IsKept p) (f q : ℕ) where
  abbrev s : State
  s = state_by p

  module _ (absent : is_cached s f q ≡ false) (idle : is_filling s f q ≡ false) (spot : Spot)
      (at : spot_at s f q ≡ Some spot) where
    abbrev block : ℕ
    block = unwrap_or (block_at s f q) 0

    abbrev request : ℕ → Request
    request b = record { kind = Fill; file = f; page = q; block = b; dropped = false }

    abbrev pub holding : ℕ → Blocks
    holding b = record p.blocks { held = finmap.insert p.blocks.held b false }

    -- the cache after the fill began: its state is `requested s Fill f q`
    abbrev pub reading : Parts
    reading = record p {
      store = filling_store w.core f q absent idle spot at;
      blocks = holding block;
      flights = flights.begun p.flights (request block);
    }

    pub reading_cache : IsPage f q → f < length p.store.files → 0 < spot.valid → 0 < p.store.free
        → p.flights.next < SERIAL_END → IsKept reading
    reading_cache place here written some room = record {
      core = fill_begun_core w.core f q absent idle spot at place here written some room;
      syncs = moved_syncs p.handles p.store.files p.syncs w.syncs reading.store.files (λ g. refl);
    }

    -- as the calls of the parts say it
    pub reading_is : (k : Store) (b : Blocks) (t : Flights)
        → k ≡ record p.store {
          filling = set.insert p.store.filling (f, q);
          free = p.store.free - 1;
          lists = entered f q p.store.lists;
        }
        → b ≡ holding spot.block → t ≡ flights.begun p.flights (request spot.block)
        → (let now : Parts = record p { store = k; blocks = b; flights = t } in now) ≡ reading
    reading_is k b t store blocks fly =
        let same : spot.block ≡ block = sym (block_is w.core f q absent idle spot at) in
        let held = blocks ∙ ap holding same in
        let flight = fly ∙ ap (λ b. flights.begun p.flights (request b)) same in
        λ i. let k : Parts = record p { store = store i; blocks = held i; flights = flight i } in k
