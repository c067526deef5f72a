-- A cache with the files that its device has, and no job in flight.
use Rattle.std.proofs.Common.{◌≡◌, ℕ, ◌<◌, ◌≤◌, [], true, refl, ap, sym, subst, ◌∙◌}
use Rattle.std.specs.Prelude.{List, length, All, Option, Some, None, unwrap_or, IfSome}
use Rattle.std.specs.Ordering.{nat_cmp}
use Rattle.std.specs.FinMap as finmap
use Rattle.std.specs.FinMap.{get-empty, len-empty}
use Rattle.pc_types.specs.Limits.{Sizes}
use Rattle.pc_types.specs.declared.limits.TheConstants.{MIN_PAGE_SIZE}
use Rattle.blockdev.specs.Device.{Told, IsSized}
use Rattle.maps.proofs.Filtered.{filter_map_values-empty}
use Rattle.machine.specs.State.{State, Request}
use Rattle.machine.specs.Catalogs.{Catalog, adopted}
use Rattle.runs.specs.Runs.{Adopts}
use Rattle.world.specs.Stepping.{adopted_world, world_of}
use Rattle.world.specs.Flights.{Jobs, outcome_in, written_by, seen_of, HasJob, IsWorld}
use Rattle.blockdev.specs.Watching.{first_watch}
use Rattle.world.specs.declared.jobs.Flight.{Flight}

first_seen : (g : Sizes) (name : ℕ) (files : Catalog) (dev : Told) → seen_of (adopted g name files) finmap.empty (first_watch dev) ≡ adopted_world g name files dev
first_seen g name files dev = λ i. record {
  core = adopted g name files;
  device = dev;
  unflushed = true;
  outcomes = filter_map_values-empty outcome_in i;
  writing = filter_map_values-empty written_by i;
}

pub first_is : (g : Sizes) (name : ℕ) (files : Catalog) (core : State) (jobs : Jobs) (dev : Told) → core ≡ adopted g name files
    → jobs ≡ finmap.empty → seen_of core jobs (first_watch dev) ≡ adopted_world g name files dev
first_is g name files core jobs dev c j = (λ i. seen_of (c i) (j i) (first_watch dev)) ∙ first_seen g name files dev

-- over a device that tells its blocks it is a first world of the definitions
told_first : (g : Sizes) (name : ℕ) (files : Catalog) (dev : Told) → 0 < g.page → dev.size ≡ g.page → dev.count ≡ g.blocks → IsSized dev
    → IfSome dev.contents (λ _. Adopts files (world_of (adopted_world g name files dev)))
told_first g name files dev some size count = by_contents dev.contents refl
  where
    by_contents : (o : Option (List (List ℕ))) → dev.contents ≡ o
        → IfSome o (λ blocks. (length blocks ≡ dev.count) × All (λ bytes. length bytes ≡ dev.size) blocks)
        → IfSome o (λ _. Adopts files (world_of (adopted_world g name files dev)))
    by_contents None e sized = tt
    by_contents (Some blocks) e sized =
        let same : unwrap_or dev.contents [] ≡ blocks = ap (λ o. unwrap_or o []) e in
        record {
          page_size = some;
          core = refl;
          outcomes = refl;
          writing = refl;
          blocks = ap length same ∙ sized.0 ∙ count;
          block_sizes = subst (All (λ block. length block ≡ g.page)) (sym same) (λ k d l. sized.1 k d l ∙ size);
        }

pub is_first : (g : Sizes) (name : ℕ) (files : Catalog) (core : State) (jobs : Jobs) (dev : Told) → core ≡ adopted g name files
    → jobs ≡ finmap.empty → 0 < g.page → dev.size ≡ g.page → dev.count ≡ g.blocks → IsSized dev
    → IfSome dev.contents (λ _. Adopts files (world_of (seen_of core jobs (first_watch dev))))
is_first g name files core jobs dev c j some size count sized =
    subst (λ w. IfSome dev.contents (λ _. Adopts files (world_of w))) (sym (first_is g name files core jobs dev c j))
    (told_first g name files dev some size count sized)

pub first_kept : (g : Sizes) (name : ℕ) (files : Catalog) (core : State) (jobs : Jobs) (dev : Told) → core ≡ adopted g name files
    → jobs ≡ finmap.empty → MIN_PAGE_SIZE ≤ g.page → dev.size ≡ g.page → dev.count ≡ g.blocks → IsWorld core jobs (first_watch dev)
first_kept g name files core jobs dev c j least size count =
    subst (λ x. IsWorld x jobs (first_watch dev)) (sym c) (subst (λ y. IsWorld (adopted g name files) y (first_watch dev)) (sym j) (record {
      page_size = least;
      each_job = λ t. subst (λ q. HasJob (adopted g name files) t q (finmap.get (finmap.empty {X = Flight} {R = nat_cmp}) t))
          (sym (get-empty nat_cmp t)) (subst (HasJob (adopted g name files) t None) (sym (get-empty nat_cmp t)) tt);
      count = len-empty nat_cmp Flight ∙ sym (len-empty nat_cmp Request);
      block_size = size;
      block_count = count;
    }))
