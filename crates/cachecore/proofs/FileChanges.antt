-- A cache after another entry at one file, and other blocks and requests.
use Rattle.std.proofs.Common.{◌≡◌, ℕ, ◌+◌, ◌<◌, ◌≤◌, true, false, cond, eqb, length, sym, subst, ◌∙◌, arith}
use Rattle.std.specs.Prelude.{Some, slice_set}
use Rattle.std.specs.Ordering.{nat_cmp}
use Rattle.std.specs.FinMap as finmap
use Rattle.std.specs.FinMap.{FinMap}
use Rattle.std.proofs.Math.ListN.{length-set}
use Rattle.std.proofs.lemmas.List.Sums.{sum_by-set}
use Rattle.pc_types.specs.Spots.{Spot, place_cmp}
use Rattle.pc_types.specs.declared.limits.TheConstants.{MAX_FILE_SIZE}
use Rattle.blockmap.specs.Blocks.{Blocks}
use Rattle.blockmap.specs.Keys.{IsPage}
use Rattle.machine.specs.State.{Sync, State, File, Request, no_file, file_at, is_filling, filling_total}
use Rattle.machine.specs.Sound.{Sound}
use Rattle.machine.proofs.changes.StateLaws.{get_or-set}
use Rattle.pagestore.specs.Store.{Store, is_awaited}
use Rattle.pagestore.specs.Ranges.{AreSized}
use Rattle.cachecore.specs.Holding.{Holds}
use Rattle.cachecore.specs.Tables.{IsCore}

module _ {s : State} {store : Store} {blocks : Blocks} (c : IsCore s store blocks) (f : ℕ) (here : f < length s.files)
    (e : File) (spots : FinMap place_cmp Spot) (requests : FinMap nat_cmp Request) (syncs : FinMap nat_cmp Sync) where
  abbrev after : State
  after = record s { files = slice_set s.files f e; spots = spots; requests = requests; syncs = syncs }

  -- what holds of e and of each old file
  each_file : (P : File → Type 0) → P e → ((g : ℕ) → P (file_at s g)) → (g : ℕ) → P (file_at after g)
  each_file P new old g = subst P (sym (get_or-set s.files f g e no_file here))
      (elim (eqb g f) as (λ b. P (cond b e (file_at s g))) [ true ↦ new | false ↦ old g ])

  pub core-changed : (now : Store) (bs : Blocks) → AreSized s.sizes.page e.pages → e.size ≤ MAX_FILE_SIZE
      → now.page ≡ store.page → finmap.len e.pages + filling_total after + now.free ≡ finmap.len (file_at s f).pages
      + filling_total s + store.free
      → ((g q : ℕ) → is_awaited now g q ≡ is_filling after g q) → bs.count ≡ blocks.count → Holds bs.held requests
      → ((t : ℕ) (r : Request) → finmap.get requests t ≡ Some r → IsPage r.file r.page × (r.file < length s.files))
      → e.failures ≡ (file_at s f).failures → finmap.len requests ≡ finmap.len s.requests → Sound after
      → IsCore after now bs
  core-changed now bs sized small page freed filling device holds within failures many sound =
      let same : length (slice_set s.files f e) ≡ length s.files = length-set s.files f e in
      record {
        few_files = omega (arith, same, c.few_files);
        known = λ h g k. let old : g < length s.files = c.known h g k in omega (arith, same, old);
        bounded = each_file (λ x. x.size ≤ MAX_FILE_SIZE) small c.bounded;
        sized = each_file (λ x. AreSized s.sizes.page x.pages) sized c.sized;
        page = page ∙ c.page;
        framed = c.framed;
        counted =
            omega (
              arith,
              sum_by-set (λ (file : File). finmap.len file.pages) s.files f e no_file here,
              c.counted,
              freed,
            );
        filling = filling;
        device = device ∙ c.device;
        holds = holds;
        within = λ t r e. (within t r e).0;
        filed = λ t r e. let old : r.file < length s.files = (within t r e).1 in omega (arith, same, old);
        failed = each_file (λ x. x.failures + finmap.len requests ≤ s.next) (omega (arith, failures, many, c.failed f))
            (λ g. omega (arith, many, c.failed g));
        serials = c.serials;
        sound = sound;
      }
