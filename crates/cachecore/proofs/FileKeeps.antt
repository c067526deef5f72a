-- What a cache keeps as one file changes, and the requests, by what is known of the new file and the new requests.
use Rattle.std.proofs.Common.{◌≡◌, ℕ, ◌+◌, ◌<◌, ◌≤◌, Bool, true, false, cond, eqb, ltb, length, refl, ap, sym, subst}
use Rattle.std.proofs.Common.{◌∙◌, arith}
use Rattle.std.specs.Prelude.{Some, None, slice_set}
use Rattle.std.specs.Ordering.{nat_cmp}
use Rattle.std.specs.FinMap as finmap
use Rattle.std.specs.FinMap.{FinMap, get-empty}
use Rattle.std.specs.FinSet as set
use Rattle.std.proofs.lemmas.Bool.Decides.{nat_tests}
use Rattle.std.proofs.lemmas.List.{length-set, get_or_past}
use Rattle.std.proofs.lemmas.List.Sums.{sum_by-set}
use Rattle.pc_types.specs.declared.limits.TheConstants.{MAX_FILES, MAX_FILE_SIZE, SERIAL_END}
use Rattle.blockmap.specs.Blocks.{Blocks, Spots}
use Rattle.blockmap.specs.Keys.{IsPage}
use Rattle.machine.specs.State.{State, File, Page, Request, Sync, no_file, file_at, page_at, is_filling, cached_total}
use Rattle.cachecore.specs.Holding.{Holds}
use Rattle.pagestore.specs.Ranges.{AreSized}
use Rattle.machine.specs.Sound.{Sound}
use Rattle.pagestore.specs.Store.{Store, is_awaited}
use Rattle.cachecore.specs.Tables.{IsCore}
use Rattle.machine.proofs.changes.StateLaws.{get_or-set}
use Rattle.cachecore.proofs.RequestLaws.{filling_is}

-- what is to be known of the requests and of the store after a change
pub record FitsCore (s : State) (store : Store) (held : FinMap nat_cmp Bool) : Type 0 where
  pub page : store.page ≡ s.sizes.page
  pub filling : (f p : ℕ) → is_awaited store f p ≡ is_filling s f p
  pub counted : cached_total s + set.len store.filling + store.free ≡ s.sizes.frames
  pub holds : Holds held s.requests
  pub within : (t : ℕ) (r : Request) → finmap.get s.requests t ≡ Some r → IsPage r.file r.page
  pub filed : (t : ℕ) (r : Request) → finmap.get s.requests t ≡ Some r → r.file < length s.files
  pub failed : (f : ℕ) → (file_at s f).failures + finmap.len s.requests ≤ s.next
  pub serials : s.next ≤ SERIAL_END
  pub sound : Sound s

-- a cached page is one of a file
pub page_here : (s : State) (f p : ℕ) (page : Page) → page_at s f p ≡ Some page → f < length s.files
page_here s f p page is = elim (ltb f (length s.files)) as (λ b. ltb f (length s.files) ≡ b → f < length s.files) [
  | true ↦ λ e. grind (arith, nat_tests)
  | false ↦ λ e.
      let past : length s.files ≤ f = grind (arith, nat_tests) in
      let none : page_at s f p ≡ None = ap (λ (x : File). finmap.get x.pages p) (get_or_past s.files f no_file past)
      ∙ get-empty nat_cmp p in
      absurd (let a = sym none ∙ is in cc)
] refl

module _ {s : State} {store : Store} {blocks : Blocks} (c : IsCore s store blocks) where
  -- the cached pages, those that are filling and the free frames are all frames
  pub all_frames : cached_total s + set.len store.filling + store.free ≡ s.sizes.frames
  all_frames = (λ i. cached_total s + filling_is s c.sound store.filling c.filling i + store.free) ∙ c.counted

  -- no file changes
  module _ (spots : Spots) (next : ℕ) (requests : FinMap nat_cmp Request) (syncs : FinMap nat_cmp Sync) where
    abbrev pub same_files : State
    same_files = record s { spots = spots; next = next; requests = requests; syncs = syncs }

    pub requests_core : (now : Store) (held : FinMap nat_cmp Bool) → FitsCore same_files now held
        → IsCore same_files now (record blocks { spots = spots; held = held })
    requests_core now held n =
        assumption (
          n,
          c,
          ap (λ (k : ℕ). cached_total s + k + now.free)
              (sym (filling_is same_files n.sound now.filling n.filling)) ∙ n.counted,
        )

  -- file f becomes e
  module _ (f : ℕ) (e : File) (here : f < length s.files) (spots : Spots) (next : ℕ) (requests : FinMap nat_cmp Request)
      (syncs : FinMap nat_cmp Sync) where
    abbrev pub after : State
    after = record s { files = slice_set s.files f e; spots = spots; next = next; requests = requests; syncs = syncs }

    pub count_files : length after.files ≡ length s.files
    count_files = length-set s.files f e

    -- what the new file has and each had, each has
    pub each_file : (P : File → Type 0) → P e → ((g : ℕ) → P (file_at s g)) → (g : ℕ) → P (file_at after g)
    each_file P new old g = subst P (sym (get_or-set s.files f g e no_file here))
        (elim (eqb g f) as (λ b. P (cond b e (file_at s g))) [ true ↦ new | false ↦ old g ])

    -- the cached pages are as many as before, less those of the old file and more those of the new one
    pub cached_after : cached_total after + finmap.len (file_at s f).pages ≡ cached_total s + finmap.len e.pages
    cached_after = sum_by-set (λ (file : File). finmap.len file.pages) s.files f e no_file here

    pub file_core : (now : Store) (held : FinMap nat_cmp Bool) → e.size ≡ (file_at s f).size
        → AreSized s.sizes.page e.pages → FitsCore after now held
        → IsCore after now (record blocks { spots = spots; held = held })
    file_core now held size sized n =
        let few : length after.files ≤ MAX_FILES = (let a = c.few_files in let b = count_files in omega arith) in
        let known : (h g : ℕ) → finmap.get s.handles h ≡ Some g → g < length after.files =
        λ h g is. (let a = c.known h g is in let b = count_files in omega arith) in
        assumption (
          n,
          c,
          few,
          known,
          each_file (λ x. x.size ≤ MAX_FILE_SIZE) (subst (λ k. k ≤ MAX_FILE_SIZE) (sym size) (c.bounded f)) c.bounded,
          each_file (λ x. AreSized s.sizes.page x.pages) sized c.sized,
          ap (λ (k : ℕ). cached_total after + k + now.free) (sym (filling_is after n.sound now.filling n.filling))
              ∙ n.counted,
        )
