-- Where a run ends clean, another begins with its files.
use Rattle.std.proofs.Common.{◌≡◌, ℕ, zero, suc, ◌+◌, ◌-◌, ◌*◌, ◌/◌, ◌%◌, ◌<◌, ◌≤◌, min, List, [], ◌∷◌, length, get_or}
use Rattle.std.proofs.Common.{refl, ap, sym, subst, ◌∙◌, arith, map, Option, Some, None, is_some, option_map, take_all}
use Rattle.std.specs.FinMap as finmap
use Rattle.std.proofs.lemmas.Bool.Decides.{nat_tests}
use Rattle.std.proofs.lemmas.Grind.{same_number_lists}
use Rattle.std.proofs.lemmas.List.{same_lists, get_or_default, get_or_past}
use Rattle.std.proofs.lemmas.List.FromFn.{get_or-map-range_with_len}
use Rattle.pc_types.specs.Files.{page_of}
use Rattle.pc_types.specs.Spots.{Spot, shown}
use Rattle.pc_types.proofs.FileLaws.{byte-page}
use Rattle.pc_types.proofs.SpotLaws.{byte-shown, length-shown}
use Rattle.maps.proofs.MapLaws.{get-each_place}
use Rattle.machine.specs.Catalogs.{Catalog, IsCatalog, IsAdoptable, size_in, catalog_of}
use Rattle.machine.specs.State.{State, File, no_file, file_at, spot_at}
use Rattle.machine.proofs.changes.Adopted.{adopted_file, none_cached, same_count}
use Rattle.machine.proofs.steps.Choices.{mapped_some}
use Rattle.runs.specs.Plain.{Plain, plain_file}
use Rattle.runs.specs.Restart.{IsClean, RunsMayRestart, restarted}
use Rattle.runs.specs.Runs.{Adopts, last, plain_at}
use Rattle.runs.specs.Seen.{cached_or, file_seen, files_seen}
use Rattle.runs.specs.World.{World, block_bytes, on_device}
use Rattle.runs.proofs.views.View.{held_by, settled}
use Rattle.runs.proofs.bytes.CutLaws.{begins_below}
use Rattle.runs.proofs.bytes.PageLaws.{byte_place, length-page}
use Rattle.runs.proofs.events.Coupled.{Coupled}
use Rattle.runs.proofs.moments.Limits.{Limits, run_limits}
use Rattle.runs.proofs.moments.Moments.{coupled_at}
use Rattle.runs.proofs.moments.SeenBytes.{count-seen, length-seen, within-seen}

each_size : (files : List File) (f : ℕ) → get_or (map (λ (x : File). x.size) files) f 0 ≡ (get_or files f no_file).size
each_size [] f = refl
each_size (x ∷ files) zero = refl
each_size (x ∷ files) (suc f) = each_size files f

size_count : (files : List File) → length (map (λ (x : File). x.size) files) ≡ length files
size_count [] = refl
size_count (x ∷ files) = ap suc (size_count files)

module _ (w : World) (plain : Plain) (c : Coupled w plain) (limits : Limits w.core) (clean : IsClean w.core)
    (frames dirty_limit name : ℕ) where
  abbrev s : State
  s = w.core

  abbrev P : ℕ
  P = s.sizes.page

  abbrev catalog : Catalog
  catalog = catalog_of s

  abbrev new : World
  new = restarted w frames dirty_limit name

  abbrev size : ℕ → ℕ
  size f = (file_at s f).size

  same_size : (f : ℕ) → size_in catalog f ≡ size f
  same_size f = each_size s.files f

  -- ---- its catalog

  abbrev trimmed : ℕ → ℕ → Spot → Spot
  trimmed f p x = record x { valid = min x.valid (size f - p * P) }

  spot_is : (f p : ℕ) → finmap.get catalog.spots (f, p) ≡ option_map (trimmed f p) (spot_at s f p)
  spot_is f p = get-each_place (λ k x. trimmed k.0 k.1 x) s.spots (f, p)

  was : (f p : ℕ) (y : Spot) → finmap.get catalog.spots (f, p) ≡ Some y
      → (x : Spot) × (spot_at s f p ≡ Some x) × (trimmed f p x ≡ y)
  was f p y e = mapped_some (trimmed f p) (spot_at s f p) y (sym (spot_is f p) ∙ e)

  some_valid : (f p : ℕ) (x : Spot) → spot_at s f p ≡ Some x → 0 < x.valid
  some_valid f p x is = let k = clean f p in
      let a = sym (ap settled is) ∙ (c.good.pages f p).clean_block k.0 k.1 in grind (arith, nat_tests)

  adoptable : (f p : ℕ) (y : Spot) → finmap.get catalog.spots (f, p) ≡ Some y
      → IsAdoptable new.core.sizes (size_in catalog f) p y
  adoptable f p y e =
      let x = was f p y e in
      let block = ap (λ (z : Spot). z.block) x.2 in
      let valid = ap (λ (z : Spot). z.valid) x.2 in
      let some = some_valid f p x.0 x.1 in
      let below = begins_below P (size f) p c.good.positive (c.good.spot_in f p (ap is_some x.1)) in
      let full = same_size f in
      record {
        on_device = let a = c.good.spot_block f p x.0 x.1 in let b = c.blocks in omega arith;
        some = omega arith;
        in_page = let a = c.good.spot_valid f p x.0 x.1 in omega arith;
        in_file = omega arith;
      }

  pub is_catalog : IsCatalog new.core.sizes catalog
  is_catalog = record {
    count = let a = size_count s.files in let b = limits.files in omega arith;
    file_sizes = λ f. let a = same_size f in let b = limits.sizes f in omega arith;
    spots = adoptable;
    apart = λ f p g q y z e k b. let x = was f p y e in let v = was g q z k in
        c.good.spots_apart f p g q x.0 v.0 x.1 v.1 (ap (λ (i : Spot). i.block) x.2 ∙ b ∙ sym (ap (λ (i : Spot). i.block) v.2));
  }

  pub adopts : Adopts catalog new
  adopts = record {
    page_size = c.good.positive;
    core = refl;
    outcomes = refl;
    writing = refl;
    blocks = c.blocks;
    block_sizes = λ k d h. ap length (get_or_default w.device k d [] h) ∙ c.good.block_sizes k h;
  }

  -- ---- its files

  -- a block's bytes past the file's end are zeros where they are valid
  of_block : (f p : ℕ) (x : Spot) → spot_at s f p ≡ Some x
      → shown P (trimmed f p x).valid (block_bytes w x.block) ≡ page_of P (plain_file plain f) p
  of_block f p x is =
      let bytes = block_bytes w x.block in
      let file = plain_file plain f in
      let k = clean f p in
      let holds : shown P x.valid bytes ≡ page_of P file p =
      sym (ap (held_by (block_bytes w) P) is) ∙ (c.good.pages f p).clean k.0 k.1 in
      same_number_lists _ _ (length-shown P (trimmed f p x).valid bytes ∙ sym (length-page P file p)) (λ j h.
      let small : j < P = omega (arith, length-shown P (trimmed f p x).valid bytes) in
      let here = byte-shown P (trimmed f p x).valid bytes j in
      let there = byte-shown P x.valid bytes j in
      let same = ap (λ l. get_or l j 0) holds in
      let byte = byte-page P file p j small in
      let past : length file ≤ p * P + j → get_or file (p * P + j) 0 ≡ 0 = get_or_past file (p * P + j) 0 in
      let full = c.sizes f in
      grind (arith, nat_tests))

  page_is : (f p : ℕ) → on_device new f p ≡ page_of P (plain_file plain f) p
  page_is f p = ap (held_by (block_bytes w) P) (spot_is f p) ∙ go (spot_at s f p) refl
    where
      go : (o : Option Spot) → spot_at s f p ≡ o
          → held_by (block_bytes w) P (option_map (trimmed f p) o) ≡ page_of P (plain_file plain f) p
      go None is = let k = clean f p in
          sym (ap (held_by (block_bytes w) P) is) ∙ (c.good.pages f p).clean k.0 k.1
      go (Some x) is = of_block f p x is

  file_size : (f : ℕ) → (file_at new.core f).size ≡ size f
  file_size f = ap (λ (x : File). x.size) (adopted_file new.core.sizes name catalog f) ∙ same_size f

  byte_is : (f x : ℕ) → x < size f → get_or (file_seen new f) x 0 ≡ get_or (plain_file plain f) x 0
  byte_is f x h =
      let place = byte_place P x c.good.positive in
      within-seen new f x (let a = file_size f in omega arith)
      ∙ ap (λ o. get_or (cached_or (on_device new f (x / P)) o) (x % P) 0)
      (none_cached new.core.sizes name catalog f (x / P))
      ∙ ap (λ l. get_or l (x % P) 0) (page_is f (x / P))
      ∙ byte-page P (plain_file plain f) (x / P) (x % P) place.0
      ∙ ap (λ y. get_or (plain_file plain f) y 0) place.1

  file_is : (f : ℕ) → file_seen new f ≡ plain_file plain f
  file_is f =
      let len = length-seen new f ∙ file_size f in
      same_number_lists _ _ (len ∙ sym (c.sizes f)) (λ k h. byte_is f k (omega arith))

  pub files_are : (files_seen new).files ≡ plain.files
  files_are =
      let len : length (files_seen new).files ≡ length s.files = count-seen new ∙ same_count catalog.sizes
      ∙ size_count s.files in
      same_lists _ _ (len ∙ sym c.count)
      (λ k d h. get_or-map-range_with_len (file_seen new) 0 (length new.core.files) k k d
      (omega (arith, count-seen new)) (omega arith) ∙ file_is k
      ∙ get_or_default plain.files k [] d (let a = c.count in omega arith))

pub runs_may_restart : RunsMayRestart
runs_may_restart w run first r frames dirty_limit name clean =
    let n = length run in
    let all = ap (last w) (take_all n run (omega arith)) in
    let c : Coupled (last w run) (plain_at w run n) = subst (λ v. Coupled v (plain_at w run n)) all (coupled_at w run first r n) in
    let limits = run_limits run w first r in (
      is_catalog (last w run) (plain_at w run n) c limits clean frames dirty_limit name,
      adopts (last w run) (plain_at w run n) c limits clean frames dirty_limit name,
      files_are (last w run) (plain_at w run n) c limits clean frames dirty_limit name,
    )
