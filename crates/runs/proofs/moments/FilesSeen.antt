-- A world that a run leads to holds the plain files of that run.
use Rattle.std.proofs.Common.{◌≡◌, ℕ, ◌/◌, ◌%◌, [], length, get_or, refl, ap, sym, ◌∙◌, arith}
use Rattle.std.specs.Prelude.{Option, Some, None}
use Rattle.std.proofs.lemmas.Grind.{same_number_lists}
use Rattle.std.proofs.lemmas.List.{same_lists, take_all, get_or_default}
use Rattle.std.proofs.lemmas.List.FromFn.{length-map-range_with_len, get_or-map-range_with_len}
use Rattle.pc_types.specs.Files.{page_of}
use Rattle.pc_types.proofs.FileLaws.{byte-page}
use Rattle.machine.specs.State.{Page, file_at, page_at, tags_of}
use Rattle.runs.proofs.bytes.PageLaws.{byte_place}
use Rattle.runs.specs.Plain.{Plain, plain_file}
use Rattle.runs.specs.Seen.{cached_or, byte_seen, file_seen, files_seen}
use Rattle.runs.specs.Reached.{FilesAreThose}
use Rattle.runs.specs.Reading.{HoldsFiles}
use Rattle.runs.specs.Runs.{last, plain_at, plain_from}
use Rattle.runs.specs.World.{World, on_device}
use Rattle.runs.proofs.events.Coupled.{Coupled}
use Rattle.runs.proofs.moments.FilesHeld.{holds_files}
use Rattle.runs.proofs.moments.Moments.{first_coupled, run_coupled}

-- ---- the plain files of a world

module _ (w : World) (plain : Plain) (c : Coupled w plain) where
  abbrev P : ℕ
  P = w.core.sizes.page

  abbrev held : HoldsFiles w plain
  held = holds_files w plain c

  -- cached or not, the bytes are those of the plain file's page
  page_is : (f p : ℕ) → cached_or (on_device w f p) (page_at w.core f p) ≡ page_of P (plain_file plain f) p
  page_is f p = by_page (page_at w.core f p) refl
    where
      by_page : (o : Option Page) → page_at w.core f p ≡ o → cached_or (on_device w f p) (page_at w.core f p)
          ≡ page_of P (plain_file plain f) p
      by_page None e = ap (cached_or (on_device w f p)) e
          ∙ held.clean f p (ap (λ (o : Option Page). (tags_of o).dirty) e)
          (ap (λ (o : Option Page). (tags_of o).writeback) e)
      by_page (Some page) e = ap (cached_or (on_device w f p)) e ∙ held.cached f p page e

  byte_is : (f x : ℕ) → byte_seen w f x ≡ get_or (plain_file plain f) x 0
  byte_is f x =
      let place = byte_place P x c.good.positive in
      ap (λ bytes. get_or bytes (x % P) 0) (page_is f (x / P)) ∙ byte-page P (plain_file plain f) (x / P) (x % P) place.0
      ∙ ap (λ y. get_or (plain_file plain f) y 0) place.1

  file_is : (f : ℕ) → file_seen w f ≡ plain_file plain f
  file_is f =
      let len = length-map-range_with_len (byte_seen w f) 0 (file_at w.core f).size in
      same_number_lists _ _ (len ∙ sym (c.sizes f))
      (λ k l. get_or-map-range_with_len (byte_seen w f) 0 (file_at w.core f).size k k 0 (omega (arith, len))
      (omega arith) ∙ byte_is f k)

  pub files_are : files_seen w ≡ plain
  files_are = λ i. record { files = all i; handles = sym c.handles i }
    where
      all : (files_seen w).files ≡ plain.files
      all =
          let len = length-map-range_with_len (file_seen w) 0 (length w.core.files) in
          same_lists _ _ (len ∙ sym c.count)
          (λ k d l. get_or-map-range_with_len (file_seen w) 0 (length w.core.files) k k d (omega (arith, len))
          (omega arith) ∙ file_is k ∙ get_or_default plain.files k [] d (let a = c.count in omega (arith, len)))

pub files_are_those : FilesAreThose
files_are_those w run first r =
    let all : plain_at w run (length run) ≡ plain_from (files_seen w) run =
    ap (plain_from (files_seen w)) (take_all (length run) run (omega arith)) in
    files_are (last w run) _ (run_coupled run w (files_seen w) (first_coupled w first) r) ∙ sym all
