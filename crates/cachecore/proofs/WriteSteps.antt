-- A write of a file's pages in the store, from the steps that the code does.
use Rattle.std.proofs.Common.{◌≡◌, ℕ, ◌+◌, ◌-◌, ◌/◌, ◌<◌, max, cond, not, eq-eqb, List, length, refl, ap, sym, ◌∙◌, arith}
use Rattle.std.specs.Prelude.{is_some, count_by, slice_set}
use Rattle.std.specs.List.{range_with_len}
use Rattle.std.specs.FinMap as finmap
use Rattle.std.proofs.lemmas.List.{set-set}
use Rattle.machine.specs.State.{File, no_file, touched_count}
use Rattle.pagestore.specs.Store.{Store, stored_at, stored_page, is_awaited, with_pages, with_lists}
use Rattle.pagestore.specs.Ranges.{IsLaid}
use Rattle.machine.specs.PageLists.{PageLists}
use Rattle.machine.proofs.changes.StateLaws.{get_or-set}
use Rattle.pagestore.proofs.RangeLemmas.{stored-with, length-with}
use Rattle.cachecore.proofs.WriteLemmas.{WriteParts}

-- the pages were accessed after they were written
pub laid_noted : (f : ℕ) (old laid noted : Store) (lists : PageLists)
    → laid ≡ with_lists (with_pages old f (stored_at laid f).pages laid.free) laid.lists → noted ≡ with_lists laid lists
    → noted ≡ with_lists (with_pages old f (stored_at noted f).pages noted.free) noted.lists
laid_noted f old laid noted lists laid_is noted_is =
    let now : noted ≡ with_lists (with_pages old f (stored_at laid f).pages laid.free) lists = noted_is
    ∙ ap (λ (s : Store). with_lists s lists) laid_is in
    now ∙ (λ i. with_lists (with_pages old f (stored_at (sym noted_is i) f).pages (ap (λ (s : Store). s.free) (sym noted_is) i))
    (ap (λ (s : Store). s.lists) (sym noted_is) i))

-- the steps: pages are written, and the size is set
pub record WriteSteps (P o : ℕ) (b : List ℕ) (f n : ℕ) (old laid final : Store) : Type 0 where
  pub here : f < length old.files
  pub pages : IsLaid P o b (o / P) ((o + length b - 1) / P + 1) (stored_at old f).pages (stored_at laid f).pages
  -- whatever the page lists are
  pub rest : laid ≡ with_lists (with_pages old f (stored_at laid f).pages laid.free) laid.lists
  pub fewer : laid.free ≡ old.free - count_by (λ p. not (is_some (stored_page old f p)))
      (range_with_len (o / P) ((o + length b - 1) / P + 1 - o / P))
  pub size : n ≡ max (stored_at laid f).size (o + length b)
  pub grown : final ≡ record laid { files = slice_set laid.files f (record (stored_at laid f) { size = n }) }

module _ {P o : ℕ} {b : List ℕ} {f n : ℕ} {old laid final : Store} (w : WriteSteps P o b f n old laid final) where
  here_laid : f < length laid.files
  here_laid =
      omega (
        arith,
        w.here,
        ap (λ (s : Store). length s.files) w.rest,
        length-with old f (stored_at laid f).pages laid.free,
      )

  file_final : stored_at final f ≡ record (stored_at laid f) { size = n }
  file_final =
      let file : File = record (stored_at laid f) { size = n } in
      ap (λ (s : Store). stored_at s f) w.grown ∙ get_or-set laid.files f f file no_file here_laid
      ∙ ap (λ t. cond t file (stored_at laid f)) (eq-eqb f f refl)

  pub parts : WriteParts P o b (stored_at old f) (stored_at laid f) (stored_at final f)
  parts = record {
    laid = w.pages;
    laid_rest = ap (λ (s : Store). stored_at s f) w.rest
        ∙ stored-with old f w.here (stored_at laid f).pages laid.free;
    grown = file_final ∙ ap (λ n. let e : File = record (stored_at laid f) { size = n } in e) w.size;
  }

  pub final_files : final.files ≡ slice_set old.files f (stored_at final f)
  final_files =
      let e : File = record (stored_at laid f) { size = n } in
      let one : laid.files ≡ slice_set old.files f (record (stored_at old f) { pages = (stored_at laid f).pages }) =
      ap (λ (s : Store). s.files) w.rest in
      ap (λ (s : Store). s.files) w.grown
      ∙ ap (λ (fs : List File). slice_set fs f e) one
      ∙ set-set old.files f (record (stored_at old f) { pages = (stored_at laid f).pages }) e
      ∙ ap (slice_set old.files f) (sym file_final)

  pub final_free : final.free ≡ old.free - count_by (λ p. not (is_some (finmap.get (stored_at old f).pages p)))
      (range_with_len (o / P) (touched_count P o (length b)))
  final_free = ap (λ (s : Store). s.free) w.grown ∙ w.fewer

  pub final_page : final.page ≡ old.page
  final_page = ap (λ (s : Store). s.page) w.grown ∙ ap (λ (s : Store). s.page) w.rest

  pub final_idle : (g q : ℕ) → is_awaited final g q ≡ is_awaited old g q
  final_idle g q = ap (λ (s : Store). is_awaited s g q) w.grown ∙ ap (λ (s : Store). is_awaited s g q) w.rest
