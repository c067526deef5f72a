-- A write over a range of pages, from the parts that the code does.
use Rattle.std.proofs.Common.{◌≡◌, ℕ, ◌+◌, ◌-◌, ◌/◌, ◌<◌, max, Bool, true, false, cond, ◌&&◌}
use Rattle.std.proofs.Common.{eqb, List, [], length, refl, ap, sym, subst, ◌∙◌}
use Rattle.std.proofs.Common.{arith}
use Rattle.std.specs.Prelude.{Option, Some, None, is_some, unwrap_or, if◌then◌else◌, nat_le, nat_lt}
use Rattle.std.specs.Ordering.{nat_cmp}
use Rattle.std.specs.FinMap as finmap
use Rattle.std.specs.FinMap.{FinMap}
use Rattle.std.proofs.lemmas.Bool.Decides.{nat_tests}
use Rattle.pc_types.specs.Files.{cut}
use Rattle.pc_types.specs.Tags.{no_tags}
use Rattle.pc_types.proofs.FileLaws.{length-cut}
use Rattle.machine.specs.State.{Page, File}
use Rattle.machine.proofs.changes.StateLaws.{touches}
use Rattle.pagestore.specs.Store.{blank}
use Rattle.machine.specs.Changes.{written_page, written_pages}
use Rattle.pagestore.specs.Ranges.{AreSized, IsLaid}
use Rattle.maps.proofs.MapLaws.{same_nat_map}
use Rattle.maps.proofs.Maps.{get-insert_nat}
use Rattle.machine.proofs.changes.ChangeLaws.{get-written_pages}
use Rattle.machine.proofs.changes.WriteLengths.{length-overlay}

-- ---- sizes

-- a page of P bytes, where there is one
abbrev Sized : ℕ → Option Page → Type 0
Sized P o = is_some o ≡ true → length (unwrap_or {T = Page} o (record { bytes = []; tags = no_tags })).bytes ≡ P

sized_cond : (P : ℕ) (b : Bool) (x y : Option Page) → Sized P x → Sized P y → Sized P (cond b x y)
sized_cond P true x y h k = h
sized_cond P false x y h k = k

sized_written : (P o : ℕ) (b : List ℕ) (p : ℕ) (x : Option Page) → Sized P x → Sized P (Some (written_page P o b p x))
sized_written P o b p None h e = length-overlay P o p b (cut [] P) (length-cut [] P)
sized_written P o b p (Some page) h e = length-overlay P o p b page.bytes (h refl)

-- a page of zeros more
pub sized_insert : (P p : ℕ) (m : FinMap nat_cmp Page) → AreSized P m → AreSized P (finmap.insert m p (blank P))
sized_insert P p m s =
    record {
      each = λ q. subst (Sized P) (sym (get-insert_nat m p (blank P) q))
          (sized_cond P (eqb q p) (Some (blank P)) (finmap.get m q) (λ _. length-cut [] P) (s.each q));
    }

sized_laid : (P o : ℕ) (b : List ℕ) (first end : ℕ) (old new : FinMap nat_cmp Page) → IsLaid P o b first end old new
    → AreSized P old → AreSized P new
sized_laid P o b first end old new h s =
    record {
      each =
          λ q. subst (Sized P) (sym (h.each q))
          (sized_cond P (nat_le first q && nat_lt q end) (Some (written_page P o b q (finmap.get old q)))
          (finmap.get old q)
          (sized_written P o b q (finmap.get old q) (s.each q)) (s.each q));
    }

-- ---- the parts of a write

-- what the steps of the code leave of the file's entry: e0 as it was, e1 with the bytes, e2 with the size
pub record WriteParts (P o : ℕ) (b : List ℕ) (e0 e1 e2 : File) : Type 0 where
  pub laid : IsLaid P o b (o / P) ((o + length b - 1) / P + 1) e0.pages e1.pages
  pub laid_rest : e1 ≡ record e0 { pages = e1.pages }
  pub grown : e2 ≡ record e1 { size = max e1.size (o + length b) }

lt_more : (a b : ℕ) → nat_lt a (b + 1) ≡ nat_le a b
lt_more a b = grind (arith, nat_tests)

module _ {P o : ℕ} {b : List ℕ} {e0 e1 e2 : File} (w : WriteParts P o b e0 e1 e2) where
  parts-page : (p : ℕ) → finmap.get e2.pages p
      ≡ (if touches P o (length b) p then Some (written_page P o b p (finmap.get e0.pages p)) else finmap.get e0.pages
      p)
  parts-page p =
      ap (λ (f : File). finmap.get f.pages p) w.grown ∙ w.laid.each p
      ∙ ap (λ t. cond (nat_le (o / P) p && t) (Some (written_page P o b p (finmap.get e0.pages p)))
      (finmap.get e0.pages p)) (lt_more p ((o + length b - 1) / P))

  pub parts-pages : 0 < P → 0 < length b → e2.pages ≡ written_pages P o b e0.pages
  parts-pages positive some = same_nat_map e2.pages (written_pages P o b e0.pages)
      (λ q. parts-page q ∙ sym (get-written_pages P o b e0.pages q))

  pub parts-size : e2.size ≡ max e0.size (o + length b)
  parts-size = ap (λ (f : File). f.size) w.grown
      ∙ ap (λ n. max n (o + length b)) (ap (λ (f : File). f.size) w.laid_rest)

  pub parts-file : 0 < P → 0 < length b
      → e2 ≡ record e0 { size = max e0.size (o + length b); pages = written_pages P o b e0.pages }
  parts-file positive some =
      let failures : e2.failures ≡ e0.failures = ap (λ (f : File). f.failures) w.grown
      ∙ ap (λ (f : File). f.failures) w.laid_rest in
      let last_code : e2.last_code ≡ e0.last_code = ap (λ (f : File). f.last_code) w.grown
      ∙ ap (λ (f : File). f.last_code) w.laid_rest in
      λ i. record {
        size = parts-size i;
        failures = failures i;
        last_code = last_code i;
        pages = parts-pages positive some i;
      }

  pub parts_sized : AreSized P e0.pages → AreSized P e2.pages
  parts_sized s =
      let laid = sized_laid P o b (o / P) ((o + length b - 1) / P + 1) e0.pages e1.pages w.laid s in
      subst (λ (f : File). AreSized P f.pages) (sym w.grown) laid
