-- Results, and pages that are cached and written, one after the other.
use Rattle.std.proofs.Common.{◌≡◌, ℕ, ◌+◌, ◌<◌, Bool, true, false, cond, not, eqb, List, [], length, refl, ap, sym, ◌∙◌}
use Rattle.std.proofs.Common.{arith, eqb-true, ◌≤◌}
use Rattle.std.specs.Prelude.{Option, Some, None, find, is_some, unwrap_or, Result, Ok, Err, OnOk, OnErr, is_ok, is_err}
use Rattle.std.specs.Prelude.{slice_range, min, ◌-◌, ◌*◌, if◌then◌else◌, nat_le, nat_lt, ◌&&◌}
use Rattle.std.specs.Ordering.{nat_cmp, eq_by_cmp}
use Rattle.std.specs.Cmp.{nat_cmp_total, unsigned_tied}
use Rattle.std.specs.FinMap as finmap
use Rattle.std.specs.FinMap.{FinMap, get-insert}
use Rattle.std.specs.List.{range_with_len}
use Rattle.machine.specs.State.{Page}
use Rattle.pagestore.specs.Store.{the_page}
use Rattle.pc_types.specs.Tags.{no_tags}
use Rattle.std.proofs.lemmas.Bool.{false≢true}
use Rattle.machine.specs.Changes.{written_page}
use Rattle.pagestore.proofs.Overlay.{overlay_part}
use Rattle.pagestore.proofs.Runs.{none_absent}
use Rattle.std.proofs.lemmas.Bool.Decides.{nat_tests}
use Rattle.pagestore.specs.Ranges.{AreCached, IsLaid, with_part}

-- ---- results

pub on_ok : {A E : Type 0} (r : Result A E) (P : Type 0) → (is_ok r ≡ true → P) → OnOk r P
on_ok (Ok x) P h = h refl
on_ok (Err e) P h = tt

pub when_err : {A E : Type 0} (r : Result A E) (P : Type 0) → true ≡ is_err r → OnErr r P → P
when_err (Ok x) P e h = absurd (false≢true (sym e))
when_err (Err x) P e h = h

pub when_ok : {A E : Type 0} (r : Result A E) (P : Type 0) → false ≡ is_err r → OnOk r P → P
when_ok (Ok x) P e h = h
when_ok (Err x) P e h = absurd (false≢true e)

-- ---- pages that are cached

pub all_cached : (first end : ℕ) (pages : FinMap nat_cmp Page) → first ≤ end
    → None ≡ find (λ q. not (is_some (finmap.get pages q))) (range_with_len first (end - first))
    → AreCached first end pages
all_cached first end pages h e =
    record {
      each =
          λ q l k. cached q (none_absent (λ q. not (is_some (finmap.get pages q))) first (end - first) (sym e) q l
          (omega arith));
    }
  where
    cached : (q : ℕ) → not (is_some (finmap.get pages q)) ≡ false → is_some (finmap.get pages q) ≡ true
    cached q n = go (is_some (finmap.get pages q)) n
      where
        go : (b : Bool) → not b ≡ false → b ≡ true
        go true n = refl
        go false n = absurd (false≢true (sym n))

-- ---- a write, page by page

not_yet : (first p : ℕ) (w x : Option Page) → (if nat_le first p && nat_lt p p then w else x) ≡ x
not_yet first p w x = grind (arith, nat_tests)

more : (first p q : ℕ) (w x : Option Page) → first ≤ p → eqb q p ≡ false
    → (if nat_le first q && nat_lt q p then w else x) ≡ (if nat_le first q && nat_lt q (p + 1) then w else x)
more first p q w x h n = grind (arith, nat_tests)

at_last : (first p : ℕ) (w x : Option Page) → first ≤ p → w ≡ (if nat_le first p && nat_lt p (p + 1) then w else x)
at_last first p w x h = grind (arith, nat_tests)

pub IsLaid-step : (P o : ℕ) (b : List ℕ) (first p : ℕ) (old mid : FinMap nat_cmp Page) (page : Page) → first ≤ p
    → IsLaid P o b first p old mid → page ≡ written_page P o b p (finmap.get mid p)
    → IsLaid P o b first (p + 1) old (finmap.insert mid p page)
IsLaid-step P o b first p old mid page above h e =
    let same : finmap.get mid p ≡ finmap.get old p = h.each p ∙ not_yet first p _ _ in
    let now : Some page ≡ Some (written_page P o b p (finmap.get old p)) =
    ap Some (e ∙ ap (written_page P o b p) same) in
    record {
      each = λ q. get-insert nat_cmp_total mid p page q
          ∙ elim (eqb q p) as (λ t. eqb q p ≡ t → cond (eq_by_cmp nat_cmp q p) (Some page) (finmap.get mid q)
          ≡ (if nat_le first q && nat_lt q (p + 1) then Some (written_page P o b q (finmap.get old q)) else finmap.get
          old q)) [
            | true ↦ λ t. ap (λ c. cond c (Some page) (finmap.get mid q)) (unsigned_tied q p ∙ t)
                ∙ (let is : q ≡ p = eqb-true q p t in rw is (now ∙ at_last first p _ _ above))
            | false ↦ λ t. ap (λ c. cond c (Some page) (finmap.get mid q)) (unsigned_tied q p ∙ t) ∙ h.each q
                ∙ more first p q _ _ above t
          ] refl;
    }

-- the part of b that falls into page p, put in its place
pub part_of_page : (P o p : ℕ) (b : List ℕ) (o? : Option Page) (d : Page) → is_some o? ≡ true
    → length (unwrap_or o? d).bytes ≡ P → o < p * P + P → p * P < o + length b → 0 < length b → 0 < P
    → with_part (unwrap_or o? d) (o - p * P) (slice_range b (p * P - o) (min (length b) (p * P + P - o)))
    ≡ written_page P o b p o?
part_of_page P o p b None d some size above below full positive = absurd (false≢true some)
part_of_page P o p b (Some page) d some size above below full positive =
    λ i. record {
      bytes = overlay_part P o (p * P) b page.bytes size above below full positive i;
      tags = record page.tags { dirty = true };
    }

-- the same with the place and the part as the code has them
pub written_part : (P o p at : ℕ) (b part : List ℕ) (o? : Option Page) (d : Page) → at ≡ o - p * P
    → part ≡ slice_range b (p * P - o) (min (length b) (p * P + P - o)) → is_some o? ≡ true
    → length (unwrap_or o? d).bytes ≡ P → o < p * P + P → p * P < o + length b → 0 < length b → 0 < P
    → with_part (unwrap_or o? d) at part ≡ written_page P o b p o?
written_part P o p at b part o? d at_is part_is some size above below full positive =
    (λ i. with_part (unwrap_or o? d) (at_is i) (part_is i)) ∙ part_of_page P o p b o? d some size above below full positive

-- the page that stands there after the part is put in, with the numbers as the code has them
pub part_by_code : (P o p at from to : ℕ) (b : List ℕ) (first : ℕ) (old mid : FinMap nat_cmp Page) → at ≡ o - p * P
    → from ≡ p * P - o → to ≡ min (length b) (p * P + P - o)
    → first ≤ p → IsLaid P o b first p old mid → is_some (finmap.get old p) ≡ true → length (the_page old p).bytes ≡ P
    → o < p * P + P → p * P < o + length b → 0 < length b → 0 < P
    → IsLaid P o b first (p + 1) old (finmap.insert mid p (with_part (the_page mid p) at (slice_range b from to)))
part_by_code P o p at from to b first old mid e1 e2 e3 above h cached size over under full positive =
    let same : finmap.get mid p ≡ finmap.get old p = h.each p ∙ not_yet first p _ _ in
    let size' : length (the_page mid p).bytes ≡ P =
    ap (λ (x : Option Page). length (unwrap_or {T = Page} x (record { bytes = []; tags = no_tags })).bytes) same
    ∙ size in
    let cached' : is_some (finmap.get mid p) ≡ true = ap is_some same ∙ cached in
    IsLaid-step P o b first p old mid (with_part (the_page mid p) at (slice_range b from to)) above h
    ((λ i. with_part (the_page mid p) (e1 i) (slice_range b (e2 i) (e3 i)))
    ∙ part_of_page P o p b (finmap.get mid p) (record { bytes = []; tags = no_tags }) cached' size' over under full
    positive)
