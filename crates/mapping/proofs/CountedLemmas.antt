-- What a mapping keeps of its array and its counters, through each change.
use Rattle.std.proofs.Common.{◌≡◌, ℕ, ◌+◌, ◌-◌, ◌^◌, ◌<◌, true, false, refl, ap, sym, ◌∙◌, arith}
use Rattle.std.specs.Prelude.{Some, None}
use Rattle.std.specs.FinMap as finmap
use Rattle.std.specs.FinMap.{get-empty, len-empty}
use Rattle.std.specs.Ordering.{nat_cmp}
use Rattle.std.proofs.lemmas.Option.{none-some}
use Rattle.pc_types.specs.declared.tags.Tag.{Tag}
use Rattle.pc_types.specs.Tags.{has}
use Rattle.xarray.specs.declared.entry.Marks.{Marks}
use Rattle.xarray.specs.MarkedArray.{Range, Ranges, changed, unmarked, erased, given, remarked}
use Rattle.mapping.specs.declared.mapping.TheConstants.{MAX_PAGES}
use Rattle.mapping.specs.declared.totals.Totals.{Totals}
use Rattle.mapping.specs.Pages.{Mapped, tags_after, with_tag, with_tags, with_tags_after, has_at, tagged_count, untagged}
use Rattle.mapping.specs.Totals.{total, with_page, with_total, without_page}
use Rattle.mapping.specs.View.{tag_mark, tags_of, pages_of, IsCounted, IsPage}
use Rattle.mapping.proofs.ArrayLemmas.{pages_of-empty, pages_of-insert, pages_of-erased, pages_of-given, pages_of-changed, pages_of-remarked, kept_insert, kept_erased, kept_given, kept_changed, kept_remarked}
use Rattle.mapping.proofs.MapLemmas.{len_insert_new, len_remove_old, remove_absent}
use Rattle.mapping.proofs.PageLemmas.{change_none, change_same, change_some, tagged_page, len_changed, untag_same}
use Rattle.mapping.proofs.TotalLemmas.{no_totals, inserted, forgotten, exchanged, raised, lowered}

pub counted_empty : IsCounted finmap.empty 0 (record { dirty = 0; writeback = 0; towrite = 0 })
counted_empty = record {
  each = λ q r at. absurd (none-some r (sym (get-empty nat_cmp q) ∙ at));
  pages = sym (ap finmap.len pages_of-empty ∙ len-empty nat_cmp Mapped);
  tags = λ tag. no_totals tag ∙ ap (tagged_count tag) (sym pages_of-empty);
}

module _ (m : Ranges) (page_count : ℕ) (totals : Totals) (counted : IsCounted m page_count totals) (index : ℕ) where
  pub counted_insert : (frame : ℕ) → finmap.get (pages_of m) index ≡ None → frame < 2 ^ 32 → index < MAX_PAGES → IsCounted (finmap.insert m index (unmarked 0 frame)) (page_count + 1) totals
  counted_insert frame none fits low =
      let same = pages_of-insert m index (unmarked 0 frame) in
      record {
        each = kept_insert m counted.each index (unmarked 0 frame) (record { single = refl; framed = fits; numbered = low });
        pages = ap (λ n. n + 1) counted.pages ∙ sym (ap finmap.len same ∙ len_insert_new (pages_of m) index (untagged frame) none);
        tags = λ tag. inserted totals (pages_of m) counted.tags index frame none tag ∙ ap (tagged_count tag) (sym same);
      }

  pub counted_erased : (page : Mapped) → finmap.get (pages_of m) index ≡ Some page → IsCounted (erased m index) (page_count - 1) (without_page totals page.tags)
  counted_erased page some =
      let same = pages_of-erased m counted.each index in
      record {
        each = kept_erased m counted.each index;
        pages = ap (λ n. n - 1) (counted.pages ∙ len_remove_old (pages_of m) index page some) ∙ (let less : finmap.len (finmap.remove (pages_of m) index) + 1 - 1 ≡ finmap.len (finmap.remove (pages_of m) index) = omega arith in less) ∙ sym (ap finmap.len same);
        tags = λ tag. forgotten totals (pages_of m) counted.tags index page some tag ∙ ap (tagged_count tag) (sym same);
      }

  -- a page gets a tag that it has not
  pub counted_raised : (tag : Tag) (page : Mapped) → finmap.get (pages_of m) index ≡ Some page → has page.tags tag ≡ false → IsCounted (remarked m index (tag_mark tag) true) page_count (with_total totals tag (total totals tag + 1))
  counted_raised tag page some isnt =
      let same = pages_of-remarked m counted.each index tag true in
      record {
        each = kept_remarked m counted.each index tag true;
        pages = counted.pages ∙ sym (ap finmap.len same ∙ len_changed index (with_tag tag true) (pages_of m));
        tags = λ other. raised totals (pages_of m) counted.tags index page some tag isnt other ∙ ap (tagged_count other) (sym same);
      }

  -- a tag is taken off a page that has it
  pub counted_lowered : (tag : Tag) → has_at (pages_of m) index tag ≡ true → IsCounted (remarked m index (tag_mark tag) false) page_count (with_total totals tag (total totals tag - 1))
  counted_lowered tag is =
      let page = tagged_page index tag (pages_of m) is in
      let same = pages_of-remarked m counted.each index tag false in
      record {
        each = kept_remarked m counted.each index tag false;
        pages = counted.pages ∙ sym (ap finmap.len same ∙ len_changed index (with_tag tag false) (pages_of m));
        tags = λ other. lowered totals (pages_of m) counted.tags index page.0 page.1.0 tag page.1.1 other ∙ ap (tagged_count other) (sym same);
      }

  -- a page gets other tags
  pub counted_given : (marks : Marks) (page : Mapped) → finmap.get (pages_of m) index ≡ Some page → IsCounted (given m index marks) page_count (with_page totals page.tags (tags_of marks))
  counted_given marks page some =
      let same = pages_of-given m counted.each index marks in
      record {
        each = kept_given m counted.each index marks;
        pages = counted.pages ∙ sym (ap finmap.len same ∙ len_changed index (with_tags (tags_of marks)) (pages_of m));
        tags = λ other. exchanged totals (pages_of m) counted.tags index page some (tags_of marks) other ∙ ap (tagged_count other) (sym same);
      }

  -- a page loses tags and gets others
  pub counted_changed : (clear set : Marks) (page : Mapped) → finmap.get (pages_of m) index ≡ Some page → IsCounted (changed m index clear set) page_count (with_page totals page.tags (tags_after (tags_of clear) (tags_of set) page.tags))
  counted_changed clear set page some =
      let change = with_tags_after (tags_of clear) (tags_of set) in
      let tags = tags_after (tags_of clear) (tags_of set) page.tags in
      let same = pages_of-changed m counted.each index clear set in
      record {
        each = kept_changed m counted.each index clear set;
        pages = counted.pages ∙ sym (ap finmap.len same ∙ len_changed index change (pages_of m));
        tags =
            λ other. exchanged totals (pages_of m) counted.tags index page some tags other
            ∙ ap (tagged_count other) (change_some index (with_tags tags) (pages_of m) page some ∙ sym (change_some index change (pages_of m) page some) ∙ sym same);
      }

  -- an array that stands for the same pages
  pub counted_still : (new : Ranges) → ((q : ℕ) (r : Range) → finmap.get new q ≡ Some r → IsPage q r) → pages_of new ≡ pages_of m → IsCounted new page_count totals
  counted_still new each same = record {
    each = each;
    pages = counted.pages ∙ sym (ap finmap.len same);
    tags = λ other. counted.tags other ∙ ap (tagged_count other) (sym same);
  }

  -- nothing is done where no page is
  pub counted_unerased : finmap.get (pages_of m) index ≡ None → IsCounted (erased m index) page_count totals
  counted_unerased none = counted_still (erased m index) (kept_erased m counted.each index) (pages_of-erased m counted.each index ∙ remove_absent (pages_of m) index none)

  pub counted_ungiven : (marks : Marks) → finmap.get (pages_of m) index ≡ None → IsCounted (given m index marks) page_count totals
  counted_ungiven marks none = counted_still (given m index marks) (kept_given m counted.each index marks) (pages_of-given m counted.each index marks ∙ change_none index (with_tags (tags_of marks)) (pages_of m) none)

  pub counted_unchanged : (clear set : Marks) → finmap.get (pages_of m) index ≡ None → IsCounted (changed m index clear set) page_count totals
  counted_unchanged clear set none =
      counted_still (changed m index clear set) (kept_changed m counted.each index clear set) (pages_of-changed m counted.each index clear set ∙ change_none index (with_tags_after (tags_of clear) (tags_of set)) (pages_of m) none)

  pub counted_unraised : (tag : Tag) → finmap.get (pages_of m) index ≡ None → IsCounted (remarked m index (tag_mark tag) true) page_count totals
  counted_unraised tag none = counted_still (remarked m index (tag_mark tag) true) (kept_remarked m counted.each index tag true) (pages_of-remarked m counted.each index tag true ∙ change_none index (with_tag tag true) (pages_of m) none)

  -- a tag is taken off where no page has it
  pub counted_unlowered : (tag : Tag) → has_at (pages_of m) index tag ≡ false → IsCounted (remarked m index (tag_mark tag) false) page_count totals
  counted_unlowered tag isnt = counted_still (remarked m index (tag_mark tag) false) (kept_remarked m counted.each index tag false) (pages_of-remarked m counted.each index tag false ∙ untag_same index tag (pages_of m) isnt)

  -- a page gets a tag that it has
  pub counted_same : (tag : Tag) (page : Mapped) → finmap.get (pages_of m) index ≡ Some page → has page.tags tag ≡ true → IsCounted (remarked m index (tag_mark tag) true) page_count totals
  counted_same tag page some is = counted_still (remarked m index (tag_mark tag) true) (kept_remarked m counted.each index tag true) (pages_of-remarked m counted.each index tag true ∙ change_same index tag true (pages_of m) page some is)
