-- The counters stay exact.
use Rattle.std.proofs.Common.{◌≡◌, ℕ, ◌+◌, ◌-◌, ◌≤◌, Bool, true, false, refl, ap, sym, arith}
use Rattle.std.specs.Prelude.{Some, None}
use Rattle.std.specs.FinMap as finmap
use Rattle.std.specs.FinMap.{get-empty}
use Rattle.std.specs.Int.{from_bool}
use Rattle.std.specs.Ordering.{nat_cmp}
use Rattle.pc_types.specs.declared.tags.Tag.{Tag}
use Rattle.pc_types.specs.declared.tags.Tag.TheVariants.{Dirty, Writeback, Towrite}
use Rattle.pc_types.specs.Tags.{TagSet, no_tags, has}
use Rattle.maps.specs.Maps.{change_at}
use Rattle.mapping.specs.declared.totals.Totals.{Totals}
use Rattle.mapping.specs.Pages.{Mapped, Pages, with_tag, with_tags, tagged_count, totals_of, untagged}
use Rattle.mapping.specs.Totals.{total, with_total, one, with_page, without_page}
use Rattle.mapping.proofs.MapLemmas.{bit, taken, count_insert, count_remove, count_none, count-le-len}
use Rattle.mapping.proofs.PageLemmas.{count_changed}

-- a Bool as a number of the program
pub byte_one : (b : Bool) → from_bool b ≡ one b
byte_one true = refl
byte_one false = refl

pub one-le : (b : Bool) → one b ≤ 1
one-le true = omega arith
one-le false = omega arith

no_tag : (tag : Tag) → bit (has no_tags tag) ≡ 0
no_tag Dirty = refl
no_tag Writeback = refl
no_tag Towrite = refl

pub none_tagged : (tag : Tag) → tagged_count tag finmap.empty ≡ 0
none_tagged tag = count_none (λ (e : ℕ × Mapped). has e.1.tags tag) finmap.empty (λ q page at. absurd (let none = get-empty {X = Mapped} nat_cmp q in cc))

pub no_totals : (tag : Tag) → total (record { dirty = 0; writeback = 0; towrite = 0 }) tag ≡ tagged_count tag finmap.empty
no_totals Dirty = sym (none_tagged Dirty)
no_totals Writeback = sym (none_tagged Writeback)
no_totals Towrite = sym (none_tagged Towrite)

module _ (totals : Totals) (pages : Pages) (exact : (tag : Tag) → total totals tag ≡ tagged_count tag pages) where
  pub all_totals : totals ≡ totals_of pages
  all_totals = λ i. record { dirty = exact Dirty i; writeback = exact Writeback i; towrite = exact Towrite i }

  pub total-le-len : (tag : Tag) → total totals tag ≤ finmap.len pages
  total-le-len tag = omega (arith, exact tag, count-le-len (λ (e : ℕ × Mapped). has e.1.tags tag) pages)

  -- a page without tags is new
  pub inserted : (index frame : ℕ) → finmap.get pages index ≡ None → (tag : Tag) → total totals tag ≡ tagged_count tag (finmap.insert pages index (untagged frame))
  inserted index frame none tag =
      let p : ℕ × Mapped → Bool = λ e. has e.1.tags tag in
      let nothing : taken p index (finmap.get pages index) ≡ 0 = ap (taken p index) none in
      omega (arith, exact tag, nothing, no_tag tag, count_insert p pages index (untagged frame))

  module _ (index : ℕ) (page : Mapped) (some : finmap.get pages index ≡ Some page) where
    counted : (tag : Tag) → tagged_count tag pages ≡ tagged_count tag (finmap.remove pages index) + bit (has page.tags tag)
    counted tag = count_remove (λ (e : ℕ × Mapped). has e.1.tags tag) pages index page some

    -- a page that has the tag is counted
    pub one_of : (tag : Tag) → one (has page.tags tag) ≤ total totals tag
    one_of tag = omega (arith, exact tag, counted tag)

    pub forgotten : (tag : Tag) → total (without_page totals page.tags) tag ≡ tagged_count tag (finmap.remove pages index)
    forgotten Dirty = omega (arith, exact Dirty, counted Dirty)
    forgotten Writeback = omega (arith, exact Writeback, counted Writeback)
    forgotten Towrite = omega (arith, exact Towrite, counted Towrite)

    retagged : (tags : TagSet) (other : Tag) → tagged_count other (change_at index (with_tags tags) pages) + bit (has page.tags other) ≡ tagged_count other pages + bit (has tags other)
    retagged tags other = count_changed index (with_tags tags) pages (λ (e : ℕ × Mapped). has e.1.tags other) page some

    -- a page that gets other tags
    pub exchanged : (tags : TagSet) (other : Tag) → total (with_page totals page.tags tags) other ≡ tagged_count other (change_at index (with_tags tags) pages)
    exchanged tags Dirty = omega (arith, exact Dirty, counted Dirty, retagged tags Dirty)
    exchanged tags Writeback = omega (arith, exact Writeback, counted Writeback, retagged tags Writeback)
    exchanged tags Towrite = omega (arith, exact Towrite, counted Towrite, retagged tags Towrite)

    changed : (tag : Tag) (is : Bool) (other : Tag) → tagged_count other (change_at index (with_tag tag is) pages) + bit (has page.tags other) ≡ tagged_count other pages + bit (has (with_tag tag is page).tags other)
    changed tag is other = count_changed index (with_tag tag is) pages (λ (e : ℕ × Mapped). has e.1.tags other) page some

    pub raised : (tag : Tag) → has page.tags tag ≡ false → (other : Tag) → total (with_total totals tag (total totals tag + 1)) other ≡ tagged_count other (change_at index (with_tag tag true) pages)
    raised Dirty lacks Dirty = omega (arith, exact Dirty, changed Dirty true Dirty, ap bit lacks)
    raised Dirty lacks Writeback = omega (arith, exact Writeback, changed Dirty true Writeback)
    raised Dirty lacks Towrite = omega (arith, exact Towrite, changed Dirty true Towrite)
    raised Writeback lacks Dirty = omega (arith, exact Dirty, changed Writeback true Dirty)
    raised Writeback lacks Writeback = omega (arith, exact Writeback, changed Writeback true Writeback, ap bit lacks)
    raised Writeback lacks Towrite = omega (arith, exact Towrite, changed Writeback true Towrite)
    raised Towrite lacks Dirty = omega (arith, exact Dirty, changed Towrite true Dirty)
    raised Towrite lacks Writeback = omega (arith, exact Writeback, changed Towrite true Writeback)
    raised Towrite lacks Towrite = omega (arith, exact Towrite, changed Towrite true Towrite, ap bit lacks)

    pub positive : (tag : Tag) → has page.tags tag ≡ true → 1 ≤ total totals tag
    positive tag holds = let is : bit (has page.tags tag) ≡ 1 = ap bit holds in omega (arith, is, exact tag, counted tag)

    pub lowered : (tag : Tag) → has page.tags tag ≡ true → (other : Tag) → total (with_total totals tag (total totals tag - 1)) other ≡ tagged_count other (change_at index (with_tag tag false) pages)
    lowered Dirty holds Dirty = omega (arith, exact Dirty, changed Dirty false Dirty, ap bit holds)
    lowered Dirty holds Writeback = omega (arith, exact Writeback, changed Dirty false Writeback)
    lowered Dirty holds Towrite = omega (arith, exact Towrite, changed Dirty false Towrite)
    lowered Writeback holds Dirty = omega (arith, exact Dirty, changed Writeback false Dirty)
    lowered Writeback holds Writeback = omega (arith, exact Writeback, changed Writeback false Writeback, ap bit holds)
    lowered Writeback holds Towrite = omega (arith, exact Towrite, changed Writeback false Towrite)
    lowered Towrite holds Dirty = omega (arith, exact Dirty, changed Towrite false Dirty)
    lowered Towrite holds Writeback = omega (arith, exact Writeback, changed Towrite false Writeback)
    lowered Towrite holds Towrite = omega (arith, exact Towrite, changed Towrite false Towrite, ap bit holds)
