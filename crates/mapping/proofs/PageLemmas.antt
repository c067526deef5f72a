-- One page of a file's pages changed.
use Rattle.std.proofs.Common.{◌≡◌, ℕ, ◌+◌, Bool, true, false, refl, ap, sym, ◌∙◌, inl, inr}
use Rattle.std.specs.Prelude.{◌||◌, Option, Some, None, option_map, unwrap_or}
use Rattle.std.specs.FinMap as finmap
use Rattle.std.proofs.lemmas.Bool.{cases_eq}
use Rattle.std.proofs.lemmas.Option.{none-some}
use Rattle.pc_types.specs.declared.tags.Tag.{Tag}
use Rattle.pc_types.specs.declared.tags.Tag.TheVariants.{Dirty, Writeback, Towrite}
use Rattle.pc_types.specs.Tags.{TagSet, no_tags, has, put}
use Rattle.maps.specs.Maps.{change_at, put_some}
use Rattle.mapping.specs.Pages.{Mapped, Pages, frame_of, with_tag, with_tags_after, tags_after, count, has_at}
use Rattle.mapping.proofs.MapLemmas.{same_nat_map, get-insert_here, get-insert_there, insert_same, len_insert_old, count_insert, taken, bit}

module _ (index : ℕ) (change : Mapped → Mapped) (pages : Pages) where
  pub change_none : finmap.get pages index ≡ None → change_at index change pages ≡ pages
  change_none none = ap (λ o. put_some index (option_map change o) pages) none

  pub change_some : (page : Mapped) → finmap.get pages index ≡ Some page → change_at index change pages ≡ finmap.insert pages index (change page)
  change_some page some = ap (λ o. put_some index (option_map change o) pages) some

  pub change_here : (q : ℕ) → q ≡ index → finmap.get (change_at index change pages) q ≡ option_map change (finmap.get pages q)
  change_here q same = go (finmap.get pages index) refl
    where
      go : (o : Option Mapped) → finmap.get pages index ≡ o → finmap.get (change_at index change pages) q ≡ option_map change (finmap.get pages q)
      go None e = ap (λ m. finmap.get m q) (change_none e) ∙ ap (finmap.get pages) same ∙ e ∙ sym (ap (option_map change) (ap (finmap.get pages) same ∙ e))
      go (Some page) e = ap (λ m. finmap.get m q) (change_some page e) ∙ get-insert_here pages index (change page) q same ∙ sym (ap (option_map change) (ap (finmap.get pages) same ∙ e))

  pub change_there : (q : ℕ) → (q ≡ index → ⊥) → finmap.get (change_at index change pages) q ≡ finmap.get pages q
  change_there q differs = go (finmap.get pages index) refl
    where
      go : (o : Option Mapped) → finmap.get pages index ≡ o → finmap.get (change_at index change pages) q ≡ finmap.get pages q
      go None e = ap (λ m. finmap.get m q) (change_none e)
      go (Some page) e = ap (λ m. finmap.get m q) (change_some page e) ∙ get-insert_there pages index (change page) q differs

  -- how many pages pass a test
  pub count_changed : (test : ℕ × Mapped → Bool) (page : Mapped) → finmap.get pages index ≡ Some page → count test (change_at index change pages) + bit (test (index, page)) ≡ count test pages + bit (test (index, change page))
  count_changed test page some =
      (λ i. count test (change_some page some i) + taken test index (sym some i)) ∙ count_insert test pages index (change page)

  pub len_changed : finmap.len (change_at index change pages) ≡ finmap.len pages
  len_changed = go (finmap.get pages index) refl
    where
      go : (o : Option Mapped) → finmap.get pages index ≡ o → finmap.len (change_at index change pages) ≡ finmap.len pages
      go None e = ap finmap.len (change_none e)
      go (Some page) e = ap finmap.len (change_some page e) ∙ len_insert_old pages index (change page) page e

-- one change after another
pub change_twice : (index : ℕ) (first second : Mapped → Mapped) (pages : Pages) → change_at index second (change_at index first pages) ≡ change_at index (λ page. second (first page)) pages
change_twice index first second pages = same_nat_map _ _ (λ q. elim (cases_eq q index) [
  | inl same ↦ change_here index second (change_at index first pages) q same ∙ ap (option_map second) (change_here index first pages q same) ∙ both (finmap.get pages q) ∙ sym (change_here index (λ page. second (first page)) pages q same)
  | inr differs ↦ change_there index second (change_at index first pages) q differs ∙ change_there index first pages q differs ∙ sym (change_there index (λ page. second (first page)) pages q differs)
])
  where
    both : (o : Option Mapped) → option_map second (option_map first o) ≡ option_map (λ page. second (first page)) o
    both None = refl
    both (Some page) = refl

-- ---- tags

pub put_same : (tags : TagSet) (tag : Tag) (is : Bool) → has tags tag ≡ is → put tags tag is ≡ tags
put_same tags Dirty is e = λ i. record tags { dirty = sym e i }
put_same tags Writeback is e = λ i. record tags { writeback = sym e i }
put_same tags Towrite is e = λ i. record tags { towrite = sym e i }

-- a page that has the tag, or has it not, as it is put
pub change_same : (index : ℕ) (tag : Tag) (is : Bool) (pages : Pages) (page : Mapped) → finmap.get pages index ≡ Some page → has page.tags tag ≡ is → change_at index (with_tag tag is) pages ≡ pages
change_same index tag is pages page some e =
    change_some index (with_tag tag is) pages page some ∙ ap (λ tags. finmap.insert pages index (record page { tags = tags })) (put_same page.tags tag is e) ∙ insert_same pages index page some

-- a page that has the tag
pub tagged_page : (index : ℕ) (tag : Tag) (pages : Pages) → has_at pages index tag ≡ true → (page : Mapped) × ((finmap.get pages index ≡ Some page) × (has page.tags tag ≡ true))
tagged_page index tag pages is = go (finmap.get pages index) refl is
  where
    go : (o : Option Mapped) → finmap.get pages index ≡ o → unwrap_or (option_map (λ (page : Mapped). has page.tags tag) o) false ≡ true → (page : Mapped) × ((finmap.get pages index ≡ Some page) × (has page.tags tag ≡ true))
    go None e h = absurd (cc)
    go (Some page) e h = (page, (e, h))

pub tag_of : (index : ℕ) (tag : Tag) (pages : Pages) (page : Mapped) → finmap.get pages index ≡ Some page → has_at pages index tag ≡ has page.tags tag
tag_of index tag pages page some = ap (λ o. unwrap_or (option_map (λ (page : Mapped). has page.tags tag) o) false) some

-- where no page has the tag, taking it off changes nothing
pub untag_same : (index : ℕ) (tag : Tag) (pages : Pages) → has_at pages index tag ≡ false → change_at index (with_tag tag false) pages ≡ pages
untag_same index tag pages isnt = go (finmap.get pages index) refl
  where
    go : (o : Option Mapped) → finmap.get pages index ≡ o → change_at index (with_tag tag false) pages ≡ pages
    go None e = change_none index (with_tag tag false) pages e
    go (Some page) e = change_same index tag false pages page e (sym (tag_of index tag pages page e) ∙ isnt)

-- where there is no frame there is no page
pub none_framed : (o : Option Mapped) → None ≡ option_map frame_of o → o ≡ None
none_framed None h = refl
none_framed (Some page) h = absurd (none-some (frame_of page) h)

-- ---- a tag more

or_true : (b : Bool) → (b || true) ≡ true
or_true true = refl
or_true false = refl

or_false : (b : Bool) → (b || false) ≡ b
or_false true = refl
or_false false = refl

tags_put : (tag : Tag) (t : TagSet) → tags_after no_tags (put no_tags tag true) t ≡ put t tag true
tags_put Dirty t = λ i. record { dirty = or_true t.dirty i; writeback = or_false t.writeback i; towrite = or_false t.towrite i }
tags_put Writeback t = λ i. record { dirty = or_false t.dirty i; writeback = or_true t.writeback i; towrite = or_false t.towrite i }
tags_put Towrite t = λ i. record { dirty = or_false t.dirty i; writeback = or_false t.writeback i; towrite = or_true t.towrite i }

-- a page that loses no tag and gets one
pub tagging : (tag : Tag) → with_tags_after no_tags (put no_tags tag true) ≡ with_tag tag true
tagging tag = λ i page. record page { tags = tags_put tag page.tags i }
