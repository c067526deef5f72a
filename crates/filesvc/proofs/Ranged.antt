-- How many of a file's pages in a range pass a test of their tags.
use Rattle.std.proofs.Common.{◌≡◌, ◌≢◌, ℕ, ◌+◌, ◌≤◌, Bool, true, false, cond, List, [], ◌∷◌, refl, ap, sym, ◌∙◌, arith, map as map_list}
use Rattle.std.specs.Prelude.{◌&&◌, Option, Some, None, option_map, nat_le, count_by}
use Rattle.std.specs.FinMap as map
use Rattle.std.specs.FinMap.{FinMap}
use Rattle.std.specs.Ordering.{nat_cmp}
use Rattle.std.proofs.lemmas.List.Sums.{sum_by-cons}
use Rattle.pc_types.specs.Tags.{no_tags}
use Rattle.maps.specs.Maps.{each_value}
use Rattle.maps.proofs.Count.{count_le, count_lt, count_of}
use Rattle.maps.proofs.MapLaws.{entries-each_value}
use Rattle.maps.proofs.Maps.{get-each_value}
use Rattle.machine.specs.State.{File, Page}
use Rattle.runs.specs.Syncing.{dirty_between}

-- a test that no page without tags passes
abbrev pub IsOfTags : (Page → Bool) → Type 0
IsOfTags a = (x : Page) → a (record x { tags = no_tags }) ≡ false

module _ (first last : ℕ) where
  abbrev within : ℕ → Bool
  within q = nat_le first q && nat_le q last

  abbrev left : ℕ → Page → Page
  left q x = cond (within q) x (record x { tags = no_tags })

  -- these pages, where those outside the range have no tags
  abbrev pub ranged : FinMap nat_cmp Page → FinMap nat_cmp Page
  ranged m = each_value left m

  -- a page of the range that passes
  pub record Passes (a : Page → Bool) (m : FinMap nat_cmp Page) (q : ℕ) : Type 0 where
    pub within : (nat_le first q && nat_le q last) ≡ true
    pub page : Page
    pub is : map.get m q ≡ Some page
    pub passes : a page ≡ true

  found : (a : Page → Bool) → IsOfTags a → (m : FinMap nat_cmp Page) (q : ℕ) (x : Page) → map.get (ranged m) q ≡ Some x
      → a x ≡ true → Passes a m q
  found a tags m q x e t = by (within q) refl (map.get m q) refl (sym (get-each_value left m q) ∙ e)
    where
      by : (b : Bool) → within q ≡ b → (o : Option Page) → map.get m q ≡ o
          → option_map (λ (y : Page). cond b y (record y { tags = no_tags })) o ≡ Some x → Passes a m q
      by b k None is j = absurd cc
      by true k (Some y) is j =
          record { within = k; page = y; is = is; passes = ap a (let same : y ≡ x = cc in same) ∙ t }
      by false k (Some y) is j =
          absurd (let same : record y { tags = no_tags } ≡ x = cc in
          let no : false ≡ true = sym (tags y) ∙ ap a same ∙ t in cc)

  shown : (a : Page → Bool) (m : FinMap nat_cmp Page) (q : ℕ) → Passes a m q
      → (y : Page) × (map.get (ranged m) q ≡ Some y) × (a y ≡ true)
  shown a m q i = (
    i.page,
    get-each_value left m q ∙ ap (option_map (left q)) i.is
        ∙ ap (λ b. Some (cond b i.page (record i.page { tags = no_tags }))) i.within,
    i.passes,
  )

  pub ranged_le : (a b : Page → Bool) → IsOfTags a → (m n : FinMap nat_cmp Page)
      → ((q : ℕ) → Passes a m q → Passes b n q) → count_of a (ranged m) ≤ count_of b (ranged n)
  ranged_le a b tags m n h =
      count_le a b (ranged m) (ranged n) (λ q x e t. shown b n q (h q (found a tags m q x e t)))

  pub ranged_lt : (a b : Page → Bool) → IsOfTags a → (m n : FinMap nat_cmp Page) (p : ℕ) → Passes b n p
      → ((q : ℕ) → Passes a m q → (q ≢ p) × Passes b n q) → count_of a (ranged m) + 1 ≤ count_of b (ranged n)
  ranged_lt a b tags m n p i h =
      let s = shown b n p i in
      count_lt a b (ranged m) (ranged n) p s.0
      (λ q x e t. let z = h q (found a tags m q x e t) in (z.0, shown b n q z.1)) s.1 s.2

  dirty_entries : (es : List (ℕ × Page))
      → count_by (λ (e : ℕ × Page). e.1.tags.dirty) (map_list (λ (e : ℕ × Page). (e.0, left e.0 e.1)) es)
      ≡ count_by (λ (e : ℕ × Page). e.1.tags.dirty && nat_le first e.0 && nat_le e.0 last) es
  dirty_entries [] = refl
  dirty_entries (e ∷ es) =
      let rest = dirty_entries es in
      let a = sum_by-cons (λ (x : ℕ × Page). cond {A = ℕ} x.1.tags.dirty 1 0) (e.0, left e.0 e.1)
      (map_list (λ (e : ℕ × Page). (e.0, left e.0 e.1)) es) in
      let b = sum_by-cons (λ (x : ℕ × Page). cond {A = ℕ} (x.1.tags.dirty && nat_le first x.0 && nat_le x.0 last) 1 0)
      e es in
      let c = one e.1 (nat_le first e.0) (nat_le e.0 last) in
      omega arith
    where
      either : (d l h : Bool) → cond {A = ℕ} (cond (l && h) d false) 1 0 ≡ cond (d && l && h) 1 0
      either true true true = refl
      either true true false = refl
      either true false h = refl
      either false true true = refl
      either false true false = refl
      either false false h = refl

      tag : (x : Page) (b : Bool) → (cond b x (record x { tags = no_tags })).tags.dirty ≡ cond b x.tags.dirty false
      tag x true = refl
      tag x false = refl

      one : (x : Page) (l h : Bool) → cond {A = ℕ} (cond (l && h) x (record x { tags = no_tags })).tags.dirty 1 0
          ≡ cond (x.tags.dirty && l && h) 1 0
      one x l h = ap (λ b. cond {A = ℕ} b 1 0) (tag x (l && h)) ∙ either x.tags.dirty l h

  -- the DIRTY pages of the range
  pub ranged_dirty : (file : File) → count_of (λ (x : Page). x.tags.dirty) (ranged file.pages) ≡ dirty_between file first last
  ranged_dirty file = ap (count_by (λ (e : ℕ × Page). e.1.tags.dirty)) (entries-each_value left file.pages)
      ∙ dirty_entries (map.entries file.pages)

  all_dirty : (es : List (ℕ × Page))
      → count_by (λ (e : ℕ × Page). e.1.tags.dirty && nat_le first e.0 && nat_le e.0 last) es
      ≤ count_by (λ (e : ℕ × Page). e.1.tags.dirty) es
  all_dirty [] = omega arith
  all_dirty (e ∷ es) =
      let rest = all_dirty es in
      let a = sum_by-cons (λ (x : ℕ × Page). cond {A = ℕ} (x.1.tags.dirty && nat_le first x.0 && nat_le x.0 last) 1 0)
      e es in
      let b = sum_by-cons (λ (x : ℕ × Page). cond {A = ℕ} x.1.tags.dirty 1 0) e es in
      let c = one e.1.tags.dirty (nat_le first e.0) (nat_le e.0 last) in
      omega arith
    where
      one : (d l h : Bool) → cond {A = ℕ} (d && l && h) 1 0 ≤ cond d 1 0
      one true true true = omega arith
      one true true false = omega arith
      one true false h = omega arith
      one false l h = omega arith

  -- are no more than those of the file
  pub some_dirty : (file : File) → dirty_between file first last ≤ count_of (λ (x : Page). x.tags.dirty) file.pages
  some_dirty file = all_dirty (map.entries file.pages)
