-- The catalog of a cache's files, page after page.
use Rattle.std.proofs.Common.{Bool, ◌≡◌, ℕ, zero, suc, ◌+◌, ◌-◌, ◌*◌, ◌<◌, ◌≤◌, true, false, List, [], ◌∷◌, ◌++◌, length, get_or, refl, ap, sym, subst, ◌∙◌, arith, map, take, min}
use Rattle.std.specs.Prelude.{Option, Some, None, option_map, ◌==◌, ◌&&◌, nat_lt, if◌then◌else◌, ◌⊎◌}
use Rattle.std.proofs.lemmas.Bool.Decides.{nat_tests}
use Rattle.std.specs.FinMap as finmap
use Rattle.pc_types.specs.Spots.{Spot, place_cmp}
use Rattle.blockmap.specs.Told.{told}
use Rattle.blockmap.specs.declared.spots.Placed.{Placed}
use Rattle.catalog.specs.Cataloged.{Cataloged}
use Rattle.catalog.specs.Extents.{Added, or_else, spot_in}
use Rattle.catalog.specs.declared.extent.Extent.{Extent}
use Rattle.machine.specs.State.{State, File, no_file, file_at, spot_at}
use Rattle.cachecore.specs.Standing.{Tells, TellsBefore, TellsFile, TellsPage, TellsPages, if_valid, kept_spot, trimmed}

-- ---- a page

-- an extent of one page
abbrev pub one : ℕ → ℕ → ℕ → Extent
one p b v = record { first = record { 0 = p }; block = record { 0 = b }; bytes = v }

pages_apart : (P p q : ℕ) → p < q → P ≤ (q - p) * P
pages_apart P p q h = (let k : 1 ≤ q - p = omega (arith, h) in grind (arith, k))

one_page : (P p b v : ℕ) → 0 < v → v ≤ P → (q : ℕ)
    → spot_in P (one p b v) q ≡ (if q == p then Some (record { block = b; valid = v }) else None)
one_page P p b v some fits q =
    let more : p < q → P ≤ (q - p) * P = pages_apart P p q in
    grind (arith, nat_tests, some, fits, more)

-- the page's spot, where so many bytes of it are the file's
module _ (s : State) (f p : ℕ) (placed : Placed) (is : option_map told (spot_at s f p) ≡ Some placed) where
  abbrev left : ℕ
  left = min ((file_at s f).size - p * s.sizes.page) s.sizes.page

  kept_is : kept_spot s f p ≡ if_valid (Some (record { block = placed.block.0; valid = min placed.valid left }))
  kept_is = go (spot_at s f p) refl
    where
      go : (o : Option Spot) → spot_at s f p ≡ o → kept_spot s f p ≡ if_valid (Some (record { block = placed.block.0; valid = min placed.valid left }))
      go None e = absurd (let h = ap (option_map told) e in cc)
      go (Some x) e =
          let h : told x ≡ placed = (let k = sym (ap (option_map told) e) ∙ is in cc) in
          ap (λ o. if_valid (option_map (trimmed s f p) o)) e
          ∙ ap (λ (y : Placed). if_valid (Some (record { block = y.block.0; valid = min y.valid left }))) h

-- it goes into the catalog, or has no valid byte
pub tells_page : (s : State) (f p b v : ℕ) (old new : Cataloged) → old.page ≡ s.sizes.page → 0 < v → v ≤ s.sizes.page
    → kept_spot s f p ≡ Some (record { block = b; valid = v }) → Added old new f (one p b v) → TellsPage s f p old new
tells_page s f p b v old new page some fits kept added = record {
  page = added.page;
  blocks = added.blocks;
  sizes = added.sizes;
  spots = λ g q.
      added.spots g q
      ∙ ap (λ o. or_else (if g == f then o else None) (finmap.get old.files.spots (g, q)))
      (ap (λ P. spot_in P (one p b v) q) page ∙ one_page s.sizes.page p b v some fits q)
      ∙ chosen (g == f) (q == p) (finmap.get old.files.spots (g, q))
      ∙ ap (λ o. if g == f && q == p then o else finmap.get old.files.spots (g, q)) (sym kept);
}
  where
    chosen : (x y : Bool) (o : Option Spot) → or_else (if x then (if y then Some (record { block = b; valid = v }) else None) else None) o
        ≡ (if x && y then Some (record { block = b; valid = v }) else o)
    chosen false y o = refl
    chosen true false o = refl
    chosen true true o = refl

pub page_told : (s : State) (f p : ℕ) (placed : Placed) (old new : Cataloged) (v : ℕ)
    → option_map told (spot_at s f p) ≡ Some placed
    → v ≡ min placed.valid (min ((file_at s f).size - p * s.sizes.page) s.sizes.page) → 0 < v → old.page ≡ s.sizes.page
    → Added old new f (one p placed.block.0 v) → TellsPage s f p old new
page_told s f p placed old new v is bytes some page added =
    let whole : Option Spot = Some (record { block = placed.block.0; valid = v }) in
    let kept : kept_spot s f p ≡ whole =
    kept_is s f p placed is ∙ ap (λ n. if_valid (Some (record { block = placed.block.0; valid = n }))) (sym bytes)
    ∙ (let h = some in grind (arith, nat_tests, h)) in
    tells_page s f p placed.block.0 v old new page some (omega (arith, bytes)) kept added

pub page_untold : (s : State) (f p : ℕ) (placed : Placed) (old : Cataloged) (v : ℕ)
    → option_map told (spot_at s f p) ≡ Some placed
    → v ≡ min placed.valid (min ((file_at s f).size - p * s.sizes.page) s.sizes.page) → v ≡ 0
    → finmap.get old.files.spots (f, p) ≡ None → TellsPage s f p old old
page_untold s f p placed old v is bytes none bare = record {
  page = refl;
  blocks = refl;
  sizes = refl;
  spots = λ g q.
      let here : g ≡ f → q ≡ p → finmap.get old.files.spots (g, q) ≡ None =
      λ a b. ap (λ (k : ℕ × ℕ). finmap.get old.files.spots k) (λ i. (a i, b i)) ∙ bare in
      grind (arith, nat_tests, kept, here);
}
  where
    kept : kept_spot s f p ≡ None
    kept = kept_is s f p placed is
        ∙ ap (λ n. if_valid (Some (record { block = placed.block.0; valid = n }))) (sym bytes ∙ none)

-- ---- a file

module _ (s : State) (f : ℕ) (start : Cataloged) (bare : (q : ℕ) → finmap.get start.files.spots (f, q) ≡ None) where
  none_kept : (q : ℕ) → spot_at s f q ≡ None → kept_spot s f q ≡ None
  none_kept q e = ap (λ o. if_valid (option_map (trimmed s f q) o)) e

  pub more_pages : (n p : ℕ) (c new : Cataloged) → n ≤ p → ((q : ℕ) → n ≤ q → q < p → spot_at s f q ≡ None)
      → TellsPages s f n start c → TellsPage s f p c new → TellsPages s f (p + 1) start new
  more_pages n p c new h skipped so page = record {
    page = page.page ∙ so.page;
    blocks = page.blocks ∙ so.blocks;
    sizes = page.sizes ∙ so.sizes;
    spots = λ g q. at g q;
  }
    where
      at : (g q : ℕ) → finmap.get new.files.spots (g, q)
          ≡ (if g == f && nat_lt q (p + 1) then kept_spot s f q else finmap.get start.files.spots (g, q))
      at g q =
          let now = page.spots g q in
          let was = so.spots g q in
          let here : p ≡ q → kept_spot s f p ≡ kept_spot s f q = λ e. ap (kept_spot s f) e in
          let between : n ≤ q → q < p → kept_spot s f q ≡ None = λ a b. none_kept q (skipped q a b) in
          let first : g ≡ f → finmap.get start.files.spots (g, q) ≡ None =
          λ e. ap (λ x. finmap.get start.files.spots (x, q)) e ∙ bare q in
          grind (arith, nat_tests, now, was, here, between, first, h)

  pub no_pages : (c : Cataloged) → c.page ≡ start.page → c.blocks ≡ start.blocks
      → c.files.sizes ≡ start.files.sizes ++ (file_at s f).size ∷ [] → c.files.spots ≡ start.files.spots
      → TellsPages s f 0 start c
  no_pages c page blocks sizes spots = record {
    page = page;
    blocks = blocks;
    sizes = sizes;
    spots = λ g q. ap (λ m. finmap.get m (g, q)) spots ∙ low (g == f) q (finmap.get start.files.spots (g, q));
  }
    where
      low : (x : Bool) (q : ℕ) (o : Option Spot) → o ≡ (if x && nat_lt q 0 then kept_spot s f q else o)
      low x q o = grind (arith, nat_tests)

  pub all_pages : (n : ℕ) (c : Cataloged) → ((q : ℕ) → n ≤ q → spot_at s f q ≡ None) → TellsPages s f n start c
      → TellsFile s f start c
  all_pages n c past so = record {
    page = so.page;
    blocks = so.blocks;
    sizes = so.sizes;
    spots = λ g q. at g q;
  }
    where
      at : (g q : ℕ) → finmap.get c.files.spots (g, q)
          ≡ (if g == f then kept_spot s f q else finmap.get start.files.spots (g, q))
      at g q =
          let is = so.spots g q in
          let none : n ≤ q → kept_spot s f q ≡ None = λ a. none_kept q (past q a) in
          let first : g ≡ f → finmap.get start.files.spots (g, q) ≡ None =
          λ e. ap (λ x. finmap.get start.files.spots (x, q)) e ∙ bare q in
          grind (arith, nat_tests, is, none, first)

-- ---- all files

sizes_more : (files : List File) (n : ℕ) → n < length files
    → map (λ (x : File). x.size) (take n files) ++ (get_or files n no_file).size ∷ [] ≡ map (λ (x : File). x.size) (take (suc n) files)
sizes_more [] n h = absurd (omega (arith, h))
sizes_more (x ∷ files) zero h = refl
sizes_more (x ∷ files) (suc n) h = ap (λ (l : List ℕ). x.size ∷ l) (sizes_more files n (omega (arith, h)))

sizes_all : (files : List File) (n : ℕ) → length files ≤ n → map (λ (x : File). x.size) (take n files) ≡ map (λ (x : File). x.size) files
sizes_all [] zero h = refl
sizes_all [] (suc n) h = refl
sizes_all (x ∷ files) zero h = absurd (omega (arith, h))
sizes_all (x ∷ files) (suc n) h = ap (λ (l : List ℕ). x.size ∷ l) (sizes_all files n (omega (arith, h)))

module _ (s : State) where
  pub bare_after : (n : ℕ) (c : Cataloged) → TellsBefore s n c → (q : ℕ) → finmap.get c.files.spots (n, q) ≡ None
  bare_after n c so q = let is = so.spots n q in grind (arith, nat_tests, is)

  pub more_files : (n : ℕ) (c new : Cataloged) → n < length s.files → TellsBefore s n c → TellsFile s n c new
      → TellsBefore s (n + 1) new
  more_files n c new h so file = record {
    page = file.page ∙ so.page;
    blocks = file.blocks ∙ so.blocks;
    few = omega (arith, h);
    sizes = file.sizes ∙ ap (λ (l : List ℕ). l ++ (file_at s n).size ∷ []) so.sizes ∙ sizes_more s.files n h
        ∙ ap (λ k. map (λ (x : File). x.size) (take k s.files)) (let e : suc n ≡ n + 1 = omega arith in e);
    spots = λ g q. at g q;
  }
    where
      at : (g q : ℕ) → finmap.get new.files.spots (g, q) ≡ (if nat_lt g (n + 1) then kept_spot s g q else None)
      at g q =
          let now = file.spots g q in
          let was = so.spots g q in
          let here : g ≡ n → kept_spot s n q ≡ kept_spot s g q = λ e. ap (λ x. kept_spot s x q) (sym e) in
          grind (arith, nat_tests, now, was, here)

  pub tells_all : (n : ℕ) (c : Cataloged) → length s.files ≤ n → TellsBefore s n c → Tells s c
  tells_all n c h so = record {
    page = so.page;
    blocks = so.blocks;
    sizes = so.sizes ∙ sizes_all s.files n h;
    spots = λ f p k. (let is = so.spots f p in let few = so.few in grind (arith, nat_tests, is, few, h, k));
    others = λ f p k. (let is = so.spots f p in let few = so.few in grind (arith, nat_tests, is, few, k));
  }
