-- What is looked up in a state after one of its parts changes. A file past the last doesn't change, and has no pages.
use Rattle.std.proofs.Common.{◌≡◌, ℕ, zero, suc, ◌≤◌, Bool, true, false, cond, not, eqb, eqb-true, eq-eqb, ltb, List}
use Rattle.std.proofs.Common.{[], ◌∷◌, ◌++◌, length, get_or, refl, ap, sym, ◌∙◌, arith, inl, inr, ◌&&◌, ◌||◌, ◌⊎◌}
use Rattle.std.proofs.Common.{Option, Some, None, is_some, option_map, nat_le, nat_lt, nat_cmp}
use Rattle.std.specs.Prelude.{unwrap_or}
use Rattle.std.specs.FinMap as finmap
use Rattle.std.specs.FinMap.{FinMap, get-empty}
use Rattle.std.proofs.lemmas.Bool.{false≢true}
use Rattle.std.proofs.lemmas.Bool.Decides.{nat_tests}
use Rattle.std.proofs.lemmas.List.{get_or_past, set_past}
use Rattle.pc_types.specs.Spots.{Spot, place_cmp}
use Rattle.machine.specs.State.{State, File, Page, file_at, page_at, spot_at, no_file, page_count, block_at}
use Rattle.machine.specs.Changes.{put_file, put_page, put_pages, change_page, shrunk}
use Rattle.maps.specs.Maps.{change_at}
use Rattle.maps.proofs.Maps.{get-remove_nat, get_inserted}
use Rattle.maps.proofs.MapLaws.{get-insert_place, get-retain_place, get-change_at}
use Rattle.machine.proofs.changes.StateLaws.{page_at-put}

-- ---- pages

-- a page of the file that changes, or one that stays
pub put_file_tells : (s : State) (f : ℕ) (file : File) (g q : ℕ)
    → ((g ≡ f) × (page_at (put_file s f file) g q ≡ finmap.get file.pages q))
    ⊎ ((page_at (put_file s f file) g q ≡ page_at s g q) × (g ≡ f → page_at s g q ≡ None))
put_file_tells s f file g q =
    elim (ltb f (length s.files)) as (λ b. ltb f (length s.files) ≡ b
    → ((g ≡ f) × (page_at (put_file s f file) g q ≡ finmap.get file.pages q))
    ⊎ ((page_at (put_file s f file) g q ≡ page_at s g q) × (g ≡ f → page_at s g q ≡ None))) [
      | true ↦ λ t. elim (eqb g f) as (λ b. eqb g f ≡ b
          → page_at (put_file s f file) g q ≡ cond b (finmap.get file.pages q) (page_at s g q)
          → ((g ≡ f) × (page_at (put_file s f file) g q ≡ finmap.get file.pages q))
          ⊎ ((page_at (put_file s f file) g q ≡ page_at s g q) × (g ≡ f → page_at s g q ≡ None))) [
            | true ↦ λ e k. inl (eqb-true g f e, k)
            | false ↦ λ e k. inr (k, λ same. absurd (false≢true (sym e ∙ eq-eqb g f same)))
          ] refl (page_at-put s f file (grind (arith, nat_tests)) g q)
      | false ↦ λ t.
          let past : length s.files ≤ f = grind (arith, nat_tests) in
          inr (
            ap (λ fs. finmap.get (get_or fs g no_file).pages q) (set_past s.files f file past),
            λ same. ap (λ k. page_at s k q) same
                ∙ ap (λ (x : File). finmap.get x.pages q) (get_or_past s.files f no_file past) ∙ get-empty nat_cmp q,
          )
    ] refl

-- a file changes, but not its pages
pub page_at-same : (s : State) (f : ℕ) (file : File) → file.pages ≡ (file_at s f).pages → (g q : ℕ)
    → page_at (put_file s f file) g q ≡ page_at s g q
page_at-same s f file e g q = elim (put_file_tells s f file g q) [
  | inl h ↦ h.1 ∙ ap (λ m. finmap.get m q) e ∙ ap (λ k. page_at s k q) (sym h.0)
  | inr h ↦ h.0
]

pub put_page_tells : (s : State) (f p : ℕ) (page : Page) (g q : ℕ)
    → ((g ≡ f) × (q ≡ p) × (page_at (put_page s f p page) g q ≡ Some page))
    ⊎ ((page_at (put_page s f p page) g q ≡ page_at s g q) × (g ≡ f → q ≡ p → page_at s g q ≡ None))
put_page_tells s f p page g q =
    elim (put_file_tells s f (record (file_at s f) { pages = finmap.insert (file_at s f).pages p page }) g q) [
      | inl h ↦ elim (get_inserted (file_at s f).pages p page q) [
        | inl k ↦ inl (h.0, k.0, h.1 ∙ k.1)
        | inr k ↦ inr (h.1 ∙ k.1 ∙ ap (λ x. page_at s x q) (sym h.0), λ _ same. absurd (k.0 same))
      ]
      | inr h ↦ inr (h.0, λ same _. h.1 same)
    ]

-- a cached page that is changed
pub change_here : (s : State) (f p : ℕ) (change : Page → Page) (page : Page) → page_at s f p ≡ Some page
    → page_at (change_page s f p change) f p ≡ Some (change page)
change_here s f p change page is =
    elim (put_file_tells s f (record (file_at s f) { pages = change_at p change (file_at s f).pages }) f p) [
      | inl h ↦ h.1 ∙ get-change_at p change (file_at s f).pages p
          ∙ ap (λ b. cond b (option_map change (page_at s f p)) (page_at s f p)) (eq-eqb p p refl)
          ∙ ap (option_map change) is
      | inr h ↦ absurd (let none = h.1 refl in cc)
    ]

-- a page that is changed, where it is cached
pub change_page_tells : (s : State) (f p : ℕ) (change : Page → Page) (g q : ℕ)
    → ((g ≡ f) × (q ≡ p) × (page_at (change_page s f p change) g q ≡ option_map change (page_at s g q)))
    ⊎ (page_at (change_page s f p change) g q ≡ page_at s g q)
change_page_tells s f p change g q =
    elim (put_file_tells s f (record (file_at s f) { pages = change_at p change (file_at s f).pages }) g q) [
      | inl h ↦ elim (eqb q p) as (λ b. eqb q p ≡ b → finmap.get (change_at p change (file_at s f).pages) q
          ≡ cond b (option_map change (page_at s f q)) (page_at s f q)
          → ((g ≡ f) × (q ≡ p) × (page_at (change_page s f p change) g q ≡ option_map change (page_at s g q)))
          ⊎ (page_at (change_page s f p change) g q ≡ page_at s g q)) [
            | true ↦ λ e k. inl (h.0, eqb-true q p e, h.1 ∙ k ∙ ap (λ x. option_map change (page_at s x q)) (sym h.0))
            | false ↦ λ e k. inr (h.1 ∙ k ∙ ap (λ x. page_at s x q) (sym h.0))
          ] refl (get-change_at p change (file_at s f).pages q)
      | inr h ↦ inr h.0
    ]

pub removed_tells : (s : State) (f p g q : ℕ)
    → ((g ≡ f) × (q ≡ p) × (page_at (put_pages s f (finmap.remove (file_at s f).pages p)) g q ≡ None))
    ⊎ (page_at (put_pages s f (finmap.remove (file_at s f).pages p)) g q ≡ page_at s g q)
removed_tells s f p g q =
    elim (put_file_tells s f (record (file_at s f) { pages = finmap.remove (file_at s f).pages p }) g q) [
      | inl h ↦ elim (eqb q p) as (λ b. eqb q p ≡ b → finmap.get (finmap.remove (file_at s f).pages p) q
          ≡ cond b None (page_at s f q) → ((g ≡ f) × (q ≡ p)
          × (page_at (put_pages s f (finmap.remove (file_at s f).pages p)) g q ≡ None))
          ⊎ (page_at (put_pages s f (finmap.remove (file_at s f).pages p)) g q ≡ page_at s g q)) [
            | true ↦ λ e k. inl (h.0, eqb-true q p e, h.1 ∙ k)
            | false ↦ λ e k. inr (h.1 ∙ k ∙ ap (λ x. page_at s x q) (sym h.0))
          ] refl (get-remove_nat (file_at s f).pages p q)
      | inr h ↦ inr h.0
    ]

-- a new element at the end that is the default
pub get_or-default : {A : Type 0} (xs : List A) (d : A) (j : ℕ) → get_or (xs ++ d ∷ []) j d ≡ get_or xs j d
get_or-default [] d zero = refl
get_or-default [] d (suc j) = refl
get_or-default (x ∷ xs) d zero = refl
get_or-default (x ∷ xs) d (suc j) = get_or-default xs d j

-- a new file has no pages
pub page_at-create : (s : State) (g q : ℕ) → page_at (record s { files = s.files ++ no_file ∷ [] }) g q ≡ page_at s g q
page_at-create s g q = ap (λ (x : File). finmap.get x.pages q) (get_or-default s.files no_file g)

-- ---- blocks

pub block_is : (s : State) (f p : ℕ) → is_some (block_at s f p) ≡ true
    → block_at s f p ≡ Some (unwrap_or (block_at s f p) 0)
block_is s f p e = go (block_at s f p) e
  where
    go : (o : Option ℕ) → is_some o ≡ true → o ≡ Some (unwrap_or o 0)
    go None e = absurd cc
    go (Some b) e = refl

-- how many bytes of a block are valid doesn't change whose it is
pub block_valid : (spots : FinMap place_cmp Spot) (f p k valid : ℕ)
    → option_map (λ (x : Spot). x.block) (finmap.get spots (f, p)) ≡ Some k → (g q : ℕ)
    → option_map (λ (x : Spot). x.block)
    (finmap.get (finmap.insert spots (f, p) (record { block = k; valid = valid })) (g, q))
    ≡ option_map (λ (x : Spot). x.block) (finmap.get spots (g, q))
block_valid spots f p k valid has g q = ap (option_map (λ (x : Spot). x.block)) (get-insert_place spots f p _ g q)
    ∙ go (eqb g f) (eqb q p) refl refl
  where
    go : (a b : Bool) → eqb g f ≡ a → eqb q p ≡ b
        → option_map (λ (x : Spot). x.block)
        (cond (a && b) (Some (record { block = k; valid = valid })) (finmap.get spots (g, q)))
        ≡ option_map (λ (x : Spot). x.block) (finmap.get spots (g, q))
    go true true a b =
        sym has ∙ (λ i. option_map (λ (x : Spot). x.block)
        (finmap.get spots (sym (eqb-true g f a) i, sym (eqb-true q p b) i)))
    go true false a b = refl
    go false b a e = refl

-- the pages of a file that a truncation to z cuts off
abbrev pub cut_off : State → ℕ → ℕ → ℕ → ℕ → Bool
cut_off s f z g q = eqb g f && nat_le (page_count s.sizes.page z) q

pub block_at-shrunk : (s : State) (f z g q : ℕ)
    → block_at (shrunk s f z) g q ≡ cond (cut_off s f z g q) None (block_at s g q)
block_at-shrunk s f z g q =
    ap (option_map (λ (x : Spot). x.block))
    (get-retain_place s.spots (λ k. not (eqb k.0 f) || nat_lt k.1 (page_count s.sizes.page z)) g q)
    ∙ go (eqb g f) (nat_lt q (page_count s.sizes.page z)) (nat_le (page_count s.sizes.page z) q)
    (grind (arith, nat_tests))
  where
    go : (here below past : Bool) → past ≡ not below
        → option_map (λ (x : Spot). x.block) (cond (not here || below) (spot_at s g q) None) ≡ cond (here && past) None
        (block_at s g q)
    go true true past e = sym (ap (λ b. cond b None (block_at s g q)) e)
    go true false past e = sym (ap (λ b. cond b None (block_at s g q)) e)
    go false below past e = refl
