-- What is looked up in a state of the cache after a part of it changes.
use Rattle.std.proofs.Common.{◌≡◌, ℕ, ◌<◌, true, false, cond, eqb, eqb-true, ltb, length, refl, ap, sym, ◌∙◌, arith}
use Rattle.std.proofs.Common.{◌&&◌, Some, None, is_some, option_map, nat_cmp}
use Rattle.std.specs.FinMap as finmap
use Rattle.std.specs.FinMap.{FinMap, get-empty}
use Rattle.std.proofs.lemmas.Bool.Decides.{nat_tests}
use Rattle.std.proofs.lemmas.List.{get_or_past}
use Rattle.machine.specs.State.{State, File, Page, file_at, page_at, no_file}
use Rattle.pc_types.specs.Spots.{place_cmp}
use Rattle.machine.specs.Changes.{put_file, put_page, put_pages, change_page}
use Rattle.maps.specs.Maps.{put_some}
use Rattle.maps.proofs.Maps.{get-insert_nat, get-remove_nat}
use Rattle.maps.proofs.MapLaws.{get-insert_place}
use Rattle.machine.proofs.changes.StateLaws.{file_at-put, page_at-put}
use Rattle.runs.proofs.views.View.{put1, put2}

module _ {X : Type 0} (m : FinMap nat_cmp X) (t : ℕ) where
  pub get-insert1 : (x : X) (u : ℕ) → finmap.get (finmap.insert m t x) u ≡ put1 (finmap.get m) t (Some x) u
  unfolding put1
  get-insert1 x u = get-insert_nat m t x u

  pub get-remove1 : (u : ℕ) → finmap.get (finmap.remove m t) u ≡ put1 (finmap.get m) t None u
  unfolding put1
  get-remove1 u = get-remove_nat m t u

pub get-insert2 : {X : Type 0} (m : FinMap place_cmp X) (f p : ℕ) (x : X) (g q : ℕ)
    → finmap.get (finmap.insert m (f, p) x) (g, q) ≡ put2 (λ h k. finmap.get m (h, k)) f p (Some x) g q
unfolding put2
get-insert2 m f p x g q = get-insert_place m f p x g q

-- ---- files

-- one page of file f has this value now
at_file : {A : Type 0} (m : ℕ → ℕ → A) (f p : ℕ) (x : A) (g q : ℕ)
    → cond (eqb g f) (put1 (m f) p x q) (m g q) ≡ put2 m f p x g q
unfolding put1 put2
at_file m f p x g q =
    elim (eqb g f) as (λ b. eqb g f ≡ b → cond b (cond (eqb q p) x (m f q)) (m g q) ≡ cond (b && eqb q p) x (m g q)) [
      | true ↦ λ e. let s : g ≡ f = eqb-true g f e in ap (λ k. cond (eqb q p) x (m k q)) (sym s)
      | false ↦ λ e. refl
    ] refl

pub page_at-put_page : (s : State) (f p : ℕ) (page : Page) → f < length s.files → (g q : ℕ)
    → page_at (put_page s f p page) g q ≡ put2 (page_at s) f p (Some page) g q
page_at-put_page s f p page h g q = page_at-put s f _ h g q
    ∙ ap (λ x. cond (eqb g f) x (page_at s g q)) (get-insert1 (file_at s f).pages p page q)
    ∙ at_file (page_at s) f p (Some page) g q

-- a file changes, and of its pages one
pub page_at-put_one : (s : State) (f p : ℕ) (page : Page) (file : File)
    → file.pages ≡ finmap.insert (file_at s f).pages p page → f < length s.files → (g q : ℕ)
    → page_at (put_file s f file) g q ≡ put2 (page_at s) f p (Some page) g q
page_at-put_one s f p page file e h g q = page_at-put s f file h g q
    ∙ ap (λ m. cond (eqb g f) (finmap.get m q) (page_at s g q)) e
    ∙ ap (λ x. cond (eqb g f) x (page_at s g q)) (get-insert1 (file_at s f).pages p page q)
    ∙ at_file (page_at s) f p (Some page) g q

pub page_at-removed : (s : State) (f p : ℕ) → f < length s.files → (g q : ℕ)
    → page_at (put_pages s f (finmap.remove (file_at s f).pages p)) g q ≡ put2 (page_at s) f p None g q
page_at-removed s f p h g q = page_at-put s f _ h g q
    ∙ ap (λ x. cond (eqb g f) x (page_at s g q)) (get-remove1 (file_at s f).pages p q)
    ∙ at_file (page_at s) f p None g q

-- a cached page that is changed is put
pub change_page-is : (s : State) (f p : ℕ) (g : Page → Page) (page : Page) → page_at s f p ≡ Some page
    → change_page s f p g ≡ put_page s f p (g page)
change_page-is s f p g page is = ap (λ o. put_pages s f (put_some p (option_map g o) (file_at s f).pages)) is

-- a file changes, but not its size
pub size-put : (s : State) (f : ℕ) (file : File) → f < length s.files → file.size ≡ (file_at s f).size → (g : ℕ)
    → (file_at (put_file s f file) g).size ≡ (file_at s g).size
size-put s f file h e g = ap (λ (x : File). x.size) (file_at-put s f g file h)
    ∙ elim (eqb g f) as (λ b. eqb g f ≡ b → (cond b file (file_at s g)).size ≡ (file_at s g).size) [
      | true ↦ λ t. e ∙ ap (λ k. (file_at s k).size) (sym (eqb-true g f t))
      | false ↦ λ t. refl
    ] refl

pub failures-put : (s : State) (f : ℕ) (file : File) → f < length s.files → file.failures ≡ (file_at s f).failures
    → (g : ℕ) → (file_at (put_file s f file) g).failures ≡ (file_at s g).failures
failures-put s f file h e g = ap (λ (x : File). x.failures) (file_at-put s f g file h)
    ∙ elim (eqb g f) as (λ b. eqb g f ≡ b → (cond b file (file_at s g)).failures ≡ (file_at s g).failures) [
      | true ↦ λ t. e ∙ ap (λ k. (file_at s k).failures) (sym (eqb-true g f t))
      | false ↦ λ t. refl
    ] refl

pub failures-set : (s : State) (f : ℕ) (file : File) → f < length s.files → (g : ℕ)
    → (file_at (put_file s f file) g).failures ≡ put1 (λ k. (file_at s k).failures) f file.failures g
unfolding put1
failures-set s f file h g = ap (λ (x : File). x.failures) (file_at-put s f g file h)
    ∙ elim (eqb g f) as (λ b. (cond b file (file_at s g)).failures ≡ cond b file.failures (file_at s g).failures)
    [ true ↦ refl | false ↦ refl ]

pub size-set : (s : State) (f : ℕ) (file : File) → f < length s.files → (g : ℕ)
    → (file_at (put_file s f file) g).size ≡ put1 (λ k. (file_at s k).size) f file.size g
unfolding put1
size-set s f file h g = ap (λ (x : File). x.size) (file_at-put s f g file h)
    ∙ elim (eqb g f) as (λ b. (cond b file (file_at s g)).size ≡ cond b file.size (file_at s g).size)
    [ true ↦ refl | false ↦ refl ]

-- a page that is cached is of a file
pub cached_within : (s : State) (f p : ℕ) → is_some (page_at s f p) ≡ true → f < length s.files
cached_within s f p e = elim (ltb f (length s.files)) as (λ b. ltb f (length s.files) ≡ b → f < length s.files) [
  | true ↦ λ t. grind (arith, nat_tests)
  | false ↦ λ t. absurd (
      let past : file_at s f ≡ no_file = get_or_past s.files f no_file (grind (arith, nat_tests)) in
      let none : page_at s f p ≡ None = ap (λ (x : File). finmap.get x.pages p) past ∙ get-empty nat_cmp p in
      let a = ap is_some none in cc)
] refl
