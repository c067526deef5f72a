-- The pages that are idle, by the owners of the frames, and what a scan of the frames finds of them.
use Rattle.std.proofs.Common.{◌≡◌, ℕ, ◌<◌, ◌≤◌, Bool, true, false, cond, eqb, eqb-true, List, [], ◌∷◌, ◌++◌, length}
use Rattle.std.proofs.Common.{get_or, refl, ap, sym, ◌∙◌, arith, map, reverse, inl, inr}
use Rattle.std.specs.Prelude.{◌&&◌, ◌||◌, Option, Some, None, find, is_some}
use Rattle.std.specs.Option.{option_and_then}
use Rattle.std.specs.List.{list_any}
use Rattle.std.specs.Ordering.{nat_cmp}
use Rattle.std.specs.FinMap as finmap
use Rattle.std.specs.FinMap.{get-empty}
use Rattle.std.proofs.lemmas.Bool.{cases_lt}
use Rattle.std.proofs.lemmas.List.{get_or_default, get_or_past, length-map, reverse-reverse}
use Rattle.std.proofs.lemmas.List.Folds.{list_any_none}
use Rattle.frames.specs.Lists.{has}
use Rattle.frames.specs.Rows.{row_at}
use Rattle.frames.specs.Table.{Table, IsSound, owner_of, is_taken, scan_order}
use Rattle.frames.proofs.ScanLemmas.{has-reverse}
use Rattle.mapping.proofs.MapLemmas.{AllEntries, all_entries}
use Rattle.mapping.specs.Pages.{Mapped}
use Rattle.pagestore.specs.declared.kept.KeptFile.{KeptFile}
use Rattle.pagestore.specs.Store.{is_untagged, is_idle_entry}
use Rattle.pagestore.specs.Cuts.{is_idle_owner, is_idle_frame}
use Rattle.machine.specs.State.{File, Page, no_file, is_idle}
use Rattle.pagestore.specs.Store.{IsStore, Store, entry_at, file_of, is_uptodate, none_kept, page_of, store_of}
use Rattle.pagestore.specs.Store.{stored_page}
use Rattle.machine.proofs.steps.Choices.{and_true}
use Rattle.pagestore.proofs.StoreLaws.{page_seen, seen_at}

-- ---- where no frame passes a test

find_none : (test : ℕ → Bool) (xs : List ℕ) → find test xs ≡ None → (f : ℕ) → has f xs ≡ true → test f ≡ false
find_none test [] none f there = absurd cc
find_none test (x ∷ xs) none f there =
    elim (test x) as (λ b. test x ≡ b → cond b (Some x) (find test xs) ≡ None → test f ≡ false) [
      | true ↦ λ e k. absurd cc
      | false ↦ λ e k. elim (eqb x f) as (λ b. eqb x f ≡ b → (b || has f xs) ≡ true → test f ≡ false) [
        | true ↦ λ same h. ap test (sym (eqb-true x f same)) ∙ e
        | false ↦ λ other h. find_none test xs k f h
      ] refl there
    ] refl none

in_first : (f : ℕ) (xs ys : List ℕ) → has f xs ≡ true → has f (xs ++ ys) ≡ true
in_first f [] ys h = absurd cc
in_first f (x ∷ xs) ys h = elim (eqb x f) as (λ b. (b || has f xs) ≡ true → (b || has f (xs ++ ys)) ≡ true) [
  | true ↦ λ k. refl
  | false ↦ λ k. in_first f xs ys k
] h

in_second : (f : ℕ) (xs ys : List ℕ) → has f ys ≡ true → has f (xs ++ ys) ≡ true
in_second f [] ys h = h
in_second f (x ∷ xs) ys h = elim (eqb x f) as (λ b. (b || has f (xs ++ ys)) ≡ true)
    [ true ↦ refl | false ↦ in_second f xs ys h ]

-- the scan goes over each frame that is taken
pub none_taken : (test : ℕ → Bool) (t : Table) → IsSound t → find test (scan_order t) ≡ None → (f : ℕ)
    → is_taken t f ≡ true → test f ≡ false
none_taken test t sound none f taken =
    find_none test (scan_order t) none f (elim (has f t.active) as (λ b. has f t.active ≡ b
    → has f (scan_order t) ≡ true) [
      | true ↦ λ e. in_second f (reverse t.inactive) (reverse t.active) (turned t.active e)
      | false ↦ λ e. in_first f (reverse t.inactive) (reverse t.active)
          (turned t.inactive (ap (λ b. b || has f t.inactive) (sym e) ∙ sym (sound.listed f) ∙ taken))
    ] refl)
  where
    turned : (xs : List ℕ) → has f xs ≡ true → has f (reverse xs) ≡ true
    turned xs e = has-reverse f (reverse xs) (ap (has f) (reverse-reverse xs) ∙ e)

-- ---- an entry and its page

-- past the last file there is no entry
pub past_files : (files : List KeptFile) (f p : ℕ) → length files ≤ f → entry_at files f p ≡ None
past_files files f p h = ap (λ (k : KeptFile). finmap.get k.mapping.pages p) (get_or_past files f none_kept h)
    ∙ get-empty nat_cmp p

idle_within : (up : List Bool) (files : List KeptFile) (f p : ℕ) → is_idle_entry up (entry_at files f p) ≡ true
    → f < length files
idle_within up files f p idle =
    elim (cases_lt f (length files))
    [ inl h ↦ h | inr h ↦ absurd (let none = ap (is_idle_entry up) (past_files files f p h) in cc) ]

none_any : {X : Type 0} (test : ℕ × X → Bool) (es : List (ℕ × X)) → AllEntries (λ e. test e ≡ false) es
    → list_any test es ≡ false
none_any test [] h = refl
none_any test (e ∷ es) h = λ i. h.0 i || none_any test es h.1 i

module _ (t : Table) (up : List Bool) (files : List KeptFile) where
  idle_page : (f p : ℕ) (o : Option Mapped) → entry_at files f p ≡ o → is_idle_entry up o ≡ true
      → (page : Page) × (stored_page (store_of t up files) f p ≡ Some page) × (is_idle page ≡ true)
  idle_page f p None there idle = absurd cc
  idle_page f p (Some x) there idle = let both = and_true _ _ idle in
      (record { bytes = row_at t.bytes x.frame; tags = x.tags }, page_seen t up files f p x there both.0, both.1)

  idle_seen : (o : Option Mapped) (page : Page) → option_and_then (page_of t up) o ≡ Some page → is_idle page ≡ true
      → is_idle_entry up o ≡ true
  idle_seen None page is idle = absurd cc
  idle_seen (Some x) page is idle =
      elim (is_uptodate up x) as (λ b. cond b
      (Some (let page : Page = record { bytes = row_at t.bytes x.frame; tags = x.tags } in page)) None ≡ Some page
      → (b && is_untagged x.tags) ≡ true) [
        | true ↦ λ e. (let tags : x.tags ≡ page.tags = cc in ap is_untagged tags ∙ idle)
        | false ↦ λ e. absurd cc
      ] is

  -- an idle frame has an owner, whose page is idle
  pub no_owner : (frame : ℕ) → owner_of t frame ≡ None → is_idle_frame t up files frame ≡ true → ⊥
  no_owner frame own idle = absurd (let none = ap (is_idle_owner up files) own in cc)

  pub idle_owned : (frame f p : ℕ) → owner_of t frame ≡ Some (record { 0 = f }, record { 0 = p })
      → is_idle_frame t up files frame ≡ true → (now : Store) → store_of t up files ≡ now
      → (page : Page) × (f < length now.files) × (stored_page now f p ≡ Some page) × (is_idle page ≡ true)
  idle_owned frame f p own idle now view =
      let entry : is_idle_entry up (entry_at files f p) ≡ true = sym (ap (is_idle_owner up files) own) ∙ idle in
      let page = idle_page f p (entry_at files f p) refl entry in (
        page.0,
        omega (
          arith,
          idle_within up files f p entry,
          length-map files (file_of t up),
          ap (λ (s : Store). length s.files) view,
        ),
        ap (λ (s : Store). stored_page s f p) (sym view) ∙ page.1,
        page.2,
      )

  module _ (dirty : ℕ) (s : IsStore t up files dirty) where
    idle_frame : (f p : ℕ) (o : Option Mapped) → entry_at files f p ≡ o → is_idle_entry up o ≡ true
        → (frame : ℕ) × (is_taken t frame ≡ true) × (is_idle_frame t up files frame ≡ true)
    idle_frame f p None there idle = absurd cc
    idle_frame f p (Some x) there idle = let own = s.owned f p x there in
        (x.frame, ap is_some own, ap (is_idle_owner up files) own ∙ ap (is_idle_entry up) there ∙ idle)

    module _ (none : (frame : ℕ) → is_taken t frame ≡ true → is_idle_frame t up files frame ≡ false) where
      not_idle : (f p : ℕ) (page : Page) → stored_page (store_of t up files) f p ≡ Some page → is_idle page ≡ false
      not_idle f p page there = elim (is_idle page) as (λ b. is_idle page ≡ b → b ≡ false) [
        | true ↦ λ idle. absurd (let w =
            idle_frame f p (entry_at files f p) refl
            (idle_seen (entry_at files f p) page (sym (seen_at t up files f p) ∙ there) idle) in
            let busy = none w.0 w.1 in let free = w.2 in cc)
        | false ↦ λ idle. refl
      ] refl

      pub none_idle : list_any (λ (file : File). list_any (λ e. is_idle e.1) (finmap.entries file.pages))
          (store_of t up files).files ≡ false
      none_idle =
          let all = map (file_of t up) files in
          list_any_none (λ (file : File). list_any (λ e. is_idle e.1) (finmap.entries file.pages)) all
          (λ k d h.
          let file = get_or all k d in
          none_any (λ (e : ℕ × Page). is_idle e.1) (finmap.entries file.pages)
          (all_entries (λ (e : ℕ × Page). is_idle e.1 ≡ false) file.pages
          (λ q page there. not_idle k q page
          (ap (λ (file : File). finmap.get file.pages q) (get_or_default all k no_file d h) ∙ there))))
