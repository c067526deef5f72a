-- The first idle page in the order of eviction, as a scan of the frames finds it.
use Rattle.std.proofs.Common.{◌≡◌, ℕ, Bool, true, false, cond, eqb, ◌⊎◌, List, [], ◌∷◌, ◌++◌, refl, ap, sym, ◌∙◌, map}
use Rattle.std.proofs.Common.{reverse, inl, inr, not, subst, length, ◌<◌, arith, get_or-set_other}
use Rattle.std.specs.Prelude.{◌&&◌, ◌||◌, is_some, Option, Some, None, option_map, find, slice_index_or, slice_set}
use Rattle.std.specs.Prelude.{count_by, unwrap_or}
use Rattle.std.specs.Option.{option_and_then}
use Rattle.std.proofs.lemmas.Bool.{cases_eq, false≢true}
use Rattle.std.proofs.lemmas.List.{map-append, reverse-append}
use Rattle.std.proofs.lemmas.List.Sums.{sum_by-set}
use Rattle.frames.specs.Lists.{has}
use Rattle.frames.specs.Rows.{row_at}
use Rattle.frames.specs.Table as table
use Rattle.frames.specs.Table.{Table, IsSound, owner_of, is_aside, is_taken}
use Rattle.frames.proofs.ListLemmas.{has-head}
use Rattle.frames.proofs.ScanLemmas.{has-reverse}
use Rattle.mapping.specs.Pages.{Mapped}
use Rattle.pagestore.specs.declared.kept.KeptFile.{KeptFile}
use Rattle.pagestore.specs.Store.{IsStore, is_untagged, is_idle_entry}
use Rattle.pagestore.specs.Cuts.{AreBusy, is_idle_owner, is_idle_frame, is_idle_at}
use Rattle.machine.specs.ListChanges.{is_idle_page}
use Rattle.machine.specs.PageLists.{Listed, scan_order}
use Rattle.machine.specs.State.{Page}
use Rattle.pagestore.specs.Store.{entry_at, is_uptodate, listed_at, lists_of, owner_in, page_of, store_of, stored_page}
use Rattle.pagestore.proofs.Owners.{entry_of}
use Rattle.pagestore.proofs.ListedFrames.{active_taken, inactive_taken, later}
use Rattle.pagestore.proofs.StoreFacts.{Owner, aside_store}
use Rattle.pagestore.proofs.StoreLaws.{seen_at}

-- ---- the first of a list

pub find_in : (test : ℕ → Bool) (xs : List ℕ) (f : ℕ) → find test xs ≡ Some f → has f xs ≡ true
find_in test [] f e = absurd cc
find_in test (x ∷ xs) f e =
    elim (test x) as (λ b. cond b (Some x) (find test xs) ≡ Some f → has f (x ∷ xs) ≡ true) [
      | true ↦ λ k. (let is : x ≡ f = cc in ap (λ n. has n (x ∷ xs)) (sym is) ∙ has-head x xs)
      | false ↦ λ k. later f x xs (find_in test xs f k)
    ] e

pub find_passes : (test : ℕ → Bool) (xs : List ℕ) (f : ℕ) → find test xs ≡ Some f → test f ≡ true
find_passes test [] f e = absurd cc
find_passes test (x ∷ xs) f e =
    elim (test x) as (λ b. test x ≡ b → cond b (Some x) (find test xs) ≡ Some f → test f ≡ true) [
      | true ↦ λ d k. (let is : x ≡ f = cc in ap test (sym is) ∙ d)
      | false ↦ λ d k. find_passes test xs f k
    ] refl e

-- a test that fewer pass
module _ (test fine : ℕ → Bool) (if_fine : (g : ℕ) → fine g ≡ true → test g ≡ true) where
  not_fine : (g : ℕ) → test g ≡ false → fine g ≡ false
  not_fine g e = elim (fine g) as (λ b. fine g ≡ b → b ≡ false) [
    | true ↦ λ d. absurd (false≢true (sym e ∙ if_fine g d))
    | false ↦ λ d. refl
  ] refl

  pub find_finer : (xs : List ℕ) (f : ℕ) → find test xs ≡ Some f → fine f ≡ true → find fine xs ≡ Some f
  find_finer [] f e h = absurd cc
  find_finer (x ∷ xs) f e h =
      elim (test x) as (λ b. test x ≡ b → cond b (Some x) (find test xs) ≡ Some f → find fine (x ∷ xs) ≡ Some f) [
        | true ↦ λ d k. (let is : x ≡ f = cc in ap (λ b. cond b (Some x) (find fine xs)) (ap fine is ∙ h)
            ∙ ap (λ n. Some n) is)
        | false ↦ λ d k. ap (λ b. cond b (Some x) (find fine xs)) (not_fine x d) ∙ find_finer xs f k h
      ] refl e

  pub find_finer_none : (xs : List ℕ) → find test xs ≡ None → find fine xs ≡ None
  find_finer_none [] e = refl
  find_finer_none (x ∷ xs) e =
      elim (test x) as (λ b. test x ≡ b → cond b (Some x) (find test xs) ≡ None → find fine (x ∷ xs) ≡ None) [
        | true ↦ λ d k. absurd cc
        | false ↦ λ d k. ap (λ b. cond b (Some x) (find fine xs)) (not_fine x d) ∙ find_finer_none xs k
      ] refl e

pub is_off : (b : Bool) → not b ≡ true → b ≡ false
is_off true e = absurd (false≢true e)
is_off false e = refl

-- a frame whose page is idle is not set aside
pub waiting_where : (t : Table) (up : List Bool) (files : List KeptFile) → AreBusy t up files → (g : ℕ)
    → is_idle_frame t up files g ≡ true → not (is_aside t g) ≡ true
waiting_where t up files busy g idle = go (is_aside t g) refl
  where
    go : (b : Bool) → is_aside t g ≡ b → not b ≡ true
    go true e = absurd (false≢true (sym (busy g e) ∙ idle))
    go false e = refl

-- the flags once one more is set
pub one_aside : (flags : List Bool) (i g : ℕ) → slice_index_or (slice_set flags i true) g false ≡ true
    → (g ≡ i) ⊎ (slice_index_or flags g false ≡ true)
one_aside flags i g h = elim (cases_eq g i) [
  | inl e ↦ inl e
  | inr ne ↦ inr (sym (get_or-set_other flags i g true false ne) ∙ h)
]

pub fewer_waiting : (flags : List Bool) (i : ℕ) → i < length flags → slice_index_or flags i false ≡ false
    → count_by not (slice_set flags i true) < count_by not flags
fewer_waiting flags i within off =
    let one = sum_by-set (λ b. cond (not b) 1 0) flags i true false within in
    let was : ◌≡◌ {A = ℕ} (cond (not (slice_index_or flags i false)) 1 0) 1 = ap (λ b. cond (not b) 1 0) off in
    omega (arith, one, was)

-- ---- the first of what is shown of the frames

pub find_shown : (k : ℕ → Listed) (test : Listed → Bool) (fine : ℕ → Bool) (xs : List ℕ)
    → ((g : ℕ) → has g xs ≡ true → test (k g) ≡ fine g) → option_map k (find fine xs) ≡ find test (map k xs)
find_shown k test fine [] same = refl
find_shown k test fine (x ∷ xs) same =
    elim (fine x) as (λ b. test (k x) ≡ b
    → option_map k (cond b (Some x) (find fine xs)) ≡ cond (test (k x)) (Some (k x)) (find test (map k xs))) [
      | true ↦ λ e. sym (ap (λ b. cond b (Some (k x)) (find test (map k xs))) e)
      | false ↦ λ e. find_shown k test fine xs (λ g h. same g (later g x xs h))
          ∙ sym (ap (λ b. cond b (Some (k x)) (find test (map k xs))) e)
    ] (same x (has-head x xs))

map-reverse : {X Y : Type 0} (f : X → Y) (xs : List X) → reverse (map f xs) ≡ map f (reverse xs)
map-reverse f [] = refl
map-reverse f (x ∷ xs) = reverse-append (f x ∷ []) (map f xs) ∙ ap (λ ys. ys ++ f x ∷ []) (map-reverse f xs)
    ∙ sym (ap (map f) (reverse-append (x ∷ []) xs) ∙ map-append f (reverse xs) (x ∷ []))

-- ---- a listed page is idle where its frame is

module _ (t : Table) (up : List Bool) (files : List KeptFile) where
  seen_idle : (o : Option Mapped) → is_idle_page (option_and_then (page_of t up) o) ≡ is_idle_entry up o
  seen_idle None = refl
  seen_idle (Some x) =
      elim (is_uptodate up x) as (λ b. is_idle_page
      (cond b (Some (let page : Page = record { bytes = row_at t.bytes x.frame; tags = x.tags } in page)) None)
      ≡ (b && is_untagged x.tags)) [ true ↦ refl | false ↦ refl ]

  idle_at_frame : (g : ℕ) (o : Option Owner) → owner_of t g ≡ o → is_taken t g ≡ true
      → is_idle_at (store_of t up files) (listed_at t g) ≡ is_idle_frame t up files g
  idle_at_frame g None own taken =
      absurd (let none = ap (λ (o : Option Owner). is_some o) own in false≢true (sym none ∙ taken))
  idle_at_frame g (Some o) own taken =
      (λ i. is_idle_page (stored_page (store_of t up files) (owner_in (own i)).0.0 (owner_in (own i)).1.0))
      ∙ ap is_idle_page (seen_at t up files o.0.0 o.1.0) ∙ seen_idle (entry_at files o.0.0 o.1.0)
      ∙ sym (ap (is_idle_owner up files) own)

  module _ (sound : IsSound t) where
    pub scanned : (g : ℕ) → has g (table.scan_order t) ≡ true → is_taken t g ≡ true
    scanned g e = elim (in_either g (reverse t.inactive) (reverse t.active) e) [
      | inl h ↦ inactive_taken t sound g (has-reverse g t.inactive h)
      | inr h ↦ active_taken t sound g (has-reverse g t.active h)
    ]
      where
        in_either : (g : ℕ) (xs ys : List ℕ) → has g (xs ++ ys) ≡ true → (has g xs ≡ true) ⊎ (has g ys ≡ true)
        in_either g [] ys e = inr e
        in_either g (x ∷ xs) ys e =
            elim (eqb x g) as (λ b. (b || has g (xs ++ ys)) ≡ true → ((b || has g xs) ≡ true) ⊎ (has g ys ≡ true)) [
              | true ↦ λ d. inl refl
              | false ↦ λ d. in_either g xs ys d
            ] e

    scan_is : scan_order (lists_of t) ≡ map (listed_at t) (table.scan_order t)
    scan_is = (λ i. map-reverse (listed_at t) t.inactive i ++ map-reverse (listed_at t) t.active i)
        ∙ sym (map-append (listed_at t) (reverse t.inactive) (reverse t.active))

    -- what the scan finds is the first idle page
    pub idle_first : option_map (listed_at t) (find (is_idle_frame t up files) (table.scan_order t))
        ≡ find (is_idle_at (store_of t up files)) (scan_order (lists_of t))
    idle_first =
        find_shown (listed_at t) (is_idle_at (store_of t up files)) (is_idle_frame t up files) (table.scan_order t)
        (λ g e. idle_at_frame g (owner_of t g) refl (scanned g e))
        ∙ ap (find (is_idle_at (store_of t up files))) (sym scan_is)

-- ---- the frames that are set aside

module _ (t : Table) (up : List Bool) (files : List KeptFile) (dirty : ℕ) (s : IsStore t up files dirty) where
  pub are_busy : AreBusy t up files
  are_busy g aside = go (owner_of t g) refl
    where
      at : (f p : ℕ) → owner_of t g ≡ Some (record { 0 = f }, record { 0 = p }) → (o : Option Mapped)
          → entry_at files f p ≡ o → is_idle_entry up o ≡ false
      at f p own None e = refl
      at f p own (Some x) e =
          let its = entry_of t up files dirty s g f p own in
          let same : ◌≡◌ {A = Option Mapped} (Some x) (Some its.0) = sym e ∙ its.1 in
          let frame : x.frame ≡ g = ap (λ (o : Option Mapped). (unwrap_or o x).frame) same ∙ its.2 in
          s.busy f p x e (ap (is_aside t) frame ∙ aside)

      go : (o : Option Owner) → owner_of t g ≡ o → is_idle_owner up files o ≡ false
      go None own = refl
      go (Some o) own = at o.0.0 o.1.0 own (entry_at files o.0.0 o.1.0) refl

  pub set_aside_store : (u : Table) → u ≡ record t { aside = u.aside } → IsSound u → AreBusy u up files
      → IsStore u up files dirty
  set_aside_store u same sound busy = subst (λ (u : Table). IsStore u up files dirty) (sym same)
      (aside_store t up files dirty u.aside s (subst (λ (u : Table). IsSound u) same sound)
      (λ f p x e aside.
      let own : owner_of u x.frame ≡ Some (record { 0 = f }, record { 0 = p }) =
      ap (λ (u : Table). owner_of u x.frame) same ∙ s.owned f p x e in
      ap (is_idle_entry up) (sym e) ∙ sym (ap (is_idle_owner up files) own) ∙ busy x.frame aside))
