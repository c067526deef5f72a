-- Each frame that is taken is an entry's: the entries have frames of their own, and are as many as the frames that are
-- taken.
use Rattle.std.proofs.Common.{◌≡◌, ℕ, zero, suc, ◌+◌, ◌<◌, ◌≤◌, Bool, true, false, cond, eqb, eqb-true, eq-eqb, List}
use Rattle.std.proofs.Common.{[], ◌∷◌, length, map, refl, ap, sym, ◌∙◌, arith, inl, inr}
use Rattle.std.specs.Prelude.{◌&&◌, ◌==◌, nat_le, Option, Some, None, is_some, is_none, unwrap_or, sum_by, count_by}
use Rattle.std.specs.Prelude.{slice_set, slice_index_or}
use Rattle.std.specs.FinMap as finmap
use Rattle.std.proofs.lemmas.Bool.{false≢true, cases_lt}
use Rattle.std.proofs.lemmas.Bool.Decides.{nat_tests}
use Rattle.std.proofs.lemmas.List.{length-set}
use Rattle.std.proofs.lemmas.List.Sums.{sum_by-set, sum_by-cons}
use Rattle.frames.specs.Table.{Table, owner_of, is_taken}
use Rattle.mapping.specs.Pages.{Mapped}
use Rattle.mapping.proofs.MapLemmas.{len-le}
use Rattle.pagestore.specs.declared.kept.KeptFile.{KeptFile}
use Rattle.machine.specs.PageLists.{Listed, is_of, cut_off}
use Rattle.pagestore.specs.Store.{IsStore, none_kept, kept_at, entry_at, listed_at, lists_of}
use Rattle.machine.proofs.steps.Choices.{and_true}
use Rattle.pagestore.proofs.Idle.{past_files}
use Rattle.pagestore.proofs.ListedFrames.{active_taken, inactive_taken, none_goes, any_of_none}
use Rattle.machine.proofs.changes.StateLaws.{get_or-set}
use Rattle.pagestore.proofs.StoreLaws.{with_kept, entry-set, apart}
use Rattle.pagestore.proofs.StoreFacts.{Owner, free-given, len-put, within_owned, same_owner}

-- ---- there are no more entries than frames that are taken

abbrev pages_in : KeptFile → ℕ
pages_in k = finmap.len k.mapping.pages

no_pages : (files : List KeptFile) → ((n q : ℕ) (x : Mapped) → entry_at files n q ≡ Some x → ⊥)
    → sum_by pages_in files ≡ 0
no_pages [] none = refl
no_pages (k ∷ files) none =
    let here = len-le 0 k.mapping.pages (λ q x e. absurd (none 0 q x e)) in
    let rest = no_pages files (λ n q x e. none (suc n) q x e) in
    omega (arith, here, rest, sum_by-cons pages_in k files)

-- page q of file n has a frame
abbrev HasFrame : List (Option Owner) → ℕ → ℕ → Type 0
HasFrame os n q = (k : ℕ) × (slice_index_or os k None ≡ Some (record { 0 = n }, record { 0 = q }))

in_rest : (os : List (Option Owner)) (n q k : ℕ)
    → slice_index_or (None ∷ os) k None ≡ Some (record { 0 = n }, record { 0 = q }) → HasFrame os n q
in_rest os n q zero e = absurd (false≢true (ap (λ (o : Option Owner). is_some o) e))
in_rest os n q (suc k) e = (k, e)

in_other : (o : Owner) (os : List (Option Owner)) (n q k : ℕ) → (o.0.0 ≡ n → o.1.0 ≡ q → ⊥)
    → slice_index_or (Some o ∷ os) k None ≡ Some (record { 0 = n }, record { 0 = q }) → HasFrame os n q
in_other o os n q zero other e = let both = same_owner o.0.0 o.1.0 n q e in absurd (other both.0 both.1)
in_other o os n q (suc k) other e = (k, e)

still_there : (files : List KeptFile) (f p : ℕ) → f < length files → (n q : ℕ) (x : Mapped)
    → entry_at (slice_set files f (with_kept (kept_at files f) p None)) n q ≡ Some x
    → (f ≡ n → p ≡ q → ⊥) × (entry_at files n q ≡ Some x)
still_there files f p here n q x e = go (eqb n f && eqb q p) refl (sym (entry-set files f p None here n q) ∙ e)
  where
    go : (b : Bool) → (eqb n f && eqb q p) ≡ b → cond b None (entry_at files n q) ≡ Some x
        → (f ≡ n → p ≡ q → ⊥) × (entry_at files n q ≡ Some x)
    go true same d = absurd (false≢true (ap (λ (o : Option Mapped). is_some o) d))
    go false same d = (λ a b. apart n q f p same (sym a) (sym b), d)

at_most_one : (o : Option Mapped) → cond (is_some o) 1 0 ≤ 1
at_most_one None = omega arith
at_most_one (Some x) = omega arith

pub enough_frames : (os : List (Option Owner)) (files : List KeptFile)
    → ((n q : ℕ) (x : Mapped) → entry_at files n q ≡ Some x → HasFrame os n q)
    → sum_by pages_in files + count_by is_none os ≤ length os
enough_frames [] files has =
    omega (arith, no_pages files (λ n q x e. false≢true (ap (λ (o : Option Owner). is_some o) (has n q x e).1)))
enough_frames (None ∷ os) files has =
    let rest = enough_frames os files (λ n q x e. in_rest os n q (has n q x e).0 (has n q x e).1) in
    omega (arith, rest, sum_by-cons (λ (o : Option Owner). cond (is_none o) 1 0) None os)
enough_frames (Some o ∷ os) files has =
    let one = sum_by-cons (λ (o : Option Owner). cond (is_none o) 1 0) (Some o) os in
    elim (cases_lt o.0.0 (length files)) [
      | inl here ↦
          let k = with_kept (kept_at files o.0.0) o.1.0 None in
          let rest =
          enough_frames os (slice_set files o.0.0 k)
          (λ n q x e. let still = still_there files o.0.0 o.1.0 here n q x e in
          in_other o os n q (has n q x still.1).0 still.0 (has n q x still.1).1) in
          omega (
            arith,
            one,
            rest,
            sum_by-set pages_in files o.0.0 k none_kept here,
            len-put (kept_at files o.0.0).mapping.pages o.1.0 None,
            at_most_one (entry_at files o.0.0 o.1.0),
          )
      | inr past ↦
          let rest =
          enough_frames os files (λ n q x e. in_other o os n q (has n q x e).0
          (λ a b. false≢true (ap (λ (o : Option Mapped). is_some o)
          (sym (past_files files o.0.0 q past) ∙ ap (λ m. entry_at files m q) a ∙ e))) (has n q x e).1) in
          omega (arith, one, rest)
    ]

-- ---- so each frame that is taken is an entry's

module _ (t : Table) (up : List Bool) (files : List KeptFile) (dirty : ℕ) (s : IsStore t up files dirty) where
  none_spare : (g : ℕ) (o : Owner) → owner_of t g ≡ Some o
      → ((n q : ℕ) (x : Mapped) → entry_at files n q ≡ Some x → eqb x.frame g ≡ false) → ⊥
  none_spare g o own other =
      let within = within_owned t g o own in
      let fits =
      enough_frames (slice_set t.owners g None) files
      (λ n q x e. (
        x.frame,
        get_or-set t.owners g x.frame None None within
            ∙ ap (λ b. cond b None (owner_of t x.frame)) (other n q x e) ∙ s.owned n q x e,
      )) in
      omega (arith, fits, free-given t g o own, s.counted, length-set t.owners g None)

  entry_is : (g f p : ℕ) → owner_of t g ≡ Some (record { 0 = f }, record { 0 = p }) → (o : Option Mapped)
      → entry_at files f p ≡ o → (x : Mapped) × (o ≡ Some x) × (x.frame ≡ g)
  entry_is g f p own None at = absurd (none_spare g _ own (λ n q x e. apart_from n q x e))
    where
      apart_from : (n q : ℕ) (x : Mapped) → entry_at files n q ≡ Some x → eqb x.frame g ≡ false
      apart_from n q x e = elim (eqb x.frame g) as (λ b. eqb x.frame g ≡ b → b ≡ false) [
        | true ↦ λ same. (let both =
            same_owner n q f p (sym (s.owned n q x e) ∙ ap (owner_of t) (eqb-true x.frame g same) ∙ own) in
            absurd (false≢true (ap (λ (o : Option Mapped). is_some o)
            (sym at ∙ (λ i. entry_at files (sym both.0 i) (sym both.1 i)) ∙ e))))
        | false ↦ λ same. refl
      ] refl
  entry_is g f p own (Some y) at =
      elim (eqb y.frame g) as (λ b. eqb y.frame g ≡ b → (x : Mapped) × (◌≡◌ {A = Option Mapped} (Some y) (Some x))
      × (x.frame ≡ g)) [
        | true ↦ λ same. (y, refl, eqb-true y.frame g same)
        | false ↦ λ other. absurd (none_spare g _ own (λ n q x e. apart_from other n q x e))
      ] refl
    where
      apart_from : eqb y.frame g ≡ false → (n q : ℕ) (x : Mapped) → entry_at files n q ≡ Some x → eqb x.frame g ≡ false
      apart_from other n q x e = elim (eqb x.frame g) as (λ b. eqb x.frame g ≡ b → b ≡ false) [
        | true ↦ λ same.
            let both = same_owner n q f p (sym (s.owned n q x e) ∙ ap (owner_of t) (eqb-true x.frame g same) ∙ own) in
            let this : ◌≡◌ {A = Option Mapped} (Some y) (Some x) = sym at
            ∙ (λ i. entry_at files (sym both.0 i) (sym both.1 i)) ∙ e in
            absurd (false≢true (sym other ∙ ap (λ (o : Option Mapped). eqb (unwrap_or o y).frame g) this ∙ same))
        | false ↦ λ same. refl
      ] refl

  pub entry_of : (g f p : ℕ) → owner_of t g ≡ Some (record { 0 = f }, record { 0 = p })
      → (x : Mapped) × (entry_at files f p ≡ Some x) × (x.frame ≡ g)
  entry_of g f p own = entry_is g f p own (entry_at files f p) refl

  -- ---- which listed frame is page p's of file f

  listed_owner : (g : ℕ) (o : Option Owner) → owner_of t g ≡ o → is_some o ≡ true
      → (h : ℕ) × (q : ℕ) × (owner_of t g ≡ Some (record { 0 = h }, record { 0 = q })) × ((listed_at t g).file ≡ h)
      × ((listed_at t g).page ≡ q)
  listed_owner g None own there = absurd (false≢true there)
  listed_owner g (Some o) own there =
      let d : Owner = (record { 0 = 0 }, record { 0 = 0 }) in (
        o.0.0,
        o.1.0,
        own,
        ap (λ (x : Option Owner). (unwrap_or x d).0.0) own,
        ap (λ (x : Option Owner). (unwrap_or x d).1.0) own,
      )

  pub owner_listed : (g f p : ℕ) → is_taken t g ≡ true → is_of f p (listed_at t g) ≡ true
      → owner_of t g ≡ Some (record { 0 = f }, record { 0 = p })
  owner_listed g f p there is =
      let own = listed_owner g (owner_of t g) refl there in
      let both = and_true (eqb (listed_at t g).file f) (eqb (listed_at t g).page p) is in
      let a : own.0 ≡ f = sym own.3 ∙ eqb-true (listed_at t g).file f both.0 in
      let b : own.1 ≡ p = sym own.4 ∙ eqb-true (listed_at t g).page p both.1 in
      own.2 ∙ (λ i. let x : Option Owner = Some (record { 0 = a i }, record { 0 = b i }) in x)

  -- the page has an entry
  module _ (f p : ℕ) (x : Mapped) (there : entry_at files f p ≡ Some x) where
    pub its_frame : (g : ℕ) → is_taken t g ≡ true → is_of f p (listed_at t g) ≡ eqb g x.frame
    its_frame g taken = go (is_of f p (listed_at t g)) refl (eqb g x.frame) refl
      where
        go : (a : Bool) → is_of f p (listed_at t g) ≡ a → (b : Bool) → eqb g x.frame ≡ b → a ≡ b
        go true is true same = refl
        go false is false same = refl
        go true is false other =
            let own = entry_of g f p (owner_listed g f p taken is) in
            let this : ◌≡◌ {A = Option Mapped} (Some x) (Some own.0) = sym there ∙ own.1 in
            let frame : g ≡ x.frame = sym own.2 ∙ sym (ap (λ (o : Option Mapped). (unwrap_or o x).frame) this) in
            absurd (false≢true (sym other ∙ eq-eqb g x.frame frame))
        go false is true same =
            let d : Owner = (record { 0 = 0 }, record { 0 = 0 }) in
            let own = ap (owner_of t) (eqb-true g x.frame same) ∙ s.owned f p x there in
            absurd (false≢true (sym is ∙ (λ i. eqb (unwrap_or (own i) d).0.0 f && eqb (unwrap_or (own i) d).1.0 p)
            ∙ (λ i. eq-eqb f f refl i && eq-eqb p p refl i)))

  -- it has none
  pub no_frame : (f p : ℕ) → entry_at files f p ≡ None → (g : ℕ) → is_taken t g ≡ true
      → is_of f p (listed_at t g) ≡ false
  no_frame f p absent g taken = elim (is_of f p (listed_at t g)) as (λ b. is_of f p (listed_at t g) ≡ b → b ≡ false) [
    | true ↦ λ is. absurd (false≢true
        (ap (λ (o : Option Mapped). is_some o) (sym absent ∙ (entry_of g f p (owner_listed g f p taken is)).1)))
    | false ↦ λ is. refl
  ] refl

  -- no page of file f from n on has an entry, and so none is listed
  module _ (f n : ℕ) (none : (q : ℕ) → n ≤ q → entry_at files f q ≡ None) where
    not_cut : (g : ℕ) → is_taken t g ≡ true → ((listed_at t g).file == f && nat_le n (listed_at t g).page) ≡ false
    not_cut g taken =
        elim ((listed_at t g).file == f && nat_le n (listed_at t g).page) as (λ b.
        ((listed_at t g).file == f && nat_le n (listed_at t g).page) ≡ b → b ≡ false) [
          | true ↦ λ cut.
              let both = and_true (eqb (listed_at t g).file f) (nat_le n (listed_at t g).page) cut in
              let high : n ≤ (listed_at t g).page = (let le = both.1 in grind (arith, nat_tests)) in
              let is : is_of f (listed_at t g).page (listed_at t g) ≡ true =
              λ i. both.0 i && eq-eqb (listed_at t g).page (listed_at t g).page refl i in
              absurd (false≢true (ap (λ (o : Option Mapped). is_some o)
              (sym (none (listed_at t g).page high)
              ∙ (entry_of g f (listed_at t g).page (owner_listed g f (listed_at t g).page taken is)).1)))
          | false ↦ λ cut. refl
        ] refl

    pub none_cut : cut_off f n (lists_of t) ≡ lists_of t
    none_cut =
        let goes = λ (e : Listed). e.file == f && nat_le n e.page in
        let actives =
        none_goes goes (map (listed_at t) t.active)
        (any_of_none goes (listed_at t) t.active (λ g e. not_cut g (active_taken t s.sound g e))) in
        let inactives =
        none_goes goes (map (listed_at t) t.inactive)
        (any_of_none goes (listed_at t) t.inactive (λ g e. not_cut g (inactive_taken t s.sound g e))) in
        λ i. record { active = actives i; inactive = inactives i }
