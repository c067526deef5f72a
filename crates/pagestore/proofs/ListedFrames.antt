-- The page lists, as frames are taken, given back, accessed and aged.
use Rattle.std.proofs.Common.{◌≡◌, ℕ, zero, suc, ◌+◌, ◌/◌, ◌<◌, ◌≤◌, Bool, true, false, cond, not, eqb, eqb-true}
use Rattle.std.proofs.Common.{eq-eqb, List, [], ◌∷◌, ◌++◌, length, refl, ap, sym, ◌∙◌, arith, map, inl, inr}
use Rattle.std.proofs.Common.{get_or-set_same, get_or-set_other}
use Rattle.std.specs.Prelude.{◌&&◌, ◌||◌, Some, None, is_some, ◌==◌, nat_le, filter, take, drop, min, slice_set}
use Rattle.std.specs.Prelude.{slice_index_or, unwrap_or}
use Rattle.std.specs.List.{list_any}
use Rattle.std.proofs.lemmas.Bool.{false≢true, cases_lt}
use Rattle.std.proofs.lemmas.Bool.Decides.{nat_tests}
use Rattle.std.proofs.lemmas.List.{length-map, length-set, get_or_past, map-append, take-map, drop-map}
use Rattle.frames.specs.Lists.{has, without, IsWithoutDoubles}
use Rattle.frames.specs.Table as table
use Rattle.frames.specs.Table.{Table, IsSound, owner_of, is_taken, is_referenced, cleared}
use Rattle.frames.proofs.ListLemmas.{has-head, without-absent}
use Rattle.machine.specs.PageLists.{Listed, PageLists, is_of, is_listed, entered, marked, accessed, left, cut_off}
use Rattle.machine.specs.PageLists.{active_target, unreferenced, aged}
use Rattle.pagestore.specs.Store.{listed_at, lists_of}
use Rattle.machine.proofs.steps.Choices.{and_true, neither}
use Rattle.machine.proofs.changes.StateLaws.{get_or-set}

-- ---- truth values

or_right : (a b : Bool) → b ≡ true → (a || b) ≡ true
or_right true b e = refl
or_right false b e = e

or_left : (a b : Bool) → a ≡ true → (a || b) ≡ true
or_left a b e = ap (λ c. c || b) e

pub later : (g x : ℕ) (xs : List ℕ) → has g xs ≡ true → has g (x ∷ xs) ≡ true
later g x xs e = or_right (eqb x g) (has g xs) e

-- ---- what is listed of each frame of a list

module _ {X : Type 0} where
  pub same_map : (k l : ℕ → X) (xs : List ℕ) → ((g : ℕ) → has g xs ≡ true → l g ≡ k g) → map l xs ≡ map k xs
  same_map k l [] h = refl
  same_map k l (x ∷ xs) h = λ i. h x (has-head x xs) i ∷ same_map k l xs (λ g e. h g (later g x xs e)) i

  map_after : (k l : ℕ → X) (h : X → X) (xs : List ℕ) → ((g : ℕ) → has g xs ≡ true → l g ≡ h (k g))
      → map l xs ≡ map h (map k xs)
  map_after k l h [] same = refl
  map_after k l h (x ∷ xs) same = λ i. same x (has-head x xs) i ∷ map_after k l h xs (λ g e. same g (later g x xs e)) i

  map-without : (k l : ℕ → X) (goes : X → Bool) (fr : ℕ) (xs : List ℕ)
      → ((g : ℕ) → has g xs ≡ true → goes (k g) ≡ eqb g fr) → ((g : ℕ) → has g xs ≡ true → eqb g fr ≡ false → l g ≡ k g)
      → map l (without fr xs) ≡ filter (λ e. not (goes e)) (map k xs)
  map-without k l goes fr [] which same = refl
  map-without k l goes fr (x ∷ xs) which same =
      let rest : map l (without fr xs) ≡ filter (λ e. not (goes e)) (map k xs) =
      map-without k l goes fr xs (λ g e. which g (later g x xs e)) (λ g e. same g (later g x xs e)) in
      let keeps = λ (b : Bool). cond (not b) (k x ∷ filter (λ e. not (goes e)) (map k xs))
      (filter (λ e. not (goes e)) (map k xs)) in
      elim (eqb x fr) as (λ b. eqb x fr ≡ b → map l (cond b (without fr xs) (x ∷ without fr xs)) ≡ keeps (goes (k x))) [
        | true ↦ λ e. rest ∙ sym (ap keeps (which x (has-head x xs) ∙ e))
        | false ↦ λ e. (λ i. same x (has-head x xs) e i ∷ rest i) ∙ sym (ap keeps (which x (has-head x xs) ∙ e))
      ] refl

  pub none_goes : (goes : X → Bool) (xs : List X) → list_any goes xs ≡ false → filter (λ e. not (goes e)) xs ≡ xs
  none_goes goes [] h = refl
  none_goes goes (x ∷ xs) h =
      let both = neither (goes x) (list_any goes xs) h in
      ap (λ b. cond (not b) (x ∷ filter (λ e. not (goes e)) xs) (filter (λ e. not (goes e)) xs)) both.0
      ∙ ap (λ ys. x ∷ ys) (none_goes goes xs both.1)

  pub any_of_none : (test : X → Bool) (k : ℕ → X) (xs : List ℕ) → ((g : ℕ) → has g xs ≡ true → test (k g) ≡ false)
      → list_any test (map k xs) ≡ false
  any_of_none test k [] h = refl
  any_of_none test k (x ∷ xs) h = λ i. h x (has-head x xs) i || any_of_none test k xs (λ g e. h g (later g x xs e)) i

-- ---- a page that is in no list

module _ (f p : ℕ) where
  not_marked : (xs : List Listed) → list_any (is_of f p) xs ≡ false → map (marked f p) xs ≡ xs
  not_marked [] h = refl
  not_marked (x ∷ xs) h =
      let both = neither (is_of f p x) (list_any (is_of f p) xs) h in
      λ i. ap (λ b. let y : Listed = cond b (record x { referenced = true }) x in y) both.0 i ∷ not_marked xs both.1 i

  none_referenced : (xs : List Listed) → list_any (is_of f p) xs ≡ false
      → list_any (λ (e : Listed). is_of f p e && e.referenced) xs ≡ false
  none_referenced [] h = refl
  none_referenced (x ∷ xs) h =
      let both = neither (is_of f p x) (list_any (is_of f p) xs) h in
      λ i. (both.0 i && x.referenced) || none_referenced xs both.1 i

  pub accessed_nowhere : (l : PageLists) → is_listed f p l ≡ false → accessed f p l ≡ l
  accessed_nowhere l h =
      let both = neither (list_any (is_of f p) l.active) (list_any (is_of f p) l.inactive) h in
      let up : PageLists =
      record {
        active = record { file = f; page = p; referenced = false } ∷ l.active;
        inactive = filter (λ e. not (is_of f p e)) l.inactive;
      } in
      let here : PageLists = record { active = map (marked f p) l.active; inactive = map (marked f p) l.inactive } in
      ap (λ b. cond b up here) (none_referenced l.inactive both.1)
      ∙ (λ i. record { active = not_marked l.active both.0 i; inactive = not_marked l.inactive both.1 i })

  pub left_entered : (l : PageLists) → is_listed f p l ≡ false → left f p (entered f p l) ≡ l
  left_entered l h =
      let both = neither (list_any (is_of f p) l.active) (list_any (is_of f p) l.inactive) h in
      let gone : filter (λ e. not (is_of f p e)) (entered f p l).inactive ≡ filter (λ e. not (is_of f p e)) l.inactive =
      (λ i. cond (not (eq-eqb f f refl i && eq-eqb p p refl i))
      (record { file = f; page = p; referenced = false } ∷ filter (λ e. not (is_of f p e)) l.inactive)
      (filter (λ e. not (is_of f p e)) l.inactive)) in
      λ i. record {
        active = none_goes (is_of f p) l.active both.0 i;
        inactive = (gone ∙ none_goes (is_of f p) l.inactive both.1) i;
      }

  -- ---- pages of a file from one on

  within_cut : (n : ℕ) → n ≤ p → (e : Listed) → is_of f p e ≡ true → (eqb e.file f && nat_le n e.page) ≡ true
  within_cut n low e is = go (eqb e.file f) (eqb e.page p) refl is
    where
      above : eqb e.page p ≡ true → nat_le n e.page ≡ true
      above same = let is_p = eqb-true e.page p same in grind (arith, nat_tests)

      go : (a b : Bool) → eqb e.page p ≡ b → (a && b) ≡ true → (a && nat_le n e.page) ≡ true
      go true b same both = above (same ∙ both)
      go false b same both = absurd (false≢true both)

  both_go : (n : ℕ) → n ≤ p → (xs : List Listed)
      → filter (λ (e : Listed). not (e.file == f && nat_le n e.page)) (filter (λ e. not (is_of f p e)) xs)
      ≡ filter (λ (e : Listed). not (e.file == f && nat_le n e.page)) xs
  both_go n low [] = refl
  both_go n low (x ∷ xs) =
      let rest = both_go n low xs in
      let stays = λ (b : Bool). cond (not b) (x ∷ filter (λ (e : Listed). not (e.file == f && nat_le n e.page)) xs)
      (filter (λ (e : Listed). not (e.file == f && nat_le n e.page)) xs) in
      elim (is_of f p x) as (λ b. is_of f p x ≡ b
      → filter (λ (e : Listed). not (e.file == f && nat_le n e.page))
      (cond (not b) (x ∷ filter (λ e. not (is_of f p e)) xs) (filter (λ e. not (is_of f p e)) xs))
      ≡ stays (x.file == f && nat_le n x.page)) [
        | true ↦ λ e. rest ∙ sym (ap stays (within_cut n low x e))
        | false ↦ λ e i. cond (not (x.file == f && nat_le n x.page)) (x ∷ rest i) (rest i)
      ] refl

-- a page that is cut off left before
pub cut_left : (f n p : ℕ) → n ≤ p → (l : PageLists) → cut_off f n (left f p l) ≡ cut_off f n l
cut_left f n p low l = λ i. record { active = both_go f p n low l.active i; inactive = both_go f p n low l.inactive i }

-- ---- frames of the table

pub taken_within : (t : Table) (g : ℕ) → is_taken t g ≡ true → g < length t.owners
taken_within t g e =
    elim (cases_lt g (length t.owners))
    [ inl h ↦ h | inr h ↦ absurd (false≢true (ap is_some (sym (get_or_past t.owners g None h)) ∙ e)) ]

-- ---- flags that are cleared

length-cleared : (fs : List ℕ) (flags : List Bool) → length (cleared fs flags) ≡ length flags
length-cleared [] flags = refl
length-cleared (x ∷ fs) flags = length-set (cleared fs flags) x false ∙ length-cleared fs flags

not_cleared : (fs : List ℕ) (flags : List Bool) (g : ℕ) → has g fs ≡ false
    → slice_index_or (cleared fs flags) g false ≡ slice_index_or flags g false
not_cleared [] flags g h = refl
not_cleared (x ∷ fs) flags g h =
    let both = neither (eqb x g) (has g fs) h in
    get_or-set_other (cleared fs flags) x g false false (λ e. false≢true (sym both.0 ∙ eq-eqb x g (sym e)))
    ∙ not_cleared fs flags g both.1

is_cleared : (fs : List ℕ) (flags : List Bool) (g : ℕ) → has g fs ≡ true
    → ((k : ℕ) → has k fs ≡ true → k < length flags) → slice_index_or (cleared fs flags) g false ≡ false
is_cleared [] flags g h within = absurd (false≢true h)
is_cleared (x ∷ fs) flags g h within =
    elim (eqb x g) as (λ b. eqb x g ≡ b → (b || has g fs) ≡ true
    → slice_index_or (slice_set (cleared fs flags) x false) g false ≡ false) [
      | true ↦ λ e d. ap (λ n. slice_index_or (slice_set (cleared fs flags) x false) n false) (sym (eqb-true x g e))
          ∙ get_or-set_same (cleared fs flags) x false false
          (omega (arith, within x (has-head x fs), length-cleared fs flags))
      | false ↦ λ e d. get_or-set_other (cleared fs flags) x g false false (λ s. false≢true (sym e ∙ eq-eqb x g (sym s)))
          ∙ is_cleared fs flags g d (λ k there. within k (later k x fs there))
    ] refl h

not_dropped : (g n : ℕ) (xs : List ℕ) → has g xs ≡ false → has g (drop n xs) ≡ false
not_dropped g zero xs h = h
not_dropped g (suc n) [] h = refl
not_dropped g (suc n) (x ∷ xs) h = not_dropped g n xs (neither (eqb x g) (has g xs) h).1

in_whole : (g n : ℕ) (xs : List ℕ) → has g (drop n xs) ≡ true → has g xs ≡ true
in_whole g zero xs h = h
in_whole g (suc n) [] h = h
in_whole g (suc n) (x ∷ xs) h = later g x xs (in_whole g n xs h)

-- no frame is in both halves of a list without doubles
halves : (g n : ℕ) (xs : List ℕ) → IsWithoutDoubles xs → has g (take n xs) ≡ true → has g (drop n xs) ≡ false
halves g zero xs once h = absurd (false≢true h)
halves g (suc n) [] once h = absurd (false≢true h)
halves g (suc n) (x ∷ xs) once h =
    elim (eqb x g) as (λ b. eqb x g ≡ b → (b || has g (take n xs)) ≡ true → has g (drop n xs) ≡ false) [
      | true ↦ λ e d. not_dropped g n xs (ap (λ k. has k xs) (sym (eqb-true x g e)) ∙ once.0)
      | false ↦ λ e d. halves g n xs once.1 d
    ] refl h

module _ (t : Table) (sound : IsSound t) where
  pub active_taken : (g : ℕ) → has g t.active ≡ true → is_taken t g ≡ true
  active_taken g e = sound.listed g ∙ or_left (has g t.active) (has g t.inactive) e

  pub inactive_taken : (g : ℕ) → has g t.inactive ≡ true → is_taken t g ≡ true
  inactive_taken g e = sound.listed g ∙ or_right (has g t.active) (has g t.inactive) e

  other_taken : (fr g : ℕ) → is_taken t fr ≡ false → is_taken t g ≡ true → eqb g fr ≡ false
  other_taken fr g free e = elim (eqb g fr) as (λ b. eqb g fr ≡ b → b ≡ false) [
    | true ↦ λ s. absurd (false≢true (sym free ∙ ap (is_taken t) (sym (eqb-true g fr s)) ∙ e))
    | false ↦ λ s. refl
  ] refl

  -- the page is the owner of no frame
  pub unlisted : (f p : ℕ) → ((g : ℕ) → is_taken t g ≡ true → is_of f p (listed_at t g) ≡ false)
      → is_listed f p (lists_of t) ≡ false
  unlisted f p none =
      λ i. any_of_none (is_of f p) (listed_at t) t.active (λ g e. none g (active_taken g e)) i
      || any_of_none (is_of f p) (listed_at t) t.inactive (λ g e. none g (inactive_taken g e)) i

  -- ---- a free frame is taken

  module _ (f p fr : ℕ) (free : is_taken t fr ≡ false) (within : fr < length t.owners) where
    abbrev u : Table
    u = table.taken t fr (record { 0 = f }, record { 0 = p })

    flag_within : fr < length t.referenced
    flag_within = omega (arith, within, sound.flags)

    other_now : (g : ℕ) → eqb g fr ≡ false → listed_at u g ≡ listed_at t g
    other_now g n =
        let owner = get_or-set t.owners fr g (Some (record { 0 = f }, record { 0 = p })) None within
        ∙ ap (λ b. cond b (Some (record { 0 = f }, record { 0 = p })) (owner_of t g)) n in
        let flag = get_or-set t.referenced fr g false false flag_within
        ∙ ap (λ b. cond b false (is_referenced t g)) n in
        λ i. record {
          file = (unwrap_or (owner i) (record { 0 = 0 }, record { 0 = 0 })).0.0;
          page = (unwrap_or (owner i) (record { 0 = 0 }, record { 0 = 0 })).1.0;
          referenced = flag i;
        }

    this_now : listed_at u fr ≡ record { file = f; page = p; referenced = false }
    this_now =
        let owner = get_or-set t.owners fr fr (Some (record { 0 = f }, record { 0 = p })) None within
        ∙ ap (λ b. cond b (Some (record { 0 = f }, record { 0 = p })) (owner_of t fr)) (eq-eqb fr fr refl) in
        let flag = get_or-set t.referenced fr fr false false flag_within
        ∙ ap (λ b. cond b false (is_referenced t fr)) (eq-eqb fr fr refl) in
        λ i. record {
          file = (unwrap_or (owner i) (record { 0 = 0 }, record { 0 = 0 })).0.0;
          page = (unwrap_or (owner i) (record { 0 = 0 }, record { 0 = 0 })).1.0;
          referenced = flag i;
        }

    pub lists-taken : lists_of u ≡ entered f p (lists_of t)
    lists-taken =
        let actives =
        same_map (listed_at t) (listed_at u) t.active
        (λ g e. other_now g (other_taken fr g free (active_taken g e))) in
        let inactives = same_map (listed_at t) (listed_at u) t.inactive
        (λ g e. other_now g (other_taken fr g free (inactive_taken g e))) in
        λ i. record { active = actives i; inactive = this_now i ∷ inactives i }

    -- and given back

    abbrev v : Table
    v = table.given u fr

    absent_active : has fr t.active ≡ false
    absent_active = (neither (has fr t.active) (has fr t.inactive) (sym (sound.listed fr) ∙ free)).0

    absent_inactive : has fr t.inactive ≡ false
    absent_inactive = (neither (has fr t.active) (has fr t.inactive) (sym (sound.listed fr) ∙ free)).1

    other_again : (g : ℕ) → eqb g fr ≡ false → listed_at v g ≡ listed_at t g
    other_again g n =
        let owner =
        get_or-set u.owners fr g None None
        (omega (arith, within, length-set t.owners fr (Some (record { 0 = f }, record { 0 = p }))))
        ∙ ap (λ b. cond b None (owner_of u g)) n in
        let flag =
        get_or-set u.referenced fr g false false (omega (arith, flag_within, length-set t.referenced fr false))
        ∙ ap (λ b. cond b false (is_referenced u g)) n in
        (λ i. record {
          file = (unwrap_or (owner i) (record { 0 = 0 }, record { 0 = 0 })).0.0;
          page = (unwrap_or (owner i) (record { 0 = 0 }, record { 0 = 0 })).1.0;
          referenced = flag i;
        })
        ∙ other_now g n

    pub lists-untaken : lists_of v ≡ lists_of t
    lists-untaken =
        let actives = ap (map (listed_at v)) (without-absent fr t.active absent_active)
        ∙ same_map (listed_at t) (listed_at v) t.active
        (λ g e. other_again g (other_taken fr g free (active_taken g e))) in
        let head : without fr u.inactive ≡ t.inactive =
        ap (λ b. cond b (without fr t.inactive) (fr ∷ without fr t.inactive)) (eq-eqb fr fr refl)
        ∙ without-absent fr t.inactive absent_inactive in
        let inactives = ap (map (listed_at v)) head
        ∙ same_map (listed_at t) (listed_at v) t.inactive
        (λ g e. other_again g (other_taken fr g free (inactive_taken g e))) in
        λ i. record { active = actives i; inactive = inactives i }

  -- ---- the border between the two lists moves

  abbrev older : Table
  older = table.aged t

  abbrev moving : List ℕ
  moving = drop (table.kept t) t.active

  pub kept_same : active_target (lists_of t) ≡ table.kept t
  kept_same =
      λ i. min (length-map t.active (listed_at t) i)
      ((length-map t.active (listed_at t) i + length-map t.inactive (listed_at t) i) / 2)

  flagged_within : (g : ℕ) → has g moving ≡ true → g < length t.referenced
  flagged_within g e = let h = taken_within t g (active_taken g (in_whole g (table.kept t) t.active e)) in
      omega (arith, h, sound.flags)

  inactive_stays : (g : ℕ) → has g t.inactive ≡ true → has g moving ≡ false
  inactive_stays g e =
      not_dropped g (table.kept t) t.active (elim (has g t.active) as (λ b. has g t.active ≡ b → b ≡ false) [
        | true ↦ λ h. absurd (false≢true (sym (sound.apart g h) ∙ e))
        | false ↦ λ h. refl
      ] refl)

  unmoved : (g : ℕ) → has g moving ≡ false → listed_at older g ≡ listed_at t g
  unmoved g e = λ i. record (listed_at t g) { referenced = not_cleared moving t.referenced g e i }

  moved : (g : ℕ) → has g moving ≡ true → listed_at older g ≡ unreferenced (listed_at t g)
  moved g e = λ i. record (listed_at t g) { referenced = is_cleared moving t.referenced g e flagged_within i }

  pub lists-aged : lists_of older ≡ aged (lists_of t)
  lists-aged =
      let n = table.kept t in
      let actives : map (listed_at older) (take n t.active) ≡ take (active_target (lists_of t))
      (map (listed_at t) t.active) =
      same_map (listed_at t) (listed_at older) (take n t.active)
      (λ g e. unmoved g (halves g n t.active sound.active_once e))
      ∙ sym (take-map (listed_at t) n t.active) ∙ ap (λ k. take k (map (listed_at t) t.active)) (sym kept_same) in
      let moves : map (listed_at older) moving
      ≡ map unreferenced (drop (active_target (lists_of t)) (map (listed_at t) t.active)) =
      map_after (listed_at t) (listed_at older) unreferenced moving moved
      ∙ ap (map unreferenced) (sym (drop-map (listed_at t) n t.active)
      ∙ ap (λ k. drop k (map (listed_at t) t.active)) (sym kept_same)) in
      let stays = same_map (listed_at t) (listed_at older) t.inactive (λ g e. unmoved g (inactive_stays g e)) in
      let inactives = map-append (listed_at older) moving t.inactive ∙ (λ i. moves i ++ stays i) in
      λ i. record { active = actives i; inactive = inactives i }

  -- ---- the frame of page p of file f is given back, and it is accessed

  module _ (f p fr : ℕ) (there : is_taken t fr ≡ true)
      (only : (g : ℕ) → is_taken t g ≡ true → is_of f p (listed_at t g) ≡ eqb g fr) where
    in_owners : fr < length t.owners
    in_owners = taken_within t fr there

    in_flags : fr < length t.referenced
    in_flags = omega (arith, in_owners, sound.flags)

    other_left : (g : ℕ) → eqb g fr ≡ false → listed_at (table.given t fr) g ≡ listed_at t g
    other_left g n =
        let owner = get_or-set t.owners fr g None None in_owners ∙ ap (λ b. cond b None (owner_of t g)) n in
        let flag = get_or-set t.referenced fr g false false in_flags ∙ ap (λ b. cond b false (is_referenced t g)) n in
        λ i. record {
          file = (unwrap_or (owner i) (record { 0 = 0 }, record { 0 = 0 })).0.0;
          page = (unwrap_or (owner i) (record { 0 = 0 }, record { 0 = 0 })).1.0;
          referenced = flag i;
        }

    pub lists-given : lists_of (table.given t fr) ≡ left f p (lists_of t)
    lists-given =
        let actives = map-without (listed_at t) (listed_at (table.given t fr)) (is_of f p) fr t.active
        (λ g e. only g (active_taken g e)) (λ g e n. other_left g n) in
        let inactives = map-without (listed_at t) (listed_at (table.given t fr)) (is_of f p) fr t.inactive
        (λ g e. only g (inactive_taken g e)) (λ g e n. other_left g n) in
        λ i. record { active = actives i; inactive = inactives i }

    -- the frame's flag is set so
    abbrev with_flag : Bool → Table
    with_flag flag = record t { referenced = slice_set t.referenced fr flag }

    flag_at : (flag : Bool) (g : ℕ) (b : Bool) → eqb g fr ≡ b
        → is_referenced (with_flag flag) g ≡ cond b flag (is_referenced t g)
    flag_at flag g b e = get_or-set t.referenced fr g flag false in_flags ∙ ap (λ c. cond c flag (is_referenced t g)) e

    other_flag : (flag : Bool) (g : ℕ) → eqb g fr ≡ false → listed_at (with_flag flag) g ≡ listed_at t g
    other_flag flag g n = λ i. record (listed_at t g) { referenced = flag_at flag g false n i }

    now_marked : (g : ℕ) → is_taken t g ≡ true → listed_at (with_flag true) g ≡ marked f p (listed_at t g)
    now_marked g e =
        elim (eqb g fr) as (λ b. eqb g fr ≡ b → listed_at (with_flag true) g ≡ marked f p (listed_at t g)) [
          | true ↦ λ s. (λ i. let y : Listed = record (listed_at t g) { referenced = flag_at true g true s i } in y)
              ∙ sym (ap (λ b. let y : Listed = cond b (record (listed_at t g) { referenced = true }) (listed_at t g) in
              y) (only g e ∙ s))
          | false ↦ λ s. other_flag true g s
              ∙ sym (ap (λ b. let y : Listed = cond b (record (listed_at t g) { referenced = true }) (listed_at t g) in
              y) (only g e ∙ s))
        ] refl

    map-marked : (xs : List ℕ) → ((g : ℕ) → has g xs ≡ true → is_taken t g ≡ true)
        → map (listed_at (with_flag true)) xs ≡ map (marked f p) (map (listed_at t) xs)
    map-marked xs h = map_after (listed_at t) (listed_at (with_flag true)) (marked f p) xs (λ g e. now_marked g (h g e))

    -- whether the frame is in the list and referenced
    any-referenced : (xs : List ℕ) → ((g : ℕ) → has g xs ≡ true → is_taken t g ≡ true)
        → list_any (λ (e : Listed). is_of f p e && e.referenced) (map (listed_at t) xs)
        ≡ (has fr xs && is_referenced t fr)
    any-referenced [] h = refl
    any-referenced (x ∷ xs) h =
        let rest = any-referenced xs (λ g e. h g (later g x xs e)) in
        (λ i. (only x (h x (has-head x xs)) i && is_referenced t x) || rest i)
        ∙ elim (eqb x fr) as (λ b. eqb x fr ≡ b → ((b && is_referenced t x) || (has fr xs && is_referenced t fr))
        ≡ ((b || has fr xs) && is_referenced t fr)) [
          | true ↦ λ s. ap (λ n. is_referenced t n || (has fr xs && is_referenced t fr)) (eqb-true x fr s)
              ∙ once (is_referenced t fr) (has fr xs)
          | false ↦ λ s. refl
        ] refl
      where
        once : (a b : Bool) → (a || (b && a)) ≡ a
        once true b = refl
        once false true = refl
        once false false = refl

    which_list : (a b : Bool) → (a || b) ≡ true → (a ≡ true → b ≡ false) → b ≡ not a
    which_list true b e apart = apart refl
    which_list false b e apart = e

    this_moved : (is_of f p (listed_at t fr) ≡ true)
        → listed_at (with_flag false) fr ≡ record { file = f; page = p; referenced = false }
    this_moved e =
        let d = listed_at t fr in
        let both = and_true (eqb d.file f) (eqb d.page p) e in
        λ i. record {
          file = eqb-true d.file f both.0 i;
          page = eqb-true d.page p both.1 i;
          referenced = flag_at false fr true (eq-eqb fr fr refl) i;
        }

    abbrev up : PageLists
    up = record {
      active = record { file = f; page = p; referenced = false } ∷ map (listed_at t) t.active;
      inactive = filter (λ e. not (is_of f p e)) (map (listed_at t) t.inactive);
    }

    abbrev here : PageLists
    here = record {
      active = map (marked f p) (map (listed_at t) t.active);
      inactive = map (marked f p) (map (listed_at t) t.inactive);
    }

    -- it is not among the active ones
    elsewhere : (g : ℕ) → has g t.active ≡ true → (not (has fr t.active) && is_referenced t fr) ≡ true
        → eqb g fr ≡ false
    elsewhere g h e = elim (eqb g fr) as (λ b. eqb g fr ≡ b → b ≡ false) [
      | true ↦ λ s. absurd (false≢true
          (ap (λ b. not b && is_referenced t fr) (sym (ap (λ n. has n t.active) (sym (eqb-true g fr s)) ∙ h)) ∙ e))
      | false ↦ λ s. refl
    ] refl

    either_list : (b : Bool) → (not (has fr t.active) && is_referenced t fr) ≡ b
        → lists_of (cond b (record t {
          active = fr ∷ t.active;
          inactive = without fr t.inactive;
          referenced = slice_set t.referenced fr false;
        }) (with_flag true)) ≡ cond b up here
    either_list true e =
        let actives = same_map (listed_at t) (listed_at (with_flag false)) t.active
        (λ g h. other_flag false g (elsewhere g h e)) in
        let inactives = map-without (listed_at t) (listed_at (with_flag false)) (is_of f p) fr t.inactive
        (λ g h. only g (inactive_taken g h)) (λ g h n. other_flag false g n) in
        λ i. record { active = this_moved (only fr there ∙ eq-eqb fr fr refl) i ∷ actives i; inactive = inactives i }
    either_list false e =
        λ i. record { active = map-marked t.active active_taken i; inactive = map-marked t.inactive inactive_taken i }

    pub lists-accessed : lists_of (table.accessed t fr) ≡ accessed f p (lists_of t)
    lists-accessed =
        let inactive : has fr t.inactive ≡ not (has fr t.active) = which_list (has fr t.active) (has fr t.inactive)
        (sym (sound.listed fr) ∙ there) (sound.apart fr) in
        let any : list_any (λ (e : Listed). is_of f p e && e.referenced) (map (listed_at t) t.inactive)
        ≡ (not (has fr t.active) && is_referenced t fr) = any-referenced t.inactive inactive_taken
        ∙ ap (λ b. b && is_referenced t fr) inactive in
        either_list (not (has fr t.active) && is_referenced t fr) refl ∙ sym (ap (λ b. cond b up here) any)
