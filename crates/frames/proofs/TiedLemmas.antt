-- The parts of the table of frames, as a frame is taken, given back, or moved from list to list.
use Rattle.std.proofs.Common.{None, Some, ◌≡◌, ◌∙◌, sym, ap, subst, refl, ℕ, zero, suc, ◌<◌, ◌≤◌, inl, inr, Bool, true, false, ◌||◌, List, [], ◌∷◌, length, map, get_or, slice_set, replicate, Option, is_some, is_none, arith, get_or-set_same, get_or-set_other, length-set}
use Rattle.std.proofs.lemmas.Bool.{cases_eq, cases_lt, false≢true}
use Rattle.std.proofs.lemmas.List.{get_or_past, get_or-map, get_or-replicate, length-replicate, map-set, length-map}
use Rattle.pc_types.specs.declared.ids.FileId.{FileId}
use Rattle.pc_types.specs.declared.ids.PageIndex.{PageIndex}
use Rattle.frames.specs.Sets.{is_in, IsLeast}
use Rattle.frames.specs.Lists.{Lists, has, without, IsWithoutDoubles}
use Rattle.frames.specs.Rows.{Grid, zero_rows, with_row}
use Rattle.frames.specs.Tied.{IsTied}
use Rattle.frames.proofs.ListLemmas.{has-head, has-other, has-without_same, has-without_other, once-without}
use Rattle.frames.proofs.RowLemmas.{length-rows_of}

abbrev pub Owner : Type 0
Owner = FileId × PageIndex

or_true : (b : Bool) → (b || true) ≡ true
or_true true = refl
or_true false = refl

or_left : (s t : Bool) → (s || t) ≡ false → s ≡ false
or_left true t e = e
or_left false t e = refl

or_right : (s t : Bool) → (s || t) ≡ false → t ≡ false
or_right true t e = absurd (false≢true (sym e))
or_right false t e = e

abbrev unowned : ℕ → List (Option Owner)
unowned n = replicate n None

map-is_none : (n : ℕ) → replicate n true ≡ map is_none (unowned n)
map-is_none zero = refl
map-is_none (suc n) = ap (λ (bs : List Bool). true ∷ bs) (map-is_none n)

no_owner : (n f : ℕ) → get_or (unowned n) f None ≡ None
no_owner n f = elim (cases_lt f n) [ inl h ↦ get_or-replicate n f None None h | inr h ↦ get_or_past (unowned n) f None (let size : length (unowned n) ≡ n = length-replicate n None in omega arith) ]

pub tied_new : (count size : ℕ) (lists : Lists) (free referenced : List Bool) (owners : List (Option Owner)) (bytes : Grid) → lists ≡ record { count = count; active = []; inactive = [] } → free ≡ replicate count true → referenced ≡ replicate count false → owners ≡ replicate count None → bytes ≡ record { size = size; rows = zero_rows size count } → count ≤ 65536 → IsTied lists free referenced owners bytes
tied_new count size lists free referenced owners bytes of_lists of_free of_referenced of_owners of_bytes bound =
    let size_is = ap (λ (os : List (Option Owner)). length os) of_owners ∙ length-replicate count None in
    record {
      count = ap (λ (l : Lists). l.count) of_lists ∙ sym size_is;
      flags = ap (λ (bs : List Bool). length bs) of_referenced ∙ length-replicate count false ∙ sym size_is;
      rows = ap (λ (g : Grid). length g.rows) of_bytes ∙ length-replicate count (replicate size 0) ∙ sym size_is;
      bound = omega arith;
      unowned = of_free ∙ map-is_none count ∙ ap (λ (os : List (Option Owner)). map is_none os) (sym of_owners);
      listed = λ f.
          ap (λ (os : List (Option Owner)). is_some (get_or os f None)) of_owners
          ∙ ap is_some (no_owner count f)
          ∙ ap (λ (l : Lists). has f l.active || has f l.inactive) (sym of_lists);
      active_once = let P : Lists → Type 0 = λ (l : Lists). IsWithoutDoubles l.active in subst P (sym of_lists) tt;
      inactive_once = let P : Lists → Type 0 = λ (l : Lists). IsWithoutDoubles l.inactive in subst P (sym of_lists) tt;
      apart = λ f there. ap (λ (l : Lists). has f l.inactive) of_lists;
    }

module _ (lists : Lists) (free referenced : List Bool) (owners : List (Option Owner)) (bytes : Grid) (t : IsTied lists free referenced owners bytes) where
  -- the free map says who has no owner
  free_is : (f : ℕ) → f < length owners → is_in free f ≡ is_none (get_or owners f None)
  free_is f h = ap (λ (bs : List Bool). get_or bs f false) t.unowned ∙ get_or-map is_none owners f None false h

  none_of_free : (o : Option Owner) → is_none o ≡ true → is_some o ≡ false
  none_of_free None e = refl
  none_of_free (Some o) e = absurd (false≢true e)

  some_of_taken : (o : Option Owner) → is_none o ≡ false → is_some o ≡ true
  some_of_taken None e = absurd (false≢true (sym e))
  some_of_taken (Some o) e = refl

  none_is : (o : Option Owner) → is_some o ≡ true → is_none o ≡ false
  none_is None e = absurd (false≢true e)
  none_is (Some o) e = refl

  pub frames_free : length free ≡ length owners
  frames_free = ap (λ (bs : List Bool). length bs) t.unowned ∙ length-map owners is_none

  pub not_free : (f : ℕ) → f < length owners → is_some (get_or owners f None) ≡ true → is_in free f ≡ false
  not_free f h e = free_is f h ∙ none_is (get_or owners f None) e

  pub within : (f : ℕ) → is_some (get_or owners f None) ≡ true → f < length owners
  within f e = elim (cases_lt f (length owners)) [ inl h ↦ h | inr h ↦ absurd (false≢true (ap is_some (sym (get_or_past owners f None h)) ∙ e)) ]

  pub lowest_untaken : (f : ℕ) → IsLeast free f → (f < length owners) × (is_some (get_or owners f None) ≡ false) × ((g : ℕ) → g < f → is_some (get_or owners g None) ≡ true)
  lowest_untaken f low =
      let here : f < length owners = omega (arith, low.within, frames_free) in (
        here,
        none_of_free (get_or owners f None) (sym (free_is f here) ∙ low.here),
        λ g less. some_of_taken (get_or owners g None) (sym (free_is g (omega arith)) ∙ low.lower g less),
      )

  pub absent_active : (f : ℕ) → is_some (get_or owners f None) ≡ false → has f lists.active ≡ false
  absent_active f e = or_left (has f lists.active) (has f lists.inactive) (sym (t.listed f) ∙ e)

  pub absent_inactive : (f : ℕ) → is_some (get_or owners f None) ≡ false → has f lists.inactive ≡ false
  absent_inactive f e = or_right (has f lists.active) (has f lists.inactive) (sym (t.listed f) ∙ e)

  pub tied_taken : (f : ℕ) (o : Owner) (lists' : Lists) (free' : List Bool) → f < length owners → is_some (get_or owners f None) ≡ false → lists' ≡ record lists { inactive = f ∷ lists.inactive } → free' ≡ slice_set free f false → IsTied lists' free' (slice_set referenced f false) (slice_set owners f (Some o)) bytes
  tied_taken f o lists' free' h e of_lists of_free = record {
    count = ap (λ (l : Lists). l.count) of_lists ∙ t.count ∙ sym (length-set owners f (Some o));
    flags = length-set referenced f false ∙ t.flags ∙ sym (length-set owners f (Some o));
    rows = t.rows ∙ sym (length-set owners f (Some o));
    bound = omega (arith, t.bound, length-set owners f (Some o));
    unowned = of_free ∙ ap (λ (bs : List Bool). slice_set bs f false) t.unowned ∙ sym (map-set is_none owners f (Some o));
    listed = λ g. elim (cases_eq g f) [
      | inl s ↦
          ap (λ (n : ℕ). is_some (get_or (slice_set owners f (Some o)) n None)) s
          ∙ ap is_some (get_or-set_same owners f (Some o) None h)
          ∙ sym (ap (λ (l : Lists). has g l.active || has g l.inactive) of_lists
          ∙ ap (λ (n : ℕ). has g lists.active || has n (f ∷ lists.inactive)) s
          ∙ ap (λ (b : Bool). has g lists.active || b) (has-head f lists.inactive)
          ∙ or_true (has g lists.active))
      | inr ne ↦
          ap is_some (get_or-set_other owners f g (Some o) None ne)
          ∙ t.listed g
          ∙ sym (ap (λ (l : Lists). has g l.active || has g l.inactive) of_lists
          ∙ ap (λ (b : Bool). has g lists.active || b) (has-other g f lists.inactive (λ k. ne (sym k))))
    ];
    active_once = let P : Lists → Type 0 = λ (l : Lists). IsWithoutDoubles l.active in subst P (sym of_lists) t.active_once;
    inactive_once = let P : Lists → Type 0 = λ (l : Lists). IsWithoutDoubles l.inactive in subst P (sym of_lists) (absent_inactive f e, t.inactive_once);
    apart = λ g there.
        let in_active : has g lists.active ≡ true = ap (λ (l : Lists). has g l.active) (sym of_lists) ∙ there in
        ap (λ (l : Lists). has g l.inactive) of_lists
        ∙ elim (cases_eq f g) [
          | inl s ↦ absurd (false≢true (sym (absent_active f e) ∙ (ap (λ (n : ℕ). has n lists.active) s ∙ in_active)))
          | inr ne ↦ has-other g f lists.inactive ne ∙ t.apart g in_active
        ];
  }

  pub tied_given : (f : ℕ) (lists' : Lists) (free' : List Bool) → f < length owners → lists' ≡ record lists { active = without f lists.active; inactive = without f lists.inactive } → free' ≡ slice_set free f true → IsTied lists' free' (slice_set referenced f false) (slice_set owners f None) bytes
  tied_given f lists' free' h of_lists of_free = record {
    count = ap (λ (l : Lists). l.count) of_lists ∙ t.count ∙ sym (length-set owners f None);
    flags = length-set referenced f false ∙ t.flags ∙ sym (length-set owners f None);
    rows = t.rows ∙ sym (length-set owners f None);
    bound = omega (arith, t.bound, length-set owners f None);
    unowned = of_free ∙ ap (λ (bs : List Bool). slice_set bs f true) t.unowned ∙ sym (map-set is_none owners f None);
    listed = λ g. elim (cases_eq g f) [
      | inl s ↦
          ap (λ (n : ℕ). is_some (get_or (slice_set owners f None) n None)) s
          ∙ ap is_some (get_or-set_same owners f None None h)
          ∙ sym (ap (λ (l : Lists). has g l.active || has g l.inactive) of_lists
          ∙ ap (λ (n : ℕ). has n (without f lists.active) || has n (without f lists.inactive)) s
          ∙ ap (λ (b : Bool). b || has f (without f lists.inactive)) (has-without_same f lists.active)
          ∙ has-without_same f lists.inactive)
      | inr ne ↦
          ap is_some (get_or-set_other owners f g None None ne)
          ∙ t.listed g
          ∙ sym (ap (λ (l : Lists). has g l.active || has g l.inactive) of_lists
          ∙ ap (λ (b : Bool). b || has g (without f lists.inactive)) (has-without_other f g lists.active ne)
          ∙ ap (λ (b : Bool). has g lists.active || b) (has-without_other f g lists.inactive ne))
    ];
    active_once = let P : Lists → Type 0 = λ (l : Lists). IsWithoutDoubles l.active in subst P (sym of_lists) (once-without f lists.active t.active_once);
    inactive_once = let P : Lists → Type 0 = λ (l : Lists). IsWithoutDoubles l.inactive in subst P (sym of_lists) (once-without f lists.inactive t.inactive_once);
    apart = λ g there.
        let in_active : has g (without f lists.active) ≡ true = ap (λ (l : Lists). has g l.active) (sym of_lists) ∙ there in
        ap (λ (l : Lists). has g l.inactive) of_lists
        ∙ elim (cases_eq g f) [
          | inl s ↦ ap (λ (n : ℕ). has n (without f lists.inactive)) s ∙ has-without_same f lists.inactive
          | inr ne ↦ has-without_other f g lists.inactive ne ∙ t.apart g (sym (has-without_other f g lists.active ne) ∙ in_active)
        ];
  }

  -- a frame goes from the inactive list to the active head
  pub tied_activated : (f : ℕ) (b : Bool) (lists' : Lists) → has f lists.inactive ≡ true → has f lists.active ≡ false → lists' ≡ record lists { active = f ∷ lists.active; inactive = without f lists.inactive } → IsTied lists' free (slice_set referenced f b) owners bytes
  tied_activated f b lists' there absent of_lists = record {
    count = ap (λ (l : Lists). l.count) of_lists ∙ t.count;
    flags = length-set referenced f b ∙ t.flags;
    rows = t.rows;
    bound = t.bound;
    unowned = t.unowned;
    listed = λ g. t.listed g ∙ elim (cases_eq g f) [
      | inl s ↦
          ap (λ (n : ℕ). has n lists.active || has n lists.inactive) s
          ∙ ap (λ (c : Bool). has f lists.active || c) there
          ∙ or_true (has f lists.active)
          ∙ sym (ap (λ (l : Lists). has g l.active || has g l.inactive) of_lists
          ∙ ap (λ (n : ℕ). has n (f ∷ lists.active) || has n (without f lists.inactive)) s
          ∙ ap (λ (c : Bool). c || has f (without f lists.inactive)) (has-head f lists.active))
      | inr ne ↦
          sym (ap (λ (l : Lists). has g l.active || has g l.inactive) of_lists
          ∙ ap (λ (c : Bool). c || has g (without f lists.inactive)) (has-other g f lists.active (λ k. ne (sym k)))
          ∙ ap (λ (c : Bool). has g lists.active || c) (has-without_other f g lists.inactive ne))
    ];
    active_once = let P : Lists → Type 0 = λ (l : Lists). IsWithoutDoubles l.active in subst P (sym of_lists) (absent, t.active_once);
    inactive_once = let P : Lists → Type 0 = λ (l : Lists). IsWithoutDoubles l.inactive in subst P (sym of_lists) (once-without f lists.inactive t.inactive_once);
    apart = λ g in_new.
        let in_active : has g (f ∷ lists.active) ≡ true = ap (λ (l : Lists). has g l.active) (sym of_lists) ∙ in_new in
        ap (λ (l : Lists). has g l.inactive) of_lists
        ∙ elim (cases_eq g f) [
          | inl s ↦ ap (λ (n : ℕ). has n (without f lists.inactive)) s ∙ has-without_same f lists.inactive
          | inr ne ↦ has-without_other f g lists.inactive ne ∙ t.apart g (sym (has-other g f lists.active (λ k. ne (sym k))) ∙ in_active)
        ];
  }

  -- a frame goes from the active list to the inactive head
  pub tied_deactivated : (f : ℕ) (b : Bool) (lists' : Lists) → has f lists.active ≡ true → lists' ≡ record lists { active = without f lists.active; inactive = f ∷ lists.inactive } → IsTied lists' free (slice_set referenced f b) owners bytes
  tied_deactivated f b lists' there of_lists = record {
    count = ap (λ (l : Lists). l.count) of_lists ∙ t.count;
    flags = length-set referenced f b ∙ t.flags;
    rows = t.rows;
    bound = t.bound;
    unowned = t.unowned;
    listed = λ g. t.listed g ∙ elim (cases_eq g f) [
      | inl s ↦
          ap (λ (n : ℕ). has n lists.active || has n lists.inactive) s
          ∙ ap (λ (c : Bool). c || has f lists.inactive) there
          ∙ sym (ap (λ (l : Lists). has g l.active || has g l.inactive) of_lists
          ∙ ap (λ (n : ℕ). has n (without f lists.active) || has n (f ∷ lists.inactive)) s
          ∙ ap (λ (c : Bool). has f (without f lists.active) || c) (has-head f lists.inactive)
          ∙ or_true (has f (without f lists.active)))
      | inr ne ↦
          sym (ap (λ (l : Lists). has g l.active || has g l.inactive) of_lists
          ∙ ap (λ (c : Bool). c || has g (f ∷ lists.inactive)) (has-without_other f g lists.active ne)
          ∙ ap (λ (c : Bool). has g lists.active || c) (has-other g f lists.inactive (λ k. ne (sym k))))
    ];
    active_once = let P : Lists → Type 0 = λ (l : Lists). IsWithoutDoubles l.active in subst P (sym of_lists) (once-without f lists.active t.active_once);
    inactive_once = let P : Lists → Type 0 = λ (l : Lists). IsWithoutDoubles l.inactive in subst P (sym of_lists) (t.apart f there, t.inactive_once);
    apart = λ g in_new.
        let in_active : has g (without f lists.active) ≡ true = ap (λ (l : Lists). has g l.active) (sym of_lists) ∙ in_new in
        ap (λ (l : Lists). has g l.inactive) of_lists
        ∙ elim (cases_eq g f) [
          | inl s ↦ absurd (false≢true (sym (ap (λ (n : ℕ). has n (without f lists.active)) s ∙ has-without_same f lists.active) ∙ in_active))
          | inr ne ↦ has-other g f lists.inactive (λ k. ne (sym k)) ∙ t.apart g (sym (has-without_other f g lists.active ne) ∙ in_active)
        ];
  }

  pub tied_laid : (f : ℕ) (row : List ℕ) (bytes' : Grid) → bytes' ≡ record bytes { rows = slice_set bytes.rows f row } → IsTied lists free referenced owners bytes'
  tied_laid f row bytes' e = record {
    count = t.count;
    flags = t.flags;
    rows = ap (λ (g : Grid). length g.rows) e ∙ length-set bytes.rows f row ∙ t.rows;
    bound = t.bound;
    unowned = t.unowned;
    listed = t.listed;
    active_once = t.active_once;
    inactive_once = t.inactive_once;
    apart = t.apart;
  }

  pub tied_lent : (f : ℕ) (w : List ℕ) → IsTied lists free referenced owners (record { size = bytes.size; rows = with_row bytes.size bytes.rows f w })
  tied_lent f w = record {
    count = t.count;
    flags = t.flags;
    rows = length-rows_of bytes.size (length bytes.rows) _ ∙ t.rows;
    bound = t.bound;
    unowned = t.unowned;
    listed = t.listed;
    active_once = t.active_once;
    inactive_once = t.inactive_once;
    apart = t.apart;
  }

  -- the frames of the lists are below the count
  pub active_below : (f : ℕ) → has f lists.active ≡ true → f < lists.count
  active_below f there =
      let below = within f (t.listed f ∙ ap (λ (b : Bool). b || has f lists.inactive) there) in
      omega (arith, t.count)

  pub inactive_below : (f : ℕ) → has f lists.inactive ≡ true → f < lists.count
  inactive_below f there =
      let below = within f (t.listed f ∙ ap (λ (b : Bool). has f lists.active || b) there ∙ or_true (has f lists.active)) in
      omega (arith, t.count)
