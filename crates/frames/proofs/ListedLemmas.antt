-- The two lists in one table of links, as a frame comes and goes.
use Rattle.std.proofs.Common.{◌≡◌, ◌≢◌, ◌∙◌, sym, ap, subst, refl, ℕ, zero, suc, ◌+◌, ◌-◌, ◌<◌, ◌≤◌, ◌⊎◌, inl, inr, Bool, true, false, eqb, ◌||◌, List, [], ◌∷◌, length, get_or, slice_set, count_by, take, arith, get_or-set_same, get_or-set_other, length-set}
use Rattle.std.proofs.lemmas.Bool.{cases_eq, cases_lt, false≢true}
use Rattle.std.proofs.lemmas.List.{get_or_past}
use Rattle.std.proofs.lemmas.List.Sums.{sum_by-set, count_by-le-length}
use Rattle.frames.proofs.SetLemmas.{one_if}
use Rattle.frames.specs.declared.link.Link.{Link}
use Rattle.frames.specs.declared.link.Place.{Place}
use Rattle.frames.specs.declared.link.Place.TheVariants.{Free, Active, Inactive}
use Rattle.frames.specs.Lists.{Lists, has, without, IsWithoutDoubles}
use Rattle.frames.specs.Rings.{next_of, prev_of, Chain, walk, Inserts, Unlinks, place_of, is_active, is_inactive, IsListed}
use Rattle.frames.proofs.ListLemmas.{has-head, has-other, apart, has-without_same, has-without_other, once-without, length-without, without-head, without-other}
use Rattle.frames.proofs.ChainLemmas.{walk-chain, Chain-same, Chain-first, Chain-inserted, prev_in, next_in, Chain-unlinked}

abbrev pub first_of : List Link → ℕ → ℕ → List ℕ
first_of links n head = walk links n (next_of links head)

abbrev pub view_of : List Link → List Place → ℕ → ℕ → Lists
view_of links places al il = record { count = length places; active = first_of links al (length places); inactive = first_of links il (length places + 1) }

abbrev pub IsClosed : List Link → List Place → ℕ → ℕ → Type 0
IsClosed links places al il = IsListed links places al il (first_of links al (length places)) (first_of links il (length places + 1))

module _ (links : List Link) (places : List Place) (al il : ℕ) (A I : List ℕ) (l : IsListed links places al il A I) where
  walks_active : first_of links al (length places) ≡ A
  walks_active = ap (λ (n : ℕ). first_of links n (length places)) l.active_total ∙ walk-chain links (length places) A (length places) l.actives

  walks_inactive : first_of links il (length places + 1) ≡ I
  walks_inactive = ap (λ (n : ℕ). first_of links n (length places + 1)) l.inactive_total ∙ walk-chain links (length places + 1) I (length places + 1) l.inactives

  pub closed : IsClosed links places al il
  closed =
      let Act : List ℕ → Type 0 = λ (xs : List ℕ). IsListed links places al il xs (first_of links il (length places + 1)) in
      let Ina : List ℕ → Type 0 = λ (xs : List ℕ). IsListed links places al il A xs in
      subst Act (sym walks_active) (subst Ina (sym walks_inactive) l)

  pub seen : view_of links places al il ≡ record { count = length places; active = A; inactive = I }
  seen =
      ap (λ (xs : List ℕ). let v : Lists = record { count = length places; active = xs; inactive = first_of links il (length places + 1) } in v) walks_active
      ∙ ap (λ (xs : List ℕ). let v : Lists = record { count = length places; active = A; inactive = xs } in v) walks_inactive

  -- nothing stands in a list past the last frame
  pub out_active : (x : ℕ) → length places ≤ x → has x A ≡ false
  out_active x h = l.in_active x ∙ ap is_active (get_or_past places x Free h)

  pub out_inactive : (x : ℕ) → length places ≤ x → has x I ≡ false
  out_inactive x h = l.in_inactive x ∙ ap is_inactive (get_or_past places x Free h)

  pub below_active : (x : ℕ) → has x A ≡ true → x < length places
  below_active x h = elim (cases_lt x (length places)) [ inl k ↦ k | inr k ↦ absurd (false≢true (sym (out_active x k) ∙ h)) ]

  pub below_inactive : (x : ℕ) → has x I ≡ true → x < length places
  below_inactive x h = elim (cases_lt x (length places)) [ inl k ↦ k | inr k ↦ absurd (false≢true (sym (out_inactive x k) ∙ h)) ]

  -- no frame is in both
  pub not_inactive : (x : ℕ) → has x A ≡ true → has x I ≡ false
  not_inactive x h = l.in_inactive x ∙ only (place_of places x) (sym (l.in_active x) ∙ h)
    where
      only : (p : Place) → is_active p ≡ true → is_inactive p ≡ false
      only Free e = refl
      only Active e = refl
      only Inactive e = absurd (false≢true e)

  pub not_active : (x : ℕ) → has x I ≡ true → has x A ≡ false
  not_active x h = l.in_active x ∙ only (place_of places x) (sym (l.in_inactive x) ∙ h)
    where
      only : (p : Place) → is_inactive p ≡ true → is_active p ≡ false
      only Free e = refl
      only Active e = absurd (false≢true e)
      only Inactive e = refl

  -- the places that the links of the two lists name
  pub first_active : next_of links (length places) < length links
  first_active = elim (Chain-first links (length places) A (length places) l.actives) [ inl e ↦ omega (arith, l.heads) | inr h ↦ omega (arith, l.heads, below_active (next_of links (length places)) h) ]

  pub first_inactive : next_of links (length places + 1) < length links
  first_inactive = elim (Chain-first links (length places + 1) I (length places + 1) l.inactives) [ inl e ↦ omega (arith, l.heads) | inr h ↦ omega (arith, l.heads, below_inactive (next_of links (length places + 1)) h) ]

  pub around_active : (f : ℕ) → has f A ≡ true → (prev_of links f < length links) × (next_of links f < length links)
  around_active f h = (
    elim (prev_in links (length places) f A (length places) h l.actives) [ inl e ↦ omega (arith, l.heads) | inr k ↦ omega (arith, l.heads, below_active (prev_of links f) k) ],
    elim (next_in links (length places) f A (length places) h l.actives) [ inl e ↦ omega (arith, l.heads) | inr k ↦ omega (arith, l.heads, below_active (next_of links f) k) ],
  )

  pub around_inactive : (f : ℕ) → has f I ≡ true → (prev_of links f < length links) × (next_of links f < length links)
  around_inactive f h = (
    elim (prev_in links (length places + 1) f I (length places + 1) h l.inactives) [ inl e ↦ omega (arith, l.heads) | inr k ↦ omega (arith, l.heads, below_inactive (prev_of links f) k) ],
    elim (next_in links (length places + 1) f I (length places + 1) h l.inactives) [ inl e ↦ omega (arith, l.heads) | inr k ↦ omega (arith, l.heads, below_inactive (next_of links f) k) ],
  )

-- a ring that has neither the head nor a frame of the one that changes
abbrev IsClear : ℕ → List ℕ → ℕ → List ℕ → Type 0
IsClear o B h A = (x : ℕ) → (x ≡ o) ⊎ (has x B ≡ true) → (x ≢ h) × (has x A ≡ false)

insert_elsewhere : (old new : List Link) (h f o : ℕ) (A B : List ℕ) → Chain old h A h → Inserts old h f new → IsClear o B h A → o ≢ f → has f B ≡ false → Chain old o B o → Chain new o B o
insert_elsewhere old new h f o A B ring ins clear not_f absent other =
    let not_frame : (x : ℕ) → (x ≡ o) ⊎ (has x B ≡ true) → x ≢ f = λ x which. elim which [ inl e ↦ λ k. not_f (sym e ∙ k) | inr there ↦ apart x f B there absent ] in
    Chain-same old new o B o
    (λ x which. ins.next_others x (clear x which).0 (not_frame x which))
    (λ x which. ins.prev_others x
    (elim (Chain-first old h A h ring) [ inl e ↦ λ k. (clear x which).0 (k ∙ e) | inr there ↦ λ k. apart (next_of old h) x A there (clear x which).1 (sym k) ])
    (not_frame x which))
    other

unlink_elsewhere : (old new : List Link) (h f o : ℕ) (A B : List ℕ) → Chain old h A h → has f A ≡ true → Unlinks old f new → IsClear o B h A → Chain old o B o → Chain new o B o
unlink_elsewhere old new h f o A B ring there out clear other =
    Chain-same old new o B o
    (λ x which. out.next_others x (elim (prev_in old h f A h there ring) [ inl e ↦ λ k. (clear x which).0 (k ∙ e) | inr p ↦ λ k. apart (prev_of old f) x A p (clear x which).1 (sym k) ]))
    (λ x which. out.prev_others x (elim (next_in old h f A h there ring) [ inl e ↦ λ k. (clear x which).0 (k ∙ e) | inr n ↦ λ k. apart (next_of old f) x A n (clear x which).1 (sym k) ]))
    other

-- the places after one of them changed
place_same : (places : List Place) (f : ℕ) (p : Place) → f < length places → place_of (slice_set places f p) f ≡ p
place_same places f p h = get_or-set_same places f p Free h

place_other : (places : List Place) (f g : ℕ) (p : Place) → g ≢ f → place_of (slice_set places f p) g ≡ place_of places g
place_other places f g p ne = get_or-set_other places f g p Free ne

-- how many places pass a test, after one of them changed
counted_set : (p : Place → Bool) (places : List Place) (f : ℕ) (q : Place) (was : Bool) → f < length places → p (place_of places f) ≡ was → count_by p (slice_set places f q) + one_if was ≡ count_by p places + one_if (p q)
counted_set p places f q was within e =
    let step = sum_by-set (λ (x : Place). one_if (p x)) places f q Free within in
    let before = ap one_if e in
    omega (arith, step, before)

module _ (links new : List Link) (places : List Place) (al il : ℕ) (A I : List ℕ) (l : IsListed links places al il A I) (f : ℕ) where
  clear_inactive : IsClear (length places + 1) I (length places) A
  clear_inactive x which =
      elim which [
        | inl e ↦ (λ k. omega arith, out_active links places al il A I l x (omega arith))
        | inr there ↦ let below = below_inactive links places al il A I l x there in (λ k. omega arith, not_active links places al il A I l x there)
      ]

  clear_active : IsClear (length places) A (length places + 1) I
  clear_active x which =
      elim which [
        | inl e ↦ (λ k. omega arith, out_inactive links places al il A I l x (omega arith))
        | inr there ↦ let below = below_active links places al il A I l x there in (λ k. omega arith, not_inactive links places al il A I l x there)
      ]

  module _ (within : f < length places) (no_active : has f A ≡ false) (no_inactive : has f I ≡ false) where
    pub pushed_active : Inserts links (length places) f new → IsListed new (slice_set places f Active) (al + 1) il (f ∷ A) I
    pushed_active ins =
        let size = length-set places f Active in
        let n = length places in
        let Act : ℕ → Type 0 = λ (n : ℕ). Chain new n (f ∷ A) n in
        let Ina : ℕ → Type 0 = λ (n : ℕ). Chain new (n + 1) I (n + 1) in
        let out_head = out_active links places al il A I l n (omega arith) in
        record {
          heads = omega (arith, ins.size, l.heads, size);
          bound = omega (arith, l.bound, size);
          actives = subst Act (sym size) (Chain-inserted links new n f A n no_active out_head (λ k. omega arith) (λ k. omega arith) l.active_once out_head l.actives ins);
          inactives = subst Ina (sym size) (insert_elsewhere links new n f (n + 1) A I l.actives ins clear_inactive (λ k. omega arith) no_inactive l.inactives);
          in_active = λ g. elim (cases_eq g f) [
            | inl e ↦ ap (λ (n : ℕ). has n (f ∷ A)) e ∙ has-head f A ∙ sym (ap (λ (n : ℕ). is_active (place_of (slice_set places f Active) n)) e ∙ ap is_active (place_same places f Active within))
            | inr ne ↦ has-other g f A (λ k. ne (sym k)) ∙ l.in_active g ∙ ap is_active (sym (place_other places f g Active ne))
          ];
          in_inactive = λ g. elim (cases_eq g f) [
            | inl e ↦ ap (λ (n : ℕ). has n I) e ∙ no_inactive ∙ sym (ap (λ (n : ℕ). is_inactive (place_of (slice_set places f Active) n)) e ∙ ap is_inactive (place_same places f Active within))
            | inr ne ↦ l.in_inactive g ∙ ap is_inactive (sym (place_other places f g Active ne))
          ];
          active_once = (no_active, l.active_once);
          inactive_once = l.inactive_once;
          active_total = omega (arith, l.active_total);
          inactive_total = l.inactive_total;
          active_counted = omega (arith, l.active_counted, counted_set is_active places f Active false within (sym (l.in_active f) ∙ no_active));
          inactive_counted = omega (arith, l.inactive_counted, counted_set is_inactive places f Active false within (sym (l.in_inactive f) ∙ no_inactive));
        }

    pub pushed_inactive : Inserts links (length places + 1) f new → IsListed new (slice_set places f Inactive) al (il + 1) A (f ∷ I)
    pushed_inactive ins =
        let size = length-set places f Inactive in
        let n = length places in
        let Act : ℕ → Type 0 = λ (n : ℕ). Chain new n A n in
        let Ina : ℕ → Type 0 = λ (n : ℕ). Chain new (n + 1) (f ∷ I) (n + 1) in
        let out_head = out_inactive links places al il A I l (n + 1) (omega arith) in
        record {
          heads = omega (arith, ins.size, l.heads, size);
          bound = omega (arith, l.bound, size);
          actives = subst Act (sym size) (insert_elsewhere links new (n + 1) f n I A l.inactives ins clear_active (λ k. omega arith) no_active l.actives);
          inactives = subst Ina (sym size) (Chain-inserted links new (n + 1) f I (n + 1) no_inactive out_head (λ k. omega arith) (λ k. omega arith) l.inactive_once out_head l.inactives ins);
          in_active = λ g. elim (cases_eq g f) [
            | inl e ↦ ap (λ (n : ℕ). has n A) e ∙ no_active ∙ sym (ap (λ (n : ℕ). is_active (place_of (slice_set places f Inactive) n)) e ∙ ap is_active (place_same places f Inactive within))
            | inr ne ↦ l.in_active g ∙ ap is_active (sym (place_other places f g Inactive ne))
          ];
          in_inactive = λ g. elim (cases_eq g f) [
            | inl e ↦ ap (λ (n : ℕ). has n (f ∷ I)) e ∙ has-head f I ∙ sym (ap (λ (n : ℕ). is_inactive (place_of (slice_set places f Inactive) n)) e ∙ ap is_inactive (place_same places f Inactive within))
            | inr ne ↦ has-other g f I (λ k. ne (sym k)) ∙ l.in_inactive g ∙ ap is_inactive (sym (place_other places f g Inactive ne))
          ];
          active_once = l.active_once;
          inactive_once = (no_inactive, l.inactive_once);
          active_total = l.active_total;
          inactive_total = omega (arith, l.inactive_total);
          active_counted = omega (arith, l.active_counted, counted_set is_active places f Inactive false within (sym (l.in_active f) ∙ no_active));
          inactive_counted = omega (arith, l.inactive_counted, counted_set is_inactive places f Inactive false within (sym (l.in_inactive f) ∙ no_inactive));
        }

  pub removed_active : has f A ≡ true → Unlinks links f new → IsListed new (slice_set places f Free) (al - 1) il (without f A) I
  removed_active there out =
      let within = below_active links places al il A I l f there in
      let no_inactive = not_inactive links places al il A I l f there in
      let size = length-set places f Free in
      let n = length places in
      let Act : ℕ → Type 0 = λ (n : ℕ). Chain new n (without f A) n in
      let Ina : ℕ → Type 0 = λ (n : ℕ). Chain new (n + 1) I (n + 1) in
      let out_head = out_active links places al il A I l n (omega arith) in
      record {
        heads = omega (arith, out.size, l.heads, size);
        bound = omega (arith, l.bound, size);
        actives = subst Act (sym size) (Chain-unlinked links new n f A n there out_head out_head l.active_once l.actives out);
        inactives = subst Ina (sym size) (unlink_elsewhere links new n f (n + 1) A I l.actives there out clear_inactive l.inactives);
        in_active = λ g. elim (cases_eq g f) [
          | inl e ↦ ap (λ (n : ℕ). has n (without f A)) e ∙ has-without_same f A ∙ sym (ap (λ (n : ℕ). is_active (place_of (slice_set places f Free) n)) e ∙ ap is_active (place_same places f Free within))
          | inr ne ↦ has-without_other f g A ne ∙ l.in_active g ∙ ap is_active (sym (place_other places f g Free ne))
        ];
        in_inactive = λ g. elim (cases_eq g f) [
          | inl e ↦ ap (λ (n : ℕ). has n I) e ∙ no_inactive ∙ sym (ap (λ (n : ℕ). is_inactive (place_of (slice_set places f Free) n)) e ∙ ap is_inactive (place_same places f Free within))
          | inr ne ↦ l.in_inactive g ∙ ap is_inactive (sym (place_other places f g Free ne))
        ];
        active_once = once-without f A l.active_once;
        inactive_once = l.inactive_once;
        active_total = omega (arith, l.active_total, length-without f A l.active_once there);
        inactive_total = l.inactive_total;
        active_counted = omega (arith, l.active_counted, length-without f A l.active_once there, counted_set is_active places f Free true within (sym (l.in_active f) ∙ there));
        inactive_counted = omega (arith, l.inactive_counted, counted_set is_inactive places f Free false within (sym (l.in_inactive f) ∙ no_inactive));
      }

  pub removed_inactive : has f I ≡ true → Unlinks links f new → IsListed new (slice_set places f Free) al (il - 1) A (without f I)
  removed_inactive there out =
      let within = below_inactive links places al il A I l f there in
      let no_active = not_active links places al il A I l f there in
      let size = length-set places f Free in
      let n = length places in
      let Act : ℕ → Type 0 = λ (n : ℕ). Chain new n A n in
      let Ina : ℕ → Type 0 = λ (n : ℕ). Chain new (n + 1) (without f I) (n + 1) in
      let out_head = out_inactive links places al il A I l (n + 1) (omega arith) in
      record {
        heads = omega (arith, out.size, l.heads, size);
        bound = omega (arith, l.bound, size);
        actives = subst Act (sym size) (unlink_elsewhere links new (n + 1) f n I A l.inactives there out clear_active l.actives);
        inactives = subst Ina (sym size) (Chain-unlinked links new (n + 1) f I (n + 1) there out_head out_head l.inactive_once l.inactives out);
        in_active = λ g. elim (cases_eq g f) [
          | inl e ↦ ap (λ (n : ℕ). has n A) e ∙ no_active ∙ sym (ap (λ (n : ℕ). is_active (place_of (slice_set places f Free) n)) e ∙ ap is_active (place_same places f Free within))
          | inr ne ↦ l.in_active g ∙ ap is_active (sym (place_other places f g Free ne))
        ];
        in_inactive = λ g. elim (cases_eq g f) [
          | inl e ↦ ap (λ (n : ℕ). has n (without f I)) e ∙ has-without_same f I ∙ sym (ap (λ (n : ℕ). is_inactive (place_of (slice_set places f Free) n)) e ∙ ap is_inactive (place_same places f Free within))
          | inr ne ↦ has-without_other f g I ne ∙ l.in_inactive g ∙ ap is_inactive (sym (place_other places f g Free ne))
        ];
        active_once = l.active_once;
        inactive_once = once-without f I l.inactive_once;
        active_total = l.active_total;
        inactive_total = omega (arith, l.inactive_total, length-without f I l.inactive_once there);
        active_counted = omega (arith, l.active_counted, counted_set is_active places f Free false within (sym (l.in_active f) ∙ no_active));
        inactive_counted = omega (arith, l.inactive_counted, length-without f I l.inactive_once there, counted_set is_inactive places f Free true within (sym (l.in_inactive f) ∙ there));
      }

-- fewer frames are listed than there are places
pub few_active : (links : List Link) (places : List Place) (al il : ℕ) (A I : List ℕ) → IsListed links places al il A I → al ≤ 65536
few_active links places al il A I l = omega (arith, l.active_total, l.active_counted, l.bound, count_by-le-length is_active places)

pub few_inactive : (links : List Link) (places : List Place) (al il : ℕ) (A I : List ℕ) → IsListed links places al il A I → il ≤ 65536
few_inactive links places al il A I l = omega (arith, l.inactive_total, l.inactive_counted, l.bound, count_by-le-length is_inactive places)

-- the last frame of a list, and the list without it
pub last_has : (f k : ℕ) (xs : List ℕ) → length xs ≡ suc k → get_or xs k 0 ≡ f → has f xs ≡ true
last_has f k [] size e = absurd (omega arith)
last_has f zero (x ∷ xs) size e = ap (λ (n : ℕ). has n (x ∷ xs)) (sym e) ∙ has-head x xs
last_has f (suc k) (x ∷ xs) size e = or_true (eqb x f) (has f xs) (last_has f k xs (omega arith) e)
  where
    or_true : (s t : Bool) → t ≡ true → (s || t) ≡ true
    or_true true t e = refl
    or_true false t e = e

pub front_of : (f k : ℕ) (xs : List ℕ) → IsWithoutDoubles xs → length xs ≡ suc k → get_or xs k 0 ≡ f → without f xs ≡ take k xs
front_of f k [] once size e = absurd (omega arith)
front_of f zero (x ∷ []) once size e = ap (λ (n : ℕ). without n (x ∷ [])) (sym e) ∙ without-head x []
front_of f zero (x ∷ y ∷ ys) once size e = absurd (omega arith)
front_of f (suc k) (x ∷ xs) once size e =
    let there = last_has f k xs (omega arith) e in
    without-other f x xs (λ s. apart f x xs there once.0 (sym s)) ∙ ap (λ (ys : List ℕ). x ∷ ys) (front_of f k xs once.1 (omega arith) e)

pub last_of : (links : List Link) (a k : ℕ) (xs : List ℕ) (b : ℕ) → Chain links a xs b → length xs ≡ suc k → get_or xs k 0 ≡ prev_of links b
last_of links a k [] b chain size = absurd (omega arith)
last_of links a zero (x ∷ []) b chain size = sym chain.2.1
last_of links a zero (x ∷ y ∷ ys) b chain size = absurd (omega arith)
last_of links a (suc k) (x ∷ xs) b chain size = last_of links x k xs b chain.2 (omega arith)
