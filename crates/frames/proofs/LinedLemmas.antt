-- A list in the order of its turns, and its first frame that is not set aside.
use Rattle.std.proofs.Common.{◌≡◌, ◌∙◌, sym, ap, subst, refl, ℕ, ◌<◌, inl, inr, Bool, true, false, not, cond, eqb, ◌&&◌, ◌||◌, List, [], ◌∷◌, ◌++◌, length, reverse, get_or, slice_set, replicate, arith, get_or-set_same, get_or-set_other, length-set}
use Rattle.std.specs.Prelude.{Option, Some, None, find}
use Rattle.std.specs.Option.{option_or}
use Rattle.std.proofs.lemmas.Bool.{cases_eq, cases_lt, false≢true}
use Rattle.std.proofs.lemmas.Bool.Decides.{eqb_tells}
use Rattle.std.proofs.lemmas.List.{get_or_past, length-replicate}
use Rattle.std.proofs.lemmas.List.Folds.{find-append}
use Rattle.std.proofs.lemmas.Grind.{reverse_onto}
use Rattle.frames.specs.Lists.{Lists, has, without}
use Rattle.frames.specs.Sets.{is_in}
use Rattle.frames.specs.Order.{Turns, turn_of, NoneWaits, IsFirst, ComesLast, IsIdle, Falls, IsLined, IsInOrder}
use Rattle.frames.proofs.OrderLemmas.{none_in, unset}
use Rattle.frames.proofs.ListLemmas.{apart, has-head, has-other, has-without_same, has-without_other, in_without, without-absent}

or_true : (s t : Bool) → t ≡ true → (s || t) ≡ true
or_true true t e = refl
or_true false t e = e

-- a flag that was cleared, also one that there is not
pub cleared_same : (flags : List Bool) (f : ℕ) → get_or (slice_set flags f false) f false ≡ false
cleared_same flags f =
    elim (cases_lt f (length flags)) [
      | inl h ↦ get_or-set_same flags f false false h
      | inr h ↦ get_or_past (slice_set flags f false) f false (omega (arith, length-set flags f false))
    ]

-- ---- the turns fall

pub falls_kept : (old new xs : List ℕ) → Falls old xs
    → ((f g : ℕ) → has f xs ≡ true → has g xs ≡ true → turn_of old f < turn_of old g → turn_of new f < turn_of new g)
    → Falls new xs
falls_kept old new [] falls keeps = tt
falls_kept old new (x ∷ xs) falls keeps = (
  λ f h. keeps f x (or_true (eqb x f) (has f xs) h) (has-head x xs) (falls.0 f h),
  falls_kept old new xs falls.1 (λ f g in_f in_g. keeps f g (or_true (eqb x f) (has f xs) in_f) (or_true (eqb x g) (has g xs) in_g)),
)

pub falls_without : (turns : List ℕ) (f : ℕ) (xs : List ℕ) → Falls turns xs → Falls turns (without f xs)
falls_without turns f [] falls = tt
falls_without turns f (x ∷ xs) falls =
    elim (eqb x f) as (λ b. Falls turns (cond b (without f xs) (x ∷ without f xs))) [
      | true ↦ falls_without turns f xs falls.1
      | false ↦ (λ g h. falls.0 g (in_without g f xs h).1, falls_without turns f xs falls.1)
    ]

-- ---- the frames that wait, as a list or a flag changes

module _ (turns : List ℕ) (waits aside : List Bool) (xs : List ℕ) (l : IsLined turns waits aside xs) (f : ℕ) where
  -- a frame left the list, or was in another one
  pub lined_left : IsLined turns (slice_set waits f false) aside (without f xs)
  lined_left = record {
    size = length-set waits f false ∙ l.size;
    falls = falls_without turns f xs l.falls;
    each = λ g. elim (cases_eq g f) [
      | inl s ↦
          ap (is_in (slice_set waits f false)) s
          ∙ cleared_same waits f
          ∙ sym (ap (λ b. b && not (get_or aside g false)) (ap (λ k. has k (without f xs)) s ∙ has-without_same f xs))
      | inr ne ↦
          get_or-set_other waits f g false false ne
          ∙ l.each g
          ∙ sym (ap (λ b. b && not (get_or aside g false)) (has-without_other f g xs ne))
    ];
  }

  -- a frame that is not in the list does not wait in it
  pub idle : has f xs ≡ false → is_in waits f ≡ false
  idle absent = l.each f ∙ ap (λ b. b && not (get_or aside f false)) absent

  -- and one that is in it waits if it is not set aside
  pub waits_if : has f xs ≡ true → is_in waits f ≡ not (get_or aside f false)
  waits_if there = l.each f ∙ ap (λ b. b && not (get_or aside f false)) there

  -- a frame came to the head of the list, or of another one
  module _ (new : List ℕ) (last : ComesLast turns f new) (absent : has f xs ≡ false) (within : (g : ℕ) → has g xs ≡ true → g < length turns) where
    falls_after : Falls new xs
    falls_after =
        falls_kept turns new xs l.falls
        (λ g h in_g in_h. last.order g h (within g in_g) (within h in_h) (apart g f xs in_g absent) (apart h f xs in_h absent))

    pub lined_elsewhere : IsLined new waits aside xs
    lined_elsewhere = record { size = l.size ∙ sym last.size; falls = falls_after; each = l.each }

    pub lined_head : f < length turns → IsLined new (slice_set waits f (not (get_or aside f false))) aside (f ∷ xs)
    lined_head in_f =
        let waits_f = not (get_or aside f false) in
        record {
          size = length-set waits f waits_f ∙ l.size ∙ sym last.size;
          falls = (λ g h. last.last g (within g h) (apart g f xs h absent), falls_after);
          each = λ g. elim (cases_eq g f) [
            | inl s ↦
                ap (is_in (slice_set waits f waits_f)) s
                ∙ get_or-set_same waits f waits_f false (omega (arith, l.size))
                ∙ sym (ap (λ b. b && waits_f) (has-head f xs))
                ∙ ap (λ k. has k (f ∷ xs) && not (get_or aside k false)) (sym s)
            | inr ne ↦
                get_or-set_other waits f g waits_f false ne
                ∙ l.each g
                ∙ sym (ap (λ b. b && not (get_or aside g false)) (has-other g f xs (λ e. ne (sym e))))
          ];
        }

  -- the flag of a frame that is not in the list
  pub lined_other : has f xs ≡ false → IsLined turns waits (slice_set aside f false) xs
  lined_other absent = record {
    size = l.size;
    falls = l.falls;
    each = λ g. l.each g ∙ elim (cases_eq g f) [
      | inl s ↦
          let out : has g xs ≡ false = ap (λ k. has k xs) s ∙ absent in
          ap (λ b. b && not (get_or aside g false)) out
          ∙ sym (ap (λ b. b && not (get_or (slice_set aside f false) g false)) out)
      | inr ne ↦ sym (ap (λ b. has g xs && not b) (get_or-set_other aside f g false false ne))
    ];
  }

-- ---- what the search finds

find_reverse : (test : ℕ → Bool) (x : ℕ) (xs : List ℕ)
    → find test (reverse (x ∷ xs)) ≡ option_or (find test (reverse xs)) (find test (x ∷ []))
find_reverse test x xs = ap (find test) (reverse_onto xs x []) ∙ find-append test (reverse xs) (x ∷ [])

module _ (aside : List Bool) where
  abbrev waiting : ℕ → Bool
  waiting f = not (get_or aside f false)

  none_waits : (xs : List ℕ) → ((f : ℕ) → has f xs ≡ true → waiting f ≡ false) → find waiting (reverse xs) ≡ None
  none_waits [] h = refl
  none_waits (x ∷ xs) h =
      find_reverse waiting x xs
      ∙ ap (λ (o : Option ℕ). option_or o (find waiting (x ∷ [])))
      (none_waits xs (λ f k. h f (or_true (eqb x f) (has f xs) k)))
      ∙ ap (λ b. cond b (Some x) None) (h x (has-head x xs))

  first_waits : (turns : List ℕ) (f : ℕ) (xs : List ℕ) → Falls turns xs → has f xs ≡ true → waiting f ≡ true
      → ((g : ℕ) → has g xs ≡ true → turn_of turns g < turn_of turns f → waiting g ≡ false)
      → find waiting (reverse xs) ≡ Some f
  first_waits turns f [] falls there here lower = absurd (false≢true there)
  first_waits turns f (x ∷ xs) falls there here lower =
      find_reverse waiting x xs
      ∙ elim (eqb_tells x f) [
        | inl s ↦
            ap (λ (o : Option ℕ). option_or o (find waiting (x ∷ [])))
            (none_waits xs (λ g h. lower g (or_true (eqb x g) (has g xs) h)
            (subst (λ k. turn_of turns g < turn_of turns k) s.1 (falls.0 g h))))
            ∙ ap (λ b. cond b (Some x) None) (ap waiting s.1 ∙ here)
            ∙ ap (λ k. Some k) s.1
        | inr d ↦
            ap (λ (o : Option ℕ). option_or o (find waiting (x ∷ [])))
            (first_waits turns f xs falls.1 (sym (has-other f x xs d.1) ∙ there) here
            (λ g h. lower g (or_true (eqb x g) (has g xs) h)))
      ]

  both : (s t : Bool) → (s && t) ≡ true → (s ≡ true) × (t ≡ true)
  both true true e = (refl, refl)
  both true false e = absurd (false≢true e)
  both false t e = absurd (false≢true e)

  neither : (s t : Bool) → (s && t) ≡ false → s ≡ true → t ≡ false
  neither true t e there = e
  neither false t e there = absurd (false≢true there)

  module _ (turns : List ℕ) (waits : List Bool) (xs : List ℕ) (l : IsLined turns waits aside xs) where
    pub found_none : NoneWaits waits → None ≡ find waiting (reverse xs)
    found_none none =
        sym (none_waits xs (λ f h. neither (has f xs) (waiting f) (sym (l.each f) ∙ none f) h))

    pub found_some : (f : ℕ) → IsFirst turns waits f → Some f ≡ find waiting (reverse xs)
    found_some f first =
        let here = both (has f xs) (waiting f) (sym (l.each f) ∙ first.here) in
        sym (first_waits turns f xs l.falls here.0 here.1
        (λ g h less. neither (has g xs) (waiting g) (sym (l.each g) ∙ first.lower g less) h))

-- it is found in the first list, or in the second one
pub found_in_first : (test : ℕ → Bool) (xs ys : List ℕ) (f : ℕ) → Some f ≡ find test xs → Some f ≡ find test (xs ++ ys)
found_in_first test xs ys f e =
    sym (find-append test xs ys ∙ ap (λ (o : Option ℕ). option_or o (find test ys)) (sym e))

pub found_in_second : (test : ℕ → Bool) (xs ys : List ℕ) (r : Option ℕ) → None ≡ find test xs → r ≡ find test ys → r ≡ find test (xs ++ ys)
found_in_second test xs ys r none e =
    sym (find-append test xs ys ∙ ap (λ (o : Option ℕ). option_or o (find test ys)) (sym none) ∙ sym e)

-- ---- the two lists

pub in_order_new : (count : ℕ) (lists : Lists) (aside : List Bool) (o : Turns)
    → lists ≡ record { count = count; active = []; inactive = [] } → aside ≡ replicate count false → IsIdle count o
    → IsInOrder lists aside o
in_order_new count lists aside o of_lists of_aside idle =
    let P : Lists → Type 0 = λ (l : Lists). IsInOrder l aside o in
    let empty : (waits : List Bool) → waits ≡ replicate count false → IsLined o.turns waits aside [] = λ waits e. record {
      size = ap (λ (ws : List Bool). length ws) e ∙ length-replicate count false ∙ sym idle.size;
      falls = tt;
      each = λ f. ap (λ (ws : List Bool). is_in ws f) e ∙ none_in count f;
    } in
    subst P (sym of_lists) (record {
      asides = ap (λ (bs : List Bool). length bs) of_aside ∙ length-replicate count false;
      size = idle.size;
      actives = empty o.active idle.active;
      inactives = empty o.inactive idle.inactive;
    })

module _ (lists : Lists) (aside : List Bool) (o : Turns) (n : IsInOrder lists aside o) (f : ℕ) where
  -- a frame left its list
  pub in_order_left : (now : Lists) (o' : Turns)
      → now ≡ record lists { active = without f lists.active; inactive = without f lists.inactive }
      → o' ≡ record o { active = slice_set o.active f false; inactive = slice_set o.inactive f false } → IsInOrder now aside o'
  in_order_left now o' of_lists of_order =
      let P : Lists → Type 0 = λ (l : Lists). IsInOrder l aside o' in
      let Q : Turns → Type 0 = λ (p : Turns). IsInOrder (record lists { active = without f lists.active; inactive = without f lists.inactive }) aside p in
      subst P (sym of_lists) (subst Q (sym of_order) (record {
        asides = n.asides;
        size = n.size;
        actives = lined_left o.turns o.active aside lists.active n.actives f;
        inactives = lined_left o.turns o.inactive aside lists.inactive n.inactives f;
      }))

  -- a frame that is in one list alone waits in no other
  pub left_inactive : (left : Turns) → left ≡ record o { inactive = slice_set o.inactive f false } → has f lists.active ≡ false
      → left ≡ record o { active = slice_set o.active f false; inactive = slice_set o.inactive f false }
  left_inactive left of_left absent =
      of_left ∙ ap (λ (ws : List Bool). let p : Turns = record o { active = ws; inactive = slice_set o.inactive f false } in p)
      (sym (unset o.active f (idle o.turns o.active aside lists.active n.actives f absent)))

  pub left_active : (left : Turns) → left ≡ record o { active = slice_set o.active f false } → has f lists.inactive ≡ false
      → left ≡ record o { active = slice_set o.active f false; inactive = slice_set o.inactive f false }
  left_active left of_left absent =
      of_left ∙ ap (λ (ws : List Bool). let p : Turns = record o { active = slice_set o.active f false; inactive = ws } in p)
      (sym (unset o.inactive f (idle o.turns o.inactive aside lists.inactive n.inactives f absent)))

  -- the flag of a frame that is in no list
  pub in_order_cleared : has f lists.active ≡ false → has f lists.inactive ≡ false → IsInOrder lists (slice_set aside f false) o
  in_order_cleared no_active no_inactive = record {
    asides = length-set aside f false ∙ n.asides;
    size = n.size;
    actives = lined_other o.turns o.active aside lists.active n.actives f no_active;
    inactives = lined_other o.turns o.inactive aside lists.inactive n.inactives f no_inactive;
  }

  module _ (in_f : f < lists.count) where
    in_turns : f < length o.turns
    in_turns = omega (arith, n.size)

    -- a frame that is in no list comes to the head of one
    module _ (came : Turns) (last : ComesLast o.turns f came.turns) (same_active : came.active ≡ o.active) (same_inactive : came.inactive ≡ o.inactive) (waits : Bool) (is : waits ≡ not (get_or aside f false)) (no_active : has f lists.active ≡ false) (no_inactive : has f lists.inactive ≡ false) (active_in : (g : ℕ) → has g lists.active ≡ true → g < lists.count) (inactive_in : (g : ℕ) → has g lists.inactive ≡ true → g < lists.count) where
      pub in_order_active : (o' : Turns) → o' ≡ record came { active = slice_set came.active f waits }
          → IsInOrder (record lists { active = f ∷ lists.active }) aside o'
      in_order_active o' of_order =
          let Q : Turns → Type 0 = λ (p : Turns). IsInOrder (record lists { active = f ∷ lists.active }) aside p in
          let A : List Bool → Bool → Type 0 = λ (ws : List Bool) (b : Bool). IsLined came.turns (slice_set ws f b) aside (f ∷ lists.active) in
          let I : List Bool → Type 0 = λ (ws : List Bool). IsLined came.turns ws aside lists.inactive in
          let head = lined_head o.turns o.active aside lists.active n.actives f came.turns last no_active (λ g h. omega (arith, active_in g h, n.size)) in_turns in
          subst Q (sym of_order) (record {
            asides = n.asides;
            size = last.size ∙ n.size;
            actives = subst (λ (ws : List Bool). A ws waits) (sym same_active) (subst (λ (b : Bool). A o.active b) (sym is) head);
            inactives = subst I (sym same_inactive)
                (lined_elsewhere o.turns o.inactive aside lists.inactive n.inactives f came.turns last no_inactive (λ g h. omega (arith, inactive_in g h, n.size)));
          })

      pub in_order_inactive : (o' : Turns) → o' ≡ record came { inactive = slice_set came.inactive f waits }
          → IsInOrder (record lists { inactive = f ∷ lists.inactive }) aside o'
      in_order_inactive o' of_order =
          let Q : Turns → Type 0 = λ (p : Turns). IsInOrder (record lists { inactive = f ∷ lists.inactive }) aside p in
          let I : List Bool → Bool → Type 0 = λ (ws : List Bool) (b : Bool). IsLined came.turns (slice_set ws f b) aside (f ∷ lists.inactive) in
          let A : List Bool → Type 0 = λ (ws : List Bool). IsLined came.turns ws aside lists.active in
          let head = lined_head o.turns o.inactive aside lists.inactive n.inactives f came.turns last no_inactive (λ g h. omega (arith, inactive_in g h, n.size)) in_turns in
          subst Q (sym of_order) (record {
            asides = n.asides;
            size = last.size ∙ n.size;
            actives = subst A (sym same_active)
                (lined_elsewhere o.turns o.active aside lists.active n.actives f came.turns last no_active (λ g h. omega (arith, active_in g h, n.size)));
            inactives = subst (λ (ws : List Bool). I ws waits) (sym same_inactive) (subst (λ (b : Bool). I o.inactive b) (sym is) head);
          })

-- a frame leaves its list and comes to the head of the other one
module _ (lists : Lists) (aside : List Bool) (o : Turns) (n : IsInOrder lists aside o) (f : ℕ) (in_f : f < lists.count) (active_in : (g : ℕ) → has g lists.active ≡ true → g < lists.count) (inactive_in : (g : ℕ) → has g lists.inactive ≡ true → g < lists.count) (left : Turns) (of_left : left ≡ record o { active = slice_set o.active f false; inactive = slice_set o.inactive f false }) (came : Turns) (last : ComesLast left.turns f came.turns) (same_active : came.active ≡ left.active) (same_inactive : came.inactive ≡ left.inactive) (waits : Bool) (is : waits ≡ not (get_or aside f false)) (now : Lists) (o' : Turns) where
  gone : Lists
  gone = record lists { active = without f lists.active; inactive = without f lists.inactive }

  gone_in_order : IsInOrder gone aside left
  unfolding gone
  gone_in_order = in_order_left lists aside o n f gone left refl of_left

  pub in_order_activated : has f lists.active ≡ false → now ≡ record lists { active = f ∷ lists.active; inactive = without f lists.inactive }
      → o' ≡ record came { active = slice_set came.active f waits } → IsInOrder now aside o'
  unfolding gone
  in_order_activated absent of_now of_order =
      let P : Lists → Type 0 = λ (l : Lists). IsInOrder l aside o' in
      let whole = of_now ∙ ap (λ (xs : List ℕ). let l : Lists = record lists { active = f ∷ xs; inactive = without f lists.inactive } in l) (sym (without-absent f lists.active absent)) in
      subst P (sym whole)
      (in_order_active gone aside left gone_in_order f in_f came last same_active same_inactive waits is
      (has-without_same f lists.active) (has-without_same f lists.inactive)
      (λ g h. active_in g (in_without g f lists.active h).1) (λ g h. inactive_in g (in_without g f lists.inactive h).1) o' of_order)

  pub in_order_deactivated : has f lists.inactive ≡ false → now ≡ record lists { active = without f lists.active; inactive = f ∷ lists.inactive }
      → o' ≡ record came { inactive = slice_set came.inactive f waits } → IsInOrder now aside o'
  unfolding gone
  in_order_deactivated absent of_now of_order =
      let P : Lists → Type 0 = λ (l : Lists). IsInOrder l aside o' in
      let whole = of_now ∙ ap (λ (xs : List ℕ). let l : Lists = record lists { active = without f lists.active; inactive = f ∷ xs } in l) (sym (without-absent f lists.inactive absent)) in
      subst P (sym whole)
      (in_order_inactive gone aside left gone_in_order f in_f came last same_active same_inactive waits is
      (has-without_same f lists.active) (has-without_same f lists.inactive)
      (λ g h. active_in g (in_without g f lists.active h).1) (λ g h. inactive_in g (in_without g f lists.inactive h).1) o' of_order)
