-- A table of slots and the finite map that it makes.
use Rattle.std.proofs.Common.{◌≡◌, ℕ, ◌+◌, ◌<◌, ◌≤◌, zero, suc, Bool, true, false, cond, not, eqb, eqb-true, List, [], ◌∷◌}
use Rattle.std.proofs.Common.{length, get_or, set, refl, ap, sym, subst, ◌∙◌, arith, map, get_or-set_same}
use Rattle.std.proofs.Common.{get_or-set_other, ◌||◌, Option, Some, None, is_some, option_map, count_by, position}
use Rattle.std.specs.List.{prefix_len, list_any}
use Rattle.std.specs.FinMap as finmap
use Rattle.std.proofs.lemmas.Bool.{false≢true}
use Rattle.std.proofs.lemmas.Bool.Decides.{nat_tests}
use Rattle.std.proofs.lemmas.List.Quantifiers.{position-Some}
use Rattle.std.proofs.lemmas.List.Sums.{count_by-le-length, sum_by-cons, prefix_len_passes}
use Rattle.mapping.proofs.MapLemmas.{same_nat_map, get-insert_nat, get-remove_nat}
use Rattle.writeback.specs.declared.syncs.Progress.{Progress}
use Rattle.writeback.specs.Rising.{IsRising}
use Rattle.machine.specs.State.{Sync}
use Rattle.machine.specs.Step.{IsLowest}
use Rattle.maps.specs.Maps.{change_at}
use Rattle.writeback.specs.Slots.{slots_from, in_use, in_progress, sync_of, is_of}
use Rattle.maps.proofs.MapLaws.{get-change_at}
use Rattle.writeback.proofs.MapLaws.{lookup, get-lookup}
use Rattle.writeback.proofs.RisingLemmas.{rising_low, len-rising, entries-rising, lookup_low}

module _ {X : Type 0} where
  rising_slots : (k : ℕ) (slots : List (Option X)) → IsRising k (slots_from k slots) (k + length slots)
  rising_slots k [] = omega arith
  rising_slots k (None ∷ slots) = at_end (k + 1 + length slots) (k + suc (length slots)) (omega arith)
      (rising_low (k + 1) k (k + 1 + length slots) (slots_from (k + 1) slots) (omega arith)
      (rising_slots (k + 1) slots))
    where
      at_end : (a b : ℕ) → a ≡ b → IsRising k (slots_from (k + 1) slots) a → IsRising k (slots_from (k + 1) slots) b
      at_end a b e r = subst (λ n. IsRising k (slots_from (k + 1) slots) n) e r
  rising_slots k (Some x ∷ slots) =
      (omega arith, at_end (k + 1 + length slots) (k + suc (length slots)) (omega arith) (rising_slots (k + 1) slots))
    where
      at_end : (a b : ℕ) → a ≡ b → IsRising (k + 1) (slots_from (k + 1) slots) a
          → IsRising (k + 1) (slots_from (k + 1) slots) b
      at_end a b e r = subst (λ n. IsRising (k + 1) (slots_from (k + 1) slots) n) e r

  lookup-slots : (k : ℕ) (slots : List (Option X)) (i : ℕ) → lookup (k + i) (slots_from k slots) ≡ get_or slots i None
  lookup-slots k [] i = refl
  lookup-slots k (None ∷ slots) zero = lookup_low (k + 0) (k + 1) (k + 1 + length slots) (slots_from (k + 1) slots)
      (omega arith) (rising_slots (k + 1) slots)
  lookup-slots k (Some x ∷ slots) zero = let same : eqb (k + 0) k ≡ true = grind (arith, nat_tests) in
      ap (λ b. cond b (Some x) (lookup (k + 0) (slots_from (k + 1) slots))) same
  lookup-slots k (None ∷ slots) (suc i) =
      ap (λ n. lookup n (slots_from (k + 1) slots)) (let e : k + suc i ≡ k + 1 + i = omega arith in e)
      ∙ lookup-slots (k + 1) slots i
  lookup-slots k (Some x ∷ slots) (suc i) =
      let apart : eqb (k + suc i) k ≡ false = grind (arith, nat_tests) in
      ap (λ b. cond b (Some x) (lookup (k + suc i) (slots_from (k + 1) slots))) apart
      ∙ ap (λ n. lookup n (slots_from (k + 1) slots)) (let e : k + suc i ≡ k + 1 + i = omega arith in e)
      ∙ lookup-slots (k + 1) slots i

  get-in_use : (slots : List (Option X)) (n : ℕ) → finmap.get (in_use slots) n ≡ get_or slots n None
  get-in_use slots n = get-lookup (slots_from 0 slots) n
      ∙ ap (λ n. lookup n (slots_from 0 slots)) (let e : n ≡ 0 + n = omega arith in e) ∙ lookup-slots 0 slots n

  length-slots : (k : ℕ) (slots : List (Option X)) → length (slots_from k slots) ≡ count_by (λ s. is_some s) slots
  length-slots k [] = refl
  length-slots k (None ∷ slots) =
      omega (arith, length-slots (k + 1) slots, sum_by-cons (λ (s : Option X). cond (is_some s) 1 0) None slots)
  length-slots k (Some x ∷ slots) =
      omega (arith, length-slots (k + 1) slots, sum_by-cons (λ (s : Option X). cond (is_some s) 1 0) (Some x) slots)

  len-in_use : (slots : List (Option X)) → finmap.len (in_use slots) ≡ count_by (λ s. is_some s) slots
  len-in_use slots = len-rising 0 (0 + length slots) (slots_from 0 slots) (rising_slots 0 slots) ∙ length-slots 0 slots

  -- the count of the slots in use is below that of all slots exactly where one is free
  less_free : (slots : List (Option X)) (i : ℕ) → i < length slots → not (is_some (get_or slots i None)) ≡ true
      → count_by (λ s. is_some s) slots < length slots
  less_free [] i h e = absurd (omega arith)
  less_free (None ∷ slots) i h e =
      omega (arith, count_below slots, sum_by-cons (λ (s : Option X). cond (is_some s) 1 0) None slots)
    where
      count_below : (xs : List (Option X)) → count_by (λ s. is_some s) xs ≤ length xs
      count_below [] = omega arith
      count_below (None ∷ xs) =
          omega (arith, count_below xs, sum_by-cons (λ (s : Option X). cond (is_some s) 1 0) None xs)
      count_below (Some x ∷ xs) =
          omega (arith, count_below xs, sum_by-cons (λ (s : Option X). cond (is_some s) 1 0) (Some x) xs)
  less_free (Some x ∷ slots) zero h e = absurd cc
  less_free (Some x ∷ slots) (suc i) h e =
      omega (
        arith,
        less_free slots i (omega arith) e,
        sum_by-cons (λ (s : Option X). cond (is_some s) 1 0) (Some x)
            slots,
      )

  all_used : (slots : List (Option X)) → ((i : ℕ) → i < length slots → is_some (get_or slots i None) ≡ true)
      → count_by (λ s. is_some s) slots ≡ length slots
  all_used [] n = refl
  all_used (None ∷ slots) n = absurd (false≢true (n 0 (omega arith)))
  all_used (Some x ∷ slots) n =
      omega (
        arith,
        all_used slots (λ i h. n (suc i) (omega arith)),
        sum_by-cons (λ (s : Option X). cond (is_some s) 1 0) (Some x) slots,
      )

yes : (b : Bool) → not b ≡ false → b ≡ true
yes true e = refl
yes false e = absurd (false≢true (sym e))

no : (b : Bool) → not b ≡ true → b ≡ false
no true e = absurd (false≢true e)
no false e = refl

twice : (b : Bool) → not (not b) ≡ true → b ≡ true
twice true e = refl
twice false e = absurd (false≢true e)

-- ---- the syncs of a table

get_or-states : (slots : List (Option Progress)) (n : ℕ) → get_or (map (option_map sync_of) slots) n None
    ≡ option_map sync_of (get_or slots n None)
get_or-states [] n = refl
get_or-states (s ∷ slots) zero = refl
get_or-states (s ∷ slots) (suc n) = get_or-states slots n

shown_some : (o : Option Progress) → is_some (option_map sync_of o) ≡ is_some o
shown_some None = refl
shown_some (Some p) = refl

count-states : (slots : List (Option Progress)) → count_by (λ s. is_some s) (map (option_map sync_of) slots)
    ≡ count_by (λ s. is_some s) slots
count-states [] = refl
count-states (None ∷ slots) =
    omega (
      arith,
      count-states slots,
      sum_by-cons (λ (s : Option Progress). cond (is_some s) 1 0) None slots,
      sum_by-cons (λ (s : Option Sync). cond (is_some s) 1 0) None (map (option_map sync_of) slots),
    )
count-states (Some p ∷ slots) =
    omega (
      arith,
      count-states slots,
      sum_by-cons (λ (s : Option Progress). cond (is_some s) 1 0) (Some p) slots,
      sum_by-cons (λ (s : Option Sync). cond (is_some s) 1 0) (Some (sync_of p)) (map (option_map sync_of) slots),
    )

pub get_progress : (slots : List (Option Progress)) (n : ℕ)
    → option_map sync_of (get_or slots n None) ≡ finmap.get (in_progress slots) n
get_progress slots n = sym (get_or-states slots n) ∙ sym (get-in_use (map (option_map sync_of) slots) n)

len_progress : (slots : List (Option Progress)) → finmap.len (in_progress slots) ≡ count_by (λ s. is_some s) slots
len_progress slots = len-in_use (map (option_map sync_of) slots) ∙ count-states slots

pub slots_few : (slots : List (Option Progress)) → finmap.len (in_progress slots) ≤ length slots
slots_few slots = omega (arith, len_progress slots, count_by-le-length (λ (s : Option Progress). is_some s) slots)

is_in : (slots : List (Option Progress)) (n : ℕ)
    → is_some (finmap.get (in_progress slots) n) ≡ is_some (get_or slots n None)
is_in slots n = ap is_some (sym (get_progress slots n)) ∙ shown_some (get_or slots n None)

-- the first free slot
pub slot_lowest : (slots : List (Option Progress)) (n : ℕ) → position (λ s. not (is_some s)) slots ≡ Some n
    → IsLowest (λ k. is_some (finmap.get (in_progress slots) k)) n
slot_lowest slots n at =
    let is = position-Some (λ (s : Option Progress). not (is_some s)) slots n None at in
    (is_in slots n ∙ no _ is.1, λ k h. is_in slots k ∙ yes _ (is.2 k h))

pub slot_room : (slots : List (Option Progress)) (n : ℕ) → position (λ s. not (is_some s)) slots ≡ Some n
    → finmap.len (in_progress slots) < length slots
slot_room slots n at =
    let is = position-Some (λ (s : Option Progress). not (is_some s)) slots n None at in
    let less = less_free slots n is.0 is.1 in
    omega (arith, less, len_progress slots)

pub slot_free : (slots : List (Option Progress)) (n : ℕ) → position (λ s. not (is_some s)) slots ≡ Some n
    → finmap.get (in_progress slots) n ≡ None
slot_free slots n at =
    let is = position-Some (λ (s : Option Progress). not (is_some s)) slots n None at in
    sym (get_progress slots n) ∙ empty (get_or slots n None) (no _ is.1)
  where
    empty : (o : Option Progress) → is_some o ≡ false → option_map sync_of o ≡ None
    empty None e = refl
    empty (Some p) e = absurd (false≢true (sym e))

pub slot_inside : (slots : List (Option Progress)) (n : ℕ) → position (λ s. not (is_some s)) slots ≡ Some n
    → n < length slots
slot_inside slots n at = (position-Some (λ (s : Option Progress). not (is_some s)) slots n None at).0

none_free : (slots : List (Option Progress)) → position (λ s. not (is_some s)) slots ≡ None
    → length slots ≤ prefix_len (λ (s : Option Progress). not (not (is_some s))) slots
none_free slots at = grind (arith, nat_tests)

pub slots_full : (slots : List (Option Progress)) → position (λ s. not (is_some s)) slots ≡ None
    → finmap.len (in_progress slots) ≡ length slots
slots_full slots at = len_progress slots
    ∙ all_used slots (λ i h. twice _
    (prefix_len_passes (λ (s : Option Progress). not (not (is_some s))) slots i None
    (let n = none_free slots at in omega arith)))

-- a full table
pub no_room : (slots : List (Option Progress)) (n : ℕ) → length slots ≡ n → position (λ s. not (is_some s)) slots ≡ None
    → finmap.len (in_progress slots) < n → ⊥
no_room slots n e at less = let l = slots_full slots at in omega arith

-- ---- changes

set_at : {A : Type 0} (xs : List (Option A)) (n : ℕ) (x : Option A) (q : ℕ) → n < length xs
    → get_or (set xs n x) q None ≡ cond (eqb q n) x (get_or xs q None)
set_at {A} xs n x q h = grind (arith, nat_tests, get_or-set_same {A = Option A}, get_or-set_other {A = Option A})

pub slot_put : (old : List (Option Progress)) (n : ℕ) (p : Progress) → n < length old
    → in_progress (set old n (Some p)) ≡ finmap.insert (in_progress old) n (sync_of p)
slot_put old n p h = same_nat_map _ _ (λ q. sym (get_progress (set old n (Some p)) q) ∙ ap (option_map sync_of) (here q)
    ∙ shown (eqb q n) (get_or old q None) ∙ ap (cond (eqb q n) (Some (sync_of p))) (get_progress old q)
    ∙ sym (get-insert_nat (in_progress old) n (sync_of p) q))
  where
    here : (q : ℕ) → get_or (set old n (Some p)) q None ≡ cond (eqb q n) (Some p) (get_or old q None)
    here q = set_at old n (Some p) q h

    shown : (b : Bool) (o : Option Progress)
        → option_map sync_of (cond b (Some p) o) ≡ cond b (Some (sync_of p)) (option_map sync_of o)
    shown true o = refl
    shown false o = refl

pub slot_taken : (old new : List (Option Progress)) (n : ℕ)
    → ((k : ℕ) → get_or new k None ≡ cond (eqb k n) None (get_or old k None))
    → in_progress new ≡ finmap.remove (in_progress old) n
slot_taken old new n h =
    same_nat_map _ _ (λ q. sym (get_progress new q) ∙ ap (option_map sync_of) (h q)
    ∙ shown (eqb q n) (get_or old q None) ∙ ap (cond (eqb q n) None) (get_progress old q)
    ∙ sym (get-remove_nat (in_progress old) n q))
  where
    shown : (b : Bool) (o : Option Progress) → option_map sync_of (cond b None o) ≡ cond b None (option_map sync_of o)
    shown true o = refl
    shown false o = refl

-- it had none
pub slot_untaken : (old new : List (Option Progress)) (n : ℕ)
    → ((k : ℕ) → get_or new k None ≡ cond (eqb k n) None (get_or old k None)) → get_or old n None ≡ None
    → in_progress new ≡ in_progress old
slot_untaken old new n h none =
    same_nat_map _ _ (λ q. sym (get_progress new q) ∙ ap (option_map sync_of) (h q ∙ same q (eqb q n) refl) ∙ get_progress old q)
  where
    same : (q : ℕ) (b : Bool) → eqb q n ≡ b → cond b None (get_or old q None) ≡ get_or old q None
    same q true e = sym (ap (λ k. get_or old k None) (eqb-true q n e) ∙ none)
    same q false e = refl

-- the slot n changed, which changes what it shows
pub slot_changed : (old new : List (Option Progress)) (n : ℕ) (f : Progress → Progress) (g : Sync → Sync)
    → ((p : Progress) → sync_of (f p) ≡ g (sync_of p))
    → ((k : ℕ) → get_or new k None ≡ cond (eqb k n) (option_map f (get_or old k None)) (get_or old k None))
    → in_progress new ≡ change_at n g (in_progress old)
slot_changed old new n f g alike h =
    same_nat_map _ _ (λ q. sym (get_progress new q) ∙ ap (option_map sync_of) (h q)
    ∙ shown (eqb q n) (get_or old q None) ∙ ap (λ o. cond (eqb q n) (option_map g o) o) (get_progress old q)
    ∙ sym (get-change_at n g (in_progress old) q))
  where
    both : (o : Option Progress) → option_map sync_of (option_map f o) ≡ option_map g (option_map sync_of o)
    both None = refl
    both (Some p) = ap Some (alike p)

    shown : (b : Bool) (o : Option Progress) → option_map sync_of (cond b (option_map f o) o)
        ≡ cond b (option_map g (option_map sync_of o)) (option_map sync_of o)
    shown true o = both o
    shown false o = refl

-- ---- whether a sync of a handle is in progress

any-slots : (h k : ℕ) (slots : List (Option Progress))
    → list_any (is_of h) slots ≡ list_any (λ (s : Sync). eqb s.handle h)
    (map (λ (e : ℕ × Sync). e.1) (slots_from k (map (option_map sync_of) slots)))
any-slots h k [] = refl
any-slots h k (None ∷ slots) = any-slots h (k + 1) slots
any-slots h k (Some p ∷ slots) = ap (λ b. eqb p.handle.0 h || b) (any-slots h (k + 1) slots)

pub uses_shown : (h : ℕ) (slots : List (Option Progress))
    → list_any (is_of h) slots ≡ list_any (λ (s : Sync). eqb s.handle h) (finmap.values (in_progress slots))
uses_shown h slots = any-slots h 0 slots
    ∙ ap (λ (es : List (ℕ × Sync)). list_any (λ (s : Sync). eqb s.handle h) (map (λ (e : ℕ × Sync). e.1) es))
    (sym (entries-rising 0 (0 + length (map (option_map sync_of) slots)) _
    (rising_slots 0 (map (option_map sync_of) slots))))
