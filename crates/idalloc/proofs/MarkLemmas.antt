-- The bitmaps that a marked array keeps, after each of its changes.
use Rattle.std.proofs.Common.{◌≡◌, ◌≢◌, ℕ, ◌^◌, ◌<◌, ◌≤◌, Bool, true, false, cond, not, List, [], ◌∷◌, Option, Some, None, option_map, map as map_list, refl, sym, ap, subst, ◌∙◌, arith, inl, inr, IsSome}
use Rattle.std.specs.Prelude.{◌==◌}
use Rattle.std.specs.Bool.{beq}
use Rattle.std.specs.Ordering.{nat_cmp, eq_by_cmp}
use Rattle.std.specs.Cmp.{nat_cmp_total, unsigned_tied}
use Rattle.std.specs.FinMap as map
use Rattle.std.proofs.lemmas.Bool.{cases_eq, ne_eqb, eq-eqb, cond-true, cond-false, true≢false}
use Rattle.std.proofs.lemmas.Option.{same_Some, none-some}
use Rattle.xarray.specs.MarkedArray.{Range, Ranges, entry_at, erased, found_of, lowest, remarked, stored, unmarked, with_value, with_mark, has_mark}
use Rattle.xarray.specs.declared.entry.Found.{Found}
use Rattle.xarray.specs.declared.entry.Mark.TheVariants.{M0}
use Rattle.xarray.proofs.Singles as singles
use Rattle.idalloc.specs.Bitmaps.{full, NoneOpen, IsLowestOpen}
use Rattle.idalloc.specs.Marked.{AreMarked, bitmaps}

-- ---- look-ups

find_value : (q : ℕ) (es : List (ℕ × Range)) → map.find nat_cmp q (map_list (λ e. (e.0, e.1.value)) es) ≡ option_map (λ r. r.value) (map.find nat_cmp q es)
find_value q [] = refl
find_value q (e ∷ es) = value_first (eq_by_cmp nat_cmp q e.0) e.1 (map.find nat_cmp q (map_list (λ e. (e.0, e.1.value)) es)) (map.find nat_cmp q es) (find_value q es)
  where
    value_first : (b : Bool) (r : Range) (x : Option ℕ) (y : Option Range) → x ≡ option_map (λ r. r.value) y → cond b (Some r.value) x ≡ option_map (λ r. r.value) (cond b (Some r) y)
    value_first true r x y e = refl
    value_first false r x y e = e

pub get-bitmaps : (m : Ranges) (q : ℕ) → map.get (bitmaps m) q ≡ option_map (λ r. r.value) (map.get m q)
get-bitmaps m q =
    map.get-from_entries nat_cmp_total (map_list (λ e. (e.0, e.1.value)) (map.entries m)) q
    ∙ find_value q (map.entries m)
    ∙ ap (option_map (λ r. r.value)) (sym (map.get-entries m q))

value_cond : (b : Bool) (r : Range) (o : Option Range) → option_map (λ r. r.value) (cond b (Some r) o) ≡ cond b (Some r.value) (option_map (λ r. r.value) o)
value_cond true r o = refl
value_cond false r o = refl

none_cond : (b : Bool) (o : Option Range) → option_map (λ r. r.value) (cond b None o) ≡ cond b None (option_map (λ r. r.value) o)
none_cond true o = refl
none_cond false o = refl

pub bitmaps-empty : bitmaps map.empty ≡ map.empty
bitmaps-empty = map.same_map nat_cmp_total map.nat_cmp-IsAntisymmetric _ _ (λ q. get-bitmaps map.empty q ∙ ap (option_map (λ r. r.value)) (map.get-empty nat_cmp q) ∙ sym (map.get-empty nat_cmp q))

pub bitmaps-insert : (m : Ranges) (i : ℕ) (r : Range) → bitmaps (map.insert m i r) ≡ map.insert (bitmaps m) i r.value
bitmaps-insert m i r = map.same_map nat_cmp_total map.nat_cmp-IsAntisymmetric _ _ (λ q.
    get-bitmaps (map.insert m i r) q
    ∙ ap (option_map (λ r. r.value)) (map.get-insert nat_cmp_total m i r q)
    ∙ value_cond (eq_by_cmp nat_cmp q i) r (map.get m q)
    ∙ ap (cond (eq_by_cmp nat_cmp q i) (Some r.value)) (sym (get-bitmaps m q))
    ∙ sym (map.get-insert nat_cmp_total (bitmaps m) i r.value q))

pub bitmaps-remove : (m : Ranges) (i : ℕ) → bitmaps (map.remove m i) ≡ map.remove (bitmaps m) i
bitmaps-remove m i = map.same_map nat_cmp_total map.nat_cmp-IsAntisymmetric _ _ (λ q.
    get-bitmaps (map.remove m i) q
    ∙ ap (option_map (λ r. r.value)) (map.get-remove nat_cmp_total m i q)
    ∙ none_cond (eq_by_cmp nat_cmp q i) (map.get m q)
    ∙ ap (cond (eq_by_cmp nat_cmp q i) None) (sym (get-bitmaps m q))
    ∙ sym (map.get-remove nat_cmp_total (bitmaps m) i q))

-- to insert twice is to insert the second
pub insert_twice : (m : Ranges) (i : ℕ) (r s : Range) → map.insert (map.insert m i r) i s ≡ map.insert m i s
insert_twice m i r s = map.same_map nat_cmp_total map.nat_cmp-IsAntisymmetric _ _ (λ q.
    map.get-insert nat_cmp_total (map.insert m i r) i s q
    ∙ ap (cond (eq_by_cmp nat_cmp q i) (Some s)) (map.get-insert nat_cmp_total m i r q)
    ∙ twice (eq_by_cmp nat_cmp q i) (Some s) (Some r) (map.get m q)
    ∙ sym (map.get-insert nat_cmp_total m i s q))
  where
    twice : (b : Bool) (x y z : Option Range) → cond b x (cond b y z) ≡ cond b x z
    twice true x y z = refl
    twice false x y z = refl

-- ---- what the calls read

value_of_option : (i : ℕ) (o : Option Range) → option_map (λ e. e.1.value) (singles.at_index i o) ≡ option_map (λ r. r.value) o
value_of_option i None = refl
value_of_option i (Some r) = refl

pub loaded : (m : Ranges) (i : ℕ) → AreMarked m → option_map (λ e. e.1.value) (entry_at m i) ≡ map.get (bitmaps m) i
loaded m i are = ap (option_map (λ e. e.1.value)) (singles.entry_at-get m are.single i) ∙ value_of_option i (map.get m i) ∙ sym (get-bitmaps m i)

-- the entry under a bitmap
pub record HasEntry (m : Ranges) (i bits : ℕ) : Type 0 where
  pub range : Range
  pub there : map.get m i ≡ Some range
  pub value : range.value ≡ bits

has_entry : (m : Ranges) (i bits : ℕ) (o : Option Range) → map.get m i ≡ o → option_map (λ r. r.value) o ≡ Some bits → HasEntry m i bits
has_entry m i bits None at h = absurd (none-some bits h)
has_entry m i bits (Some r) at h = record { range = r; there = at; value = same_Some r.value bits h }

pub entry_of : (m : Ranges) (i bits : ℕ) → map.get (bitmaps m) i ≡ Some bits → HasEntry m i bits
entry_of m i bits h = has_entry m i bits (map.get m i) refl (sym (get-bitmaps m i) ∙ h)

pub bitmap_fits : (m : Ranges) (i bits : ℕ) → AreMarked m → map.get (bitmaps m) i ≡ Some bits → bits < 2 ^ 32
bitmap_fits m i bits are h = let e : HasEntry m i bits = entry_of m i bits h in let k : e.range.value < 2 ^ 32 = are.fits i e.range e.there in let f : e.range.value ≡ bits = e.value in omega arith

no_entry : (o : Option Range) → option_map (λ r. r.value) o ≡ None → o ≡ None
no_entry None h = refl
no_entry (Some r) h = absurd (none-some r.value (sym h))

pub entry_none : (m : Ranges) (i : ℕ) → map.get (bitmaps m) i ≡ None → map.get m i ≡ None
entry_none m i h = no_entry (map.get m i) (sym (get-bitmaps m i) ∙ h)

-- ---- the lowest with room

mark_open : (b : Bool) (v : ℕ) → b ≡ not (v == full) → b ≡ true → v ≢ full
mark_open b v is on e = true≢false (sym on ∙ is ∙ ap not (eq-eqb v full e))

open_mark : (b : Bool) (v : ℕ) → b ≡ not (v == full) → v ≢ full → b ≡ true
open_mark b v is apart = is ∙ ap not (ne_eqb v full apart)

pub found_open : (m : Ranges) (from to i : ℕ) (r : Range) → AreMarked m → lowest (has_mark M0) m from to ≡ Some (i, r) → IsLowestOpen (bitmaps m) from to i r.value
found_open m from to i r are is =
    let found = singles.lowest-some m are.single (has_mark M0) from to i r is in
    record {
      low = found.low;
      high = found.high;
      there = get-bitmaps m i ∙ ap (option_map (λ r. r.value)) found.there;
      is_open = mark_open r.first_mark r.value (are.marked i r found.there) found.is;
      lowest = λ k other low below there.
          let e : HasEntry m k other = entry_of m k other there in
          elim (cases_eq other full) [
            | inl h ↦ h
            | inr apart ↦
                let on : e.range.first_mark ≡ true = open_mark e.range.first_mark e.range.value (are.marked k e.range e.there) (λ h. apart (sym e.value ∙ h)) in
                let h : i ≤ k = found.first k e.range e.there on low (omega (arith, found.high)) in
                absurd (omega arith)
          ];
    }

pub none_open : (m : Ranges) (from to : ℕ) → AreMarked m → lowest (has_mark M0) m from to ≡ None → NoneOpen (bitmaps m) from to
none_open m from to are is =
    let none = singles.none-lowest m are.single (has_mark M0) from to is in
    record {
      each = λ k other low high there.
          let e : HasEntry m k other = entry_of m k other there in
          elim (cases_eq other full) [
            | inl h ↦ h
            | inr apart ↦ absurd (none.each k e.range e.there (open_mark e.range.first_mark e.range.value (are.marked k e.range e.there) (λ h. apart (sym e.value ∙ h))) low high)
          ];
    }

-- ---- what the calls change

pub get_here : (m : Ranges) (i : ℕ) (r : Range) → map.get (map.insert m i r) i ≡ Some r
get_here m i r = map.get-insert nat_cmp_total m i r i ∙ cond-true (eq_by_cmp nat_cmp i i) (Some r) (map.get m i) (unsigned_tied i i ∙ eq-eqb i i refl)

pub get_there : (m : Ranges) (i : ℕ) (r : Range) (q : ℕ) → q ≢ i → map.get (map.insert m i r) q ≡ map.get m q
get_there m i r q differs = map.get-insert nat_cmp_total m i r q ∙ cond-false (eq_by_cmp nat_cmp q i) (Some r) (map.get m q) (unsigned_tied q i ∙ ne_eqb q i differs)

pub marked-empty : AreMarked map.empty
marked-empty = record {
  single = singles.single-empty;
  fits = λ i r is. absurd (none-some r (sym (map.get-empty nat_cmp i) ∙ is));
  marked = λ i r is. absurd (none-some r (sym (map.get-empty nat_cmp i) ∙ is));
}

pub marked-insert : (m : Ranges) (i : ℕ) (r : Range) → AreMarked m → r.order ≡ 0 → r.value < 2 ^ 32 → r.first_mark ≡ not (r.value == full) → AreMarked (map.insert m i r)
marked-insert m i r are order fits mark = record {
  single = singles.single-insert m are.single i r order;
  fits = λ q s is. elim (cases_eq q i) [
    | inl e ↦
        let h : r ≡ s = same_Some r s (sym (get_here m i r) ∙ ap (map.get (map.insert m i r)) (sym e) ∙ is) in
        let v : r.value ≡ s.value = ap (λ (z : Range). z.value) h in
        omega arith
    | inr differs ↦ are.fits q s (sym (get_there m i r q differs) ∙ is)
  ];
  marked = λ q s is. elim (cases_eq q i) [
    | inl e ↦
        let h : r ≡ s = same_Some r s (sym (get_here m i r) ∙ ap (map.get (map.insert m i r)) (sym e) ∙ is) in
        ap (λ (z : Range). z.first_mark) (sym h) ∙ mark ∙ ap (λ (z : Range). not (z.value == full)) h
    | inr differs ↦ are.marked q s (sym (get_there m i r q differs) ∙ is)
  ];
}

pub marked-remove : (m : Ranges) (i : ℕ) → AreMarked m → AreMarked (map.remove m i)
marked-remove m i are = record {
  single = singles.single-remove m are.single i;
  fits = λ q s is. are.fits q s (was q s is);
  marked = λ q s is. are.marked q s (was q s is);
}
  where
    was : (q : ℕ) (s : Range) → map.get (map.remove m i) q ≡ Some s → map.get m q ≡ Some s
    was q s is = elim (cases_eq q i) [
      | inl e ↦ absurd (none-some s (sym (map.get-remove nat_cmp_total m i q ∙ cond-true (eq_by_cmp nat_cmp q i) None (map.get m q) (unsigned_tied q i ∙ eq-eqb q i e)) ∙ is))
      | inr differs ↦ sym (map.get-remove nat_cmp_total m i q ∙ cond-false (eq_by_cmp nat_cmp q i) None (map.get m q) (unsigned_tied q i ∙ ne_eqb q i differs)) ∙ is
    ]

-- ---- answers of a search

pub found_entry : (o : Option (ℕ × Range)) (f : Found) → Some f ≡ option_map found_of o → (e : ℕ × Range) × (o ≡ Some e) × (found_of e ≡ f)
found_entry None f h = absurd (none-some f (sym h))
found_entry (Some e) f h = (e, refl, sym (same_Some f (found_of e) h))

pub found_none : (o : Option (ℕ × Range)) → None ≡ option_map found_of o → o ≡ None
found_none None h = refl
found_none (Some e) h = absurd (none-some (found_of e) h)

pub search_found : (m : Ranges) (from to : ℕ) (f : Found) → AreMarked m → Some f ≡ option_map found_of (lowest (has_mark M0) m from to) → IsLowestOpen (bitmaps m) from to f.first f.value
search_found m from to f are h =
    let x = found_entry (lowest (has_mark M0) m from to) f h in
    subst (λ (g : Found). IsLowestOpen (bitmaps m) from to g.first g.value) x.2 (found_open m from to x.0.0 x.0.1 are x.1)

pub search_none : (m : Ranges) (from to : ℕ) → AreMarked m → None ≡ option_map found_of (lowest (has_mark M0) m from to) → NoneOpen (bitmaps m) from to
search_none m from to are h = none_open m from to are (found_none (lowest (has_mark M0) m from to) h)

-- ---- an entry is made

is_some_at : (m : Ranges) (i : ℕ) (r : Range) → AreMarked m → map.get m i ≡ Some r → IsSome (entry_at m i)
is_some_at m i r are is = rw (singles.entry_at-some m are.single i r is) refl

single_after : (m : Ranges) (i : ℕ) (r : Range) → AreMarked m → r.order ≡ 0 → singles.AllSingle (map.insert m i r)
single_after m i r are order = singles.single-insert m are.single i r order

pub made_entry : (m : Ranges) (i : ℕ) (r : Range) → AreMarked m → r.order ≡ 0 → IsSome (entry_at (map.insert m i r) i)
made_entry m i r are order = rw (singles.entry_at-some (map.insert m i r) (single_after m i r are order) i r (get_here m i r)) refl

remarked_is : (m : Ranges) (i : ℕ) (r : Range) (b : Bool) → AreMarked m → r.order ≡ 0 → remarked (map.insert m i r) i M0 b ≡ map.insert m i (with_mark M0 b r)
remarked_is m i r b are order = singles.remarked-some (map.insert m i r) (single_after m i r are order) i M0 b r (get_here m i r) ∙ insert_twice m i r (with_mark M0 b r)

room_of : (bits : ℕ) → bits ≢ full → true ≡ not (bits == full)
room_of bits apart = sym (ap not (ne_eqb bits full apart))

pub added-marked : (m : Ranges) (i bits : ℕ) → AreMarked m → bits < 2 ^ 32 → bits ≢ full → AreMarked (remarked (map.insert m i (unmarked 0 bits)) i M0 true)
added-marked m i bits are fits room = subst AreMarked (sym (remarked_is m i (unmarked 0 bits) true are refl)) (marked-insert m i (with_mark M0 true (unmarked 0 bits)) are refl fits (room_of bits room))

pub added : (m : Ranges) (i bits : ℕ) → AreMarked m → bitmaps (remarked (map.insert m i (unmarked 0 bits)) i M0 true) ≡ map.insert (bitmaps m) i bits
added m i bits are = ap bitmaps (remarked_is m i (unmarked 0 bits) true are refl) ∙ bitmaps-insert m i (with_mark M0 true (unmarked 0 bits))

pub entry_at_none : (m : Ranges) (i : ℕ) → AreMarked m → map.get (bitmaps m) i ≡ None → entry_at m i ≡ None
entry_at_none m i are none = singles.entry_at-none m are.single i (entry_none m i none)

-- ---- a bitmap changes

pub held_entry : (m : Ranges) (i before : ℕ) → AreMarked m → map.get (bitmaps m) i ≡ Some before → IsSome (entry_at m i)
held_entry m i before are h = let e : HasEntry m i before = entry_of m i before h in is_some_at m i e.range are e.there

stored_is : (m : Ranges) (i before bits : ℕ) → AreMarked m → (e : HasEntry m i before) → stored m i bits ≡ map.insert m i (with_value bits e.range)
stored_is m i before bits are e = singles.stored-some m are.single i bits e.range e.there

pub stored_entry : (m : Ranges) (i before bits : ℕ) → AreMarked m → map.get (bitmaps m) i ≡ Some before → IsSome (entry_at (stored m i bits) i)
stored_entry m i before bits are h =
    let e : HasEntry m i before = entry_of m i before h in
    let order : (with_value bits e.range).order ≡ 0 = are.single.order i e.range e.there in
    subst (λ (n : Ranges). IsSome (entry_at n i)) (sym (stored_is m i before bits are e)) (made_entry m i (with_value bits e.range) are order)

-- the mark stays
pub kept-marked : (m : Ranges) (i before bits : ℕ) → AreMarked m → map.get (bitmaps m) i ≡ Some before → bits < 2 ^ 32 → not (bits == full) ≡ not (before == full) → AreMarked (stored m i bits)
kept-marked m i before bits are h fits same =
    let e : HasEntry m i before = entry_of m i before h in
    let order : (with_value bits e.range).order ≡ 0 = are.single.order i e.range e.there in
    let mark : e.range.first_mark ≡ not (bits == full) = are.marked i e.range e.there ∙ ap (λ v. not (v == full)) e.value ∙ sym same in
    subst AreMarked (sym (stored_is m i before bits are e)) (marked-insert m i (with_value bits e.range) are order fits mark)

pub kept : (m : Ranges) (i before bits : ℕ) → AreMarked m → map.get (bitmaps m) i ≡ Some before → bitmaps (stored m i bits) ≡ map.insert (bitmaps m) i bits
kept m i before bits are h =
    let e : HasEntry m i before = entry_of m i before h in
    ap bitmaps (stored_is m i before bits are e) ∙ bitmaps-insert m i (with_value bits e.range)

-- the mark is set or cleared
turned_is : (m : Ranges) (i before bits : ℕ) (b : Bool) → AreMarked m → (e : HasEntry m i before) → remarked (stored m i bits) i M0 b ≡ map.insert m i (with_mark M0 b (with_value bits e.range))
turned_is m i before bits b are e =
    ap (λ (n : Ranges). remarked n i M0 b) (stored_is m i before bits are e)
    ∙ remarked_is m i (with_value bits e.range) b are (are.single.order i e.range e.there)

pub turned-marked : (m : Ranges) (i before bits : ℕ) (b : Bool) → AreMarked m → map.get (bitmaps m) i ≡ Some before → bits < 2 ^ 32 → b ≡ not (bits == full) → AreMarked (remarked (stored m i bits) i M0 b)
turned-marked m i before bits b are h fits is =
    let e : HasEntry m i before = entry_of m i before h in
    let order : (with_mark M0 b (with_value bits e.range)).order ≡ 0 = are.single.order i e.range e.there in
    subst AreMarked (sym (turned_is m i before bits b are e)) (marked-insert m i (with_mark M0 b (with_value bits e.range)) are order fits is)

pub turned : (m : Ranges) (i before bits : ℕ) (b : Bool) → AreMarked m → map.get (bitmaps m) i ≡ Some before → bitmaps (remarked (stored m i bits) i M0 b) ≡ map.insert (bitmaps m) i bits
turned m i before bits b are h =
    let e : HasEntry m i before = entry_of m i before h in
    ap bitmaps (turned_is m i before bits b are e) ∙ bitmaps-insert m i (with_mark M0 b (with_value bits e.range))

-- ---- the others

pub erased-marked : (m : Ranges) (i : ℕ) → AreMarked m → AreMarked (erased m i)
erased-marked m i are = subst AreMarked (sym (singles.erased-remove m are.single i)) (marked-remove m i are)

pub erased-bitmaps : (m : Ranges) (i : ℕ) → AreMarked m → bitmaps (erased m i) ≡ map.remove (bitmaps m) i
erased-bitmaps m i are = ap bitmaps (singles.erased-remove m are.single i) ∙ bitmaps-remove m i

pub no_bitmaps : (m : Ranges) → bitmaps m ≡ map.empty → m ≡ map.empty
no_bitmaps m h = map.same_map nat_cmp_total map.nat_cmp-IsAntisymmetric m map.empty (λ q. entry_none m q (ap (λ b. map.get b q) h ∙ map.get-empty nat_cmp q) ∙ sym (map.get-empty nat_cmp q))

-- two tests are alike where their difference is false
pub alike : (a b : Bool) → not (beq a b) ≡ false → a ≡ b
alike true true h = refl
alike true false h = absurd (true≢false h)
alike false true h = absurd (true≢false h)
alike false false h = refl
