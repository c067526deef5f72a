-- A marked array: a finite map from ranges of indexes to a value and three marks. A range of order k is 2 ^ k indexes, and
-- it is kept by its first. (Linux, Documentation/core-api/xarray.rst: entries, marks, and multi-index entries.)
use Rattle.std.specs.Prelude.{◌≡◌, ℕ, suc, zero, ◌+◌, ◌-◌, ◌*◌, ◌%◌, ◌^◌, ◌<◌, ◌≤◌, ◌&&◌, ◌||◌, Bool, true, false, not, cond, ltb, leb, Option, Some, None, List, filter, find, count_by, map as map_list}
use Rattle.std.specs.Ordering.{nat_cmp}
use Rattle.std.specs.Coded.{Coded, coded_ℕ, coded_bool, coded_option, coded×, code_by}
use mathlib.Core.Path.{refl}
use Rattle.std.specs.FinMap as map
use Rattle.pc_types.specs.declared.refusal.Refusal.{Refusal}
use Rattle.pc_types.specs.declared.refusal.Refusal.TheVariants as refusal
use Rattle.xarray.specs.declared.entry.Mark.{Mark}
use Rattle.xarray.specs.declared.entry.Mark.TheVariants.{M0, M1, M2}
use Rattle.xarray.specs.declared.entry.Found.{Found}
use Rattle.xarray.specs.declared.entry.Marked.{Marked}
use Rattle.xarray.specs.declared.entry.Marks.{Marks}

-- ---- the array

-- what an entry is besides its first index
pub record Range : Type 0 where
  pub order : ℕ
  pub value : ℕ
  pub first_mark : Bool
  pub second_mark : Bool
  pub third_mark : Bool

abbrev pub range_code : Coded Range
range_code =
    code_by (ℕ × (ℕ × (Bool × (Bool × Bool)))) (coded× coded_ℕ (coded× coded_ℕ (coded× coded_bool (coded× coded_bool coded_bool))))
    (λ r. (r.order, (r.value, (r.first_mark, (r.second_mark, r.third_mark)))))
    (λ p. record { order = p.0; value = p.1.0; first_mark = p.1.1.0; second_mark = p.1.1.1.0; third_mark = p.1.1.1.1 }) (λ _. refl)

-- the entries by their first indexes
abbrev pub Ranges : Type 0
Ranges = map.FinMap nat_cmp Range

-- the entries, and the range, by its first index and its order, for which `reserve` made room
pub record Array : Type 0 where
  pub ranges : Ranges
  pub ready : Option (ℕ × ℕ)

abbrev pub array_code : Coded Array
array_code =
    code_by (Ranges × Option (ℕ × ℕ)) (coded× (map.code coded_ℕ range_code) (coded_option (coded× coded_ℕ coded_ℕ)))
    (λ a. (a.ranges, a.ready)) (λ p. record { ranges = p.0; ready = p.1 }) (λ _. refl)

-- the ranges are aligned and disjoint, and lie among the 2 ^ 64 indexes
pub record IsArray (m : Ranges) : Type 0 where
  pub order : (first : ℕ) (r : Range) → map.get m first ≡ Some r → r.order ≤ 63
  pub aligned : (first : ℕ) (r : Range) → map.get m first ≡ Some r → first % 2 ^ r.order ≡ 0
  pub within : (first : ℕ) (r : Range) → map.get m first ≡ Some r → first + 2 ^ r.order ≤ 2 ^ 64
  pub value : (first : ℕ) (r : Range) → map.get m first ≡ Some r → r.value < 2 ^ 63
  pub disjoint : (first other : ℕ) (r q : Range) → map.get m first ≡ Some r → map.get m other ≡ Some q → first < other → first + 2 ^ r.order ≤ other

-- ---- one entry

-- an entry without marks
abbrev pub unmarked : ℕ → ℕ → Range
unmarked order value = record { order = order; value = value; first_mark = false; second_mark = false; third_mark = false }

abbrev pub with_value : ℕ → Range → Range
with_value value r = record r { value = value }

abbrev pub has_mark : Mark → Range → Bool
has_mark M0 r = r.first_mark
has_mark M1 r = r.second_mark
has_mark M2 r = r.third_mark

abbrev pub with_mark : Mark → Bool → Range → Range
with_mark M0 is r = record r { first_mark = is }
with_mark M1 is r = record r { second_mark = is }
with_mark M2 is r = record r { third_mark = is }

-- all three marks
abbrev pub marks_of : Range → Marks
marks_of r = record { m0 = r.first_mark; m1 = r.second_mark; m2 = r.third_mark }

abbrev pub with_marks : Marks → Range → Range
with_marks marks r = record r { first_mark = marks.m0; second_mark = marks.m1; third_mark = marks.m2 }

abbrev pub mark_number : Mark → ℕ
mark_number M0 = 0
mark_number M1 = 1
mark_number M2 = 2

abbrev pub is_any : Range → Bool
is_any r = true

-- whether an entry's range holds an index
abbrev pub in_range : ℕ → ℕ × Range → Bool
in_range index e = leb e.0 index && ltb index (e.0 + 2 ^ e.1.order)

-- whether an entry's range meets the indexes from `from` to `to`, both of them included
abbrev pub meets : ℕ → ℕ → ℕ × Range → Bool
meets from to e = leb from to && (leb e.0 to && ltb from (e.0 + 2 ^ e.1.order))

-- whether an entry has the mark, and its range meets these indexes
abbrev pub is_tagged : ℕ → ℕ → Mark → ℕ × Range → Bool
is_tagged from to mark e = has_mark mark e.1 && meets from to e

-- an entry as a search answers it
abbrev pub found_of : ℕ × Range → Found
found_of e = record { first = e.0; order = e.1.order; value = e.1.value }

-- an entry's value with its marks
abbrev pub marked_of : ℕ × Range → Marked
marked_of e = record { value = e.1.value; marks = marks_of e.1 }

-- ---- what the calls read

-- the entry whose range holds an index
unfoldable pub entry_at : Ranges → ℕ → Option (ℕ × Range)
entry_at m index = find (in_range index) (map.entries m)

-- the lowest entry of this kind whose range meets the indexes from `from` to `to`
unfoldable pub lowest : (Range → Bool) → Ranges → ℕ → ℕ → Option (ℕ × Range)
lowest kind m from to = find (λ e. kind e.1 && meets from to e) (map.entries m)

-- the entries of this kind whose ranges meet these indexes, in rising order
unfoldable pub entries_in : (Range → Bool) → Ranges → ℕ → ℕ → List (ℕ × Range)
entries_in kind m from to = filter (λ e. kind e.1 && meets from to e) (map.entries m)

-- how many entries with the mark have a range that meets these indexes
unfoldable pub count_of : Ranges → ℕ → ℕ → Mark → ℕ
count_of m from to mark = count_by (is_tagged from to mark) (map.entries m)

-- whether the entry has the mark, and false where there is none
abbrev pub is_marked : Mark → Option (ℕ × Range) → Bool
is_marked mark None = false
is_marked mark (Some e) = has_mark mark e.1

-- ---- what the calls change

abbrev pub store_at : Ranges → ℕ → ℕ → Option (ℕ × Range) → Ranges
store_at m index value None = map.insert m index (unmarked 0 value)
store_at m index value (Some e) = map.insert m e.0 (with_value value e.1)

-- the entry at an index gets a value and keeps its range and marks; else the index gets an entry of its own without marks
unfoldable pub stored : Ranges → ℕ → ℕ → Ranges
stored m index value = store_at m index value (entry_at m index)

abbrev pub erase_at : Ranges → Option (ℕ × Range) → Ranges
erase_at m None = m
erase_at m (Some e) = map.remove m e.0

-- the entry at an index goes, with its range and marks
unfoldable pub erased : Ranges → ℕ → Ranges
erased m index = erase_at m (entry_at m index)

abbrev pub mark_at : Ranges → Mark → Bool → Option (ℕ × Range) → Ranges
mark_at m mark is None = m
mark_at m mark is (Some e) = map.insert m e.0 (with_mark mark is e.1)

-- the entry at an index has this mark now or not, for its whole range
unfoldable pub remarked : Ranges → ℕ → Mark → Bool → Ranges
remarked m index mark is = mark_at m mark is (entry_at m index)

abbrev pub give_at : Ranges → Marks → Option (ℕ × Range) → Ranges
give_at m marks None = m
give_at m marks (Some e) = map.insert m e.0 (with_marks marks e.1)

-- the entry at an index has these marks now and no others, for its whole range
unfoldable pub given : Ranges → ℕ → Marks → Ranges
given m index marks = give_at m marks (entry_at m index)

-- the marks without those of `clear`, and with those of `set`
abbrev pub marks_after : Marks → Marks → Marks → Marks
marks_after clear set marks = record {
  m0 = not clear.m0 && marks.m0 || set.m0;
  m1 = not clear.m1 && marks.m1 || set.m1;
  m2 = not clear.m2 && marks.m2 || set.m2;
}

abbrev pub change_at : Ranges → Marks → Marks → Option (ℕ × Range) → Ranges
change_at m clear set None = m
change_at m clear set (Some e) = map.insert m e.0 (with_marks (marks_after clear set (marks_of e.1)) e.1)

-- the entry at an index has lost the marks of `clear` and then got those of `set`, for its whole range
unfoldable pub changed : Ranges → ℕ → Marks → Marks → Ranges
changed m index clear set = change_at m clear set (entry_at m index)

abbrev pub retag_one : ℕ → ℕ → Mark → Mark → ℕ × Range → ℕ × Range
retag_one from to mark other e = (e.0, cond (is_tagged from to mark e) (with_mark other true e.1) e.1)

-- every entry with the mark whose range meets these indexes has the other mark too
unfoldable pub retagged : Ranges → ℕ → ℕ → Mark → Mark → Ranges
retagged m from to mark other = map.from_entries (map_list (retag_one from to mark other) (map.entries m))

-- so many entries of an order from index `first` on, each with the value and marks of this one
abbrev pub parts : Ranges → ℕ → ℕ → Range → ℕ → Ranges
parts m first order r zero = m
parts m first order r (suc count) = map.insert (parts m first order r count) (first + count * 2 ^ order) (record r { order = order })

abbrev pub split_at : Ranges → ℕ → Option (ℕ × Range) → Ranges
split_at m order None = m
split_at m order (Some e) = parts m e.0 order e.1 (2 ^ (e.1.order - order))

-- the entry at an index becomes entries of this order over the same indexes, each with its value and marks
unfoldable pub split : Ranges → ℕ → ℕ → Ranges
split m index order = split_at m order (entry_at m index)

-- the array after a refusal is as before, but that want of memory may take what `reserve` made
abbrev pub after_refusal : Refusal → Array → Array
after_refusal refusal.Memory a = record a { ready = None }
after_refusal _ a = a
