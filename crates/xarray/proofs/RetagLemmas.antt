-- To retag is to change the lowest entry, and then to retag from the index after it.
use Rattle.std.proofs.Common.{◌≡◌, ◌≢◌, ℕ, ◌+◌, ◌^◌, ◌<◌, ◌≤◌, ◌⊎◌, Bool, true, false, cond, Option, Some, None, option_map, count_by, refl, sym, ap, ◌∙◌, inl, inr, arith}
use Rattle.std.specs.Cmp.{nat_cmp_total}
use Rattle.std.specs.FinMap as map
use Rattle.std.proofs.lemmas.Bool.{cases_eq, cond-true, cond-false, and_parts, and_from, false_from_ne_true, true≢false}
use Rattle.std.proofs.lemmas.Option.{none-some, same_Some}
use Rattle.xarray.specs.declared.entry.Mark.{Mark}
use Rattle.xarray.specs.MarkedArray.{IsArray, Range, Ranges, count_of, has_mark, is_tagged, lowest, meets, retagged, with_mark}
use Rattle.xarray.specs.Standing.{IsStart}
use Rattle.std.proofs.Math.Nat.{one-le-pow}
use Rattle.xarray.proofs.RangeLemmas.{IsLowest, get-put, get-put_other, lowest-some, meeting, met, none-lowest}
use Rattle.xarray.proofs.CountLemmas.{count-none, count-put, count-same, look-map}
use Rattle.xarray.proofs.EntryLemmas.{entries-rise}
use Rattle.xarray.proofs.Singles.{AllSingle, same_order}

-- an entry as it is after a retag
abbrev pub retag_range : ℕ → ℕ → Mark → Mark → ℕ → Range → Range
retag_range from to mark other first r = cond (is_tagged from to mark (first, r)) (with_mark other true r) r

pub get-retagged : (m : Ranges) (from to : ℕ) (mark other : Mark) (q : ℕ) → map.get (retagged m from to mark other) q ≡ option_map (retag_range from to mark other q) (map.get m q)
unfolding retagged
get-retagged m from to mark other q =
    map.get-from_entries nat_cmp_total _ q
    ∙ look-map (retag_range from to mark other) (map.entries m) q
    ∙ ap (option_map (retag_range from to mark other q)) (sym (map.get-entries m q))

same_bool : (a b : Bool) → (a ≡ true → b ≡ true) → (b ≡ true → a ≡ true) → a ≡ b
same_bool true true f g = refl
same_bool true false f g = absurd (true≢false (sym (f refl)))
same_bool false true f g = absurd (true≢false (sym (g refl)))
same_bool false false f g = refl

-- an entry that a retag is about
pub record IsTagged (from to : ℕ) (mark : Mark) (q : ℕ) (r : Range) : Type 0 where
  pub marked : has_mark mark r ≡ true
  pub le : from ≤ to
  pub low : q ≤ to
  pub high : from < q + 2 ^ r.order

module _ (m : Ranges) (from to : ℕ) (mark : Mark) where
  pub tagged_within : (q : ℕ) (r : Range) → is_tagged from to mark (q, r) ≡ true → IsTagged from to mark q r
  tagged_within q r t =
      let p = and_parts (has_mark mark r) (meets from to (q, r)) t in
      let w = met m (has_mark mark) from to q r p.1 in
      record { marked = p.0; le = w.0; low = w.1; high = w.2 }

  pub tagged_from : (q : ℕ) (r : Range) → IsTagged from to mark q r → is_tagged from to mark (q, r) ≡ true
  tagged_from q r t = and_from _ _ t.marked (meeting m (has_mark mark) from to q r t.le t.low t.high)

  untagged : lowest (has_mark mark) m from to ≡ None → (q : ℕ) (r : Range) → map.get m q ≡ Some r → is_tagged from to mark (q, r) ≡ false
  untagged none q r is = false_from_ne_true _ (λ t. let w = tagged_within q r t in none-lowest m (has_mark mark) from to none q r is w.marked w.le w.low w.high)

  pub count-end : lowest (has_mark mark) m from to ≡ None → count_of m from to mark ≡ 0
  unfolding count_of
  count-end none = count-none _ (map.entries m) (entries-rise m) (λ q r has. untagged none q r (map.get-entries m q ∙ has))

  pub retag-end : (other : Mark) → lowest (has_mark mark) m from to ≡ None → retagged m from to mark other ≡ m
  retag-end other none =
      map.same_map nat_cmp_total map.nat_cmp-IsAntisymmetric (retagged m from to mark other) m
      (λ q. get-retagged m from to mark other q ∙ by_get q (map.get m q) refl)
    where
      by_get : (q : ℕ) (o : Option Range) → map.get m q ≡ o → option_map (retag_range from to mark other q) o ≡ o
      by_get q None is = refl
      by_get q (Some r) is = ap (λ z. Some z) (cond-false (is_tagged from to mark (q, r)) (with_mark other true r) r (untagged none q r is))

module _ (m : Ranges) (array : IsArray m) (from to : ℕ) (mark other : Mark) (k : ℕ) (r : Range) (is_lowest : lowest (has_mark mark) m from to ≡ Some (k, r)) (next : ℕ) (ends : next ≡ k + 2 ^ r.order) where
  abbrev next_map : Ranges
  next_map = map.insert m k (with_mark other true r)

  p : IsLowest m (has_mark mark) from to k r
  p = lowest-some m (has_mark mark) from to k r is_lowest

  here_no_more : is_tagged next to mark (k, with_mark other true r) ≡ false
  here_no_more = false_from_ne_true _ (λ t.
      let w = tagged_within next_map next to mark k (with_mark other true r) t in
      let high = w.high in
      let same = ap (λ z. k + 2 ^ z) (same_order other true r) in
      omega (arith, high, same, ends))

  here : is_tagged from to mark (k, r) ≡ true
  here = tagged_from m from to mark k r (record { marked = p.is; le = p.le; low = p.low; high = p.high })

  -- another entry is still to be retagged where it was
  elsewhere : (q : ℕ) (y : Range) → q ≢ k → map.get m q ≡ Some y → is_tagged next to mark (q, y) ≡ is_tagged from to mark (q, y)
  elsewhere q y differs is =
      same_bool _ _
      (λ t. let w = tagged_within m next to mark q y t in let high = p.high in let later = w.high in tagged_from m from to mark q y (record { marked = w.marked; le = p.le; low = w.low; high = omega (arith, high, later, ends) }))
      (λ t.
      let w = tagged_within m from to mark q y t in
      let least = p.least q y is w.marked w.low w.high in
      let apart = array.disjoint k q r y p.there is (omega (arith, least, differs)) in
      let low = w.low in
      let some = one-le-pow y.order 2 (omega arith) in
      tagged_from m next to mark q y (record { marked = w.marked; le = omega (arith, apart, low, ends); low = low; high = omega (arith, apart, some, ends) }))

  pub count-step : count_of next_map next to mark + 1 ≡ count_of m from to mark
  unfolding count_of
  count-step =
      ap (λ es. count_by (is_tagged next to mark) es + 1) (map.entries-insert nat_cmp_total m k (with_mark other true r))
      ∙ count-put (is_tagged from to mark) (is_tagged next to mark) (map.entries m) (entries-rise m) k r (with_mark other true r)
      (sym (map.get-entries m k) ∙ p.there) here here_no_more
      (λ q y differs has. elsewhere q y differs (map.get-entries m q ∙ has))

  pub retag-step : retagged next_map next to mark other ≡ retagged m from to mark other
  retag-step =
      map.same_map nat_cmp_total map.nat_cmp-IsAntisymmetric (retagged next_map next to mark other) (retagged m from to mark other)
      (λ q. get-retagged next_map next to mark other q ∙ by_key q (cases_eq q k) ∙ sym (get-retagged m from to mark other q))
    where
      by_get : (q : ℕ) → q ≢ k → (o : Option Range) → map.get m q ≡ o → option_map (retag_range next to mark other q) o ≡ option_map (retag_range from to mark other q) o
      by_get q differs None is = refl
      by_get q differs (Some y) is = ap (λ b. Some (cond b (with_mark other true y) y)) (elsewhere q y differs is)

      by_key : (q : ℕ) → (q ≡ k) ⊎ (q ≢ k) → option_map (retag_range next to mark other q) (map.get next_map q) ≡ option_map (retag_range from to mark other q) (map.get m q)
      by_key q (inl same) =
          ap (option_map (retag_range next to mark other q)) (get-put m k q (with_mark other true r) same)
          ∙ ap (λ j. Some (retag_range next to mark other j (with_mark other true r))) same
          ∙ ap (λ z. Some z) (cond-false (is_tagged next to mark (k, with_mark other true r)) (with_mark other true (with_mark other true r)) (with_mark other true r) here_no_more)
          ∙ sym (ap (option_map (retag_range from to mark other q)) (ap (map.get m) same ∙ p.there)
          ∙ ap (λ j. Some (retag_range from to mark other j r)) same
          ∙ ap (λ z. Some z) (cond-true (is_tagged from to mark (k, r)) (with_mark other true r) r here))
      by_key q (inr differs) = ap (option_map (retag_range next to mark other q)) (get-put_other m k q (with_mark other true r) differs) ∙ by_get q differs (map.get m q) refl

-- a retag may begin where the entry at its first index begins
module _ (m : Ranges) (from start to : ℕ) (mark : Mark) (le : from ≤ to) (begins : IsStart m from start) where
  same_tag : (q : ℕ) (y : Range) → map.get m q ≡ Some y → is_tagged start to mark (q, y) ≡ is_tagged from to mark (q, y)
  same_tag q y has =
      let low = begins.low in
      same_bool _ _
      (λ t. let w = tagged_within m start to mark q y t in tagged_from m from to mark q y (record { marked = w.marked; le = le; low = w.low; high = begins.reach q y has w.high }))
      (λ t.
      let w = tagged_within m from to mark q y t in
      let high = w.high in
      tagged_from m start to mark q y (record { marked = w.marked; le = omega (arith, low, le); low = w.low; high = omega (arith, low, high) }))

  pub count-start : count_of m start to mark ≡ count_of m from to mark
  unfolding count_of
  count-start = count-same (is_tagged start to mark) (is_tagged from to mark) (map.entries m) (entries-rise m) (λ k y has. same_tag k y (map.get-entries m k ∙ has))

  pub retag-start : (other : Mark) → retagged m start to mark other ≡ retagged m from to mark other
  retag-start other =
      map.same_map nat_cmp_total map.nat_cmp-IsAntisymmetric (retagged m start to mark other) (retagged m from to mark other)
      (λ q. get-retagged m start to mark other q ∙ by_get q (map.get m q) refl ∙ sym (get-retagged m from to mark other q))
    where
      by_get : (q : ℕ) (o : Option Range) → map.get m q ≡ o → option_map (retag_range start to mark other q) o ≡ option_map (retag_range from to mark other q) o
      by_get q None is = refl
      by_get q (Some y) is = ap (λ b. Some (cond b (with_mark other true y) y)) (same_tag q y is)

-- a retag keeps that every entry has one index
pub single-retagged : (m : Ranges) (single : AllSingle m) (from to : ℕ) (mark other : Mark) → AllSingle (retagged m from to mark other)
single-retagged m single from to mark other = record { order = λ first q is. by_get first q (map.get m first) refl (sym (get-retagged m from to mark other first) ∙ is) }
  where
    order_kept : (first : ℕ) (r : Range) (b : Bool) → (cond b (with_mark other true r) r).order ≡ r.order
    order_kept first r true = same_order other true r
    order_kept first r false = refl

    by_get : (first : ℕ) (q : Range) (o : Option Range) → map.get m first ≡ o → option_map (retag_range from to mark other first) o ≡ Some q → q.order ≡ 0
    by_get first q None has is = absurd (none-some q is)
    by_get first q (Some r) has is =
        sym (ap (λ (z : Range). z.order) (same_Some (retag_range from to mark other first r) q is))
        ∙ order_kept first r (is_tagged from to mark (first, r)) ∙ single.order first r has
