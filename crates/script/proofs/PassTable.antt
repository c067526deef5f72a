-- The table of passes as a finite map.
use Rattle.std.proofs.Common.{◌≡◌, ℕ, zero, suc, ◌<◌, Bool, true, false, cond, not, eqb, eqb-true, List, [], ◌∷◌, ◌++◌, length, get_or, refl, ap, sym, subst, ◌∙◌, arith, map, take, drop}
use Rattle.std.specs.Prelude.{Some, None, position, remove}
use Rattle.std.specs.List.{prefix_len}
use Rattle.std.specs.Ordering.{nat_cmp}
use Rattle.std.specs.Cmp.{nat_cmp_total}
use Rattle.std.specs.FinMap as finmap
use Rattle.std.specs.FinMap.{FinMap, from_entries, find, get-from_entries}
use Rattle.std.proofs.lemmas.Bool.Decides.{nat_tests}
use Rattle.std.proofs.lemmas.List.{length-map, map-append, take-map, drop-map}
use Rattle.std.proofs.lemmas.List.Quantifiers.{position-Some}
use Rattle.std.proofs.lemmas.List.Sums.{prefix_len_passes}
use Rattle.errboard.specs.Shown.{PassSeen}
use Rattle.maps.proofs.MapLaws.{same_nat_map}
use Rattle.maps.proofs.Maps.{get-remove_nat}
use Rattle.world.specs.Flights.{EachOnce}
use Rattle.world.proofs.OnceLemmas.{seek_first, once_push, push_inserts, len_once, once_remove, seek_at, remove_removes}
use Rattle.script.specs.declared.passes.Entry.{Entry}
use Rattle.script.specs.Passes.{entry_of}

-- what the table shows
abbrev pub table : List Entry → FinMap nat_cmp PassSeen
table items = from_entries (map entry_of items)

abbrev pub IsTable : List Entry → Type 0
IsTable items = EachOnce (map entry_of items)

get_table : (items : List Entry) (h : ℕ) → finmap.get (table items) h ≡ find nat_cmp h (map entry_of items)
get_table items h = get-from_entries nat_cmp_total (map entry_of items) h

-- ---- a pass is put into the table

pub len_table : (items : List Entry) → IsTable items → length items ≡ finmap.len (table items)
len_table items o = sym (length-map items entry_of) ∙ len_once (map entry_of items) o

pushed : (items : List Entry) (x : Entry) → map entry_of (items ++ x ∷ []) ≡ map entry_of items ++ (x.handle.0, x.pass) ∷ []
pushed items x = map-append entry_of items (x ∷ [])

pub put_once : (items new : List Entry) (x : Entry) → new ≡ items ++ x ∷ [] → IsTable items → finmap.get (table items) x.handle.0 ≡ None → IsTable new
put_once items new x is o absent = subst EachOnce (sym (ap (map entry_of) is ∙ pushed items x)) (once_push (map entry_of items) x.handle.0 x.pass o (sym (get_table items x.handle.0) ∙ absent))

pub put_inserts : (items new : List Entry) (x : Entry) → new ≡ items ++ x ∷ [] → finmap.get (table items) x.handle.0 ≡ None → table new ≡ finmap.insert (table items) x.handle.0 x.pass
put_inserts items new x is absent = ap from_entries (ap (map entry_of) is ∙ pushed items x) ∙ push_inserts (map entry_of items) x.handle.0 x.pass (sym (get_table items x.handle.0) ∙ absent)

-- ---- a pass is taken out

abbrev has : ℕ → Entry → Bool
has h x = eqb x.handle.0 h

seek_none : (h : ℕ) (xs : List Entry) → ((k : ℕ) (d : Entry) → k < length xs → has h (get_or xs k d) ≡ false) → find nat_cmp h (map entry_of xs) ≡ None
seek_none h [] n = refl
seek_none h (x ∷ xs) n =
    let first : eqb h x.handle.0 ≡ false = (let a : eqb x.handle.0 h ≡ false = n 0 x (omega arith) in grind (arith, nat_tests)) in
    seek_first h (entry_of x) (map entry_of xs) ∙ ap (λ b. cond b (Some x.pass) (find nat_cmp h (map entry_of xs))) first ∙ seek_none h xs (λ k d l. n (suc k) d (omega arith))

pub absent_get : (items : List Entry) (h : ℕ) → position (has h) items ≡ None → finmap.get (table items) h ≡ None
absent_get items h e = get_table items h ∙ seek_none h items each
  where
    each : (k : ℕ) (d : Entry) → k < length items → has h (get_or items k d) ≡ false
    each k d l =
        let passes : k < prefix_len (λ (x : Entry). not (has h x)) items → not (has h (get_or items k d)) ≡ true = prefix_len_passes (λ (x : Entry). not (has h x)) items k d in
        grind (arith, nat_tests)

pub absent_removes : (items : List Entry) (h : ℕ) → position (has h) items ≡ None → table items ≡ finmap.remove (table items) h
absent_removes items h e = same_nat_map (table items) (finmap.remove (table items) h) (λ q. kept q (eqb q h) refl ∙ sym (get-remove_nat (table items) h q))
  where
    kept : (q : ℕ) (b : Bool) → eqb q h ≡ b → finmap.get (table items) q ≡ cond (eqb q h) None (finmap.get (table items) q)
    kept q true t = ap (λ k. finmap.get (table items) k) (eqb-true q h t) ∙ absent_get items h e ∙ sym (ap (λ b. cond b None (finmap.get (table items) q)) t)
    kept q false t = sym (ap (λ b. cond b None (finmap.get (table items) q)) t)

-- the pass at i is that of the handle h
pub record IsAt (items : List Entry) (h i : ℕ) (x : Entry) : Type 0 where
  pub within : i < length items
  pub is : x ≡ get_or items i x
  pub handle : x.handle.0 ≡ h

pub found_at : (items : List Entry) (h i : ℕ) (x : Entry) → position (has h) items ≡ Some i → x ≡ get_or items i x → IsAt items h i x
found_at items h i x at is =
    let p = position-Some (has h) items i x at in
    record { within = p.0; is = is; handle = ap (λ (y : Entry). y.handle.0) is ∙ eqb-true (get_or items i x).handle.0 h p.1 }

entry_at : (xs : List Entry) (i : ℕ) (d : Entry) → i < length xs → get_or (map entry_of xs) i (entry_of d) ≡ entry_of (get_or xs i d)
entry_at [] i d h = absurd (omega arith)
entry_at (x ∷ xs) zero d h = refl
entry_at (x ∷ xs) (suc i) d h = entry_at xs i d (omega arith)

map-remove : (xs : List Entry) (i : ℕ) → map entry_of (remove xs i) ≡ remove (map entry_of xs) i
map-remove xs i = map-append entry_of (take i xs) (drop (suc i) xs) ∙ (λ j. sym (take-map entry_of i xs) j ++ sym (drop-map entry_of (suc i) xs) j)

module _ (items : List Entry) (h i : ℕ) (x : Entry) (at : IsAt items h i x) (o : IsTable items) where
  within : i < length (map entry_of items)
  within = omega (arith, length-map items entry_of, at.within)

  here : get_or (map entry_of items) i (entry_of x) ≡ entry_of x
  here = entry_at items i x at.within ∙ ap entry_of (sym at.is)

  key : (get_or (map entry_of items) i (entry_of x)).0 ≡ h
  key = ap (λ (e : ℕ × PassSeen). e.0) here ∙ at.handle

  pub found_get : Some x.pass ≡ finmap.get (table items) h
  found_get = sym (get_table items h ∙ ap (λ k. find nat_cmp k (map entry_of items)) (sym key) ∙ seek_at (map entry_of items) i (entry_of x) within o ∙ ap (λ (e : ℕ × PassSeen). Some e.1) here)

  pub take_once : (new : List Entry) → new ≡ remove items i → IsTable new
  take_once new is = subst EachOnce (sym (ap (map entry_of) is ∙ map-remove items i)) (once_remove (map entry_of items) i within o)

  pub take_removes : (new : List Entry) → new ≡ remove items i → table new ≡ finmap.remove (table items) h
  take_removes new is = ap from_entries (ap (map entry_of) is ∙ map-remove items i) ∙ remove_removes (map entry_of items) i (entry_of x) within o ∙ ap (finmap.remove (table items)) key
