-- The table of jobs in flight as a finite map.
use Rattle.std.proofs.Common.{◌≡◌, ℕ, zero, suc, ◌<◌, Bool, true, false, cond, not, eqb, eqb-true, List, [], ◌∷◌, ◌++◌}
use Rattle.std.proofs.Common.{length, get_or, refl, ap, sym, subst, ◌∙◌, arith, map, take, drop}
use Rattle.std.specs.Prelude.{◌&&◌, ◌||◌, Option, Some, None, position, remove}
use Rattle.std.specs.List.{list_any, prefix_len}
use Rattle.std.specs.Ordering.{nat_cmp}
use Rattle.std.specs.Cmp.{nat_cmp_total}
use Rattle.std.specs.FinMap as finmap
use Rattle.std.specs.FinMap.{from_entries, find, get-from_entries}
use Rattle.std.proofs.lemmas.Bool.Decides.{nat_tests}
use Rattle.std.proofs.lemmas.List.{length-map, map-append, take-map, drop-map}
use Rattle.std.proofs.lemmas.List.Quantifiers.{position-Some}
use Rattle.std.proofs.lemmas.List.Sums.{prefix_len_passes}
use Rattle.world.specs.declared.jobs.Flight.{Flight}
use Rattle.world.specs.Flights.{Jobs, serial_of, entry_of, is_asked, EachOnce}
use Rattle.maps.proofs.MapLaws.{same_nat_map}
use Rattle.maps.proofs.Maps.{get-remove_nat}
use Rattle.world.proofs.OnceLemmas.{seek_first, once_push, push_inserts, len_once, once_remove, seek_at, remove_removes}

-- what the table shows
abbrev pub table : List Flight → Jobs
table items = from_entries (map entry_of items)

abbrev pub IsTable : List Flight → Type 0
IsTable items = EachOnce (map entry_of items)

get_table : (items : List Flight) (t : ℕ) → finmap.get (table items) t ≡ find nat_cmp t (map entry_of items)
get_table items t = get-from_entries nat_cmp_total (map entry_of items) t

-- ---- a job is put into the table

pub len_table : (items : List Flight) → IsTable items → length items ≡ finmap.len (table items)
len_table items o = sym (length-map items entry_of) ∙ len_once (map entry_of items) o

pushed : (items : List Flight) (x : Flight) → map entry_of (items ++ x ∷ []) ≡ map entry_of items ++ (serial_of x, x)
    ∷ []
pushed items x = map-append entry_of items (x ∷ [])

pub put_once : (items new : List Flight) (x : Flight) → new ≡ items ++ x ∷ [] → IsTable items
    → finmap.get (table items) (serial_of x) ≡ None → IsTable new
put_once items new x is o absent = subst EachOnce (sym (ap (map entry_of) is ∙ pushed items x))
    (once_push (map entry_of items) (serial_of x) x o (sym (get_table items (serial_of x)) ∙ absent))

pub put_inserts : (items new : List Flight) (x : Flight) → new ≡ items ++ x ∷ []
    → finmap.get (table items) (serial_of x) ≡ None → table new ≡ finmap.insert (table items) (serial_of x) x
put_inserts items new x is absent = ap from_entries (ap (map entry_of) is ∙ pushed items x)
    ∙ push_inserts (map entry_of items) (serial_of x) x (sym (get_table items (serial_of x)) ∙ absent)

-- ---- a job is looked for

module _ (s : ℕ) where
  abbrev any_asked : List Flight → Bool
  any_asked xs = list_any (λ (x : Flight). is_asked (Some x) && eqb (serial_of x) s) xs

  no_more : (a r : Bool) → ((a && false) || r) ≡ r
  no_more true r = refl
  no_more false r = refl

  -- the job in front has the serial s, or not
  in_front : (x : Flight) (o : Option Flight) (rest : Bool) → rest ≡ is_asked o
      → (eqb s (serial_of x) ≡ true → o ≡ None) → (a b : Bool) → is_asked (Some x) ≡ a → eqb s (serial_of x) ≡ b
      → ((a && b) || rest) ≡ is_asked (cond b (Some x) o)
  in_front x o rest r apart a false k t = no_more a rest ∙ r
  in_front x o rest r apart true true k t = sym k
  in_front x o rest r apart false true k t = r ∙ ap is_asked (apart t) ∙ sym k

  asked_list : (xs : List Flight) → IsTable xs → any_asked xs ≡ is_asked (find nat_cmp s (map entry_of xs))
  asked_list [] o = refl
  asked_list (x ∷ xs) o =
      let same : eqb (serial_of x) s ≡ eqb s (serial_of x) = grind (arith, nat_tests) in
      ap (λ b. (is_asked (Some x) && b) || any_asked xs) same
      ∙ in_front x (find nat_cmp s (map entry_of xs)) (any_asked xs) (asked_list xs o.1)
      (λ t. ap (λ q. find nat_cmp q (map entry_of xs)) (eqb-true s (serial_of x) t) ∙ o.0) (is_asked (Some x))
      (eqb s (serial_of x)) refl refl
      ∙ ap is_asked (sym (seek_first s (entry_of x) (map entry_of xs)))

pub asked_table : (items : List Flight) (s : ℕ) → IsTable items
    → list_any (λ (x : Flight). is_asked (Some x) && eqb (serial_of x) s) items ≡ is_asked (finmap.get (table items) s)
asked_table items s o = asked_list s items o ∙ ap is_asked (sym (get_table items s))

-- ---- a job is taken out

abbrev has : ℕ → Flight → Bool
has s x = eqb (serial_of x) s

seek_none : (s : ℕ) (xs : List Flight) → ((k : ℕ) (d : Flight) → k < length xs → has s (get_or xs k d) ≡ false)
    → find nat_cmp s (map entry_of xs) ≡ None
seek_none s [] n = refl
seek_none s (x ∷ xs) n =
    let first : eqb s (serial_of x) ≡ false =
    (let a : eqb (serial_of x) s ≡ false = n 0 x (omega arith) in grind (arith, nat_tests)) in
    seek_first s (entry_of x) (map entry_of xs) ∙ ap (λ b. cond b (Some x) (find nat_cmp s (map entry_of xs))) first
    ∙ seek_none s xs (λ k d l. n (suc k) d (omega arith))

pub absent_get : (items : List Flight) (s : ℕ) → position (has s) items ≡ None → finmap.get (table items) s ≡ None
absent_get items s e = get_table items s ∙ seek_none s items each
  where
    each : (k : ℕ) (d : Flight) → k < length items → has s (get_or items k d) ≡ false
    each k d h =
        let passes : k < prefix_len (λ (x : Flight). not (has s x)) items → not (has s (get_or items k d)) ≡ true =
        prefix_len_passes (λ (x : Flight). not (has s x)) items k d in
        grind (arith, nat_tests)

pub absent_removes : (items : List Flight) (s : ℕ) → position (has s) items ≡ None
    → table items ≡ finmap.remove (table items) s
absent_removes items s e = same_nat_map (table items) (finmap.remove (table items) s)
    (λ q. kept q (eqb q s) refl ∙ sym (get-remove_nat (table items) s q))
  where
    kept : (q : ℕ) (b : Bool) → eqb q s ≡ b
        → finmap.get (table items) q ≡ cond (eqb q s) None (finmap.get (table items) q)
    kept q true t = ap (λ k. finmap.get (table items) k) (eqb-true q s t) ∙ absent_get items s e
        ∙ sym (ap (λ b. cond b None (finmap.get (table items) q)) t)
    kept q false t = sym (ap (λ b. cond b None (finmap.get (table items) q)) t)

-- the job at i has the serial s
pub record IsAt (items : List Flight) (s i : ℕ) (x : Flight) : Type 0 where
  pub within : i < length items
  pub is : x ≡ get_or items i x
  pub serial : serial_of x ≡ s

pub found_at : (items : List Flight) (s i : ℕ) (x : Flight) → position (has s) items ≡ Some i → x ≡ get_or items i x
    → IsAt items s i x
found_at items s i x at is = let p = position-Some (has s) items i x at in
    record { within = p.0; is = is; serial = ap serial_of is ∙ eqb-true (serial_of (get_or items i x)) s p.1 }

entry_at : (xs : List Flight) (i : ℕ) (d : Flight) → i < length xs
    → get_or (map entry_of xs) i (entry_of d) ≡ entry_of (get_or xs i d)
entry_at [] i d h = absurd (omega arith)
entry_at (x ∷ xs) zero d h = refl
entry_at (x ∷ xs) (suc i) d h = entry_at xs i d (omega arith)

map-remove : (xs : List Flight) (i : ℕ) → map entry_of (remove xs i) ≡ remove (map entry_of xs) i
map-remove xs i = map-append entry_of (take i xs) (drop (suc i) xs)
    ∙ (λ j. sym (take-map entry_of i xs) j ++ sym (drop-map entry_of (suc i) xs) j)

module _ (items : List Flight) (s i : ℕ) (x : Flight) (at : IsAt items s i x) (o : IsTable items) where
  within : i < length (map entry_of items)
  within = omega (arith, length-map items entry_of, at.within)

  here : get_or (map entry_of items) i (entry_of x) ≡ entry_of x
  here = entry_at items i x at.within ∙ ap entry_of (sym at.is)

  key : (get_or (map entry_of items) i (entry_of x)).0 ≡ s
  key = ap (λ (e : ℕ × Flight). e.0) here ∙ at.serial

  pub found_get : Some x ≡ finmap.get (table items) s
  found_get =
      sym (get_table items s ∙ ap (λ k. find nat_cmp k (map entry_of items)) (sym key)
      ∙ seek_at (map entry_of items) i (entry_of x) within o ∙ ap (λ (e : ℕ × Flight). Some e.1) here)

  pub take_once : (new : List Flight) → new ≡ remove items i → IsTable new
  take_once new is = subst EachOnce (sym (ap (map entry_of) is ∙ map-remove items i))
      (once_remove (map entry_of items) i within o)

  pub take_removes : (new : List Flight) → new ≡ remove items i → table new ≡ finmap.remove (table items) s
  take_removes new is = ap from_entries (ap (map entry_of) is ∙ map-remove items i)
      ∙ remove_removes (map entry_of items) i (entry_of x) within o ∙ ap (finmap.remove (table items)) key
