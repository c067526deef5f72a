-- The table of requests in flight as a finite map, and what each change of the table does to the map.
use Rattle.std.proofs.Common.{◌≡◌, ℕ, ◌+◌, ◌<◌, Bool, true, false, cond, eqb, eqb-true, List, [], ◌∷◌, ◌++◌, length}
use Rattle.std.proofs.Common.{get_or, refl, ap, sym, subst, ◌∙◌, arith, map, nat_le, ◌≤◌, ◌&&◌, ◌||◌, Option, Some}
use Rattle.std.proofs.Common.{None, option_map, find, position, remove, nat_cmp}
use Rattle.std.specs.List.{list_any}
use Rattle.std.specs.FinMap as finmap
use Rattle.std.specs.FinMap.{from_entries}
use Rattle.std.proofs.lemmas.Bool.Decides.{nat_tests}
use Rattle.std.proofs.lemmas.List.{length-map, map-append}
use Rattle.std.proofs.lemmas.List.Quantifiers.{position-Some}
use Rattle.pc_types.specs.declared.limits.TheConstants.{MAX_IN_FLIGHT}
use Rattle.mapping.proofs.MapLemmas.{same_nat_map, get-remove_nat}
use Rattle.writeback.specs.declared.requests.Entry.{Entry}
use Rattle.machine.specs.State.{Request, Sync, awaits, fills}
use Rattle.writeback.specs.Flights.{Flights, begun, ended, first_awaited, is_full}
use Rattle.machine.specs.Changes.{cut_request}
use Rattle.maps.specs.Maps.{each_value}
use Rattle.writeback.specs.Requests.{entry_of, request_of, cut_entry}
use Rattle.writeback.specs.Rising.{IsRising}
use Rattle.writeback.proofs.MapLaws.{lookup, get-lookup}
use Rattle.writeback.proofs.RisingLemmas.{len-rising, entries-rising, rising_push, push_inserts, rising_remove}
use Rattle.writeback.proofs.RisingLemmas.{lookup-remove, lookup_high, rising_map, position-map, map-remove, get_or-map}
use Rattle.writeback.proofs.Places.{lookup-position, lookup-position_none}

abbrev shown : Option Entry → Option Request
shown o = option_map request_of (option_map (λ (e : Entry). e.request) o)

-- what the table shows
abbrev pub table : ℕ → List Entry → Flights
table next items = record { next = next; requests = from_entries (map entry_of items) }

abbrev pub IsTable : ℕ → List Entry → Type 0
IsTable next items = IsRising 0 (map entry_of items) next

pub len_table : (next : ℕ) (items : List Entry) → IsTable next items
    → length items ≡ finmap.len (table next items).requests
len_table next items r = sym (len-rising 0 next (map entry_of items) r ∙ length-map items entry_of)

pub room : (next : ℕ) (items : List Entry) → IsTable next items → is_full (table next items) ≡ false
    → length items < MAX_IN_FLIGHT
room next items r e = let l = len_table next items r in grind (arith, nat_tests)

find_entry : (items : List Entry) (s : ℕ)
    → option_map request_of (option_map (λ (e : Entry). e.request) (find (λ (e : Entry). eqb e.serial.0 s) items))
    ≡ lookup s (map entry_of items)
find_entry [] s = refl
find_entry (e ∷ items) s = turned
    ∙ ap (λ o. cond (eqb s e.serial.0) (Some (request_of e.request)) o) (find_entry items s)
  where
    same : eqb e.serial.0 s ≡ eqb s e.serial.0
    same = grind (arith, nat_tests)

    turned : shown (cond (eqb e.serial.0 s) (Some e) (find (λ (e : Entry). eqb e.serial.0 s) items))
        ≡ cond (eqb s e.serial.0) (Some (request_of e.request)) (shown (find (λ (e : Entry). eqb e.serial.0 s) items))
    turned =
        elim (eqb e.serial.0 s) as (λ b. b ≡ eqb s e.serial.0
        → shown (cond b (Some e) (find (λ (e : Entry). eqb e.serial.0 s) items)) ≡ cond (eqb s e.serial.0)
        (Some (request_of e.request)) (shown (find (λ (e : Entry). eqb e.serial.0 s) items))) [
          | true ↦ λ t. ap (λ b. cond b (Some (request_of e.request))
              (shown (find (λ (e : Entry). eqb e.serial.0 s) items))) t
          | false ↦ λ t. ap (λ b. cond b (Some (request_of e.request))
              (shown (find (λ (e : Entry). eqb e.serial.0 s) items))) t
        ] same

-- a look-up by serial
pub get_table : (next : ℕ) (items : List Entry) (s : ℕ)
    → option_map request_of (option_map (λ (e : Entry). e.request) (find (λ (e : Entry). eqb e.serial.0 s) items))
    ≡ finmap.get (table next items).requests s
get_table next items s = find_entry items s ∙ sym (get-lookup (map entry_of items) s)

-- ---- a request begins

pub push_rises : (next : ℕ) (items new : List Entry) (e : Entry) → e.serial.0 ≡ next → new ≡ items ++ e ∷ []
    → IsTable next items → IsTable (next + 1) new
push_rises next items new e key is r =
    subst (λ es. IsRising 0 es (next + 1))
    (sym (ap (map entry_of) is ∙ map-append entry_of items (e ∷ [])
    ∙ ap (λ k. map entry_of items ++ (k, request_of e.request) ∷ []) key))
    (rising_push 0 next (map entry_of items) (request_of e.request) r)

pub push_begins : (next : ℕ) (items new : List Entry) (e : Entry) → e.serial.0 ≡ next → new ≡ items ++ e ∷ []
    → IsTable next items → table (next + 1) new ≡ begun (table next items) (request_of e.request)
push_begins next items new e key is r =
    let made = ap (λ es. from_entries {R = nat_cmp} (map entry_of es)) is
    ∙ ap from_entries (map-append entry_of items (e ∷ [])
    ∙ ap (λ k. map entry_of items ++ (k, request_of e.request) ∷ []) key)
    ∙ push_inserts 0 next (map entry_of items) (request_of e.request) r in
    λ i. record { next = next + 1; requests = made i }

-- ---- a request ends

at_entry : (items : List Entry) (s : ℕ) (o : Option ℕ) → position (λ (e : Entry). eqb e.serial.0 s) items ≡ o
    → position (λ (x : ℕ × Request). eqb x.0 s) (map entry_of items) ≡ o
at_entry items s o e = position-map (λ (x : ℕ × Request). eqb x.0 s) entry_of items ∙ e

pub absent_get : (next : ℕ) (items : List Entry) (s : ℕ) → position (λ (e : Entry). eqb e.serial.0 s) items ≡ None
    → finmap.get (table next items).requests s ≡ None
absent_get next items s e = get-lookup (map entry_of items) s
    ∙ lookup-position_none s (map entry_of items) (at_entry items s None e)

pub absent_ends : (next : ℕ) (items : List Entry) (s : ℕ) → position (λ (e : Entry). eqb e.serial.0 s) items ≡ None
    → table next items ≡ ended (table next items) s
absent_ends next items s e =
    let none = absent_get next items s e in
    let same = same_nat_map (table next items).requests (finmap.remove (table next items).requests s)
    (λ q. kept q none (eqb q s) refl ∙ sym (get-remove_nat (table next items).requests s q)) in
    λ i. record { next = next; requests = same i }
  where
    kept : (q : ℕ) → finmap.get (table next items).requests s ≡ None → (b : Bool) → eqb q s ≡ b
        → finmap.get (table next items).requests q ≡ cond (eqb q s) None (finmap.get (table next items).requests q)
    kept q none true t = ap (λ k. finmap.get (table next items).requests k) (eqb-true q s t) ∙ none
        ∙ sym (ap (λ b. cond b None (finmap.get (table next items).requests q)) t)
    kept q none false t = sym (ap (λ b. cond b None (finmap.get (table next items).requests q)) t)

-- the entry at i has the serial s
pub found_inside : (items : List Entry) (s i : ℕ) (d : Entry) → position (λ (e : Entry). eqb e.serial.0 s) items
    ≡ Some i → i < length items
found_inside items s i d at = (position-Some (λ (e : Entry). eqb e.serial.0 s) items i d at).0

pub found_get : (next : ℕ) (items : List Entry) (s i : ℕ) (e : Entry) → position (λ (e : Entry). eqb e.serial.0 s) items
    ≡ Some i → e ≡ get_or items i e → Some (request_of e.request) ≡ finmap.get (table next items).requests s
found_get next items s i e at is =
    ap (λ (x : Entry). Some (request_of x.request)) is
    ∙ ap (λ (x : ℕ × Request). Some x.1) (sym (get_or-map entry_of items i e (found_inside items s i e at)))
    ∙ sym (get-lookup (map entry_of items) s
    ∙ lookup-position s (map entry_of items) i (entry_of e) (at_entry items s (Some i) at))

pub remove_rises : (next : ℕ) (items new : List Entry) (s i : ℕ) (d : Entry)
    → position (λ (e : Entry). eqb e.serial.0 s) items ≡ Some i → new ≡ remove items i → IsTable next items
    → IsTable next new
remove_rises next items new s i d at is r =
    subst (λ es. IsRising 0 es next) (sym (ap (map entry_of) is ∙ map-remove entry_of items i))
    (rising_remove 0 next (map entry_of items) i
    (omega (arith, length-map items entry_of, found_inside items s i d at)) r)

pub remove_ends : (next : ℕ) (items new : List Entry) (s i : ℕ) (d : Entry)
    → position (λ (e : Entry). eqb e.serial.0 s) items ≡ Some i → new ≡ remove items i → IsTable next items
    → table next new ≡ ended (table next items) s
remove_ends next items new s i d at is r =
    let key : (get_or (map entry_of items) i (entry_of d)).0 ≡ s =
    eqb-true _ _ (position-Some (λ (x : ℕ × Request). eqb x.0 s) (map entry_of items) i (entry_of d)
    (at_entry items s (Some i) at)).1 in
    let inside : i < length (map entry_of items) =
    omega (arith, length-map items entry_of, found_inside items s i d at) in
    let made = ap (λ es. from_entries {R = nat_cmp} (map entry_of es)) is
    ∙ ap from_entries (map-remove entry_of items i)
    ∙ same_nat_map (from_entries (remove (map entry_of items) i))
    (finmap.remove (from_entries (map entry_of items)) s) (λ q. get-lookup (remove (map entry_of items) i) q
    ∙ lookup-remove 0 next (map entry_of items) i (entry_of d) q inside r
    ∙ ap (λ k. cond (eqb q k) None (lookup q (map entry_of items))) key
    ∙ ap (cond (eqb q s) None) (sym (get-lookup (map entry_of items) q))
    ∙ sym (get-remove_nat (from_entries (map entry_of items)) s q)) in
    λ i. record { next = next; requests = made i }

-- ---- requests are dropped

cut_entries : (f p : ℕ) (items : List Entry)
    → map entry_of (map (cut_entry f p) items) ≡ map (λ (x : ℕ × Request). (x.0, cut_request f p x.1))
    (map entry_of items)
cut_entries f p [] = refl
cut_entries f p (e ∷ items) = λ i. here (eqb e.request.file.0 f && nat_le p e.request.page.0) i ∷ cut_entries f p items
    i
  where
    here : (b : Bool) → entry_of (cond b (record e { request = record e.request { dropped = true } }) e)
        ≡ (e.serial.0, cond b (record (request_of e.request) { dropped = true }) (request_of e.request))
    here true = refl
    here false = refl

pub cut_rises : (next f p : ℕ) (items new : List Entry) → new ≡ map (cut_entry f p) items → IsTable next items
    → IsTable next new
cut_rises next f p items new is r =
    subst (λ es. IsRising 0 es next) (sym (ap (map entry_of) is ∙ cut_entries f p items))
    (rising_map (cut_request f p) 0 next (map entry_of items) r)

pub cut_drops : (next f p : ℕ) (items new : List Entry) → new ≡ map (cut_entry f p) items → IsTable next items
    → table next new ≡ record (table next items)
    { requests = each_value (λ _. cut_request f p) (table next items).requests }
cut_drops next f p items new is r =
    let made = ap (λ es. from_entries {R = nat_cmp} (map entry_of es)) is
    ∙ ap from_entries (cut_entries f p items
    ∙ ap (map (λ (x : ℕ × Request). (x.0, cut_request f p x.1)))
    (sym (entries-rising 0 next (map entry_of items) r))) in
    λ i. record { next = next; requests = made i }

-- ---- the first request that a sync awaits

pub first_table : (next f bound : ℕ) (y : Sync) (items : List Entry) → IsTable next items
    → option_map {U = ℕ × ℕ} (λ (e : Entry). (e.serial.0, e.request.page.0))
    (find (λ (e : Entry). awaits f y bound (entry_of e)) items) ≡ option_map {U = ℕ × ℕ}
    (λ (e : ℕ × Request). (e.0, e.1.page)) (first_awaited f y bound (table next items).requests)
first_table next f bound y items r = in_list items
    ∙ ap (λ es. option_map {U = ℕ × ℕ} (λ (e : ℕ × Request). (e.0, e.1.page)) (find (awaits f y bound) es))
    (sym (entries-rising 0 next (map entry_of items) r))
  where
    in_list : (es : List Entry) → option_map {U = ℕ × ℕ} (λ (e : Entry). (e.serial.0, e.request.page.0))
        (find (λ (e : Entry). awaits f y bound (entry_of e)) es) ≡ option_map {U = ℕ × ℕ}
        (λ (e : ℕ × Request). (e.0, e.1.page)) (find (awaits f y bound) (map entry_of es))
    in_list [] = refl
    in_list (e ∷ es) =
        elim (awaits f y bound (entry_of e)) as (λ b. option_map {U = ℕ × ℕ}
        (λ (e : Entry). (e.serial.0, e.request.page.0))
        (cond b (Some e) (find (λ (e : Entry). awaits f y bound (entry_of e)) es)) ≡ option_map {U = ℕ × ℕ}
        (λ (e : ℕ × Request). (e.0, e.1.page)) (cond b (Some (entry_of e)) (find (awaits f y bound) (map entry_of es))))
        [ true ↦ refl | false ↦ in_list es ]

-- ---- serials that were not given out yet

pub none_above : (next : ℕ) (items : List Entry) (t : ℕ) → next ≤ t → IsTable next items
    → finmap.get (table next items).requests t ≡ None
none_above next items t h r = get-lookup (map entry_of items) t ∙ lookup_high t 0 next (map entry_of items) h r

-- ---- whether a request is so

pub any_table : (passes : Request → Bool) (next : ℕ) (items : List Entry) → IsTable next items
    → list_any (λ (e : Entry). passes (request_of e.request)) items ≡ list_any passes (finmap.values (table next items).requests)
any_table passes next items r = in_list items
    ∙ ap (λ (es : List (ℕ × Request)). list_any passes (map (λ (e : ℕ × Request). e.1) es))
    (sym (entries-rising 0 next (map entry_of items) r))
  where
    in_list : (es : List Entry) → list_any (λ (e : Entry). passes (request_of e.request)) es
        ≡ list_any passes (map (λ (e : ℕ × Request). e.1) (map entry_of es))
    in_list [] = refl
    in_list (e ∷ es) = ap (λ b. passes (request_of e.request) || b) (in_list es)
