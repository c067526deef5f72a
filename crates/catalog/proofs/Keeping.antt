-- What a catalog keeps, after each of its changes.
use Rattle.std.proofs.Common.{◌≡◌, ℕ, ◌+◌, ◌-◌, ◌*◌, ◌^◌, ◌<◌, ◌≤◌, ◌⊎◌, ◌&&◌, Bool, true, false, eqb, cond, List, [], ◌∷◌, ◌++◌, zero, suc, length, length-append, Option, Some, None, refl, sym, ap, subst, ◌∙◌, arith, inl, inr, min}
use Rattle.std.specs.Prelude.{nat_le, nat_lt, slice_index}
use Rattle.std.specs.FinMap as map
use Rattle.std.proofs.lemmas.Bool.{and_from, and_left, and_right, cond-false, cond-true, eq-eqb, false_from_ne_true, false≢true, le-leb, leb-true, lt-ltb, ltb-true, ne_eqb}
use Rattle.std.proofs.lemmas.Option.{none-some, same_Some}
use Rattle.pc_types.specs.Limits.{Sizes}
use Rattle.pc_types.specs.Spots.{Spot, place_cmp}
use Rattle.blockmap.specs.Blocks.{Blocks, is_mapped}
use Rattle.blockmap.specs.Keys.{NoneFrom}
use Rattle.blockmap.proofs.MapLemmas.{has_here, mapped_at}
use Rattle.machine.specs.Catalogs.{IsAdoptable, IsCatalog}
use Rattle.machine.specs.State.{page_count}
use Rattle.catalog.specs.declared.extent.Extent.{Extent}
use Rattle.catalog.specs.Extents.{Added, or_else, spot_in, spot_number}
use Rattle.catalog.specs.Kept.{IsKept, cataloged}
use Rattle.catalog.specs.Rows.{Adopts, HasRoom}
use Rattle.catalog.proofs.Adoptions.{IsInside, IsOutside, cases_inside}
use Rattle.catalog.proofs.Numbers.{counted_page, first_within, page_counted, pages_within, spot_within}

-- ---- lists of sizes

size_past : (xs : List ℕ) (f : ℕ) → length xs ≤ f → slice_index xs f ≡ 0
size_past [] f past = refl
size_past (x ∷ xs) zero past = absurd (omega arith)
size_past (x ∷ xs) (suc f) past = size_past xs f (omega arith)

size_grows : (xs : List ℕ) (z f : ℕ) → slice_index xs f ≤ slice_index (xs ++ z ∷ []) f
size_grows [] z f = omega arith
size_grows (x ∷ xs) z zero = omega arith
size_grows (x ∷ xs) z (suc f) = size_grows xs z f

size_bound : (xs : List ℕ) (z f most : ℕ) → ((g : ℕ) → slice_index xs g ≤ most) → z ≤ most → slice_index (xs ++ z ∷ []) f ≤ most
size_bound [] z zero most each last = last
size_bound [] z (suc f) most each last = omega arith
size_bound (x ∷ xs) z zero most each last = each 0
size_bound (x ∷ xs) z (suc f) most each last = size_bound xs z f most (λ g. each (suc g)) last

-- ---- what is always so

abbrev pub sizes_of : ℕ → ℕ → Sizes
sizes_of P count = record { page = P; frames = 0; dirty_limit = 0; blocks = count }

module _ (P count : ℕ) (sizes : List ℕ) (b : Blocks) (is : IsKept P count sizes b) where
  pub kept_catalog : IsCatalog (sizes_of P count) (cataloged P count sizes b).files
  kept_catalog = is.files (sizes_of P count) refl refl

  pub few_files : length sizes ≤ 64
  few_files = kept_catalog.count

  pub size_small : (f : ℕ) → slice_index sizes f ≤ 2 ^ 40
  size_small f = kept_catalog.file_sizes f

  pub spot_kept : (f p : ℕ) (spot : Spot) → map.get b.spots (f, p) ≡ Some spot → IsAdoptable (sizes_of P count) (slice_index sizes f) p spot
  spot_kept f p spot h = kept_catalog.spots f p spot h

  pub page_small : (f p : ℕ) (spot : Spot) → map.get b.spots (f, p) ≡ Some spot → p < 2 ^ 36
  page_small f p spot h =
      let a = spot_kept f p spot h in
      spot_within P p spot.valid (slice_index sizes f) is.least a.in_file a.some (size_small f)

  absent : (f p : ℕ) (o : Option Spot) → map.get b.spots (f, p) ≡ o → ((spot : Spot) → map.get b.spots (f, p) ≡ Some spot → ⊥) → map.get b.spots (f, p) ≡ None
  absent f p None at never = at
  absent f p (Some spot) at never = absurd (never spot at)

  pub none_past : (f p : ℕ) → 2 ^ 36 ≤ p → map.get b.spots (f, p) ≡ None
  none_past f p past = absent f p (map.get b.spots (f, p)) refl (λ spot h. let low : p < 2 ^ 36 = page_small f p spot h in omega arith)

  pub none_of_file : (f p : ℕ) → length sizes ≤ f → NoneFrom b.spots f p
  none_of_file f p past = record {
    each = λ q low. absent f q (map.get b.spots (f, q)) refl (λ spot h.
        let a = spot_kept f q spot h in
        let some : 0 < spot.valid = a.some in
        let in_file : q * P + spot.valid ≤ slice_index sizes f = a.in_file in
        let nothing : slice_index sizes f ≡ 0 = size_past sizes f past in
        omega arith);
  }

-- ---- what room for an extent says

module _ (P count : ℕ) (sizes : List ℕ) (b : Blocks) (is : IsKept P count sizes b) (f : ℕ) (e : Extent) (room : HasRoom (cataloged P count sizes b) f e) where
  pub room_file : f < 64
  room_file = let few : length sizes ≤ 64 = few_files P count sizes b is in let here : f < length sizes = room.file in omega arith

  pub room_bytes : e.bytes ≤ 2 ^ 40
  room_bytes =
      let small : slice_index sizes f ≤ 2 ^ 40 = size_small P count sizes b is f in
      let in_file : e.first.0 * P + e.bytes ≤ slice_index sizes f = room.in_file in
      omega arith

  pub room_first : e.first.0 ≤ 2 ^ 36
  room_first = first_within P e.first.0 e.bytes (slice_index sizes f) is.least room.in_file (size_small P count sizes b is f)

  pub room_pages : e.first.0 + page_count P e.bytes ≤ 2 ^ 36
  room_pages = pages_within P e.first.0 e.bytes (slice_index sizes f) is.least room.in_file (size_small P count sizes b is f) room.some

-- ---- changes

pub kept_new : (P count : ℕ) → 16 ≤ P → P ≤ 4096 → count ≤ 2 ^ 32 → IsKept P count [] (record { count = count; spots = map.empty; held = map.empty })
kept_new P count least most small = record {
  least = least;
  most = most;
  small = small;
  counted = refl;
  not_held = refl;
  files = λ s hp hb. record {
    count = omega arith;
    file_sizes = λ f. omega arith;
    spots = λ f p spot h. absurd (none-some spot (sym (map.get-empty place_cmp (f, p)) ∙ h));
    apart = λ f p g q x y h k same. absurd (none-some x (sym (map.get-empty place_cmp (f, p)) ∙ h));
  };
}

pub kept_file : (P count : ℕ) (sizes : List ℕ) (b : Blocks) (z : ℕ) → IsKept P count sizes b → length sizes < 64 → z ≤ 2 ^ 40 → IsKept P count (sizes ++ z ∷ []) b
kept_file P count sizes b z is room most = record {
  least = is.least;
  most = is.most;
  small = is.small;
  counted = is.counted;
  not_held = is.not_held;
  files = λ s hp hb.
      let was : IsCatalog s (cataloged P count sizes b).files = is.files s hp hb in
      record {
        count = omega (arith, length-append sizes (z ∷ []));
        file_sizes = λ f. size_bound sizes z f (2 ^ 40) was.file_sizes most;
        spots = λ f p spot h.
            let a = was.spots f p spot h in
            record { on_device = a.on_device; some = a.some; in_page = a.in_page; in_file = omega (arith, a.in_file, size_grows sizes z f) };
        apart = was.apart;
      };
}

-- a file more, where there was memory for it
pub kept_pushed : (ok : Bool) (P count : ℕ) (sizes : List ℕ) (b : Blocks) (z : ℕ) → IsKept P count sizes b → length sizes < 64 → z ≤ 2 ^ 40 → IsKept P count (cond ok (sizes ++ z ∷ []) sizes) b
kept_pushed true P count sizes b z is room most = kept_file P count sizes b z is room most
kept_pushed false P count sizes b z is room most = is

-- an extent's page is one that a cache may begin with
extent_adoptable : (s : Sizes) (P count first block bytes z k : ℕ) → s.page ≡ P → s.blocks ≡ count → 0 < P → first * P + bytes ≤ z → block + page_count P bytes ≤ count → k < page_count P bytes → IsAdoptable s z (first + k) (record { block = block + k; valid = min P (bytes - k * P) })
extent_adoptable s P count first block bytes z k hp hb some in_file on_device low =
    let inside : k * P < bytes = counted_page P bytes k some low in
    record {
      on_device = subst (λ x. block + k < x) (sym hb) (omega arith);
      some = omega arith;
      in_page = subst (λ x. min P (bytes - k * P) ≤ x) (sym hp) (omega arith);
      in_file = subst (λ x. (first + k) * x + min P (bytes - k * P) ≤ z) (sym hp) (omega arith);
    }

module _ (P count : ℕ) (sizes : List ℕ) (old new : Blocks) (f : ℕ) (e : Extent) (is : IsKept P count sizes old) (room : HasRoom (cataloged P count sizes old) f e) (adopts : Adopts P old new f e (page_count P e.bytes)) where
  inside_at : (g p : ℕ) (i : IsInside f e.first.0 (page_count P e.bytes) g p) → map.get new.spots (g, p) ≡ Some (spot_number P e i.k)
  inside_at g p i = (λ j. map.get new.spots (i.file j, i.at j)) ∙ adopts.there i.k i.low

  spot_new : (s : Sizes) → s.page ≡ P → s.blocks ≡ count → (g p : ℕ) (spot : Spot) → map.get new.spots (g, p) ≡ Some spot → IsAdoptable s (slice_index sizes g) p spot
  spot_new s hp hb g p spot h = elim (cases_inside f e.first.0 (page_count P e.bytes) g p) [
    | inl i ↦
        let same : spot_number P e i.k ≡ spot = same_Some (spot_number P e i.k) spot (sym (inside_at g p i) ∙ h) in
        let some : 0 < P = (let l = is.least in omega arith) in
        let a = extent_adoptable s P count e.first.0 e.block.0 e.bytes (slice_index sizes f) i.k hp hb some room.in_file room.on_device i.low in
        subst (λ x. IsAdoptable s (slice_index sizes g) p x) same
        (subst (λ q. IsAdoptable s (slice_index sizes g) q (spot_number P e i.k)) (sym i.at)
        (subst (λ x. IsAdoptable s (slice_index sizes x) (e.first.0 + i.k) (spot_number P e i.k)) (sym i.file) a))
    | inr o ↦ (is.files s hp hb).spots g p spot (sym (adopts.others g p o) ∙ h)
  ]

  -- an extent's page and an old one have no block in common
  no_old : (g p h q : ℕ) (x y : Spot) (i : IsInside f e.first.0 (page_count P e.bytes) g p) → IsOutside f e.first.0 (page_count P e.bytes) h q → map.get new.spots (g, p) ≡ Some x → map.get new.spots (h, q) ≡ Some y → x.block ≡ y.block → ⊥
  no_old g p h q x y i o at_x at_y same =
      let block : e.block.0 + i.k ≡ x.block = ap (λ (s : Spot). s.block) (same_Some (spot_number P e i.k) x (sym (inside_at g p i) ∙ at_x)) in
      let there : map.get old.spots (h, q) ≡ Some y = sym (adopts.others h q o) ∙ at_y in
      false≢true
      (sym (adopts.free i.k i.low)
      ∙ ap (is_mapped old.spots) (block ∙ same)
      ∙ mapped_at old.spots (h, q) y.block (has_here old.spots (h, q) y there))

  apart_new : (s : Sizes) → s.page ≡ P → s.blocks ≡ count → (g p h q : ℕ) (x y : Spot) → map.get new.spots (g, p) ≡ Some x → map.get new.spots (h, q) ≡ Some y → x.block ≡ y.block → (g ≡ h) × (p ≡ q)
  apart_new s hp hb g p h q x y at_x at_y same = elim (cases_inside f e.first.0 (page_count P e.bytes) g p) [
    | inl i ↦ elim (cases_inside f e.first.0 (page_count P e.bytes) h q) [
      | inl j ↦
          let bx : e.block.0 + i.k ≡ x.block = ap (λ (s : Spot). s.block) (same_Some (spot_number P e i.k) x (sym (inside_at g p i) ∙ at_x)) in
          let by : e.block.0 + j.k ≡ y.block = ap (λ (s : Spot). s.block) (same_Some (spot_number P e j.k) y (sym (inside_at h q j) ∙ at_y)) in
          (i.file ∙ sym j.file, let pi = i.at in let qj = j.at in omega arith)
      | inr o ↦ absurd (no_old g p h q x y i o at_x at_y same)
    ]
    | inr o ↦ elim (cases_inside f e.first.0 (page_count P e.bytes) h q) [
      | inl j ↦ absurd (no_old h q g p y x j o at_y at_x (sym same))
      | inr u ↦ (is.files s hp hb).apart g p h q x y (sym (adopts.others g p o) ∙ at_x) (sym (adopts.others h q u) ∙ at_y) same
    ]
  ]

  pub kept_extent : IsKept P count sizes new
  kept_extent = record {
    least = is.least;
    most = is.most;
    small = is.small;
    counted = adopts.count ∙ is.counted;
    not_held = adopts.held ∙ is.not_held;
    files = λ s hp hb. record {
      count = (is.files s hp hb).count;
      file_sizes = (is.files s hp hb).file_sizes;
      spots = spot_new s hp hb;
      apart = apart_new s hp hb;
    };
  }

  in_extent : (p : ℕ) → e.first.0 ≤ p → (p - e.first.0) * P < e.bytes → spot_in P e p ≡ Some (spot_number P e (p - e.first.0))
  in_extent p above inside =
      cond-true (nat_le e.first.0 p && nat_lt ((p - e.first.0) * P) e.bytes) (Some (spot_number P e (p - e.first.0))) None
      (and_from (nat_le e.first.0 p) (nat_lt ((p - e.first.0) * P) e.bytes) (le-leb e.first.0 p above) (lt-ltb ((p - e.first.0) * P) e.bytes inside))

  no_extent : (p : ℕ) → (p < e.first.0) ⊎ (e.first.0 + page_count P e.bytes ≤ p) → spot_in P e p ≡ None
  no_extent p (inl below) =
      cond-false (nat_le e.first.0 p && nat_lt ((p - e.first.0) * P) e.bytes) (Some (spot_number P e (p - e.first.0))) None
      (and_left (nat_le e.first.0 p) (nat_lt ((p - e.first.0) * P) e.bytes) (false_from_ne_true (nat_le e.first.0 p) (λ t. let low : e.first.0 ≤ p = leb-true e.first.0 p t in omega arith)))
  no_extent p (inr past) =
      cond-false (nat_le e.first.0 p && nat_lt ((p - e.first.0) * P) e.bytes) (Some (spot_number P e (p - e.first.0))) None
      (and_right (nat_le e.first.0 p) (nat_lt ((p - e.first.0) * P) e.bytes) (false_from_ne_true (nat_lt ((p - e.first.0) * P) e.bytes) (λ t.
      let inside : (p - e.first.0) * P < e.bytes = ltb-true ((p - e.first.0) * P) e.bytes t in
      let some : 0 < P = (let l = is.least in omega arith) in
      let low : p - e.first.0 < page_count P e.bytes = page_counted P e.bytes (p - e.first.0) some inside in
      let far : page_count P e.bytes ≤ p - e.first.0 = (let pc : ℕ = page_count P e.bytes in beyond pc past) in
      clash (p - e.first.0) (page_count P e.bytes) low far)))
    where
      beyond : (c : ℕ) → e.first.0 + c ≤ p → c ≤ p - e.first.0
      beyond c h = omega arith

      clash : (a c : ℕ) → a < c → c ≤ a → ⊥
      clash a c h k = omega arith

  added_at : (g p : ℕ) → map.get new.spots (g, p) ≡ or_else (cond (eqb g f) (spot_in P e p) None) (map.get old.spots (g, p))
  added_at g p = elim (cases_inside f e.first.0 (page_count P e.bytes) g p) [
    | inl i ↦
        let some : 0 < P = (let l = is.least in omega arith) in
        let number : p - e.first.0 ≡ i.k = (let a = i.at in omega arith) in
        let inside : (p - e.first.0) * P < e.bytes = subst (λ k. k * P < e.bytes) (sym number) (counted_page P e.bytes i.k some i.low) in
        let extent : spot_in P e p ≡ Some (spot_number P e i.k) = in_extent p (let a = i.at in omega arith) inside ∙ (λ j. Some (spot_number P e (number j))) in
        inside_at g p i
        ∙ sym (ap (λ o. or_else o (map.get old.spots (g, p))) (cond-true (eqb g f) (spot_in P e p) None (eq-eqb g f i.file) ∙ extent))
    | inr o ↦ adopts.others g p o ∙ sym (ap (λ x. or_else x (map.get old.spots (g, p))) (outside g p o))
  ]
    where
      outside : (g p : ℕ) → IsOutside f e.first.0 (page_count P e.bytes) g p → cond (eqb g f) (spot_in P e p) None ≡ None
      outside g p (inl differs) = cond-false (eqb g f) (spot_in P e p) None (ne_eqb g f differs)
      outside g p (inr o) = either (eqb g f) (spot_in P e p) (no_extent p o)
        where
          either : (t : Bool) (x : Option Spot) → x ≡ None → cond t x None ≡ None
          either true x h = h
          either false x h = refl

  pub added : Added (cataloged P count sizes old) (cataloged P count sizes new) f e
  added = record { page = refl; blocks = refl; sizes = refl; spots = added_at }
