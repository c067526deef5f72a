-- Pages that stand side by side, and the extent that they make.
use Rattle.std.proofs.Common.{◌≡◌, ℕ, ◌+◌, ◌-◌, ◌*◌, ◌^◌, ◌<◌, ◌≤◌, ◌&&◌, eqb, List, Option, Some, None, option_map, refl, sym, ap, ◌∙◌, arith, inl, inr, min}
use Rattle.std.specs.Prelude.{nat_le, nat_lt, slice_index}
use Rattle.std.specs.FinMap as map
use Rattle.std.proofs.Math.Nat.{mul-le-mul_right}
use Rattle.std.proofs.lemmas.Bool.{and_parts, cases_Bool, cases_eq, cases_lt, cond-false, cond-true, eq-eqb, leb-true, ltb-true, ne_eqb}
use Rattle.std.proofs.lemmas.Option.{none-some}
use Rattle.pc_types.specs.Spots.{Spot}
use Rattle.blockmap.specs.declared.spots.Placed.{Placed}
use Rattle.blockmap.specs.Blocks.{Blocks, Spots}
use Rattle.blockmap.specs.Keys.{IsFirstFrom}
use Rattle.blockmap.specs.Told.{told}
use Rattle.blockmap.proofs.BlockLemmas.{told_spot}
use Rattle.machine.specs.State.{page_count}
use Rattle.catalog.specs.Extents.{IsNext, spot_in}
use Rattle.catalog.specs.Kept.{IsKept, cataloged}
use Rattle.catalog.specs.Rows.{IsRow, valid_on}
use Rattle.catalog.proofs.Keeping.{page_small, size_small, spot_kept}

-- ---- numbers

less_than : (j k v P : ℕ) → v < P → j * P < k * P + v → j ≤ k
less_than j k v P low inside = elim (cases_lt k j) [
  | inr most ↦ most
  | inl more ↦ absurd (let e : (k + 1) * P ≤ j * P = mul-le-mul_right P (let h : k + 1 ≤ j = omega arith in h) in omega arith)
]

whole_bytes : (j k v P : ℕ) → j < k → min P (k * P + v - j * P) ≡ P
whole_bytes j k v P low = let e : (j + 1) * P ≤ k * P = mul-le-mul_right P (let h : j + 1 ≤ k = omega arith in h) in omega arith

all_whole : (n k v P : ℕ) → v < P → k * P + v ≡ n * P → (n ≡ k) × (v ≡ 0)
all_whole n k v P low same =
    let most : n ≤ k = elim (cases_lt k n) [
      | inr h ↦ h
      | inl more ↦ absurd (let e : (k + 1) * P ≤ n * P = mul-le-mul_right P (let h : k + 1 ≤ n = omega arith in h) in omega arith)
    ] in
    let least : k ≤ n = elim (cases_lt n k) [
      | inr h ↦ h
      | inl less ↦ absurd (let e : (n + 1) * P ≤ k * P = mul-le-mul_right P (let h : n + 1 ≤ k = omega arith in h) in omega arith)
    ] in
    let both : n ≡ k = omega arith in
    (both, let e : n * P ≡ k * P = ap (λ x. x * P) both in omega arith)

-- ---- a page on a block

pub valid_on_some : (b v : ℕ) (o : Option Spot) → 0 < v → v ≡ valid_on b o → o ≡ Some (record { block = b; valid = v })
valid_on_some b v None some h = absurd (omega arith)
valid_on_some b v (Some s) some h = elim (cases_eq s.block b) [
  | inl same ↦ (let valid : v ≡ s.valid = h ∙ cond-true (eqb s.block b) s.valid 0 (eq-eqb s.block b same) in λ i. Some (record { block = same i; valid = sym valid i }))
  | inr differs ↦ absurd (let none : v ≡ 0 = h ∙ cond-false (eqb s.block b) s.valid 0 (ne_eqb s.block b differs) in omega arith)
]

valid_on_here : (b : ℕ) (s : Spot) → s.block ≡ b → valid_on b (Some s) ≡ s.valid
valid_on_here b s same = cond-true (eqb s.block b) s.valid 0 (eq-eqb s.block b same)

valid_on_le : (b P : ℕ) (o : Option Spot) → ((s : Spot) → o ≡ Some s → s.valid ≤ P) → valid_on b o ≤ P
valid_on_le b P None each = omega arith
valid_on_le b P (Some s) each = elim (cases_eq s.block b) [
  | inl same ↦ (let e : valid_on b (Some s) ≡ s.valid = valid_on_here b s same in let most : s.valid ≤ P = each s refl in omega arith)
  | inr differs ↦ (let e : valid_on b (Some s) ≡ 0 = cond-false (eqb s.block b) s.valid 0 (ne_eqb s.block b differs) in omega arith)
]

-- ---- rows

pub row_begins : (P : ℕ) (m : Spots) (f p : ℕ) (x : Placed) → Some x ≡ option_map told (map.get m (f, p)) → IsRow P m f p x.block.0 0 x.valid
row_begins P m f p x there =
    let t = told_spot (map.get m (f, p)) x there in
    let block : t.0.block ≡ x.block.0 = ap (λ (y : Placed). y.block.0) t.2 in
    let valid : t.0.valid ≡ x.valid = ap (λ (y : Placed). y.valid) t.2 in
    record {
      whole = λ j low. absurd (omega arith);
      rest =
          sym valid
          ∙ sym (valid_on_here (x.block.0 + 0) t.0 (let e : x.block.0 + 0 ≡ x.block.0 = omega arith in block ∙ sym e))
          ∙ sym (ap (valid_on (x.block.0 + 0)) ((let e : p + 0 ≡ p = omega arith in ap (λ q. map.get m (f, q)) e) ∙ t.1));
    }

pub row_more : (P : ℕ) (m : Spots) (f p b k rest v : ℕ) → 0 < P → IsRow P m f p b k rest → rest ≡ P → v ≡ valid_on (b + (k + 1)) (map.get m (f, p + (k + 1))) → IsRow P m f p b (k + 1) v
row_more P m f p b k rest v some is full next = record {
  whole = λ j low. elim (cases_eq j k) [
    | inl same ↦
        (λ i. map.get m (f, p + same i))
        ∙ valid_on_some (b + k) P (map.get m (f, p + k)) some (sym full ∙ is.rest)
        ∙ (λ i. Some (record { block = b + sym same i; valid = P }))
    | inr differs ↦ is.whole j (omega arith)
  ];
  rest = next;
}

module _ (P count : ℕ) (sizes : List ℕ) (blocks : Blocks) (is : IsKept P count sizes blocks) (f p b k v : ℕ) (row : IsRow P blocks.spots f p b k v) where
  some_page : 0 < P
  some_page = let l = is.least in omega arith

  pub row_page : v ≡ P → p + k < 2 ^ 36
  row_page full =
      page_small P count sizes blocks is f (p + k) (record { block = b + k; valid = P })
      (valid_on_some (b + k) P (map.get blocks.spots (f, p + k)) some_page (sym full ∙ row.rest))

  pub row_block : v ≡ P → b + k < 2 ^ 32
  row_block full =
      let last = spot_kept P count sizes blocks is f (p + k) (record { block = b + k; valid = P }) (valid_on_some (b + k) P (map.get blocks.spots (f, p + k)) some_page (sym full ∙ row.rest)) in
      let within : b + k < count = last.on_device in
      let small : count ≤ 2 ^ 32 = is.small in
      omega arith

  pub rest_most : v ≤ P
  rest_most =
      let most : valid_on (b + k) (map.get blocks.spots (f, p + k)) ≤ P = valid_on_le (b + k) P (map.get blocks.spots (f, p + k)) (λ s h. (spot_kept P count sizes blocks is f (p + k) s h).in_page) in
      let same : v ≡ valid_on (b + k) (map.get blocks.spots (f, p + k)) = row.rest in
      omega arith

  -- the whole pages are of a file, so their bytes are few
  pub row_small : k * P ≤ 2 ^ 40
  row_small = elim (cases_eq k 0) [
    | inl none ↦ (let e : k * P ≡ 0 * P = ap (λ x. x * P) none in omega arith)
    | inr some ↦
        (let last = spot_kept P count sizes blocks is f (p + (k - 1)) (record { block = b + (k - 1); valid = P }) (row.whole (k - 1) (omega arith)) in
        let in_file : (p + (k - 1)) * P + P ≤ slice_index sizes f = last.in_file in
        let most : slice_index sizes f ≤ 2 ^ 40 = size_small P count sizes blocks is f in
        let pages : (k - 1 + 1) * P ≤ (p + (k - 1) + 1) * P = mul-le-mul_right P (let h : k - 1 + 1 ≤ p + (k - 1) + 1 = omega arith in h) in
        let back : k - 1 + 1 ≡ k = omega arith in
        let e : (k - 1 + 1) * P ≡ k * P = ap (λ x. x * P) back in
        omega arith)
  ]

  module _ (low : v < P) (x : Placed) (there : Some x ≡ option_map told (map.get blocks.spots (f, p))) (block : x.block.0 ≡ b) where
    some_bytes : 0 < k * P + v
    some_bytes = elim (cases_eq k 0) [
      | inr some ↦ (let e : 1 * P ≤ k * P = mul-le-mul_right P (let h : 1 ≤ k = omega arith in h) in let s = some_page in omega arith)
      | inl none ↦
          (let t = told_spot (map.get blocks.spots (f, p)) x there in
          let same : t.0.block ≡ b = ap (λ (y : Placed). y.block.0) t.2 ∙ block in
          let valid : 0 < t.0.valid = (spot_kept P count sizes blocks is f p t.0 t.1).some in
          let at : v ≡ t.0.valid =
          row.rest
          ∙ (λ i. valid_on (b + none i) (map.get blocks.spots (f, p + none i)))
          ∙ ap (valid_on (b + 0)) ((let e : p + 0 ≡ p = omega arith in ap (λ q. map.get blocks.spots (f, q)) e) ∙ t.1)
          ∙ valid_on_here (b + 0) t.0 (let e : b + 0 ≡ b = omega arith in same ∙ sym e) in
          omega arith)
    ]

    spot_at : (j : ℕ) → j * P < k * P + v → map.get blocks.spots (f, p + j) ≡ Some (record { block = b + j; valid = min P (k * P + v - j * P) })
    spot_at j inside = elim (cases_lt j k) [
      | inl less ↦ row.whole j less ∙ (λ i. Some (record { block = b + j; valid = sym (whole_bytes j k v P less) i }))
      | inr least ↦
          (let same : j ≡ k = (let most : j ≤ k = less_than j k v P low inside in omega arith) in
          let e : j * P ≡ k * P = ap (λ x. x * P) same in
          let some : 0 < v = omega arith in
          let bytes : v ≡ min P (k * P + v - j * P) = omega arith in
          (λ i. map.get blocks.spots (f, p + same i))
          ∙ valid_on_some (b + k) v (map.get blocks.spots (f, p + k)) some row.rest
          ∙ (λ i. Some (record { block = b + sym same i; valid = bytes i })))
    ]

    has : (q : ℕ) (spot : Spot) → spot_in P (record { first = record { 0 = p }; block = record { 0 = b }; bytes = k * P + v }) q ≡ Some spot → map.get blocks.spots (f, q) ≡ Some spot
    has q spot h = elim (cases_Bool (nat_le p q && nat_lt ((q - p) * P) (k * P + v))) [
      | inr other ↦ absurd (none-some spot (sym (cond-false (nat_le p q && nat_lt ((q - p) * P) (k * P + v)) (Some (record { block = b + (q - p); valid = min P (k * P + v - (q - p) * P) })) None other) ∙ h))
      | inl within ↦
          (let parts = and_parts (nat_le p q) (nat_lt ((q - p) * P) (k * P + v)) within in
          let above : p ≤ q = leb-true p q parts.0 in
          let back : q ≡ p + (q - p) = omega arith in
          ap (λ r. map.get blocks.spots (f, r)) back
          ∙ spot_at (q - p) (ltb-true ((q - p) * P) (k * P + v) parts.1)
          ∙ sym (cond-true (nat_le p q && nat_lt ((q - p) * P) (k * P + v)) (Some (record { block = b + (q - p); valid = min P (k * P + v - (q - p) * P) })) None within)
          ∙ h)
    ]

    ends : (spot : Spot) (n : ℕ) → k * P + v ≡ n * P → map.get blocks.spots (f, p + n) ≡ Some spot → spot.block ≡ b + n → ⊥
    ends spot n same at on =
        let both = all_whole n k v P low same in
        let valid : 0 < spot.valid = (spot_kept P count sizes blocks is f (p + n) spot at).some in
        let is_it : v ≡ spot.valid =
        row.rest
        ∙ (λ i. valid_on (b + sym both.0 i) (map.get blocks.spots (f, p + sym both.0 i)))
        ∙ ap (valid_on (b + n)) at
        ∙ valid_on_here (b + n) spot on in
        let none : v ≡ 0 = both.1 in
        omega arith

    pub row_next : (from : ℕ) → IsFirstFrom blocks.spots f from p → IsNext (cataloged P count sizes blocks) f from (record { first = record { 0 = p }; block = record { 0 = b }; bytes = k * P + v })
    row_next from first = record {
      low = first.is.low;
      bare = first.bare;
      some = some_bytes;
      has = has;
      ends = λ spot same at on. ends spot (page_count P (k * P + v)) same at on;
    }
