-- An entry in parts: what the map has then.
use Rattle.std.proofs.Common.{◌≡◌, ◌≢◌, ℕ, suc, zero, ◌+◌, ◌-◌, ◌*◌, ◌%◌, ◌^◌, ◌<◌, ◌≤◌, ◌⊎◌, Some, refl, sym, ap, ◌∙◌, inl, inr, arith}
use Rattle.std.specs.Cmp.{nat_cmp_total}
use Rattle.std.specs.FinMap as map
use Rattle.std.proofs.lemmas.Bool.{cases_eq, cases_lt, cases_order}
use Rattle.std.proofs.lemmas.Nat.{mul-le, pow-add, pow_pos}
use Rattle.std.proofs.Math.Pow.{mod-mod-pow}
use Rattle.std.proofs.Math.Nat.{add-suc, add-mul-mod_self_right, zero-mod}
use Rattle.std.proofs.lemmas.Option.{same_Some}
use Rattle.xarray.specs.MarkedArray.{IsArray, Range, Ranges, entry_at, parts, split, split_at}
use Rattle.xarray.proofs.RangeLemmas.{get-put, get-put_other}

-- one of so many places, 2 ^ order apart
pub record IsPart (first order count q : ℕ) : Type 0 where
  pub number : ℕ
  pub low : number < count
  pub is : q ≡ first + number * 2 ^ order

-- none of them
pub record IsApart (first order count q : ℕ) : Type 0 where
  pub each : (i : ℕ) → i < count → q ≢ first + i * 2 ^ order

pub part_or_apart : (first order count q : ℕ) → IsPart first order count q ⊎ IsApart first order count q
part_or_apart first order zero q = inr (record { each = λ i low. absurd (omega (arith, low)) })
part_or_apart first order (suc count) q = elim (cases_eq q (first + count * 2 ^ order)) [
  | inl same ↦ inl (record { number = count; low = omega arith; is = same })
  | inr differs ↦ elim (part_or_apart first order count q) [
    | inl p ↦ inl (record { number = p.number; low = let l = p.low in omega (arith, l); is = p.is })
    | inr a ↦ inr (record {
      each = λ i low same. elim (cases_eq i count) [
        | inl last ↦ differs (same ∙ ap (λ z. first + z * 2 ^ order) last)
        | inr before ↦ a.each i (omega (arith, low, before)) same
      ];
    })
  ]
]

-- two of them are one or do not meet
pub steps_apart : (first order i j : ℕ) → i < j → first + i * 2 ^ order + 2 ^ order ≤ first + j * 2 ^ order
steps_apart first order i j below =
    let up : (i + 1) * 2 ^ order ≤ j * 2 ^ order = mul-le (i + 1) (2 ^ order) j (2 ^ order) (omega (arith, below)) (omega arith) in
    omega (arith, up)

module _ (m : Ranges) (first order : ℕ) (r : Range) where
  abbrev pub part : Range
  part = record r { order = order }

  pub get-part : (count i : ℕ) → i < count → map.get (parts m first order r count) (first + i * 2 ^ order) ≡ Some part
  get-part zero i low = absurd (omega (arith, low))
  get-part (suc count) i low = elim (cases_eq i count) [
    | inl same ↦ get-put (parts m first order r count) (first + count * 2 ^ order) (first + i * 2 ^ order) part (ap (λ z. first + z * 2 ^ order) same)
    | inr differs ↦
        let apart = steps_apart first order i count (omega (arith, low, differs)) in
        let some = pow_pos order in
        get-put_other (parts m first order r count) (first + count * 2 ^ order) (first + i * 2 ^ order) part (omega (arith, apart, some))
        ∙ get-part count i (omega (arith, low, differs))
  ]

  pub get-apart : (count q : ℕ) → IsApart first order count q → map.get (parts m first order r count) q ≡ map.get m q
  get-apart zero q a = refl
  get-apart (suc count) q a =
      get-put_other (parts m first order r count) (first + count * 2 ^ order) q part (a.each count (omega arith))
      ∙ get-apart count q (record { each = λ i low. a.each i (omega (arith, low)) })

  pub get-is_part : (count q : ℕ) → IsPart first order count q → map.get (parts m first order r count) q ≡ Some part
  get-is_part count q p = ap (map.get (parts m first order r count)) p.is ∙ get-part count p.number p.low

  -- more of them beside
  pub parts_add : (a b : ℕ) → parts (parts m first order r a) (first + a * 2 ^ order) order r b ≡ parts m first order r (a + b)
  parts_add a zero = ap (parts m first order r) (omega arith)
  parts_add a (suc b) =
      let key : first + a * 2 ^ order + b * 2 ^ order ≡ first + (a + b) * 2 ^ order = omega arith in
      ap (λ z. map.insert z (first + a * 2 ^ order + b * 2 ^ order) part) (parts_add a b)
      ∙ ap (λ z. map.insert (parts m first order r (a + b)) z part) key
      ∙ ap (parts m first order r) (sym (add-suc a b))

-- smaller ones over greater ones
module _ (m : Ranges) (first order great : ℕ) (r : Range) (a b : ℕ) (within : (q : ℕ) → IsPart first great a q → IsPart first order b q) where
  whole : Ranges
  whole = parts m first great r a

  over : (q : ℕ) → map.get (parts whole first order r b) q ≡ map.get (parts m first order r b) q
  unfolding whole
  over q = elim (part_or_apart first order b q) [
    | inl p ↦ get-is_part whole first order r b q p ∙ sym (get-is_part m first order r b q p)
    | inr apart ↦ elim (part_or_apart first great a q) [
      | inl p ↦ let s = within q p in absurd (apart.each s.number s.low s.is)
      | inr far ↦ get-apart whole first order r b q apart ∙ get-apart m first great r a q far ∙ sym (get-apart m first order r b q apart)
    ]
  ]

  pub parts_over : parts (parts m first great r a) first order r b ≡ parts m first order r b
  unfolding whole
  parts_over = map.same_map nat_cmp_total map.nat_cmp-IsAntisymmetric (parts whole first order r b) (parts m first order r b) over

-- the parts of a part are parts
pub within_parts : (first order great a b : ℕ) → order ≤ great → a * 2 ^ (great - order) ≤ b → (q : ℕ) → IsPart first great a q → IsPart first order b q
within_parts first order great a b le enough q p =
    let w = 2 ^ (great - order) in
    let i = p.number in
    let power : 2 ^ great ≡ w * 2 ^ order = ap (λ k. 2 ^ k) (let e : great ≡ great - order + order = omega (arith, le) in e) ∙ pow-add 2 (great - order) order in
    let turned : i * (w * 2 ^ order) ≡ i * w * 2 ^ order = omega arith in
    let up : (i + 1) * w ≤ a * w = mul-le (i + 1) w a w (let l = p.low in omega (arith, l)) (omega arith) in
    let some = pow_pos (great - order) in
    record {
      number = i * w;
      low = omega (arith, up, some, enough);
      is = p.is ∙ ap (λ z. first + i * z) power ∙ ap (λ z. first + z) turned;
    }

-- ---- an array whose entry is in parts

pub split-some : (m : Ranges) (index order first : ℕ) (r : Range) → entry_at m index ≡ Some (first, r) → split m index order ≡ parts m first order r (2 ^ (r.order - order))
unfolding split
split-some m index order first r is = ap (split_at m order) is

pub aligned_down : (n order great : ℕ) → order ≤ great → n % 2 ^ great ≡ 0 → n % 2 ^ order ≡ 0
aligned_down n order great le aligned =
    let e : great ≡ great - order + order = omega (arith, le) in
    let f : n % 2 ^ (great - order + order) ≡ 0 = ap (λ k. n % 2 ^ k) (sym e) ∙ aligned in
    sym (mod-mod-pow n (great - order) order) ∙ ap (λ z. z % 2 ^ order) f ∙ zero-mod (2 ^ order)

-- so many parts are the whole
pub parts_width : (order great : ℕ) → order ≤ great → 2 ^ (great - order) * 2 ^ order ≡ 2 ^ great
parts_width order great le = sym (pow-add 2 (great - order) order) ∙ ap (λ k. 2 ^ k) (let e : great - order + order ≡ great = omega (arith, le) in e)

module _ (m : Ranges) (array : IsArray m) (first : ℕ) (r : Range) (is : map.get m first ≡ Some r) (order : ℕ) (le : order ≤ r.order) where
  abbrev pub count : ℕ
  count = 2 ^ (r.order - order)

  pub part_within : (i : ℕ) → i < count → first + i * 2 ^ order + 2 ^ order ≤ first + 2 ^ r.order
  part_within i low =
      let up : (i + 1) * 2 ^ order ≤ count * 2 ^ order = mul-le (i + 1) (2 ^ order) count (2 ^ order) (omega (arith, low)) (omega arith) in
      let all = parts_width order r.order le in
      omega (arith, up, all)

  -- what each entry is then
  pub was_part : (q : ℕ) (y : Range) → map.get (parts m first order r count) q ≡ Some y
      → (IsPart first order count q × (y ≡ part m first order r)) ⊎ (IsApart first order count q × (q ≢ first) × (map.get m q ≡ Some y))
  was_part q y has = elim (part_or_apart first order count q) [
    | inl p ↦ inl (p, same_Some y (part m first order r) (sym has ∙ get-is_part m first order r count q p))
    | inr apart ↦ inr (apart, (λ same. apart.each 0 (pow_pos (r.order - order)) (omega (arith, same))), sym (get-apart m first order r count q apart) ∙ has)
  ]

  pub beside : (q : ℕ) (y : Range) → q ≢ first → map.get m q ≡ Some y → (q + 2 ^ y.order ≤ first) ⊎ (first + 2 ^ r.order ≤ q)
  beside q y differs has = elim (cases_order q first) [
    | inr (inl before) ↦ inl (array.disjoint q first y r has is before)
    | inl same ↦ absurd (differs same)
    | inr (inr after) ↦ inr (array.disjoint first q r y is has after)
  ]

  pub apart_key : (q : ℕ) (y : Range) → q ≢ first → map.get m q ≡ Some y → IsApart first order count q
  apart_key q y differs has = record {
    each = λ i low at. elim (beside q y differs has) [
      | inl under ↦ let some = pow_pos y.order in omega (arith, under, some, at)
      | inr over ↦ let some = pow_pos order in let w = part_within i low in omega (arith, over, some, w, at)
    ];
  }

  -- what holds of each part and of each other entry
  by_part : (P : ℕ → Range → Type 0) → ((i : ℕ) → i < count → P (first + i * 2 ^ order) (part m first order r)) → ((q : ℕ) (y : Range) → map.get m q ≡ Some y → P q y) → (q : ℕ) (y : Range) → map.get (parts m first order r count) q ≡ Some y → P q y
  by_part P here there q y has = elim (was_part q y has) [
    | inl w ↦ rw (w.0.is, w.1) (here w.0.number w.0.low)
    | inr w ↦ there q y w.2
  ]

  -- parts do not meet, nor an entry beside them
  part_part : (q other : ℕ) (x : Range) → IsPart first order count q → IsPart first order count other → x ≡ part m first order r → q < other → q + 2 ^ x.order ≤ other
  part_part q other x a b same before =
      let e = ap (λ (z : Range). 2 ^ z.order) same in
      let i = a.number in
      let j = b.number in
      elim (cases_lt i j) [
        | inl below ↦ let s = steps_apart first order i j below in omega (arith, a.is, b.is, s, e)
        | inr above ↦ let up : j * 2 ^ order ≤ i * 2 ^ order = mul-le j (2 ^ order) i (2 ^ order) above (omega arith) in absurd (omega (arith, a.is, b.is, up, before))
      ]

  part_other : (q other : ℕ) (x y : Range) → IsPart first order count q → x ≡ part m first order r → other ≢ first → map.get m other ≡ Some y → q < other → q + 2 ^ x.order ≤ other
  part_other q other x y a same differs has before =
      let e = ap (λ (z : Range). 2 ^ z.order) same in
      let w = part_within a.number a.low in
      elim (beside other y differs has) [
        | inl under ↦ absurd (let some = pow_pos y.order in omega (arith, under, some, before, a.is))
        | inr over ↦ omega (arith, over, w, a.is, e)
      ]

  other_part : (q other : ℕ) (x : Range) → IsPart first order count other → q ≢ first → map.get m q ≡ Some x → q < other → q + 2 ^ x.order ≤ other
  other_part q other x b differs has before =
      let w = part_within b.number b.low in
      elim (beside q x differs has) [
        | inl under ↦ omega (arith, under, b.is)
        | inr over ↦ absurd (let some = pow_pos order in omega (arith, over, w, b.is, before, some))
      ]

  pub array_parts : IsArray (parts m first order r count)
  array_parts = record {
    order = by_part (λ q y. y.order ≤ 63) (λ i low. let o = array.order first r is in omega (arith, o, le)) array.order;
    aligned = by_part (λ q y. q % 2 ^ y.order ≡ 0) (λ i low. add-mul-mod_self_right first i (2 ^ order) ∙ aligned_down first order r.order le (array.aligned first r is)) array.aligned;
    within = by_part (λ q y. q + 2 ^ y.order ≤ 2 ^ 64) (λ i low. let o = array.within first r is in let w = part_within i low in omega (arith, o, w)) array.within;
    value = by_part (λ q y. y.value < 2 ^ 63) (λ i low. array.value first r is) array.value;
    disjoint = λ q other x y has at before. elim (was_part q x has) [
      | inl a ↦ elim (was_part other y at) [
        | inl b ↦ part_part q other x a.0 b.0 a.1 before
        | inr b ↦ part_other q other x y a.0 a.1 b.1 b.2 before
      ]
      | inr a ↦ elim (was_part other y at) [
        | inl b ↦ other_part q other x b.0 a.1 a.2 before
        | inr b ↦ array.disjoint q other x y a.2 b.2 before
      ]
    ];
  }
