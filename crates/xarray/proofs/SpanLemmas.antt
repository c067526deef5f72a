-- A range of order k is 2 ^ (k % 6) slots of 64 ^ (k / 6) indexes each.
use Rattle.std.proofs.Common.{◌≡◌, ℕ, suc, zero, ◌+◌, ◌-◌, ◌*◌, ◌/◌, ◌%◌, ◌^◌, ◌<◌, ◌≤◌, sym, ap, ◌∙◌, arith}
use Rattle.std.proofs.lemmas.Nat.{pow-add, div-add-mod', mod_below, div_below, mul-le, le-div}
use Rattle.std.proofs.Math.Nat.{mul-div_cancel, one-le-pow}
use Rattle.radix.proofs.Places.{pow64}
use Rattle.xarray.specs.Standing.{level_of, span_of, place_of}

pub level_low : (order : ℕ) → order ≤ 63 → level_of order ≤ 10
level_low order low = omega (arith, low)

pub pos64 : (level : ℕ) → 0 < 64 ^ level
pos64 level = one-le-pow level 64 (omega arith)

small_span : (e : ℕ) → e < 6 → (0 < 2 ^ e) × (2 ^ e ≤ 32)
small_span zero low = (omega arith, omega arith)
small_span (suc zero) low = (omega arith, omega arith)
small_span (suc (suc zero)) low = (omega arith, omega arith)
small_span (suc (suc (suc zero))) low = (omega arith, omega arith)
small_span (suc (suc (suc (suc zero)))) low = (omega arith, omega arith)
small_span (suc (suc (suc (suc (suc zero))))) low = (omega arith, omega arith)
small_span (suc (suc (suc (suc (suc (suc e)))))) low = absurd (omega arith)

pub span_some : (order : ℕ) → 0 < span_of order
span_some order = (small_span (order % 6) (omega arith)).0

pub span_small : (order : ℕ) → span_of order ≤ 32
span_small order = (small_span (order % 6) (omega arith)).1

-- so many slots of so many indexes
pub span_width : (order : ℕ) → 2 ^ order ≡ span_of order * 64 ^ level_of order
span_width order =
    let e : order ≡ order % 6 + 6 * level_of order = omega arith in
    ap (λ k. 2 ^ k) e ∙ pow-add 2 (order % 6) (6 * level_of order) ∙ ap (λ p. span_of order * p) (pow64 (level_of order))

-- slot by slot, and index by index
pub below_to : (index width most : ℕ) → 0 < width → index < most * width → index / width < most
below_to index width most some low = div_below index width most some low

pub below_from : (index width most : ℕ) → 0 < width → index / width < most → index < most * width
below_from index width most some low =
    let whole = div-add-mod' index width in
    let rest = mod_below index width some in
    let up : (index / width + 1) * width ≤ most * width = mul-le (index / width + 1) width most width (omega (arith, low)) (omega arith) in
    let more : (index / width + 1) * width ≡ index / width * width + width = omega arith in
    omega (arith, whole, rest, up, more)

pub least_from : (index width least : ℕ) → least ≤ index / width → least * width ≤ index
least_from index width least low =
    let whole = div-add-mod' index width in
    let up : least * width ≤ index / width * width = mul-le least width (index / width) width low (omega arith) in
    omega (arith, whole, up)

pub least_to : (index width least : ℕ) → 0 < width → least * width ≤ index → least ≤ index / width
least_to index width least some low = le-div least index width some low

-- a range that is aligned
pub record IsPlaced (first order : ℕ) : Type 0 where
  pub unit : ℕ
  pub place_is : place_of first order ≡ unit * span_of order
  pub first_is : first ≡ place_of first order * 64 ^ level_of order

times_over : (u s w : ℕ) → u * (s * w) ≡ u * s * w
times_over u s w = omega arith

pub placed : (first order : ℕ) → first % 2 ^ order ≡ 0 → IsPlaced first order
placed first order aligned =
    let u = first / 2 ^ order in
    let w = 64 ^ level_of order in
    let whole : u * 2 ^ order + first % 2 ^ order ≡ first = div-add-mod' first (2 ^ order) in
    let e : first ≡ u * span_of order * w = omega (arith, whole, aligned) ∙ ap (λ z. u * z) (span_width order) ∙ times_over u (span_of order) w in
    let place : place_of first order ≡ u * span_of order = ap (λ z. z / w) e ∙ mul-div_cancel (u * span_of order) (pos64 (level_of order)) in
    record { unit = u; place_is = place; first_is = e ∙ ap (λ z. z * w) (sym place) }

-- its slots are in one node
pub within_by : (e unit place : ℕ) → e < 6 → place ≡ unit * 2 ^ e → place % 64 + 2 ^ e ≤ 64
within_by zero unit place low is = omega (arith, is)
within_by (suc zero) unit place low is = omega (arith, is)
within_by (suc (suc zero)) unit place low is = omega (arith, is)
within_by (suc (suc (suc zero))) unit place low is = omega (arith, is)
within_by (suc (suc (suc (suc zero)))) unit place low is = omega (arith, is)
within_by (suc (suc (suc (suc (suc zero))))) unit place low is = omega (arith, is)
within_by (suc (suc (suc (suc (suc (suc e)))))) unit place low is = absurd (omega arith)

pub within : (first order : ℕ) → first % 2 ^ order ≡ 0 → place_of first order % 64 + span_of order ≤ 64
within first order aligned = let p = placed first order aligned in within_by (order % 6) p.unit (place_of first order) (omega arith) p.place_is

module _ (first order : ℕ) (aligned : first % 2 ^ order ≡ 0) where
  p : IsPlaced first order
  p = placed first order aligned

  pub end_is : first + 2 ^ order ≡ (place_of first order + span_of order) * 64 ^ level_of order
  end_is =
      let e : (place_of first order + span_of order) * 64 ^ level_of order ≡ place_of first order * 64 ^ level_of order + span_of order * 64 ^ level_of order = omega arith in
      omega (arith, p.first_is, span_width order, e)

  -- an index of the range is an index of its slots
  pub slot_low : (index : ℕ) → first ≤ index → place_of first order ≤ index / 64 ^ level_of order
  slot_low index low = least_to index (64 ^ level_of order) (place_of first order) (pos64 (level_of order)) (omega (arith, low, p.first_is))

  pub slot_high : (index : ℕ) → index < first + 2 ^ order → index / 64 ^ level_of order < place_of first order + span_of order
  slot_high index high = below_to index (64 ^ level_of order) (place_of first order + span_of order) (pos64 (level_of order)) (omega (arith, high, end_is))

  pub index_low : (index : ℕ) → place_of first order ≤ index / 64 ^ level_of order → first ≤ index
  index_low index low = let e = least_from index (64 ^ level_of order) (place_of first order) low in omega (arith, e, p.first_is)

  pub index_high : (index : ℕ) → index / 64 ^ level_of order < place_of first order + span_of order → index < first + 2 ^ order
  index_high index high = let e = below_from index (64 ^ level_of order) (place_of first order + span_of order) (pos64 (level_of order)) high in omega (arith, e, end_is)

  -- its last index is in its last slot
  pub last_slot : (last : ℕ) → last + 1 ≡ first + 2 ^ order → last / 64 ^ level_of order + 1 ≡ place_of first order + span_of order
  last_slot last ends =
      let before = place_of first order + span_of order - 1 in
      let some = span_some order in
      let w = pos64 (level_of order) in
      let one : before + 1 ≡ place_of first order + span_of order = omega (arith, some) in
      let e : (before + 1) * 64 ^ level_of order ≡ before * 64 ^ level_of order + 64 ^ level_of order = omega arith in
      let f : (before + 1) * 64 ^ level_of order ≡ first + 2 ^ order = ap (λ z. z * 64 ^ level_of order) one ∙ sym end_is in
      let high = slot_high last (omega (arith, ends)) in
      let low = least_to last (64 ^ level_of order) before w (omega (arith, e, f, w, ends)) in
      omega (arith, one, high, low)
