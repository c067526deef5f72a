-- An entry in parts: what stands in the slots then.
use Rattle.std.proofs.Common.{◌≡◌, ◌≢◌, ℕ, ◌+◌, ◌-◌, ◌*◌, ◌/◌, ◌%◌, ◌^◌, ◌<◌, ◌≤◌, ◌⊎◌, eqb, Some, refl, sym, ap, ◌∙◌, inl, inr, arith}
use Rattle.std.specs.FinMap as map
use Rattle.std.proofs.lemmas.Bool.{cases_eq, cases_lt, cond-true, cond-false, ne_eqb}
use Rattle.std.proofs.lemmas.Nat.{div-add-mod', div_below, mod-mul-add, mod_below, mul-le, pow-add, pow_pos}
use Rattle.std.proofs.lemmas.Option.{none-some, same_Some}
use Rattle.std.proofs.Math.Nat.{mul-div_cancel}
use Rattle.slab.specs.Slab.{Slab}
use Rattle.radix.specs.declared.node.Node.{Node}
use Rattle.radix.specs.declared.entry.Entry.{Entry}
use Rattle.radix.specs.declared.entry.Entry.TheVariants.{Leaf, Sibling}
use Rattle.radix.specs.Entries as radix
use Rattle.radix.specs.Entries.{IsElsewhere}
use Rattle.radix.specs.Parts.{Parts, part_of}
use Rattle.radix.proofs.Places.{pow64}
use Rattle.xarray.specs.declared.entry.Mark.{Mark}
use Rattle.xarray.specs.declared.entry.Mark.TheVariants.{M0, M1, M2}
use Rattle.xarray.specs.MarkedArray.{Range, Ranges, has_mark, mark_number, parts}
use Rattle.xarray.specs.Standing.{IsAt, IsOwned, Stands, level_of, place_of, span_of}
use Rattle.xarray.proofs.ChangeLemmas.{at_kept, mark_low, other_entry, owned_by}
use Rattle.xarray.proofs.PartLemmas.{aligned_down, apart_key, array_parts, get-apart, get-part, part, parts_width, was_part}
use Rattle.xarray.proofs.RangeLemmas.{one_entry}
use Rattle.xarray.proofs.SpanLemmas.{index_high, index_low, placed, pos64, span_some}
use Rattle.xarray.proofs.StandLemmas.{aligned_at, leaf≢sibling}

-- a slot's place within its part, and the number of its part
module _ (j step : ℕ) where
  abbrev pub at : ℕ
  at = j % 2 ^ step

  abbrev pub number : ℕ
  number = j / 2 ^ step

  pub split_place : j ≡ number * 2 ^ step + at
  split_place = sym (div-add-mod' j (2 ^ step))

  pub at_low : at < 2 ^ step
  at_low = mod_below j (2 ^ step) (pow_pos step)

part_first : (value base step j : ℕ) → j % 2 ^ step ≡ 0 → part_of value base step j ≡ Leaf value
part_first value base step j zero = cond-true (eqb (j % 2 ^ step) 0) (Leaf value) (Sibling ((base + (j - j % 2 ^ step)) % 64)) (ap (λ z. eqb z 0) zero)

part_later : (value base step j i at : ℕ) → j ≡ i * 2 ^ step + at → 0 < at → at < 2 ^ step → part_of value base step j ≡ Sibling ((base + i * 2 ^ step) % 64)
part_later value base step j i at is some low =
    let e : j % 2 ^ step ≡ at = ap (λ z. z % 2 ^ step) is ∙ mod-mul-add i (2 ^ step) at low in
    let f : base + (j - j % 2 ^ step) ≡ base + i * 2 ^ step = omega (arith, e, is) in
    cond-false (eqb (j % 2 ^ step) 0) (Leaf value) (Sibling ((base + (j - j % 2 ^ step)) % 64)) (ne_eqb (j % 2 ^ step) 0 (λ zero. omega (arith, e, some, zero)))
    ∙ ap (λ z. Sibling (z % 64)) f

module _ (old new : Slab Node) (m : Ranges) (stands : Stands old m) (first : ℕ) (r : Range) (is : map.get m first ≡ Some r) (low step : ℕ) (small : step < 6) (le : 6 * low + step ≤ r.order) (one : low ≢ level_of r.order → span_of r.order ≡ 1) (p : Parts old new (level_of r.order) (place_of first r.order) low (first / 64 ^ low) (2 ^ (r.order - 6 * low)) step) where
  abbrev order : ℕ
  order = 6 * low + step

  abbrev count : ℕ
  count = 2 ^ (r.order - (6 * low + step))

  abbrev base : ℕ
  base = first / 64 ^ low

  abbrev slots : ℕ
  slots = 2 ^ (r.order - 6 * low)

  abbrev now : Ranges
  now = parts m first (6 * low + step) r (2 ^ (r.order - (6 * low + step)))

  level_is : level_of order ≡ low
  level_is = omega (arith, small)

  span_is : span_of order ≡ 2 ^ step
  span_is = ap (λ e. 2 ^ e) (let e : order % 6 ≡ step = omega (arith, small) in e)

  width : 2 ^ order ≡ 2 ^ step * 64 ^ low
  width =
      let e : order ≡ step + 6 * low = omega arith in
      ap (λ e. 2 ^ e) e ∙ pow-add 2 step (6 * low) ∙ ap (λ z. 2 ^ step * z) (pow64 low)

  first_is : first ≡ base * 64 ^ low
  first_is = (placed first order (aligned_down first order r.order le (aligned_at old m stands first r is))).first_is ∙ ap (λ l. first / 64 ^ l * 64 ^ l) level_is

  times_over : (i s w : ℕ) → base * w + i * (s * w) ≡ (base + i * s) * w
  times_over i s w = omega arith

  -- the first slot of a part
  part_place : (i : ℕ) → (first + i * 2 ^ order) / 64 ^ low ≡ base + i * 2 ^ step
  part_place i =
      let e : first + i * 2 ^ order ≡ (base + i * 2 ^ step) * 64 ^ low = ap (λ z. first + i * z) width ∙ ap (λ z. z + i * (2 ^ step * 64 ^ low)) first_is ∙ times_over i (2 ^ step) (64 ^ low) in
      ap (λ z. z / 64 ^ low) e ∙ mul-div_cancel (base + i * 2 ^ step) (pos64 low)

  place_is : (i : ℕ) → place_of (first + i * 2 ^ order) order ≡ base + i * 2 ^ step
  place_is i = ap (λ l. (first + i * 2 ^ order) / 64 ^ l) level_is ∙ part_place i

  slots_are : slots ≡ count * 2 ^ step
  slots_are =
      let e : r.order - 6 * low ≡ r.order - order + step = omega (arith, le) in
      ap (λ z. 2 ^ z) e ∙ pow-add 2 (r.order - order) step

  slot_low : (i at : ℕ) → i < count → at < 2 ^ step → i * 2 ^ step + at < slots
  slot_low i at a b =
      let up : (i + 1) * 2 ^ step ≤ count * 2 ^ step = mul-le (i + 1) (2 ^ step) count (2 ^ step) (omega (arith, a)) (omega arith) in
      omega (arith, up, b, slots_are)

  number_low : (j : ℕ) → j < slots → number j step < count
  number_low j low = div_below j (2 ^ step) count (pow_pos step) (omega (arith, low, slots_are))

  leaf_old : radix.entry_at old (level_of r.order) (place_of first r.order) ≡ Some (Leaf r.value)
  leaf_old = (stands.each first r is).leaf

  same_marks : (mark : Mark) → has_mark mark (part m first order r) ≡ has_mark mark r
  same_marks M0 = refl
  same_marks M1 = refl
  same_marks M2 = refl

  part_at : (i : ℕ) → i < count → IsAt new (first + i * 2 ^ order) (part m first order r)
  part_at i below = record {
    leaf =
        ap (λ l. radix.entry_at new l ((first + i * 2 ^ order) / 64 ^ l)) level_is
        ∙ ap (radix.entry_at new low) (part_place i ∙ zero_more)
        ∙ p.slots r.value (i * 2 ^ step + 0) leaf_old (slot_low i 0 below (pow_pos step))
        ∙ ap (λ (z : Entry). Some z) (part_first r.value base step (i * 2 ^ step + 0) even);
    rest = λ j some within.
        ap (λ l. radix.entry_at new l ((first + i * 2 ^ order) / 64 ^ l + j)) level_is
        ∙ ap (λ z. radix.entry_at new low (z + j)) (part_place i)
        ∙ ap (radix.entry_at new low) (let e : base + i * 2 ^ step + j ≡ base + (i * 2 ^ step + j) = omega arith in e)
        ∙ p.slots r.value (i * 2 ^ step + j) leaf_old (slot_low i j below (omega (arith, within, span_is)))
        ∙ ap (λ (z : Entry). Some z) (part_later r.value base step (i * 2 ^ step + j) i j refl some (omega (arith, within, span_is)))
        ∙ ap (λ z. Some (Sibling (z % 64))) (sym (place_is i));
    marks = λ mark.
        same_marks mark ∙ (stands.each first r is).marks mark
        ∙ ap (λ z. eqb z 1) (sym (
        ap (λ l. radix.mark_at (mark_number mark) new l ((first + i * 2 ^ order) / 64 ^ l)) level_is
        ∙ ap (radix.mark_at (mark_number mark) new low) (part_place i ∙ zero_more)
        ∙ p.marks (mark_number mark) (i * 2 ^ step + 0) (mark_low mark) (slot_low i 0 below (pow_pos step))
        ∙ cond-true (eqb ((i * 2 ^ step + 0) % 2 ^ step) 0) (radix.mark_at (mark_number mark) old (level_of r.order) (place_of first r.order)) 0 (ap (λ z. eqb z 0) even)));
  }
    where
      zero_more : base + i * 2 ^ step ≡ base + (i * 2 ^ step + 0)
      zero_more = omega arith

      even : (i * 2 ^ step + 0) % 2 ^ step ≡ 0
      even = mod-mul-add i (2 ^ step) 0 (pow_pos step)

  -- ---- other entries

  -- the slots of the parts
  abbrev IsNew : ℕ → ℕ → Type 0
  IsNew level place = (level ≡ low) × (base ≤ place) × (place < base + slots)

  abbrev NotNew : ℕ → ℕ → Type 0
  NotNew level place = level ≡ low → base ≤ place → place < base + slots → ⊥

  new_or_not : (level place : ℕ) → NotNew level place ⊎ IsNew level place
  new_or_not level place = elim (cases_eq level low) [
    | inl l ↦ elim (cases_lt place base) [
      | inl before ↦ inl (λ a b c. omega (arith, before, b))
      | inr from ↦ elim (cases_lt place (base + slots)) [
        | inl to ↦ inr (l, from, to)
        | inr after ↦ inl (λ a b c. omega (arith, after, c))
      ]
    ]
    | inr differs ↦ inl (λ a b c. differs a)
  ]

  -- their indexes are the entry's
  in_range : (place : ℕ) → base ≤ place → place < base + slots → (first ≤ place * 64 ^ low) × (place * 64 ^ low < first + 2 ^ r.order)
  in_range place from to =
      let w = 64 ^ low in
      let up : base * w ≤ place * w = mul-le base w place w from (omega arith) in
      let over : (place + 1) * w ≤ (base + slots) * w = mul-le (place + 1) w (base + slots) w (omega (arith, to)) (omega arith) in
      let all : slots * w ≡ 2 ^ r.order = ap (λ z. slots * z) (sym (pow64 low)) ∙ parts_width (6 * low) r.order (omega (arith, le)) in
      let some = pos64 low in
      (omega (arith, up, first_is), omega (arith, over, all, first_is, some))

  not_other : (q : ℕ) (y : Range) → q ≢ first → map.get m q ≡ Some y → (j : ℕ) → j < span_of y.order → NotNew (level_of y.order) (place_of q y.order + j)
  not_other q y differs has j within same from to =
      let place = place_of q y.order + j in
      let index = place * 64 ^ low in
      let e : index / 64 ^ level_of y.order ≡ place = ap (λ l. index / 64 ^ l) same ∙ mul-div_cancel place (pos64 low) in
      let even = aligned_at old m stands q y has in
      let a = index_low q y.order even index (omega (arith, e)) in
      let b = index_high q y.order even index (omega (arith, e, within)) in
      let c = in_range place from to in
      differs (sym (one_entry m stands.shape first q index r y is has c.0 c.1 a b))

  other_at : (q : ℕ) (y : Range) → q ≢ first → map.get m q ≡ Some y → IsAt new q y
  other_at q y differs has =
      at_kept old new q y
      (λ j within. p.others (level_of y.order) (place_of q y.order + j) (not_other q y differs has j within) (other_entry old m stands first r is q y differs has j within))
      (λ mark low. p.other_marks mark (level_of y.order) (place_of q y.order) low (λ same from to. not_other q y differs has 0 (span_some y.order) same (omega (arith, from)) (omega (arith, to))) (λ same at. other_entry old m stands first r is q y differs has 0 (span_some y.order) same (omega (arith, at))))
      (stands.each q y has)

  -- what stands outside of the parts stood there
  elsewhere : (level place : ℕ) (x : Entry) → NotNew level place → radix.entry_at new level place ≡ Some x → IsElsewhere (level_of r.order) (place_of first r.order) level place
  elsewhere level place x apart has same at = elim (cases_eq low (level_of r.order)) [
    | inl e ↦
        let b : base ≡ place_of first r.order = ap (λ l. first / 64 ^ l) e in
        let some = pow_pos (r.order - 6 * low) in
        apart (same ∙ sym e) (omega (arith, b, at)) (omega (arith, b, at, some))
    | inr differs ↦ none-some x (sym (p.gone differs) ∙ ap (λ l. radix.entry_at new l (place_of first r.order)) (sym same) ∙ ap (radix.entry_at new level) (sym at) ∙ has)
  ]

  owned_new : (level place : ℕ) → IsNew level place → IsOwned now level place
  owned_new level place (l, from, to) =
      let j = place - base in
      let i = number j step in
      let below = number_low j (omega (arith, from, to)) in
      let e = place_is i in
      let s = split_place j step in
      let a = at_low j step in
      record {
        first = first + i * 2 ^ order;
        range = part m first order r;
        there = get-part m first order r count i below;
        level_is = level_is ∙ sym l;
        low = omega (arith, e, s, from);
        high = omega (arith, e, s, a, span_is, from);
      }

  owned_old : (level place : ℕ) → NotNew level place → IsElsewhere (level_of r.order) (place_of first r.order) level place → IsOwned m level place → IsOwned now level place
  owned_old level place apart far own = elim (cases_eq own.first first) [
    | inl same ↦ absurd (not_whole (same_Some r own.range (sym is ∙ ap (map.get m) (sym same) ∙ own.there)) same)
    | inr differs ↦ owned_by m now level place own own.range (get-apart m first order r count own.first (apart_key m stands.shape first r is order le own.first own.range differs own.there) ∙ own.there) refl
  ]
    where
      not_whole : r ≡ own.range → own.first ≡ first → ⊥
      not_whole e same =
          let l : level ≡ level_of r.order = sym own.level_is ∙ ap (λ (z : Range). level_of z.order) (sym e) in
          let f : place_of own.first own.range.order ≡ place_of first r.order = ap (λ (z : Range). place_of own.first z.order) (sym e) ∙ ap (λ z. place_of z r.order) same in
          let g : span_of own.range.order ≡ span_of r.order = ap (λ (z : Range). span_of z.order) (sym e) in
          let a = own.low in
          let z = own.high in
          elim (cases_eq low (level_of r.order)) [
            | inl here ↦
                let b : base ≡ place_of first r.order = ap (λ l. first / 64 ^ l) here in
                let w : slots ≡ span_of r.order = ap (λ z. 2 ^ z) (let e : r.order - 6 * low ≡ r.order % 6 = omega (arith, here) in e) in
                apart (l ∙ sym here) (omega (arith, a, f, b)) (omega (arith, z, f, g, b, w))
            | inr differs ↦ let w = one differs in far l (omega (arith, a, z, f, g, w))
          ]

  pub stands_parts : Stands new (parts m first (6 * low + step) r (2 ^ (r.order - (6 * low + step))))
  stands_parts = record {
    shape = array_parts m stands.shape first r is order le;
    each = λ q y has. elim (was_part m stands.shape first r is order le q y has) [
      | inl w ↦ rw (w.0.is, w.1) (part_at w.0.number w.0.low)
      | inr w ↦ other_at q y w.1 w.2
    ];
    owned = λ level place x has. elim (new_or_not level place) [
      | inl apart ↦
          let far = elsewhere level place x apart has in
          owned_old level place apart far (stands.owned level place x (sym (p.others level place apart far) ∙ has))
      | inr here ↦ owned_new level place here
    ];
    quiet = λ mark level place named lows has. elim (new_or_not level place) [
      | inl apart ↦
          let far = elsewhere level place (Sibling named) apart has in
          p.other_marks mark level place lows apart far ∙ stands.quiet mark level place named lows (sym (p.others level place apart far) ∙ has)
      | inr here ↦ quiet_new mark level place named lows here has
    ];
  }
    where
      quiet_new : (mark level place named : ℕ) → mark < 3 → IsNew level place → radix.entry_at new level place ≡ Some (Sibling named) → radix.mark_at mark new level place ≡ 0
      quiet_new mark level place named lows (l, from, to) has =
          let j = place - base in
          let e : place ≡ base + j = omega (arith, from) in
          let below : j < slots = omega (arith, from, to) in
          let slot : radix.entry_at new level place ≡ Some (part_of r.value base step j) = ap (λ l. radix.entry_at new l place) l ∙ ap (radix.entry_at new low) e ∙ p.slots r.value j leaf_old below in
          elim (cases_eq (j % 2 ^ step) 0) [
            | inl zero ↦ absurd (leaf≢sibling r.value named (ap (λ (z : Entry). Some z) (sym (part_first r.value base step j zero)) ∙ sym slot ∙ has))
            | inr some ↦
                ap (λ l. radix.mark_at mark new l place) l ∙ ap (radix.mark_at mark new low) e ∙ p.marks mark j lows below
                ∙ cond-false (eqb (j % 2 ^ step) 0) (radix.mark_at mark old (level_of r.order) (place_of first r.order)) 0 (ne_eqb (j % 2 ^ step) 0 some)
          ]
