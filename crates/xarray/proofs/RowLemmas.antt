-- Entries side by side that become parts, one after another.
use Rattle.std.proofs.Common.{◌≡◌, ℕ, suc, zero, ◌+◌, ◌-◌, ◌*◌, ◌/◌, ◌%◌, ◌^◌, ◌<◌, ◌≤◌, min, Some, None, refl, sym, ap, ◌∙◌, inl, inr, arith, subst}
use Rattle.std.specs.FinMap as map
use Rattle.std.proofs.lemmas.Bool.{cases_lt}
use Rattle.std.proofs.lemmas.Nat.{div-add-mod', mul-le, one_shl, pow-add, pow_pos}
use Rattle.std.proofs.lemmas.Option.{none-some}
use Rattle.std.proofs.Math.Nat.{add-mul-div_right, mod-eq_of_lt, mul-div_cancel}
use Rattle.slab.specs.Slab.{Slab}
use Rattle.radix.specs.declared.node.Node.{Node}
use Rattle.radix.specs.declared.entry.Entry.TheVariants.{Leaf}
use Rattle.radix.specs.Entries as radix
use Rattle.radix.specs.Parts.{HasNodeRoom}
use Rattle.radix.proofs.Places.{pow64}
use Rattle.xarray.specs.MarkedArray.{IsArray, Range, Ranges, parts}
use Rattle.xarray.specs.Rows.{HasRow, IsRow}
use Rattle.xarray.specs.Standing.{level_of}
use Rattle.xarray.specs.View.{IsRanged, ranges_of}
use Rattle.xarray.proofs.PartLemmas.{get-apart, parts_add, parts_width, steps_apart}
use Rattle.xarray.proofs.SpanLemmas.{pos64, within_by}

-- room for so many nodes is room for fewer
pub room_for : (s : Slab Node) (more fewer : ℕ) → fewer ≤ more → HasNodeRoom s more → HasNodeRoom s fewer
room_for s more fewer le had = record { room = omega (arith, had.room, le); keys = had.keys }

-- the order of the whole does not count
pub parts_again : (m : Ranges) (first order other : ℕ) (r : Range) (count : ℕ) → parts m first order (record r { order = other }) count ≡ parts m first order r count
parts_again m first order other r zero = refl
parts_again m first order other r (suc count) = ap (λ z. map.insert z (first + count * 2 ^ order) (record r { order = order })) (parts_again m first order other r count)

-- a step lower, that makes each of them so many
module _ (level step : ℕ) (inner : 0 < level) (small : step < 6) where
  abbrev pub down : ℕ
  down = 6 * (level - 1) + step

  abbrev pub each : ℕ
  each = 2 ^ (6 - step)

  down_low : down ≤ 6 * level
  down_low = omega (arith, inner, small)

  wide : each * 2 ^ down ≡ 2 ^ (6 * level)
  wide = ap (λ e. 2 ^ e * 2 ^ down) (let e : 6 - step ≡ 6 * level - down = omega (arith, inner, small) in e) ∙ parts_width down (6 * level) down_low

  -- so many slots on
  place_on : (first count : ℕ) → first + count * 2 ^ (6 * level) ≡ first + count * each * 2 ^ down
  place_on first count =
      let e : count * (each * 2 ^ down) ≡ count * each * 2 ^ down = omega arith in
      ap (λ z. first + count * z) (sym wide) ∙ ap (λ z. first + z) e

  -- the first `done` of them are in parts
  abbrev pub after : Ranges → ℕ → Range → ℕ → Ranges
  after m first r done = parts m first (6 * (level - 1) + step) r (done * 2 ^ (6 - step))

  module _ (m : Ranges) (first count : ℕ) (r : Range) (row : IsRow m first (6 * level) count r) where
    -- the later ones are as they were
    pub row_later : (done left : ℕ) → done + left ≤ count → IsRow (after m first r done) (first + done * 2 ^ (6 * level)) (6 * level) left r
    row_later done left all = record {
      each = λ i low.
          let at : first + done * 2 ^ (6 * level) + i * 2 ^ (6 * level) ≡ first + (done + i) * 2 ^ (6 * level) = omega arith in
          ap (map.get (after m first r done)) at
          ∙ get-apart m first down r (done * each) (first + (done + i) * 2 ^ (6 * level)) (record {
            each = λ j before same.
                let on = place_on first (done + i) in
                let past : (done + i) * each ≡ done * each + i * each = omega arith in
                let apart = steps_apart first down j ((done + i) * each) (omega (arith, before, past)) in
                let some = pow_pos down in
                omega (arith, same, on, apart, some);
          })
          ∙ row.each (done + i) (omega (arith, low, all));
    }

    pub row_more : (done more : ℕ) → parts (after m first r done) (first + done * 2 ^ (6 * level)) down r (more * each) ≡ after m first r (done + more)
    row_more done more =
        let e : done * each + more * each ≡ (done + more) * each = omega arith in
        ap (λ z. parts (after m first r done) z down r (more * each)) (place_on first done)
        ∙ parts_add m first down r (done * each) (more * each)
        ∙ ap (parts m first down r) e

    module _ (now : Ranges) (slot at : ℕ) (at_is : at ≡ first + slot * 2 ^ (6 * level)) (so_far : now ≡ after m first r slot) where
      -- the next ones
      pub row_next : (left : ℕ) → slot + left ≤ count → IsRow now at (6 * level) left r
      row_next left all = rw (so_far, at_is) (row_later slot left all)

      pub row_here : slot < count → map.get now at ≡ Some (record r { order = 6 * level })
      row_here low =
          let e : at ≡ at + 0 * 2 ^ (6 * level) = omega arith in
          ap (map.get now) e ∙ (row_next 1 (omega (arith, low))).each 0 (omega arith)

      pub row_on : (new : Ranges) (more : ℕ) → new ≡ parts now at down r (more * each) → new ≡ after m first r (slot + more)
      row_on new more is = is ∙ ap (λ z. parts z at down r (more * each)) so_far ∙ ap (λ z. parts (after m first r slot) z down r (more * each)) at_is ∙ row_more slot more

      -- so many at once, as a call made them
      module _ (left more : ℕ) (same : left ≡ more) (all : slot + more ≤ count) where
        pub row_left : IsRow now at (6 * level) left r
        row_left = subst (λ n. IsRow now at (6 * level) n r) (sym same) (row_next more all)

        pub row_run : (new : Ranges) → ((q : Range) → IsRow now at (6 * level) left q → new ≡ parts now at down q (left * each)) → new ≡ after m first r (slot + more)
        row_run new tells = row_on new more (tells r row_left ∙ ap (λ n. parts now at down r (n * each)) same)

      pub row_one : slot < count → (new : Ranges) → ((q : Range) → map.get now at ≡ Some q → new ≡ parts now at down q each) → new ≡ after m first r (slot + 1)
      row_one low new tells =
          let e : each ≡ 1 * each = omega arith in
          row_on new 1 (tells (record r { order = 6 * level }) (row_here low) ∙ parts_again now at down (6 * level) r each ∙ ap (parts now at down r) e)

-- ---- where they are

module _ (m : Ranges) (array : IsArray m) (first level count : ℕ) (r : Range) (row : IsRow m first (6 * level) count r) (slot : ℕ) (low : slot < count) where
  pub row_top : 6 * level ≤ 63
  row_top = array.order (first + slot * 2 ^ (6 * level)) (record r { order = 6 * level }) (row.each slot low)

  pub row_within : first + slot * 2 ^ (6 * level) + 2 ^ (6 * level) ≤ 2 ^ 64
  row_within = array.within (first + slot * 2 ^ (6 * level)) (record r { order = 6 * level }) (row.each slot low)

  -- as the code computes it
  pub row_at : first + slot * 2 ^ (6 * level) % 2 ^ 64 ≡ first + slot * 2 ^ (6 * level)
  row_at =
      let w = row_within in
      let some = pow_pos (6 * level) in
      let small : slot * 2 ^ (6 * level) < 2 ^ 64 = omega (arith, w, some) in
      ap (λ z. first + z) (mod-eq_of_lt small)

-- the place of a slot
pub place_at : (first level slot at : ℕ) → at ≡ first + slot * 2 ^ (6 * level) → at / 64 ^ level ≡ first / 64 ^ level + slot
place_at first level slot at is = ap (λ z. z / 64 ^ level) (is ∙ ap (λ z. first + slot * z) (pow64 level)) ∙ add-mul-div_right first slot (pos64 level)

pub node_at : (first level slot at count : ℕ) → at ≡ first + slot * 2 ^ (6 * level) → first / 64 ^ level % 64 + count ≤ 64 → slot < count → first / 64 ^ level / 64 ≡ at / 64 ^ level / 64
node_at first level slot at count is within low = let e = place_at first level slot at is in omega (arith, e, within, low)

-- an entry has its first slot
pub leaf_gone : (s : Slab Node) → IsRanged s → (first level : ℕ) (r : Range) → map.get (ranges_of s) first ≡ Some r → level_of r.order ≡ level → radix.entry_at s level (first / 64 ^ level) ≡ None → ⊥
leaf_gone s inv first level r is same gone =
    none-some (Leaf r.value) (sym gone ∙ ap (λ l. radix.entry_at s l (first / 64 ^ l)) (sym same) ∙ (inv.stands.each first r is).leaf)

pub row_gone : (s : Slab Node) → IsRanged s → (first level count : ℕ) → HasRow (ranges_of s) first (6 * level) count → 0 < count → radix.entry_at s level (first / 64 ^ level) ≡ None → ⊥
row_gone s inv first level count row some gone =
    let e : first ≡ first + 0 * 2 ^ (6 * level) = omega arith in
    leaf_gone s inv first level (record row.range { order = 6 * level }) (ap (map.get (ranges_of s)) e ∙ row.row.each 0 some) (omega arith) gone

-- ---- the nodes of a range

in_node : (width unit place : ℕ) → width ≤ 6 → place ≡ unit * 2 ^ width → place % 64 + 2 ^ width ≤ 64
in_node width unit place low is = elim (cases_lt width 6) [
  | inl small ↦ within_by width unit place small is
  | inr big ↦
      let e : width ≡ 6 = omega (arith, low, big) in
      let f : 2 ^ width ≡ 64 = ap (λ k. 2 ^ k) e in
      let g : place ≡ unit * 64 = is ∙ ap (λ z. unit * z) f in
      omega (arith, f, g)
]

-- at a level with 2 ^ e slots of the range, nodes of 2 ^ width slots each
module _ (first from level e width nodes : ℕ) (aligned : first % 2 ^ from ≡ 0) (slots : from ≡ 6 * level + e) (is_width : width ≡ min e 6) (are : nodes ≡ 2 ^ (e - width)) where
  -- so many nodes have all
  pub nodes_all : nodes * 2 ^ width ≡ 2 ^ e
  nodes_all = ap (λ n. n * 2 ^ width) are ∙ sym (pow-add 2 (e - width) width) ∙ ap (λ k. 2 ^ k) (let f : e - width + width ≡ e = omega (arith, is_width) in f)

  -- some more of them do not
  pub nodes_left : (node : ℕ) → node < nodes → node * 2 ^ width + 2 ^ width ≤ 2 ^ e
  nodes_left node low =
      let up : (node + 1) * 2 ^ width ≤ nodes * 2 ^ width = mul-le (node + 1) (2 ^ width) nodes (2 ^ width) (omega (arith, low)) (omega arith) in
      omega (arith, up, nodes_all)

  module _ (node at : ℕ) (is : at ≡ first + node * 2 ^ width * 2 ^ (6 * level)) where
    unit : ℕ
    unit = first / 2 ^ from

    -- the first slot of the range is one of a node
    place_is : first / 64 ^ level ≡ unit * 2 ^ (e - width) * 2 ^ width
    unfolding unit
    place_is =
        let w = 64 ^ level in
        let whole = div-add-mod' first (2 ^ from) in
        let power : 2 ^ from ≡ 2 ^ e * w = ap (λ k. 2 ^ k) (let f : from ≡ e + 6 * level = omega (arith, slots) in f) ∙ pow-add 2 e (6 * level) ∙ ap (λ z. 2 ^ e * z) (pow64 level) in
        let e1 : first ≡ unit * 2 ^ from = omega (arith, whole, aligned) in
        let e2 : unit * (2 ^ e * w) ≡ unit * 2 ^ e * w = omega arith in
        let e3 : 2 ^ e ≡ 2 ^ (e - width) * 2 ^ width = ap (λ k. 2 ^ k) (let f : e ≡ e - width + width = omega (arith, is_width) in f) ∙ pow-add 2 (e - width) width in
        let e4 : unit * (2 ^ (e - width) * 2 ^ width) ≡ unit * 2 ^ (e - width) * 2 ^ width = omega arith in
        ap (λ z. z / w) (e1 ∙ ap (λ z. unit * z) power ∙ e2) ∙ mul-div_cancel (unit * 2 ^ e) (pos64 level) ∙ ap (λ z. unit * z) e3 ∙ e4

    -- and so is each later one
    pub node_within : at / 64 ^ level % 64 + 2 ^ width ≤ 64
    unfolding unit
    node_within =
        let p = place_at first level (node * 2 ^ width) at is in
        let q : unit * 2 ^ (e - width) * 2 ^ width + node * 2 ^ width ≡ (unit * 2 ^ (e - width) + node) * 2 ^ width = omega arith in
        in_node width (unit * 2 ^ (e - width) + node) (at / 64 ^ level) (omega (arith, is_width)) (omega (arith, p, place_is, q))

-- a level lower they are so many
pub down_all : (from level step : ℕ) → 0 < level → step < 6 → 6 * level ≤ from → 2 ^ (from - 6 * level) * 2 ^ (6 - step) ≡ 2 ^ (from - (6 * (level - 1) + step))
down_all from level step inner small fits =
    let e : from - 6 * level + (6 - step) ≡ from - (6 * (level - 1) + step) = omega (arith, inner, small, fits) in
    sym (pow-add 2 (from - 6 * level) (6 - step)) ∙ ap (λ k. 2 ^ k) e

-- the same as the code computes it
module _ (m : Ranges) (array : IsArray m) (first from level width nodes : ℕ) (top : from ≤ 63) (fits : 6 * level ≤ from) (aligned : first % 2 ^ from ≡ 0) (is_width : width ≡ min (from - 6 * level) 6) (are : nodes ≡ 1 * 2 ^ (from - 6 * level - width) % 2 ^ 64) (r : Range) (row : IsRow m first (6 * level) (2 ^ (from - 6 * level)) r) where
  slots_are : from ≡ 6 * level + (from - 6 * level)
  slots_are = omega (arith, fits)

  nodes_are : nodes ≡ 2 ^ (from - 6 * level - width)
  nodes_are = are ∙ one_shl (from - 6 * level - width) 64 (omega (arith, top))

  pub run_is : 1 * 2 ^ width % 2 ^ 64 ≡ 2 ^ width
  run_is = one_shl width 64 (omega (arith, is_width))

  pub run_all : nodes * 2 ^ width ≡ 2 ^ (from - 6 * level)
  run_all = nodes_all first from level (from - 6 * level) width nodes aligned slots_are is_width nodes_are

  module _ (node : ℕ) (low : node < nodes) where
    pub run_left : node * 2 ^ width + 2 ^ width ≤ 2 ^ (from - 6 * level)
    run_left = nodes_left first from level (from - 6 * level) width nodes aligned slots_are is_width nodes_are node low

    run_low : node * 2 ^ width < 2 ^ (from - 6 * level)
    run_low = let some = pow_pos width in omega (arith, run_left, some)

    steps : node * 2 ^ (6 * level + width) ≡ node * 2 ^ width * 2 ^ (6 * level)
    steps = let e : node * (2 ^ (6 * level) * 2 ^ width) ≡ node * 2 ^ width * 2 ^ (6 * level) = omega arith in ap (λ z. node * z) (pow-add 2 (6 * level) width) ∙ e

    pub run_at : first + node * 2 ^ (6 * level + width) % 2 ^ 64 ≡ first + node * 2 ^ width * 2 ^ (6 * level)
    run_at = ap (λ z. first + z % 2 ^ 64) steps ∙ row_at m array first level (2 ^ (from - 6 * level)) r row (node * 2 ^ width) run_low

    pub run_fits : first + node * 2 ^ (6 * level + width) % 2 ^ 64 < 2 ^ 64
    run_fits =
        let w = row_within m array first level (2 ^ (from - 6 * level)) r row (node * 2 ^ width) run_low in
        let some = pow_pos (6 * level) in
        omega (arith, run_at, w, some)

    pub run_within : (first + node * 2 ^ (6 * level + width) % 2 ^ 64) / 64 ^ level % 64 + 1 * 2 ^ width % 2 ^ 64 ≤ 64
    run_within =
        let w = node_within first from level (from - 6 * level) width nodes aligned slots_are is_width nodes_are node (first + node * 2 ^ (6 * level + width) % 2 ^ 64) run_at in
        omega (arith, w, run_is)
