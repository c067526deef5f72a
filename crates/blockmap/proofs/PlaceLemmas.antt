-- The order of places, and places as keys of an array.
use Rattle.std.proofs.Common.{◌≡◌, ◌≢◌, ℕ, ◌+◌, ◌-◌, ◌*◌, ◌/◌, ◌%◌, ◌^◌, ◌<◌, ◌≤◌, true, false, eqb, sym, ap, ◌∙◌, arith, inl, inr}
use Rattle.std.specs.Ordering.{eq_by_cmp}
use Rattle.std.proofs.lemmas.Bool.{cases_eq, cases_lt, ne_eqb, eq-eqb, and_from, and_left, and_right}
use Rattle.std.proofs.lemmas.Nat.{div-mul-add, div_below, mod-mul-add, mod_below, pow_below, pow_pos, shr_split}
use Rattle.pc_types.specs.Spots.{place_cmp}
use Rattle.blockmap.specs.Keys.{key_of, place_of}
pub use Rattle.maps.proofs.MapLaws.{places_total, same_place, places_antisymmetric}

module _ (bits : ℕ) where
  -- ---- the place of a key

  pub file_back : (file page : ℕ) → page < 2 ^ bits → key_of bits (file, page) / 2 ^ bits ≡ file
  file_back file page within = div-mul-add file (2 ^ bits) page within

  pub page_back : (file page : ℕ) → page < 2 ^ bits → key_of bits (file, page) % 2 ^ bits ≡ page
  page_back file page within = mod-mul-add file (2 ^ bits) page within

  pub place_back : (file page : ℕ) → page < 2 ^ bits → place_of bits (key_of bits (file, page)) ≡ (file, page)
  place_back file page within = λ i. (file_back file page within i, page_back file page within i)

  pub key_back : (key : ℕ) → key_of bits (place_of bits key) ≡ key
  key_back key = shr_split key bits

  pub page_below : (key : ℕ) → key % 2 ^ bits < 2 ^ bits
  page_below key = mod_below key (2 ^ bits) (pow_pos bits)

  pub file_below : (key : ℕ) → key < 64 * 2 ^ bits → key / 2 ^ bits < 64
  file_below key within = div_below key (2 ^ bits) 64 (pow_pos bits) within

  -- a key among those of a file
  pub key_of_file : (file key : ℕ) → file * 2 ^ bits ≤ key → key < file * 2 ^ bits + 2 ^ bits → key_of bits (file, key % 2 ^ bits) ≡ key
  key_of_file file key low high =
      let page = key - file * 2 ^ bits in
      let is : file * 2 ^ bits + page ≡ key = omega arith in
      let below : page < 2 ^ bits = omega arith in
      ap (λ k. file * 2 ^ bits + k % 2 ^ bits) (sym is) ∙ ap (λ p. file * 2 ^ bits + p) (page_back file page below) ∙ is

  -- ---- a place ties with a key's place exactly where its key is that key

  pub tie_here : (file page key : ℕ) → page < 2 ^ bits → key_of bits (file, page) ≡ key → eq_by_cmp place_cmp (file, page) (place_of bits key) ≡ true
  tie_here file page key within e =
      same_place file page (key / 2 ^ bits) (key % 2 ^ bits)
      ∙ and_from (eqb file (key / 2 ^ bits)) (eqb page (key % 2 ^ bits))
      (eq-eqb file (key / 2 ^ bits) (sym (file_back file page within) ∙ ap (λ k. k / 2 ^ bits) e))
      (eq-eqb page (key % 2 ^ bits) (sym (page_back file page within) ∙ ap (λ k. k % 2 ^ bits) e))

  pub tie_there : (file page key : ℕ) → key_of bits (file, page) ≢ key → eq_by_cmp place_cmp (file, page) (place_of bits key) ≡ false
  tie_there file page key differs =
      same_place file page (key / 2 ^ bits) (key % 2 ^ bits)
      ∙ elim (cases_eq file (key / 2 ^ bits)) [
        | inl e ↦
            and_right (eqb file (key / 2 ^ bits)) (eqb page (key % 2 ^ bits))
            (ne_eqb page (key % 2 ^ bits) (λ f. differs ((λ i. key_of bits (e i, f i)) ∙ key_back key)))
        | inr apart ↦ and_left (eqb file (key / 2 ^ bits)) (eqb page (key % 2 ^ bits)) (ne_eqb file (key / 2 ^ bits) apart)
      ]

  -- a page past the width ties with no key's place
  pub tie_beyond : (file page key : ℕ) → 2 ^ bits ≤ page → eq_by_cmp place_cmp (file, page) (place_of bits key) ≡ false
  tie_beyond file page key beyond =
      let below : key % 2 ^ bits < 2 ^ bits = page_below key in
      same_place file page (key / 2 ^ bits) (key % 2 ^ bits)
      ∙ and_right (eqb file (key / 2 ^ bits)) (eqb page (key % 2 ^ bits)) (ne_eqb page (key % 2 ^ bits) (λ e. absurd (omega arith)))

-- no width has more pages than a file
pub below_most : (bits : ℕ) → bits ≤ 36 → 2 ^ bits ≤ 2 ^ 36
below_most bits most = elim (cases_lt bits 36) [
  | inl less ↦ let h = pow_below bits 36 less in omega arith
  | inr more ↦ let same : bits ≡ 36 = omega arith in let h : 2 ^ bits ≡ 2 ^ 36 = ap (λ b. 2 ^ b) same in omega arith
]
