-- The pages of an extent get their blocks, one after the other.
use Rattle.std.proofs.Common.{◌≡◌, ◌≢◌, ℕ, ◌+◌, ◌-◌, ◌<◌, ◌≤◌, ◌⊎◌, ◌||◌, Bool, true, false, not, eqb, Option, Some, None, is_some, option_map, refl, sym, ap, ◌∙◌, arith, inl, inr}
use Rattle.std.specs.Prelude.{nat_le}
use Rattle.std.specs.Ordering.{nat_cmp}
use Rattle.std.specs.FinMap as map
use Rattle.std.proofs.lemmas.Bool.{and_from, cases_Bool, cases_eq, cases_lt, cond-false, cond-true, eq-eqb, eqb-true, false_from_ne_true, false≢true, le-leb, true≢false, and_parts, leb-true}
use Rattle.maps.proofs.MapLaws.{places_total, places_antisymmetric, same_nat_map}
use Rattle.blockmap.specs.Blocks.{Blocks, CutsFrom, IsTaken, has_block, is_free, is_from, is_mapped}
use Rattle.blockmap.specs.Keys.{NoneFrom}
use Rattle.blockmap.proofs.MapLemmas.{at_mapped, mapped_at, put_here, put_there}
use Rattle.catalog.specs.declared.extent.Extent.{Extent}
use Rattle.catalog.specs.Extents.{is_any_mapped, spot_number}
use Rattle.catalog.specs.Rows.{Adopts, SameBefore}
use Rattle.catalog.proofs.Places.{any_range}

-- a page that is none of n from p on
abbrev pub IsOutside : ℕ → ℕ → ℕ → ℕ → ℕ → Type 0
IsOutside f p n g q = (g ≢ f) ⊎ ((q < p) ⊎ (p + n ≤ q))

-- a page is number k of them, or none
pub record IsInside (f p n g q : ℕ) : Type 0 where
  pub file : g ≡ f
  pub k : ℕ
  pub low : k < n
  pub at : q ≡ p + k

pub cases_inside : (f p n g q : ℕ) → IsInside f p n g q ⊎ IsOutside f p n g q
cases_inside f p n g q = elim (cases_eq g f) [
  | inr differs ↦ inr (inl differs)
  | inl same ↦ elim (cases_lt q p) [
    | inl below ↦ inr (inr (inl below))
    | inr above ↦ elim (cases_lt q (p + n)) [
      | inl within ↦ inl (record { file = same; k = q - p; low = omega arith; at = omega arith })
      | inr past ↦ inr (inr (inr past))
    ]
  ]
]

pub adopts_none : (P : ℕ) (b : Blocks) (f : ℕ) (e : Extent) → Adopts P b b f e 0
adopts_none P b f e = record {
  count = refl;
  held = refl;
  there = λ k low. absurd (omega arith);
  others = λ g p o. refl;
  free = λ k low. absurd (omega arith);
}

free_by : (b : Blocks) (k : ℕ) → is_mapped b.spots k ≡ true → is_free b k ≡ false
free_by b k h = ap (λ t. not (t || map.contains_key b.held k)) h

module _ (P : ℕ) (old mid : Blocks) (f : ℕ) (e : Extent) (n : ℕ) (is : Adopts P old mid f e n) (none : NoneFrom old.spots f e.first.0) where
  -- what the extent's next page finds
  pub adopts_bare : map.get mid.spots (f, e.first.0 + n) ≡ None
  adopts_bare = is.others f (e.first.0 + n) (inr (inr (omega arith))) ∙ none.each (e.first.0 + n) (omega arith)

  -- a block of an old page is still that page's
  mapped_still : (b : ℕ) → is_mapped old.spots b ≡ true → is_mapped mid.spots b ≡ true
  mapped_still b h =
      let at = at_mapped old.spots b h in
      elim (cases_inside f e.first.0 n at.0.0 at.0.1) [
        | inl inside ↦
            let gone : map.get old.spots at.0 ≡ None =
            (λ i. map.get old.spots (inside.file i, at.0.1)) ∙ none.each at.0.1 (let h = inside.at in omega arith) in
            absurd (false≢true (sym (ap (λ o. has_block o b) gone) ∙ at.1))
        | inr outside ↦ mapped_at mid.spots at.0 b (ap (λ o. has_block o b) (is.others at.0.0 at.0.1 outside) ∙ at.1)
      ]

  pub adopts_more : (new : Blocks) → new ≡ record mid { spots = map.insert mid.spots (f, e.first.0 + n) (spot_number P e n) } → (IsTaken mid (e.block.0 + n) → ⊥) → Adopts P old new f e (n + 1)
  adopts_more new made free = record {
    count = ap (λ (b : Blocks). b.count) made ∙ is.count;
    held = ap (λ (b : Blocks). b.held) made ∙ is.held;
    there = λ k low. elim (cases_eq k n) [
      | inl same ↦
          spots (f, e.first.0 + k)
          ∙ (λ i. map.get (map.insert mid.spots (f, e.first.0 + n) (spot_number P e n)) (f, e.first.0 + same i))
          ∙ put_here mid.spots (f, e.first.0 + n) (spot_number P e n)
          ∙ (λ i. Some (spot_number P e (sym same i)))
      | inr differs ↦
          spots (f, e.first.0 + k)
          ∙ put_there mid.spots (f, e.first.0 + n) (spot_number P e n) (f, e.first.0 + k) (λ t. differs (other k (ap (λ (x : ℕ × ℕ). x.1) t)))
          ∙ is.there k (omega arith)
    ];
    others = λ g p outside.
        spots (g, p)
        ∙ put_there mid.spots (f, e.first.0 + n) (spot_number P e n) (g, p) (λ t. apart g p outside (ap (λ (x : ℕ × ℕ). x.0) t) (ap (λ (x : ℕ × ℕ). x.1) t))
        ∙ is.others g p (fewer g p outside);
    free = λ k low. elim (cases_eq k n) [
      | inl same ↦
          ap (λ j. is_mapped old.spots (e.block.0 + j)) same
          ∙ false_from_ne_true (is_mapped old.spots (e.block.0 + n)) (λ t. free (inr (free_by mid (e.block.0 + n) (mapped_still (e.block.0 + n) t))))
      | inr differs ↦ is.free k (omega arith)
    ];
  }
    where
      spots : (place : ℕ × ℕ) → map.get new.spots place ≡ map.get (map.insert mid.spots (f, e.first.0 + n) (spot_number P e n)) place
      spots place = ap (λ (b : Blocks). map.get b.spots place) made

      other : (k : ℕ) → e.first.0 + k ≡ e.first.0 + n → k ≡ n
      other k t = omega arith

      apart : (g p : ℕ) → IsOutside f e.first.0 (n + 1) g p → g ≡ f → p ≡ e.first.0 + n → ⊥
      apart g p (inl differs) s t = differs s
      apart g p (inr (inl below)) s t = omega arith
      apart g p (inr (inr past)) s t = omega arith

      fewer : (g p : ℕ) → IsOutside f e.first.0 (n + 1) g p → IsOutside f e.first.0 n g p
      fewer g p (inl differs) = inl differs
      fewer g p (inr (inl below)) = inr (inl below)
      fewer g p (inr (inr past)) = inr (inr (omega arith))

  -- a block that is taken is one of a page, as it was before the extent
  pub taken_before : (N : ℕ) → n < N → e.block.0 + N ≤ old.count → old.held ≡ map.empty → IsTaken mid (e.block.0 + n) → is_any_mapped old.spots e.block.0 N ≡ true
  taken_before N low within idle (inl past) = absurd (let c = is.count in omega arith)
  taken_before N low within idle (inr taken) = any_range (is_mapped old.spots) e.block.0 N n low (mapped_old (at_mapped mid.spots b mapped))
    where
      b : ℕ
      b = e.block.0 + n

      not_held : map.contains_key mid.held (e.block.0 + n) ≡ false
      not_held = ap (λ (h : map.FinMap nat_cmp Bool). map.contains_key h (e.block.0 + n)) (is.held ∙ idle) ∙ ap (λ (o : Option Bool). is_some o) (map.get-empty nat_cmp (e.block.0 + n))

      turned : (x y : Bool) → y ≡ false → not (x || y) ≡ false → x ≡ true
      turned true y h t = refl
      turned false y h t = absurd (true≢false (ap not (sym h) ∙ t))

      mapped : is_mapped mid.spots (e.block.0 + n) ≡ true
      mapped = turned (is_mapped mid.spots (e.block.0 + n)) (map.contains_key mid.held (e.block.0 + n)) not_held taken

      mapped_old : (p : ℕ × ℕ) × (has_block (map.get mid.spots p) (e.block.0 + n) ≡ true) → is_mapped old.spots (e.block.0 + n) ≡ true
      mapped_old at = elim (cases_inside f e.first.0 n at.0.0 at.0.1) [
        | inl inside ↦
            let there : map.get mid.spots at.0 ≡ Some (spot_number P e inside.k) =
            (λ i. map.get mid.spots (inside.file i, inside.at i)) ∙ is.there inside.k inside.low in
            let same : e.block.0 + inside.k ≡ e.block.0 + n = eqb-true (e.block.0 + inside.k) (e.block.0 + n) (sym (ap (λ o. has_block o (e.block.0 + n)) there) ∙ at.1) in
            absurd (let h = inside.low in omega arith)
        | inr outside ↦ mapped_at old.spots at.0 (e.block.0 + n) (sym (ap (λ o. has_block o (e.block.0 + n)) (is.others at.0.0 at.0.1 outside)) ∙ at.1)
      ]

  -- the file's pages before the extent, and those of other files, are as they were
  pub same_before : SameBefore old mid f e.first.0
  same_before = record {
    count = is.count;
    held = is.held;
    spots = λ place before. is.others place.0 place.1 (elim (cases_eq place.0 f) [
      | inr differs ↦ inl differs
      | inl same ↦ elim (cases_lt place.1 e.first.0) [
        | inl below ↦ inr (inl below)
        | inr above ↦ absurd (false≢true (sym before ∙ and_from (eqb place.0 f) (nat_le e.first.0 place.1) (eq-eqb place.0 f same) (le-leb e.first.0 place.1 above)))
      ]
    ]);
  }

-- what was given is taken back
pub cut_undone : (old mid new : Blocks) (f p : ℕ) → SameBefore old mid f p → CutsFrom mid new f p → NoneFrom old.spots f p → old.held ≡ map.empty → new ≡ old
cut_undone old mid new f p same cuts none idle = λ i. record { count = count i; spots = spots i; held = held i }
  where
    count : new.count ≡ old.count
    count = cuts.count ∙ same.count

    gone : (place : ℕ × ℕ) → is_from f p place ≡ true → map.get old.spots place ≡ None
    gone place from =
        let parts = and_parts (eqb place.0 f) (nat_le p place.1) from in
        ap (λ g. map.get old.spots (g, place.1)) (eqb-true place.0 f parts.0) ∙ none.each place.1 (leb-true p place.1 parts.1)

    spots : new.spots ≡ old.spots
    spots = map.same_map places_total places_antisymmetric new.spots old.spots (λ place. cuts.spots place ∙ elim (cases_Bool (is_from f p place)) [
      | inl from ↦ cond-true (is_from f p place) None (map.get mid.spots place) from ∙ sym (gone place from)
      | inr before ↦ cond-false (is_from f p place) None (map.get mid.spots place) before ∙ same.spots place before
    ])

    empty : (b : ℕ) → map.get mid.held b ≡ None
    empty b = ap (λ (h : map.FinMap nat_cmp Bool). map.get h b) (same.held ∙ idle) ∙ map.get-empty nat_cmp b

    held : new.held ≡ old.held
    held = same_nat_map new.held old.held (λ b.
        cuts.held b
        ∙ ap (option_map _) (empty b)
        ∙ sym (ap (λ (h : map.FinMap nat_cmp Bool). map.get h b) idle ∙ map.get-empty nat_cmp b))
