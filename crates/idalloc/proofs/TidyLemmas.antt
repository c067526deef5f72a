-- What keeps the bitmaps tidy.
use Rattle.std.proofs.Common.{◌≡◌, ◌≢◌, ℕ, ◌+◌, ◌*◌, ◌/◌, ◌%◌, ◌^◌, ◌<◌, true, false, cond, not, ◌&&◌, ◌||◌, eqb, Option, Some, None, is_some, refl, sym, ap, ◌∙◌, arith, inl, inr}
use Rattle.std.specs.Prelude.{◌==◌}
use Rattle.std.specs.Int.{bit_at}
use Rattle.std.specs.Ordering.{nat_cmp}
use Rattle.std.specs.Cmp.{nat_cmp_total, unsigned_tied}
use Rattle.std.specs.FinMap as map
use Rattle.std.proofs.lemmas.Bool.{cases_eq, ne_eqb, eq-eqb, eqb-false, cond-true, cond-false, true≢false}
use Rattle.std.proofs.lemmas.Option.{same_Some, none-some}
use Rattle.std.proofs.lemmas.Nat.Bits.{bit_at-zero, bit_at-lt, same_from_bits_below}
use Rattle.idalloc.specs.Bitmaps.{Bitmaps, full, has_bit, has_number, FollowsFull, IsTidy, OpensBehind}
use Rattle.idalloc.specs.Bits.{ChangesBit}
use Rattle.idalloc.proofs.BitLemmas.{full_bits}
use Rattle.idalloc.proofs.NumberLemmas.{has_number-insert, has_number-remove}

-- ---- look-ups after a change

pub get_same : (m : Bitmaps) (i bits : ℕ) → map.get (map.insert m i bits) i ≡ Some bits
get_same m i bits = map.get-insert nat_cmp_total m i bits i ∙ ap (λ b. cond b (Some bits) (map.get m i)) (unsigned_tied i i ∙ eq-eqb i i refl)

pub get_other : (m : Bitmaps) (i bits q : ℕ) → q ≢ i → map.get (map.insert m i bits) q ≡ map.get m q
get_other m i bits q differs = map.get-insert nat_cmp_total m i bits q ∙ ap (λ b. cond b (Some bits) (map.get m q)) (unsigned_tied q i ∙ ne_eqb q i differs)

pub gone_same : (m : Bitmaps) (i : ℕ) → map.get (map.remove m i) i ≡ None
gone_same m i = map.get-remove nat_cmp_total m i i ∙ ap (λ b. cond b None (map.get m i)) (unsigned_tied i i ∙ eq-eqb i i refl)

pub gone_other : (m : Bitmaps) (i q : ℕ) → q ≢ i → map.get (map.remove m i) q ≡ map.get m q
gone_other m i q differs = map.get-remove nat_cmp_total m i q ∙ ap (λ b. cond b None (map.get m q)) (unsigned_tied q i ∙ ne_eqb q i differs)

-- what is there stays, after an insertion
pub there_still : (m : Bitmaps) (i bits q : ℕ) → is_some (map.get m q) ≡ true → is_some (map.get (map.insert m i bits) q) ≡ true
there_still m i bits q there = elim (cases_eq q i) [
  | inl e ↦ ap (λ k. is_some (map.get (map.insert m i bits) k)) e ∙ ap is_some (get_same m i bits)
  | inr differs ↦ ap is_some (get_other m i bits q differs) ∙ there
]

-- ---- bits and numbers

-- bit k of the bitmap at index i is set now, and no other number changes
pub number_set : (m : Bitmaps) (n bits : ℕ) → bit_at bits (n % 32) ≡ 1 → ((j : ℕ) → j < 32 → j ≢ n % 32 → (bit_at bits j == 1) ≡ has_bit (map.get m (n / 32)) j) → (q : ℕ) → has_number (map.insert m (n / 32) bits) q ≡ (eqb q n || has_number m q)
number_set m n bits here others q =
    has_number-insert m (n / 32) bits q
    ∙ elim (cases_eq q n) [
      | inl e ↦
          cond-true (eqb (q / 32) (n / 32)) (bit_at bits (q % 32) == 1) (has_number m q) (eq-eqb (q / 32) (n / 32) (ap (λ k. k / 32) e))
          ∙ eq-eqb (bit_at bits (q % 32)) 1 (ap (λ k. bit_at bits (k % 32)) e ∙ here)
          ∙ sym (ap (λ b. b || has_number m q) (eq-eqb q n e))
      | inr differs ↦ elim (cases_eq (q / 32) (n / 32)) [
        | inl f ↦
            let apart : q % 32 ≢ n % 32 = λ g. differs (omega arith) in
            cond-true (eqb (q / 32) (n / 32)) (bit_at bits (q % 32) == 1) (has_number m q) (eq-eqb (q / 32) (n / 32) f)
            ∙ others (q % 32) (omega arith) apart
            ∙ ap (λ k. has_bit (map.get m k) (q % 32)) (sym f)
            ∙ sym (ap (λ b. b || has_number m q) (ne_eqb q n differs))
        | inr g ↦
            cond-false (eqb (q / 32) (n / 32)) (bit_at bits (q % 32) == 1) (has_number m q) (ne_eqb (q / 32) (n / 32) g)
            ∙ sym (ap (λ b. b || has_number m q) (ne_eqb q n differs))
      ]
    ]

-- bit k is not set any more
pub number_cleared : (m : Bitmaps) (n bits : ℕ) → bit_at bits (n % 32) ≡ 0 → ((j : ℕ) → j < 32 → j ≢ n % 32 → (bit_at bits j == 1) ≡ has_bit (map.get m (n / 32)) j) → (q : ℕ) → has_number (map.insert m (n / 32) bits) q ≡ (not (eqb q n) && has_number m q)
number_cleared m n bits here others q =
    has_number-insert m (n / 32) bits q
    ∙ elim (cases_eq q n) [
      | inl e ↦
          cond-true (eqb (q / 32) (n / 32)) (bit_at bits (q % 32) == 1) (has_number m q) (eq-eqb (q / 32) (n / 32) (ap (λ k. k / 32) e))
          ∙ ap (λ k. k == 1) (ap (λ k. bit_at bits (k % 32)) e ∙ here)
          ∙ sym (ap (λ b. not b && has_number m q) (eq-eqb q n e))
      | inr differs ↦ elim (cases_eq (q / 32) (n / 32)) [
        | inl f ↦
            let apart : q % 32 ≢ n % 32 = λ g. differs (omega arith) in
            cond-true (eqb (q / 32) (n / 32)) (bit_at bits (q % 32) == 1) (has_number m q) (eq-eqb (q / 32) (n / 32) f)
            ∙ others (q % 32) (omega arith) apart
            ∙ ap (λ k. has_bit (map.get m k) (q % 32)) (sym f)
            ∙ sym (ap (λ b. not b && has_number m q) (ne_eqb q n differs))
        | inr g ↦
            cond-false (eqb (q / 32) (n / 32)) (bit_at bits (q % 32) == 1) (has_number m q) (ne_eqb (q / 32) (n / 32) g)
            ∙ sym (ap (λ b. not b && has_number m q) (ne_eqb q n differs))
      ]
    ]

no_bit : (k : ℕ) → (bit_at 0 k == 1) ≡ false
no_bit k = ap (λ b. b == 1) (bit_at-zero k)

-- an empty bitmap more or less
pub number_opened : (m : Bitmaps) (i : ℕ) → map.get m i ≡ None → (q : ℕ) → has_number (map.insert m i 0) q ≡ has_number m q
number_opened m i none q =
    has_number-insert m i 0 q
    ∙ elim (cases_eq (q / 32) i) [
      | inl e ↦
          cond-true (eqb (q / 32) i) (bit_at 0 (q % 32) == 1) (has_number m q) (eq-eqb (q / 32) i e) ∙ no_bit (q % 32)
          ∙ sym (ap (λ o. has_bit o (q % 32)) (ap (map.get m) e ∙ none))
      | inr g ↦ cond-false (eqb (q / 32) i) (bit_at 0 (q % 32) == 1) (has_number m q) (ne_eqb (q / 32) i g)
    ]

pub number_removed : (m : Bitmaps) (i : ℕ) → map.get m i ≡ Some 0 → (q : ℕ) → has_number (map.remove m i) q ≡ has_number m q
number_removed m i empty q =
    has_number-remove m i q
    ∙ elim (cases_eq (q / 32) i) [
      | inl e ↦
          cond-true (eqb (q / 32) i) false (has_number m q) (eq-eqb (q / 32) i e)
          ∙ sym (ap (λ o. has_bit o (q % 32)) (ap (map.get m) e ∙ empty) ∙ no_bit (q % 32))
      | inr g ↦ cond-false (eqb (q / 32) i) false (has_number m q) (ne_eqb (q / 32) i g)
    ]

-- ---- tidiness

-- A bitmap is made or changed, and isn't full now. Where it is empty, or was full, one index may have to be tidied.
pub changed : (m : Bitmaps) (i bits : ℕ) (but : Option ℕ) → IsTidy m None → bits ≢ full → (bits ≡ 0 → but ≡ Some i) → (map.get m i ≡ Some full → but ≡ Some (i + 1)) → IsTidy (map.insert m i bits) but
changed m i bits but tidy not_full if_empty if_was_full = record {
  follows = λ j is below. elim (cases_eq j i) [
    | inl e ↦ absurd (not_full (same_Some bits full (sym (get_same m i bits) ∙ ap (map.get (map.insert m i bits)) (sym e) ∙ is)))
    | inr differs ↦ there_still m i bits (j + 1) (tidy.follows j (sym (get_other m i bits j differs) ∙ is) below)
  ];
  empty = λ j is apart. elim (cases_eq j i) [
    | inl e ↦ absurd (apart (if_empty (same_Some bits 0 (sym (get_same m i bits) ∙ ap (map.get (map.insert m i bits)) (sym e) ∙ is)) ∙ ap Some (sym e)))
    | inr differs ↦
        let f : FollowsFull m j = tidy.empty j (sym (get_other m i bits j differs) ∙ is) (λ h. cc) in
        let other : f.before ≢ i = λ e. apart (if_was_full (ap (map.get m) (sym e) ∙ f.is_full) ∙ ap Some (sym (f.next ∙ ap (λ k. k + 1) e))) in
        record { before = f.before; next = f.next; is_full = get_other m i bits f.before other ∙ f.is_full }
  ];
}

-- the last unset bit of a bitmap is set, and there is one behind it
pub filled : (m : Bitmaps) (i : ℕ) → IsTidy m (Some (i + 1)) → map.get m i ≢ Some full → (i + 1 < 2 ^ 59 → is_some (map.get m (i + 1)) ≡ true) → IsTidy (map.insert m i full) None
filled m i tidy not_full behind = record {
  follows = λ j is below. elim (cases_eq j i) [
    | inl e ↦ there_still m i full (j + 1) (ap (λ k. is_some (map.get m (k + 1))) e ∙ behind (omega arith))
    | inr differs ↦ there_still m i full (j + 1) (tidy.follows j (sym (get_other m i full j differs) ∙ is) below)
  ];
  empty = λ j is apart. elim (cases_eq j i) [
    | inl e ↦ let h : full ≡ 0 = same_Some full 0 (sym (get_same m i full) ∙ ap (map.get (map.insert m i full)) (sym e) ∙ is) in absurd (omega arith)
    | inr differs ↦ elim (cases_eq j (i + 1)) [
      | inl e ↦ record { before = i; next = e; is_full = get_same m i full }
      | inr further ↦
          let f : FollowsFull m j = tidy.empty j (sym (get_other m i full j differs) ∙ is) (λ h. further (sym (same_Some (i + 1) j h))) in
          let other : f.before ≢ i = λ e. not_full (ap (map.get m) (sym e) ∙ f.is_full) in
          record { before = f.before; next = f.next; is_full = get_other m i full f.before other ∙ f.is_full }
    ]
  ];
}

pub weaker : (m : Bitmaps) (but : Option ℕ) → IsTidy m None → IsTidy m but
weaker m but tidy = record { follows = tidy.follows; empty = λ j is apart. tidy.empty j is (λ h. cc) }

-- nothing has to be tidied at the index
pub settled : (m : Bitmaps) (x : ℕ) → IsTidy m (Some x) → (map.get m x ≡ Some 0 → FollowsFull m x) → IsTidy m None
settled m x tidy fine = record {
  follows = tidy.follows;
  empty = λ j is apart. elim (cases_eq j x) [
    | inl e ↦ let f : FollowsFull m x = fine (ap (map.get m) (sym e) ∙ is) in record { before = f.before; next = e ∙ f.next; is_full = f.is_full }
    | inr differs ↦ tidy.empty j is (λ h. differs (sym (same_Some x j h)))
  ];
}

-- an empty bitmap goes that follows no full one
pub removed : (m : Bitmaps) (x : ℕ) → IsTidy m (Some x) → map.get m x ≡ Some 0 → (FollowsFull m x → ⊥) → IsTidy (map.remove m x) None
removed m x tidy is_empty idle = record {
  follows = λ j is below. elim (cases_eq j x) [
    | inl e ↦ let h : ◌≡◌ {A = Option ℕ} None (Some full) = sym (gone_same m x) ∙ ap (map.get (map.remove m x)) (sym e) ∙ is in absurd (cc)
    | inr differs ↦
        let was : map.get m j ≡ Some full = sym (gone_other m x j differs) ∙ is in
        let apart : j + 1 ≢ x = λ e. idle (record { before = j; next = sym e; is_full = was }) in
        ap is_some (gone_other m x (j + 1) apart) ∙ tidy.follows j was below
  ];
  empty = λ j is apart. elim (cases_eq j x) [
    | inl e ↦ let h : ◌≡◌ {A = Option ℕ} None (Some 0) = sym (gone_same m x) ∙ ap (map.get (map.remove m x)) (sym e) ∙ is in absurd (cc)
    | inr differs ↦
        let f : FollowsFull m j = tidy.empty j (sym (gone_other m x j differs) ∙ is) (λ h. differs (sym (same_Some x j h))) in
        let other : f.before ≢ x = λ e. let h : 0 ≡ full = same_Some 0 full (sym is_empty ∙ ap (map.get m) (sym e) ∙ f.is_full) in absurd (omega arith) in
        record { before = f.before; next = f.next; is_full = gone_other m x f.before other ∙ f.is_full }
  ];
}

pub tidy-empty : IsTidy map.empty None
tidy-empty = record {
  follows = λ i is below. absurd (none-some full (sym (map.get-empty nat_cmp i) ∙ is));
  empty = λ i is apart. absurd (none-some 0 (sym (map.get-empty nat_cmp i) ∙ is));
}

-- a bit of the bitmap at a number's index after its change
pub bit_kept : (m : Bitmaps) (n before bits bit : ℕ) → map.get m (n / 32) ≡ Some before → ChangesBit before bits (n % 32) bit → (j : ℕ) → j < 32 → j ≢ n % 32 → (bit_at bits j == 1) ≡ has_bit (map.get m (n / 32)) j
bit_kept m n before bits bit there changes j within apart = ap (λ b. b == 1) (changes.others j within apart) ∙ sym (ap (λ o. has_bit o j) there)

pub bit_fresh : (m : Bitmaps) (n bits bit : ℕ) → map.get m (n / 32) ≡ None → ChangesBit 0 bits (n % 32) bit → (j : ℕ) → j < 32 → j ≢ n % 32 → (bit_at bits j == 1) ≡ has_bit (map.get m (n / 32)) j
bit_fresh m n bits bit none changes j within apart = ap (λ b. b == 1) (changes.others j within apart) ∙ no_bit j ∙ sym (ap (λ o. has_bit o j) none)

-- a bitmap with an unset bit isn't full
pub has_room : (m : Bitmaps) (n before : ℕ) → map.get m (n / 32) ≡ Some before → has_number m n ≡ false → before ≢ full
has_room m n before there clear e = true≢false (sym (in_full_here m n (there ∙ ap Some e)) ∙ clear)
  where
    in_full_here : (m : Bitmaps) (n : ℕ) → map.get m (n / 32) ≡ Some full → has_number m n ≡ true
    in_full_here m n is = ap (λ o. has_bit o (n % 32)) is ∙ eq-eqb (bit_at full (n % 32)) 1 (full_bits (n % 32) (omega arith))

-- what `take` leaves
pub taken_set : (m : Bitmaps) (n before bits : ℕ) → map.get m (n / 32) ≡ Some before → ChangesBit before bits (n % 32) 1 → (q : ℕ) → has_number (map.insert m (n / 32) bits) q ≡ (eqb q n || has_number m q)
taken_set m n before bits there changes = number_set m n bits changes.changed (bit_kept m n before bits 1 there changes)

pub fresh_set : (m : Bitmaps) (n bits : ℕ) → map.get m (n / 32) ≡ None → ChangesBit 0 bits (n % 32) 1 → (q : ℕ) → has_number (map.insert m (n / 32) bits) q ≡ (eqb q n || has_number m q)
fresh_set m n bits none changes = number_set m n bits changes.changed (bit_fresh m n bits 1 none changes)

pub given_back : (m : Bitmaps) (n before bits : ℕ) → map.get m (n / 32) ≡ Some before → ChangesBit before bits (n % 32) 0 → (q : ℕ) → has_number (map.insert m (n / 32) bits) q ≡ (not (eqb q n) && has_number m q)
given_back m n before bits there changes = number_cleared m n bits changes.changed (bit_kept m n before bits 0 there changes)

-- a full bitmap's numbers, whatever empty ones there are besides
pub filled_set : (old mid : Bitmaps) (i : ℕ) → ((q : ℕ) → has_number mid q ≡ has_number old q) → (q : ℕ) → has_number (map.insert mid i full) q ≡ has_number (map.insert old i full) q
filled_set old mid i same q =
    has_number-insert mid i full q
    ∙ ap (cond (eqb (q / 32) i) (bit_at full (q % 32) == 1)) (same q)
    ∙ sym (has_number-insert old i full q)

-- where no number is used there is no bitmap
all_clear : (m : Bitmaps) (i bits : ℕ) → ((q : ℕ) → has_number m q ≡ false) → map.get m i ≡ Some bits → bits < 2 ^ 32 → bits ≡ 0
all_clear m i bits none there fits =
    same_from_bits_below 32 bits 0 fits (omega arith) (λ k below.
    let n : ℕ = 32 * i + k in
    let quotient : n / 32 ≡ i = omega arith in
    let remainder : n % 32 ≡ k = omega arith in
    let clear : (bit_at bits k == 1) ≡ false = sym (ap (λ o. has_bit o (n % 32)) (ap (map.get m) quotient ∙ there) ∙ ap (λ j. bit_at bits j == 1) remainder) ∙ none n in
    let apart : bit_at bits k ≢ 1 = eqb-false (bit_at bits k) 1 clear in
    omega (arith, bit_at-lt bits k, apart, bit_at-zero k))

absent_of : (o : Option ℕ) → ((bits : ℕ) → o ≡ Some bits → ⊥) → o ≡ None
absent_of None h = refl
absent_of (Some bits) h = absurd (h bits refl)

pub none_used : (m : Bitmaps) → IsTidy m None → ((i bits : ℕ) → map.get m i ≡ Some bits → bits < 2 ^ 32) → ((q : ℕ) → has_number m q ≡ false) → m ≡ map.empty
none_used m tidy fits none = map.same_map nat_cmp_total map.nat_cmp-IsAntisymmetric m map.empty (λ i.
    absent_of (map.get m i) (λ bits there.
    let empty : bits ≡ 0 = all_clear m i bits none there (fits i bits there) in
    let f : FollowsFull m i = tidy.empty i (there ∙ ap Some empty) (λ h. cc) in
    let b : full ≡ 0 = all_clear m f.before full none f.is_full (fits f.before full f.is_full) in
    absurd (omega arith))
    ∙ sym (map.get-empty nat_cmp i))

none_of : (o : Option ℕ) → is_some o ≡ false → o ≡ None
none_of None h = refl
none_of (Some bits) h = absurd (true≢false h)

-- an empty bitmap comes to stand behind an index
pub opens : (m : Bitmaps) (i : ℕ) → IsTidy m None → is_some (map.get m (i + 1)) ≡ false → OpensBehind m (map.insert m (i + 1) 0) i
opens m i tidy free =
    let none : map.get m (i + 1) ≡ None = none_of (map.get m (i + 1)) free in
    record {
      tidy = changed m (i + 1) 0 (Some (i + 1)) tidy (λ e. absurd (omega arith)) (λ _. refl) (λ was_full. absurd (none-some full (sym none ∙ was_full)));
      behind = λ _. ap is_some (get_same m (i + 1) 0);
      same = number_opened m (i + 1) none;
      here = get_other m (i + 1) 0 i (λ e. absurd (omega arith));
    }
