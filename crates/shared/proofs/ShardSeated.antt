-- What a call in one shard leaves of a caller's seats.
use Rattle.std.proofs.Common.{rules, true, false, ◌≡◌, ◌≢◌, ◌<◌, ◌∙◌, ℕ, zero, suc, List, [], ◌∷◌, inl, inr, ⊎_elim, ◌⊎◌, length, refl, slice_index_or, slice_set, subst, sym, ap, arith}
use Rattle.std.proofs.lemmas.List.{get_or-set_other, get_or-set_same, length-set, set-get_or}
use Rattle.errseq.proofs.Prefixes.{prefix_self}
use Rattle.held.specs.Called.{Goes}
use Rattle.held.specs.Shown.{SeatSeen}
use Rattle.shared.specs.ShardNames.{CacheNames}
use Rattle.shared.specs.ShardSeats.{AreSeated, OnlyAt, SeesMore, is_of, no_seat, part}

pub same_or_else : (i j : ℕ) → (i ≡ j) ⊎ (i ≢ j)
same_or_else zero zero = inl refl
same_or_else zero (suc j) = inr (λ h. omega arith)
same_or_else (suc i) zero = inr (λ h. omega arith)
same_or_else (suc i) (suc j) = ⊎_elim (λ e. inl (ap suc e)) (λ n. inr (λ h. n (omega arith))) (same_or_else i j)

-- the seat at the shard went on, and no other changed
pub seated_on : (names : ℕ → CacheNames) (k : ℕ) (before after : List SeatSeen) → AreSeated names before
    → OnlyAt k before after → Goes (part before k) (part after k) → AreSeated names after
seated_on names k before after seated only goes = λ j less. ⊎_elim (here j less) (there j less) (same_or_else j k)
  where
    long : (j : ℕ) → j < length after → j < length before
    long j less = subst (λ n. j < n) (ap length only ∙ length-set before k (part after k)) less

    here : (j : ℕ) → j < length after → j ≡ k → (part after j).name ≡ (names j).name → (part after j).table ≡ (names j).table
    here j less same named =
        let moved : part after j ≡ part after k = ap (part after) same in
        let back : part before k ≡ part before j = ap (part before) (sym same) in
        ap (λ (s : SeatSeen). s.table) moved ∙ goes.same.0 ∙ ap (λ (s : SeatSeen). s.table) back
        ∙ seated j (long j less)
        (ap (λ (s : SeatSeen). s.name) (sym back) ∙ sym goes.same.1 ∙ ap (λ (s : SeatSeen). s.name) (sym moved) ∙ named)

    there : (j : ℕ) → j < length after → j ≢ k → (part after j).name ≡ (names j).name → (part after j).table ≡ (names j).table
    there j less other named =
        let moved : part after j ≡ part before j =
        ap (λ seats. part seats j) only ∙ get_or-set_other before k j (part after k) no_seat other in
        ap (λ (s : SeatSeen). s.table) moved
        ∙ seated j (long j less) (ap (λ (s : SeatSeen). s.name) (sym moved) ∙ named)

get_or-default : (seats : List SeatSeen) (k : ℕ) (d e : SeatSeen) → k < length seats → slice_index_or seats k d ≡ slice_index_or seats k e
get_or-default [] k d e less = absurd (omega (arith, less))
get_or-default (x ∷ xs) zero d e less = refl
get_or-default (x ∷ xs) (suc k) d e less = get_or-default xs k d e (omega (arith, less))

pub part_was : (seats : List SeatSeen) (k : ℕ) (x : SeatSeen) → k < length seats → x ≡ slice_index_or seats k x → part seats k ≡ x
part_was seats k x less is = get_or-default seats k no_seat x less ∙ sym is

-- what holds of the seat that was lent holds of the part
pub at_part : (P : SeatSeen → SeatSeen → Type 0) (seats : List SeatSeen) (k : ℕ) (own new : SeatSeen) → k < length seats
    → own ≡ slice_index_or seats k own → P own new → P (part seats k) (part (slice_set seats k new) k)
at_part P seats k own new less is p =
    subst (λ a. P a (part (slice_set seats k new) k)) (sym (part_was seats k own less is))
    (subst (P own) (sym (get_or-set_same seats k new no_seat less)) p)

-- ---- a call by the seat at a shard, which was lent

of_named : (name : ℕ) (seats : List SeatSeen) (k : ℕ) → is_of name seats k ≡ true → (part seats k).name ≡ name
of_named name seats k of = search rules

not_of : (name : ℕ) (seats : List SeatSeen) (k : ℕ) → k < length seats → is_of name seats k ≡ false → (part seats k).name ≢ name
not_of name seats k less not = search (rules, arith)

-- what the call says of the seat, it says of the part
pub called : (P : SeatSeen → SeatSeen → Type 0) (name : ℕ) (now inside : List SeatSeen) (k : ℕ) (own new : SeatSeen)
    → inside ≡ now → k < length inside → own ≡ slice_index_or inside k own → (own.name ≡ name → P own new)
    → is_of name now k ≡ true → P (part now k) (part (slice_set inside k new) k)
called P name now inside k own new same less is call of =
    let was : part now k ≡ own = ap (λ seats. part seats k) (sym same) ∙ part_was inside k own less is in
    let named : own.name ≡ name = ap (λ (s : SeatSeen). s.name) (sym was) ∙ of_named name now k of in
    subst (λ a. P a (part (slice_set inside k new) k)) (sym was)
    (subst (P own) (sym (get_or-set_same inside k new no_seat less)) (call named))

-- of another cache
pub not_named : (name : ℕ) (now inside : List SeatSeen) (k : ℕ) (own : SeatSeen) → inside ≡ now → k < length inside
    → own ≡ slice_index_or inside k own → is_of name now k ≡ false → own.name ≢ name
not_named name now inside k own same less is not =
    let was : part now k ≡ own = ap (λ seats. part seats k) (sym same) ∙ part_was inside k own less is in
    let here : k < length now = subst (λ seats. k < length seats) same less in
    λ named. not_of name now k here not (ap (λ (s : SeatSeen). s.name) was ∙ named)

-- nothing changed
pub stayed : (now inside : List SeatSeen) (k : ℕ) (own new : SeatSeen) → inside ≡ now → own ≡ slice_index_or inside k own → new ≡ own
    → slice_set inside k new ≡ now
stayed now inside k own new same is unchanged =
    ap (λ s. slice_set inside k s) (unchanged ∙ is) ∙ set-get_or inside k own ∙ same

pub seated_after : (names : ℕ → CacheNames) (now inside : List SeatSeen) (k : ℕ) (own new : SeatSeen) → inside ≡ now
    → k < length inside → own ≡ slice_index_or inside k own → AreSeated names now → Goes own new → AreSeated names (slice_set inside k new)
seated_after names now inside k own new same less is seated goes =
    let was : part now k ≡ own = ap (λ seats. part seats k) (sym same) ∙ part_was inside k own less is in
    let left : part (slice_set inside k new) k ≡ new = get_or-set_same inside k new no_seat less in
    let only : OnlyAt k now (slice_set inside k new) =
    ap (λ seats. slice_set seats k new) same ∙ ap (λ s. slice_set now k s) (sym left) in
    seated_on names k now (slice_set inside k new) seated only
    (subst (λ a. Goes a (part (slice_set inside k new) k)) (sym was) (subst (Goes own) (sym left) goes))

-- the seat that was lent has seen more, and no other changed
pub sees_after : (now inside : List SeatSeen) (k : ℕ) (own new : SeatSeen) → inside ≡ now → k < length inside
    → own ≡ slice_index_or inside k own → SeesMore own new
    → (length (slice_set inside k new) ≡ length now)
    × ((j : ℕ) → j < length now → SeesMore (part now j) (part (slice_set inside k new) j))
sees_after now inside k own new same less is more =
    (length-set inside k new ∙ ap length same, λ j within. ⊎_elim (here j) (there j) (same_or_else j k))
  where
    here : (j : ℕ) → j ≡ k → SeesMore (part now j) (part (slice_set inside k new) j)
    here j at =
        subst (λ i. SeesMore (part now i) (part (slice_set inside k new) i)) (sym at)
        (subst (λ seats. SeesMore (part seats k) (part (slice_set inside k new) k)) same (at_part SeesMore inside k own new less is more))

    there : (j : ℕ) → j ≢ k → SeesMore (part now j) (part (slice_set inside k new) j)
    there j other =
        let kept : part (slice_set inside k new) j ≡ part now j =
        get_or-set_other inside k j new no_seat other ∙ ap (λ seats. part seats j) same in
        subst (SeesMore (part now j)) (sym kept)
        (record { same = (refl, refl, refl, refl); grows = prefix_self (part now j).list })

-- and the seats are of the caches as before
pub seated_seeing : (names : ℕ → CacheNames) (now inside : List SeatSeen) (k : ℕ) (own new : SeatSeen) → inside ≡ now
    → k < length inside → own ≡ slice_index_or inside k own → SeesMore own new → AreSeated names now
    → AreSeated names (slice_set inside k new)
seated_seeing names now inside k own new same less is more seated =
    seated_after names now inside k own new same less is seated
    (record { same = (more.same.0, more.same.1, more.same.2); grows = more.grows; count = omega (arith, more.same.3) })
