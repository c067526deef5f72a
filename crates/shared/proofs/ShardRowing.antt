-- Callers' seats, made shard by shard.
use Rattle.std.proofs.Common.{◌≡◌, ◌≢◌, ◌<◌, ◌≤◌, ◌+◌, ◌++◌, ◌∷◌, [], ◌∙◌, ℕ, List, ⊎_elim, length, slice_index_or, slice_set, subst, sym, ap, arith}
use Rattle.std.specs.Prelude.{All}
use Rattle.std.proofs.lemmas.List.{get_or-set_same, get_or-set_other, get_or_append_left, length-append, length-set}
use Rattle.std.proofs.Math.Seq.{get_or-append_seam}
use Rattle.atomic_table.specs.Seated.{TableId}
use Rattle.held.specs.Shown.{AreFresh, IsFresh, SeatSeen}
use Rattle.shared.specs.ShardNames.{CacheNames, names_at, no_names}
use Rattle.shared.specs.ShardSeats.{AreCallers, AreOf, AreSeated, no_seat, part}
use Rattle.shared.proofs.ShardSeated.{same_or_else}

-- with a seat at one more cache
pub seated_more : (i : ℕ) (names : List CacheNames) (n : CacheNames) (seats : List SeatSeen) (s : SeatSeen) → AreOf i names seats
    → IsFresh n.table n.name s i → AreOf i (names ++ n ∷ []) (seats ++ s ∷ [])
seated_more i names n seats s are is = record {
  count = length-append seats (s ∷ []) ∙ ap (λ k. k + 1) are.count ∙ sym (length-append names (n ∷ []));
  each = λ k less. ⊎_elim (last k) (before k less) (same_or_else k (length names));
}
  where
    At : CacheNames → SeatSeen → Type 0
    At x seat = IsFresh x.table x.name seat i

    last : (k : ℕ) → k ≡ length names → At (names_at (names ++ n ∷ []) k) (part (seats ++ s ∷ []) k)
    last k same =
        let ours : names_at (names ++ n ∷ []) k ≡ n =
        ap (names_at (names ++ n ∷ [])) same ∙ get_or-append_seam names n [] no_names in
        let mine : part (seats ++ s ∷ []) k ≡ s =
        ap (part (seats ++ s ∷ [])) (same ∙ sym are.count) ∙ get_or-append_seam seats s [] no_seat in
        subst (λ (x : CacheNames). At x (part (seats ++ s ∷ []) k)) (sym ours) (subst (At n) (sym mine) is)

    before : (k : ℕ) → k < length (names ++ n ∷ []) → k ≢ length names → At (names_at (names ++ n ∷ []) k) (part (seats ++ s ∷ []) k)
    before k less other =
        let under : k < length names = omega (arith, less, other, length-append names (n ∷ [])) in
        let here : k < length seats = subst (λ m. k < m) (sym are.count) under in
        let ours : names_at (names ++ n ∷ []) k ≡ names_at names k = get_or_append_left names (n ∷ []) no_names k under in
        let mine : part (seats ++ s ∷ []) k ≡ part seats k = get_or_append_left seats (s ∷ []) no_seat k here in
        subst (λ (x : CacheNames). At x (part (seats ++ s ∷ []) k)) (sym ours)
        (subst (At (names_at names k)) (sym mine) (are.each k under))

-- the last of the seats, and the others
pub last_fresh : (table : TableId) (name i : ℕ) (old new : List SeatSeen) (s : SeatSeen) → old ≡ new ++ s ∷ [] → length new ≡ i
    → AreFresh table name old → IsFresh table name s i
last_fresh table name i old new s is long fresh =
    let at : slice_index_or old i s ≡ s =
    ap (λ k. slice_index_or old k s) (sym long) ∙ ap (λ all. slice_index_or all (length new) s) is ∙ get_or-append_seam new s [] s in
    let within : i < length old = omega (arith, long, ap length is, length-append new (s ∷ [])) in
    subst (λ (x : SeatSeen). IsFresh table name x i) at (fresh i s within)

pub others_fresh : (table : TableId) (name : ℕ) (old new : List SeatSeen) (s : SeatSeen) → old ≡ new ++ s ∷ [] → AreFresh table name old
    → AreFresh table name new
others_fresh table name old new s is fresh k d less =
    let at : slice_index_or old k d ≡ slice_index_or new k d =
    ap (λ all. slice_index_or all k d) is ∙ get_or_append_left new (s ∷ []) d k less in
    let within : k < length old = omega (arith, less, ap length is, length-append new (s ∷ [])) in
    subst (λ (x : SeatSeen). IsFresh table name x k) at (fresh k d within)

-- the callers from this one on have it, and those before not yet
pub record AreSeatedFrom (i : ℕ) (names : List CacheNames) (n : CacheNames) (rows : List (List SeatSeen)) : Type 0 where
  pub left : (k : ℕ) (d : List SeatSeen) → k < length rows → k < i → AreOf k names (slice_index_or rows k d)
  pub done : (k : ℕ) (d : List SeatSeen) → k < length rows → i ≤ k → AreOf k (names ++ n ∷ []) (slice_index_or rows k d)

pub seated_none : (i : ℕ) (names : List CacheNames) (n : CacheNames) (rows : List (List SeatSeen)) → length rows ≤ i → AreCallers names rows
    → AreSeatedFrom i names n rows
seated_none i names n rows over all = record {
  left = λ k d less under. all k d less;
  done = λ k d less beyond. absurd (omega (arith, over, less, beyond));
}

pub seated_one : (i j : ℕ) (names : List CacheNames) (n : CacheNames) (rows : List (List SeatSeen)) (s : SeatSeen) (e : List SeatSeen)
    → j + 1 ≡ i → j < length rows → AreSeatedFrom i names n rows → IsFresh n.table n.name s j
    → AreSeatedFrom j names n (slice_set rows j (slice_index_or rows j e ++ s ∷ []))
seated_one i j names n rows s e next within from is = record {
  left = λ k d less under. earlier k d less under;
  done = λ k d less over. ⊎_elim (now k d less) (later k d less over) (same_or_else k j);
}
  where
    new : List SeatSeen
    new = slice_index_or rows j e ++ s ∷ []

    same_length : length (slice_set rows j new) ≡ length rows
    same_length = length-set rows j new

    now : (k : ℕ) (d : List SeatSeen) → k < length (slice_set rows j new) → k ≡ j
        → AreOf k (names ++ n ∷ []) (slice_index_or (slice_set rows j new) k d)
    now k d less same =
        let at : slice_index_or (slice_set rows j new) j d ≡ new = get_or-set_same rows j new d within in
        let stands : j < i = omega (arith, next) in
        subst (λ m. AreOf m (names ++ n ∷ []) (slice_index_or (slice_set rows j new) m d)) (sym same)
        (subst (AreOf j (names ++ n ∷ [])) (sym at) (seated_more j names n (slice_index_or rows j e) s (from.left j e within stands) is))

    earlier : (k : ℕ) (d : List SeatSeen) → k < length (slice_set rows j new) → k < j
        → AreOf k names (slice_index_or (slice_set rows j new) k d)
    earlier k d less under =
        let other : k ≢ j = λ same. absurd (omega (arith, under, same)) in
        let before : k < i = omega (arith, under, next) in
        let inside : k < length rows = subst (λ m. k < m) same_length less in
        subst (AreOf k names) (sym (get_or-set_other rows j k new d other)) (from.left k d inside before)

    later : (k : ℕ) (d : List SeatSeen) → k < length (slice_set rows j new) → j ≤ k → k ≢ j
        → AreOf k (names ++ n ∷ []) (slice_index_or (slice_set rows j new) k d)
    later k d less over other =
        let beyond : i ≤ k = omega (arith, over, other, next) in
        let inside : k < length rows = subst (λ m. k < m) same_length less in
        subst (AreOf k (names ++ n ∷ [])) (sym (get_or-set_other rows j k new d other)) (from.done k d inside beyond)

pub seated_each : (i : ℕ) (names : List CacheNames) (n : CacheNames) (rows : List (List SeatSeen)) → i ≡ 0 → AreSeatedFrom i names n rows
    → AreCallers (names ++ n ∷ []) rows
seated_each i names n rows none from = λ k d less. from.done k d less (omega (arith, none))

-- callers without seats
pub seated_nowhere : (rows : List (List SeatSeen)) → All (λ row. row ≡ []) rows → AreCallers [] rows
seated_nowhere rows bare = λ i d less. record {
  count = ap length (bare i d less);
  each = λ k under. absurd (omega (arith, under));
}

-- so each seat has its table
pub all_seated : (names : List CacheNames) (rows : List (List SeatSeen)) → AreCallers names rows → All (AreSeated (names_at names)) rows
all_seated names rows are = λ k d less. one k (slice_index_or rows k d) (are k d less)
  where
    one : (i : ℕ) (seats : List SeatSeen) → AreOf i names seats → AreSeated (names_at names) seats
    one i seats is = λ k less named. (is.each k (subst (λ n. k < n) is.count less)).0
