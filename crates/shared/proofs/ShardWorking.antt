-- What a call in one shard leaves of a caller's workers.
use Rattle.std.proofs.Common.{◌≡◌, ◌<◌, ◌+◌, ◌∙◌, ℕ, List, length, slice_index_or, slice_set, refl, subst, sym, ap, arith}
use Rattle.std.specs.Prelude.{map}
use Rattle.std.proofs.lemmas.List.{get_or-map, length-map, map-set}
use Rattle.std.proofs.lemmas.Option.{slice_get_read}
use Rattle.held.specs.Called.{Goes}
use Rattle.shared.proofs.ShardFroms.{from_at, from_set}
use Rattle.shared.proofs.ShardSeated.{seated_after}
use Rattle.shared.specs.ShardNames.{CacheNames}
use Rattle.shared.specs.ShardSeats.{AreSeated}
use Rattle.shared.specs.ShardWorkers.{AreWorkers, IsWorkerAt, WorksAt}
use Rattle.shared.specs.Workers.{seat_of}
use Rattle.shared.specs.declared.worker.Worker.{Worker}

-- the worker that is lent
pub lent : (names : ℕ → CacheNames) (now inside : List Worker) (k : ℕ) (own : Worker) → inside ≡ now → k < length inside
    → own ≡ slice_index_or inside k own → AreWorkers names now → IsWorkerAt (names k) own
lent names now inside k own same less is all =
    let less' : k < length now = subst (λ ws. k < length ws) same less in
    let here : own ≡ slice_index_or now k own = is ∙ ap (λ ws. slice_index_or ws k own) same in
    let from : 0 + k ≡ k = omega arith in
    subst (λ n. IsWorkerAt (names n) own) from
    (subst (IsWorkerAt (names (0 + k))) (sym here) (from_at (λ n w. IsWorkerAt (names n) w) 0 k now own all less'))

-- what the call says of it
pub worked : (P : Worker → Worker → Type 0) (now inside : List Worker) (k : ℕ) (own new : Worker) → inside ≡ now → k < length inside
    → own ≡ slice_index_or inside k own → P own new → WorksAt k P now (slice_set inside k new)
worked P now inside k own new same less is p =
    let less' : k < length now = subst (λ ws. k < length ws) same less in
    let here : own ≡ slice_index_or now k own = is ∙ ap (λ ws. slice_index_or ws k own) same in
    (own, new, slice_get_read now (length now) k own refl less' here, ap (λ ws. slice_set ws k new) same, p)

-- a worker comes back
pub given_back : (names : ℕ → CacheNames) (now inside : List Worker) (k : ℕ) (new : Worker) → inside ≡ now → k < length inside
    → AreWorkers names now → IsWorkerAt (names k) new → AreWorkers names (slice_set inside k new)
given_back names now inside k new same less all is =
    let from : k ≡ 0 + k = omega arith in
    from_set (λ n w. IsWorkerAt (names n) w) 0 k inside new (subst (AreWorkers names) (sym same) all) less
    (subst (λ n. IsWorkerAt (names n) new) from is)

-- its seat went on, so the workers' seats are of the caches as before
pub seated_working : (names : ℕ → CacheNames) (now inside : List Worker) (k : ℕ) (own new : Worker) → inside ≡ now → k < length inside
    → own ≡ slice_index_or inside k own → Goes (seat_of own) (seat_of new) → AreSeated names (map seat_of now)
    → AreSeated names (map seat_of (slice_set inside k new))
seated_working names now inside k own new same less is goes seated =
    let within : k < length (map seat_of inside) = subst (λ n. k < n) (sym (length-map inside seat_of)) less in
    let at : seat_of own ≡ slice_index_or (map seat_of inside) k (seat_of own) =
    ap seat_of is ∙ sym (get_or-map seat_of inside k own (seat_of own) less) in
    subst (AreSeated names) (sym (map-set seat_of inside k new))
    (seated_after names (map seat_of now) (map seat_of inside) k (seat_of own) (seat_of new) (ap (map seat_of) same) within at seated goes)
