-- A caller's workers, made shard by shard.
use Rattle.std.proofs.Common.{◌≡◌, ◌<◌, ◌≤◌, ◌+◌, ◌++◌, ◌∷◌, [], ◌∙◌, ℕ, zero, suc, List, length, slice_index_or, slice_set, refl, subst, sym, ap, arith}
use Rattle.std.specs.Prelude.{if◌then◌else◌, map, nat_lt}
use Rattle.std.proofs.lemmas.Bool.Decides.{nat_tests}
use Rattle.std.proofs.lemmas.List.{append_assoc, get_or_append_left, length-set}
use Rattle.held.specs.Shown.{SeatSeen}
use Rattle.shared.proofs.ShardFroms.{from_set}
use Rattle.shared.specs.ShardNames.{CacheNames}
use Rattle.shared.specs.ShardSeats.{no_seat, part}
use Rattle.shared.specs.ShardWorkers.{AreWorkers, HasMadeOne, HaveMadeFrom, IsMadeBy, IsWorkerAt}
use Rattle.shared.specs.Workers.{seat_of}
use Rattle.shared.specs.declared.worker.Worker.{Worker}

-- how many caches a place has says whether there is such a shard
pub no_shard : (k shards caches : ℕ) → caches ≡ (if nat_lt k shards then 1 else 0) → caches ≤ 0 → shards ≤ k
no_shard k shards caches there none = grind (arith, nat_tests)

pub some_shard : (k shards caches : ℕ) → caches ≡ (if nat_lt k shards then 1 else 0) → 0 < caches → k < shards
some_shard k shards caches there some = grind (arith, nat_tests)

-- the shard's own worker comes back
pub workers_after : (k shards : ℕ) (names : ℕ → CacheNames) (now inside : List Worker) (new : Worker) → inside ≡ now → k < shards
    → (length now ≡ shards) × AreWorkers names now → IsWorkerAt (names k) new
    → (length (slice_set inside k new) ≡ shards) × AreWorkers names (slice_set inside k new)
workers_after k shards names now inside new same less are is =
    subst (λ ws. (length (slice_set ws k new) ≡ shards) × AreWorkers names (slice_set ws k new)) (sym same) (
      length-set now k new ∙ are.0,
      from_set (λ j w. IsWorkerAt (names j) w) 0 k now new are.1 within here,
    )
  where
    within : k < length now
    within = omega (arith, are.0, less)

    first : k ≡ 0 + k
    first = omega arith

    here : IsWorkerAt (names (0 + k)) new
    here = subst (λ j. IsWorkerAt (names j) new) first is

-- a seat that is left after the last went
pub part_left : (k : ℕ) (old new : List SeatSeen) (s : SeatSeen) → old ≡ new ++ s ∷ [] → k < length new → part new k ≡ part old k
part_left k old new s is less = sym (ap (λ seats. part seats k) is ∙ get_or_append_left new (s ∷ []) no_seat k less)

-- the seats that are left, and those that the workers have
pub seats_same : (old new : List SeatSeen) (s : SeatSeen) (before after : List Worker) (w : Worker) → old ≡ new ++ s ∷ []
    → after ≡ w ∷ before → seat_of w ≡ s → new ++ map seat_of after ≡ old ++ map seat_of before
seats_same old new s before after w popped added of =
    ap (λ ws. new ++ map seat_of ws) added ∙ ap (λ x. new ++ x ∷ map seat_of before) of
    ∙ sym (append_assoc new (s ∷ []) (map seat_of before)) ∙ ap (λ seats. seats ++ map seat_of before) (sym popped)

-- ---- of each own worker one is made, from the last shard to the first

-- none has made one yet
pub none_made_yet : (k : ℕ) (own made : List Worker) → length own ≤ k → made ≡ [] → HaveMadeFrom k own own made
none_made_yet zero [] made few none = subst (HaveMadeFrom zero [] []) (sym none) (tt, tt)
none_made_yet zero (w ∷ ws) made few none = absurd (omega (arith, few))
none_made_yet (suc k) [] made few none = none
none_made_yet (suc k) (w ∷ ws) made few none = (refl, none_made_yet k ws made (omega (arith, few)) none)

past_last : (k : ℕ) (first own made : List Worker) → length own ≤ k → HaveMadeFrom (suc k) first own made → HaveMadeFrom k first own made
past_last zero [] [] made past so_far = subst (HaveMadeFrom zero [] []) (sym so_far) (tt, tt)
past_last zero [] (w ∷ ws) made past so_far = absurd so_far
past_last zero (v ∷ vs) [] made past so_far = absurd so_far
past_last zero (v ∷ vs) (w ∷ ws) made past so_far = absurd (omega (arith, past))
past_last (suc k) [] [] made past so_far = so_far
past_last (suc k) [] (w ∷ ws) made past so_far = absurd so_far
past_last (suc k) (v ∷ vs) [] made past so_far = absurd so_far
past_last (suc k) (v ∷ vs) (w ∷ ws) made past so_far = (so_far.0, past_last k vs ws made (omega (arith, past)) so_far.1)

-- there is no such shard
pub none_made_past : (k : ℕ) (first own made : List Worker) → length own ≤ k → HaveMadeFrom (k + 1) first own made
    → HaveMadeFrom k first own made
none_made_past k first own made past so_far =
    let next : k + 1 ≡ suc k = omega arith in
    past_last k first own made past (subst (λ n. HaveMadeFrom n first own made) next so_far)

make_one : (k : ℕ) (first own made : List Worker) (old new w : Worker) → k < length own → old ≡ slice_index_or own k old
    → HasMadeOne old new → IsMadeBy old w → HaveMadeFrom (suc k) first own made → HaveMadeFrom k first (slice_set own k new) (w ∷ made)
make_one k [] [] made old new w less is has of so_far = absurd (omega (arith, less))
make_one k [] (o ∷ os) made old new w less is has of so_far = absurd so_far
make_one k (v ∷ vs) [] made old new w less is has of so_far = absurd so_far
make_one zero (v ∷ vs) (o ∷ os) made old new w less is has of so_far =
    let same : old ≡ v = is ∙ so_far.0 in (
      (subst (λ x. HasMadeOne x new) same has, so_far.1.0),
      (subst (λ x. IsMadeBy x w) same of, so_far.1.1),
    )
make_one (suc k) (v ∷ vs) (o ∷ os) made old new w less is has of so_far =
    (so_far.0, make_one k vs os made old new w (omega (arith, less)) is has of so_far.1)

-- the shard's own worker, which was lent, has made one
pub one_more_made : (k : ℕ) (first now inside made after : List Worker) (old new w : Worker) → inside ≡ now → k < length now
    → old ≡ slice_index_or inside k old → after ≡ w ∷ made → HasMadeOne old new → IsMadeBy old w → HaveMadeFrom (k + 1) first now made
    → HaveMadeFrom k first (slice_set inside k new) after
one_more_made k first now inside made after old new w same less is added has of so_far =
    let next : k + 1 ≡ suc k = omega arith in
    let within : k < length inside = subst (λ ws. k < length ws) (sym same) less in
    let here : HaveMadeFrom (suc k) first inside made =
    subst (λ ws. HaveMadeFrom (suc k) first ws made) (sym same) (subst (λ n. HaveMadeFrom n first now made) next so_far) in
    subst (HaveMadeFrom k first (slice_set inside k new)) (sym added) (make_one k first inside made old new w within is has of here)
