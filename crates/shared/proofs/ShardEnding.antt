-- The end of a cache of shards.
use Rattle.std.proofs.Common.{◌≡◌, ◌≢◌, ◌<◌, ◌≤◌, ◌+◌, ◌-◌, ◌++◌, ◌∷◌, [], ◌∙◌, ℕ, List, Option, Some, IfSome, ⊎_elim, ◌⊎◌, length, refl, slice_index_or, subst, sym, ap, arith, true, vec_len}
use Rattle.std.specs.Prelude.{All, Any, map, min, slice_get, take, vec_capacity}
use Rattle.std.specs.List.{AllByRecursion}
use Rattle.std.proofs.lemmas.List.{get_or-take, length-map, length-take-le, nil_from_length, same_from_push, take-take, take_all, take_more}
use Rattle.std.proofs.lemmas.List.Elements.{All-map, All-weaker, recursion_from_All}
use Rattle.std.proofs.lemmas.Option.{slice_get-get_or}
use mathlib.Core.List.{IsPrefix}
use Rattle.blockdev.specs.Device.{Told}
use Rattle.held.specs.Shown.{SeatSeen}
use Rattle.held.specs.Views.{AreOfSeats, count_of}
use Rattle.machine.specs.State.{State}
use Rattle.ring.specs.declared.ring.Ring.{Ring}
use Rattle.shared.proofs.ShardFroms.{from_at}
use Rattle.shared.specs.Keeps.{IsCalledFor, IsDisk, IsLeftBy}
use Rattle.shared.specs.ShardEnds.{ClosesAt, HasAll, HasEndedFrom, IsClosed, IsRoomFor, IsRoomOf}
use Rattle.shared.specs.ShardNames.{CacheNames}
use Rattle.shared.specs.ShardSeats.{AreSeated, IsSeated, no_seat, part}
use Rattle.shared.specs.ShardWorkers.{AllFrom, AreWorkers, IsWorkerAt}
use Rattle.shared.specs.Workers.{Drained, IsWorkerOf}
use Rattle.shared.specs.declared.shards.close.Closed.{Closed}
use Rattle.shared.specs.declared.shards.close.Ends.{Ends}
use Rattle.shared.specs.declared.worker.Worker.{Worker}
use Rattle.trail.specs.History.{After}
use Rattle.trail.specs.declared.entry.Entry.{Entry}

-- ---- rows of seats

pub parts_of_taken : (k : ℕ) (rows : List (List SeatSeen))
    → map (λ row. part row k) (map (take (k + 1)) rows) ≡ map (λ row. part row k) rows
parts_of_taken k [] = refl
parts_of_taken k (row ∷ rows) =
    let under : k < k + 1 = omega arith in
    ap (λ s. s ∷ map (λ r. part r k) (map (take (k + 1)) rows)) (get_or-take (k + 1) row k no_seat under)
    ∙ ap (λ ss. part row k ∷ ss) (parts_of_taken k rows)

pub taken_of_taken : (k : ℕ) (rows : List (List SeatSeen)) → map (take k) (map (take (k + 1)) rows) ≡ map (take k) rows
taken_of_taken k [] = refl
taken_of_taken k (row ∷ rows) =
    let under : k ≤ k + 1 = omega arith in
    ap (λ r. r ∷ map (take k) (map (take (k + 1)) rows)) (take-take k (k + 1) row under)
    ∙ ap (λ rs. take k row ∷ rs) (taken_of_taken k rows)

taken_short : (k : ℕ) (rows : List (List SeatSeen)) → AllByRecursion (λ row. length row ≤ k) rows
    → map (take (k + 1)) rows ≡ map (take k) rows
taken_short k [] h = refl
taken_short k (row ∷ rows) h =
    let over : length row ≤ k + 1 = omega (arith, h.0) in
    ap (λ r. r ∷ map (take (k + 1)) rows) (take_all (k + 1) row over ∙ sym (take_all k row h.0))
    ∙ ap (λ rs. take k row ∷ rs) (taken_short k rows h.1)

-- past the last shard nothing is taken
nothing_taken : (k shards : ℕ) (names : ℕ → CacheNames) (rows : List (List SeatSeen)) → shards ≤ k → All (IsSeated shards names) rows
    → map (take (k + 1)) rows ≡ map (take k) rows
nothing_taken k shards names rows past came =
    taken_short k rows (recursion_from_All (λ row. length row ≤ k) rows
    (All-weaker (IsSeated shards names) (λ row. length row ≤ k)
    (λ row is. let long : length row ≡ shards = is.0 in omega (arith, long, past)) rows came))

pub taken_long : (k shards : ℕ) (names : ℕ → CacheNames) (rows now : List (List SeatSeen)) → k < shards → All (IsSeated shards names) rows
    → now ≡ map (take (k + 1)) rows → All (λ row. length row ≡ k + 1) now
taken_long k shards names rows now less came is =
    subst (λ all. All (λ (row : List SeatSeen). length row ≡ k + 1) all) (sym is)
    (All-map (λ (row : List SeatSeen). length row ≡ k + 1) (take (k + 1)) rows
    (All-weaker (IsSeated shards names) (λ row. length (take (k + 1) row) ≡ k + 1)
    (λ row is. let long : length row ≡ shards = is.0 in length-take-le (k + 1) row (omega (arith, long, less))) rows came))

-- ---- the last worker

taken_last : {X : Type 0} (k : ℕ) (own ws : List X) (w : X) → k < length own → take (k + 1) own ≡ ws ++ w ∷ []
    → (ws ≡ take k own) × (slice_get own k ≡ Some w)
taken_last k own ws w less is =
    let same = same_from_push (take k own) ws (slice_index_or own k w) w (sym (take_more own k w less) ∙ is) in
    (sym same.0, slice_get-get_or own k w less ∙ ap Some same.1)

pub own_worker : (k : ℕ) (names : ℕ → CacheNames) (own workers ws : List Worker) (w : Worker) (ring : Ring) → k < length own
    → AreWorkers names own → workers ≡ take (k + 1) own → workers ≡ ws ++ w ∷ [] → (names k).ring ≡ Some ring
    → IsWorkerOf ring (names k).name (names k).table (names k).deeds (names k).sizes w
own_worker k names own workers ws w ring less are left popped is =
    subst (λ o. IfSome o (λ r. IsWorkerOf r (names k).name (names k).table (names k).deeds (names k).sizes w)) is here
  where
    at : slice_get own k ≡ Some w
    at = (taken_last k own ws w less (sym left ∙ popped)).1

    first : (0 + k) ≡ k
    first = omega arith

    there : slice_index_or own k w ≡ w
    there = let e : Some (slice_index_or own k w) ≡ Some w = sym (slice_get-get_or own k w less) ∙ at in cc

    here : IsWorkerAt (names k) w
    here = subst (λ x. IsWorkerAt (names k) x) there
        (subst (λ j. IsWorkerAt (names j) (slice_index_or own k w)) first (from_at (λ j x. IsWorkerAt (names j) x) 0 k own w are less))

-- ---- a column of seats

-- each is of the shard's cache
column_named : (k shards : ℕ) (names : ℕ → CacheNames) (seats : List (List SeatSeen)) → k < shards → All (IsSeated shards names) seats
    → All (λ s. s.name ≡ (names k).name) (map (λ row. part row k) seats)
column_named k shards names seats less came =
    All-map (λ (s : SeatSeen). s.name ≡ (names k).name) (λ row. part row k) seats
    (All-weaker (IsSeated shards names) (λ row. (part row k).name ≡ (names k).name) (λ row is. is.1 k less) seats came)

pub column_came : (k shards name : ℕ) (names : ℕ → CacheNames) (own : List Worker) (seats : List (List SeatSeen)) (column : List SeatSeen)
    → k < shards → HasAll shards names own seats → name ≡ (names k).name → column ≡ map (λ row. part row k) seats
    → All (λ s. s.name ≡ name → s.table ≡ (names k).table) column
column_came k shards name names own seats column less all named is =
    subst (λ ss. All (λ (s : SeatSeen). s.name ≡ name → s.table ≡ (names k).table) ss) (sym is)
    (All-map (λ (s : SeatSeen). s.name ≡ name → s.table ≡ (names k).table) (λ row. part row k) seats
    (λ j d inside of.
    let long : length (slice_index_or seats j d) ≡ shards = (all.came j d inside).0 in
    all.tables j d inside k (omega (arith, long, less)) (of ∙ named)))

-- so the cache is closed
pub column_whole : (k shards name count : ℕ) (names : ℕ → CacheNames) (own : List Worker) (seats : List (List SeatSeen)) (column : List SeatSeen)
    → k < shards → HasAll shards names own seats → name ≡ (names k).name → column ≡ map (λ row. part row k) seats → count ≡ length column
    → (count + 1 ≢ (names k).seats) ⊎ Any (λ s. s.name ≢ name) column → ⊥
column_whole k shards name count names own seats column less all named is counted wrong = ⊎_elim few other wrong
  where
    few : count + 1 ≢ (names k).seats → ⊥
    few not =
        let came : (names k).seats ≡ length seats + 1 = all.callers k less in
        let long : length column ≡ length seats = ap length is ∙ length-map seats (λ row. part row k) in
        let same : count + 1 ≡ (names k).seats = omega (arith, came, long, counted) in
        not same

    other : Any (λ s. s.name ≢ name) column → ⊥
    other any =
        let there : All (λ s. s.name ≡ (names k).name) column =
        subst (All (λ s. s.name ≡ (names k).name)) (sym is) (column_named k shards names seats less all.came) in
        any.4 (ap (λ (s : SeatSeen). s.name) (sym any.3) ∙ there any.0 any.1 any.2 ∙ sym named)

-- what a cache leaves at its end
pub closed_as : (n : CacheNames) (own : Worker) (column seats : List SeatSeen) (records : List Entry → Type 0) (cache : Option ℕ)
    (core : State) (device : Told) (name : ℕ) → name ≡ n.name → column ≡ seats → IsDisk n.sizes device
    → (core.name ≡ name) × (core.sizes ≡ n.sizes)
    → (history : List Entry) × records history × (cache ≡ Some name) × After n.files core.sizes core.name history core
    × Drained own history core × All (λ s. IsPrefix s.list history × (s.count ≡ count_of s.number history)) column
    × (n.told ≡ true → IsLeftBy n.files n.sizes n.name n.blocks history core device) × IsCalledFor n.calls history core device
    × AreOfSeats n.seats history
    → IsClosed n own seats records cache core device
closed_as n own column seats records cache core device name named same disk core_is p = record {
  named = core_is.0 ∙ named;
  sized = core_is.1;
  disk = disk;
  history = p.0;
  recorded = p.1;
  of = p.2 ∙ ap Some named;
  leaves =
      subst (λ c. After n.files n.sizes c p.0 core) (core_is.0 ∙ named) (subst (λ s. After n.files s core.name p.0 core) core_is.1 p.3);
  drained = p.4;
  seen = subst (All (λ s. IsPrefix s.list p.0 × (s.count ≡ count_of s.number p.0))) same p.5;
  left = p.6;
  called = p.7;
  others = p.8;
}

-- ---- one shard after another, the last first

pub all_there : (shards count : ℕ) (names : ℕ → CacheNames) (own : List Worker) (seats : List (List SeatSeen)) → count ≡ length seats
    → (length own ≡ shards) × AreWorkers names own → ((k : ℕ) → k < shards → (names k).seats ≡ count + 1) → All (IsSeated shards names) seats
    → All (AreSeated names) seats → HasAll shards names own seats
all_there shards count names own seats counted are callers came tables = record {
  workers = are;
  callers = λ k less. callers k less ∙ ap (λ n. n + 1) counted;
  came = came;
  tables = tables;
}

module _ (k shards : ℕ) (names : ℕ → CacheNames) {D T : Type 0} (records : T → List Entry → Type 0) (cache : T → Option ℕ)
    (told : D → Told) (own : List Worker) (seats : List (List SeatSeen)) where
  -- none has ended yet
  pub none_ended_yet : (workers : List Worker) (ends : Ends D T) (callers : ℕ) → shards ≤ k → HasAll shards names own seats
      → workers ≡ own → callers ≡ length seats → IsRoomFor shards callers ends
      → HasEndedFrom k shards names records cache told own seats workers seats ends
  none_ended_yet workers ends callers past all same counted room = record {
    workers = same ∙ sym (take_all k own (omega (arith, all.workers.0, past)));
    rows = whole seats (recursion_from_All (λ row. length row ≤ k) seats
        (All-weaker (IsSeated shards names) (λ row. length row ≤ k)
        (λ row is. let long : length row ≡ shards = is.0 in omega (arith, long, past)) seats all.came));
    columns = (
      omega (arith, room.columns.0, past),
      subst (λ n. All (IsRoomOf n) ends.columns.items) counted room.columns.1,
    );
    closed = subst (AllFrom (ClosesAt names records cache told own seats) k) (sym room.closed.0) tt;
    count = omega (arith, ends.closed.ok.0, ap length room.closed.0, past);
    spare = room.closed.1;
  }
    where
      whole : (rows : List (List SeatSeen)) → AllByRecursion (λ row. length row ≤ k) rows → rows ≡ map (take k) rows
      whole [] h = refl
      whole (row ∷ rows) h =
          ap (λ r. r ∷ rows) (sym (take_all k row h.0)) ∙ ap (λ rs. take k row ∷ rs) (whole rows h.1)

  -- there is no such shard
  pub no_such_shard : (workers : List Worker) (rows : List (List SeatSeen)) (ends : Ends D T) → shards ≤ k → HasAll shards names own seats
      → HasEndedFrom (k + 1) shards names records cache told own seats workers rows ends
      → HasEndedFrom k shards names records cache told own seats workers rows ends
  no_such_shard workers rows ends past all ended = record {
    workers = ended.workers ∙ (take_all (k + 1) own longer ∙ sym (take_all k own long));
    rows = ended.rows ∙ nothing_taken k shards names seats past all.came;
    columns = (ended.columns.0 ∙ least, ended.columns.1);
    closed = subst (AllFrom (ClosesAt names records cache told own seats) k) (sym none) tt;
    count = ended.count ∙ gone;
    spare = ended.spare;
  }
    where
      long : length own ≤ k
      long = omega (arith, all.workers.0, past)

      longer : length own ≤ k + 1
      longer = omega (arith, long)

      least : min shards (k + 1) ≡ min shards k
      least = omega (arith, past)

      gone : shards - (k + 1) ≡ shards - k
      gone = omega (arith, past)

      none : ends.closed.items ≡ []
      none = nil_from_length ends.closed.items (omega (arith, ends.closed.ok.0, ended.count, past))

  -- the shard's cache has ended
  pub one_more_ended : (workers ws : List Worker) (rows rest : List (List SeatSeen)) (w : Worker) (c : Closed D T) (ends after : Ends D T)
      → k < shards → HasAll shards names own seats
      → HasEndedFrom (k + 1) shards names records cache told own seats workers rows ends
      → workers ≡ ws ++ w ∷ []
      → (vec_len after.columns + 1 ≡ vec_len ends.columns)
      × All (IsRoomOf (length seats)) after.columns.items
      → rest ≡ map (take k) rows → after.closed.items ≡ c ∷ ends.closed.items → vec_capacity ends.closed ≤ vec_capacity after.closed
      → IsClosed (names k) w (map (λ row. part row k) rows) (records c.trail) (cache c.trail) c.core.state (told c.device)
      → HasEndedFrom k shards names records cache told own seats ws rest after
  one_more_ended workers ws rows rest w c ends after less all ended popped columns left closed room is = record {
    workers = last.0;
    rows = left ∙ (ap (map (take k)) ended.rows ∙ taken_of_taken k seats);
    columns = (one_less, columns.1);
    closed = subst (AllFrom (ClosesAt names records cache told own seats) k) (sym closed) ((w, last.1, here), ended.closed);
    count = counted;
    spare = omega (arith, ended.spare, room);
  }
    where
      inside : k < length own
      inside = omega (arith, all.workers.0, less)

      last : (ws ≡ take k own) × (slice_get own k ≡ Some w)
      last = taken_last k own ws w inside (sym ended.workers ∙ popped)

      one_less : vec_len after.columns ≡ min shards k
      one_less = omega (arith, columns.0, ended.columns.0, less)

      counted : vec_len after.closed ≡ shards - k
      counted = omega (arith, after.closed.ok.0, ap length closed, ends.closed.ok.0, ended.count, less)

      column : map (λ row. part row k) rows ≡ map (λ row. part row k) seats
      column = ap (map (λ row. part row k)) ended.rows ∙ parts_of_taken k seats

      here : IsClosed (names k) w (map (λ row. part row k) seats) (records c.trail) (cache c.trail) c.core.state (told c.device)
      here = subst (λ ss. IsClosed (names k) w ss (records c.trail) (cache c.trail) c.core.state (told c.device)) column is

-- as many callers came as have seats
pub callers_same : (shards callers count : ℕ) (names : ℕ → CacheNames) → 0 < shards → ((k : ℕ) → k < shards → (names k).seats ≡ callers + 1)
    → ((k : ℕ) → k < shards → (names k).seats ≡ count + 1) → callers ≡ count
callers_same shards callers count names some seated came = omega (arith, seated 0 some, came 0 some)

pub room_same : {D T : Type 0} (ends : Ends D T) (shards callers count : ℕ) → callers ≡ count → IsRoomFor shards callers ends
    → IsRoomFor shards count ends
room_same ends shards callers count same room = subst (λ n. IsRoomFor shards n ends) same room
