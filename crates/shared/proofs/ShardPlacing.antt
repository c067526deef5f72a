-- The places of shards, filled from the last to the first.
use Rattle.std.proofs.Common.{◌≡◌, ◌<◌, ◌≤◌, ◌+◌, ◌-◌, ◌++◌, ◌∷◌, [], ◌∙◌, ℕ, List, length, min, nat_lt, subst, sym, ap, arith, take, None, Some, slice_get, slice_index_or}
use Rattle.std.specs.Prelude.{All, IfSome, if◌then◌else◌}
use Rattle.std.proofs.lemmas.Bool.Decides.{nat_tests}
use Rattle.std.proofs.lemmas.List.{nil_from_length, get_or-take}
use Rattle.std.proofs.lemmas.List.Elements.{All-nil, All-push}
use Rattle.shared.specs.ShardNames.{CacheNames, names_at, no_names}
use Rattle.shared.specs.ShardWorkers.{AllFrom, IsWorkerAt}
use Rattle.shared.specs.Workers.{IsWorkerOf}
use Rattle.ring.specs.declared.ring.Ring.{Ring}
use Rattle.shared.specs.declared.worker.Worker.{Worker}

-- none, whatever they are counted from
pub none_from : {X : Type 0} (P : ℕ → X → Type 0) (k : ℕ) (xs : List X) → length xs ≡ 0 → AllFrom P k xs
none_from P k xs none = subst (AllFrom P k) (sym (nil_from_length xs none)) tt

-- a worker of a cache of this ring is one of the cache of these names
pub worker_at : (n : CacheNames) (ring now : Ring) (w : Worker) → n.ring ≡ Some ring → now ≡ ring
    → IsWorkerOf now n.name n.table n.deeds n.sizes w → IsWorkerAt n w
worker_at n ring now w is same works =
    subst (λ o. IfSome o (λ r. IsWorkerOf r n.name n.table n.deeds n.sizes w)) (sym is)
    (subst (λ r. IsWorkerOf r n.name n.table n.deeds n.sizes w) same works)

-- the parts that are left are named as before
pub named_before : (names : ℕ → CacheNames) (n m : ℕ) (before after : List CacheNames) → after ≡ take (n - 1) before → m + 1 ≡ n
    → ((k : ℕ) → k < n → names k ≡ names_at before k) → (k : ℕ) → k < m → names k ≡ names_at after k
named_before names n m before after is one named k less =
    named k (omega arith) ∙ sym (ap (λ all. names_at all k) is ∙ get_or-take (n - 1) before k no_names (omega arith))

-- the last of the parts are the shard's
pub named_last : (names : ℕ → CacheNames) (k n : ℕ) (parts : List CacheNames) (one : CacheNames) → n ≡ k + 1
    → Some one ≡ Some (slice_index_or parts (n - 1) no_names) → ((j : ℕ) → j < n → names j ≡ names_at parts j) → names k ≡ one
named_last names k n parts one long is named =
    let at : n - 1 ≡ k = omega arith in
    let same : one ≡ slice_index_or parts (n - 1) no_names = cc in
    named k (omega arith) ∙ sym (same ∙ ap (λ j. names_at parts j) at)

-- a place of no shard has no cache
pub none_is : {X : Type 0} (k shards n m : ℕ) (xs : List X) → n ≡ length xs → xs ≡ [] → m ≡ min shards (k + 1) → m ≤ k
    → n ≡ (if nat_lt k shards then 1 else 0)
none_is k shards n m xs count none left over =
    let empty : n ≡ 0 = count ∙ ap length none in
    let past : shards ≤ k = omega arith in
    grind (arith, nat_tests)

-- and one of a shard has one
pub one_is : (k shards n : ℕ) → n ≡ 1 → k < shards → n ≡ (if nat_lt k shards then 1 else 0)
one_is k shards n one less = grind (arith, nat_tests)

-- a place that has no cache is of no shard
pub none_there : {X : Type 0} (k shards : ℕ) (caches : List X) → length caches ≡ (if nat_lt k shards then 1 else 0)
    → slice_get caches 0 ≡ None → k < shards → ⊥
none_there k shards [] there none less = grind (arith, nat_tests)
none_there k shards (x ∷ xs) there none less = cc

-- what holds of the one
pub all_of_one : {X : Type 0} (xs ys : List X) (x : X) → ys ≡ xs ++ x ∷ [] → xs ≡ [] → (P : X → Type 0) → P x → All P ys
all_of_one xs ys x is none P p = subst (All P) (sym (is ∙ ap (λ zs. zs ++ x ∷ []) none)) (All-push P [] x (All-nil P) p)

-- ---- at first all parts are left

pub left_first : (shards n : ℕ) (all items : List CacheNames) → shards ≡ length all → items ≡ all → n ≡ length items → n ≤ 16
    → n ≡ min shards 16
left_first shards n all items long is count few =
    let same : n ≡ shards = count ∙ ap length is ∙ sym long in
    omega arith

pub named_first : (names : ℕ → CacheNames) (n : ℕ) (all items : List CacheNames) → items ≡ all → n ≡ length items
    → ((k : ℕ) → k < length all → names k ≡ names_at all k) → (k : ℕ) → k < n → names k ≡ names_at items k
named_first names n all items is count named k less =
    let same : n ≡ length all = count ∙ ap length is in
    named k (omega arith) ∙ sym (ap (λ xs. names_at xs k) is)

pub none_first : (shards n m : ℕ) (all items : List CacheNames) (workers : List Worker) → shards ≡ length all → items ≡ all
    → n ≡ length items → n ≤ 16 → workers ≡ [] → m ≡ length workers → m ≡ shards - 16
none_first shards n m all items workers long is count few none made =
    let same : n ≡ shards = count ∙ ap length is ∙ sym long in
    let empty : m ≡ 0 = made ∙ ap length none in
    omega arith

pub seats_each : (names : ℕ → CacheNames) (shards callers : ℕ) (all items : List CacheNames) → shards ≡ length all → items ≡ all
    → ((k : ℕ) → k < length all → names k ≡ names_at all k) → All (λ (n : CacheNames). n.seats ≡ callers + 1) items
    → (k : ℕ) → k < shards → (names k).seats ≡ callers + 1
seats_each names shards callers all items long is named each k less =
    let under : k < length all = subst (λ n. k < n) long less in
    let within : k < length items = subst (λ n. k < n) (sym (ap length is)) under in
    ap (λ (n : CacheNames). n.seats) (named k under ∙ sym (ap (λ xs. names_at xs k) is)) ∙ each k no_names within
