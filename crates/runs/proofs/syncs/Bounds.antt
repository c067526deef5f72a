-- A sync has one bound for as long as it is in progress, and what it awaits then only shrinks.
use Rattle.std.proofs.Common.{◌≡◌, ℕ, suc, ◌<◌, ◌≤◌, true, false, length, take, refl, ap, sym, subst, ◌∙◌, arith, inl}
use Rattle.std.proofs.Common.{inr, ◌⊎◌, Option, Some, None, is_some, nat_le, filter}
use Rattle.std.specs.FinMap as finmap
use Rattle.std.proofs.lemmas.Bool.Decides.{nat_tests}
use Rattle.machine.specs.Awaiting.{Settled}
use Rattle.machine.specs.Laws.{is_live}
use Rattle.machine.specs.State.{State, Sync, awaited}
use Rattle.machine.proofs.steps.Awaited.{Later, later_self, later_on, later_step, shrinks}
use Rattle.machine.proofs.steps.Choices.{some_of}
use Rattle.runs.specs.Runs.{Steps, IsFirst, Run, world_at}
use Rattle.runs.specs.Syncing.{Begin, Begins, Lasts, BoundIs, AwaitsByBound}
use Rattle.runs.specs.World.{World}
use Rattle.runs.proofs.moments.Histories.{core_step}
use Rattle.runs.proofs.moments.Limits.{run_limits}
use Rattle.runs.proofs.moments.Moments.{climb, coupled_at, run_take}
use Rattle.runs.proofs.syncs.SyncProgress.{at, moves_at}
use Rattle.runs.proofs.syncs.SyncRuns.{in_run, first_moment, first_unbound}
use Rattle.runs.proofs.events.Tables.{flight_is}
use Rattle.runs.proofs.syncs.Track.{IsBound, Tracked, move_tracked}

up_to : (k m : ℕ) → k ≤ suc m → (k ≤ m) ⊎ (k ≡ suc m)
up_to k m l = elim (nat_le k m) as (λ b. nat_le k m ≡ b → (k ≤ m) ⊎ (k ≡ suc m))
    [ true ↦ λ e. inl (grind (arith, nat_tests)) | false ↦ λ e. inr (grind (arith, nat_tests)) ] refl

none_some : (o : Option ℕ) (b : ℕ) → o ≡ None → o ≡ Some b → ⊥
none_some o b e k = let a : None ≡ Some b = sym e ∙ k in cc

module _ (w : World) (run : Steps) (first : IsFirst w) (r : Run w run) (a : Begin) where
  abbrev W : ℕ → World
  W k = world_at w run k

  abbrev i : ℕ
  i = a.step

  abbrev Now : ℕ → Sync → Type 0
  Now k y = finmap.get (W k).core.syncs a.number.0 ≡ Some y

  abbrev LastsTo : ℕ → Type 0
  LastsTo k = Lasts w run a k

  tracked : (m : ℕ) → m < length run → (y : Sync) → Now m y → is_some (finmap.get (W (suc m)).core.syncs a.number.0)
      ≡ true → Tracked (W m).core (W (suc m)).core a.number.0 y
  tracked m short y is still =
      let s = at w run first r m short in
      let opened = ((run_limits (take m run) w first (run_take run w m r)).each_sync a.number.0 y is).opened in
      move_tracked (W m) (W (suc m)) a.number.0 y is opened still s.move (moves_at w run first r m s)

  one_sync : (k : ℕ) (y z : Sync) → Now k y → Now k z → y ≡ z
  one_sync k y z b c = let e : Some y ≡ Some z = sym b ∙ c in cc

  -- ---- the bound at the moments up to m

  abbrev Bounded : ℕ → ℕ → Type 0
  Bounded b k = (y : Sync) → LastsTo k → Now k y → BoundIs (W k).core b y.bound

  -- no bound up to now
  abbrev Quiet : ℕ → ℕ → Type 0
  Quiet m k = (y : Sync) → LastsTo k → Now k y → (y.bound ≡ None) × ((W k).core.next ≤ (W m).core.next)

  abbrev Unsettled : ℕ → Type 0
  Unsettled m = LastsTo m × ((k : ℕ) → i < k → k ≤ m → Quiet m k)

  -- it has its bound, or is over
  abbrev HasBound : ℕ → Type 0
  HasBound m = (b : ℕ) × ((k : ℕ) → i < k → k ≤ m → Bounded b k) × ((y : Sync) → LastsTo m → Now m y → y.bound ≡ Some b)

  by_none : (s : State) (b : ℕ) (o : Option ℕ) → o ≡ None → s.next ≤ b → BoundIs s b o
  by_none s b o e l = subst (BoundIs s b) (sym e) l

  by_some : (s : State) (b : ℕ) (o : Option ℕ) → o ≡ Some b → b ≤ s.next → BoundIs s b o
  by_some s b o e l = subst (BoundIs s b) (sym e) (refl, l)

  given : (s : State) (b own : ℕ) (o : Option ℕ) → o ≡ Some own → BoundIs s b o → (own ≡ b) × (own ≤ s.next)
  given s b own o e h = subst (BoundIs s b) e h

  quiet_bounded : (m k : ℕ) → Quiet m k → Bounded (W m).core.next k
  quiet_bounded m k q y l is = let c = q y l is in by_none (W k).core (W m).core.next y.bound c.0 c.1

  fewer : (m : ℕ) → LastsTo (suc m) → LastsTo m
  fewer m l k b c = l k b (omega arith)

  has_bound_next : (m : ℕ) → i < m → m < length run → HasBound m → HasBound (suc m)
  has_bound_next m late short old = (
    old.0,
    (λ k b l. elim (up_to k m l) [
      | inl e ↦ old.1 k b e
      | inr e ↦
          subst (Bounded old.0) (sym e) (λ y l is. let n = next y l is in
          by_some (W (suc m)).core old.0 y.bound n.0 n.1)
    ]),
    λ y l is. (next y l is).0,
  )
    where
      next : (z : Sync) → LastsTo (suc m) → Now (suc m) z → (z.bound ≡ Some old.0) × (old.0 ≤ (W (suc m)).core.next)
      next z l is =
          let x = some_of (finmap.get (W m).core.syncs a.number.0) (l m late (omega arith)) in
          let t = tracked m short x.0 x.1 (ap is_some is) in
          let had = old.2 x.0 (fewer m l) x.1 in
          let low = (given (W m).core old.0 old.0 x.0.bound had (old.1 m late (omega arith) x.0 (fewer m l) x.1)).1 in
          let rises = t.rises in
          let same = one_sync (suc m) z t.now is t.is in (
            ap (λ (y : Sync). y.bound) same ∙ elim t.how [
              | inl u ↦ u.bound ∙ had
              | inr u ↦ elim u [
                | inl v ↦ absurd (none_some x.0.bound old.0 v.was had)
                | inr v ↦ absurd (none_some x.0.bound old.0 v.was had)
              ]
            ],
            omega arith,
          )

  over_next : (m : ℕ) → Unsettled m → is_some (finmap.get (W (suc m)).core.syncs a.number.0) ≡ false → i < m
      → HasBound (suc m)
  over_next m old gone late = (
    (W m).core.next,
    (λ k b l. elim (up_to k m l) [
      | inl e ↦ quiet_bounded m k (old.1 k b e)
      | inr e ↦ subst (Bounded (W m).core.next) (sym e) (λ y l is. absurd (never l))
    ]),
    λ y l is. absurd (never l),
  )
    where
      never : LastsTo (suc m) → ⊥
      never l = let b = l (suc m) (omega arith) (omega arith) in let c = sym b ∙ gone in cc

  module _ (m : ℕ) (late : i < m) (old : Unsettled m) (y : Sync) (is : Now m y)
      (t : Tracked (W m).core (W (suc m)).core a.number.0 y) where
    lasts_on : LastsTo (suc m)
    lasts_on k b l =
        elim (up_to k m l) [
          | inl e ↦ old.0 k b e
          | inr e ↦ subst (λ x. is_some (finmap.get (W x).core.syncs a.number.0) ≡ true) (sym e) (ap is_some t.is)
        ]

    quiet_on : t.now.bound ≡ None → Unsettled (suc m)
    quiet_on none = (
      lasts_on,
      λ k b l. elim (up_to k m l) [
        | inl e ↦ (λ z c here. let q = old.1 k b e z c here in (q.0, (let x = q.1 in let u = t.rises in omega arith)))
        | inr e ↦ subst (Quiet (suc m)) (sym e)
            (λ z c here. (ap (λ (x : Sync). x.bound) (one_sync (suc m) z t.now here t.is) ∙ none, omega arith))
      ],
    )

    settles : IsBound (W m).core (W (suc m)).core y t.now → HasBound (suc m)
    settles x = (
      (W m).core.next,
      (λ k b l. elim (up_to k m l) [
        | inl e ↦ quiet_bounded m k (old.1 k b e)
        | inr e ↦ subst (Bounded (W m).core.next) (sym e)
            (λ z l at_z. by_some (W (suc m)).core (W m).core.next z.bound (now z at_z) t.rises)
      ]),
      λ z l at_z. now z at_z,
    )
      where
        now : (z : Sync) → Now (suc m) z → z.bound ≡ Some (W m).core.next
        now z at_z = ap (λ (v : Sync). v.bound) (one_sync (suc m) z t.now at_z t.is) ∙ x.is

    goes_on : Unsettled (suc m) ⊎ HasBound (suc m)
    goes_on = elim t.how [
      | inl x ↦ inl (quiet_on (x.bound ∙ (old.1 m late (omega arith) y old.0 is).0))
      | inr c ↦ elim c [ inl x ↦ inl (quiet_on x.is) | inr x ↦ inr (settles x) ]
    ]

  unsettled_next : (m : ℕ) → i < m → m < length run → Unsettled m → Unsettled (suc m) ⊎ HasBound (suc m)
  unsettled_next m late short old =
      elim (is_some (finmap.get (W (suc m)).core.syncs a.number.0)) as (λ b. is_some
      (finmap.get (W (suc m)).core.syncs a.number.0) ≡ b → Unsettled (suc m) ⊎ HasBound (suc m)) [
        | true ↦ λ still. (let x = some_of (finmap.get (W m).core.syncs a.number.0) (old.0 m late (omega arith)) in
            goes_on m late old x.0 x.1 (tracked m short x.0 x.1 still))
        | false ↦ λ gone. inr (over_next m old gone late)
      ] refl

  -- ---- to the end of the run

  abbrev Known : ℕ → Type 0
  Known m = Unsettled m ⊎ HasBound m

  known_next : (m : ℕ) → i < m → m < length run → Known m → Known (suc m)
  known_next m late short old =
      elim old [ inl b ↦ unsettled_next m late short b | inr b ↦ inr (has_bound_next m late short b) ]

  bound_at : (m : ℕ) → Known m → (b : ℕ) × ((k : ℕ) → i < k → k ≤ m → Bounded b k)
  bound_at m known =
      elim known [ inl b ↦ ((W m).core.next, λ k l u. quiet_bounded m k (b.1 k l u)) | inr b ↦ (b.0, b.1) ]

  from_begin : (y : Sync) → Now (suc i) y → y.bound ≡ None → Unsettled (suc i)
  from_begin y is none = (
    (λ k b l. subst (λ x. is_some (finmap.get (W x).core.syncs a.number.0) ≡ true) (sym (only k b l))
        (ap is_some is)),
    λ k b l. subst (Quiet (suc i)) (sym (only k b l))
        (λ z c here. (ap (λ (x : Sync). x.bound) (one_sync (suc i) z y here is) ∙ none, omega arith)),
  )
    where
      only : (k : ℕ) → i < k → k ≤ suc i → k ≡ suc i
      only k b l = omega arith

  pub one_bound : Begins run a → (bound : ℕ)
      × ((j : ℕ) (y : Sync) → i < j → j ≤ length run → LastsTo j → Now j y → BoundIs (W j).core bound y.bound)
  one_bound there =
      let short = in_run w run first r a there in
      let q = first_moment w run first r a there in
      let known = climb Known (suc i) (length run) (omega arith) (λ m b l. known_next m (omega arith) l)
      (inl (from_begin q.sync q.is (first_unbound w run first r a there))) in
      let all = bound_at (length run) known in
      (all.0, λ j y after within lasts is_y. all.1 j after within y lasts is_y)

  -- ---- what it awaits from a moment on at which it has its bound

  module _ (there : Begins run a) (j bound : ℕ) (y : Sync) (after : i < j) (is : Now j y)
      (bounded : y.bound ≡ Some bound) where
    -- of the sync as it stands at moment k
    record Since (k : ℕ) : Type 0 where
      pub now : Sync
      pub here : Now k now
      pub later : Later (W j).core (W k).core bound y now

    settled_at : (k : ℕ) (s : Since k) → i < k → k ≤ length run → LastsTo k → Settled (W k).core a.number.0 s.now bound
    settled_at k s late short lasts =
        let own : s.now.bound ≡ Some bound = s.later.like.bound ∙ bounded in
        let one = one_bound there in
        let low = given (W k).core one.0 bound s.now.bound own (one.1 k s.now late short lasts s.here) in
        record {
          is = s.here;
          bounded = own;
          given = low.1;
          serials =
              λ t x e. ((coupled_at w run first r k).good.requests t _
              (flight_is (W k).core.requests (W k).writing t x e)).serial;
          opened = ((run_limits (take k run) w first (run_take run w k r)).each_sync a.number.0 s.now s.here).opened;
        }

    since_next : (k : ℕ) → i < k → (short : k < length run) → LastsTo (suc k) → Since k → Since (suc k)
    since_next k late short lasts s =
        let z = some_of (finmap.get (W (suc k)).core.syncs a.number.0) (lasts (suc k) (omega arith) (omega arith)) in
        record {
          now = z.0;
          here = z.1;
          later = later_on (W j).core (W k).core (W (suc k)).core bound y s.now z.0 s.later
              (elim (core_step (W k) (W (suc k)) (at w run first r k short).move
              (moves_at w run first r k (at w run first r k short))) [
                | inl same ↦ (let e : z.0 ≡ s.now = same_now k s z.0 same z.1 in
                    subst (λ v. Later (W k).core v bound s.now z.0) (sym same)
                    (subst (Later (W k).core (W k).core bound s.now) (sym e) (later_self (W k).core bound s.now)))
                | inr x ↦ later_step (W k).core (W (suc k)).core x.0 x.1 x.2 a.number.0 bound s.now z.0
                    (settled_at k s late (omega arith) (fewer k lasts)) z.1
              ]);
        }
      where
        same_now : (k : ℕ) (s : Since k) (z : Sync) → (W (suc k)).core ≡ (W k).core → Now (suc k) z → z ≡ s.now
        same_now k s z same e = let b : Some z ≡ Some s.now = sym e
            ∙ ap (λ (v : State). finmap.get v.syncs a.number.0) same ∙ s.here in cc

    pub awaits_less : (k : ℕ) (z : Sync) → j ≤ k → k ≤ length run → LastsTo k → Now k z
        → awaited (W k).core z ≡ filter (is_live (W k).core) (awaited (W j).core y)
    awaits_less k z late short lasts at_k =
        let s = climb Since j k late (λ m b l. since_next m (omega arith) (omega arith)
        (λ x c d. lasts x c (omega arith))) (record { now = y; here = is; later = later_self (W j).core bound y }) in
        let same = one_sync k z s.now at_k s.here in
        ap (awaited (W k).core) same ∙ (shrinks (W j).core (W k).core bound y s.now bounded s.later).1

pub awaits_by_bound : AwaitsByBound
awaits_by_bound = record {
  one = λ w run first r a there. one_bound w run first r a there;
  shrinks = λ w run first r a j k y z there after late short lasts is settled at_k.
      (let b = some_of y.bound settled in awaits_less w run first r a there j b.0 y after is b.1 k z late short lasts
      at_k);
}
