-- Each step keeps the rule of the ring.
use Rattle.std.proofs.Common.{◌≡◌, ◌≢◌, ℕ, zero, suc, ◌<◌, ◌≤◌, ◌⊎◌, inl, inr, true, false, true≢false, List, [], ◌∷◌, ◌++◌, length, set, All, sym, refl, ap, ◌∙◌, subst, ⊎_elim, append_assoc, append-nil, length-set, length-append, arith, ◌+◌}
use Rattle.std.proofs.lemmas.List.Elements.{All-append, All-cons, All-head, All-nil, All-tail}
use mathlib.Core.Option.{some, some-injective, some-ne-none}
use lib.ListN.{get_elem?}
use Rattle.atomic_table.specs.Seated.{TableId}
use Rattle.deeds.specs.Shown.{ParcelSeen}
use Rattle.crossbeam_queue.specs.Fifo.{Forks, Learns}
use Rattle.crossbeam_queue.specs.Fifo as fifo
use Rattle.crossbeam_queue.proofs.Lists.{at_set}
use Rattle.crossbeam_queue.specs.Passes.{Pass, view}
use Rattle.ring.specs.declared.log.Log.{Log}
use Rattle.ring.specs.Serving.{IsSampleFor, Carries}
use Rattle.ring.specs.Order.{IsParcelFor, log, start, seeded, opened, accompanied, with_pushed, with_popped, jobs, pick, of, InUse, Ruled, Stands, Enqueues, Dequeues}

only : (a v : Log) (port : ℕ) → get_elem? (a ∷ []) port ≡ some v → (a ≡ v) × ((w : Log) → set (a ∷ []) port w ≡ w ∷ [])
only a v zero e = (some-injective a v e, λ w. refl)
only a v (suc port) e = absurd (some-ne-none v (sym e))

-- of a ring whose only pass is a, that pass is seen, and its step leaves it alone
only_view : (a v : Log) (views : List Log) (port : ℕ) → views ≡ a ∷ [] → get_elem? views port ≡ some v → (a ≡ v) × ((w : Log) → set views port w ≡ w ∷ [])
only_view a v views port is at = let r = only a v port (ap (λ l. get_elem? l port) (sym is) ∙ at) in (r.0, λ w. ap (λ l. set l port w) is ∙ r.1 w)

stages : (a v : Log) → a ≡ v → a.stage ≡ v.stage
stages a v e = ap (λ (y : Log). y.stage) e

pick_same : (i : ℕ) (x : ParcelSeen) → pick i i x ≡ x ∷ []
pick_same zero x = refl
pick_same (suc i) x = pick_same i x

pick_other : (i j : ℕ) (x : ParcelSeen) → i ≢ j → pick i j x ≡ []
pick_other zero zero x n = absurd (n refl)
pick_other zero (suc j) x n = refl
pick_other (suc i) zero x n = refl
pick_other (suc i) (suc j) x n = pick_other i j x (λ e. n (ap suc e))

of_snoc : (i j : ℕ) (x : ParcelSeen) (es : List (ℕ × ParcelSeen)) → of i (es ++ (j, x) ∷ []) ≡ of i es ++ pick i j x
of_snoc i j x [] = append-nil (pick i j x)
of_snoc i j x (e ∷ es) = ap (λ l. pick i e.0 e.1 ++ l) (of_snoc i j x es) ∙ sym (append_assoc (pick i e.0 e.1) (of i es) (pick i j x))

of_same : (i : ℕ) (x : ParcelSeen) (es : List (ℕ × ParcelSeen)) → of i (es ++ (i, x) ∷ []) ≡ of i es ++ x ∷ []
of_same i x es = of_snoc i i x es ∙ ap (λ l. of i es ++ l) (pick_same i x)

of_other : (i j : ℕ) (x : ParcelSeen) (es : List (ℕ × ParcelSeen)) → i ≢ j → of i (es ++ (j, x) ∷ []) ≡ of i es
of_other i j x es n = of_snoc i j x es ∙ ap (λ l. of i es ++ l) (pick_other i j x n) ∙ append-nil (of i es)

jobs_snoc : (j : ℕ) (x : ParcelSeen) (es : List (ℕ × ParcelSeen)) → jobs (es ++ (j, x) ∷ []) ≡ jobs es ++ x ∷ []
jobs_snoc j x [] = refl
jobs_snoc j x (e ∷ es) = ap (λ l. e.1 ∷ l) (jobs_snoc j x es)

below : (l : List Log) (i : ℕ) (v : Log) → get_elem? l i ≡ some v → i < length l
below [] i v e = absurd (some-ne-none v (sym e))
below (a ∷ l) zero v e = omega arith
below (a ∷ l) (suc i) v e = let r = below l i v e in omega arith

beyond : (l : List Log) (i port : ℕ) (v w : Log) → get_elem? l port ≡ some v → length (set l port w) ≤ i → (length l ≤ i) × (i ≢ port)
beyond l i port v w at le = let b = below l port v at in let e = length-set l port w in (omega arith, λ (is : i ≡ port). absurd (omega arith))

at_end : (l : List Log) (a b : Log) (j : ℕ) → get_elem? (l ++ a ∷ []) j ≡ some b → (get_elem? l j ≡ some b) ⊎ ((j ≡ length l) × (a ≡ b))
at_end [] a b zero e = inr (refl, some-injective a b e)
at_end [] a b (suc j) e = absurd (some-ne-none b (sym e))
at_end (x ∷ xs) a b zero e = inl e
at_end (x ∷ xs) a b (suc j) e = ⊎_elim (λ p. inl p) (λ (p : (j ≡ length xs) × (a ≡ b)). inr (ap suc p.0, p.1)) (at_end xs a b j e)

-- of a ring with one pass, each number is its
one_place : (views : List Log) (i j : ℕ) (v w : Log) → length views ≡ 1 → get_elem? views i ≡ some v → get_elem? views j ≡ some w → i ≡ j
one_place views i j v w one a b = let p = below views i v a in let q = below views j w b in omega arith

in_use : (v : Log) (items : List ParcelSeen) (views : List Log) (port : ℕ) → v.stage ≡ 2 → Ruled items views → get_elem? views port ≡ some v → InUse items views
in_use v items views port two h at = ⊎_elim
    (λ (n : (items ≡ []) × (views ≡ start ∷ [])). let e : 0 ≡ v.stage = stages start v (only_view start v views port n.1 at).0 in absurd (omega arith))
    (λ r. ⊎_elim
    (λ (s : (sample : ParcelSeen) × (items ≡ sample ∷ []) × (views ≡ seeded sample ∷ [])). let e : 1 ≡ v.stage = stages (seeded s.0) v (only_view (seeded s.0) v views port s.2 at).0 in absurd (omega arith))
    (λ u. u) r) h

stood : (v : Log) (items : List ParcelSeen) (views : List Log) (port : ℕ) → InUse items views → get_elem? views port ≡ some v → Stands v items
stood v items views port u at = let kept = u.6 in let mine = kept.passes port v at in record {
  one_order = (port, u.4, u.5, kept.order, ap (λ (y : Log). y.pushed) mine, ap (λ (y : Log). y.popped) mine);
  alone = λ a. let k = kept.alone port v at a in k.1 ∙ kept.order ∙ ap (λ l. l ++ items) (sym k.2);
}

pub stands : (port : ℕ) (v : Log) → v.stage ≡ 2 → Learns Ruled port v (Stands v)
stands port v two items views h at = stood v items views port (in_use v items views port two h at) at

-- a view of pass i, in a ring for these jobs with these histories
abbrev Tells : ℕ → ℕ → ℕ → TableId → List (ℕ × ParcelSeen) → List (ℕ × ParcelSeen) → ℕ → Log → Type 0
Tells c b p t ps gs i y = y ≡ log 2 y.alone y.made y.depth c b p t (of i ps) (of i gs)

told_at : (c b p : ℕ) (t : TableId) (ps gs : List (ℕ × ParcelSeen)) (i port : ℕ) (w y : Log) → i ≡ port → w ≡ y → Tells c b p t ps gs port w → Tells c b p t ps gs i y
told_at c b p t ps gs i port w y is same s = subst (λ (j : ℕ). Tells c b p t ps gs j y) (sym is) (subst (λ (z : Log). Tells c b p t ps gs port z) same s)

pub pushes : (n port : ℕ) (v : Log) (x : ParcelSeen) → n ≡ 64 → v.stage ≡ 2 → IsParcelFor v.cache v.blocks v.page v.table x → fifo.Pushes Ruled n port v x (Enqueues v x)
pushes n port v x places two fits items views room h at = let u = in_use v items views port two h at in let c = u.0 in let b = u.1 in let p = u.2 in let t = u.3 in let ps = u.4 in let gs = u.5 in let kept = u.6 in
    let w : Log = with_pushed v x in let mine = kept.passes port v at in
    let same : Tells c b p t (ps ++ (port, x) ∷ []) gs port w = ap (λ y. with_pushed y x) mine ∙ ap (λ l. log 2 v.alone v.made v.depth c b p t l (of port gs)) (sym (of_same port x ps)) in
    let fit : IsParcelFor c b p t x = subst (λ (y : Log). IsParcelFor y.cache y.blocks y.page y.table x) mine fits in (
      w,
      inr (inr (
        c,
        b,
        p,
        t,
        ps ++ (port, x) ∷ [],
        gs,
        record {
          order = jobs_snoc port x ps ∙ ap (λ l. l ++ x ∷ []) kept.order ∙ append_assoc (jobs gs) items (x ∷ []);
          fit = All-append (IsParcelFor c b p t) items (x ∷ []) kept.fit (All-cons (IsParcelFor c b p t) x [] fit (All-nil (IsParcelFor c b p t)));
          passes = λ i y e. ⊎_elim
              (λ (q : (i ≡ port) × (w ≡ y)). told_at c b p t (ps ++ (port, x) ∷ []) gs i port w y q.0 q.1 same)
              (λ (q : (i ≢ port) × (get_elem? views i ≡ some y)). kept.passes i y q.1 ∙ ap (λ l. log 2 y.alone y.made y.depth c b p t l (of i gs)) (sym (of_other i port x ps q.0)))
              (at_set views port i w y e);
          others = λ i le. let q = beyond views i port v w at le in (of_other i port x ps q.1 ∙ (kept.others i q.0).0, (kept.others i q.0).1);
          alone = λ i y e a. ⊎_elim
              (λ (q : (i ≡ port) × (w ≡ y)). let k = kept.alone port v at (ap (λ (z : Log). z.alone) q.1 ∙ a) in (
                length-set views port w ∙ k.0,
                sym (ap (λ (z : Log). z.pushed) q.1) ∙ ap (λ l. l ++ x ∷ []) k.1 ∙ sym (jobs_snoc port x ps),
                sym (ap (λ (z : Log). z.popped) q.1) ∙ k.2,
              ))
              (λ (q : (i ≢ port) × (get_elem? views i ≡ some y)). absurd (q.0 (one_place views i port y v (kept.alone i y q.1 a).0 q.1 at)))
              (at_set views port i w y e);
        },
      )),
      (refl, items, omega arith, stood v items views port u at),
    )

pub pops : (port : ℕ) (v : Log) → v.stage ≡ 2 → fifo.Pops Ruled port v (Dequeues v)
pops port v two x items views h at = let u = in_use v (x ∷ items) views port two h at in let c = u.0 in let b = u.1 in let p = u.2 in let t = u.3 in let ps = u.4 in let gs = u.5 in let kept = u.6 in
    let w : Log = with_popped v x in let mine = kept.passes port v at in
    let same : Tells c b p t ps (gs ++ (port, x) ∷ []) port w = ap (λ y. with_popped y x) mine ∙ ap (λ l. log 2 v.alone v.made v.depth c b p t (of port ps) l) (sym (of_same port x gs)) in (
      w,
      inr (inr (
        c,
        b,
        p,
        t,
        ps,
        gs ++ (port, x) ∷ [],
        record {
          order = kept.order ∙ sym (append_assoc (jobs gs) (x ∷ []) items) ∙ ap (λ l. l ++ items) (sym (jobs_snoc port x gs));
          fit = All-tail (IsParcelFor c b p t) x items kept.fit;
          passes = λ i y e. ⊎_elim
              (λ (q : (i ≡ port) × (w ≡ y)). told_at c b p t ps (gs ++ (port, x) ∷ []) i port w y q.0 q.1 same)
              (λ (q : (i ≢ port) × (get_elem? views i ≡ some y)). kept.passes i y q.1 ∙ ap (λ l. log 2 y.alone y.made y.depth c b p t (of i ps) l) (sym (of_other i port x gs q.0)))
              (at_set views port i w y e);
          others = λ i le. let q = beyond views i port v w at le in ((kept.others i q.0).0, of_other i port x gs q.1 ∙ (kept.others i q.0).1);
          alone = λ i y e a. ⊎_elim
              (λ (q : (i ≡ port) × (w ≡ y)). let k = kept.alone port v at (ap (λ (z : Log). z.alone) q.1 ∙ a) in (
                length-set views port w ∙ k.0,
                sym (ap (λ (z : Log). z.pushed) q.1) ∙ k.1,
                sym (ap (λ (z : Log). z.popped) q.1) ∙ ap (λ l. l ++ x ∷ []) k.2 ∙ sym (jobs_snoc port x gs),
              ))
              (λ (q : (i ≢ port) × (get_elem? views i ≡ some y)). absurd (q.0 (one_place views i port y v (kept.alone i y q.1 a).0 q.1 at)))
              (at_set views port i w y e);
        },
      )),
      (refl, subst (λ (y : Log). IsParcelFor y.cache y.blocks y.page y.table x) (sym mine) (All-head (IsParcelFor c b p t) x items kept.fit), items, stood v (x ∷ items) views port u at),
    )

pub forks : (port : ℕ) (v : Log) → v.stage ≡ 2 → Forks Ruled port v (accompanied v) (opened false (v.depth + 1) v)
forks port v two items views h at = let u = in_use v items views port two h at in let c = u.0 in let b = u.1 in let p = u.2 in let t = u.3 in let ps = u.4 in let gs = u.5 in let kept = u.6 in
    let mine = kept.passes port v at in let left : Log = accompanied v in let fresh : Log = opened false (v.depth + 1) v in let vs : List Log = set views port left in
    let long : length vs ≡ length views = length-set views port left in
    let new = kept.others (length vs) (omega arith) in
    let stays : Tells c b p t ps gs port left = ap (λ y. accompanied y) mine in
    let joins : Tells c b p t ps gs (length vs) fresh = ap (λ (y : Log). opened false (v.depth + 1) y) mine ∙ ap (λ l. log 2 false 0 (v.depth + 1) c b p t l []) (sym new.0) ∙ ap (λ l. log 2 false 0 (v.depth + 1) c b p t (of (length vs) ps) l) (sym new.1) in
    inr (inr (
      c,
      b,
      p,
      t,
      ps,
      gs,
      record {
        order = kept.order;
        fit = kept.fit;
        passes = λ i y e. ⊎_elim
            (λ (old : get_elem? vs i ≡ some y). ⊎_elim
            (λ (q : (i ≡ port) × (left ≡ y)). told_at c b p t ps gs i port left y q.0 q.1 stays)
            (λ (q : (i ≢ port) × (get_elem? views i ≡ some y)). kept.passes i y q.1)
            (at_set views port i left y old))
            (λ (q : (i ≡ length vs) × (fresh ≡ y)). told_at c b p t ps gs i (length vs) fresh y q.0 q.1 joins)
            (at_end vs fresh y i e);
        others = λ i le. let l : length (vs ++ fresh ∷ []) ≡ length vs + 1 = length-append vs (fresh ∷ []) in kept.others i (omega arith);
        alone = λ i y e a. ⊎_elim
            (λ (old : get_elem? vs i ≡ some y). ⊎_elim
            (λ (q : (i ≡ port) × (left ≡ y)). absurd (true≢false (sym (ap (λ (z : Log). z.alone) q.1 ∙ a))))
            (λ (q : (i ≢ port) × (get_elem? views i ≡ some y)). absurd (q.0 (one_place views i port y v (kept.alone i y q.1 a).0 q.1 at)))
            (at_set views port i left y old))
            (λ (q : (i ≡ length vs) × (fresh ≡ y)). absurd (true≢false (sym (ap (λ (z : Log). z.alone) q.1 ∙ a))))
            (at_end vs fresh y i e);
      },
    ))

-- how a ring is opened
pub begins : Ruled [] (start ∷ [])
begins = inl (refl, refl)

new : (v : Log) (items : List ParcelSeen) (views : List Log) (port : ℕ) → v ≡ start → Ruled items views → get_elem? views port ≡ some v → (items ≡ []) × (views ≡ start ∷ [])
new v items views port is h at = let z : v.stage ≡ 0 = stages v start is in ⊎_elim (λ n. n)
    (λ r. ⊎_elim
    (λ (s : (sample : ParcelSeen) × (items ≡ sample ∷ []) × (views ≡ seeded sample ∷ [])). let e : 1 ≡ v.stage = stages (seeded s.0) v (only_view (seeded s.0) v views port s.2 at).0 in absurd (omega arith))
    (λ (u : InUse items views). let e : v.stage ≡ 2 = ap (λ (y : Log). y.stage) (u.6.passes port v at) in absurd (omega arith)) r) h

seeding : (v : Log) (items : List ParcelSeen) (views : List Log) (port : ℕ) → v.stage ≡ 1 → Ruled items views → get_elem? views port ≡ some v → (length items ≡ 1) × (views ≡ v ∷ []) × (v.pushed ≡ items)
seeding v items views port one h at = ⊎_elim
    (λ (n : (items ≡ []) × (views ≡ start ∷ [])). let e : 0 ≡ v.stage = stages start v (only_view start v views port n.1 at).0 in absurd (omega arith))
    (λ r. ⊎_elim
    (λ (s : (sample : ParcelSeen) × (items ≡ sample ∷ []) × (views ≡ seeded sample ∷ [])).
    let same = (only_view (seeded s.0) v views port s.2 at).0 in (
      ap (λ (l : List ParcelSeen). length l) s.1,
      s.2 ∙ ap (λ y. y ∷ []) same,
      ap (λ (y : Log). y.pushed) (sym same) ∙ sym s.1,
    ))
    (λ (u : InUse items views). let e : v.stage ≡ 2 = ap (λ (y : Log). y.stage) (u.6.passes port v at) in absurd (omega arith)) r) h

pub shows : (n port : ℕ) (v : Log) (x : ParcelSeen) → v ≡ start → fifo.Pushes Ruled n port v x (λ w. w ≡ seeded x)
shows n port v x is items views room h at = let r = new v items views port is h at in
    (seeded x, inr (inl (x, ap (λ l. l ++ x ∷ []) r.0, (only_view start v views port r.1 at).1 (seeded x))), refl)

pub shows_empty : (port : ℕ) (v : Log) → v ≡ start → Learns Ruled port v (λ items. items ≡ [])
shows_empty port v is items views h at = (new v items views port is h at).0

none_left : (x : ParcelSeen) (xs : List ParcelSeen) → length (x ∷ xs) ≡ 1 → xs ≡ []
none_left x [] e = refl
none_left x (y ∷ ys) e = absurd (omega arith)

pub opens : (port : ℕ) (v : Log) → v.stage ≡ 1 → fifo.Pops Ruled port v (λ x w. (w ≡ opened true 0 v) × (v.pushed ≡ x ∷ []))
opens port v one x items views h at = let r = seeding v (x ∷ items) views port one h at in let empty = none_left x items r.0 in let w : Log = opened true 0 v in
    let a = only_view v v views port r.1 at in (
      w,
      inr (inr (
        v.cache,
        v.blocks,
        v.page,
        v.table,
        [],
        [],
        record {
          order = sym empty;
          fit = subst (λ (l : List ParcelSeen). All (IsParcelFor v.cache v.blocks v.page v.table) l) (sym empty) (All-nil (IsParcelFor v.cache v.blocks v.page v.table));
          passes = λ i y e. subst (λ (z : Log). Tells v.cache v.blocks v.page v.table [] [] i z) (only_view w y (set views port w) i (a.1 w) e).0 refl;
          others = λ i le. (refl, refl);
          alone = λ i y e t. let s = (only_view w y (set views port w) i (a.1 w) e).0 in
              (ap (λ (l : List Log). length l) (a.1 w), sym (ap (λ (z : Log). z.pushed) s), sym (ap (λ (z : Log). z.popped) s));
        },
      )),
      (refl, r.2 ∙ ap (λ l. x ∷ l) empty),
    )

pub opens_full : (port : ℕ) (v : Log) → v.stage ≡ 1 → Learns Ruled port v (λ items. length items ≡ 1)
opens_full port v one items views h at = (seeding v items views port one h at).0

-- a ring that was opened by a sample is for what the sample tells
pub opened_for : (name blocks page : ℕ) (sample : ParcelSeen) (p : Pass ParcelSeen Log) → IsSampleFor name blocks page sample.task
    → view p ≡ log 2 true 0 0 sample.task.cache sample.task.serial (length sample.task.bytes) sample.table [] []
    → Carries name blocks page sample.table p
opened_for name blocks page sample p is e = record {
  cache = ap (λ (y : Log). y.cache) e ∙ is.cache;
  count = ap (λ (y : Log). y.blocks) e ∙ is.count;
  size = ap (λ (y : Log). y.page) e ∙ is.size;
  deeds = ap (λ (y : Log). y.table) e;
}
