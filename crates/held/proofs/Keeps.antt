-- Each step of a trail's word keeps its rule.
use Rattle.std.proofs.Common.{◌≡◌, ◌≢◌, ℕ, zero, suc, ◌+◌, ◌<◌, ◌≤◌, ◌⊎◌, eq-eqb, ne_eqb}
use Rattle.std.proofs.Common.{List, [], ◌∷◌, ◌++◌, length, set, get_or, inl, inr, refl, sym, ap, ◌∙◌, subst, arith}
use Rattle.std.proofs.Common.{⊎_elim, length-append}
use Rattle.std.specs.Prelude.{if◌then◌else◌, ◌==◌}
use mathlib.Core.Option.{none, some, some-injective, some-ne-none}
use mathlib.Core.List.{IsPrefix}
use lib.ListN.{get_elem?}
use lib.Seq.{set-get_or}
use Rattle.atomic_table.specs.Table.{State, Me, step, keeps, stepped, Allows, Splits, Joins, opening}
use Rattle.atomic_table.proofs.Lists.{at_set}
use Rattle.trail.specs.declared.entry.Entry.{Entry}
use Rattle.held.specs.declared.views.View.{View}
use Rattle.held.specs.declared.views.View.TheVariants.{Spent, Keeper, Holds, Seat}
use Rattle.held.specs.Views.{count_of, opening_view, with_seat, new_seat, holding, without_seat, note_back}
use Rattle.held.specs.Rules.{Fits, number_of, IsKept, Added, Seen, Compared}
use Rattle.held.specs.Shown.{all_of, made_of, list_of, count_in, number_in}
use Rattle.errseq.proofs.Prefixes.{prefix_self, prefix_more}

abbrev Log : Type 0
Log = List Entry

at_push : {A : Type 0} (xs : List A) (y x : A) (k : ℕ) → get_elem? (xs ++ y ∷ []) k ≡ some x → (get_elem? xs k ≡ some x)
    ⊎ ((k ≡ length xs) × (y ≡ x))
at_push [] y x zero e = inr (refl, some-injective y x e)
at_push [] y x (suc k) e = absurd (some-ne-none x (sym e))
at_push (z ∷ xs) y x zero e = inl e
at_push (z ∷ xs) y x (suc k) e =
    ⊎_elim (λ (t : get_elem? xs k ≡ some x). inl t) (λ (t : (k ≡ length xs) × (y ≡ x)). inr (ap suc t.0, t.1))
    (at_push xs y x k e)

-- each number stands in one view alone
abbrev Alone : List View → Type 0
Alone vs = (i j number : ℕ) (u v : View) → get_elem? vs i ≡ some u → get_elem? vs j ≡ some v → number_of u ≡ some number
    → number_of v ≡ some number → i ≡ j

-- ---- a change of views
each_set : (P : ℕ → View → Type 0) (vs : List View) (id : ℕ) (w : View) → P id w
    → ((j : ℕ) (v : View) → j ≢ id → get_elem? vs j ≡ some v → P j v) → (j : ℕ) (v : View)
    → get_elem? (set vs id w) j ≡ some v → P j v
each_set P vs id w mine others j v e = ⊎_elim
    (λ (t : (j ≡ id) × (w ≡ v)). subst (λ (y : ℕ × View). P y.0 y.1) (λ i. (sym t.0 i, t.1 i)) mine)
    (λ (t : (j ≢ id) × (get_elem? vs j ≡ some v)). others j v t.0 t.1)
    (at_set vs id j w v e)

each_snoc : (P : ℕ → View → Type 0) (vs : List View) (v : View) → ((j : ℕ) (u : View) → get_elem? vs j ≡ some u → P j u)
    → ((j : ℕ) → P j v) → (j : ℕ) (u : View) → get_elem? (vs ++ v ∷ []) j ≡ some u → P j u
each_snoc P vs v others mine j u e = ⊎_elim (λ (t : get_elem? vs j ≡ some u). others j u t)
    (λ (t : (j ≡ length vs) × (v ≡ u)). subst (P j) t.1 (mine j)) (at_push vs v u j e)

-- who has a number after a change of one view had it before
carries : (vs : List View) (id : ℕ) (v w : View) → get_elem? vs id ≡ some v
    → ((n : ℕ) → number_of w ≡ some n → number_of v ≡ some n) → (i n : ℕ) (u : View)
    → get_elem? (set vs id w) i ≡ some u → number_of u ≡ some n
    → (u' : View) × (get_elem? vs i ≡ some u') × (number_of u' ≡ some n)
carries vs id v w at keep i n u e h = ⊎_elim
    (λ (t : (i ≡ id) × (w ≡ u)). (v, ap (λ k. get_elem? vs k) t.0 ∙ at, keep n (ap number_of t.1 ∙ h)))
    (λ (t : (i ≢ id) × (get_elem? vs i ≡ some u)). (u, t.1, h))
    (at_set vs id i w u e)

alone_set : (vs : List View) (id : ℕ) (v w : View) → get_elem? vs id ≡ some v
    → ((n : ℕ) → number_of w ≡ some n → number_of v ≡ some n) → Alone vs → Alone (set vs id w)
alone_set vs id v w at keep a i j n u x e f h k = let p = carries vs id v w at keep i n u e h in
    let q = carries vs id v w at keep j n x f k in a i j n p.0 q.0 p.1 q.1 p.2 q.2

alone_snoc : (vs : List View) (x : View) → Alone vs
    → ((i n : ℕ) (u : View) → get_elem? vs i ≡ some u → number_of u ≡ some n → number_of x ≡ some n → ⊥)
    → Alone (vs ++ x ∷ [])
alone_snoc vs x a fresh i j n u v e f h k = ⊎_elim
    (λ (s : get_elem? vs i ≡ some u). ⊎_elim
    (λ (t : get_elem? vs j ≡ some v). a i j n u v s t h k)
    (λ (t : (j ≡ length vs) × (x ≡ v)). absurd (fresh i n u s h (ap number_of t.1 ∙ k)))
    (at_push vs x v j f))
    (λ (s : (i ≡ length vs) × (x ≡ u)). ⊎_elim
    (λ (t : get_elem? vs j ≡ some v). absurd (fresh j n v t k (ap number_of s.1 ∙ h)))
    (λ (t : (j ≡ length vs) × (x ≡ v)). s.0 ∙ sym t.0)
    (at_push vs x v j f))
    (at_push vs x u i e)

-- a number that one view had, and does not have any more, is nobody's
gone : (vs : List View) (id : ℕ) (v w : View) → get_elem? vs id ≡ some v → Alone vs
    → ((n : ℕ) → number_of w ≡ some n → ⊥) → (i n : ℕ) (u : View) → get_elem? (set vs id w) i ≡ some u
    → number_of u ≡ some n → number_of v ≡ some n → ⊥
gone vs id v w at a off i n u e h k = ⊎_elim
    (λ (t : (i ≡ id) × (w ≡ u)). off n (ap number_of t.1 ∙ h))
    (λ (t : (i ≢ id) × (get_elem? vs i ≡ some u)). t.0 (a i id n u v t.1 at h k))
    (at_set vs id i w u e)

spent_none : (n : ℕ) → number_of Spent ≡ some n → ⊥
spent_none n e = some-ne-none n (sym e)

alone_join : (vs : List View) (id other : ℕ) (w both : View) → other ≢ id → get_elem? vs other ≡ some w
    → ((n : ℕ) → number_of both ≡ some n → number_of w ≡ some n) → Alone vs → Alone (set (set vs id both) other Spent)
alone_join vs id other w both apart there keep a i j n u v e f h k = ⊎_elim
    (λ (s : (i ≡ id) × (both ≡ u)). ⊎_elim
    (λ (t : (j ≡ id) × (both ≡ v)). s.0 ∙ sym t.0)
    (λ (t : (j ≢ id) × (get_elem? vs j ≡ some v)).
    absurd ((place j v f k).0 (a j other n v w t.1 there k (keep n (ap number_of s.1 ∙ h)))))
    (at_set vs id j both v (place j v f k).1))
    (λ (s : (i ≢ id) × (get_elem? vs i ≡ some u)). ⊎_elim
    (λ (t : (j ≡ id) × (both ≡ v)).
    absurd ((place i u e h).0 (a i other n u w s.1 there h (keep n (ap number_of t.1 ∙ k)))))
    (λ (t : (j ≢ id) × (get_elem? vs j ≡ some v)). a i j n u v s.1 t.1 h k)
    (at_set vs id j both v (place j v f k).1))
    (at_set vs id i both u (place i u e h).1)
  where
    place : (i : ℕ) (u : View) → get_elem? (set (set vs id both) other Spent) i ≡ some u → number_of u ≡ some n
        → (i ≢ other) × (get_elem? (set vs id both) i ≡ some u)
    place i u e h = ⊎_elim
        (λ (t : (i ≡ other) × (Spent ≡ u)). absurd (spent_none n (ap number_of t.1 ∙ h)))
        (λ (t : (i ≢ other) × (get_elem? (set vs id both) i ≡ some u)). t)
        (at_set (set vs id both) other i Spent u e)

-- ---- steps that leave the trail
unmoved : (s : State ℕ View) (r : IsKept s) (i id : ℕ) (c : List (ℕ × ℕ)) (v w : View) → get_elem? s.views id ≡ some v
    → ((n : ℕ) → number_of w ≡ some n → number_of v ≡ some n) → Fits r.log r.made r.writer id w
    → IsKept (stepped s i (get_or s.words i 0) id c w keeps)
unmoved s r i id c v w at keep fits =
    subst (λ ws. IsKept record { words = ws; homes = s.homes; views = set s.views id w }) (sym (set-get_or s.words i 0))
    record {
      log = r.log;
      made = r.made;
      writer = r.writer;
      word_is = r.word_is;
      unmade = r.unmade;
      each_seat = each_set (Fits r.log r.made r.writer) s.views id w fits (λ j u _ e. r.each_seat j u e);
      alone = alone_set s.views id v w at keep r.alone;
    }

pub sees : (slots id number : ℕ) (list : Log) (count : ℕ) (c : List (ℕ × ℕ))
    → Allows IsKept slots id (Seat number list count, c) 0 (λ n. n)
    (Seen (step slots 0 0 0 none) (Seat number list count, c))
sees slots id number list count c s r _ at _ =
    let mine = r.each_seat id (Seat number list count) at in
    let w = Seat number r.log count in
    let found : length r.log ≡ get_or s.words 0 0 = ap (λ ws. get_or ws 0 0) (sym r.word_is) in (
      w,
      keeps,
      tt,
      unmoved s r 0 id c (Seat number list count) w at (λ n e. e) (mine.0, prefix_self r.log, mine.2),
      (refl, (r.log, mine.1, found, mine.2, refl)),
    )

pub compares : (slots id : ℕ) (all : Log) (made number : ℕ) (list : Log) (count : ℕ) (c : List (ℕ × ℕ))
    → Allows IsKept slots id (Holds all made number list count, c) 0 (λ n. n)
    (Compared (step slots 0 0 0 none) (Holds all made number list count, c))
compares slots id all made number list count c s r _ at _ =
    let mine = r.each_seat id (Holds all made number list count) at in
    let w = Holds all made number list count in (
      w,
      keeps,
      tt,
      unmoved s r 0 id c (Holds all made number list count) w at (λ n e. e) mine,
      (
        refl,
        (
          refl,
          subst (λ l. IsPrefix list l) (sym mine.1) mine.3.1,
          mine.3.2 ∙ ap (count_of number) (sym mine.1),
          subst (λ n. number < n) (sym mine.2) mine.3.0,
          λ n h. subst (λ l. count_of n l ≡ 0) (sym mine.1) (r.unmade n (subst (λ m. m ≤ n) mine.2 h)),
        ),
      ),
    )

-- ---- an entry is added
count_push : (number : ℕ) (es : Log) (e : Entry) → count_of number (es ++ e ∷ []) ≡ count_of number es
    + (if e.seat == number then 1 else 0)
count_push number [] e = let k : ℕ = if e.seat == number then 1 else 0 in omega arith
count_push number (x ∷ es) e = let k : ℕ = if e.seat == number then 1 else 0 in
    let l : ℕ = if x.seat == number then 1 else 0 in omega (arith, count_push number es e)

count_here : (es : Log) (e : Entry) → count_of e.seat (es ++ e ∷ []) ≡ count_of e.seat es + 1
count_here es e = count_push e.seat es e
    ∙ ap (λ b. count_of e.seat es + (if b then 1 else 0)) (eq-eqb e.seat e.seat refl)

count_else : (number : ℕ) (es : Log) (e : Entry) → e.seat ≢ number → count_of number (es ++ e ∷ []) ≡ count_of number es
count_else number es e n = count_push number es e
    ∙ ap (λ b. count_of number es + (if b then 1 else 0)) (ne_eqb e.seat number n)
    ∙ (let k : ℕ = count_of number es in let h : k + 0 ≡ k = omega arith in h)

others_added : (log : Log) (made writer : ℕ) (e : Entry) (at : ℕ) (v : View) → at ≢ writer
    → (number_of v ≡ some e.seat → ⊥) → Fits log made writer at v → Fits (log ++ e ∷ []) made writer at v
others_added log made writer e at Spent apart n f = tt
others_added log made writer e at (Keeper all m) apart n f = absurd (apart f.0)
others_added log made writer e at (Holds all m number list count) apart n f = absurd (apart f.0)
others_added log made writer e at (Seat number list count) apart n f =
    (f.0, prefix_more list log e f.1, f.2 ∙ sym (count_else number log e (λ same. n (ap some (sym same)))))

pub adds : (slots id : ℕ) (all : Log) (made number : ℕ) (list : Log) (count : ℕ) (c : List (ℕ × ℕ)) (e : Entry)
    (new : ℕ) → e.seat ≡ number → new ≡ length all + 1
    → Allows IsKept slots id (Holds all made number list count, c) 0 (λ _. new)
    (λ _. Added e (step slots 0 new 0 none) (Holds all made number list count, c) new)
adds slots id all made number list count c e new of is s r _ at _ =
    let old = Holds all made number list count in
    let mine = r.each_seat id old at in
    let w = Holds (all ++ e ∷ []) made number list (count + 1) in
    let log' : Log = r.log ++ e ∷ [] in
    let more : length log' ≡ new = length-append r.log (e ∷ [])
    ∙ (let k = ap length mine.1 in let l : ℕ = length r.log in omega arith) in (
      w,
      keeps,
      tt,
      record {
        log = log';
        made = r.made;
        writer = r.writer;
        word_is = ap (λ ws. set ws 0 new) r.word_is ∙ ap (λ n. n ∷ []) (sym more);
        unmade = λ n h. let small = mine.3.0 in
            count_else n r.log e (λ same. let same' : e.seat ≡ n = same in let k = mine.2 in omega arith)
            ∙ r.unmade n h;
        each_seat = each_set (Fits log' r.made r.writer) s.views id w (
          mine.0,
          ap (λ l. l ++ e ∷ []) mine.1,
          mine.2,
          (
            mine.3.0,
            prefix_more list r.log e mine.3.1,
            ap (λ n. n + 1) mine.3.2
                ∙ subst (λ n. count_of n r.log + 1 ≡ count_of n log') of (sym (count_here r.log e)),
          ),
        )
            (λ j v n x. others_added r.log r.made r.writer e j v (λ k. n (k ∙ sym mine.0))
            (λ k. n (r.alone j id number v old x at (k ∙ ap some of) refl)) (r.each_seat j v x));
        alone = alone_set s.views id old w at (λ n k. k) r.alone;
      },
      (refl, (subst (λ l. IsPrefix list l) (sym mine.1) mine.3.1, mine.3.2 ∙ ap (count_of number) (sym mine.1), refl)),
    )

-- ---- splits and joins
split_state : (s : State ℕ View) (r : IsKept s) (id : ℕ) (v left right : View) → get_elem? s.views id ≡ some v
    → Fits r.log r.made r.writer id left → ((j : ℕ) → Fits r.log r.made r.writer j right)
    → ((n : ℕ) → number_of left ≡ some n → ⊥) → ((n : ℕ) → number_of right ≡ some n → number_of v ≡ some n)
    → IsKept record { words = s.words; homes = s.homes; views = set s.views id left ++ right ∷ [] }
split_state s r id v left right at l h off of = record {
  log = r.log;
  made = r.made;
  writer = r.writer;
  word_is = r.word_is;
  unmade = r.unmade;
  each_seat = each_snoc (Fits r.log r.made r.writer) (set s.views id left) right
      (each_set (Fits r.log r.made r.writer) s.views id left l (λ j u _ e. r.each_seat j u e)) h;
  alone = alone_snoc (set s.views id left) right (alone_set s.views id v left at (λ n e. absurd (off n e)) r.alone)
      (λ i n u e a b. gone s.views id v left at r.alone off i n u e a (of n b));
}

join_state : (s : State ℕ View) (r : IsKept s) (id other : ℕ) (w both : View) → ¬ (other ≡ id)
    → get_elem? s.views other ≡ some w → Fits r.log r.made r.writer id both
    → ((n : ℕ) → number_of both ≡ some n → number_of w ≡ some n)
    → IsKept record { words = s.words; homes = s.homes; views = set (set s.views id both) other Spent }
join_state s r id other w both apart there h keep = record {
  log = r.log;
  made = r.made;
  writer = r.writer;
  word_is = r.word_is;
  unmade = r.unmade;
  each_seat = each_set (Fits r.log r.made r.writer) (set s.views id both) other Spent tt
      (λ i u _ x. each_set (Fits r.log r.made r.writer) s.views id both h (λ j v _ e. r.each_seat j v e) i u x);
  alone = alone_join s.views id other w both apart there keep r.alone;
}

there_before : (vs : List View) (id other : ℕ) (both w : View) → ¬ (other ≡ id)
    → get_elem? (set vs id both) other ≡ some w → get_elem? vs other ≡ some w
there_before vs id other both w apart e = ⊎_elim (λ (t : (other ≡ id) × (both ≡ w)). absurd (apart t.0))
    (λ (t : (other ≢ id) × (get_elem? vs other ≡ some w)). t.1) (at_set vs id other both w e)

pub gives_note : (id number : ℕ) (list : Log) (count : ℕ)
    → Splits IsKept id (Seat number list count) Spent (Seat number list count)
gives_note id number list count s r at = let mine = r.each_seat id (Seat number list count) at in
    split_state s r id (Seat number list count) Spent (Seat number list count) at tt (λ j. mine) spent_none (λ n e. e)

pub takes_note : (id : ℕ) (all : Log) (made other number : ℕ) (list : Log) (count : ℕ)
    → Joins IsKept id (Keeper all made) other (Seat number list count)
    (holding (Keeper all made) (Seat number list count)) Spent
takes_note id all made other number list count s r at apart there =
    let both = Holds all made number list count in
    let mine = r.each_seat id (Keeper all made) at in
    let was = there_before s.views id other both (Seat number list count) apart there in
    let theirs = r.each_seat other (Seat number list count) was in
    join_state s r id other (Seat number list count) both apart was (mine.0, mine.1, mine.2, theirs) (λ n e. e)

pub gives_back : (id : ℕ) (all : Log) (made number : ℕ) (list : Log) (count : ℕ)
    → Splits IsKept id (Holds all made number list count) (Keeper all made)
    (note_back (Holds all made number list count))
gives_back id all made number list count s r at =
    let mine = r.each_seat id (Holds all made number list count) at in
    split_state s r id (Holds all made number list count) (Keeper all made) (Seat number all count) at
    (mine.0, mine.1, mine.2) (λ j. (mine.3.0, subst (λ l. IsPrefix all l) mine.1 (prefix_self all), mine.3.2))
    (λ n e. some-ne-none n (sym e)) (λ n e. e)

pub takes_back : (id other number : ℕ) (list : Log) (count : ℕ)
    → Joins IsKept id Spent other (Seat number list count) (Seat number list count) Spent
takes_back id other number list count s r at apart there =
    let w = Seat number list count in
    let was = there_before s.views id other w w apart there in
    join_state s r id other w w apart was (r.each_seat other w was) (λ n e. e)

more_made : (log : Log) (made writer at : ℕ) (v : View) → at ≢ writer → Fits log made writer at v
    → Fits log (made + 1) writer at v
more_made log made writer at Spent apart f = tt
more_made log made writer at (Keeper all m) apart f = absurd (apart f.0)
more_made log made writer at (Holds all m number list count) apart f = absurd (apart f.0)
more_made log made writer at (Seat number list count) apart f = (let h = f.0 in omega arith, f.1, f.2)

number_made : (log : Log) (made writer at : ℕ) (v : View) (n : ℕ) → Fits log made writer at v → number_of v ≡ some n
    → n < made
number_made log made writer at Spent n f e = absurd (some-ne-none n (sym e))
number_made log made writer at (Keeper all m) n f e = absurd (some-ne-none n (sym e))
number_made log made writer at (Holds all m number list count) n f e =
    subst (λ k. k < made) (some-injective _ _ e) f.3.0
number_made log made writer at (Seat number list count) n f e = subst (λ k. k < made) (some-injective _ _ e) f.0

pub gives_seat : (id : ℕ) (all : Log) (made : ℕ)
    → Splits IsKept id (Keeper all made) (with_seat (Keeper all made)) (new_seat (Keeper all made))
gives_seat id all made s r at =
    let mine = r.each_seat id (Keeper all made) at in
    let left = Keeper all (made + 1) in
    let right = Seat made all 0 in
    let is : r.made ≡ made = sym mine.2 in record {
      log = r.log;
      made = r.made + 1;
      writer = r.writer;
      word_is = r.word_is;
      unmade = λ n h. r.unmade n (omega arith);
      each_seat = each_snoc (Fits r.log (r.made + 1) r.writer) (set s.views id left) right
          (each_set (Fits r.log (r.made + 1) r.writer) s.views id left (mine.0, mine.1, ap (λ n. n + 1) mine.2)
          (λ j u n e. more_made r.log r.made r.writer j u (λ k. n (k ∙ sym mine.0)) (r.each_seat j u e)))
          (λ j. (omega arith, subst (λ l. IsPrefix all l) mine.1 (prefix_self all), sym (r.unmade made (omega arith))));
      alone = alone_snoc (set s.views id left) right (alone_set s.views id (Keeper all made) left at (λ n e. e) r.alone)
          (λ i n u e a b. let p = carries s.views id (Keeper all made) left at (λ k x. x) i n u e a in
          let h = number_made r.log r.made r.writer i p.0 n (r.each_seat i p.0 p.1) p.2 in
          let same : made ≡ n = some-injective _ _ b in absurd (omega arith));
    }

pub begins : IsKept (opening (0 ∷ []) [] opening_view)
begins = record {
  log = [];
  made = 0;
  writer = 0;
  word_is = refl;
  unmade = λ n h. refl;
  each_seat = λ j v e. one j v e;
  alone = λ i j n u v e f h k. absurd (nobody i u n e h);
}
  where
    one : (j : ℕ) (v : View) → get_elem? (opening_view ∷ []) j ≡ some v → Fits [] 0 0 j v
    one zero v e = subst (Fits [] 0 0 0) (some-injective _ _ e) (refl, refl, refl)
    one (suc j) v e = absurd (some-ne-none v (sym e))

    nobody : (i : ℕ) (u : View) (n : ℕ) → get_elem? (opening_view ∷ []) i ≡ some u → number_of u ≡ some n → ⊥
    nobody zero u n e h = some-ne-none n (sym (ap number_of (some-injective _ _ e) ∙ h))
    nobody (suc i) u n e h = some-ne-none u (sym e)

-- ---- the steps, at a seat that is known by an equation
pub sees_as : (slots id : ℕ) (me : Me ℕ View) (number : ℕ) (list : Log) (count : ℕ) (c : List (ℕ × ℕ))
    → me ≡ (Seat number list count, c) → Allows IsKept slots id me 0 (λ n. n) (Seen (step slots 0 0 0 none) me)
sees_as slots id me number list count c is =
    subst (λ (m : Me ℕ View). Allows IsKept slots id m 0 (λ n. n) (Seen (step slots 0 0 0 none) m)) (sym is)
    (sees slots id number list count c)

pub compares_as : (slots id : ℕ) (me : Me ℕ View) (all : Log) (made number : ℕ) (list : Log) (count : ℕ)
    (c : List (ℕ × ℕ)) → me ≡ (Holds all made number list count, c)
    → Allows IsKept slots id me 0 (λ n. n) (Compared (step slots 0 0 0 none) me)
compares_as slots id me all made number list count c is =
    subst (λ (m : Me ℕ View). Allows IsKept slots id m 0 (λ n. n) (Compared (step slots 0 0 0 none) m)) (sym is)
    (compares slots id all made number list count c)

pub adds_as : (slots id : ℕ) (me : Me ℕ View) (all : Log) (made number : ℕ) (list : Log) (count : ℕ) (c : List (ℕ × ℕ))
    (e : Entry) (new : ℕ) → me ≡ (Holds all made number list count, c) → e.seat ≡ number → new ≡ length all + 1
    → Allows IsKept slots id me 0 (λ _. new) (λ _. Added e (step slots 0 new 0 none) me new)
adds_as slots id me all made number list count c e new is of n =
    subst (λ (m : Me ℕ View). Allows IsKept slots id m 0 (λ _. new) (λ _. Added e (step slots 0 new 0 none) m new))
    (sym is) (adds slots id all made number list count c e new of n)

pub gives_note_as : (id : ℕ) (v : View) (number : ℕ) (list : Log) (count : ℕ) → v ≡ Seat number list count
    → Splits IsKept id v Spent v
gives_note_as id v number list count is = subst (λ (u : View). Splits IsKept id u Spent u) (sym is)
    (gives_note id number list count)

pub takes_note_as : (id : ℕ) (v : View) (all : Log) (made other : ℕ) (w : View) (number : ℕ) (list : Log) (count : ℕ)
    → v ≡ Keeper all made → w ≡ Seat number list count → Joins IsKept id v other w (holding v w) Spent
takes_note_as id v all made other w number list count a b =
    subst (λ (z : View × View). Joins IsKept id z.0 other z.1 (holding z.0 z.1) Spent) (λ i. (sym a i, sym b i))
    (takes_note id all made other number list count)

pub gives_back_as : (id : ℕ) (v : View) (all : Log) (made number : ℕ) (list : Log) (count : ℕ)
    → v ≡ Holds all made number list count → Splits IsKept id v (without_seat v) (note_back v)
gives_back_as id v all made number list count is =
    subst (λ (u : View). Splits IsKept id u (without_seat u) (note_back u)) (sym is)
    (gives_back id all made number list count)

pub takes_back_as : (id : ℕ) (v : View) (other : ℕ) (w : View) (number : ℕ) (list : Log) (count : ℕ) → v ≡ Spent
    → w ≡ Seat number list count → Joins IsKept id v other w w Spent
takes_back_as id v other w number list count a b = subst (λ (z : View × View). Joins IsKept id z.0 other z.1 z.1 Spent)
    (λ i. (sym a i, sym b i)) (takes_back id other number list count)

pub gives_seat_as : (id : ℕ) (v : View) (all : Log) (made : ℕ) → v ≡ Keeper all made
    → Splits IsKept id v (with_seat v) (new_seat v)
gives_seat_as id v all made is = subst (λ (u : View). Splits IsKept id u (with_seat u) (new_seat u)) (sym is)
    (gives_seat id all made)

pub held_note : (v w : View) (me : Me ℕ View) (all : Log) (made number : ℕ) (list : Log) (count : ℕ)
    → v ≡ Keeper all made → w ≡ Seat number list count → me ≡ (holding v w, [])
    → me ≡ (Holds all made number list count, [])
held_note v w me all made number list count a b is = is ∙ (λ i. (holding (a i) (b i), []))

pub keeper_again : (before after : Me ℕ View) (made : ℕ) (e : Entry) → before ≡ (Keeper (all_of before.0) made, [])
    → after ≡ (Keeper (all_of before.0 ++ e ∷ []) (made_of before.0), [])
    → (after ≡ (Keeper (all_of after.0) made, [])) × (all_of after.0 ≡ all_of before.0 ++ e ∷ [])
keeper_again before after made e a b =
    let all : all_of after.0 ≡ all_of before.0 ++ e ∷ [] = ap (λ (m : Me ℕ View). all_of m.0) b in (
      b ∙ (λ i. (Keeper (all_of before.0 ++ e ∷ []) (made_of (a i).0), [])) ∙ ap (λ l. (Keeper l made, [])) (sym all),
      all,
    )

pub settled_one : (me : Me ℕ View) (number : ℕ) (all before : Log)
    → me ≡ (Seat number (list_of me.0) (count_in me.0), []) → all ≡ before → IsPrefix (list_of me.0) all
    → count_in me.0 ≡ count_of (number_in me.0) all
    → IsPrefix (list_of me.0) before × (count_in me.0 ≡ count_of number before)
settled_one me number all before is same p c =
    (subst (λ l. IsPrefix (list_of me.0) l) same p, c ∙ (λ i. count_of (number_in (is i).0) (same i)))

-- ---- a seat's count is the number of its entries in its list

pub counted_on : (before after : Me ℕ View) (number : ℕ) (all : Log) (e : Entry)
    → before ≡ (Seat number (list_of before.0) (count_in before.0), [])
    → after ≡ (Seat (number_in before.0) (all ++ e ∷ []) (count_in before.0 + 1), [])
    → e.seat ≡ number → count_in before.0 ≡ count_of (number_in before.0) all
    → count_in after.0 ≡ count_of number (list_of after.0)
counted_on before after number all e was is of counted =
    let same : number_in before.0 ≡ number = ap (λ (m : Me ℕ View). number_in m.0) was in
    let more : count_of number all + 1 ≡ count_of number (all ++ e ∷ []) =
    subst (λ n. count_of n all + 1 ≡ count_of n (all ++ e ∷ [])) of (sym (count_here all e)) in
    ap (λ (m : Me ℕ View). count_in m.0) is ∙ ap (λ n. n + 1) (counted ∙ ap (λ n. count_of n all) same) ∙ more
    ∙ ap (λ (m : Me ℕ View). count_of number (list_of m.0)) (sym is)

pub counted_as : (before after : Me ℕ View) (number : ℕ) (list : Log)
    → before ≡ (Seat number (list_of before.0) (count_in before.0), [])
    → after ≡ (Seat (number_in before.0) list (count_in before.0), [])
    → count_in before.0 ≡ count_of (number_in before.0) list → count_in after.0 ≡ count_of number (list_of after.0)
counted_as before after number list was is counted =
    ap (λ (m : Me ℕ View). count_in m.0) is ∙ counted ∙ ap (λ (m : Me ℕ View). count_of (number_in m.0) list) was
    ∙ ap (λ (m : Me ℕ View). count_of number (list_of m.0)) (sym is)
