-- Each step keeps the rule.
use Rattle.std.proofs.Common.{◌≡◌, ◌≢◌, ℕ, zero, suc, ◌⊎◌, Bool, true, false, List, [], ◌∷◌, ◌++◌, map, length, set, inl, inr, refl, sym, ap, ◌∙◌, subst, ⊎_elim, true≢false, length-set, arith}
use Rattle.std.specs.Prelude.{slice_get, slice_set, Option, Some, None, Ok, Err, option_map, is_some, IfSome}
use Rattle.std.proofs.lemmas.Option.{none-some, same_Some}
use mathlib.Core.Option.{some, some-injective, some-ne-none}
use lib.ListN.{get_elem?}
use Rattle.atomic_table.specs.Table.{State, Me, keeps, Allows, Splits, Joins, opening}
use Rattle.deeds.specs.declared.views.Block.{Block}
use Rattle.deeds.specs.declared.views.Given.{Given}
use Rattle.deeds.specs.declared.views.Done.{Done}
use Rattle.deeds.specs.declared.views.Deed.{Deed}
use Rattle.deeds.specs.declared.views.Place.{Place}
use Rattle.deeds.specs.declared.views.Place.TheVariants.{Home, Out}
use Rattle.deeds.specs.declared.views.View.{View}
use Rattle.blockdev.specs.Device.{Outcome}
use Rattle.pc_types.specs.declared.kind.Kind.{Kind}
use Rattle.pc_types.specs.declared.kind.Kind.TheVariants.{Fill, Flush}
use Rattle.deeds.specs.Comes.{Comes, Leaves, MayHave}
use Rattle.deeds.specs.Views.{block_of, no_block, undone, carried, spent, opening_view, desk_view, both_view, device_with, desk_with, first_of, together, without_device, device_alone, without_deed, deed_alone}
use Rattle.deeds.specs.Rules.{block_now, FitsDeed, Fits, HasOut, Part, the_device, the_desk, the_deed, Has, IsKept, Opened, GivenOut, Carried, TakenBack, Compared, Knows, NoneOut}
use Rattle.deeds.proofs.Alone.{Each, Nobody, each_set, each_push, alone_set, alone_cut, alone_join, there_before}
use Rattle.deeds.proofs.Lists.{get_set, set_here, set_else, mapped_at}

abbrev Blocks : Type 0
Blocks = List Block

-- ---- small facts

abbrev IsOut : Place → Type 0
IsOut (Home now) = ⊥
IsOut (Out g) = Unit {0}

abbrev block_in : Place → Block
block_in (Home now) = now
block_in (Out g) = no_block

abbrev given_of : Place → Option Given
given_of (Home now) = None
given_of (Out g) = Some g

same_given : (g h : Given) → Out g ≡ Out h → g ≡ h
same_given g h e = same_Some g h (ap given_of e)

out_home : (g : Given) (now : Block) → Out g ≡ Home now → ⊥
out_home g now e = subst IsOut e tt

-- a block's deed is not both out and at home
apart : (places : List Place) (k : ℕ) (g : Given) (now : Block) → slice_get places k ≡ Some (Out g)
    → slice_get places k ≡ Some (Home now) → ⊥
apart places k g now e h = out_home g now (same_Some _ _ (sym e ∙ h))

if_some_on : {A : Type 0} (o : Option A) (P Q : A → Type 0) → ((x : A) → o ≡ Some x → P x → Q x) → IfSome o P → IfSome o Q
if_some_on None P Q f p = tt
if_some_on (Some x) P Q f p = f x refl p

some_first : {A : Type 0} (P : A → Type 0) (x y : Option A) → IfSome x P → IfSome y P → IfSome (first_of x y) P
some_first P None y p q = q
some_first P (Some x) y p q = p

is_first : {A : Type 0} (x y : Option A) → is_some (first_of x y) ≡ true → (is_some x ≡ true) ⊎ (is_some y ≡ true)
is_first None y e = inr e
is_first (Some x) y e = inl refl

block_first : (x y : Option Deed) (k : ℕ) → option_map block_of (first_of x y) ≡ Some k
    → (option_map block_of x ≡ Some k) ⊎ (option_map block_of y ≡ Some k)
block_first None y k e = inr e
block_first (Some x) y k e = inl e

-- the deed of a view is out at the desk
deed_out : (told : Bool) (blocks : Blocks) (places : List Place) (o : Option Deed) (k : ℕ)
    → IfSome o (FitsDeed told blocks places) → option_map block_of o ≡ Some k
    → (g : Given) × (slice_get places k ≡ Some (Out g))
deed_out told blocks places None k f e = absurd (none-some k e)
deed_out told blocks places (Some d) k f e =
    (d.given, ap (λ j. slice_get places j) (sym (same_Some _ _ e)) ∙ f.0)

nothing : (p : Part) → Has p spent → ⊥
nothing the_device h = true≢false (sym h)
nothing the_desk h = true≢false (sym h)
nothing (the_deed k) h = none-some k h

-- what came of a deed's call may be had by its block
comes_had : (told : Bool) (g : Given) (x : Done) → Comes told g.task g.before x.finished x.left
    → MayHave told g.task g.before x.left
comes_had told g x c = inr (c.calls, λ tells. go g.task.kind refl x.finished.outcome (c.leaves tells))
  where
    go : (k : Kind) → g.task.kind ≡ k → (r : Outcome)
        → Leaves k g.before.bytes g.task.bytes r x.finished.bytes x.left.bytes
        → (x.left.bytes ≡ g.before.bytes) ⊎ ((g.task.kind ≡ Flush) × (x.left.bytes ≡ g.task.bytes))
    go Fill is r l = inl l.0
    go Flush is (Ok u) l = inr (is, l.1)
    go Flush is (Err c) l = ⊎_elim (λ e. inl e) (λ e. inr (is, e)) l.2

same_or_else : (i j : ℕ) → (i ≡ j) ⊎ (i ≢ j)
same_or_else zero zero = inl refl
same_or_else zero (suc j) = inr (λ h. omega arith)
same_or_else (suc i) zero = inr (λ h. omega arith)
same_or_else (suc i) (suc j) = ⊎_elim (λ e. inl (ap suc e)) (λ n. inr (λ h. n (omega arith))) (same_or_else i j)

-- ---- what stays true of a view while blocks or places change

still : (told : Bool) (blocks blocks' : Blocks) (places places' : List Place) (u : View) → Fits told blocks places u
    → (Has the_device u → blocks ≡ blocks') → (Has the_desk u → places ≡ places')
    → ((d : Deed) → Has (the_deed (block_of d)) u → FitsDeed told blocks places d → FitsDeed told blocks' places' d)
    → Fits told blocks' places' u
still told blocks blocks' places places' u f device desk deed = (
  if_some_on u.device (λ d. d ≡ (told, blocks)) (λ d. d ≡ (told, blocks'))
      (λ x e p. p ∙ ap (λ bs. (told, bs)) (device (ap is_some e))) f.0,
  if_some_on u.desk (λ d. d ≡ (told, places)) (λ d. d ≡ (told, places'))
      (λ x e p. p ∙ ap (λ ps. (told, ps)) (desk (ap is_some e))) f.1,
  if_some_on u.deed (FitsDeed told blocks places) (FitsDeed told blocks' places')
      (λ d e p. deed d (ap (option_map block_of) e) p) f.2,
)

other_place : (told : Bool) (blocks : Blocks) (places : List Place) (k : ℕ) (p : Place) (d : Deed) → block_of d ≢ k
    → FitsDeed told blocks places d → FitsDeed told blocks (slice_set places k p) d
other_place told blocks places k p d n f = (set_else places k (block_of d) p (Out d.given) n f.0, f.1, f.2)

other_block : (told : Bool) (blocks : Blocks) (places : List Place) (k : ℕ) (now : Block) (d : Deed)
    → block_of d ≢ k → FitsDeed told blocks places d → FitsDeed told (slice_set blocks k now) places d
other_block told blocks places k now d n f = (f.0, set_else blocks k (block_of d) now _ n f.1, f.2)

-- ---- cut and joined

left_device : (v : View) (p : Part) → Has p (without_device v) → Has p v
left_device v the_device h = absurd (true≢false (sym h))
left_device v the_desk h = h
left_device v (the_deed k) h = h

right_device : (v : View) (p : Part) → Has p (device_alone v) → Has p v
right_device v the_device h = h
right_device v the_desk h = absurd (true≢false (sym h))
right_device v (the_deed k) h = absurd (none-some k h)

apart_device : (v : View) (p : Part) → Has p (without_device v) → Has p (device_alone v) → ⊥
apart_device v the_device h e = true≢false (sym h)
apart_device v the_desk h e = true≢false (sym e)
apart_device v (the_deed k) h e = none-some k e

left_deed : (v : View) (p : Part) → Has p (without_deed v) → Has p v
left_deed v the_device h = h
left_deed v the_desk h = h
left_deed v (the_deed k) h = absurd (none-some k h)

right_deed : (v : View) (p : Part) → Has p (deed_alone v) → Has p v
right_deed v the_device h = absurd (true≢false (sym h))
right_deed v the_desk h = absurd (true≢false (sym h))
right_deed v (the_deed k) h = h

apart_deed : (v : View) (p : Part) → Has p (without_deed v) → Has p (deed_alone v) → ⊥
apart_deed v the_device h e = true≢false (sym e)
apart_deed v the_desk h e = true≢false (sym e)
apart_deed v (the_deed k) h e = none-some k h

own : (v w : View) (p : Part) → Has p (together v w) → Has p v ⊎ Has p w
own v w the_device h = is_first v.device w.device h
own v w the_desk h = is_first v.desk w.desk h
own v w (the_deed k) h = block_first v.deed w.deed k h

-- a view is cut in two
cut : (s : State ℕ View) (r : IsKept s) (id : ℕ) (v left right : View) → get_elem? s.views id ≡ some v
    → Fits r.told r.blocks r.places left → Fits r.told r.blocks r.places right
    → ((p : Part) → Has p left → Has p v) → ((p : Part) → Has p right → Has p v)
    → ((p : Part) → Has p left → Has p right → ⊥)
    → IsKept record { words = s.words; homes = s.homes; views = set s.views id left ++ right ∷ [] }
cut s r id v left right at fl fr l n a =
    let F : View → Type 0 = Fits r.told r.blocks r.places in record {
      told = r.told;
      blocks = r.blocks;
      places = r.places;
      count = r.count;
      home = r.home;
      out = r.out;
      each = each_push F (set s.views id left) right (each_set F s.views id left fl (λ j u _ e. r.each j u e)) fr;
      alone = alone_cut s.views id v left right at l n a r.alone;
    }

pub parts_device : (id : ℕ) (v : View) → Splits IsKept id v (without_device v) (device_alone v)
parts_device id v s r at = let f = r.each id v at in
    cut s r id v (without_device v) (device_alone v) at (tt, f.1, f.2) (f.0, tt, tt) (left_device v) (right_device v)
    (apart_device v)

pub parts_deed : (id : ℕ) (v : View) → Splits IsKept id v (without_deed v) (deed_alone v)
parts_deed id v s r at = let f = r.each id v at in
    cut s r id v (without_deed v) (deed_alone v) at (f.0, f.1, tt) (tt, tt, f.2) (left_deed v) (right_deed v)
    (apart_deed v)

pub takes_in : (id other : ℕ) (v w : View) → Joins IsKept id v other w (together v w) spent
takes_in id other v w s r at n e =
    let there = there_before s.views id other (together v w) w n e in
    let f = r.each id v at in
    let g = r.each other w there in
    let F : View → Type 0 = Fits r.told r.blocks r.places in
    let both : F (together v w) = (
      some_first (λ d. d ≡ (r.told, r.blocks)) v.device w.device f.0 g.0,
      some_first (λ d. d ≡ (r.told, r.places)) v.desk w.desk f.1 g.1,
      some_first (FitsDeed r.told r.blocks r.places) v.deed w.deed f.2 g.2,
    ) in record {
      told = r.told;
      blocks = r.blocks;
      places = r.places;
      count = r.count;
      home = r.home;
      out = r.out;
      each = each_set F (set s.views id (together v w)) other spent (tt, tt, tt)
          (λ j u _ x. each_set F s.views id (together v w) both (λ i y _ z. r.each i y z) j u x);
      alone = alone_join s.views id other v w (together v w) spent at there (own v w) nothing r.alone;
    }

-- ---- a deed is given

own_given : (told : Bool) (places places' : List Place) (g : Given) (vs : List View) → Nobody (the_deed g.task.block) vs
    → (p : Part) → Has p (desk_with told places' (undone g)) → Has p (desk_view told places) ⊎ Nobody p vs
own_given told places places' g vs n the_device h = inl h
own_given told places places' g vs n the_desk h = inl refl
own_given told places places' g vs n (the_deed k) h = inr (subst (λ j. Nobody (the_deed j) vs) (same_Some _ _ h) n)

pub gives : (slots id : ℕ) (told : Bool) (places : List Place) (g : Given) (c : List (ℕ × ℕ))
    → slice_get places g.task.block ≡ Some (Home g.before)
    → Allows IsKept slots id (desk_view told places, c) 0 (λ n. n)
    (λ n. GivenOut g (desk_view told places, c))
gives slots id told places g c home s r _ at _ =
    let k : ℕ = g.task.block in
    let old : View = desk_view told places in
    let mine = r.each id old at in
    let t : told ≡ r.told = ap (λ (d : Bool × List Place). d.0) mine.1 in
    let same : places ≡ r.places = ap (λ (d : Bool × List Place). d.1) mine.1 in
    let home' : slice_get r.places k ≡ Some (Home g.before) = ap (λ ps. slice_get ps k) (sym same) ∙ home in
    let places' : List Place = slice_set r.places k (Out g) in
    let w : View = desk_with told (slice_set places k (Out g)) (undone g) in
    let nobody : Nobody (the_deed k) s.views = λ i u e h.
    let o = deed_out r.told r.blocks r.places u.deed k (r.each i u e).2 h in
    apart r.places k o.0 g.before o.1 home' in (
      w,
      keeps,
      tt,
      record {
        told = r.told;
        blocks = r.blocks;
        places = places';
        count = length-set r.places k (Out g) ∙ r.count;
        home = λ block now h. ⊎_elim
            (λ (e : (block ≡ k) × (Out g ≡ Home now)). absurd (out_home g now e.1))
            (λ (e : (block ≢ k) × (slice_get r.places block ≡ Some (Home now))). r.home block now e.1)
            (get_set r.places k block (Out g) (Home now) h);
        out = λ block x h. ⊎_elim
            (λ (e : (block ≡ k) × (Out g ≡ Out x)). subst (λ (y : Given). HasOut r.told r.blocks block y)
            (same_given g x e.1)
            (g.before, ap (λ j. slice_get r.blocks j) e.0 ∙ r.home k g.before home', inl refl))
            (λ (e : (block ≢ k) × (slice_get r.places block ≡ Some (Out x))). r.out block x e.1)
            (get_set r.places k block (Out g) (Out x) h);
        each = each_set (Fits r.told r.blocks places') s.views id w (
          tt,
          (λ i. (t i, slice_set (same i) k (Out g))),
          (set_here r.places k (Out g) (Home g.before) home', r.home k g.before home', tt),
        )
            (λ j u n e. still r.told r.blocks r.blocks r.places places' u (r.each j u e) (λ _. refl)
            (λ h. absurd (n (r.alone the_desk j id u old e at h refl)))
            (λ d h f. other_place r.told r.blocks r.places k (Out g) d
            (λ is. nobody j u e (subst (λ b. Has (the_deed b) u) is h)) f));
        alone = alone_set s.views id old w at
            (own_given told places (slice_set places k (Out g)) g s.views nobody) r.alone;
      },
      (refl, refl),
    )

-- ---- a deed is carried out

own_carried : (told : Bool) (blocks blocks' : Blocks) (g : Given) (x : Done) (vs : List View) (p : Part)
    → Has p (device_with told blocks' (carried g x)) → Has p (device_with told blocks (undone g)) ⊎ Nobody p vs
own_carried told blocks blocks' g x vs the_device h = inl refl
own_carried told blocks blocks' g x vs the_desk h = inl h
own_carried told blocks blocks' g x vs (the_deed k) h = inl h

pub carries : (slots id : ℕ) (told : Bool) (blocks : Blocks) (g : Given) (x : Done) (c : List (ℕ × ℕ))
    → (slice_get blocks g.task.block ≡ Some g.before → Comes told g.task g.before x.finished x.left)
    → Allows IsKept slots id (device_with told blocks (undone g), c) 0 (λ n. n)
    (λ n. Carried x (device_with told blocks (undone g), c))
carries slots id told blocks g x c comes s r _ at _ =
    let k : ℕ = g.task.block in
    let old : View = device_with told blocks (undone g) in
    let mine = r.each id old at in
    let t : told ≡ r.told = ap (λ (d : Bool × Blocks). d.0) mine.0 in
    let same : blocks ≡ r.blocks = ap (λ (d : Bool × Blocks). d.1) mine.0 in
    let out : slice_get r.places k ≡ Some (Out g) = mine.2.0 in
    let was : slice_get r.blocks k ≡ Some g.before = mine.2.1 in
    let here : slice_get blocks k ≡ Some g.before = ap (λ bs. slice_get bs k) same ∙ was in
    let blocks' : Blocks = slice_set r.blocks k x.left in
    let w : View = device_with told (slice_set blocks k x.left) (carried g x) in (
      w,
      keeps,
      tt,
      record {
        told = r.told;
        blocks = blocks';
        places = r.places;
        count = r.count ∙ sym (length-set r.blocks k x.left);
        home = λ block now h. set_else r.blocks k block x.left now
            (λ is. apart r.places k g now out (ap (λ j. slice_get r.places j) (sym is) ∙ h)) (r.home block now h);
        out = λ block y h. ⊎_elim
            (λ (is : block ≡ k). subst (λ (z : Given). HasOut r.told blocks' block z)
            (same_given g y (same_Some _ _ (sym out ∙ ap (λ j. slice_get r.places j) (sym is) ∙ h))) (
              x.left,
              ap (λ j. slice_get blocks' j) is ∙ set_here r.blocks k x.left g.before was,
              comes_had r.told g x (subst (λ b. Comes b g.task g.before x.finished x.left) t (comes here)),
            ))
            (λ (n : block ≢ k). let o = r.out block y h in
            (o.0, set_else r.blocks k block x.left o.0 n o.1, o.2))
            (same_or_else block k);
        each = each_set (Fits r.told blocks' r.places) s.views id w (
          (λ i. (t i, slice_set (same i) k x.left)),
          tt,
          (
            out,
            set_here r.blocks k x.left g.before was,
            subst (λ b. Comes b g.task g.before x.finished x.left) t (comes here),
          ),
        )
            (λ j u n e. still r.told r.blocks blocks' r.places r.places u (r.each j u e)
            (λ h. absurd (n (r.alone the_device j id u old e at h refl))) (λ _. refl)
            (λ d h f. other_block r.told r.blocks r.places k x.left d
            (λ is. n (r.alone (the_deed k) j id u old e at (subst (λ b. Has (the_deed b) u) is h) refl)) f));
        alone = alone_set s.views id old w at
            (own_carried told blocks (slice_set blocks k x.left) g x s.views) r.alone;
      },
      (refl, (here, refl)),
    )

-- ---- a deed is taken back

own_taken : (told : Bool) (places places' : List Place) (d : Deed) (vs : List View) (p : Part)
    → Has p (desk_view told places') → Has p (desk_with told places d) ⊎ Nobody p vs
own_taken told places places' d vs the_device h = inl h
own_taken told places places' d vs the_desk h = inl refl
own_taken told places places' d vs (the_deed k) h = absurd (none-some k h)

pub takes_back : (slots id : ℕ) (told : Bool) (places : List Place) (d : Deed) (c : List (ℕ × ℕ))
    → Allows IsKept slots id (desk_with told places d, c) 0 (λ n. n) (λ n. TakenBack (desk_with told places d, c))
takes_back slots id told places d c s r _ at _ =
    let k : ℕ = block_of d in
    let now : Block = block_now d.given d.done in
    let old : View = desk_with told places d in
    let mine = r.each id old at in
    let t : told ≡ r.told = ap (λ (x : Bool × List Place). x.0) mine.1 in
    let same : places ≡ r.places = ap (λ (x : Bool × List Place). x.1) mine.1 in
    let places' : List Place = slice_set r.places k (Home now) in
    let w : View = desk_view told (slice_set places k (Home now)) in (
      w,
      keeps,
      tt,
      record {
        told = r.told;
        blocks = r.blocks;
        places = places';
        count = length-set r.places k (Home now) ∙ r.count;
        home = λ block there h. ⊎_elim
            (λ (e : (block ≡ k) × (Home now ≡ Home there)).
            ap (λ j. slice_get r.blocks j) e.0 ∙ mine.2.1 ∙ ap (λ p. Some (block_in p)) e.1)
            (λ (e : (block ≢ k) × (slice_get r.places block ≡ Some (Home there))). r.home block there e.1)
            (get_set r.places k block (Home now) (Home there) h);
        out = λ block g h. ⊎_elim
            (λ (e : (block ≡ k) × (Home now ≡ Out g)). absurd (out_home g now (sym e.1)))
            (λ (e : (block ≢ k) × (slice_get r.places block ≡ Some (Out g))). r.out block g e.1)
            (get_set r.places k block (Home now) (Out g) h);
        each = each_set (Fits r.told r.blocks places') s.views id w
            (tt, (λ i. (t i, slice_set (same i) k (Home now))), tt)
            (λ j u n e. still r.told r.blocks r.blocks r.places places' u (r.each j u e) (λ _. refl)
            (λ h. absurd (n (r.alone the_desk j id u old e at h refl)))
            (λ other h f. other_place r.told r.blocks r.places k (Home now) other
            (λ is. n (r.alone (the_deed k) j id u old e at (subst (λ b. Has (the_deed b) u) is h) refl)) f));
        alone = alone_set s.views id old w at
            (own_taken told places (slice_set places k (Home now)) d s.views) r.alone;
      },
      (
        refl,
        (
          ap (λ ps. slice_get ps k) same ∙ mine.2.0,
          subst (λ b. IfSome d.done (λ x. Comes b d.given.task d.given.before x.finished x.left)) (sym t) mine.2.2,
          refl,
        ),
      ),
    )

-- ---- the desk and the device's side in one view

own_both : (d d' : Bool × Blocks) (p p' : Bool × List Place) (vs : List View) (part : Part)
    → Has part (both_view d' p') → Has part (both_view d p) ⊎ Nobody part vs
own_both d d' p p' vs the_device h = inl refl
own_both d d' p p' vs the_desk h = inl refl
own_both d d' p p' vs (the_deed k) h = absurd (none-some k h)

pub compares : (slots id : ℕ) (d : Bool × Blocks) (p : Bool × List Place) (c : List (ℕ × ℕ))
    → Allows IsKept slots id (both_view d p, c) 0 (λ n. n) (λ n. Compared (both_view d p, c))
compares slots id d p c s r _ at _ =
    let w : View = both_view d p in
    let mine = r.each id w at in
    let t : d.0 ≡ r.told = ap (λ (x : Bool × Blocks). x.0) mine.0 in
    let bs : d.1 ≡ r.blocks = ap (λ (x : Bool × Blocks). x.1) mine.0 in
    let ps : p.1 ≡ r.places = ap (λ (x : Bool × List Place). x.1) mine.1 in (
      w,
      keeps,
      tt,
      record {
        told = r.told;
        blocks = r.blocks;
        places = r.places;
        count = r.count;
        home = r.home;
        out = r.out;
        each = each_set (Fits r.told r.blocks r.places) s.views id w mine (λ j u _ e. r.each j u e);
        alone = alone_set s.views id w w at (λ part h. inl h) r.alone;
      },
      (
        refl,
        subst (λ (y : Bool × Blocks × List Place). Knows y.0 y.1 y.2) (λ i. (sym t i, sym bs i, sym ps i))
            (record { count = r.count; home = r.home; out = r.out }),
      ),
    )

-- no place is at home or out where there is none
no_deed : (told told' : Bool) (blocks blocks' : Blocks) (places' : List Place) (d : Deed) → FitsDeed told blocks [] d
    → FitsDeed told' blocks' places' d
no_deed told told' blocks blocks' places' d f = absurd (none-some (Out d.given) f.0)

pub opens : (slots id : ℕ) (told : Bool) (blocks : Blocks) (c : List (ℕ × ℕ))
    → Allows IsKept slots id (opening_view, c) 0 (λ n. n)
    (λ n. Opened told blocks (opening_view, c))
opens slots id told blocks c s r _ at _ =
    let mine = r.each id opening_view at in
    let none : r.places ≡ [] = ap (λ (d : Bool × List Place). d.1) (sym mine.1) in
    let w : View = both_view (told, blocks) (told, map Home blocks) in
    let P : View → Type 0 = Fits told blocks (map Home blocks) in (
      w,
      keeps,
      tt,
      record {
        told = told;
        blocks = blocks;
        places = map Home blocks;
        count = length_mapped Home blocks;
        home = λ block now h. let m = mapped_at Home blocks block (Home now) h in
            m.1 ∙ ap (λ p. Some (block_in p)) m.2;
        out = λ block g h. let m = mapped_at Home blocks block (Out g) h in absurd (out_home g m.0 (sym m.2));
        each = each_set P s.views id w (refl, refl, tt) (λ j u n e. let f = r.each j u e in (
          if_some_on u.device (λ d. d ≡ (r.told, r.blocks)) (λ d. d ≡ (told, blocks))
              (λ x i p. absurd (n (r.alone the_device j id u opening_view e at (ap is_some i) refl))) f.0,
          if_some_on u.desk (λ d. d ≡ (r.told, r.places)) (λ d. d ≡ (told, map Home blocks))
              (λ x i p. absurd (n (r.alone the_desk j id u opening_view e at (ap is_some i) refl))) f.1,
          if_some_on u.deed (FitsDeed r.told r.blocks r.places) (FitsDeed told blocks (map Home blocks))
              (λ d i p. no_deed r.told told r.blocks blocks (map Home blocks) d
              (subst (λ ps. FitsDeed r.told r.blocks ps d) none p)) f.2,
        ));
        alone = alone_set s.views id opening_view w at
            (own_both (false, []) (told, blocks) (false, []) (told, map Home blocks) s.views) r.alone;
      },
      (refl, refl),
    )
  where
    length_mapped : {A B : Type 0} (f : A → B) (xs : List A) → length (map f xs) ≡ length xs
    length_mapped f [] = refl
    length_mapped f (x ∷ xs) = ap suc (length_mapped f xs)

pub begins : IsKept (opening (0 ∷ []) [] opening_view)
begins = record {
  told = false;
  blocks = [];
  places = [];
  count = refl;
  home = λ block now h. absurd (none-some (Home now) h);
  out = λ block g h. absurd (none-some (Out g) h);
  each = one;
  alone = λ p i j u v e f h k. first i u e ∙ sym (first j v f);
}
  where
    one : Each (Fits false [] []) (opening_view ∷ [])
    one zero v e = subst (Fits false [] []) (some-injective _ _ e) (refl, refl, tt)
    one (suc j) v e = absurd (some-ne-none v (sym e))

    first : (i : ℕ) (u : View) → get_elem? (opening_view ∷ []) i ≡ some u → i ≡ 0
    first zero u e = refl
    first (suc i) u e = absurd (some-ne-none u (sym e))

-- ---- the steps, at a pass that is known by an equation

pub opens_as : (slots id : ℕ) (me : Me ℕ View) (told : Bool) (blocks : Blocks) → me ≡ (opening_view, [])
    → Allows IsKept slots id me 0 (λ n. n) (λ n. Opened told blocks me)
opens_as slots id me told blocks is =
    subst (λ (m : Me ℕ View). Allows IsKept slots id m 0 (λ n. n) (λ n. Opened told blocks m)) (sym is)
    (opens slots id told blocks [])

pub gives_as : (slots id : ℕ) (me : Me ℕ View) (told : Bool) (places : List Place) (g : Given) → (c : List (ℕ × ℕ))
    → me ≡ (desk_view told places, c) → slice_get places g.task.block ≡ Some (Home g.before)
    → Allows IsKept slots id me 0 (λ n. n) (λ n. GivenOut g me)
gives_as slots id me told places g c is home =
    subst (λ (m : Me ℕ View). Allows IsKept slots id m 0 (λ n. n) (λ n. GivenOut g m)) (sym is)
    (gives slots id told places g c home)

pub carries_as : (slots id : ℕ) (me : Me ℕ View) (told : Bool) (blocks : Blocks) (g : Given) (x : Done)
    (c : List (ℕ × ℕ)) → me ≡ (device_with told blocks (undone g), c)
    → (slice_get blocks g.task.block ≡ Some g.before → Comes told g.task g.before x.finished x.left)
    → Allows IsKept slots id me 0 (λ n. n) (λ n. Carried x me)
carries_as slots id me told blocks g x c is comes =
    subst (λ (m : Me ℕ View). Allows IsKept slots id m 0 (λ n. n) (λ n. Carried x m)) (sym is)
    (carries slots id told blocks g x c comes)

pub takes_back_as : (slots id : ℕ) (me : Me ℕ View) (told : Bool) (places : List Place) (d : Deed) (c : List (ℕ × ℕ))
    → me ≡ (desk_with told places d, c) → Allows IsKept slots id me 0 (λ n. n) (λ n. TakenBack me)
takes_back_as slots id me told places d c is =
    subst (λ (m : Me ℕ View). Allows IsKept slots id m 0 (λ n. n) (λ n. TakenBack m)) (sym is)
    (takes_back slots id told places d c)

pub compares_as : (slots id : ℕ) (me : Me ℕ View) (d : Bool × Blocks) (p : Bool × List Place) (c : List (ℕ × ℕ))
    → me ≡ (both_view d p, c) → Allows IsKept slots id me 0 (λ n. n) (λ n. Compared me)
compares_as slots id me d p c is =
    subst (λ (m : Me ℕ View). Allows IsKept slots id m 0 (λ n. n) (λ n. Compared m)) (sym is)
    (compares slots id d p c)

-- ---- where nothing is out, the desk has the whole device

pub all_home : (told : Bool) (blocks : Blocks) (places : List Place) → Knows told blocks places → NoneOut places
    → places ≡ map Home blocks
all_home told [] [] k n = refl
all_home told [] (p ∷ ps) k n = absurd (let e = k.count in omega arith)
all_home told (b ∷ bs) [] k n = absurd (let e = k.count in omega arith)
all_home told (b ∷ bs) (Out g ∷ ps) k n = absurd (n 0 g refl)
all_home told (b ∷ bs) (Home now ∷ ps) k n =
    let more : length ps ≡ length bs = let e = k.count in omega arith in
    let rest = all_home told bs ps
    (record { count = more; home = λ block x h. k.home (suc block) x h; out = λ block g h. k.out (suc block) g h })
    (λ block g h. n (suc block) g h) in
    λ i. Home (same_Some now b (sym (k.home 0 now refl)) i) ∷ rest i
