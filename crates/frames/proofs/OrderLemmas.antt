-- The turns of frames, as a frame gets another one, and as it waits or waits no more.
use Rattle.std.proofs.Common.{◌≡◌, ◌≢◌, ◌∙◌, sym, ap, subst, refl, ℕ, zero, suc, ◌+◌, ◌*◌, ◌<◌, ◌≤◌, inl, inr, Bool, true, false, List, [], ◌∷◌, length, replicate, get_or, slice_set, arith, get_or-set_same, get_or-set_other, length-set}
use Rattle.std.proofs.lemmas.Bool.{cases_eq, cases_lt, false≢true}
use Rattle.std.proofs.lemmas.Bool.Decides.{eqb_tells}
use Rattle.std.proofs.lemmas.List.{same_lists, get_or_past, get_or-map, get_or-replicate, length-map, length-replicate, set-get_or}
use Rattle.frames.specs.Sets.{members, is_in}
use Rattle.frames.specs.Order.{turn_of, NoneWaits, KeepsOrder, by_frame, IsOfFrames, IsNumbered}
use Rattle.frames.specs.Lists.{has, IsWithoutDoubles}
use Rattle.frames.proofs.SetLemmas.{some_member}
use Rattle.frames.proofs.ListLemmas.{few_frames, has-other}

-- a flag is not set, since it would contradict something
pub not_set : (b : Bool) → (b ≡ true → ⊥) → b ≡ false
not_set true h = absurd (h refl)
not_set false h = refl

-- a flag that is not set stays so where it is cleared
pub unset : (set : List Bool) (k : ℕ) → is_in set k ≡ false → slice_set set k false ≡ set
unset set k e = ap (λ b. slice_set set k b) (sym e) ∙ set-get_or set k false

pub length-by_frame : (set : List Bool) (turns : List ℕ) → length (by_frame set turns) ≡ length turns
length-by_frame set turns = length-map turns (λ t. is_in set t)

pub by_frame_at : (set : List Bool) (turns : List ℕ) (f : ℕ) (d : Bool) → f < length turns → get_or (by_frame set turns) f d ≡ is_in set (turn_of turns f)
by_frame_at set turns f d h = get_or-map (λ t. is_in set t) turns f 0 d h

-- none waits where the set is empty
pub none_of_empty : (set : List Bool) (turns : List ℕ) → ((t : ℕ) → is_in set t ≡ false) → NoneWaits (by_frame set turns)
none_of_empty set turns empty f =
    elim (cases_lt f (length turns)) [
      | inl h ↦ by_frame_at set turns f false h ∙ empty (turn_of turns f)
      | inr h ↦ get_or_past (by_frame set turns) f false (omega (arith, length-by_frame set turns))
    ]

pub empty_of_total : (set : List Bool) → members set ≡ 0 → (t : ℕ) → is_in set t ≡ false
empty_of_total set none t =
    elim (cases_lt t (length set)) [
      | inl h ↦ not_set (is_in set t) (λ e. omega (arith, some_member set t h e))
      | inr h ↦ get_or_past set t false h
    ]

module _ (turns frames : List ℕ) (next : ℕ) (active inactive : List Bool) (n : IsNumbered turns frames next active inactive) where
  -- no two frames have one turn
  pub one_turn : (f g : ℕ) → f < length turns → g < length turns → turn_of turns f ≡ turn_of turns g → f ≡ g
  one_turn f g in_f in_g e = sym (n.of_frame f in_f).1 ∙ ap (λ t. get_or frames t 0) e ∙ (n.of_frame g in_g).1

  module _ (set : List Bool) (o : IsOfFrames turns frames set) where
    -- a frame waits, or no more
    module _ (f : ℕ) (in_f : f < length turns) (waits : Bool) where
      turn_within : turn_of turns f < length set
      turn_within = omega (arith, (n.of_frame f in_f).0, n.given, o.size)

      pub marked : by_frame (slice_set set (turn_of turns f) waits) turns ≡ slice_set (by_frame set turns) f waits
      marked =
          let long = length-by_frame set turns in
          let now = slice_set set (turn_of turns f) waits in
          same_lists (by_frame now turns) (slice_set (by_frame set turns) f waits)
          (length-by_frame now turns ∙ sym (length-set (by_frame set turns) f waits ∙ long))
          (λ g d h.
          let in_g : g < length turns = omega (arith, length-by_frame now turns) in
          by_frame_at now turns g d in_g
          ∙ elim (cases_eq g f) [
            | inl s ↦
                ap (λ k. is_in now (turn_of turns k)) s
                ∙ get_or-set_same set (turn_of turns f) waits false turn_within
                ∙ sym (ap (λ k. get_or (slice_set (by_frame set turns) f waits) k d) s
                ∙ get_or-set_same (by_frame set turns) f waits d (omega arith))
            | inr ne ↦
                get_or-set_other set (turn_of turns f) (turn_of turns g) waits false (λ e. ne (one_turn g f in_g in_f e))
                ∙ sym (get_or-set_other (by_frame set turns) f g waits d ne ∙ by_frame_at set turns g d in_g)
          ])

    -- a frame gets a turn that no other has
    module _ (f t : ℕ) (in_f : f < length turns) (free : (g : ℕ) → g < length turns → turn_of turns g ≡ t → g ≡ f) (in_t : t < length frames) where
      abbrev pub renamed : List Bool
      renamed = slice_set (slice_set set (turn_of turns f) false) t (is_in set (turn_of turns f))

      old_within : turn_of turns f < length set
      old_within = omega (arith, (n.of_frame f in_f).0, n.given, o.size)

      renamed_other : (s : ℕ) → s ≢ t → s ≢ turn_of turns f → is_in renamed s ≡ is_in set s
      renamed_other s not_t not_old =
          get_or-set_other (slice_set set (turn_of turns f) false) t s (is_in set (turn_of turns f)) false not_t
          ∙ get_or-set_other set (turn_of turns f) s false false not_old

      renamed_here : is_in renamed t ≡ is_in set (turn_of turns f)
      renamed_here =
          get_or-set_same (slice_set set (turn_of turns f) false) t (is_in set (turn_of turns f)) false
          (omega (arith, length-set set (turn_of turns f) false, o.size))

      pub renamed_set : IsOfFrames (slice_set turns f t) (slice_set frames t f) renamed
      renamed_set = record {
        size = length-set (slice_set set (turn_of turns f) false) t (is_in set (turn_of turns f)) ∙ length-set set (turn_of turns f) false ∙ o.size ∙ sym (length-set frames t f);
        held = λ s here. elim (cases_eq s t) [
          | inl e ↦
              ap (λ k. turn_of (slice_set turns f t) (get_or (slice_set frames t f) k 0)) e
              ∙ ap (turn_of (slice_set turns f t)) (get_or-set_same frames t f 0 in_t)
              ∙ get_or-set_same turns f t 0 in_f
              ∙ sym e
          | inr ne ↦ elim (cases_eq s (turn_of turns f)) [
            | inl e ↦
                absurd (false≢true (sym (get_or-set_other (slice_set set (turn_of turns f) false) t s (is_in set (turn_of turns f)) false ne
                ∙ ap (λ k. is_in (slice_set set (turn_of turns f) false) k) e
                ∙ get_or-set_same set (turn_of turns f) false false old_within) ∙ here))
            | inr other ↦
                let turn = o.held s (sym (renamed_other s ne other) ∙ here) in
                let not_f : get_or frames s 0 ≢ f = λ e. other (sym turn ∙ ap (turn_of turns) e) in
                ap (turn_of (slice_set turns f t)) (get_or-set_other frames t s f 0 ne)
                ∙ get_or-set_other turns f (get_or frames s 0) t 0 not_f
                ∙ turn
          ]
        ];
      }

      pub renamed_same : by_frame renamed (slice_set turns f t) ≡ by_frame set turns
      renamed_same =
          let turns' = slice_set turns f t in
          same_lists (by_frame renamed turns') (by_frame set turns)
          (length-by_frame renamed turns' ∙ length-set turns f t ∙ sym (length-by_frame set turns))
          (λ g d h.
          let in_g : g < length turns = omega (arith, length-by_frame renamed turns', length-set turns f t) in
          by_frame_at renamed turns' g d (omega (arith, length-set turns f t))
          ∙ elim (cases_eq g f) [
            | inl s ↦
                ap (λ k. is_in renamed (turn_of turns' k)) s
                ∙ ap (is_in renamed) (get_or-set_same turns f t 0 in_f)
                ∙ renamed_here
                ∙ ap (λ k. is_in set (turn_of turns k)) (sym s)
            | inr ne ↦
                ap (is_in renamed) (get_or-set_other turns f g t 0 ne)
                ∙ renamed_other (turn_of turns g) (λ e. ne (free g in_g e)) (λ e. ne (one_turn g f in_g in_f e))
          ]
          ∙ sym (by_frame_at set turns g d in_g))

  -- a frame gets a turn that no other has, in the table and in both sets
  module _ (f t : ℕ) (in_f : f < length turns) (free : (g : ℕ) → g < length turns → turn_of turns g ≡ t → g ≡ f) (in_t : t < length turns * 4) where
    pub in_frames : t < length frames
    in_frames = omega (arith, n.room)

    pub renumbered : (next' : ℕ) → t < next' → next' ≤ length frames → ((g : ℕ) → g < length turns → g ≢ f → turn_of turns g < next') → (active' inactive' : List Bool)
        → active' ≡ renamed active n.actives f t in_f free in_frames
        → inactive' ≡ renamed inactive n.inactives f t in_f free in_frames
        → IsNumbered (slice_set turns f t) (slice_set frames t f) next' active' inactive'
    renumbered next' here fits others active' inactive' of_active of_inactive =
        let size = length-set turns f t in
        let long = length-set frames t f in
        record {
          few = omega (arith, n.few, size);
          room = omega (arith, n.room, size, long);
          given = omega (arith, fits, long);
          of_frame = λ g h.
              let in_g : g < length turns = omega (arith, size) in
              elim (cases_eq g f) [
                | inl s ↦
                    let turn : turn_of (slice_set turns f t) g ≡ t = ap (turn_of (slice_set turns f t)) s ∙ get_or-set_same turns f t 0 in_f in (
                      omega (arith, here),
                      ap (λ k. get_or (slice_set frames t f) k 0) turn ∙ get_or-set_same frames t f 0 in_frames ∙ sym s,
                    )
                | inr ne ↦
                    let turn = get_or-set_other turns f g t 0 ne in
                    let was = n.of_frame g in_g in (
                      omega (arith, others g in_g ne),
                      ap (λ k. get_or (slice_set frames t f) k 0) turn
                          ∙ get_or-set_other frames t (turn_of turns g) f 0 (λ e. ne (free g in_g e))
                          ∙ was.1,
                    )
              ];
          of_turn = λ s h. elim (cases_eq s t) [
            | inl e ↦
                let here = ap (λ k. get_or (slice_set frames t f) k 0) e ∙ get_or-set_same frames t f 0 in_frames in
                omega (arith, in_f, size)
            | inr ne ↦
                let other = get_or-set_other frames t s f 0 ne in
                omega (arith, n.of_turn s (omega (arith, long)), size)
          ];
          actives = let P : List Bool → Type 0 = λ (set : List Bool). IsOfFrames (slice_set turns f t) (slice_set frames t f) set in
              subst P (sym of_active) (renamed_set active n.actives f t in_f free in_frames);
          inactives = let P : List Bool → Type 0 = λ (set : List Bool). IsOfFrames (slice_set turns f t) (slice_set frames t f) set in
              subst P (sym of_inactive) (renamed_set inactive n.inactives f t in_f free in_frames);
        }

  -- a frame that does not wait gets a turn after all others
  module _ (f t : ℕ) (in_f : f < length turns) (later : (g : ℕ) → g < length turns → turn_of turns g < t) (in_t : t < length turns * 4) where
    pub free_of : (g : ℕ) → g < length turns → turn_of turns g ≡ t → g ≡ f
    free_of g in_g e = absurd (omega (arith, later g in_g))

    pub not_given : (set : List Bool) → IsOfFrames turns frames set → is_in set t ≡ false
    not_given set o =
        not_set (is_in set t) (λ here. let held = o.held t here in omega (arith, held, later (get_or frames t 0) (n.of_turn t (omega (arith, n.room)))))

    pub renamed_nothing : (set : List Bool) (o : IsOfFrames turns frames set) → is_in (by_frame set turns) f ≡ false
        → set ≡ renamed set o f t in_f free_of (omega (arith, n.room))
    renamed_nothing set o idle =
        let was : is_in set (turn_of turns f) ≡ false = sym (by_frame_at set turns f false in_f) ∙ idle in
        sym (ap (λ b. slice_set (slice_set set (turn_of turns f) false) t b) was
        ∙ ap (λ (s : List Bool). slice_set s t false) (unset set (turn_of turns f) was)
        ∙ unset set t (not_given set o))

    pub appended : (set : List Bool) (o : IsOfFrames turns frames set) → is_in (by_frame set turns) f ≡ false
        → by_frame set (slice_set turns f t) ≡ by_frame set turns
    appended set o idle =
        ap (λ (s : List Bool). by_frame s (slice_set turns f t)) (renamed_nothing set o idle)
        ∙ renamed_same set o f t in_f free_of (omega (arith, n.room))

-- the turns before t were given anew from 0 on, `given` of them. All were before `end`
pub record IsPacked (old : List ℕ) (t end given : ℕ) (now : List ℕ) : Type 0 where
  pub few : given ≤ t
  pub order : KeepsOrder old now
  pub before : (f : ℕ) → f < length old → turn_of now f < end
  pub gap : (f : ℕ) → f < length old → turn_of now f < t → turn_of now f < given
  pub dense : (s : ℕ) → s < given → (f : ℕ) × (f < length old) × (turn_of now f ≡ s)

-- a turn that no frame has
pub packed_hole : (old : List ℕ) (t end given : ℕ) (now : List ℕ) → IsPacked old t end given now → ((f : ℕ) → f < length old → turn_of now f ≢ t) → IsPacked old (t + 1) end given now
packed_hole old t end given now p hole = record {
  few = omega (arith, p.few);
  order = p.order;
  before = p.before;
  gap = λ f in_f less. p.gap f in_f (let other = hole f in_f in omega arith);
  dense = p.dense;
}

-- the turn of a frame
pub packed_more : (old : List ℕ) (t end given : ℕ) (now : List ℕ) (f : ℕ) → IsPacked old t end given now → f < length old → turn_of now f ≡ t → ((g : ℕ) → g < length old → turn_of now g ≡ t → g ≡ f) → IsPacked old (t + 1) end (given + 1) (slice_set now f given)
packed_more old t end given now f p in_f turn alone =
    let here : turn_of (slice_set now f given) f ≡ given = get_or-set_same now f given 0 (omega (arith, p.order.size)) in
    let other : (g : ℕ) → g ≢ f → turn_of (slice_set now f given) g ≡ turn_of now g = λ g ne. get_or-set_other now f g given 0 ne in
    let at : (g : ℕ) → g ≡ f → turn_of (slice_set now f given) g ≡ given = λ g e. ap (turn_of (slice_set now f given)) e ∙ here in
    let was : (g : ℕ) → g ≡ f → turn_of now g ≡ t = λ g e. ap (turn_of now) e ∙ turn in
    record {
      few = omega (arith, p.few);
      order = record {
        size = length-set now f given ∙ p.order.size;
        order = λ g h in_g in_h less.
            let less_now = p.order.order g h in_g in_h less in
            elim (cases_eq g f) [
              | inl e ↦ elim (cases_eq h f) [
                | inl d ↦ absurd (omega (arith, was g e, was h d))
                | inr ne ↦ omega (arith, at g e, was g e, other h ne, p.few)
              ]
              | inr ne ↦ elim (cases_eq h f) [
                | inl d ↦ omega (arith, other g ne, at h d, p.gap g in_g (omega (arith, was h d)))
                | inr not_h ↦ omega (arith, other g ne, other h not_h)
              ]
            ];
      };
      before = λ g in_g. elim (cases_eq g f) [
        | inl e ↦ omega (arith, at g e, p.few, p.before f in_f)
        | inr ne ↦ omega (arith, other g ne, p.before g in_g)
      ];
      gap = λ g in_g less. elim (cases_eq g f) [
        | inl e ↦ omega (arith, at g e)
        | inr ne ↦
            let not_t : turn_of now g ≢ t = λ e. ne (alone g in_g e) in
            omega (arith, other g ne, p.gap g in_g (omega (arith, other g ne)))
      ];
      dense = λ s less. elim (cases_eq s given) [
        | inl e ↦ (f, in_f, here ∙ sym e)
        | inr ne ↦
            let d = p.dense s (omega arith) in
            let not_f : d.0 ≢ f = λ e. let same = was d.0 e in omega (arith, d.2, p.few) in
            (d.0, d.1, other d.0 not_f ∙ d.2)
      ];
    }

pub packed_is : (old : List ℕ) (t end given given' : ℕ) (now now' : List ℕ) → given' ≡ given → now' ≡ now → IsPacked old t end given now → IsPacked old t end given' now'
packed_is old t end given given' now now' of_given of_now p =
    let P : ℕ → Type 0 = λ (k : ℕ). IsPacked old t end k now' in
    let Q : List ℕ → Type 0 = λ (ts : List ℕ). IsPacked old t end given ts in
    subst P (sym of_given) (subst Q (sym of_now) p)

-- no more turns are given than there are frames
module _ (turns : List ℕ) (n k : ℕ) (given : (s : ℕ) → s < k → (f : ℕ) × (f < n) × (turn_of turns f ≡ s)) where
  -- the frames of the first j turns, the last one first
  first_frames : (j : ℕ) → j ≤ k → List ℕ
  first_frames zero h = []
  first_frames (suc j) h = (given j (omega arith)).0 ∷ first_frames j (omega arith)

  first_frames-are : (j : ℕ) (h : j ≤ k) → (length (first_frames j h) ≡ j) × ((f : ℕ) → has f (first_frames j h) ≡ true → (f < n) × (turn_of turns f < j)) × IsWithoutDoubles (first_frames j h)
  unfolding first_frames
  first_frames-are zero h = (refl, (λ f there. absurd (false≢true there)), tt)
  first_frames-are (suc j) h =
      let g = given j (omega arith) in
      let rest = first_frames-are j (omega arith) in (
        omega (arith, rest.0),
        (λ f there. elim (eqb_tells g.0 f) [
          | inl s ↦
              let turn : turn_of turns f ≡ j = ap (turn_of turns) (sym s.1) ∙ g.2 in
              let below : f < n = (let e = s.1 in omega (arith, g.1)) in
              (below, omega arith)
          | inr d ↦ let k = rest.1 f (sym (has-other f g.0 (first_frames j (omega arith)) d.1) ∙ there) in (k.0, omega (arith, k.1))
        ]),
        (not_set (has g.0 (first_frames j (omega arith))) (λ there. omega (arith, (rest.1 g.0 there).1, g.2)), rest.2),
      )

  pub few_given : k ≤ n
  few_given =
      let all = first_frames-are k (omega arith) in
      let few = few_frames n (first_frames k (omega arith)) all.2 (λ f there. (all.1 f there).0) in
      omega (arith, all.0)

pub none_in : (n t : ℕ) → is_in (replicate n false) t ≡ false
none_in n t =
    elim (cases_lt t n) [
      | inl h ↦ get_or-replicate n t false false h
      | inr h ↦ get_or_past (replicate n false) t false (omega (arith, length-replicate n false))
    ]

pub waits_none : (n count : ℕ) (set : List Bool) (turns : List ℕ) → set ≡ replicate n false → length turns ≡ count → by_frame set turns ≡ replicate count false
waits_none n count set turns e size =
    same_lists (by_frame set turns) (replicate count false)
    (length-by_frame set turns ∙ size ∙ sym (length-replicate count false))
    (λ f d h.
    by_frame_at set turns f d (omega (arith, length-by_frame set turns))
    ∙ ap (λ (s : List Bool). is_in s (turn_of turns f)) e
    ∙ none_in n (turn_of turns f)
    ∙ sym (get_or-replicate count f false d (omega (arith, length-by_frame set turns))))

-- each frame has the turn of its own number
pub numbered_new : (count : ℕ) (turns frames : List ℕ) (active inactive : List Bool) → count ≤ 65536
    → length turns ≡ count → length frames ≡ count * 4 → ((k : ℕ) → k < count → get_or turns k 0 ≡ k)
    → ((k : ℕ) → k < count → get_or frames k 0 ≡ k) → ((k : ℕ) → count ≤ k → get_or frames k 0 ≡ 0)
    → active ≡ replicate (count * 4) false → inactive ≡ replicate (count * 4) false
    → IsNumbered turns frames count active inactive
numbered_new count turns frames active inactive few size room turn frame rest of_active of_inactive =
    let empty : (set : List Bool) → set ≡ replicate (count * 4) false → IsOfFrames turns frames set = λ set e. record {
      size = ap (λ (s : List Bool). length s) e ∙ length-replicate (count * 4) false ∙ sym room;
      held = λ t here. absurd (false≢true (sym (ap (λ (s : List Bool). is_in s t) e ∙ none_in (count * 4) t) ∙ here));
    } in
    record {
      few = omega arith;
      room = omega arith;
      given = omega arith;
      of_frame = λ f h.
          let in_f : f < count = omega arith in
          let is : turn_of turns f ≡ f = turn f in_f in
          (omega arith, ap (λ t. get_or frames t 0) is ∙ frame f in_f);
      of_turn = λ t h. elim (cases_lt t count) [
        | inl below ↦ omega (arith, frame t below)
        | inr past ↦ omega (arith, rest t past)
      ];
      actives = empty active of_active;
      inactives = empty inactive of_inactive;
    }
