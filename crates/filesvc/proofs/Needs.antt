-- What a call needs still: with each page that is filled it lacks one page less, and the room that was made for it lasts.
use Rattle.std.proofs.Common.{◌≡◌, ℕ, ◌+◌, ◌-◌, ◌<◌, ◌≤◌, Bool, true, false, cond, length, refl, ap, sym, subst, ◌∙◌, arith, inl, inr}
use Rattle.std.specs.Prelude.{◌&&◌, ◌⊎◌, not, is_some, Option, Some, None, nat_le, nat_lt, slice_index_or, count_by, unwrap_or, if◌then◌else◌}
use Rattle.std.specs.FinMap as finmap
use Rattle.std.proofs.lemmas.Bool.Decides.{nat_tests}
use Rattle.pc_types.specs.Limits.{Sizes}
use Rattle.pc_types.specs.declared.limits.TheConstants.{MAX_FILE_SIZE, MAX_TOUCHED}
use Rattle.pc_types.specs.declared.refusal.Refusal.{Refusal}
use Rattle.pc_types.specs.declared.refusal.Refusal.TheVariants.{DirtyLimit, NoFrame}
use Rattle.machine.specs.Changes.{put_page}
use Rattle.machine.specs.State.{State, Page, dirty_total, file_at, handle_file, filling_total, free_frames, is_cached, tags_at, no_file, page_at, page_count, tags_of, touched, touched_count}
use Rattle.filesvc.specs.Rooms.{first_page, last_page, IsClean, IsMissed, StaysAbsent, Suffices, need}
use Rattle.cachecore.specs.Wants.{dirtied, frames_short, lacking, lacks_frames, may_touch, passes_limit}
use Rattle.cachecore.proofs.TouchCounts.{count_below}
use Rattle.maps.proofs.Count.{count_of}
use Rattle.runs.proofs.moments.FrameCounts.{cached_set, filling_is, is_live_fill}
use Rattle.maps.proofs.Lengths.{count_empty, count_put, len_put}
use Rattle.runs.proofs.events.Lookups.{page_at-put_page}
use Rattle.runs.proofs.views.View.{put2, put2_tells}
use Rattle.filesvc.specs.Seen.{SoloSeen}
use Rattle.filesvc.specs.Service.{Serves, wants}
use Rattle.filesvc.proofs.Lightens.{dirty_set}
use Rattle.filesvc.proofs.Touched.{count_le, count_less}

-- ---- a page that is filled

-- an absent page of a file is cached now, without tags, and no request is in flight
pub record Fills (s new : State) (f p : ℕ) : Type 0 where
  pub page : Page
  pub clean : page.tags.dirty ≡ false
  pub sizes : new.sizes ≡ s.sizes
  pub handles : new.handles ≡ s.handles
  pub files : new.files ≡ (put_page s f p page).files
  pub before : s.requests ≡ finmap.empty
  pub after : new.requests ≡ finmap.empty

not_true_of : (a b : Bool) → (b ≡ true → a ≡ true) → not a ≡ true → not b ≡ true
not_true_of true b h e = absurd cc
not_true_of false true h e = absurd (let x = h refl in cc)
not_true_of false false h e = refl

pub none_filling : (s : State) → s.requests ≡ finmap.empty → filling_total s ≡ 0
none_filling s e = let b = filling_is s in let c = ap (count_of is_live_fill) e in let d = count_empty is_live_fill in omega arith

module _ (s new : State) (f p : ℕ) (here : f < length s.files) (absent : is_cached s f p ≡ false) (w : Fills s new f p) where
  at : (g q : ℕ) → page_at new g q ≡ put2 (page_at s) f p (Some w.page) g q
  at g q = ap (λ fs. finmap.get (slice_index_or fs g no_file).pages q) w.files ∙ page_at-put_page s f p w.page here g q

  cached_now : is_cached new f p ≡ true
  cached_now = elim (put2_tells (page_at s) f p (Some w.page) f p) [ inl k ↦ ap is_some (at f p ∙ k.2) | inr k ↦ absurd (k.0 refl refl) ]

  still_cached : (q : ℕ) → is_cached s f q ≡ true → is_cached new f q ≡ true
  still_cached q e = elim (put2_tells (page_at s) f p (Some w.page) f q) [ inl k ↦ ap is_some (at f q ∙ k.2) | inr k ↦ ap is_some (at f q ∙ k.1) ∙ e ]

  still_dirty : (q : ℕ) → (tags_at s f q).dirty ≡ true → (tags_at new f q).dirty ≡ true
  still_dirty q e = elim (put2_tells (page_at s) f p (Some w.page) f q) [
    | inl k ↦ absurd (never (page_at s f p) absent (ap (λ x. (tags_at s f x).dirty) (sym k.1) ∙ e))
    | inr k ↦ ap (λ o. (tags_of o).dirty) (at f q ∙ k.1) ∙ e
  ]
    where
      never : (o : Option Page) → is_some o ≡ false → (tags_of o).dirty ≡ true → ⊥
      never None e k = absurd cc
      never (Some x) e k = absurd cc

  no_more_dirty : dirty_total new ≤ dirty_total s
  no_more_dirty =
      let a = dirty_set s new f (record (file_at s f) { pages = finmap.insert (file_at s f).pages p w.page }) here w.files in
      let b = count_put (λ (x : Page). x.tags.dirty) (file_at s f).pages p w.page in
      let c : ◌≡◌ {A = ℕ} (cond w.page.tags.dirty 1 0) 0 = ap (λ b. cond b 1 0) w.clean in omega arith

  one_frame : free_frames s ≤ free_frames new + 1
  one_frame =
      let a = cached_set s new f (record (file_at s f) { pages = finmap.insert (file_at s f).pages p w.page }) here w.files in
      let b = len_put (file_at s f).pages p w.page in
      let c = none_filling s w.before in
      let d = none_filling new w.after in
      let e : new.sizes.frames ≡ s.sizes.frames = ap (λ (z : Sizes). z.frames) w.sizes in omega arith

  -- of the pages that n bytes at o touch
  module _ (o n : ℕ) (first : first_page s.sizes.page o ≤ p) (last : p ≤ last_page s.sizes.page o n) where
    one_less : lacking new f o n + 1 ≤ lacking s f o n
    one_less = subst (λ (z : Sizes). count_by (λ q. not (is_cached new f q)) (touched z.page o n) + 1 ≤ lacking s f o n) (sym w.sizes)
        (count_less (λ q. not (is_cached new f q)) (λ q. not (is_cached s f q)) (λ q. not_true_of (is_cached new f q) (is_cached s f q) (still_cached q)) (first_page s.sizes.page o) (touched_count s.sizes.page o n) p first (within (first_page s.sizes.page o) (last_page s.sizes.page o n) p first last) (ap not absent) (ap not cached_now))
      where
        within : (a b p : ℕ) → a ≤ p → p ≤ b → p < a + (b + 1 - a)
        within a b p l m = omega arith

    no_more_dirtied : dirtied new f o n ≤ dirtied s f o n
    no_more_dirtied = subst (λ (z : Sizes). count_by (λ q. not (tags_at new f q).dirty) (touched z.page o n) ≤ dirtied s f o n) (sym w.sizes)
        (count_le (λ q. not (tags_at new f q).dirty) (λ q. not ((tags_at s f q).dirty)) (λ q. not_true_of ((tags_at new f q).dirty) ((tags_at s f q).dirty) (still_dirty q)) (touched s.sizes.page o n))

-- ---- what a call wants, as numbers

-- T pages are touched, L of them are absent, F frames are free; D pages are DIRTY, and with d more they are too many past m
abbrev wanted : Bool → Bool → ℕ → ℕ → ℕ → ℕ → ℕ → Option Refusal
wanted w may F L d D m = if may && nat_lt F L then Some NoFrame else if w && (may && (nat_lt 0 d && nat_lt m (D + d))) then Some DirtyLimit else None

lacks_not : (F L G K : ℕ) → nat_lt F L ≡ false → K + 1 ≤ L → F ≤ G + 1 → nat_lt G K ≡ false
lacks_not F L G K e a b = grind (arith, nat_tests)

passes_not : (d D e E m : ℕ) → (nat_lt 0 d && nat_lt m (D + d)) ≡ false → e ≤ d → E ≤ D → (nat_lt 0 e && nat_lt m (E + e)) ≡ false
passes_not d D e E m h a b = by (nat_lt 0 d) (nat_lt m (D + d)) (nat_lt 0 e) (nat_lt m (E + e)) refl refl refl refl h
  where
    by : (x y z v : Bool) → nat_lt 0 d ≡ x → nat_lt m (D + d) ≡ y → nat_lt 0 e ≡ z → nat_lt m (E + e) ≡ v → (x && y) ≡ false → (z && v) ≡ false
    by true true z v i j k l h = absurd cc
    by true false true true i j k l h = absurd (grind (arith, nat_tests))
    by false y true true i j k l h = absurd (grind (arith, nat_tests))
    by x y true false i j k l h = refl
    by x y false v i j k l h = refl

still_none : (w may : Bool) (F L d D m G K e E : ℕ) → wanted w may F L d D m ≡ None → K + 1 ≤ L → F ≤ G + 1 → e ≤ d → E ≤ D → wanted w may G K e E m ≡ None
still_none w false F L d D m G K e E h a b c k = no_way w
  where
    no_way : (w : Bool) → (if w && false then Some DirtyLimit else None) ≡ None
    no_way true = refl
    no_way false = refl
still_none w true F L d D m G K e E h a b c k = by (nat_lt F L) refl h
  where
    by : (x : Bool) → nat_lt F L ≡ x → (if x then Some NoFrame else if w && (nat_lt 0 d && nat_lt m (D + d)) then Some DirtyLimit else None) ≡ None → wanted w true G K e E m ≡ None
    by true i h = absurd cc
    by false i h = ap (λ x. if x then Some NoFrame else if w && (nat_lt 0 e && nat_lt m (E + e)) then Some DirtyLimit else None) (lacks_not F L G K i a b) ∙ limit w h
      where
        limit : (w : Bool) → (if w && (nat_lt 0 d && nat_lt m (D + d)) then Some DirtyLimit else None) ≡ None → (if w && (nat_lt 0 e && nat_lt m (E + e)) then Some DirtyLimit else None) ≡ None
        limit false h = refl
        limit true h = ap (λ x. if x then Some DirtyLimit else None) (passes_not d D e E m (left (nat_lt 0 d && nat_lt m (D + d)) h) c k)
          where
            left : (x : Bool) → (if x then Some DirtyLimit else None) ≡ None → x ≡ false
            left true e = absurd cc
            left false e = refl

-- ---- how many frames are short

-- so many fewer are free than pages are lacking
abbrev short_of : Bool → ℕ → ℕ → ℕ
short_of may L F = if may then L - F else 0

short_lacks : (s : State) (h o n : ℕ) → lacks_frames s h o n ≡ nat_lt 0 (frames_short s h o n)
short_lacks s h o n = by (may_touch s h o n) (free_frames s) (lacking s (handle_file s h) o n)
  where
    by : (may : Bool) (F L : ℕ) → (may && nat_lt F L) ≡ nat_lt 0 (short_of may L F)
    by false F L = refl
    by true F L = grind (arith, nat_tests)

-- so a call lacks frames exactly if some are short
pub short_some : (s : State) (h o n k : ℕ) → k ≡ frames_short s h o n → 0 < k → lacks_frames s h o n ≡ true
short_some s h o n k is some = short_lacks s h o n ∙ ap (nat_lt 0) (sym is) ∙ grind (arith, nat_tests)

pub short_none : (s : State) (h o n k : ℕ) → k ≡ frames_short s h o n → k ≤ 0 → lacks_frames s h o n ≡ false
short_none s h o n k is none = short_lacks s h o n ∙ ap (nat_lt 0) (sym is) ∙ grind (arith, nat_tests)

-- where a frame more is free at most, and no page has become cached, one less is short at most
pub short_after : (s t : SoloSeen) (h o n : ℕ) → Serves s t → StaysAbsent s.world.core t.world.core → free_frames t.world.core ≤ free_frames s.world.core + 1
    → frames_short s.world.core h o n ≤ frames_short t.world.core h o n + 1
short_after s t h o n k absent free =
    let old = s.world.core in
    let new = t.world.core in
    let file : handle_file new h ≡ handle_file old h = ap (λ (x : finmap.FinMap _ ℕ). unwrap_or (finmap.get x h) 0) k.keeps.handles in
    let may : may_touch new h o n ≡ may_touch old h o n = λ i. is_some (finmap.get (k.keeps.handles i) h) && nat_lt 0 n && nat_le (touched_count (k.keeps.sizes i).page o n) MAX_TOUCHED && nat_le (o + n) MAX_FILE_SIZE in
    let more : lacking old (handle_file old h) o n ≤ lacking new (handle_file old h) o n =
    subst (λ (z : Sizes). lacking old (handle_file old h) o n ≤ count_by (λ q. not (is_cached new (handle_file old h) q)) (touched z.page o n)) (sym k.keeps.sizes)
    (count_le (λ q. not (is_cached old (handle_file old h) q)) (λ q. not (is_cached new (handle_file old h) q)) (λ q e. ap not (absent (handle_file old h) q (not_false (is_cached old (handle_file old h) q) e))) (touched old.sizes.page o n)) in
    let same : frames_short new h o n ≡ short_of (may_touch old h o n) (lacking new (handle_file old h) o n) (free_frames new) = λ i. short_of (may i) (lacking new (file i) o n) (free_frames new) in
    let less = by (may_touch old h o n) (free_frames old) (free_frames new) (lacking old (handle_file old h) o n) (lacking new (handle_file old h) o n) more free in omega arith
  where
    not_false : (b : Bool) → not b ≡ true → b ≡ false
    not_false true e = absurd cc
    not_false false e = refl

    by : (may : Bool) (F G L M : ℕ) → L ≤ M → G ≤ F + 1 → short_of may L F ≤ short_of may M G + 1
    by false F G L M a b = omega arith
    by true F G L M a b = omega arith

-- ---- which room that is

module _ (w : Bool) (s : State) (h o n : ℕ) where
  pub wants_frames : lacks_frames s h o n ≡ true → wants w s h o n ≡ Some NoFrame
  wants_frames e = ap (λ b. if b then Some NoFrame else if w && passes_limit s h o n then Some DirtyLimit else None) e

  pub wants_clean : lacks_frames s h o n ≡ false → (w && passes_limit s h o n) ≡ true → wants w s h o n ≡ Some DirtyLimit
  wants_clean e k = λ i. if e i then Some NoFrame else if k i then Some DirtyLimit else None

  pub wants_none : lacks_frames s h o n ≡ false → (w && passes_limit s h o n) ≡ false → wants w s h o n ≡ None
  wants_none e k = λ i. if e i then Some NoFrame else if k i then Some DirtyLimit else None

  -- frames that are lacking, or too many dirty pages
  pub wants_why : (why : Refusal) → wants w s h o n ≡ Some why → (why ≡ NoFrame) × (lacks_frames s h o n ≡ true) ⊎ (why ≡ DirtyLimit) × (passes_limit s h o n ≡ true)
  wants_why why e = by (lacks_frames s h o n) w (passes_limit s h o n) refl refl e
    where
      by : (a b c : Bool) → lacks_frames s h o n ≡ a → passes_limit s h o n ≡ c → (if a then Some NoFrame else if b && c then Some DirtyLimit else None) ≡ Some why → (why ≡ NoFrame) × (lacks_frames s h o n ≡ true) ⊎ (why ≡ DirtyLimit) × (passes_limit s h o n ≡ true)
      by true b c i j k = inl ((let x : why ≡ NoFrame = cc in x), i)
      by false true true i j k = inr ((let x : why ≡ DirtyLimit = cc in x), j)
      by false true false i j k = absurd cc
      by false false c i j k = absurd cc

  -- so there is not enough of it
  pub wanted_room : (t : SoloSeen) → t.world.core ≡ s → (why : Refusal) → wants w s h o n ≡ Some why → (why ≡ NoFrame) × (Suffices t → ⊥) ⊎ (why ≡ DirtyLimit) × (IsClean t → ⊥)
  wanted_room t is why e = elim (wants_why why e) [
    | inl x ↦ inl (x.0, λ y. absurd (let k : true ≡ false = sym x.1 ∙ ap (λ c. lacks_frames c h o n) (sym is) ∙ y.1 h o n in cc))
    | inr x ↦ inr (x.0, λ y. absurd (let k : true ≡ false = sym x.1 ∙ ap (λ c. passes_limit c h o n) (sym is) ∙ y h o n in cc))
  ]

  -- where it wants none, and lacks a page, a frame is free
  pub some_free : (p : ℕ) → first_page s.sizes.page o ≤ p → p ≤ last_page s.sizes.page o n → is_cached s (handle_file s h) p ≡ false → may_touch s h o n ≡ true → wants w s h o n ≡ None → 0 < free_frames s
  some_free p first last absent may e =
      let none : lacks_frames s h o n ≡ false = no_lack (lacks_frames s h o n) e in
      let l = count_less (λ q. false) (λ q. not (is_cached s (handle_file s h) q)) (λ q k. absurd cc) (first_page s.sizes.page o) (touched_count s.sizes.page o n) p first (in_row (first_page s.sizes.page o) (last_page s.sizes.page o n) p first last) (ap not absent) refl in
      let free : nat_lt (free_frames s) (lacking s (handle_file s h) o n) ≡ false = sym (ap (λ b. b && nat_lt (free_frames s) (lacking s (handle_file s h) o n)) may) ∙ none in
      enough (free_frames s) (lacking s (handle_file s h) o n) _ l free
    where
      no_lack : (b : Bool) → (if b then Some NoFrame else if w && passes_limit s h o n then Some DirtyLimit else None) ≡ None → b ≡ false
      no_lack true k = absurd cc
      no_lack false k = refl

      in_row : (a b p : ℕ) → a ≤ p → p ≤ b → p < a + (b + 1 - a)
      in_row a b p l m = omega arith

      enough : (F L z : ℕ) → z + 1 ≤ L → nat_lt F L ≡ false → 0 < F
      enough F L z a b = grind (arith, nat_tests)

-- ---- what it needs

-- one more than it touches pages at most
pub need_most : (w : Bool) (s : State) (h o n : ℕ) → need w s h o n ≤ touched_count s.sizes.page o n + 1
need_most w s h o n = by (is_some (wants w s h o n))
  where
    most : lacking s (handle_file s h) o n ≤ touched_count s.sizes.page o n
    most = count_below (lacking s (handle_file s h) o n) (first_page s.sizes.page o) (touched_count s.sizes.page o n) (λ p. not (is_cached s (handle_file s h) p)) refl

    by : (b : Bool) → (if b then touched_count s.sizes.page o n + 1 else lacking s (handle_file s h) o n) ≤ touched_count s.sizes.page o n + 1
    by true = omega arith
    by false = let m = most in omega arith

-- that many where it wants room, and fewer where it does not
pub need_wanting : (w : Bool) (s : State) (h o n : ℕ) → is_some (wants w s h o n) ≡ true → need w s h o n ≡ touched_count s.sizes.page o n + 1
need_wanting w s h o n e = ap (λ b. if b then touched_count s.sizes.page o n + 1 else lacking s (handle_file s h) o n) e

pub need_lacking : (w : Bool) (s : State) (h o n : ℕ) → wants w s h o n ≡ None → need w s h o n ≡ lacking s (handle_file s h) o n
need_lacking w s h o n e = ap (λ x. if is_some x then touched_count s.sizes.page o n + 1 else lacking s (handle_file s h) o n) e

pub need_fewer : (w : Bool) (s : State) (h o n : ℕ) → wants w s h o n ≡ None → need w s h o n < touched_count s.sizes.page o n + 1
need_fewer w s h o n e =
    let a = need_lacking w s h o n e in
    let b = count_below (lacking s (handle_file s h) o n) (first_page s.sizes.page o) (touched_count s.sizes.page o n) (λ p. not (is_cached s (handle_file s h) p)) refl in omega arith

-- a page that is filled is one less
pub filled_needs : (w : Bool) (s : SoloSeen) (new : State) (h o n p : ℕ) → handle_file s.world.core h < length s.world.core.files → IsMissed s h o n p → wants w s.world.core h o n ≡ None → Fills s.world.core new (handle_file s.world.core h) p → need w new h o n < need w s.world.core h o n
filled_needs w s new h o n p here m none f =
    let c = s.world.core in
    let file : handle_file new h ≡ handle_file c h = ap (λ (x : finmap.FinMap _ ℕ). unwrap_or (finmap.get x h) 0) f.handles in
    let less : lacking new (handle_file new h) o n + 1 ≤ lacking c (handle_file c h) o n = subst (λ g. lacking new g o n + 1 ≤ lacking c (handle_file c h) o n) (sym file) (one_less c new (handle_file c h) p here m.absent f o n m.first m.last) in
    let fewer : dirtied new (handle_file new h) o n ≤ dirtied c (handle_file c h) o n = subst (λ g. dirtied new g o n ≤ dirtied c (handle_file c h) o n) (sym file) (no_more_dirtied c new (handle_file c h) p here m.absent f o n m.first m.last) in
    let may : may_touch new h o n ≡ may_touch c h o n = λ i. is_some (finmap.get (f.handles i) h) && nat_lt 0 n && nat_le (touched_count (f.sizes i).page o n) MAX_TOUCHED && nat_le (o + n) MAX_FILE_SIZE in
    let limit : new.sizes.dirty_limit ≡ c.sizes.dirty_limit = ap (λ (z : Sizes). z.dirty_limit) f.sizes in
    let still : wants w new h o n ≡ None = (λ i. wanted w (may i) (free_frames new) (lacking new (handle_file new h) o n) (dirtied new (handle_file new h) o n) (dirty_total new) (limit i)) ∙ still_none w (may_touch c h o n) (free_frames c) (lacking c (handle_file c h) o n) (dirtied c (handle_file c h) o n) (dirty_total c) c.sizes.dirty_limit (free_frames new) (lacking new (handle_file new h) o n) (dirtied new (handle_file new h) o n) (dirty_total new) none less (one_frame c new (handle_file c h) p here m.absent f) fewer (no_more_dirty c new (handle_file c h) p here m.absent f) in
    let a = need_lacking w new h o n still in
    let b = need_lacking w c h o n none in omega arith

-- ---- as room is made

-- a page that is lacking is lacking still
pub still_missed : (s t : SoloSeen) (h o n p : ℕ) → IsMissed s h o n p → Serves s t → StaysAbsent s.world.core t.world.core → IsMissed t h o n p
still_missed s t h o n p m k a =
    let file : handle_file t.world.core h ≡ handle_file s.world.core h = ap (λ (x : finmap.FinMap _ ℕ). unwrap_or (finmap.get x h) 0) k.keeps.handles in
    let page : t.world.core.sizes.page ≡ s.world.core.sizes.page = ap (λ (z : Sizes). z.page) k.keeps.sizes in
    record {
      may = (λ i. is_some (finmap.get (k.keeps.handles i) h) && nat_lt 0 n && nat_le (touched_count (page i) o n) MAX_TOUCHED && nat_le (o + n) MAX_FILE_SIZE) ∙ m.may;
      first = subst (λ P. first_page P o ≤ p) (sym page) m.first;
      last = subst (λ P. p ≤ last_page P o n) (sym page) m.last;
      absent = ap (λ g. is_cached t.world.core g p) file ∙ a (handle_file s.world.core h) p m.absent;
      within = subst (λ size. p < page_count t.world.core.sizes.page size)
          (sym (ap (λ g. (file_at t.world.core g).size) file ∙ k.lengths (handle_file s.world.core h)))
          (subst (λ P. p < page_count P (file_at s.world.core (handle_file s.world.core h)).size) (sym page) m.within);
    }

-- after room is made a call needs no more than before
pub no_more_needed : (w : Bool) (s t : SoloSeen) (h o n : ℕ) → Serves s t → wants w t.world.core h o n ≡ None → (wants w s.world.core h o n ≡ None → t ≡ s) → need w t.world.core h o n ≤ need w s.world.core h o n
no_more_needed w s t h o n k none same = by (wants w s.world.core h o n) refl
  where
    by : (x : Option Refusal) → wants w s.world.core h o n ≡ x → need w t.world.core h o n ≤ need w s.world.core h o n
    by None e = (let a = ap (λ (x : SoloSeen). need w x.world.core h o n) (same e) in omega arith)
    by (Some r) e =
        let a = need_wanting w s.world.core h o n (ap is_some e) in
        let b = need_fewer w t.world.core h o n none in
        let c : touched_count t.world.core.sizes.page o n ≡ touched_count s.world.core.sizes.page o n = ap (λ (z : Sizes). touched_count z.page o n) k.keeps.sizes in omega arith

-- and less, if it wanted some
pub less_needed : (w : Bool) (s t : SoloSeen) (h o n : ℕ) → Serves s t → wants w t.world.core h o n ≡ None → is_some (wants w s.world.core h o n) ≡ true → need w t.world.core h o n < need w s.world.core h o n
less_needed w s t h o n k none some =
    let a = need_wanting w s.world.core h o n some in
    let b = need_fewer w t.world.core h o n none in
    let c : touched_count t.world.core.sizes.page o n ≡ touched_count s.world.core.sizes.page o n = ap (λ (z : Sizes). touched_count z.page o n) k.keeps.sizes in omega arith
