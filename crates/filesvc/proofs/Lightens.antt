-- What making room takes away, by steps of the machine: an eviction takes a cached page, and a page whose write begins is DIRTY no
-- more. No page becomes cached.
use Rattle.std.proofs.Common.{◌≡◌, ℕ, ◌+◌, ◌-◌, ◌<◌, ◌≤◌, Bool, true, false, cond, eqb, eq-eqb, List, [], ◌∷◌, length, refl, ap, sym, subst, ◌∙◌, arith, inl, inr}
use Rattle.std.specs.Prelude.{◌≢◌, ◌||◌, is_some, option_map, Option, Some, None, slice_set, sum_by, unwrap_or}
use Rattle.std.specs.FinMap as map
use Rattle.std.specs.FinMap.{FinMap, find, get-entries, len-entries, len-remove}
use Rattle.std.specs.Cmp.{nat_cmp_total}
use Rattle.std.specs.Ordering.{nat_cmp}
use Rattle.std.proofs.lemmas.List.Sums.{sum_by-set}
use Rattle.pc_types.specs.declared.ids.FileId.{FileId}
use Rattle.pc_types.specs.declared.ids.PageIndex.{PageIndex}
use Rattle.pc_types.specs.declared.ids.Serial.{Serial}
use Rattle.pc_types.specs.declared.kind.Kind.{Kind}
use Rattle.machine.specs.declared.event.End.{End}
use Rattle.machine.specs.declared.event.Event.TheVariants as event
use Rattle.machine.specs.declared.event.Outcome.{Outcome}
use Rattle.machine.specs.declared.event.Outcome.TheVariants as outcome
use Rattle.machine.specs.declared.event.Reply.TheVariants as reply
use Rattle.machine.specs.Changes as changes
use Rattle.machine.specs.Changes.{after_write, change_page, ended, flushed, put_pages, started, under_write}
use Rattle.machine.specs.State.{State, File, Page, Request, cached_total, dirty_in, dirty_total, file_at, is_idle, no_file, page_at}
use Rattle.machine.specs.Step.{EndReply, Step}
use Rattle.machine.proofs.sound.Lookups.{change_page_tells, removed_tells}
use Rattle.machine.proofs.steps.Cases.{Happened, happened}
use Rattle.machine.proofs.steps.Choices.{mapped_some}
use Rattle.machine.proofs.steps.Passed.{MayEnd, may_end, may_flush}
use Rattle.maps.specs.Maps.{change_at}
use Rattle.maps.proofs.Count.{count_le, count_lt, count_of}
use Rattle.maps.proofs.Lengths.{len_changed}
use Rattle.maps.proofs.MapLaws.{get-change_at}
use Rattle.maps.proofs.Maps.{get_left}
use Rattle.runs.proofs.events.Lookups.{cached_within}
use Rattle.runs.proofs.moments.FrameCounts.{cached_set}
use Rattle.std.proofs.lemmas.List.{set_past}
use Rattle.orderly.proofs.FileSteps.{within}
use Rattle.filesvc.specs.Rooms.{StaysAbsent, load}

-- no page has become cached

abbrev is_dirty : Page → Bool
is_dirty x = x.tags.dirty

-- less is cached and DIRTY, or no more; one page at most is cached no longer, or none
pub record Lighter (s new : State) : Type 0 where
  pub less : load new < load s
  pub absent : StaysAbsent s new
  pub cached : cached_total s ≤ cached_total new + 1

pub record NoHeavier (s new : State) : Type 0 where
  pub most : load new ≤ load s
  pub absent : StaysAbsent s new
  pub cached : cached_total s ≤ cached_total new

-- ---- one file changes

module _ (s new : State) (f : ℕ) (file : File) (here : f < length s.files) (e : new.files ≡ slice_set s.files f file) where
  pub dirty_set : dirty_total new + dirty_in (file_at s f) ≡ dirty_total s + dirty_in file
  dirty_set = let a = ap (sum_by dirty_in) e in let b = sum_by-set dirty_in s.files f file no_file here in omega arith

  load_less : map.len file.pages + dirty_in file < map.len (file_at s f).pages + dirty_in (file_at s f) → load new < load s
  load_less l = let a = cached_set s new f file here e in let b = dirty_set in omega arith

  load_most : map.len file.pages + dirty_in file ≤ map.len (file_at s f).pages + dirty_in (file_at s f) → load new ≤ load s
  load_most l = let a = cached_set s new f file here e in let b = dirty_set in omega arith

-- ---- an eviction

some_len : (m : FinMap nat_cmp Page) (p : ℕ) (x : Page) → map.get m p ≡ Some x → 1 ≤ map.len m
some_len m p x e = go (map.entries m) refl (sym (get-entries m p) ∙ e)
  where
    go : (es : List (ℕ × Page)) → map.entries m ≡ es → find nat_cmp p es ≡ Some x → 1 ≤ map.len m
    go [] i k = absurd cc
    go (y ∷ ys) i k = let a = len-entries m in let b = ap length i in omega arith

len_gone : (m : FinMap nat_cmp Page) (p : ℕ) (x : Page) → map.get m p ≡ Some x → map.len (map.remove m p) + 1 ≡ map.len m
len_gone m p x e =
    let a : map.len (map.remove m p) ≡ map.len m - 1 = len-remove nat_cmp_total m p ∙ ap (λ o. cond (is_some o) (map.len m - 1) (map.len m)) e in
    let b = some_len m p x e in omega arith

dirty_gone : (m : FinMap nat_cmp Page) (p : ℕ) → count_of is_dirty (map.remove m p) ≤ count_of is_dirty m
dirty_gone m p = count_le is_dirty is_dirty (map.remove m p) m (λ q x e t. (x, (get_left m p q x e).1, t))

removed_absent : (s : State) (f p : ℕ) → StaysAbsent s (put_pages s f (map.remove (file_at s f).pages p))
removed_absent s f p g q none = elim (removed_tells s f p g q) [ inl k ↦ ap is_some k.2 | inr k ↦ ap is_some k ∙ none ]

pub evict_less : (s new : State) (f : FileId) (p : PageIndex) → Step s event.Evict (reply.Evicted f p) new → Lighter s new
evict_less s new f p step =
    let h = happened s event.Evict (reply.Evicted f p) new step refl (λ n o k. cc) in
    let page = mapped_some is_idle (page_at s f.0 p.0) true h.may in
    let m = (file_at s f.0).pages in
    let l = len_gone m p.0 page.0 page.1 in
    let d = dirty_gone m p.0 in
    let gone = put_pages s f.0 (map.remove m p.0) in
    subst (Lighter s) (sym h.is)
    (record {
      less = load_less s gone f.0 (record (file_at s f.0) { pages = map.remove m p.0 }) (cached_within s f.0 p.0 (ap is_some page.1)) refl (omega arith);
      absent = removed_absent s f.0 p.0;
      cached = (let a = cached_set s gone f.0 (record (file_at s f.0) { pages = map.remove m p.0 }) (cached_within s f.0 p.0 (ap is_some page.1)) refl in omega arith);
    })

-- ---- a flush

-- a page that is changed stays cached, and none becomes so
changed_absent : (s : State) (f p : ℕ) (g : Page → Page) → StaysAbsent s (change_page s f p g)
changed_absent s f p g h q none = elim (change_page_tells s f p g h q) [ inl k ↦ ap is_some k.2 ∙ same (page_at s h q) ∙ none | inr k ↦ ap is_some k ∙ none ]
  where
    same : (o : Option Page) → is_some (option_map g o) ≡ is_some o
    same None = refl
    same (Some x) = refl

-- what is DIRTY after a page was changed, was it before
was_dirty : (m : FinMap nat_cmp Page) (p : ℕ) (g : Page → Page) → ((x : Page) → is_dirty (g x) ≡ true → is_dirty x ≡ true) → (q : ℕ) (x : Page) → map.get (change_at p g m) q ≡ Some x → is_dirty x ≡ true → (y : Page) × (map.get m q ≡ Some y) × (is_dirty y ≡ true)
was_dirty m p g less q x e t = by_key (eqb q p) (sym (get-change_at p g m q) ∙ e)
  where
    by_key : (b : Bool) → cond b (option_map g (map.get m q)) (map.get m q) ≡ Some x → (y : Page) × (map.get m q ≡ Some y) × (is_dirty y ≡ true)
    by_key true k = let w = mapped_some g (map.get m q) x k in (w.0, w.1, less w.0 (ap is_dirty w.2 ∙ t))
    by_key false k = (x, k, t)

as_dirty : (m : FinMap nat_cmp Page) (p : ℕ) (g : Page → Page) → ((x : Page) → is_dirty (g x) ≡ true → is_dirty x ≡ true) → count_of is_dirty (change_at p g m) ≤ count_of is_dirty m
as_dirty m p g less = count_le is_dirty is_dirty (change_at p g m) m (was_dirty m p g less)

-- a page that was DIRTY is so no more
cleaned : (m : FinMap nat_cmp Page) (p : ℕ) (x : Page) → map.get m p ≡ Some x → is_dirty x ≡ true → count_of is_dirty (change_at p under_write m) + 1 ≤ count_of is_dirty m
cleaned m p x e d = count_lt is_dirty is_dirty (change_at p under_write m) m p x (λ q z k t. by_key q z t (eqb q p) refl (sym (get-change_at p under_write m q) ∙ k)) e d
  where
    by_key : (q : ℕ) (z : Page) → is_dirty z ≡ true → (b : Bool) → eqb q p ≡ b → cond b (option_map under_write (map.get m q)) (map.get m q) ≡ Some z → (q ≢ p) × ((y : Page) × (map.get m q ≡ Some y) × (is_dirty y ≡ true))
    by_key q z t true s k = absurd (let w = mapped_some under_write (map.get m q) z k in let n : false ≡ true = ap is_dirty w.2 ∙ t in cc)
    by_key q z t false s k = ((λ same. let x : true ≡ false = sym (eq-eqb q p same) ∙ s in cc), (z, k, t))

pub begin_less : (s new : State) (f : FileId) (t : Serial) → Step s (event.FlushBegin f) (reply.Job t) new → Lighter s new
begin_less s new f t step =
    let h = happened s (event.FlushBegin f) (reply.Job t) new step refl (λ n o k. cc) in
    let w = may_flush s f h.untested in
    let p = w.0 in
    let m = (file_at s f.0).pages in
    let l = len_changed p under_write m in
    let d = cleaned m p w.1 w.2.is w.2.dirty in
    let is : new ≡ started s f.0 p = h.is ∙ ap (λ o. started s f.0 (unwrap_or o 0)) w.2.pick in
    subst (Lighter s) (sym is)
    (record {
      less = load_less s (started s f.0 p) f.0 (record (file_at s f.0) { pages = change_at p under_write m }) w.2.exists refl (omega arith);
      absent = changed_absent s f.0 p under_write;
      cached = (let a = cached_set s (started s f.0 p) f.0 (record (file_at s f.0) { pages = change_at p under_write m }) w.2.exists refl in omega arith);
    })

written_outcome : (x : Request) (o : Outcome) → EndReply (Some x) o reply.Written → o ≡ outcome.Written
written_outcome x (outcome.Fault c) h = absurd h
written_outcome x (outcome.Read b) h = absurd h
written_outcome x outcome.Written h = refl

still_dirty : (x : Page) → is_dirty (after_write false x) ≡ true → is_dirty x ≡ true
still_dirty x = go x.tags.dirty
  where
    go : (b : Bool) → (b || false) ≡ true → b ≡ true
    go true e = refl
    go false e = absurd cc

pub end_most : (s new : State) (kind : Kind) (end : End) → Step s (event.End kind end) reply.Written new → NoHeavier s new
end_most s new kind end step = subst (NoHeavier s) (sym is) (record {
  most = elim (within x.file (length s.files)) [
    | inl here ↦ (let a = l in let b = d in load_most s now x.file file here refl (omega arith))
    | inr past ↦ (
        let pages = ap (sum_by dirty_in) (set_past s.files x.file file past) in
        let files = ap (sum_by (λ (file : File). map.len file.pages)) (set_past s.files x.file file past) in
        omega arith)
  ];
  absent = changed_absent s x.file x.page (after_write false);
  cached = elim (within x.file (length s.files)) [
    | inl here ↦ (let a = cached_set s now x.file file here refl in let b = l in omega arith)
    | inr past ↦ (let a = ap (sum_by (λ (file : File). map.len file.pages)) (set_past s.files x.file file past) in omega arith)
  ];
})
  where
    h : Happened s (event.End kind end) reply.Written new
    h = happened s (event.End kind end) reply.Written new step refl (λ n o k. cc)

    w : (x : Request) × MayEnd s kind end x
    w = may_end s kind end h.untested

    x : Request
    x = w.0

    m : FinMap nat_cmp Page
    m = (file_at s x.file).pages

    file : File
    file = record (file_at s x.file) { pages = change_at x.page (after_write false) m }

    now : State
    now = flushed (ended s end.serial.0) x

    l : map.len (change_at x.page (after_write false) m) ≡ map.len m
    l = len_changed x.page (after_write false) m

    d : count_of is_dirty (change_at x.page (after_write false) m) ≤ count_of is_dirty m
    d = as_dirty m x.page (after_write false) still_dirty

    is : new ≡ now
    is = h.is ∙ (λ i. changes.request_ended s end.serial.0 (w.1.is i) (written_outcome x end.outcome (subst (λ o. EndReply o end.outcome reply.Written) w.1.is h.may) i) reply.Written)
