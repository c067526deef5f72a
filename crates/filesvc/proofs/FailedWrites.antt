-- How many writes of each file failed, and the code of the last: the end of a flush that failed changes these, and nothing
-- else does. Of any world.
use Rattle.std.proofs.Common.{◌≡◌, ℕ, ◌+◌, ◌<◌, Bool, true, false, cond, eqb, eqb-true, length, get_or, refl, ap, sym}
use Rattle.std.proofs.Common.{subst, ◌∙◌, inl, inr}
use Rattle.std.specs.Prelude.{Option, Some, None, is_some, slice_set}
use Rattle.std.specs.FinMap as map
use Rattle.std.specs.Ordering.{nat_cmp}
use Rattle.pc_types.specs.Kinds.{is_flush}
use Rattle.pc_types.specs.declared.refusal.Refusal.TheVariants.{Stranger}
use Rattle.pc_types.specs.declared.kind.Kind.{Kind}
use Rattle.pc_types.specs.declared.kind.Kind.TheVariants.{Fill, Flush}
use Rattle.machine.specs.declared.event.End.{End}
use Rattle.machine.specs.declared.event.Event.{Event}
use Rattle.machine.specs.declared.event.Event.TheVariants as event
use Rattle.machine.specs.declared.event.Outcome.{Outcome}
use Rattle.machine.specs.declared.event.Reply.{Reply}
use Rattle.machine.specs.declared.event.Reply.TheVariants as reply
use Rattle.machine.specs.Changes.{after_write, flush_failed, ended}
use Rattle.maps.specs.Maps.{change_at}
use Rattle.machine.specs.Sound.{Sound}
use Rattle.machine.specs.State.{State, File, Page, Request, file_at, handle_file, no_file, page_at, tags_of}
use Rattle.machine.specs.Step.{Step}
use Rattle.machine.specs.Tests.{tests}
use Rattle.machine.proofs.changes.StateLaws.{get_or-set}
use Rattle.machine.proofs.steps.Answered.{is_quiet}
use Rattle.machine.proofs.steps.Cases.{Cases, answered, by_cases}
use Rattle.machine.proofs.steps.Ends.{end_loud}
use Rattle.machine.proofs.steps.Passed.{MayEnd}
use Rattle.machine.proofs.sound.Steps.{steps_stay_sound}
use Rattle.runs.specs.World.{World, Move, Act, Finish, Ends, WorldStep}
use Rattle.runs.proofs.moments.Histories.{core_step}
use Rattle.runs.proofs.events.Lookups.{cached_within}
use Rattle.machine.proofs.sound.Lookups.{get_or-default}
use Rattle.cachecore.specs.Flushing.{flush_of, flushed_file}
use Rattle.orderly.proofs.FileSteps.{one_same}

abbrev pub failures_in : State → ℕ → ℕ
failures_in s f = (file_at s f).failures

abbrev pub code_in : State → ℕ → ℕ
code_in s f = (file_at s f).last_code

-- a number of the file that was written to is another, where that failed with a code
abbrev pub Changes : (ℕ → ℕ → ℕ) → Option ℕ → Reply → (ℕ → ℕ) → (ℕ → ℕ) → Type 0
Changes change (Some f) (reply.Failed code) old new = (g : ℕ) → new g ≡ cond (eqb g f) (change code (old g)) (old g)
Changes change _ _ old new = (g : ℕ) → new g ≡ old g

-- one more, and the code itself
abbrev pub one_more : ℕ → ℕ → ℕ
one_more code n = n + 1

abbrev pub the_code : ℕ → ℕ → ℕ
the_code code n = code

-- the file that an event ends a write of
abbrev written_by : State → Event → Option ℕ
written_by s (event.End kind end) = flush_of s end.serial.0
written_by s _ = None

-- where nothing failed
same_changes : (change : ℕ → ℕ → ℕ) (o : Option ℕ) (r : Reply) (old new : ℕ → ℕ) → ((c f : ℕ) → o ≡ Some f → r ≡ reply.Failed c → ⊥) → ((g : ℕ) → new g ≡ old g) → Changes change o r old new
same_changes change None r old new never same = same
same_changes change (Some f) (reply.Failed c) old new never same = absurd (never c f refl refl)
same_changes change (Some f) _ old new never same = same

tagged_cached : (o : Option Page) → (tags_of o).writeback ≡ true → is_some o ≡ true
tagged_cached None e = absurd cc
tagged_cached (Some page) e = refl

-- an end that is an event of its own is refused
refused_end : (s new : State) (kind : Kind) (end : End) (r : Reply) → r ≡ reply.Refused Stranger → Step s (event.End kind end) r new → new ≡ s
refused_end s new kind end r is step = elim (answered (tests s (event.End kind end)) s (event.End kind end) r new step) [
  | inl a ↦ a.1
  | inr a ↦ absurd (let x = end_loud (map.get s.requests end.serial.0) end.outcome r a.1 in let y : true ≡ false = sym (ap is_quiet is) ∙ x in cc)
]

-- a number of a file that its size and its pages do not change, and a failed write does
module _ (of : File → ℕ) (plain : (file : File) (z : ℕ) (pages : map.FinMap nat_cmp Page) → of (record file { size = z; pages = pages }) ≡ of file) (change : ℕ → ℕ → ℕ) (failing : (file : File) (c : ℕ) (pages : map.FinMap nat_cmp Page) → of (record file { failures = file.failures + 1; last_code = c; pages = pages }) ≡ change c (of file)) where
  record Counts (s : State) (e : Event) (r : Reply) (t : State) : Type 0 where
    pub rises : Changes change (written_by s e) r (λ g. of (file_at s g)) (λ g. of (file_at t g))

  module _ (s : State) (ok : Sound s) where
    quiet : (e : Event) (r : Reply) → is_quiet r ≡ true → Counts s e r s
    quiet e r q = record { rises = same_changes change (written_by s e) r _ _ (λ c f a b. let x : true ≡ false = sym q ∙ ap is_quiet b in cc) (λ g. refl) }

    -- one file changes, but not its number, with a reply that is never failure
    one : (e : Event) (r : Reply) (f : ℕ) (file : File) (t : State) → ((c : ℕ) → r ≡ reply.Failed c → ⊥) → of file ≡ of (file_at s f) → t.files ≡ slice_set s.files f file → Counts s e r t
    one e r f file t never same is = record { rises = same_changes change (written_by s e) r _ _ (λ c f a b. never c b) (λ g. ap (λ fs. of (get_or fs g no_file)) is ∙ one_same of s.files f file same g) }

    none : (e : Event) (r : Reply) (t : State) → ((c : ℕ) → r ≡ reply.Failed c → ⊥) → t.files ≡ s.files → Counts s e r t
    none e r t never is = record { rises = same_changes change (written_by s e) r _ _ (λ c f a b. never c b) (λ g. ap (λ fs. of (get_or fs g no_file)) is) }

    fill_none : (end : End) (x : Request) → MayEnd s Fill end x → flush_of s end.serial.0 ≡ None
    fill_none end x may = ap flushed_file may.is ∙ ap (λ k. cond (is_flush k) (Some x.file) None) may.kind_is

    flush_some : (end : End) (x : Request) → MayEnd s Flush end x → flush_of s end.serial.0 ≡ Some x.file
    flush_some end x may = ap flushed_file may.is ∙ ap (λ k. cond (is_flush k) (Some x.file) None) may.kind_is

    -- the page of a flush that failed is there, and so its file is
    failed : (end : End) (x : Request) (c : ℕ) → MayEnd s Flush end x → x.dropped ≡ false → Counts s (event.End Flush end) (reply.Failed c) (flush_failed (ended s end.serial.0) x c)
    failed end x c may live = record { rises = subst (λ o. Changes change o (reply.Failed c) (λ g. of (file_at s g)) (λ g. of (file_at (flush_failed (ended s end.serial.0) x c) g))) (sym (flush_some end x may)) counts }
      where
        there : x.file < length s.files
        there = cached_within s x.file x.page (tagged_cached (page_at s x.file x.page) (ok.flush end.serial.0 x may.is live may.kind_is))

        after : File
        after = record (file_at s x.file) { failures = (file_at s x.file).failures + 1; last_code = c; pages = change_at x.page (after_write true) (file_at s x.file).pages }

        counts : (g : ℕ) → of (file_at (flush_failed (ended s end.serial.0) x c) g) ≡ cond (eqb g x.file) (change c (of (file_at s g))) (of (file_at s g))
        counts g = ap of (get_or-set s.files x.file g after no_file there) ∙ go (eqb g x.file) refl
          where
            go : (b : Bool) → eqb g x.file ≡ b → of (cond b after (get_or s.files g no_file)) ≡ cond b (change c (of (file_at s g))) (of (file_at s g))
            go true e = failing (file_at s x.file) c _ ∙ ap (λ k. change c (of (file_at s k))) (sym (eqb-true g x.file e))
            go false e = refl

    cases : Cases s (Counts s)
    cases = record {
      same = λ e r step q. quiet e r q;
      writes_none = λ e h o is step. none e _ s (λ c k. cc) refl;
      creates = λ f room is. record { rises = λ g. ap of (get_or-default s.files no_file g) };
      opens = λ f h here room low. none _ _ _ (λ c k. cc) refl;
      closes = λ h there free. none _ _ _ (λ c k. cc) refl;
      writes = λ e h o b is may. one e _ (handle_file s h.0) _ _ (λ c k. cc) (plain (file_at s (handle_file s h.0)) _ _) refl;
      shrinks = λ h z may less. one _ _ (handle_file s h.0) _ _ (λ c k. cc) (plain (file_at s (handle_file s h.0)) _ _) refl;
      grows = λ h z may more. one _ _ (handle_file s h.0) _ _ (λ c k. cc) (plain (file_at s (handle_file s h.0)) _ _) refl;
      makes_zeros = λ h p may unwritten. one _ _ (handle_file s h.0) _ _ (λ c k. cc) (plain (file_at s (handle_file s h.0)) _ _) refl;
      evicts = λ f p page is idle. one _ _ f.0 _ _ (λ c k. cc) (plain (file_at s f.0) _ _) refl;
      fills = λ h p t may written room next. none _ _ _ (λ c k. cc) refl;
      flushes = λ f p page t may next. one _ _ f.0 _ _ (λ c k. cc) (plain (file_at s f.0) _ _) refl;
      drops = λ kind end x may dropped. none _ _ _ (λ c k. cc) refl;
      fill_fails = λ end x code may live went. record { rises = subst (λ o. Changes change o (reply.Failed code) (λ g. of (file_at s g)) (λ g. of (file_at s g))) (sym (fill_none end x may)) (λ g. refl) };
      fill_ends = λ end x b may live went. one _ _ x.file _ _ (λ c k. cc) (plain (file_at s x.file) _ _) refl;
      flush_fails = λ end x code may live went. failed end x code may live;
      flush_ends = λ end x may live went. one _ _ x.file _ _ (λ c k. cc) (plain (file_at s x.file) _ _) refl;
      begins = λ h first last m may low. one _ _ (handle_file s h.0) _ _ (λ c k. cc) (plain (file_at s (handle_file s h.0)) _ _) refl;
      starts = λ m y p page t is may next. one _ _ (handle_file s y.handle) _ _ (λ c k. cc) (plain (file_at s (handle_file s y.handle)) _ _) refl;
      waits = λ m y e p is pick first page. none _ _ _ (λ c k. cc) refl;
      over = λ m y r is pick first verdict. record { rises = λ g. refl };
      sync_drops = λ m y is. none _ _ _ (λ c k. cc) refl;
    }

  step_counts : (s new : State) (e : Event) (r : Reply) → Sound s → Step s e r new → Changes change (written_by s e) r (λ g. of (file_at s g)) (λ g. of (file_at new g))
  step_counts s new e r ok step = (by_cases s (Counts s) (cases s ok) e r new step).rises

  act_same : (w new : World) (e : Event) (r : Reply) → Sound w.core → WorldStep w (Act e r) new → (f : ℕ) → of (file_at new.core f) ≡ of (file_at w.core f)
  act_same w new (event.End kind end) r ok m = λ f. ap (λ s. of (file_at s f)) (refused_end w.core new.core kind end r m.0 m.1.0)
  act_same w new e r ok m = step_counts w.core new.core e r ok m.1.0

  finish_changes : (w new : World) (t : ℕ) (r : Reply) → Sound w.core → WorldStep w (Finish t r) new → Changes change (flush_of w.core t) r (λ g. of (file_at w.core g)) (λ g. of (file_at new.core g))
  finish_changes w new t r ok m = by (map.get w.core.requests t) (map.get w.outcomes t) m
    where
      by : (q : Option Request) (o : Option Outcome) → Ends w t q o r new → Changes change (flush_of w.core t) r (λ g. of (file_at w.core g)) (λ g. of (file_at new.core g))
      by (Some x) (Some call) h = step_counts w.core new.core (event.End x.kind (record { cache = w.core.name; kind = x.kind; serial = record { 0 = t }; block = record { 0 = x.block }; outcome = call })) r ok h.0
      by (Some x) None h = absurd h
      by None o h = absurd h

pub act_failures : (w new : World) (e : Event) (r : Reply) → Sound w.core → WorldStep w (Act e r) new → (f : ℕ) → failures_in new.core f ≡ failures_in w.core f
act_failures = act_same (λ file. file.failures) (λ file z pages. refl) one_more (λ file c pages. refl)

pub finish_rises : (w new : World) (t : ℕ) (r : Reply) → Sound w.core → WorldStep w (Finish t r) new → Changes one_more (flush_of w.core t) r (failures_in w.core) (failures_in new.core)
finish_rises = finish_changes (λ file. file.failures) (λ file z pages. refl) one_more (λ file c pages. refl)

pub act_codes : (w new : World) (e : Event) (r : Reply) → Sound w.core → WorldStep w (Act e r) new → (f : ℕ) → code_in new.core f ≡ code_in w.core f
act_codes = act_same (λ file. file.last_code) (λ file z pages. refl) the_code (λ file c pages. refl)

pub finish_codes : (w new : World) (t : ℕ) (r : Reply) → Sound w.core → WorldStep w (Finish t r) new → Changes the_code (flush_of w.core t) r (code_in w.core) (code_in new.core)
finish_codes = finish_changes (λ file. file.last_code) (λ file z pages. refl) the_code (λ file c pages. refl)

-- and each step keeps the core sound
pub core_sound : (w new : World) (m : Move) → WorldStep w m new → Sound w.core → Sound new.core
core_sound w new m h ok = elim (core_step w new m h) [
  | inl same ↦ subst Sound (sym same) ok
  | inr a ↦ steps_stay_sound w.core new.core a.0 a.1 a.2 ok
]
