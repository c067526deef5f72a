-- The state counts the failed writes of each file, and the board records each.
use Rattle.std.proofs.Common.{◌≡◌, ℕ, zero, suc, ◌+◌, ◌<◌, ◌≤◌, Bool, true, false, cond, eqb, eqb-true, List, [], ◌∷◌, ◌++◌, length, get_or, refl, ap, sym, subst, ◌∙◌, arith, inl, inr}
use Rattle.std.specs.Prelude.{◌⊎◌, Option, Some, None, is_some, replicate, slice_set}
use Rattle.std.proofs.Math.ListN.{length-set}
use Rattle.std.proofs.lemmas.List.{length-replicate, length_push, set_past}
use Rattle.cachecore.specs.Flushing.{flush_of, flushed_file}
use Rattle.errboard.specs.Shown.{RecorderSeen}
use Rattle.errboard.specs.Steps.{with_recording}
use Rattle.errboard.specs.Views.{files, recorded_of}
use Rattle.errseq.specs.declared.recording.Recording.{Recording}
use Rattle.held.specs.Entered.{Records}
use Rattle.held.specs.Keeps.{AreTold}
use Rattle.machine.specs.Catalogs.{Catalog, adopted}
use Rattle.machine.specs.Changes.{after_write, ended, flush_failed}
use Rattle.maps.specs.Maps.{change_at}
use Rattle.machine.specs.Sound.{Sound}
use Rattle.machine.specs.State.{State, File, Page, Request, file_at, handle_file, no_file, page_at, tags_of}
use Rattle.machine.specs.Step.{Step}
use Rattle.machine.specs.declared.event.End.{End}
use Rattle.machine.specs.declared.event.Event.{Event}
use Rattle.machine.specs.declared.event.Event.TheVariants as event
use Rattle.machine.specs.declared.event.Reply.{Reply}
use Rattle.machine.specs.declared.event.Reply.TheVariants as reply
use Rattle.machine.proofs.changes.Adopted.{adopted_file}
use Rattle.machine.proofs.changes.StateLaws.{get_or-set}
use Rattle.machine.proofs.sound.Lookups.{get_or-default}
use Rattle.machine.proofs.steps.Answered.{is_quiet}
use Rattle.machine.proofs.steps.Cases.{Cases, by_cases}
use Rattle.machine.proofs.steps.Passed.{MayEnd}
use Rattle.pc_types.specs.Kinds.{is_flush}
use Rattle.pc_types.specs.Limits.{Sizes}
use Rattle.pc_types.specs.declared.kind.Kind.TheVariants.{Flush}
use Rattle.runs.proofs.events.Lookups.{cached_within}

abbrev fails : State → ℕ → ℕ
fails s f = (file_at s f).failures

abbrev notes : RecorderSeen → ℕ → ℕ
notes e f = length (recorded_of e.all f)

-- a count that a failed write of the file raises
abbrev Rises : Option ℕ → Reply → (ℕ → ℕ) → (ℕ → ℕ) → Type 0
Rises (Some f) (reply.Failed code) old new = (g : ℕ) → new g ≡ cond (eqb g f) (old g + 1) (old g)
Rises _ _ old new = (g : ℕ) → new g ≡ old g

-- the file that an event ends a write of
abbrev written_by : State → Event → Option ℕ
written_by s (event.End Flush end) = flush_of s end.serial.0
written_by s _ = None

stays : (o : Option ℕ) (r : Reply) (old new : ℕ → ℕ) → ((c f : ℕ) → o ≡ Some f → r ≡ reply.Failed c → ⊥)
    → ((g : ℕ) → new g ≡ old g) → Rises o r old new
stays None r old new never same = same
stays (Some f) (reply.Failed c) old new never same = absurd (never c f refl refl)
stays (Some f) _ old new never same = same

-- ---- the state

within : (a n : ℕ) → (a < n) ⊎ (n ≤ a)
within a n = grind arith

one_same : (fs : List File) (f : ℕ) (file : File) → file.failures ≡ (get_or fs f no_file).failures → (g : ℕ)
    → (get_or (slice_set fs f file) g no_file).failures ≡ (get_or fs g no_file).failures
one_same fs f file same g = elim (within f (length fs)) [
  | inl here ↦ ap (λ (x : File). x.failures) (get_or-set fs f g file no_file here) ∙ either (eqb g f) refl
  | inr past ↦ ap (λ (l : List File). (get_or l g no_file).failures) (set_past fs f file past)
]
  where
    either : (b : Bool) → eqb g f ≡ b → (cond b file (get_or fs g no_file)).failures ≡ (get_or fs g no_file).failures
    either true e = same ∙ ap (λ k. (get_or fs k no_file).failures) (sym (eqb-true g f e))
    either false e = refl

tagged_cached : (o : Option Page) → (tags_of o).writeback ≡ true → is_some o ≡ true
tagged_cached None e = absurd cc
tagged_cached (Some page) e = refl

record Counts (s : State) (e : Event) (r : Reply) (t : State) : Type 0 where
  pub rises : Rises (written_by s e) r (fails s) (fails t)

module _ (s : State) (ok : Sound s) where
  quiet : (e : Event) (r : Reply) → is_quiet r ≡ true → Counts s e r s
  quiet e r q = record {
    rises = stays (written_by s e) r (fails s) (fails s)
        (λ c f a b. let x : true ≡ false = sym q ∙ ap is_quiet b in cc) (λ g. refl);
  }

  -- one file changes, but not the count of its failures, with a reply that is never failure
  one : (e : Event) (r : Reply) (f : ℕ) (file : File) (t : State) → ((c : ℕ) → r ≡ reply.Failed c → ⊥)
      → t.files ≡ slice_set s.files f file → file.failures ≡ fails s f → Counts s e r t
  one e r f file t never is same = record {
    rises = stays (written_by s e) r (fails s) (fails t) (λ c g a b. never c b)
        (λ g. ap (λ (fs : List File). (get_or fs g no_file).failures) is ∙ one_same s.files f file same g);
  }

  none : (e : Event) (r : Reply) (t : State) → ((c : ℕ) → r ≡ reply.Failed c → ⊥) → t.files ≡ s.files → Counts s e r t
  none e r t never is = record {
    rises = stays (written_by s e) r (fails s) (fails t) (λ c f a b. never c b)
        (λ g. ap (λ (fs : List File). (get_or fs g no_file).failures) is);
  }

  -- the page of a flush that failed is there, and so its file is
  failed : (end : End) (x : Request) (c : ℕ) → MayEnd s Flush end x → x.dropped ≡ false
      → Counts s (event.End Flush end) (reply.Failed c) (flush_failed (ended s end.serial.0) x c)
  failed end x c may live = record {
    rises = subst (λ o. Rises o (reply.Failed c) (fails s) (fails (flush_failed (ended s end.serial.0) x c))) (sym is) counts;
  }
    where
      is : flush_of s end.serial.0 ≡ Some x.file
      is = ap flushed_file may.is ∙ ap (λ k. cond (is_flush k) (Some x.file) None) may.kind_is

      there : x.file < length s.files
      there = cached_within s x.file x.page
          (tagged_cached (page_at s x.file x.page) (ok.flush end.serial.0 x may.is live may.kind_is))

      after : File
      after =
          let file = file_at s x.file in
          record file {
            failures = file.failures + 1;
            last_code = c;
            pages = change_at x.page (after_write true) file.pages;
          }

      counts : (g : ℕ) → fails (flush_failed (ended s end.serial.0) x c) g ≡ cond (eqb g x.file) (fails s g + 1) (fails s g)
      counts g = ap (λ (y : File). y.failures) (get_or-set s.files x.file g after no_file there) ∙ go (eqb g x.file) refl
        where
          go : (b : Bool) → eqb g x.file ≡ b
              → (cond b after (get_or s.files g no_file)).failures ≡ cond b (fails s g + 1) (fails s g)
          go true e = ap (λ k. fails s k + 1) (sym (eqb-true g x.file e))
          go false e = refl

  cases : Cases s (Counts s)
  cases = record {
    same = λ e r step q. quiet e r q;
    writes_none = λ e h o is step. none e _ s (λ c k. cc) refl;
    creates = λ f room is. record { rises = λ g. ap (λ (y : File). y.failures) (get_or-default s.files no_file g) };
    opens = λ f h here room low. none _ _ _ (λ c k. cc) refl;
    closes = λ h there free. none _ _ _ (λ c k. cc) refl;
    writes = λ e h o b is may. one e _ (handle_file s h.0) _ _ (λ c k. cc) refl refl;
    shrinks = λ h z may less. one _ _ (handle_file s h.0) _ _ (λ c k. cc) refl refl;
    grows = λ h z may more. one _ _ (handle_file s h.0) _ _ (λ c k. cc) refl refl;
    makes_zeros = λ h p may unwritten. one _ _ (handle_file s h.0) _ _ (λ c k. cc) refl refl;
    evicts = λ f p page is idle. one _ _ f.0 _ _ (λ c k. cc) refl refl;
    fills = λ h p t may written room next. none _ _ _ (λ c k. cc) refl;
    flushes = λ f p page t may next. one _ _ f.0 _ _ (λ c k. cc) refl refl;
    drops = λ kind end x may dropped. none _ _ _ (λ c k. cc) refl;
    fill_fails = λ end x code may live went. record { rises = λ g. refl };
    fill_ends = λ end x b may live went. one _ _ x.file _ _ (λ c k. cc) refl refl;
    flush_fails = λ end x code may live went. failed end x code may live;
    flush_ends = λ end x may live went. one _ _ x.file _ _ (λ c k. cc) refl refl;
    begins = λ h first last m may low. one _ _ (handle_file s h.0) _ _ (λ c k. cc) refl refl;
    starts = λ m y p page t is may next. one _ _ (handle_file s y.handle) _ _ (λ c k. cc) refl refl;
    waits = λ m y e p is pick first page. none _ _ _ (λ c k. cc) refl;
    over = λ m y r is pick first verdict. record { rises = λ g. refl };
    sync_drops = λ m y is. none _ _ _ (λ c k. cc) refl;
  }

  counts_on : (e : Event) (r : Reply) (t : State) → Step s e r t → Rises (written_by s e) r (fails s) (fails t)
  counts_on e r t step = (by_cases s (Counts s) cases e r t step).rises

-- ---- the board

recorded_more : (all : List (List Recording)) (f : ℕ) (x : Recording) → f < length all → (g : ℕ)
    → length (recorded_of (with_recording all f x) g)
    ≡ cond (eqb g f) (length (recorded_of all g) + 1) (length (recorded_of all g))
recorded_more all f x here g =
    let more = recorded_of all f ++ x ∷ [] in
    ap length (get_or-set all f g more [] here)
    ∙ elim (eqb g f) as (λ b. eqb g f ≡ b → length (cond b more (recorded_of all g))
    ≡ cond b (length (recorded_of all g) + 1) (length (recorded_of all g))) [
      | true ↦ λ e. length_push (recorded_of all f) x ∙ ap (λ k. length (recorded_of all k) + 1) (sym (eqb-true g f e))
      | false ↦ λ e. refl
    ] refl

record Noted (o : Option ℕ) (r : Reply) (old new : RecorderSeen) : Type 0 where
  pub lists : length new.all ≡ length old.all
  pub rises : Rises o r (notes old) (notes new)

still : (o : Option ℕ) (r : Reply) (old new : RecorderSeen) → ((c f : ℕ) → o ≡ Some f → r ≡ reply.Failed c → ⊥)
    → new ≡ old → Noted o r old new
still o r old new never same = record {
  lists = ap (λ (e : RecorderSeen). length e.all) same;
  rises = stays o r (notes old) (notes new) never (λ g. ap (λ (e : RecorderSeen). notes e g) same);
}

noted : (s : State) (e : Event) (r : Reply) (old new : RecorderSeen) → length old.all ≡ files → Records s e r old new
    → Noted (written_by s e) r old new
noted s (event.End Flush end) (reply.Failed c) old new lists h =
    let all : new.all ≡ with_recording old.all h.0 h.3.2.0 = h.3.2.3 in
    record {
      lists = ap length all ∙ length-set old.all h.0 _;
      rises = subst (λ o. Rises o (reply.Failed c) (notes old) (notes new)) (sym h.1)
          (λ g. ap (λ l. length (recorded_of l g)) all
          ∙ recorded_more old.all h.0 h.3.2.0 (subst (λ n. h.0 < n) (sym lists) h.2) g);
    }
noted s (event.End Flush end) r old new lists h = still (flush_of s end.serial.0) r old new (λ c f a b. cc) h
noted s e r old new lists h = still None r old new (λ c f a b. cc) h

-- ---- both

alike : (o : Option ℕ) (r : Reply) (a b x y : ℕ → ℕ) → Rises o r a b → Rises o r x y → ((g : ℕ) → a g ≡ x g)
    → (g : ℕ) → b g ≡ y g
alike None r a b x y p q same g = p g ∙ same g ∙ sym (q g)
alike (Some f) (reply.Failed c) a b x y p q same g =
    p g ∙ ap (λ n. cond (eqb g f) (n + 1) n) (same g) ∙ sym (q g)
alike (Some f) r a b x y p q same g = p g ∙ same g ∙ sym (q g)

pub told_on : (s t : State) (e : Event) (r : Reply) (old new : RecorderSeen) → Sound s → Step s e r t → Records s e r old new
    → AreTold s old → AreTold t new
told_on s t e r old new ok step records told =
    let n = noted s e r old new told.lists records in
    record {
      lists = n.lists ∙ told.lists;
      counted = alike (written_by s e) r (notes old) (notes new) (fails s) (fails t) n.rises (counts_on s ok e r t step)
          told.counted;
    }

-- nothing failed yet, and nothing is recorded
pub none_told : (standing : Catalog) (sizes : Sizes) (name : ℕ) (s : State) (e : RecorderSeen) → s ≡ adopted sizes name standing
    → e.all ≡ replicate files [] → AreTold s e
none_told standing sizes name s e first all = record {
  lists = ap length all ∙ length-replicate {A = List Recording} files [];
  counted = λ f. ap (λ l. length (recorded_of l f)) all ∙ empty files f
      ∙ sym (ap (λ (t : State). (file_at t f).failures) first ∙ ap (λ (x : File). x.failures) (adopted_file sizes name standing f));
}
  where
    empty : (n f : ℕ) → length (recorded_of (replicate n []) f) ≡ 0
    empty zero f = nothing f
      where
        nothing : (f : ℕ) → length (recorded_of [] f) ≡ 0
        nothing zero = refl
        nothing (suc f) = refl
    empty (suc n) zero = refl
    empty (suc n) (suc f) = empty n f
