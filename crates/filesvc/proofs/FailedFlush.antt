-- A flush whose write failed makes its page DIRTY again and frees no frame: each call wants the room that it wanted.
use Rattle.std.proofs.Common.{◌≡◌, ℕ, ◌+◌, Bool, true, false, cond, eqb, eqb-true, refl, ap, sym, subst, ◌∙◌, arith, inl, inr}
use Rattle.std.specs.Prelude.{◌⊎◌, ◌&&◌, not, is_some, option_map, Option, Some, None, nat_le, nat_lt, slice_set, count_by, unwrap_or, if◌then◌else◌}
use Rattle.std.specs.FinMap as finmap
use Rattle.std.specs.FinMap.{FinMap}
use Rattle.std.specs.Ordering.{nat_cmp}
use Rattle.std.proofs.lemmas.List.{set-set}
use Rattle.errboard.specs.Shown.{RecorderSeen}
use Rattle.pc_types.specs.Kinds.{is_flush}
use Rattle.pc_types.specs.declared.ids.FileId.{FileId}
use Rattle.pc_types.specs.declared.kind.Kind.TheVariants.{Flush}
use Rattle.pc_types.specs.declared.limits.TheConstants.{MAX_FILE_SIZE, MAX_TOUCHED}
use Rattle.pc_types.specs.declared.refusal.Refusal.TheVariants.{DirtyLimit, NoFrame}
use Rattle.machine.specs.declared.event.Event.TheVariants as event
use Rattle.machine.specs.declared.event.Outcome.{Outcome}
use Rattle.machine.specs.declared.event.Outcome.TheVariants as outcome
use Rattle.machine.specs.declared.event.Reply.TheVariants as reply
use Rattle.machine.specs.Changes.{after_write, change_page, ended, flush_failed, put_file, request_ended, started, under_write}
use Rattle.machine.specs.State.{State, File, Page, Request, dirty_in, dirty_total, cached_total, block_at, file_at, filling_total, free_frames, is_cached, page_at, tags_at, tags_of, touched, touched_count}
use Rattle.machine.specs.Step.{EndReply}
use Rattle.machine.proofs.changes.StateLaws.{file_at-here}
use Rattle.machine.proofs.sound.Lookups.{put_file_tells}
use Rattle.machine.proofs.steps.Cases.{happened}
use Rattle.machine.proofs.steps.Passed.{MayFlush, may_flush}
use Rattle.maps.specs.Maps.{change_at}
use Rattle.maps.proofs.Count.{count_le, count_of}
use Rattle.maps.proofs.Lengths.{count_empty, len_changed}
use Rattle.maps.proofs.MapLaws.{get-change_at}
use Rattle.runs.proofs.events.Lookups.{get-insert1}
use Rattle.runs.proofs.moments.FrameCounts.{cached_set, filling_is, is_live_fill}
use Rattle.runs.proofs.views.View.{put1_here}
use Rattle.runs.specs.World.{Ends, Finish, WorldStep}
use Rattle.world.specs.Stepping.{WorldSeen, world_of}
use Rattle.filesvc.specs.Service.{wants}
use Rattle.filesvc.proofs.Lightens.{dirty_set}
use Rattle.filesvc.proofs.WorldLaws.{Carried}

-- what a call wants rests on this alone
pub record SameRoom (s new : State) : Type 0 where
  pub sizes : new.sizes ≡ s.sizes
  pub handles : new.handles ≡ s.handles
  pub cached : (f p : ℕ) → is_cached new f p ≡ is_cached s f p
  pub dirty : (f p : ℕ) → (tags_at new f p).dirty ≡ (tags_at s f p).dirty
  pub free : free_frames new ≡ free_frames s
  pub total : dirty_total new ≡ dirty_total s

same_wants : (s new : State) → SameRoom s new → (d : Bool) (h o n : ℕ) → wants d new h o n ≡ wants d s h o n
same_wants s new r d h o n = λ i.
    let file : ℕ = unwrap_or (finmap.get (r.handles i) h) 0 in
    let may : Bool = is_some (finmap.get (r.handles i) h) && nat_lt 0 n && nat_le (touched_count (r.sizes i).page o n) MAX_TOUCHED && nat_le (o + n) MAX_FILE_SIZE in
    let more : ℕ = count_by (λ p. not (r.dirty file p i)) (touched (r.sizes i).page o n) in
    if may && nat_lt (r.free i) (count_by (λ p. not (r.cached file p i)) (touched (r.sizes i).page o n)) then Some NoFrame
    else if d && (may && (nat_lt 0 more && nat_lt (r.sizes i).dirty_limit (r.total i + more))) then Some DirtyLimit else None

abbrev is_dirty : Page → Bool
is_dirty x = x.tags.dirty

-- a page whose write began and failed
abbrev back : Page → Page
back x = after_write true (under_write x)

module _ (s new : State) (f p t code : ℕ) (page : Page) (m : MayFlush s f p page) (x : Request) (e : new ≡ flush_failed (ended (started s f p) t) (record x { file = f; page = p }) code) (before : s.requests ≡ finmap.empty) (after : new.requests ≡ finmap.empty) where
  abbrev pages : FinMap nat_cmp Page
  pages = (file_at s f).pages

  abbrev file : File
  file = record (file_at s f) { failures = (file_at s f).failures + 1; last_code = code; pages = change_at p (after_write true) (change_at p under_write pages) }

  -- the file as its write began
  begun : file_at (change_page s f p under_write) f ≡ record (file_at s f) { pages = change_at p under_write pages }
  begun = file_at-here s f (record (file_at s f) { pages = change_at p under_write pages }) m.exists

  files : new.files ≡ slice_set s.files f file
  files = ap (λ (c : State). c.files) e
      ∙ ap (λ (g : File). slice_set (change_page s f p under_write).files f (record g { failures = g.failures + 1; last_code = code; pages = change_at p (after_write true) g.pages })) begun
      ∙ set-set s.files f (record (file_at s f) { pages = change_at p under_write pages }) file

  written : (q : ℕ) → finmap.get file.pages q ≡ cond (eqb q p) (option_map back (finmap.get pages q)) (finmap.get pages q)
  written q = get-change_at p (after_write true) (change_at p under_write pages) q ∙ by (eqb q p) (get-change_at p under_write pages q)
    where
      by : (b : Bool) → finmap.get (change_at p under_write pages) q ≡ cond b (option_map under_write (finmap.get pages q)) (finmap.get pages q)
          → cond b (option_map (after_write true) (finmap.get (change_at p under_write pages) q)) (finmap.get (change_at p under_write pages) q) ≡ cond b (option_map back (finmap.get pages q)) (finmap.get pages q)
      by true k = ap (option_map (after_write true)) k ∙ twice (finmap.get pages q)
        where
          twice : (o : Option Page) → option_map (after_write true) (option_map under_write o) ≡ option_map back o
          twice None = refl
          twice (Some y) = refl
      by false k = k

  -- the page is as it was, or the one that was written
  at : (g q : ℕ) → (page_at new g q ≡ page_at s g q) ⊎ ((page_at new g q ≡ Some (back page)) × (page_at s g q ≡ Some page))
  at g q = elim (put_file_tells s f file g q) [
    | inl h ↦ by (eqb q p) refl h.0 (same ∙ h.1 ∙ written q)
    | inr h ↦ inl (same ∙ h.0)
  ]
    where
      same : page_at new g q ≡ page_at (put_file s f file) g q
      same = ap (λ fs. page_at (record s { files = fs }) g q) files

      by : (b : Bool) → eqb q p ≡ b → g ≡ f → page_at new g q ≡ cond b (option_map back (finmap.get pages q)) (finmap.get pages q)
          → (page_at new g q ≡ page_at s g q) ⊎ ((page_at new g q ≡ Some (back page)) × (page_at s g q ≡ Some page))
      by true k here w =
          let is : finmap.get pages q ≡ Some page = ap (finmap.get pages) (eqb-true q p k) ∙ m.is in
          inr (w ∙ ap (option_map back) is, ap (λ j. page_at s j q) here ∙ is)
      by false k here w = inl (w ∙ ap (λ j. page_at s j q) (sym here))

  last : file_at new f ≡ file
  last = ap (λ fs. file_at (record s { files = fs }) f) files ∙ file_at-here s f file m.exists

  as_many : count_of is_dirty (file_at new f).pages ≡ count_of is_dirty pages
  as_many =
      let a = count_le is_dirty is_dirty (file_at new f).pages pages (λ q y k t. elim (at f q) [ inl w ↦ (y, sym w ∙ k, t) | inr w ↦ (page, w.1, m.dirty) ]) in
      let b = count_le is_dirty is_dirty pages (file_at new f).pages (λ q y k t. elim (at f q) [ inl w ↦ (y, w ∙ k, t) | inr w ↦ (back page, w.0, refl) ]) in omega arith

  none_filling : (c : State) → c.requests ≡ finmap.empty → filling_total c ≡ 0
  none_filling c k = filling_is c ∙ ap (count_of is_live_fill) k ∙ count_empty is_live_fill

  cached_same : cached_total new ≡ cached_total s
  cached_same =
      let a = cached_set s new f file m.exists files in
      let b = len_changed p (after_write true) (change_at p under_write pages) in
      let c = len_changed p under_write pages in omega arith

  same_room : SameRoom s new
  same_room = record {
    sizes = ap (λ (c : State). c.sizes) e;
    handles = ap (λ (c : State). c.handles) e;
    cached = λ g q. elim (at g q) [ inl w ↦ ap is_some w | inr w ↦ ap is_some w.0 ∙ sym (ap is_some w.1) ];
    dirty = λ g q. elim (at g q) [
      | inl w ↦ ap (λ o. (tags_of o).dirty) w
      | inr w ↦ ap (λ o. (tags_of o).dirty) w.0 ∙ sym m.dirty ∙ sym (ap (λ o. (tags_of o).dirty) w.1)
    ];
    free = (let a = cached_same in let b = none_filling s before in let c = none_filling new after in
        let d : new.sizes.frames ≡ s.sizes.frames = ap (λ (y : State). y.sizes.frames) e in omega arith);
    total = (let a = dirty_set s new f file m.exists files in let b = as_many in
        let c : dirty_in (file_at new f) ≡ dirty_in file = ap dirty_in last in omega arith);
  }

-- ---- in a request that was carried out

fault_is : (x : Request) (o : Outcome) (code : ℕ) → EndReply (Some x) o (reply.Failed code) → (c : ℕ) × (o ≡ outcome.Fault c)
fault_is x (outcome.Fault c) code h = (c, refl)
fault_is x (outcome.Read bytes) code h = absurd h
fault_is x outcome.Written code h = absurd h

-- the end of a flush that failed
end_fails : (w new : WorldSeen) (t : ℕ) (x : Request) (code : ℕ) → finmap.get w.core.requests t ≡ Some x → x.kind ≡ Flush
    → WorldStep (world_of w) (Finish t (reply.Failed code)) (world_of new) → (c : ℕ) × (new.core ≡ flush_failed (ended w.core t) x c)
end_fails w new t x code is kind m = by (finmap.get w.outcomes t) (subst (λ q. Ends (world_of w) t q (finmap.get w.outcomes t) (reply.Failed code) (world_of new)) is m)
  where
    by : (o : Option Outcome) → Ends (world_of w) t (Some x) o (reply.Failed code) (world_of new) → (c : ℕ) × (new.core ≡ flush_failed (ended w.core t) x c)
    by None h = absurd h
    by (Some o) h =
        let a = happened w.core (event.End x.kind (record { cache = w.core.name; kind = x.kind; serial = record { 0 = t }; block = record { 0 = x.block }; outcome = o })) (reply.Failed code) new.core h.0 refl (λ n o k. cc) in
        let fault = fault_is x o code (subst (λ q. EndReply q o (reply.Failed code)) is a.may) in
        (fault.0, a.is ∙ (λ i. request_ended w.core t (is i) (fault.1 i) (reply.Failed code)) ∙ ap (λ k. if is_flush k then flush_failed (ended w.core t) x fault.0 else ended w.core t) kind)

pub carried_still : (old new : WorldSeen) (errors after : RecorderSeen) (f : FileId) (code : ℕ)
    → Carried old errors (event.FlushBegin f) (reply.Failed code) new after → old.core.requests ≡ finmap.empty
    → new.core.requests ≡ finmap.empty → (d : Bool) (h o n : ℕ) → wants d new.core h o n ≡ wants d old.core h o n
carried_still old new errors after f code c before rests =
    let a = happened old.core (event.FlushBegin f) (reply.Job c.serial) c.begun.core c.begin.0.1.0 refl (λ n o e. cc) in
    let w = may_flush old.core f a.untested in
    let core : c.called.core ≡ started old.core f.0 w.0 =
    ap (λ (v : WorldSeen). v.core) c.call.noted ∙ a.is ∙ ap (λ o. started old.core f.0 (unwrap_or o 0)) w.2.pick in
    let x : Request = record { kind = Flush; file = f.0; page = w.0; block = unwrap_or (block_at (change_page old.core f.0 w.0 under_write) f.0 w.0) 0; dropped = false } in
    let is : finmap.get c.called.core.requests c.serial.0 ≡ Some x =
    subst (λ (s : State). finmap.get s.requests c.serial.0 ≡ Some x) (sym core)
    (subst (λ n. finmap.get (finmap.insert old.core.requests n x) c.serial.0 ≡ Some x) a.may (get-insert1 old.core.requests c.serial.0 x c.serial.0 ∙ put1_here _ c.serial.0 _)) in
    let z = end_fails c.called new c.serial.0 x code is refl c.end.0 in
    same_wants old.core new.core
    (same_room old.core new.core f.0 w.0 c.serial.0 z.0 w.1 w.2 x
    (subst (λ s. new.core ≡ flush_failed (ended s c.serial.0) x z.0) core z.1) before rests)
