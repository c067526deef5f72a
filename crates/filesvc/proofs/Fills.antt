-- A fill in one that was neither refused nor failed: the page is cached.
use Rattle.std.proofs.Common.{◌≡◌, ℕ, ◌<◌, Bool, true, false, [], refl, ap, sym, subst, ◌∙◌, arith, inl, inr}
use Rattle.std.specs.Prelude.{◌&&◌, ◌==◌, not, nat_le, map, Option, Some, None}
use Rattle.std.specs.List.{list_any}
use Rattle.std.specs.FinMap as finmap
use Rattle.std.specs.Ordering.{nat_cmp}
use Rattle.std.proofs.lemmas.Bool.Decides.{nat_tests}
use Rattle.atomic_table.specs.Seated.{TableId}
use Rattle.errboard.specs.Shown.{RecorderSeen}
use Rattle.pc_types.specs.Tags.{no_tags}
use Rattle.pc_types.specs.declared.ids.HandleId.{HandleId}
use Rattle.pc_types.specs.declared.ids.PageIndex.{PageIndex}
use Rattle.pc_types.specs.declared.ids.Serial.{Serial}
use Rattle.pc_types.specs.declared.kind.Kind.TheVariants.{Fill}
use Rattle.pc_types.specs.declared.refusal.Refusal.{Refusal}
use Rattle.pc_types.specs.declared.refusal.Refusal.TheVariants.{Memory, Stranger}
use Rattle.machine.specs.declared.event.Event.TheVariants as event
use Rattle.machine.specs.declared.event.Outcome as core
use Rattle.machine.specs.declared.event.Outcome.TheVariants as outcome
use Rattle.machine.specs.declared.event.Reply.{Reply}
use Rattle.machine.specs.declared.event.Reply.TheVariants as reply
use Rattle.machine.specs.Changes.{changed, ended, put_page, request_ended, requested}
use Rattle.pc_types.specs.Files.{cut}
use Rattle.pc_types.specs.Spots.{shown}
use Rattle.machine.specs.State.{valid_at, State, Page, Request, file_at, handle_file, fills, free_frames, is_cached, is_filling, is_open, is_written, page_count}
use Rattle.machine.specs.Step.{EndReply, MayReply, Step}
use Rattle.machine.specs.Tests.{fits, tests, is_full}
use Rattle.machine.proofs.steps.Cases.{answered}
use Rattle.machine.proofs.steps.Choices.{quiet_if, quiet_none, quiet_when}
use Rattle.maps.proofs.MapLaws.{no_entries}
use Rattle.world.specs.declared.step.Step.TheVariants as step
use Rattle.world.specs.Stepping.{WorldSeen, world_of}
use Rattle.runs.specs.World.{Ends, Finish, WorldStep}
use Rattle.machine.proofs.steps.Ends.{of_end, own_end}
use Rattle.runs.proofs.events.Lookups.{get-insert1}
use Rattle.runs.proofs.views.View.{put1_here}
use Rattle.cachecore.specs.Replies as replies
use Rattle.filesvc.specs.Rests.{AtOnce, IsServing}
use Rattle.filesvc.specs.Rooms.{IsMissed, need}
use Rattle.filesvc.specs.Service.{wants}
use Rattle.filesvc.specs.Seen.{SoloSeen}
use Rattle.filesvc.proofs.Needs.{Fills, filled_needs, some_free}
use Rattle.filesvc.proofs.WorldLaws.{Once, Quiet, Whole, fill_begins, once}

abbrev IsRefused : Reply → Type 0
IsRefused r = (why : Refusal) × (r ≡ reply.Refused why)

-- no page is filling where no request is in flight
pub none_fills : (s : State) (f p : ℕ) → s.requests ≡ finmap.empty → is_filling s f p ≡ false
none_fills s f p e = ap (λ m. list_any (fills f p) (finmap.values m)) e ∙ ap (λ es. list_any (fills f p) (map (λ (x : ℕ × Request). x.1) es)) (no_entries nat_cmp)

module _ (s new : State) (h : HandleId) (p : PageIndex) (r : Reply) (idle : s.requests ≡ finmap.empty) (over : new.requests ≡ finmap.empty) (absent : is_cached s (handle_file s h.0) p.0 ≡ false) (within : p.0 < page_count s.sizes.page (file_at s (handle_file s h.0)).size) where
  refuses : (x : Reply) → tests s (event.FillBegin h p) ≡ Some x → IsRefused x
  refuses =
      let f = handle_file s h.0 in
      quiet_if IsRefused (not (is_open s h.0)) _ _ (_, refl)
      (quiet_when IsRefused (nat_le (page_count s.sizes.page (file_at s f).size) p.0) _ _ (λ t. absurd (grind (arith, nat_tests)))
      (quiet_when IsRefused (is_filling s f p.0) _ _ (λ t. absurd (let e : true ≡ false = sym t ∙ none_fills s f p.0 idle in cc))
      (quiet_when IsRefused (is_cached s f p.0) _ _ (λ t. absurd (let e : true ≡ false = sym t ∙ absent in cc))
      (quiet_if IsRefused (free_frames s == 0) _ _ (_, refl)
      (quiet_if IsRefused (is_written s f p.0 && is_full s) _ None (_, refl) (quiet_none IsRefused))))))

  module _ (kept : (why : Refusal) → r ≡ reply.Refused why → ⊥) where
    -- at once, as a page of zeros
    quiet_fills : replies.is_job r ≡ false → Step s (event.FillBegin h p) r new → Fills s new (handle_file s h.0) p.0
    quiet_fills j a = elim (answered (tests s (event.FillBegin h p)) s (event.FillBegin h p) r new a) [
      | inl x ↦ absurd (let y = refuses r x.0 in kept y.0 y.1)
      | inr x ↦ by r j kept x.1 x.2
    ]
      where
        by : (r : Reply) → replies.is_job r ≡ false → ((why : Refusal) → r ≡ reply.Refused why → ⊥) → MayReply s (event.FillBegin h p) r → new ≡ changed s (event.FillBegin h p) r → Fills s new (handle_file s h.0) p.0
        by reply.Filled j k may e = record { page = record { bytes = cut [] s.sizes.page; tags = no_tags }; clean = refl; sizes = ap (λ (x : State). x.sizes) e; handles = ap (λ (x : State). x.handles) e; files = ap (λ (x : State). x.files) e; before = idle; after = over }
        by (reply.Job t) j k may e = absurd cc
        by (reply.Refused Memory) j k may e = absurd (k Memory refl)
        by _ j k may e = absurd may

-- the page's request, and its end
begun_fill : (s begun : State) (h : HandleId) (p : PageIndex) (t : Serial) → ((x : Reply) → tests s (event.FillBegin h p) ≡ Some x → IsRefused x) → Step s (event.FillBegin h p) (reply.Job t) begun → (t.0 ≡ s.next) × (begun ≡ requested s Fill (handle_file s h.0) p.0)
begun_fill s begun h p t refuses a = elim (answered (tests s (event.FillBegin h p)) s (event.FillBegin h p) (reply.Job t) begun a) [
  | inl x ↦ absurd (let y = refuses (reply.Job t) x.0 in let z = y.1 in cc)
  | inr x ↦ (x.1.1, x.2)
]

fill_over : (s c new : State) (t f p : ℕ) (x : Request) (o : core.Outcome) (r : Reply) → c ≡ requested s Fill f p → x.dropped ≡ false → x.file ≡ f → x.page ≡ p → fits Fill o ≡ true → s.requests ≡ finmap.empty → new.requests ≡ finmap.empty → ((why : Refusal) → r ≡ reply.Refused why → ⊥) → ((code : ℕ) → r ≡ reply.Failed code → ⊥) → EndReply (Some x) o r → new ≡ request_ended c t (Some x) o r → Fills s new f p
fill_over s c new t f p x o reply.Dropped is live file page fit idle rests kept well h e = absurd (let d : x.dropped ≡ true = h in let k : true ≡ false = sym d ∙ live in cc)
fill_over s c new t f p x (outcome.Fault code) (reply.Failed d) is live file page fit idle rests kept well h e = absurd (well d refl)
fill_over s c new t f p x (outcome.Read bytes) reply.Filled is live file page fit idle rests kept well h e =
    let now : Page = record { bytes = shown c.sizes.page (valid_at c x.file x.page) bytes; tags = no_tags } in
    let at : new ≡ put_page (ended (requested s Fill f p) t) f p now = e ∙ (λ i. put_page (ended (is i) t) (file i) (page i) now) in
    record { page = now; clean = refl; sizes = ap (λ (y : State). y.sizes) at; handles = ap (λ (y : State). y.handles) at; files = ap (λ (y : State). y.files) at; before = idle; after = rests }
fill_over s c new t f p x outcome.Written reply.Written is live file page fit idle rests kept well h e = absurd (let k : false ≡ true = fit in cc)
fill_over s c new t f p x o r is live file page fit idle rests kept well h e = absurd h

end_of_fill : (s : State) (w new : WorldSeen) (t f p : ℕ) (x : Request) (r : Reply) → w.core ≡ requested s Fill f p → finmap.get w.core.requests t ≡ Some x → x.kind ≡ Fill → x.dropped ≡ false → x.file ≡ f → x.page ≡ p → s.requests ≡ finmap.empty → new.core.requests ≡ finmap.empty → ((why : Refusal) → r ≡ reply.Refused why → ⊥) → ((code : ℕ) → r ≡ reply.Failed code → ⊥) → WorldStep (world_of w) (Finish t r) (world_of new) → Fills s new.core f p
end_of_fill s w new t f p x r at is kind live file page idle rests kept well m = by (finmap.get w.outcomes t) (subst (λ q. Ends (world_of w) t q (finmap.get w.outcomes t) r (world_of new)) is m)
  where
    by : (o : Option core.Outcome) → Ends (world_of w) t (Some x) o r (world_of new) → Fills s new.core f p
    by None h = absurd h
    by (Some o) h = elim (of_end w.core x.kind (own_end w.core t x o) r new.core h.0) [
      | inl same ↦ absurd (kept Stranger same.1)
      | inr a ↦ (let both : Some a.x ≡ Some x = sym a.may.is ∙ is in let same : a.x ≡ x = cc in
          fill_over s w.core new.core t f p a.x o r at (ap (λ (y : Request). y.dropped) same ∙ live) (ap (λ (y : Request). y.file) same ∙ file) (ap (λ (y : Request). y.page) same ∙ page) (subst (λ k. fits k o ≡ true) kind a.may.fitting) idle rests kept well a.reply a.is)
    ]

pub fill_fills : (name : ℕ) (s : SoloSeen) (w : WorldSeen) (errors : RecorderSeen) (table : TableId) (h : HandleId)
    (o n : ℕ) (p : PageIndex) (r : Reply) → IsServing name s.world table s.errors → w.core.requests ≡ finmap.empty
    → IsMissed s h.0 o n p.0 → AtOnce s.world s.errors (step.FillBegin h p) r w errors
    → ((why : Refusal) → r ≡ reply.Refused why → ⊥) → ((code : ℕ) → r ≡ reply.Failed code → ⊥)
    → Fills s.world.core w.core (handle_file s.world.core h.0) p.0
fill_fills name s w errors table h o n p r i after m a kept well =
    by (once s.world w s.errors errors (step.FillBegin h p) (event.FillBegin h p) r (fill_begins h p) a)
  where
    by : Once s.world s.errors (event.FillBegin h p) r w errors → Fills s.world.core w.core (handle_file s.world.core h.0) p.0
    by (Quiet j k none) = quiet_fills s.world.core w.core h p r i.rests.requests after m.absent m.within kept j k.0.1.0
    by (Whole c) =
        let f = handle_file s.world.core h.0 in
        let b = begun_fill s.world.core c.begun.core h p c.serial
        (refuses s.world.core w.core h p r i.rests.requests after m.absent m.within) c.begin.0.1.0 in
        let core : c.called.core ≡ requested s.world.core Fill f p.0 = ap (λ (x : WorldSeen). x.core) c.call.noted ∙ b.1 in
        let put : (x : Request) → finmap.get (finmap.insert s.world.core.requests s.world.core.next x) c.serial.0 ≡ Some x = λ x. subst (λ k. finmap.get (finmap.insert s.world.core.requests k x) c.serial.0 ≡ Some x) b.0 (get-insert1 s.world.core.requests c.serial.0 x c.serial.0 ∙ put1_here _ c.serial.0 _) in
        end_of_fill s.world.core c.called w c.serial.0 f p.0 _ r core (ap (λ (x : State). finmap.get x.requests c.serial.0) core ∙ put _) refl refl refl refl i.rests.requests after kept well c.end.0

-- ---- the page is one less that the call lacks

pub is_open_of : (a b c d : Bool) → (a && b && c && d) ≡ true → a ≡ true
is_open_of true b c d e = refl
is_open_of false b c d e = absurd cc

module _ (name : ℕ) (s : SoloSeen) (table : TableId) (i : IsServing name s.world table s.errors) (dirties : Bool) (h : HandleId) (o n : ℕ) (p : PageIndex) (m : IsMissed s h.0 o n p.0) (room : wants dirties s.world.core h.0 o n ≡ None) where
  -- a frame is free for it
  pub frame_free : 0 < free_frames s.world.core
  frame_free = some_free dirties s.world.core h.0 o n p.0 m.first m.last m.absent m.may room

  pub fill_gains : (w : WorldSeen) (errors : RecorderSeen) (r : Reply) → w.core.requests ≡ finmap.empty
      → AtOnce s.world s.errors (step.FillBegin h p) r w errors → ((why : Refusal) → r ≡ reply.Refused why → ⊥)
      → ((code : ℕ) → r ≡ reply.Failed code → ⊥) → need dirties w.core h.0 o n < need dirties s.world.core h.0 o n
  fill_gains w errors r after a kept well =
      let opened : is_open s.world.core h.0 ≡ true = is_open_of (is_open s.world.core h.0) _ _ _ m.may in
      let here = i.orderly.handles h.0 opened in
      filled_needs dirties s w.core h.0 o n p.0 here m room
      (fill_fills name s w errors table h o n p r i after m a kept well)
