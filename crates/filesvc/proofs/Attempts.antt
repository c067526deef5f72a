-- One attempt of a call, and a call of attempts.
use Rattle.std.proofs.Common.{◌≡◌, ℕ, ◌+◌, ◌-◌, ◌/◌, ◌<◌, ◌≤◌, Bool, true, false, List, length, refl, ap, sym, subst, ◌∙◌, arith, inl, inr}
use Rattle.std.specs.Prelude.{◌⊎◌, Option, Some, None, Result, Ok, Err, IfOk, IfSome, unwrap_or, if◌then◌else◌}
use Rattle.std.specs.FinMap as finmap
use Rattle.atomic_table.specs.Seated.{TableId}
use Rattle.errboard.specs.Shown.{RecorderSeen}
use Rattle.pc_types.specs.declared.ids.HandleId.{HandleId}
use Rattle.pc_types.specs.declared.limits.TheConstants.{MAX_TOUCHED}
use Rattle.pc_types.specs.declared.ids.PageIndex.{PageIndex}
use Rattle.pc_types.specs.declared.refusal.Refusal.{Refusal}
use Rattle.pc_types.specs.declared.refusal.Refusal.TheVariants.{BadHandle, DirtyLimit, Io, Memory, NoFrame, NoSpace, TooLarge, TooLong, TooManyInFlight, Turns}
use Rattle.cachecore.specs.declared.answers.ReadAnswer.{ReadAnswer}
use Rattle.cachecore.specs.declared.answers.ReadAnswer.TheVariants as read
use Rattle.cachecore.specs.declared.answers.TruncateAnswer.{TruncateAnswer}
use Rattle.cachecore.specs.declared.answers.TruncateAnswer.TheVariants as cut
use Rattle.machine.specs.declared.event.Event.{Event}
use Rattle.machine.specs.declared.event.Event.TheVariants as event
use Rattle.machine.specs.declared.event.Reply.{Reply}
use Rattle.machine.specs.declared.event.Reply.TheVariants as reply
use Rattle.cachecore.specs.Replies.{was_read, was_truncated}
use Rattle.machine.specs.State.{State, file_at, handle_file, is_open}
use Rattle.machine.specs.Step.{Step}
use Rattle.machine.specs.Sound.{Sound}
use Rattle.machine.specs.Tests.{read_count, tests}
use Rattle.filesvc.specs.Rooms.{first_page, last_page}
use Rattle.runs.specs.Plain.{named, plain_after, plain_file}
use Rattle.runs.specs.Reached.{IsReached}
use Rattle.runs.specs.Seen.{files_seen}
use Rattle.world.specs.Stepping.{WorldSeen, world_of}
use Rattle.runs.specs.World.{Act, WorldStep}
use Rattle.runs.proofs.moments.Reached.{files_step}
use Rattle.filesvc.specs.declared.writes.Wrote.{Wrote}
use Rattle.world.specs.declared.step.Step.TheVariants as step
use Rattle.world.specs.Stepping.{IsMade}
use Rattle.filesvc.specs.Attempts.{Attempt, Follows, Helps, WroteAll, need_of, step_of, write_over}
use Rattle.filesvc.specs.Made.{FailsFill, IsMadeOf, Moves, Tries, WantsMemory, asked, is_help, own_handle, write_step}
use Rattle.filesvc.specs.Rests.{IsService}
use Rattle.filesvc.specs.Seen.{HandleSeen, SoloSeen}
use Rattle.filesvc.specs.Service.{FilesAfter, IsOpen, IsRefusal, IsSettledAtOnce, IsSoonOver, Keeps, LengthsAfter}
use Rattle.filesvc.specs.Service.{Refuses, Serves, Tells, files, is_settled, length_after, touched_by, wanted_by, wrote_reply}
use Rattle.filesvc.proofs.Acted.{service_acted}
use Rattle.filesvc.proofs.CallSteps.{call_keeps, call_no_sync, comes, is_call, is_own, no_job, own_reply, plain_refused, appended_all, wrote_all}
use Rattle.orderly.proofs.FileSizes.{lengths_stay}
use Rattle.filesvc.proofs.Laws.{helps_refl, tries_again, keeps_counted, keeps_trans, serves_counted, serves_refl, serves_trans}
use Rattle.filesvc.proofs.Fronts.{closed_refuses, handle_of, kept_refuses}
use Rattle.filesvc.proofs.RoomLaws.{faulted_before, held_same}
use Rattle.filesvc.specs.Rooms.{IsFillRefusal, IsHelpRefusal, IsWayRefusal}
use Rattle.filesvc.proofs.Needs.{need_most}
use Rattle.filesvc.proofs.CallLengths.{length_kept, quiet_length, step_length}
use Rattle.orderly.specs.Orderly.{IsOrderly}
use Rattle.filesvc.proofs.Stops.{read_few, write_few}
use Rattle.filesvc.proofs.WorldLaws.{made_keeps}

-- ---- refusals

-- a refusal stands for a call that began before
pub refused_before : (old mid : SoloSeen) (e : Event) (r : Refusal) (new : SoloSeen) → is_call e ≡ true → Serves old mid → IsRefusal mid e r new → IsRefusal old e r new
refused_before old mid e BadHandle new call s x = kept_refuses BadHandle refl old mid s e call x
refused_before old mid e TooLong new call s x = kept_refuses TooLong refl old mid s e call x
refused_before old mid e TooLarge new call s x = kept_refuses TooLarge refl old mid s e call x
refused_before old mid e NoSpace new call s x = x
refused_before old mid e NoFrame new call s x = (faulted_before old mid new s x.0, x.1)
refused_before old mid e DirtyLimit new call s x = (faulted_before old mid new s x.0, x.1)
refused_before old mid e (Io code) new call s x = faulted_before old mid new s x
refused_before old mid e TooManyInFlight new call s x = x
refused_before old mid e Memory new call s x = tt
refused_before old mid e r new call s x = absurd x

-- an event that the cache itself refused, but for want of room
by_event : (old new : SoloSeen) (e : Event) (r : Refusal) → is_own r ≡ true → is_settled (Some (reply.Refused r)) ≡ true → Refuses old e r ⊎ (r ≡ Memory) → new.world.core ≡ old.world.core → IsRefusal old e r new
by_event old new e BadHandle own t (inl x) same = x
by_event old new e TooLong own t (inl x) same = x
by_event old new e TooLarge own t (inl x) same = x
by_event old new e NoSpace own t (inl x) same = subst (λ c. tests c e ≡ Some (reply.Refused NoSpace)) (sym same) x
by_event old new e Memory own t x same = tt
by_event old new e r own t (inl x) same = absurd cc
by_event old new e r own t (inr k) same = absurd cc

-- ---- one attempt

-- its own step of the world
own_step : (old new : WorldSeen) (e : Event) (got : Reply) → is_call e ≡ true
    → WorldStep (world_of old) (Act e got) (world_of new) → new.device ≡ old.device → new.unflushed ≡ old.unflushed → IsMade old (step_of e) got new
own_step old new (event.Read h o n) got call m d still = (m, d, still)
own_step old new (event.Write h o b) got call m d still = (m, d, still)
own_step old new (event.Append h b) got call m d still = (m, d, still)
own_step old new (event.Truncate h z) got call m d still = (m, d, still)
own_step old new e got call m d still = absurd cc

own_names : (e : Event) → is_call e ≡ true → {h : ℕ} → handle_of e ≡ h → h ≡ own_handle (step_of e)
own_names (event.Read h o n) call is = sym is
own_names (event.Write h o b) call is = sym is
own_names (event.Append h b) call is = sym is
own_names (event.Truncate h z) call is = sym is
own_names e call is = absurd cc

-- the service after the event of an attempt
abbrev pub acted : SoloSeen → WorldSeen → SoloSeen
acted old w = record { world = w; errors = old.errors; attempts = old.attempts + 1 }

module _ (old : SoloSeen) (h : HandleId) (e : Event) (got : Reply) (w : WorldSeen) (call : is_call e ≡ true) (m : WorldStep (world_of old.world) (Act e got) (world_of w)) (d : w.device ≡ old.world.device) (still : w.unflushed ≡ old.world.unflushed) (ok : Sound old.world.core) where
  stepped : Step old.world.core e got w.core
  stepped = m.1.0

  same_world : w.core ≡ old.world.core → world_of w ≡ world_of old.world
  same_world c = ap world_of (held_same old.world w e got (m, d, still) (no_job got (comes old.world.core w.core e got call m.1.0).own) c)

  keeps_acted : Keeps old (acted old w)
  keeps_acted = keeps_counted old (record old { world = w }) old.attempts (old.attempts + 1) (made_keeps old w e got (m, d, still) ok (call_keeps e got call))

  serves_acted : w.core ≡ old.world.core → Serves old (acted old w)
  serves_acted c = record { keeps = keeps_acted; lengths = λ f. ap (λ (s : State). (file_at s f).size) c; files = λ _. ap files_seen (same_world c) }

  -- the event was refused by the cache, but for want of room
  refused_over : (r : Refusal) → is_settled (Some got) ≡ true → got ≡ reply.Refused r → IsRefusal old e r (acted old w)
  refused_over r t is =
      let c = comes old.world.core w.core e got call stepped in
      let own : is_own r ≡ true = subst (λ x. own_reply x ≡ true) is c.own in
      by_event old (acted old w) e r own (subst (λ x. is_settled (Some x) ≡ true) is t) (c.why r is) (c.refused r is)

  module _ (reached : Tells old → IsReached (world_of old.world)) (orderly : IsOrderly old.world.core) where
    -- the attempt is over with the event
    pub attempt_over : is_settled (Some got) ≡ true → Attempt old e (Some got) (acted old w)
    attempt_over t = record {
      keeps = keeps_acted;
      counted = refl;
      again = λ is. absurd cc;
      files = λ r is tells. files_step (world_of old.world) (world_of w) (Act e got) (reached tells) m ∙ ap (plain_after (files_seen (world_of old.world)) e) (let x : got ≡ r = cc in x);
      lengths = λ r is f. step_length old.world.core orderly e got w.core call stepped f
          ∙ ap (λ x. length_after old.world.core e x f) (let x : got ≡ r = cc in x);
      settled = λ _. (got, refl, stepped);
      tried = record {
        got = got;
        after = w;
        step = own_step old.world w e got call m d still;
        settled = λ _. (refl, refl);
        helped = λ u. absurd (let x : true ≡ false = sym t ∙ u in cc);
        failed = λ u. absurd (let x : true ≡ false = sym t ∙ u in cc);
        wanting = λ u. absurd (let x : true ≡ false = sym t ∙ u in cc);
      };
      refused = λ r is. refused_over r t (let x : got ≡ reply.Refused r = cc in x);
      less = λ is. absurd cc;
    }

    -- it went on after the event
    pub attempt_follows : (want : Option Refusal) (over : Option Reply) (new : SoloSeen) → handle_of e ≡ h.0
        → Follows (acted old w) h got want over new
        → (is_settled (Some got) ≡ false → (r : Refusal) → over ≡ Some (reply.Refused r) → want ≡ wanted_by new.world.core e)
        → (is_settled (Some got) ≡ false → over ≡ None → need_of new.world.core e < need_of w.core e)
        → Attempt old e over new
    attempt_follows want over new by f same_want gains = by_settled (is_settled (Some got)) refl
      where
        unsettled : is_settled (Some got) ≡ false → Attempt old e over new
        unsettled u =
            let c = comes old.world.core w.core e got call stepped in
            let s = serves_acted (c.same u) in
            let t = serves_trans old (acted old w) new s f.helps.serves in
            record {
              keeps = t.keeps;
              counted = f.attempts;
              again = λ _. t;
              files = λ r is tells. t.files tells ∙ sym (after r is);
              lengths = λ r is g. t.lengths g ∙ unchanged r is g;
              settled = λ x. absurd (let y = c.unsettled u in cc);
              refused = λ r is. elim (f.stopped u) [
                | inl a ↦ absurd (let x : Some (reply.Refused r) ≡ None = sym is ∙ a in cc)
                | inr a ↦ (let x : a.0 ≡ r = (let y : Some (reply.Refused a.0) ≡ Some (reply.Refused r) = sym a.1 ∙ is in cc) in subst (λ z. IsRefusal old e z new) x (refused_before old (acted old w) e a.0 new call s (help_refuses a.0 (subst (λ v. IsHelpRefusal (acted old w) h got v a.0 new) (same_want u a.0 a.1) a.2))))
              ];
              tried = record {
                got = got;
                after = w;
                step = own_step old.world w e got call m d still;
                settled = λ t. absurd (let x : true ≡ false = sym t ∙ u in cc);
                helped = λ _. subst (λ k. Moves (is_help k (asked got)) w new.world) (own_names e call by) f.helps.moves;
                failed = λ _. fails;
                wanting = λ _. wants_memory;
              };
              less = λ is. subst (λ x. need_of new.world.core e < need_of x e) (c.same u) (gains u is);
            }
          where
            fails : (code : ℕ) → over ≡ Some (reply.Refused (Io code))
                → (p : PageIndex) × (asked got ≡ Some p) × FailsFill w (own_handle (step_of e)) p code new.world
            fails code is = elim (f.stopped u) [
              | inl a ↦ absurd (let x : Some (reply.Refused (Io code)) ≡ None = sym is ∙ a in cc)
              | inr a ↦ (let x : Some (reply.Refused a.0) ≡ Some (reply.Refused (Io code)) = sym a.1 ∙ is in
                  let y : a.0 ≡ Io code = cc in
                  elim (subst (λ r. IsHelpRefusal (acted old w) h got want r new) y a.2) [
                    | inl z ↦ (z.0, z.1, subst (λ k. FailsFill w k z.0 code new.world) (own_names e call by) z.2.1)
                    | inr z ↦ absurd z
                  ])
            ]

            wants_memory : over ≡ Some (reply.Refused Memory)
                → (p : PageIndex) × (asked got ≡ Some p) × WantsMemory w (own_handle (step_of e)) p new.world
            wants_memory is = elim (f.stopped u) [
              | inl a ↦ absurd (let x : Some (reply.Refused Memory) ≡ None = sym is ∙ a in cc)
              | inr a ↦ (let x : Some (reply.Refused a.0) ≡ Some (reply.Refused Memory) = sym a.1 ∙ is in
                  let y : a.0 ≡ Memory = cc in
                  elim (subst (λ r. IsHelpRefusal (acted old w) h got want r new) y a.2) [
                    | inl z ↦ (z.0, z.1, subst (λ k. WantsMemory w k z.0 new.world) (own_names e call by) z.2)
                    | inr z ↦ absurd z
                  ])
            ]

            way_refuses : (r : Refusal) → IsWayRefusal (acted old w) (wanted_by new.world.core e) r new → IsRefusal (acted old w) e r new
            way_refuses NoFrame x = x
            way_refuses DirtyLimit x = x
            way_refuses r x = absurd x

            fill_refuses : (p : PageIndex) (r : Refusal) → IsFillRefusal (acted old w) h p (wanted_by new.world.core e) r new → IsRefusal (acted old w) e r new
            fill_refuses p BadHandle x = closed_refuses w.core e call (ap (λ k. is_open w.core k) by ∙ x)
            fill_refuses p (Io code) x = x.0
            fill_refuses p TooManyInFlight x = x
            fill_refuses p Memory x = tt
            fill_refuses p r x = way_refuses r x

            help_refuses : (r : Refusal) → IsHelpRefusal (acted old w) h got (wanted_by new.world.core e) r new → IsRefusal (acted old w) e r new
            help_refuses r (inl x) = fill_refuses x.0 r x.2
            help_refuses r (inr x) = way_refuses r x

            unchanged : (r : Reply) → over ≡ Some r → (g : ℕ)
                → (file_at old.world.core g).size ≡ length_after old.world.core e r g
            unchanged r is g = elim (f.stopped u) [
              | inl a ↦ absurd (let x : Some r ≡ None = sym is ∙ a in cc)
              | inr a ↦ (let x : reply.Refused a.0 ≡ r =
                  (let y : Some (reply.Refused a.0) ≡ Some r = sym a.1 ∙ is in cc) in
                  sym (quiet_length old.world.core e (reply.Refused a.0) g refl)
                  ∙ ap (λ y. length_after old.world.core e y g) x)
            ]

            after : (r : Reply) → over ≡ Some r → plain_after (files_seen (world_of old.world)) e r ≡ files_seen (world_of old.world)
            after r is = elim (f.stopped u) [
              | inl a ↦ absurd (let x : Some r ≡ None = sym is ∙ a in cc)
              | inr a ↦ (let x : reply.Refused a.0 ≡ r = (let y : Some (reply.Refused a.0) ≡ Some r = sym a.1 ∙ is in cc) in ap (plain_after (files_seen (world_of old.world)) e) (sym x) ∙ plain_refused (files_seen (world_of old.world)) e a.0 call)
            ]

        by_settled : (b : Bool) → is_settled (Some got) ≡ b → Attempt old e over new
        by_settled true t = let x = f.settled t in subst (λ o. Attempt old e o new) (sym x.0) (subst (λ s. Attempt old e (Some got) s) (sym x.1) (attempt_over t))
        by_settled false u = unsettled u

-- a read leaves the files, whatever it answers
pub read_serves : (old : SoloSeen) (h : HandleId) (o n : ℕ) (got : Reply) (w : WorldSeen) → WorldStep (world_of old.world) (Act (event.Read h o n) got) (world_of w) → w.device ≡ old.world.device → w.unflushed ≡ old.world.unflushed → Sound old.world.core → (Tells old → IsReached (world_of old.world)) → Serves old (acted old w)
read_serves old h o n got w m d still ok reached = record {
  keeps = keeps_acted old h (event.Read h o n) got w refl m d still ok;
  lengths = lengths_stay (world_of old.world) (world_of w) (Act (event.Read h o n) got) refl m;
  files = λ tells. files_step (world_of old.world) (world_of w) (Act (event.Read h o n) got) (reached tells) m;
}

-- ---- the way on from an event that is not over: a page is to be filled, or room to be made

pub read_unsettled : (a : ReadAnswer) (out : List ℕ) (p : PageIndex) → (a ≡ read.Miss p) ⊎ (a ≡ read.Wait p) → is_settled (Some (was_read (Ok a) out)) ≡ false
read_unsettled a out p (inl e) = ap (λ x. is_settled (Some (was_read (Ok x) out))) e
read_unsettled a out p (inr e) = ap (λ x. is_settled (Some (was_read (Ok x) out))) e

-- and for this page it asks
pub read_asks : (a : ReadAnswer) (out : List ℕ) (p : PageIndex) → (a ≡ read.Miss p) ⊎ (a ≡ read.Wait p) → asked (was_read (Ok a) out) ≡ Some p
read_asks a out p (inl e) = ap (λ x. asked (was_read (Ok x) out)) e
read_asks a out p (inr e) = ap (λ x. asked (was_read (Ok x) out)) e

pub truncate_asks : (a : TruncateAnswer) (p : PageIndex) → (a ≡ cut.Miss p) ⊎ (a ≡ cut.Wait p) → asked (was_truncated (Ok a)) ≡ Some p
truncate_asks a p (inl e) = ap (λ x. asked (was_truncated (Ok x))) e
truncate_asks a p (inr e) = ap (λ x. asked (was_truncated (Ok x))) e

pub truncate_unsettled : (a : TruncateAnswer) (p : PageIndex) → (a ≡ cut.Miss p) ⊎ (a ≡ cut.Wait p) → is_settled (Some (was_truncated (Ok a))) ≡ false
truncate_unsettled a p (inl e) = ap (λ x. is_settled (Some (was_truncated (Ok x)))) e
truncate_unsettled a p (inr e) = ap (λ x. is_settled (Some (was_truncated (Ok x)))) e

module _ (old : SoloSeen) (h : HandleId) (got : Reply) (want : Option Refusal) (new : SoloSeen) where
  pub follows_over : new ≡ old → is_settled (Some got) ≡ true → Follows old h got want (Some got) new
  follows_over same t = record { helps = subst (Helps h.0 (asked got) old) (sym same) (helps_refl old); attempts = ap (λ s. s.attempts) same; settled = λ _. (refl, same); stopped = λ u. absurd cc }

  pub follows_again : (page : Option PageIndex) → asked got ≡ page → Helps h.0 page old new → new.attempts ≡ old.attempts → is_settled (Some got) ≡ false → Follows old h got want None new
  follows_again page is s a u = record { helps = subst (λ p. Helps h.0 p old new) (sym is) s; attempts = a; settled = λ t. absurd cc; stopped = λ _. inl refl }

  pub follows_refused : (page : Option PageIndex) → asked got ≡ page → (r : Refusal) → Helps h.0 page old new → new.attempts ≡ old.attempts → is_settled (Some got) ≡ false → IsHelpRefusal old h got want r new → Follows old h got want (Some (reply.Refused r)) new
  follows_refused page is r s a u why = record { helps = subst (λ p. Helps h.0 p old new) (sym is) s; attempts = a; settled = λ t. absurd cc; stopped = λ _. inr (r, refl, why) }

  pub follows_wrote : (n end : ℕ) → Follows old h got want (Some (reply.Wrote n end)) new → got ≡ reply.Wrote n end
  follows_wrote n end f = by_settled (is_settled (Some got)) refl
    where
      by_settled : (b : Bool) → is_settled (Some got) ≡ b → got ≡ reply.Wrote n end
      by_settled true t = let x = (f.settled t).0 in cc
      by_settled false u = elim (f.stopped u) [ inl a ↦ absurd cc | inr a ↦ absurd (let x = a.1 in cc) ]

-- what was written, in the end, where an event of so many bytes at o was made
pub follows_all : (old : SoloSeen) (h : HandleId) (got : Reply) (want : Option Refusal) (new : SoloSeen) (s t : State) (o : ℕ) (b : List ℕ) (result : Result (Option Wrote) Refusal) → Follows old h got want (write_over result) new → Step s (event.Write h o b) got t → IfOk result (λ x. IfSome x (WroteAll o b))
follows_all old h got want new s t o b (Ok (Some w)) f made = wrote_all s t h o b w (subst (λ r. Step s (event.Write h o b) r t) (follows_wrote old h got want new w.count w.end f) made)
follows_all old h got want new s t o b (Ok None) f made = tt
follows_all old h got want new s t o b (Err r) f made = tt

pub follows_appended : (old : SoloSeen) (h : HandleId) (got : Reply) (want : Option Refusal) (new : SoloSeen) (s t : State) (b : List ℕ) (result : Result (Option Wrote) Refusal) → Follows old h got want (write_over result) new → Step s (event.Append h b) got t → IfOk result (λ x. IfSome x (WroteAll (file_at s (handle_file s h.0)).size b))
follows_appended old h got want new s t b (Ok (Some w)) f made = appended_all s t h b w (subst (λ r. Step s (event.Append h b) r t) (follows_wrote old h got want new w.count w.end f) made)
follows_appended old h got want new s t b (Ok None) f made = tt
follows_appended old h got want new s t b (Err r) f made = tt

pub settled_unless : (r : Refusal) → (r ≡ NoFrame → ⊥) → (r ≡ DirtyLimit → ⊥) → is_settled (Some (reply.Refused r)) ≡ true
settled_unless NoFrame a b = absurd (a refl)
settled_unless DirtyLimit a b = absurd (b refl)
settled_unless r a b = refl

-- the event keeps what holds of a service between its calls
pub service_kept : (name : ℕ) (w new : WorldSeen) (table : TableId) (errors : RecorderSeen) (e : Event) (got : Reply) → is_call e ≡ true → WorldStep (world_of w) (Act e got) (world_of new) → new.device ≡ w.device → IsService name w table errors → IsService name new table errors
service_kept name w new table errors e got call m d s = service_acted name w new table errors s e got m d (call_no_sync e call) (no_job got (comes w.core new.core e got call m.1.0).own)

-- ---- a call of attempts

-- the service before an attempt of a call that began at old
pub record Trying (old : SoloSeen) (e : Event) (cur : SoloSeen) : Type 0 where
  pub serves : Serves old cur
  pub few : cur.attempts ≤ 256
  -- after the first attempt the event was not settled at once
  pub first : is_settled (tests old.world.core e) ≡ true → (cur.world.core ≡ old.world.core) × (cur.attempts ≡ 0)
  pub tried : Tries (step_of e) old.world cur.attempts cur.world
  -- what it needs still is no more than is left
  pub room : cur.attempts + need_of cur.world.core e ≤ touched_by old.world.core e + 1

-- a call that ended with this reply
pub record Ended (old : SoloSeen) (h : HandleSeen) (e : Event) (r : Reply) (new : SoloSeen) : Type 0 where
  pub keeps : Keeps old new
  pub files : FilesAfter old e r new
  pub lengths : LengthsAfter old e r new
  pub first : IsSettledAtOnce old h e r new
  pub refused : (why : Refusal) → r ≡ reply.Refused why → IsRefusal old e why new
  pub attempts : IsSoonOver old e new
  pub made : IsMadeOf (step_of e) old r new

-- at first it needs one more than it touches pages at most
need_within : (s : State) (e : Event) → need_of s e ≤ touched_by s e + 1
need_within s (event.Read h o n) = need_most false s h.0 o (read_count s (handle_file s h.0) o n)
need_within s (event.Write h o b) = need_most true s h.0 o (length b)
need_within s (event.Append h b) = need_most true s h.0 (file_at s (handle_file s h.0)).size (length b)
need_within s (event.Truncate h z) =
    let one : z + 1 - 1 ≡ z = omega arith in
    let last : last_page s.sizes.page z 1 ≡ first_page s.sizes.page z = ap (λ k. k / s.sizes.page) one in
    let m = need_most false s h.0 z 1 in omega arith
need_within s e = omega arith

-- and one that is not over at once touches 16 pages at most
few_touched : (s : State) (e : Event) → is_call e ≡ true → is_settled (tests s e) ≡ false → touched_by s e ≤ MAX_TOUCHED
few_touched s (event.Read h o n) call u = read_few s h.0 o n u
few_touched s (event.Write h o b) call u = write_few s h.0 o (length b) u
few_touched s (event.Append h b) call u = write_few s h.0 (file_at s (handle_file s h.0)).size (length b) u
few_touched s (event.Truncate h z) call u = omega arith
few_touched s e call u = absurd cc

module _ (old : SoloSeen) (e : Event) where
  pub try_first : Trying old e (record old { attempts = 0 })
  try_first = record {
    serves = serves_counted old old _ 0 (serves_refl old);
    few = omega arith;
    first =
        λ _. (refl, refl);
    tried = refl;
    room = (let m = need_within old.world.core e in omega arith);
  }

  module _ (cur : SoloSeen) (t : Trying old e cur) where
    settled_first : is_settled (tests old.world.core e) ≡ true → is_settled (tests cur.world.core e) ≡ true
    settled_first s = ap (λ c. is_settled (tests c e)) ((t.first s).0) ∙ s

    pub try_again : (new : SoloSeen) → cur.attempts < 256 → Attempt cur e None new → Trying old e new
    try_again new less a = record {
      serves = serves_trans old cur new t.serves (a.again refl);
      few = (let c = a.counted in omega arith);
      first = λ s. absurd (let x = a.settled (settled_first s) in let y = x.1 in cc);
      tried = tries_again (step_of e) old.world cur.world new.world cur.attempts new.attempts a.counted t.tried a.tried;
      room = (let c = a.counted in let r = t.room in let l = a.less refl in omega arith);
    }

    pub try_over : (h : HandleSeen) (r : Reply) (new : SoloSeen) → Attempt cur e (Some r) new → is_call e ≡ true → Ended old h e r new
    try_over h r new a call = record {
      keeps = keeps_trans old cur new t.serves.keeps a.keeps;
      files = λ tells. a.files r refl (t.serves.keeps.tells ∙ tells) ∙ ap (λ f. plain_after f e r) (t.serves.files tells);
      lengths = λ f. a.lengths r refl f
          ∙ length_kept old.world.core cur.world.core t.serves.keeps.handles t.serves.lengths e r f;
      first = λ _ s.
          let x = a.settled (settled_first s) in
          let same : x.0 ≡ r = (let y = x.1 in cc) in
          let f = t.first s in
          (subst (λ c. Step c e r new.world.core) f.0 (subst (λ z. Step cur.world.core e z new.world.core) same x.2), a.counted ∙ ap (λ n. n + 1) f.1);
      refused = λ why is. refused_before old cur e why new call t.serves (a.refused why (ap Some is));
      attempts = (let c = a.counted in let r = t.room in omega arith);
      made = (cur.attempts, cur.world, t.tried, a.tried, a.counted);
    }

    -- it does not run out of attempts
    pub try_turns : (h : HandleSeen) → is_call e ≡ true → (cur.attempts < 256 → ⊥) → Ended old h e (reply.Refused Turns) cur
    try_turns h call none = absurd (by (is_settled (tests old.world.core e)) refl)
      where
        all : cur.attempts ≡ 256
        all = let f = t.few in omega (arith, none)

        by : (b : Bool) → is_settled (tests old.world.core e) ≡ b → ⊥
        by true s = let f = (t.first s).1 in let a = all in omega arith
        by false u = let r = t.room in let f = few_touched old.world.core e call u in let a = all in omega arith

-- ---- a write at the cursor, or at the end by an appending handle

module _ (s new : SoloSeen) (h : HandleSeen) (bytes : List ℕ) where
  pub made_at_cursor : (n : ℕ) → h.append ≡ false → n ≡ length bytes
      → IsMadeOf (step.Write (record { 0 = h.number }) h.cursor bytes) s (reply.Wrote n (h.cursor + length bytes)) new
      → IsMadeOf (write_step h bytes) s (wrote_reply s h (Ok n)) new
  made_at_cursor n off all m =
      subst (λ b. IsMadeOf (if b then step.Append (record { 0 = h.number }) bytes else step.Write (record { 0 = h.number }) h.cursor bytes) s (reply.Wrote n ((if b then (file_at s.world.core h.file).size else h.cursor) + n)) new) (sym off)
      (subst (λ k. IsMadeOf (step.Write (record { 0 = h.number }) h.cursor bytes) s (reply.Wrote n (h.cursor + k)) new) (sym all) m)

  pub none_at_cursor : (r : Refusal) → h.append ≡ false
      → IsMadeOf (step.Write (record { 0 = h.number }) h.cursor bytes) s (reply.Refused r) new
      → IsMadeOf (write_step h bytes) s (reply.Refused r) new
  none_at_cursor r off m =
      subst (λ b. IsMadeOf (if b then step.Append (record { 0 = h.number }) bytes else step.Write (record { 0 = h.number }) h.cursor bytes) s (reply.Refused r) new) (sym off) m

  pub made_at_end : (w : Wrote) → h.append ≡ true → WroteAll (file_at s.world.core h.file).size bytes w
      → IsMadeOf (step.Append (record { 0 = h.number }) bytes) s (reply.Wrote w.count w.end) new
      → IsMadeOf (write_step h bytes) s (wrote_reply s h (Ok w.count)) new
  made_at_end w on all m =
      subst (λ b. IsMadeOf (if b then step.Append (record { 0 = h.number }) bytes else step.Write (record { 0 = h.number }) h.cursor bytes) s (reply.Wrote w.count ((if b then (file_at s.world.core h.file).size else h.cursor) + w.count)) new) (sym on)
      (subst (λ k. IsMadeOf (step.Append (record { 0 = h.number }) bytes) s (reply.Wrote w.count k) new) all.ends m)

  pub none_at_end : (r : Refusal) → h.append ≡ true
      → IsMadeOf (step.Append (record { 0 = h.number }) bytes) s (reply.Refused r) new
      → IsMadeOf (write_step h bytes) s (reply.Refused r) new
  none_at_end r on m =
      subst (λ b. IsMadeOf (if b then step.Append (record { 0 = h.number }) bytes else step.Write (record { 0 = h.number }) h.cursor bytes) s (reply.Refused r) new) (sym on) m

-- ---- the file of a handle

pub its_file : (s : SoloSeen) (h : HandleSeen) → IsOpen s h → handle_file s.world.core h.number ≡ h.file
its_file s h o = ap (λ x. unwrap_or x 0) o.number

-- how long it is, as the call began
pub length_before : (old cur : SoloSeen) (h : HandleSeen) → Serves old cur → IsOpen old h → (file_at cur.world.core (handle_file cur.world.core h.number)).size ≡ (file_at old.world.core h.file).size
length_before old cur h s o =
    let f : handle_file cur.world.core h.number ≡ h.file = ap (λ x. unwrap_or (finmap.get x h.number) 0) s.keeps.handles ∙ its_file old h o in
    ap (λ g. (file_at cur.world.core g).size) f ∙ s.lengths h.file

-- its bytes, as the call began
pub bytes_before : (old cur : SoloSeen) (h : HandleSeen) → Serves old cur → IsOpen old h → Tells old → plain_file (files cur) (named (files cur) h.number) ≡ plain_file (files old) h.file
bytes_before old cur h s o tells = ap (λ x. plain_file x (named x h.number)) (s.files tells) ∙ ap (plain_file (files old)) (its_file old h o)
