-- After an event that was not over: what stands in its way, in the state after it, and that the way on brought it nearer its end.
use Rattle.std.proofs.Common.{◌≡◌, ℕ, ◌<◌, ◌≤◌, Bool, true, false, not, List, length, refl, ap, sym, subst, ◌∙◌, inl, inr}
use Rattle.std.specs.Prelude.{◌⊎◌, Some, Ok, is_some}
use Rattle.atomic_table.specs.Seated.{TableId}
use Rattle.pc_types.specs.declared.ids.HandleId.{HandleId}
use Rattle.pc_types.specs.declared.ids.PageIndex.{PageIndex}
use Rattle.pc_types.specs.declared.refusal.Refusal.TheVariants.{BadHandle, DirtyLimit, Memory, NoFrame}
use Rattle.cachecore.specs.declared.answers.ReadAnswer.{ReadAnswer}
use Rattle.cachecore.specs.declared.answers.ReadAnswer.TheVariants as read
use Rattle.cachecore.specs.declared.answers.TruncateAnswer.{TruncateAnswer}
use Rattle.cachecore.specs.declared.answers.TruncateAnswer.TheVariants as cut
use Rattle.machine.specs.declared.event.Event.TheVariants as event
use Rattle.machine.specs.declared.event.Reply.{Reply}
use Rattle.machine.specs.declared.event.Reply.TheVariants as reply
use Rattle.cachecore.specs.Replies.{was_read, was_truncated}
use Rattle.machine.specs.State.{State, file_at, handle_file, is_cached, is_open, page_count}
use Rattle.filesvc.specs.Rooms.{first_page, last_page, IsMissed, Stops, need}
use Rattle.machine.specs.declared.event.Event.{Event}
use Rattle.machine.specs.Step.{AnswersOr, MayReply, Step}
use Rattle.machine.specs.Tests.{read_count, tests, write_tests}
use Rattle.cachecore.specs.Wants.{may_touch}
use Rattle.machine.proofs.steps.Cases.{answered}
use Rattle.machine.proofs.steps.Choices.{at_true}
use Rattle.filesvc.specs.Attempts.{need_of}
use Rattle.filesvc.specs.Rests.{IsServing}
use Rattle.filesvc.specs.Seen.{SoloSeen}
use Rattle.filesvc.specs.Service.{Serves, is_settled, wanted_by, wants}
use Rattle.filesvc.proofs.CallSteps.{comes}
use Rattle.filesvc.proofs.Demands.{size_same}
use Rattle.filesvc.proofs.Stops.{read_stops, truncate_stops, write_stops}

-- ---- in a service with the same cache and device

module _ (s t : SoloSeen) (e : t.world.core ≡ s.world.core) (d : t.world.device ≡ s.world.device) (h o n : ℕ) where
  missed_at : (p : ℕ) → IsMissed s h o n p → IsMissed t h o n p
  missed_at p m = record {
    may = ap (λ c. may_touch c h o n) e ∙ m.may;
    first = subst (λ (c : State). first_page c.sizes.page o ≤ p) (sym e) m.first;
    last = subst (λ (c : State). p ≤ last_page c.sizes.page o n) (sym e) m.last;
    absent = ap (λ c. is_cached c (handle_file c h) p) e ∙ m.absent;
    within = subst (λ (c : State). p < page_count c.sizes.page (file_at c (handle_file c h)).size) (sym e) m.within;
  }

  stops_at : (r : Reply) → Stops s h o n r → Stops t h o n r
  stops_at (reply.Miss p) m = missed_at p.0 m
  stops_at (reply.Wait p) m = missed_at p.0 m
  stops_at (reply.Refused NoFrame) w = ap (λ c. is_some (wants true c h o n)) e ∙ w
  stops_at (reply.Refused DirtyLimit) w = ap (λ c. is_some (wants true c h o n)) e ∙ w
  stops_at r w = tt

-- ---- an event of a service

module _ (name : ℕ) (s : SoloSeen) (table : TableId) (i : IsServing name s.world table s.errors) (t : SoloSeen) (d : t.world.device ≡ s.world.device) (h : HandleId) where
  pub read_missed : (o n : ℕ) (a : ReadAnswer) (out : List ℕ) (p : PageIndex) → Step s.world.core (event.Read h o n) (was_read (Ok a) out) t.world.core → (a ≡ read.Miss p) ⊎ (a ≡ read.Wait p) → IsMissed t h.0 o (read_count t.world.core (handle_file t.world.core h.0) o n) p.0
  read_missed o n a out p step is =
      let r = was_read (Ok a) out in
      let named : (r ≡ reply.Miss p) ⊎ (r ≡ reply.Wait p) = elim is [ inl e ↦ inl (ap (λ x. was_read (Ok x) out) e) | inr e ↦ inr (ap (λ x. was_read (Ok x) out) e) ] in
      elim (answered (tests s.world.core (event.Read h o n)) s.world.core (event.Read h o n) r t.world.core step) [
        | inl x ↦ subst (λ k. IsMissed t h.0 o k p.0) (ap (λ c. read_count c (handle_file c h.0) o n) (sym x.1))
            (missed_at s t x.1 d h.0 o (read_count s.world.core (handle_file s.world.core h.0) o n) p.0
            (read_stops name s table i h.0 o n r x.0 p.0 named))
        | inr x ↦ absurd (elim named [ inl e ↦ subst (λ y. MayReply s.world.core (event.Read h o n) y) e x.1 | inr e ↦ subst (λ y. MayReply s.world.core (event.Read h o n) y) e x.1 ])
      ]

  pub truncate_missed : (z : ℕ) (a : TruncateAnswer) (p : PageIndex) → Step s.world.core (event.Truncate h z) (was_truncated (Ok a)) t.world.core → (a ≡ cut.Miss p) ⊎ (a ≡ cut.Wait p) → IsMissed t h.0 z (read_count t.world.core (handle_file t.world.core h.0) z 1) p.0
  truncate_missed z a p step is =
      let r = was_truncated (Ok a) in
      let named : (r ≡ reply.Miss p) ⊎ (r ≡ reply.Wait p) = elim is [ inl e ↦ inl (ap (λ x. was_truncated (Ok x)) e) | inr e ↦ inr (ap (λ x. was_truncated (Ok x)) e) ] in
      elim (answered (tests s.world.core (event.Truncate h z)) s.world.core (event.Truncate h z) r t.world.core step) [
        | inl x ↦ subst (λ k. IsMissed t h.0 z k p.0) (ap (λ c. read_count c (handle_file c h.0) z 1) (sym x.1))
            (missed_at s t x.1 d h.0 z (read_count s.world.core (handle_file s.world.core h.0) z 1) p.0
            (truncate_stops name s table i h.0 z r x.0 p.0 named))
        | inr x ↦ absurd (elim named [ inl e ↦ subst (λ y. MayReply s.world.core (event.Truncate h z) y) e x.1 | inr e ↦ subst (λ y. MayReply s.world.core (event.Truncate h z) y) e x.1 ])
      ]

  done_write : (o : ℕ) (b : List ℕ) (j m : ℕ) (r : Reply) → MayReply s.world.core (event.Write h o b) r → Stops t h.0 j m r
  done_write o b j m (reply.Wrote n end) e = tt
  done_write o b j m (reply.Refused Memory) e = tt
  done_write o b j m r e = absurd e

  done_append : (b : List ℕ) (j m : ℕ) (r : Reply) → MayReply s.world.core (event.Append h b) r → Stops t h.0 j m r
  done_append b j m (reply.Wrote n end) e = tt
  done_append b j m (reply.Refused Memory) e = tt
  done_append b j m r e = absurd e

  writes_stop : (o : ℕ) (b : List ℕ) (e : Event) (r : Reply) → (MayReply s.world.core e r → Stops t h.0 o (length b) r) → AnswersOr (write_tests s.world.core h.0 o (length b)) s.world.core e r t.world.core → Stops t h.0 o (length b) r
  writes_stop o b e r done a = elim (answered (write_tests s.world.core h.0 o (length b)) s.world.core e r t.world.core a) [
    | inl x ↦ stops_at s t x.1 d h.0 o (length b) r (write_stops name s table i h.0 o (length b) r x.0)
    | inr x ↦ done x.1
  ]

  pub write_stopped : (o : ℕ) (b : List ℕ) (r : Reply) → Step s.world.core (event.Write h o b) r t.world.core → Stops t h.0 o (length b) r
  write_stopped o b r a = writes_stop o b (event.Write h o b) r (done_write o b o (length b) r) a

  -- where nothing was appended the file ends as before; and of a handle that is not open its end does not matter
  pub append_stopped : (o : ℕ) (b : List ℕ) (r : Reply) → (is_open t.world.core h.0 ≡ true → o ≡ (file_at t.world.core (handle_file t.world.core h.0)).size) → Step s.world.core (event.Append h b) r t.world.core → Stops t h.0 o (length b) r
  append_stopped o b r at a = elim (answered (write_tests s.world.core h.0 size (length b)) s.world.core (event.Append h b) r t.world.core a) [
    | inl x ↦ by (is_open s.world.core h.0) refl x.0 x.1
    | inr x ↦ done_append b o (length b) r x.1
  ]
    where
      size : ℕ
      size = (file_at s.world.core (handle_file s.world.core h.0)).size

      by : (x : Bool) → is_open s.world.core h.0 ≡ x → write_tests s.world.core h.0 size (length b) ≡ Some r → t.world.core ≡ s.world.core
          → Stops t h.0 o (length b) r
      by true e is same =
          let here : o ≡ size = at (ap (λ c. is_open c h.0) same ∙ e) ∙ ap (λ c. (file_at c (handle_file c h.0)).size) same in
          subst (λ z. Stops t h.0 z (length b) r) (sym here)
          (stops_at s t same d h.0 size (length b) r (write_stops name s table i h.0 size (length b) r is))
      by false e is same =
          let k : reply.Refused BadHandle ≡ r = (let y = sym (at_true (not (is_open s.world.core h.0)) _ _ (ap not e)) ∙ is in cc) in
          subst (Stops t h.0 o (length b)) k tt

-- ---- the way on

-- an append that is not over begins at the end of the file, as long as that is
append_at : (s mid t : SoloSeen) (h : HandleId) (o : ℕ) (b : List ℕ) (r : Reply) → Step s.world.core (event.Append h b) r mid.world.core
    → (is_open mid.world.core h.0 ≡ true → o ≡ (file_at mid.world.core (handle_file mid.world.core h.0)).size)
    → is_settled (Some r) ≡ false → Serves mid t
    → (o ≡ (file_at mid.world.core (handle_file mid.world.core h.0)).size) × (o ≡ (file_at t.world.core (handle_file t.world.core h.0)).size)
append_at s mid t h o b r step at u serves = by (is_open s.world.core h.0) refl
  where
    by : (x : Bool) → is_open s.world.core h.0 ≡ x
        → (o ≡ (file_at mid.world.core (handle_file mid.world.core h.0)).size) × (o ≡ (file_at t.world.core (handle_file t.world.core h.0)).size)
    by true e =
        let same = (comes s.world.core mid.world.core (event.Append h b) r refl step).same u in
        let f : o ≡ (file_at mid.world.core (handle_file mid.world.core h.0)).size = at (ap (λ z. is_open z h.0) same ∙ e) in
        (f, f ∙ sym (size_same mid t h.0 serves))
    by false e = absurd (
        let bad : write_tests s.world.core h.0 (file_at s.world.core (handle_file s.world.core h.0)).size (length b) ≡ Some (reply.Refused BadHandle) = at_true (not (is_open s.world.core h.0)) _ _ (ap not e) in
        let k : true ≡ false = sym (ap is_settled bad) ∙ (comes s.world.core mid.world.core (event.Append h b) r refl step).unsettled u in cc)

pub append_gains : (s mid t : SoloSeen) (h : HandleId) (o : ℕ) (b : List ℕ) (r : Reply) → Step s.world.core (event.Append h b) r mid.world.core → (is_open mid.world.core h.0 ≡ true → o ≡ (file_at mid.world.core (handle_file mid.world.core h.0)).size) → is_settled (Some r) ≡ false → Serves mid t → need true t.world.core h.0 o (length b) < need true mid.world.core h.0 o (length b) → need_of t.world.core (event.Append h b) < need_of mid.world.core (event.Append h b)
append_gains s mid t h o b r step at u serves l =
    let x = append_at s mid t h o b r step at u serves in
    subst (λ z. need true t.world.core h.0 z (length b) < need_of mid.world.core (event.Append h b)) x.1 (subst (λ z. need true t.world.core h.0 o (length b) < need true mid.world.core h.0 z (length b)) x.0 l)

pub append_wants : (s mid t : SoloSeen) (h : HandleId) (o : ℕ) (b : List ℕ) (r : Reply) → Step s.world.core (event.Append h b) r mid.world.core
    → (is_open mid.world.core h.0 ≡ true → o ≡ (file_at mid.world.core (handle_file mid.world.core h.0)).size)
    → is_settled (Some r) ≡ false → Serves mid t
    → wants true t.world.core h.0 o (length b) ≡ wanted_by t.world.core (event.Append h b)
append_wants s mid t h o b r step at u serves =
    ap (λ z. wants true t.world.core h.0 z (length b)) (append_at s mid t h o b r step at u serves).1
