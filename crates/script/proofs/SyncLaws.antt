-- The steps of a sync: the serials that it gives out, and how it comes to its end.
use Rattle.std.proofs.Common.{◌≡◌, ◌≢◌, ℕ, ◌-◌, ◌<◌, true, List, [], ◌∷◌, ◌++◌, refl, ap, sym, subst, ◌∙◌, arith}
use Rattle.std.specs.Prelude.{Option, Some, None, is_some}
use Rattle.std.specs.Option.{option_or}
use Rattle.std.specs.FinMap as finmap
use Rattle.pc_types.specs.declared.ids.HandleId.{HandleId}
use Rattle.pc_types.specs.declared.ids.PageIndex.{PageIndex}
use Rattle.pc_types.specs.declared.ids.Serial.{Serial}
use Rattle.pc_types.specs.declared.ids.SyncId.{SyncId}
use Rattle.pc_types.specs.declared.limits.TheConstants.{LAST_PAGE, SERIAL_END}
use Rattle.pc_types.specs.declared.refusal.Refusal.TheVariants.{Io}
use Rattle.machine.specs.declared.event.Reply.{Reply}
use Rattle.machine.specs.declared.event.Reply.TheVariants as reply
use Rattle.machine.specs.State.{is_open}
use Rattle.world.specs.declared.step.Step.TheVariants as step
use Rattle.world.specs.Stepping.{Steps}
use Rattle.script.specs.Commands.{sync_begin}
use Rattle.script.specs.Sessions.{Concludes, GoesOn, Makes, SessionSeen, Writes, over}
use Rattle.script.proofs.HandleLaws.{left_by, sync_has_handle}

-- how many serials are left
abbrev pub serials_left : SessionSeen → ℕ
serials_left s = SERIAL_END - s.world.core.next

-- ---- the writes of a sync

-- one write of a sync, with its device call and its end
pub record IsWrite (old : SessionSeen) (n : SyncId) (t : Serial) (new : SessionSeen) : Type 0 where
  pub begun : SessionSeen
  pub called : SessionSeen
  pub call : Reply
  pub end : Reply
  pub begins : Makes old (step.SyncStep n) (reply.Job t) begun
  pub calls : Makes begun (step.Call t) call called
  pub ends : Makes called (step.End t) end new

pub is_write : (old begun called new : SessionSeen) (n : SyncId) (t : Serial) (r call end : Reply) → r ≡ reply.Job t → Makes old (step.SyncStep n) r begun → Makes begun (step.Call t) call called → Makes called (step.End t) end new → IsWrite old n t new
is_write old begun called new n t r call end is begins calls ends =
    record { begun = begun; called = called; call = call; end = end; begins = subst (λ x. Makes old (step.SyncStep n) x begun) is begins; calls = calls; ends = ends }

module _ (old new : SessionSeen) (n : SyncId) (t : Serial) (w : IsWrite old n t new) where
  pub fewer_left : serials_left new < serials_left old
  fewer_left =
      let takes = (left_by old.world w.begun.world (step.SyncStep n) (reply.Job t) w.begins.0).job t refl in
      let call = (left_by w.begun.world w.called.world (step.Call t) w.call w.calls.0).next refl in
      let end = (left_by w.called.world new.world (step.End t) w.end w.ends.0).next refl in
      omega (arith, takes.left, takes.next, call, end)

  pub write_handles : new.world.core.handles ≡ old.world.core.handles
  write_handles =
      (left_by w.called.world new.world (step.End t) w.end w.ends.0).handles refl
      ∙ (left_by w.begun.world w.called.world (step.Call t) w.call w.calls.0).handles refl
      ∙ (left_by old.world w.begun.world (step.SyncStep n) (reply.Job t) w.begins.0).handles refl

-- the writes so far, and the handles as they were
pub record IsWriting (old : SessionSeen) (n : SyncId) (now : SessionSeen) : Type 0 where
  pub serials : List Serial
  pub writes : Writes old n serials now
  pub handles : now.world.core.handles ≡ old.world.core.handles

pub begin_writing : (s : SessionSeen) (n : SyncId) → IsWriting s n s
begin_writing s n = record { serials = []; writes = refl; handles = refl }

one_more : (ts : List Serial) (old now new : SessionSeen) (n : SyncId) (t : Serial) → Writes old n ts now → IsWrite now n t new → Writes old n (ts ++ t ∷ []) new
one_more [] old now new n t e w = subst (λ x. Writes x n (t ∷ []) new) e (w.begun, w.called, new, w.call, w.end, w.begins, w.calls, w.ends, refl)
one_more (t' ∷ ts) old now new n t (begun, called, ended, call, end, begins, calls, ends, rest) w =
    (begun, called, ended, call, end, begins, calls, ends, one_more ts ended now new n t rest w)

pub go_on_writing : (old now new : SessionSeen) (n : SyncId) (t : Serial) → IsWriting old n now → IsWrite now n t new → IsWriting old n new
go_on_writing old now new n t i w = record {
  serials = i.serials ++ t ∷ [];
  writes = one_more i.serials old now new n t i.writes w;
  handles = write_handles now new n t w ∙ i.handles;
}

-- ---- the end of a sync

-- a sync that begins has an open handle
pub sync_opened : (old new : SessionSeen) (h : HandleId) (range : Option (PageIndex × PageIndex)) (n : SyncId)
    (r : Reply) → r ≡ reply.Sync n → Makes old (sync_begin h range) r new → is_open new.world.core h.0 ≡ true
sync_opened old new h (Some range) n r is m =
    let begin = step.SyncBeginRange h range.0 range.1 in
    let s = subst (λ x. Steps old.world begin x new.world) is m.0 in
    ap (λ m. is_some (finmap.get m h.0)) ((left_by old.world new.world begin (reply.Sync n) s).handles refl)
    ∙ sync_has_handle old.world.core new.world.core h range.0 range.1 n s.0.1.0
sync_opened old new h None n r is m =
    let s = subst (λ x. Steps old.world (step.SyncBegin h) x new.world) is m.0 in
    ap (λ m. is_some (finmap.get m h.0)) ((left_by old.world new.world (step.SyncBegin h) (reply.Sync n) s).handles refl)
    ∙ sync_has_handle old.world.core new.world.core h (record { 0 = 0 }) (record { 0 = LAST_PAGE }) n s.0.1.0

-- the handle stays open
pub still_open : (old new : SessionSeen) (h : ℕ) → new.world.core.handles ≡ old.world.core.handles → is_open old.world.core h ≡ true → is_open new.world.core h ≡ true
still_open old new h same was = ap (λ m. is_some (finmap.get m h)) same ∙ was

-- what is answered to a sync that did not begin
pub not_begun : (begun : SessionSeen) (h : HandleId) (r : Reply) → ((n : SyncId) → r ≢ reply.Sync n) → GoesOn begun h r r begun
not_begun begun h (reply.Sync n) other = absurd (other n refl)
not_begun begun h _ other = (refl, refl)

-- a sync that is stopped
pub concludes_dropped : (old new : SessionSeen) (h : HandleId) (n : SyncId) (r ended : Reply) → ((t : Serial) → r ≢ reply.Job t) → r ≢ reply.Clean → ((c : ℕ) → r ≢ reply.Failed c) → Makes old (step.SyncDrop n) ended new → Concludes old h n r r new
concludes_dropped old new h n (reply.Job t) ended job clean failed m = absurd (job t refl)
concludes_dropped old new h n reply.Clean ended job clean failed m = absurd (clean refl)
concludes_dropped old new h n (reply.Failed c) ended job clean failed m = absurd (failed c refl)
concludes_dropped old new h n _ ended job clean failed m = (ended, m, refl)

-- what a sync that is over answers
pub over_some : (told own : Option ℕ) (c : ℕ) → option_or told own ≡ Some c → reply.Refused (Io c) ≡ over told own
over_some (Some a) own c e = let same : a ≡ c = cc in ap (λ x. reply.Refused (Io x)) (sym same)
over_some None (Some b) c e = let same : b ≡ c = cc in ap (λ x. reply.Refused (Io x)) (sym same)
over_some None None c e = absurd cc

pub over_none : (told own : Option ℕ) → option_or told own ≡ None → reply.Done ≡ over told own
over_none (Some a) own e = absurd cc
over_none None (Some b) e = absurd cc
over_none None None e = refl
