-- What the events of a sync say of its call's seat.
use Rattle.std.proofs.Common.{◌≡◌, ◌⊎◌, ℕ, ◌≤◌, ◌++◌, ◌∷◌, [], ◌∙◌, Bool, true, false, refl, sym, ap, subst, inl, inr, arith}
use Rattle.std.proofs.lemmas.List.{length_push}
use Rattle.std.proofs.lemmas.Result.{IfErr-weaker, IfOk-weaker}
use Rattle.std.specs.FinMap as map
use Rattle.std.specs.Prelude.{◌<◌, List, Ok, Option, Some, None, IfErr, IfOk, Result, is_some, length, if◌then◌else◌}
use Rattle.errboard.specs.Shown.{PassSeen}
use Rattle.errseq.proofs.Prefixes.{prefix_length}
use Rattle.cachecore.specs.Replies.{sync_stepped}
use Rattle.cachecore.specs.declared.answers.SyncStepped.{SyncStepped}
use Rattle.cachecore.specs.declared.answers.SyncStepped.TheVariants as stepped
use Rattle.machine.specs.declared.event.Event.TheVariants as event
use Rattle.machine.specs.declared.event.Reply.{Reply}
use Rattle.machine.specs.declared.event.Reply.TheVariants as reply
use Rattle.machine.specs.State.{Sync}
use Rattle.machine.specs.Tests.{refuse, tests}
use Rattle.machine.proofs.steps.Cases.{answered}
use Rattle.pc_types.specs.declared.ids.HandleId.{HandleId}
use Rattle.pc_types.specs.declared.ids.PageIndex.{PageIndex}
use Rattle.pc_types.specs.declared.ids.SyncId.{SyncId}
use Rattle.pc_types.specs.declared.refusal.Refusal.{Refusal}
use Rattle.pc_types.specs.declared.refusal.Refusal.TheVariants.{Io, Memory, Stranger, TrailFull}
use Rattle.trail.specs.History.{After}
use Rattle.trail.specs.declared.entry.Entry.{Entry}
use Rattle.trail.specs.Entries.{entry_of}
use Rattle.trail.specs.Room.{Room}
use Rattle.held.specs.declared.log.Slip.{Slip}
use Rattle.held.specs.Entered.{Made}
use Rattle.held.specs.Shown.{HeldSeen, SeatSeen}
use Rattle.held.specs.Called.{Goes}
use Rattle.held.specs.Denials as under
use Rattle.held.specs.declared.denied.Denied.{Denied}
use Rattle.held.proofs.Replied.{drop_taken}
use Rattle.held.proofs.Seats.{goes_by}
use Rattle.pc_types.specs.Limits.{Sizes}
use Rattle.machine.specs.Catalogs.{Catalog}
use Rattle.shared.specs.Called.{Makes, is_for_now}
use Rattle.shared.specs.Denials.{IsDenied}
use Rattle.shared.specs.Rooms.{IsFinal}
use Rattle.shared.specs.Synced.{Began, IsDropReply, IsDropped, IsFsyncDenied, IsGone, IsNotBegun, IsSyncDenied}
use Rattle.shared.specs.Polls.{Hears, IsLevelled, Polled}
use Rattle.shared.specs.Seen.{HandleSeen}
use Rattle.shared.specs.Synced.{Reports, Syncs, end_reply}
use Rattle.shared.proofs.Hearing.{hears_reported, polled_from, reports_from}
use Rattle.shared.proofs.Making.{denied_event, denied_on, denied_one, full_by, makes_by}
use Rattle.shared.proofs.Rooming.{final_lasting, final_on}

-- ---- turns

module _ (files : Catalog) (sizes : Sizes) (name : ℕ) (whole : Room) where
  pub turn_on : (m : SyncId) (a b c : SeatSeen) (d : Denied) → Goes a b → IsDenied files sizes name whole (λ e. e ≡ event.SyncStep m) b c d
      → IsDenied files sizes name whole (λ e. e ≡ event.SyncStep m) a c d
  turn_on m a b c d p q = denied_on files sizes name whole (λ e. e ≡ event.SyncStep m) (λ e. e ≡ event.SyncStep m) a b c d (λ e x. x) p q

  -- without a slip it is that of a full trail
  pub step_full : (m : SyncId) (old new : HeldSeen) (before after : SeatSeen) (first d : Denied)
      → under.IsDenied files sizes name whole (event.SyncStep m) old new before after first → d ≡ first → d.slip ≡ None → d.refusal ≡ TrailFull
  step_full m old new before after first d q same none =
      ap (λ (x : Denied). x.refusal) same
      ∙ (full_by files sizes name whole (event.SyncStep m) old new before after first q (ap (λ (x : Denied). x.slip) (sym same) ∙ none)).0

-- a step that ends the sync
pub clean_ended : (m : SyncId) (x : SyncStepped) (b : List ℕ) (old new : HeldSeen) (before after : SeatSeen) (slip : Slip)
    → x ≡ stepped.Clean b → Made (event.SyncStep m) (sync_stepped (Ok x)) old new before after slip
    → Makes before after slip (event.SyncStep m) (end_reply None)
clean_ended m x b old new before after slip is q =
    subst (λ (y : SyncStepped). Makes before after slip (event.SyncStep m) (sync_stepped (Ok y))) is
    (makes_by (event.SyncStep m) (sync_stepped (Ok x)) old new before after slip q)

pub failed_ended : (m : SyncId) (x : SyncStepped) (code : ℕ) (b : List ℕ) (old new : HeldSeen) (before after : SeatSeen)
    (slip : Slip) → x ≡ stepped.Failed code b → Made (event.SyncStep m) (sync_stepped (Ok x)) old new before after slip
    → Makes before after slip (event.SyncStep m) (end_reply (Some code))
failed_ended m x code b old new before after slip is q =
    subst (λ (y : SyncStepped). Makes before after slip (event.SyncStep m) (sync_stepped (Ok y))) is
    (makes_by (event.SyncStep m) (sync_stepped (Ok x)) old new before after slip q)

-- ---- the sync as a whole

pub began_by : (h : HandleId) (first last : PageIndex) (m : SyncId) (old new : HeldSeen) (before at : SeatSeen) (slip : Slip)
    → Made (event.SyncBegin h first last) (reply.Sync m) old new before at slip → Began h first last m before at
began_by h first last m old new before at slip q = record {
  slip = slip;
  made = makes_by (event.SyncBegin h first last) (reply.Sync m) old new before at slip q;
  goes = goes_by (event.SyncBegin h first last) (reply.Sync m) old new before at slip q;
}

pub syncs_by : (h : HandleId) (first last : PageIndex) (m : SyncId) (failed : Option ℕ) (old new : HeldSeen)
    (before at after : SeatSeen) (begin slip : Slip) → Made (event.SyncBegin h first last) (reply.Sync m) old new before at begin
    → Makes at after slip (event.SyncStep m) (end_reply failed) → Syncs h first last failed before after slip
syncs_by h first last m failed old new before at after begin slip b e = record {
  sync = m;
  at = at;
  began = began_by h first last m old new before at begin b;
  ended = e;
}

module _ (files : Catalog) (sizes : Sizes) (name : ℕ) (whole : Room) where
  -- there was no memory for it
  pub memory_denied : (h : HandleId) (first last : PageIndex) (before : SeatSeen) (why : Refusal) (d : Denied) → why ≡ Memory
      → d ≡ record { refusal = why; slip = None } → IsNotBegun files sizes name whole h first last before before d
  memory_denied h first last before why d is same =
      let bare : Refusal → Denied = λ r. record { refusal = r; slip = None } in inl (same ∙ ap bare is, refl)

  -- its begin was refused
  pub begin_denied : (h : HandleId) (first last : PageIndex) (old new : HeldSeen) (before after : SeatSeen) (d : Denied)
      → under.IsDenied files sizes name whole (event.SyncBegin h first last) old new before after d → IsNotBegun files sizes name whole h first last before after d
  begin_denied h first last old new before after d q = inr (
    denied_event files sizes name whole (event.SyncBegin h first last) old new before after d tt q,
    denied_one files sizes name whole (event.SyncBegin h first last) old new before after d q,
    full_by files sizes name whole (event.SyncBegin h first last) old new before after d q,
  )

module _ (whole : Room) where
  pub gave_up : (files : Catalog) (sizes : Sizes) (name : ℕ) (h : HandleId) (first last : PageIndex) (m : SyncId) (old new : HeldSeen) (before at over after : SeatSeen)
      (begin : Slip) (why d : Denied) → Made (event.SyncBegin h first last) (reply.Sync m) old new before at begin → Goes at over
      → IsDenied files sizes name whole (λ e. e ≡ event.SyncStep m) at over why → (why.slip ≡ None → why.refusal ≡ TrailFull)
      → IsFinal files sizes name over why
      → ((d ≡ why) × IsDropped m over after) ⊎ ((d ≡ record { refusal = Stranger; slip = None }) × IsGone files sizes name m over after)
      → IsSyncDenied files sizes name whole h first last before after d
  gave_up files sizes name h first last m old new before at over after begin why d b goes denied full final (inl p) = inr (inl record {
    sync = m;
    at = at;
    over = over;
    began = began_by h first last m old new before at begin b;
    goes = goes;
    denied = subst (IsDenied files sizes name whole (λ e. e ≡ event.SyncStep m) at over) (sym p.0) denied;
    full = subst (λ (x : Denied). x.slip ≡ None → x.refusal ≡ TrailFull) (sym p.0) full;
    dropped = p.1;
  })
  gave_up files sizes name h first last m old new before at over after begin why d b goes denied full final (inr p) = inr (inr record {
    sync = m;
    at = at;
    over = over;
    why = why;
    began = began_by h first last m old new before at begin b;
    goes = goes;
    denied = denied;
    full = full;
    final = final;
    gone = p.1;
    is = p.0;
  })

-- no request was in flight where its turn was refused so that one's end might help
pub gave_up_final : (files : Catalog) (sizes : Sizes) (name : ℕ) (m : SyncId) (over after : SeatSeen) (why d : Denied) → Goes over after
    → IsFinal files sizes name over why
    → ((d ≡ why) × IsDropped m over after) ⊎ ((d ≡ record { refusal = Stranger; slip = None }) × IsGone files sizes name m over after)
    → IsFinal files sizes name after d
gave_up_final files sizes name m over after why d goes final (inl p) =
    subst (IsFinal files sizes name after) (sym p.0) (final_on files sizes name over after why goes final)
gave_up_final files sizes name m over after why d goes final (inr p) =
    final_lasting files sizes name after d (subst (λ (x : Denied). is_for_now x.refusal ≡ false) (sym p.0) refl)

-- ---- the drop of a sync

dropped_entry : (m : SyncId) (old new : HeldSeen) (before after : SeatSeen) (slip : Slip) (r : Reply) → IsDropReply r
    → Made (event.SyncDrop m) r old new before after slip → IsDropped m before after
dropped_entry m old new before after slip r is q = (slip, r, is, makes_by (event.SyncDrop m) r old new before after slip q)

pub dropped_by : (files : Catalog) (sizes : Sizes) (name : ℕ) (m : SyncId) (old new : HeldSeen) (before after : SeatSeen) (slip : Slip)
    (d : Denied) → Made (event.SyncDrop m) reply.Dropped old new before after slip
    → ((d ≡ d) × IsDropped m before after) ⊎ ((d ≡ record { refusal = Stranger; slip = None }) × IsGone files sizes name m before after)
dropped_by files sizes name m old new before after slip d q = inl (refl, dropped_entry m old new before after slip reply.Dropped tt q)

stranger_alone : (there : Bool) (why : Refusal) → (if there then None else refuse Stranger) ≡ Some (reply.Refused why) → why ≡ Stranger
stranger_alone true why e = absurd cc
stranger_alone false why e = cc

-- a sync's drop is refused by Stranger alone, once the sync is over
refused_drop : (m : SyncId) (why : Refusal) (old new : HeldSeen) (before after : SeatSeen) (slip : Slip)
    → Made (event.SyncDrop m) (reply.Refused why) old new before after slip → why ≡ Stranger
refused_drop m why old new before after slip q =
    let s = old.core.state in
    elim (answered (tests s (event.SyncDrop m)) s (event.SyncDrop m) (reply.Refused why) new.core.state q.step) [
      | inl a ↦ stranger_alone (is_some (map.get s.syncs m.0)) why a.0
      | inr a ↦ absurd (drop_taken s m why new.core.state q.step a.0)
    ]

module _ (whole : Room) where
  -- where the drop was refused with a slip, its entry stands all the same
  pub dropped_refused : (files : Catalog) (sizes : Sizes) (name : ℕ) (m : SyncId) (old new : HeldSeen) (before after : SeatSeen) (other d : Denied)
      → under.IsDenied files sizes name whole (event.SyncDrop m) old new before after other → is_some other.slip ≡ true
      → ((d ≡ d) × IsDropped m before after) ⊎ ((d ≡ record { refusal = Stranger; slip = None }) × IsGone files sizes name m before after)
  dropped_refused files sizes name m old new before after other d q is = inl (refl, go other.refusal other.slip q is)
    where
      go : (r : Refusal) (o : Option Slip) → under.DeniedBy files sizes name whole (event.SyncDrop m) old new before after r o → is_some o ≡ true
          → IsDropped m before after
      go r None q is = absurd cc
      go r (Some slip) q is =
          dropped_entry m old new before after slip (reply.Refused r) (refused_drop m r old new before after slip q) q

module _ (files : Catalog) (sizes : Sizes) (name : ℕ) (whole : Room) where
  -- where it was refused without one, the sync was in progress no longer: room is kept for the drop of each that is
  pub gone_by : (m : SyncId) (old new : HeldSeen) (before after : SeatSeen) (other : Denied)
      → under.IsDenied files sizes name whole (event.SyncDrop m) old new before after other → is_some other.slip ≡ false
      → (tests old.core.state (event.SyncDrop m) ≡ None → false ≡ true) → IsGone files sizes name m before after
  gone_by m old new before after other q bare refused = go other.refusal other.slip q bare
    where
      out : (o : Option Sync) → ((if is_some o then None else refuse Stranger) ≡ None → false ≡ true) → o ≡ None
      out None h = refl
      out (Some y) h = absurd (let k : false ≡ true = h refl in cc)

      go : (r : Refusal) (o : Option Slip) → under.DeniedBy files sizes name whole (event.SyncDrop m) old new before after r o
          → is_some o ≡ false → IsGone files sizes name m before after
      go r None q bare = record {
        shown = q.1.shown;
        state = old.core.state;
        leaves = subst (λ l. After files sizes name l old.core.state) (sym q.1.sees) q.1.leaves;
        gone = out (map.get old.core.state.syncs m.0) refused;
      }
      go r (Some slip) q bare = absurd cc

-- ---- what the handle is told

pub reports_polled : (failed : Option ℕ) (code : ℕ) (slip : Slip) (old new : PassSeen) → Polled old new (Some code)
    → Reports failed slip old new (record { refusal = Io code; slip = Some slip })
reports_polled failed code slip old new p = record {
  answer = Some code;
  code = code;
  polled = p;
  tells = inl refl;
  is = refl;
}

pub reports_failed : (code : ℕ) (slip : Slip) (old new : PassSeen) → Polled old new None
    → Reports (Some code) slip old new (record { refusal = Io code; slip = Some slip })
reports_failed code slip old new p = record {
  answer = None;
  code = code;
  polled = p;
  tells = inr (refl, refl);
  is = refl;
}

-- no request's end makes up for a failed write
pub report_final : (files : Catalog) (sizes : Sizes) (name : ℕ) (after : SeatSeen) (failed : Option ℕ) (slip : Slip) (old new : PassSeen)
    (d : Denied) → Reports failed slip old new d → IsFinal files sizes name after d
report_final files sizes name after failed slip old new d r =
    final_lasting files sizes name after d (subst (λ (x : Denied). is_for_now x.refusal ≡ false) (sym r.is) refl)

module _ (whole : Room) where
  pub write_failed : (files : Catalog) (sizes : Sizes) (name : ℕ) (h : HandleId) (first last : PageIndex) (failed : Option ℕ)
      (before after : SeatSeen) (old new : PassSeen) (slip : Slip) (d : Denied) → Syncs h first last failed before after slip
      → Hears files sizes name slip after new → Reports failed slip old new d
      → IsFsyncDenied files sizes name whole h first last before after old new d
  write_failed files sizes name h first last failed before after old new slip d s heard r = inl (failed, slip, s, heard, r)

  pub flush_failed : (files : Catalog) (sizes : Sizes) (name : ℕ) (h : HandleId) (first last : PageIndex) (before after : SeatSeen)
      (old new : PassSeen) (code : ℕ) (slip : Slip) → IsLevelled old new → Syncs h first last None before after slip
      → IsFsyncDenied files sizes name whole h first last before after old new (record { refusal = Io code; slip = None })
  flush_failed files sizes name h first last before after old new code slip level s = inr (inl (level, (code, slip, s, refl)))

  pub sync_denied : (files : Catalog) (sizes : Sizes) (name : ℕ) (h : HandleId) (first last : PageIndex) (before after : SeatSeen)
      (old new : PassSeen) (d : Denied) → new ≡ old → IsSyncDenied files sizes name whole h first last before after d
      → IsFsyncDenied files sizes name whole h first last before after old new d
  sync_denied files sizes name h first last before after old new d same q = inr (inr (same, q))

-- a sync that ended without a failed write, a flush after its slip, and a poll that answers nothing. The handle is seen at
-- the call as h, and k inside it
pub fsync_clean : (result : Result Slip Denied) (k h : HandleSeen) (first last : PageIndex) (failed : Option ℕ)
    (before after : SeatSeen) (at slip : Slip) (mid new : PassSeen) → k ≡ h → Syncs k.number first last failed before after slip
    → failed ≡ None → at ≡ slip → IsLevelled k.pass mid → IfOk result (λ d. (d ≡ at) × Polled mid new None)
    → IfOk result (λ d. Syncs h.number first last None before after d × Polled h.pass new None)
fsync_clean result k h first last failed before after at slip mid new seen s none there level q =
    subst (λ (x : HandleSeen). IfOk result (λ d. Syncs x.number first last None before after d × Polled x.pass new None)) seen
    (IfOk-weaker result (λ d. (d ≡ at) × Polled mid new None)
    (λ d. Syncs k.number first last None before after d × Polled k.pass new None)
    (λ d p. (
      subst (λ (x : Slip). Syncs k.number first last None before after x) (sym (p.0 ∙ there))
          (subst (λ (o : Option ℕ). Syncs k.number first last o before after slip) none s),
      polled_from k.pass mid new None level p.1,
    )) q)

module _ (whole : Room) where
  -- a sync that ended with the code of a failed write
  pub fsync_failed : (files : Catalog) (sizes : Sizes) (name : ℕ) (k h : HandleSeen) (first last : PageIndex) (failed : Option ℕ) (code : ℕ)
      (before after : SeatSeen) (slip : Slip) (mid new : PassSeen) (d : Denied) → k ≡ h
      → Syncs k.number first last failed before after slip → failed ≡ Some code → IsLevelled k.pass mid
      → Hears files sizes name slip after mid → Reports (Some code) slip mid new d
      → IsFsyncDenied files sizes name whole h.number first last before after h.pass new d
  fsync_failed files sizes name k h first last failed code before after slip mid new d seen s is level heard r =
      subst (λ (x : HandleSeen). IsFsyncDenied files sizes name whole x.number first last before after x.pass new d) seen
      (write_failed whole files sizes name k.number first last (Some code) before after k.pass new slip d
      (subst (λ (o : Option ℕ). Syncs k.number first last o before after slip) is s)
      (hears_reported files sizes name slip slip after mid new (Some code) d heard r)
      (reports_from (Some code) slip k.pass mid new d level r))

-- the slip of its end is of the seat's cache
pub syncs_of : (h : HandleId) (first last : PageIndex) (failed : Option ℕ) (before after : SeatSeen) (slip : Slip) (name : ℕ)
    → Syncs h first last failed before after slip → before.name ≡ name → slip.name ≡ name
syncs_of h first last failed before after slip name s named = s.ended.placed.0 ∙ s.began.goes.same.1 ∙ named

-- the seat has seen the slip's entry
pub syncs_seen : (h : HandleId) (first last : PageIndex) (failed : Option ℕ) (before after : SeatSeen) (slip : Slip)
    → Syncs h first last failed before after slip → Goes before after → (slip.name ≡ after.name) × (slip.place < length after.list)
syncs_seen h first last failed before after slip s goes = (
  s.ended.placed.0 ∙ s.began.goes.same.1 ∙ sym goes.same.1,
  let entry : Entry = entry_of s.at.number (event.SyncStep s.sync) (end_reply failed) in
      let there : length (s.ended.earlier ++ entry ∷ []) ≤ length after.list = prefix_length _ after.list s.ended.entered in
      omega (arith, there, length_push s.ended.earlier entry, s.ended.placed.1),
)

module _ (whole : Room) where
  -- a sync that ended without a failed write, and a poll that answered the code of one
  pub fsync_denied : (result : Result Slip Denied) (files : Catalog) (sizes : Sizes) (name : ℕ) (k h : HandleSeen) (first last : PageIndex)
      (failed : Option ℕ) (before after : SeatSeen) (at slip : Slip) (mid new : PassSeen) → k ≡ h
      → Syncs k.number first last failed before after slip → failed ≡ None → at ≡ slip → IsLevelled k.pass mid
      → Hears files sizes name slip after mid → IfErr result (Reports None at mid new)
      → IfErr result (IsFsyncDenied files sizes name whole h.number first last before after h.pass new)
  fsync_denied result files sizes name k h first last failed before after at slip mid new seen s none there level heard q =
      subst (λ (x : HandleSeen). IfErr result (IsFsyncDenied files sizes name whole x.number first last before after x.pass new)) seen
      (IfErr-weaker result (Reports None at mid new) (IsFsyncDenied files sizes name whole k.number first last before after k.pass new)
      (λ d r. write_failed whole files sizes name k.number first last None before after k.pass new slip d
      (subst (λ (o : Option ℕ). Syncs k.number first last o before after slip) none s)
      (hears_reported files sizes name slip at after mid new None d heard r)
      (reports_from None slip k.pass mid new d level (subst (λ (x : Slip). Reports None x mid new d) there r))) q)
