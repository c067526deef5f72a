-- One event more keeps the history tied to the device.
use Rattle.std.proofs.Common.{◌≡◌, ◌≢◌, ℕ, ◌<◌, Bool, true, false, List, [], ◌∷◌, ◌++◌, length, map, refl, sym, subst}
use Rattle.std.specs.Prelude.{Option, Some, None, Result, Ok, Err}
use Rattle.std.specs.FinMap as finmap
use Rattle.blockdev.specs.Jobs.{Task, FinishedTask, IsJobFor}
use Rattle.cachecore.specs.declared.answers.Ended.{Ended}
use Rattle.cachecore.specs.declared.answers.Ended.TheVariants as ended
use Rattle.cachecore.specs.declared.answers.FillBegun.{FillBegun}
use Rattle.cachecore.specs.declared.answers.FillBegun.TheVariants as fill
use Rattle.cachecore.specs.declared.answers.FlushBegun.{FlushBegun}
use Rattle.cachecore.specs.declared.answers.FlushBegun.TheVariants as flush
use Rattle.cachecore.specs.declared.answers.Refused.{Refused}
use Rattle.cachecore.specs.declared.answers.RefusedEnd.{RefusedEnd}
use Rattle.cachecore.specs.declared.answers.SyncStepped.{SyncStepped}
use Rattle.cachecore.specs.declared.answers.SyncStepped.TheVariants as sync
use Rattle.cachecore.specs.Replies.{IsFillJob, IsFlushJob, IsSyncJob, OnFillJob, OnFlushJob, OnSyncJob}
use Rattle.cachecore.specs.Replies.{end_of, fill_begun, flush_begun, sync_stepped}
use Rattle.deeds.specs.Shown.{Settles, uncalled}
use Rattle.deeds.specs.declared.views.Place.{Place}
use Rattle.deeds.specs.declared.views.Place.TheVariants.{Home}
use Rattle.machine.specs.declared.event.End.{End}
use Rattle.machine.specs.declared.event.Event.{Event}
use Rattle.machine.specs.declared.event.Event.TheVariants as event
use Rattle.machine.specs.declared.event.Reply.{Reply}
use Rattle.machine.specs.declared.event.Reply.TheVariants as reply
use Rattle.machine.specs.Catalogs.{adopted}
use Rattle.machine.specs.Sound.{Sound}
use Rattle.machine.specs.State.{State, Request}
use Rattle.machine.specs.Step.{Step}
use Rattle.machine.proofs.sound.Steps.{histories_are_sound}
use Rattle.pc_types.specs.Limits.{Sizes}
use Rattle.machine.specs.Catalogs.{Catalog}
use Rattle.pc_types.specs.declared.ids.HandleId.{HandleId}
use Rattle.pc_types.specs.declared.ids.PageIndex.{PageIndex}
use Rattle.pc_types.specs.declared.kind.Kind.{Kind}
use Rattle.pc_types.specs.declared.kind.Kind.TheVariants.{Fill, Flush}
use Rattle.runs.proofs.moments.KeptRequests.{is_job}
use Rattle.tied.specs.Tied.{IsTaskOf, IsTied}
use Rattle.tied.proofs.Kept.{kept_back, kept_begun, kept_first, kept_home, kept_plain}
use Rattle.tied.proofs.Tasks.{fill_task, flush_task}
use Rattle.tied.proofs.Tied.{none_made}
use Rattle.trail.specs.declared.entry.Entry.{Entry}
use Rattle.trail.specs.Entries.{entry_of}
use Rattle.trail.specs.History.{seatless}
use Rattle.trail.specs.Honest.{MayBegin, end_made}
use Rattle.held.specs.declared.log.Slip.{Slip}
use Rattle.held.specs.Entered.{Made}
use Rattle.held.specs.Kept.{IsHeld}
use Rattle.held.specs.Shown.{HeldSeen, LogSeen, SeatSeen}
use Rattle.held.specs.Started.{IsAtHome, fill_job, flush_job, given_out, sync_job}
use Rattle.held.specs.Ends.{ended_as}
use Rattle.held.proofs.InFlight.{goes}

pub sound_in : (files : Catalog) (log : LogSeen) (core : State) → IsHeld files log core → Sound core
sound_in files log core i =
    histories_are_sound files core.sizes core.name (map seatless log.history) core i.history.0 i.history.1

-- ---- what begins

-- the job of an event, where its reply is one; and else the reply is none
abbrev pub Begins : State → State → Reply → Option Task → Type 0
Begins core next r None = is_job r ≡ false
Begins core next r (Some job) =
    (r ≡ reply.Job (record { 0 = job.serial })) × (job.block < core.sizes.blocks)
    × ((x : Request) × (finmap.get next.requests job.serial ≡ Some x) × IsTaskOf next job.serial x job)

module _ (core next : State) (name blocks page : ℕ) (same : blocks ≡ core.sizes.blocks) where
  low : (job : Task) → IsJobFor name blocks page job → job.block < core.sizes.blocks
  low job on = subst (λ n. job.block < n) same on.block

  pub fill_begins : (h : HandleId) (p : PageIndex) (a : Result FillBegun Refused)
      → Step core (event.FillBegin h p) (fill_begun a) next → IsFillJob next a → OnFillJob a (IsJobFor name blocks page)
      → Begins core next (fill_begun a) (fill_job a)
  fill_begins h p (Ok (fill.Job job)) step is on = (refl, low job on, fill_task core next h p job step is)
  fill_begins h p (Ok (fill.Gone b)) step is on = refl
  fill_begins h p (Ok (fill.Wait q b)) step is on = refl
  fill_begins h p (Ok (fill.Present b)) step is on = refl
  fill_begins h p (Ok (fill.Filled b)) step is on = refl
  fill_begins h p (Err e) step is on = refl

  pub flush_begins : (a : Result FlushBegun Refused) → IsFlushJob next a → OnFlushJob a (IsJobFor name blocks page)
      → Begins core next (flush_begun a) (flush_job a)
  flush_begins (Ok (flush.Job job)) is on = (refl, low job on, flush_task next job is)
  flush_begins (Ok (flush.Nothing b)) is on = refl
  flush_begins (Err e) is on = refl

  pub sync_begins : (a : Result SyncStepped Refused) → IsSyncJob next a → OnSyncJob a (IsJobFor name blocks page)
      → Begins core next (sync_stepped a) (sync_job a)
  sync_begins (Ok (sync.Job job)) is on = (refl, low job on, flush_task next job is)
  sync_begins (Ok (sync.Wait q b)) is on = refl
  sync_begins (Ok (sync.Clean b)) is on = refl
  sync_begins (Ok (sync.Failed code b)) is on = refl
  sync_begins (Err e) is on = refl

-- ---- what went through

abbrev pub NoEnd : Event → Type 0
NoEnd e = (kind : Kind) (end : End) → e ≢ event.End kind end

made_by : (kind : Kind) (end : End) (b : Ended) → end_made (event.End kind end) (ended_as kind (Ok b)) ≡ Some end
made_by Fill end (ended.Dropped b) = refl
made_by Fill end (ended.Failed file c b) = refl
made_by Fill end (ended.Done b) = refl
made_by Flush end (ended.Dropped b) = refl
made_by Flush end (ended.Failed file c b) = refl
made_by Flush end (ended.Done b) = refl

module _ (told : Bool) (files : Catalog) (sizes : Sizes) (name : ℕ) (blocks : List (List ℕ)) (old new : HeldSeen) (places : List Place)
    (held : IsHeld files old.log old.core.state)
    (i : IsTied told files sizes name blocks old.log.history old.core.state places) where
  abbrev core : State
  core = old.core.state

  abbrev next : State
  next = new.core.state

  abbrev Tied : List Entry → List Place → Type 0
  Tied history places = IsTied told files sizes name blocks history next places

  sound : Sound core
  sound = sound_in files old.log core held

  -- the deed of what begins is at home
  pub begins_home : (e : Event) (r : Reply) → Step core e r next → (o : Option Task) → Begins core next r o
      → IsAtHome places o
  begins_home e r step None b = tt
  begins_home e r step (Some job) b =
      kept_home told files sizes name blocks old.log.history core places sound i 0 e (record { 0 = job.serial }) next
      (subst (λ x. Step core e x next) b.0 step) b.2.0 b.2.1 job b.2.2 b.1

  begun : (seat : ℕ) (e : Event) (r : Reply) → NoEnd e → Step core e r next → (o : Option Task) → Begins core next r o
      → Tied (old.log.history ++ entry_of seat e r ∷ []) (given_out places o)
  begun seat e r plain step None b =
      kept_plain told files sizes name blocks old.log.history core places sound i seat e r next (none_made e r plain) b step
  begun seat e r plain step (Some job) b =
      subst (λ x. Tied (old.log.history ++ entry_of seat e x ∷ []) (given_out places (Some job))) (sym b.0)
      (kept_begun told files sizes name blocks old.log.history core places sound i seat e (record { 0 = job.serial }) next
      (subst (λ x. Step core e x next) b.0 step) b.2.0 b.2.1 job b.2.2 b.1)

  went_over : (seat : ℕ) (kind : Kind) (a : Result Ended RefusedEnd) (finished : FinishedTask) (after : List Place)
      → finished.kind ≡ kind → Step core (event.End kind (end_of finished)) (ended_as kind a) next
      → Settles told places finished after
      → Tied (old.log.history ++ entry_of seat (event.End kind (end_of finished)) (ended_as kind a) ∷ []) after
  went_over seat kind (Ok b) finished after is step s =
      kept_back told files sizes name blocks old.log.history core places sound i seat kind (end_of finished)
      (ended_as kind (Ok b)) next (made_by kind (end_of finished) b) step finished after s refl
  went_over seat kind (Err x) finished after is step s =
      absurd (goes core places after told finished i.covered s kind is (Err x) next step x refl)

  -- ---- as it was made

  module _ (before after : SeatSeen) (slip : Slip) where
    on_history : (e : Event) (r : Reply) (desk : List Place) → Made e r old new before after slip
        → Tied (old.log.history ++ entry_of before.number e r ∷ []) desk → Tied new.log.history desk
    on_history e r desk m t = subst (λ l. Tied l desk) (sym m.entered.history) t

    -- an event that neither begins nor ends a request
    pub tied_quiet : (e : Event) (r : Reply) → NoEnd e → is_job r ≡ false → Made e r old new before after slip
        → Tied new.log.history places
    tied_quiet e r plain quiet m = on_history e r places m (begun before.number e r plain m.step None quiet)

    -- one that may begin one
    pub tied_started : (e : Event) (r : Reply) (o : Option Task) (desk : List Place) → NoEnd e → Begins core next r o
        → desk ≡ given_out places o → Made e r old new before after slip → Tied new.log.history desk
    tied_started e r o desk plain b is m =
        on_history e r desk m (subst (Tied (old.log.history ++ entry_of before.number e r ∷ [])) (sym is)
        (begun before.number e r plain m.step o b))

    -- an end
    pub tied_ended : (kind : Kind) (a : Result Ended RefusedEnd) (finished : FinishedTask) (desk : List Place)
        → finished.kind ≡ kind → Settles told places finished desk
        → Made (event.End kind (end_of finished)) (ended_as kind a) old new before after slip
        → Tied new.log.history desk
    tied_ended kind a finished desk is s m =
        on_history (event.End kind (end_of finished)) (ended_as kind a) desk m
        (went_over before.number kind a finished desk is m.step s)

-- ---- the same, with what was made first

module _ {e : Event} {r : Reply} {old new : HeldSeen} {before after : SeatSeen} {slip : Slip} {told : Bool} {files : Catalog} {sizes : Sizes}
    {name : ℕ} {blocks : List (List ℕ)} {places : List Place} (m : Made e r old new before after slip)
    (held : IsHeld files old.log old.core.state)
    (i : IsTied told files sizes name blocks old.log.history old.core.state places) where
  pub on_quiet : NoEnd e → is_job r ≡ false
      → IsTied told files sizes name blocks new.log.history new.core.state places
  on_quiet plain quiet = tied_quiet told files sizes name blocks old new places held i before after slip e r plain quiet m

  pub on_started : NoEnd e → (o : Option Task) (desk : List Place) → Begins old.core.state new.core.state r o
      → desk ≡ given_out places o → IsTied told files sizes name blocks new.log.history new.core.state desk
  on_started plain o desk b is =
      tied_started told files sizes name blocks old new places held i before after slip e r o desk plain b is m

pub on_ended : {old new : HeldSeen} {before after : SeatSeen} {slip : Slip} {told : Bool} {files : Catalog} {sizes : Sizes} {name : ℕ}
    {blocks : List (List ℕ)} {places : List Place} (kind : Kind) (a : Result Ended RefusedEnd)
    (finished stub : FinishedTask) (desk : List Place)
    → Made (event.End kind (end_of finished)) (ended_as kind a) old new before after slip
    → IsHeld files old.log old.core.state → IsTied told files sizes name blocks old.log.history old.core.state places
    → finished.kind ≡ kind → stub ≡ finished → Settles told places stub desk
    → IsTied told files sizes name blocks new.log.history new.core.state desk
on_ended {old} {new} {before} {after} {slip} {told} {files} {sizes} {name} {blocks} {places} kind a finished stub desk m held i of_kind is s =
    tied_ended told files sizes name blocks old new places held i before after slip kind a finished desk of_kind
    (subst (λ f. Settles told places f desk) is s) m

-- ---- a cache that begins

pub opens_tied : (told : Bool) (files : Catalog) (sizes : Sizes) (name : ℕ) (blocks : List (List ℕ)) (history : List Entry) (state : State)
    (places : List Place) → history ≡ [] → state ≡ adopted sizes name files → places ≡ map Home (map uncalled blocks)
    → length blocks ≡ sizes.blocks → (told ≡ true → MayBegin files sizes name blocks)
    → IsTied told files sizes name blocks history state places
opens_tied told files sizes name blocks history state places empty first home count tells =
    subst (λ (x : List Entry × State × List Place). IsTied told files sizes name blocks x.0 x.1 x.2)
    (λ j. (sym empty j, sym first j, sym home j)) (kept_first told files sizes name blocks count tells)
